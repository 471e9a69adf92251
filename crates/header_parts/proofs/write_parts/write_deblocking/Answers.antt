use Rattle.std.proofs.Common.{rules, w32}
use Rattle.std.proofs.lemmas.Int.{to_z-of_z}
use Rattle.ref_pic_lists.proofs.Written.{stopped, within, behind, failed, ends, after, last}
use Rattle.header_parts.proofs.write_parts.write_deblocking.Goals as goal

pub returns-in_err-write_ue_when : goal.returns-in_err-write_ue_when
returns-in_err-write_ue_when g c = failed c.from_residual.result c.from_residual.ensures.0 (within _ (stopped c.in_err-write_ue_when.ensures))

pub returns-in_err-write_se_when : goal.returns-in_err-write_se_when
returns-in_err-write_se_when g c = failed c.from_residual-in_err-write_se_when.result c.from_residual-in_err-write_se_when.ensures.0 (behind c.in_ok-write_ue_when.ensures (within _ (stopped (rw (c.has_filter_offsets-filters.ensures, to_z-of_z w32 c.args.h.now.slice_alpha_c0_offset_div2 (search rules)) at c.in_err-write_se_when.ensures))))

pub returns : goal.returns
returns g c = (after c.in_ok-write_ue_when.ensures (after (rw (c.has_filter_offsets-filters.ensures, to_z-of_z w32 c.args.h.now.slice_alpha_c0_offset_div2 (search rules)) at c.in_ok-write_se_when.ensures) (last (ends c.write_se_when-2.result (rw (c.has_filter_offsets-filters.ensures, to_z-of_z w32 c.args.h.now.slice_beta_offset_div2 (search rules)) at c.write_se_when-2.ensures))))).is
