use Rattle.std.proofs.Common.{ℕ, Bool, not, rules, w32}
use Rattle.std.specs.Prelude.{◌&&◌}
use Rattle.std.proofs.lemmas.Int.{to_z-of_z}
use Rattle.h264_types.specs.declared.layer.Layer.{Layer}
use Rattle.param_sets.specs.PpsCodes.{mode_flag_of}
use Rattle.slice_header.specs.HeaderCodes.{header_text}
use Rattle.header_parts.specs.SliceTypes.{is_i}
use Rattle.ref_pic_lists.proofs.Written.{stopped, within, behind, failed, ends, after, last}
use Rattle.slice_header.proofs.Written.{init_appended, init_stopped}
use Rattle.slice_header.proofs.write_header_text.write_header_under.Goals as goal

abbrev has : Layer → ℕ → Bool
has layer slice_type = mode_flag_of layer && not (is_i slice_type)

pub returns-in_err-write_start : goal.returns-in_err-write_start
unfolding header_text
returns-in_err-write_start g c = failed c.from_residual.result c.from_residual.ensures.0 (within _ (stopped c.in_err-write_start.ensures))

pub returns-in_err-write_picture_number : goal.returns-in_err-write_picture_number
unfolding header_text
returns-in_err-write_picture_number g c = failed c.from_residual-in_err-write_picture_number.result c.from_residual-in_err-write_picture_number.ensures.0 (behind c.in_ok-write_start.ensures (within _ (stopped c.in_err-write_picture_number.ensures)))

pub returns-in_err-write_picture_order : goal.returns-in_err-write_picture_order
unfolding header_text
returns-in_err-write_picture_order g c = failed c.from_residual-in_err-write_picture_order.result c.from_residual-in_err-write_picture_order.ensures.0 (behind c.in_ok-write_start.ensures (behind c.in_ok-write_picture_number.ensures (within _ (stopped c.in_err-write_picture_order.ensures))))

pub returns-in_err-write_active_references : goal.returns-in_err-write_active_references
unfolding header_text
returns-in_err-write_active_references g c = failed c.from_residual-in_err-write_active_references.result c.from_residual-in_err-write_active_references.ensures.0 (behind c.in_ok-write_start.ensures (behind c.in_ok-write_picture_number.ensures (behind c.in_ok-write_picture_order.ensures (within _ (stopped c.in_err-write_active_references.ensures)))))

pub returns-in_err-write_reference_lists : goal.returns-in_err-write_reference_lists
unfolding header_text
returns-in_err-write_reference_lists g c = failed c.from_residual-in_err-write_reference_lists.result c.from_residual-in_err-write_reference_lists.ensures.0 (behind c.in_ok-write_start.ensures (behind c.in_ok-write_picture_number.ensures (behind c.in_ok-write_picture_order.ensures (behind c.in_ok-write_active_references.ensures (within _ (stopped c.in_err-write_reference_lists.ensures))))))

pub returns-in_err-write_marking : goal.returns-in_err-write_marking
unfolding header_text
returns-in_err-write_marking g c = failed c.from_residual-in_err-write_marking.result c.from_residual-in_err-write_marking.ensures.0 (behind c.in_ok-write_start.ensures (behind c.in_ok-write_picture_number.ensures (behind c.in_ok-write_picture_order.ensures (behind c.in_ok-write_active_references.ensures (behind c.in_ok-write_reference_lists.ensures (within _ (stopped c.in_err-write_marking.ensures)))))))

pub returns-in_err-write_ue_when : goal.returns-in_err-write_ue_when
unfolding header_text
returns-in_err-write_ue_when g c = failed c.from_residual-in_err-write_ue_when.result c.from_residual-in_err-write_ue_when.ensures.0 (behind c.in_ok-write_start.ensures (behind c.in_ok-write_picture_number.ensures (behind c.in_ok-write_picture_order.ensures (behind c.in_ok-write_active_references.ensures (behind c.in_ok-write_reference_lists.ensures (behind c.in_ok-write_marking.ensures (within _ (init_stopped (has c.args.layer c.args.h.now.slice_type) c.needs_init.result c.args.idc c.from.result c.needs_init.ensures c.from.ensures (stopped c.in_err-write_ue_when.ensures)))))))))

pub returns-in_err-write_se : goal.returns-in_err-write_se
unfolding header_text
returns-in_err-write_se g c = failed c.from_residual-in_err-write_se.result c.from_residual-in_err-write_se.ensures.0 (behind c.in_ok-write_start.ensures (behind c.in_ok-write_picture_number.ensures (behind c.in_ok-write_picture_order.ensures (behind c.in_ok-write_active_references.ensures (behind c.in_ok-write_reference_lists.ensures (behind c.in_ok-write_marking.ensures (behind (init_appended (has c.args.layer c.args.h.now.slice_type) c.needs_init.result c.args.idc c.from.result c.needs_init.ensures c.from.ensures c.in_ok-write_ue_when.ensures) (within _ (stopped (rw (to_z-of_z w32 c.args.h.now.slice_qp_delta (search rules)) at c.in_err-write_se.ensures))))))))))

pub returns : goal.returns
unfolding header_text
returns g c = (after c.in_ok-write_start.ensures (after c.in_ok-write_picture_number.ensures (after c.in_ok-write_picture_order.ensures (after c.in_ok-write_active_references.ensures (after c.in_ok-write_reference_lists.ensures (after c.in_ok-write_marking.ensures (after (init_appended (has c.args.layer c.args.h.now.slice_type) c.needs_init.result c.args.idc c.from.result c.needs_init.ensures c.from.ensures c.in_ok-write_ue_when.ensures) (after (rw (to_z-of_z w32 c.args.h.now.slice_qp_delta (search rules)) at c.in_ok-write_se.ensures) (last (ends c.write_deblocking.result c.write_deblocking.ensures)))))))))).is
