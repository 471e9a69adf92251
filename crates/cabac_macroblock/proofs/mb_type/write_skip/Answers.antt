use Rattle.std.proofs.Common.{refl, sym}
use Rattle.h264_types.specs.declared.slice_shape.SliceKind.TheVariants as slices
use Rattle.binarisation.proofs.Strings.{on_ok}
use Rattle.cabac_macroblock.proofs.TypeSteps.{flag_in, unskipped_in_i}
use Rattle.cabac_macroblock.proofs.mb_type.write_skip.Goals as goal

pub returns-in-I-clause-writes : goal.returns-in-I-clause-writes
returns-in-I-clause-writes g c mbs stands =
    rw (flag_in c.args.shape.now mbs c.args.at c.args.mb.now slices.I _ c.in-I.is c.requires.picture refl)
    (sym (unskipped_in_i c.args.mb.now.kind c.args.shape.now.kind c.in-I.is c.requires.kind), refl)

pub returns-in-P-clause-writes : goal.returns-in-P-clause-writes
returns-in-P-clause-writes g c mbs stands = on_ok c.write_skip_p.result
    (λ written. rw (flag_in c.args.shape.now mbs c.args.at c.args.mb.now slices.P c.ctx_inc_skip.result c.in-P.is c.requires.picture (c.ctx_inc_skip.ensures.value mbs stands)) (rw c.is_skip-skipped.ensures at written)) c.write_skip_p.ensures.writes

pub returns-in-B-clause-writes : goal.returns-in-B-clause-writes
returns-in-B-clause-writes g c mbs stands = on_ok c.write_skip_b.result
    (λ written. rw (flag_in c.args.shape.now mbs c.args.at c.args.mb.now slices.B c.ctx_inc_skip-in-B.result c.in-B.is c.requires.picture (c.ctx_inc_skip-in-B.ensures.value mbs stands)) (rw c.is_skip-skipped.ensures at written)) c.write_skip_b.ensures.writes
