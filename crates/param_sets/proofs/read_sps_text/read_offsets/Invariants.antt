use Rattle.std.proofs.Common.{◌≡◌, ◌-◌}
use Rattle.exp_golomb.specs.Syntax.{outcome_of, series}
use Rattle.exp_golomb.proofs.Series.{prepended}
use Rattle.param_sets.specs.SequenceParameterSet.{offset_for_ref_frame, offsets}
use Rattle.param_sets.proofs.read_sps_text.read_offsets.Given as goal

abbrev pub invariant-loop-place : goal.invariant-loop-place
invariant-loop-place g l =
    let left = g.B.BitSource.left in
    prepended l.offsets.items (outcome_of (series (l.count - l._place) l._place (λ place. offset_for_ref_frame)) (left l.bits)) ≡ outcome_of (offsets l.count) (left l.fn.bits)
