use Rattle.std.proofs.Common.{◌≡◌, ◌-◌, ◌++◌}
use Rattle.exp_golomb.specs.Syntax.{outcome_of, series}
use Rattle.exp_golomb.proofs.Series.{prepended}
use Rattle.ref_pic_lists.specs.PredWeightTable.{entry}
use Rattle.ref_pic_lists.proofs.read_weights_text.read_entries.Given as goal

abbrev pub invariant-loop-place : goal.invariant-loop-place
invariant-loop-place g l = record {
  reads : let left = g.B.BitSource.left in
      prepended l.read.items (outcome_of {E = ⊥} (series (l.count - l._place) l._place (λ place. entry)) (left l.bits)) ≡ outcome_of (series l.count 0 (λ place. entry)) (left l.fn.bits);
  kept : g.B.BitSource.taken l.bits ++ g.B.BitSource.left l.bits ≡ g.B.BitSource.taken l.fn.bits ++ g.B.BitSource.left l.fn.bits;
}
