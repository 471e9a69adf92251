use Rattle.std.proofs.Common.{◌≡◌, ◌-◌, ◌++◌}
use Rattle.exp_golomb.specs.Syntax.{outcome_of, series}
use Rattle.exp_golomb.proofs.Series.{prepended}
use Rattle.header_parts.specs.Picture.{delta_pic_order_cnt}
use Rattle.header_parts.proofs.read_parts.read_deltas.Given as goal

abbrev pub invariant-loop-place : goal.invariant-loop-place
invariant-loop-place g l = record {
  reads : let left = g.B.BitSource.left in
      prepended l.deltas.items (outcome_of (series (l.count - l._place) l._place (λ place. delta_pic_order_cnt)) (left l.bits)) ≡ outcome_of (series l.count 0 (λ place. delta_pic_order_cnt)) (left l.fn.bits);
  kept : g.B.BitSource.taken l.bits ++ g.B.BitSource.left l.bits ≡ g.B.BitSource.taken l.fn.bits ++ g.B.BitSource.left l.fn.bits;
}
