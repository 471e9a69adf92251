use Rattle.std.proofs.Common.{drop}
use Rattle.std.specs.List.{flat_map}
use Rattle.bit_texts.specs.Texts.{Wrote}
use Rattle.exp_golomb.specs.Code.{se}
use Rattle.header_parts.proofs.write_parts.write_deltas.Given as goal

abbrev pub invariant-loop-delta : goal.invariant-loop-delta
invariant-loop-delta g l = let put = g.B.BitSink.bits in Wrote (put l.fn.out) (put l.out) (flat_map se l.deltas) (flat_map se (drop l.delta-index l.deltas))
