use Rattle.std.proofs.Common.{take}
use Rattle.std.specs.List.{flat_map}
use Rattle.bit_texts.specs.Texts.{Appended}
use Rattle.exp_golomb.specs.Code.{se}
use Rattle.param_sets.proofs.write_values.write_values.Given as goal

abbrev pub invariant-loop-value : goal.invariant-loop-value
invariant-loop-value g l = let put = g.B.BitSink.bits in Appended (put l.fn.out) (put l.out) (flat_map se (take l.value-index l.values))
