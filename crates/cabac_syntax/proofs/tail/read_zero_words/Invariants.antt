-- zero words stand here where they stood at the start, and the bits left grow fewer
use Rattle.std.proofs.Common.{length}
use Rattle.cabac_syntax.specs.Standing.{AreWords}
use Rattle.cabac_syntax.proofs.tail.read_zero_words.Given as goal

abbrev pub invariant-loop-first : goal.invariant-loop-first
invariant-loop-first g l =
    record {
      on : AreWords (g.B.BitSource.left l.fn.bits) → AreWords (g.B.BitSource.left l.bits);
      back : AreWords (g.B.BitSource.left l.bits) → AreWords (g.B.BitSource.left l.fn.bits);
    }

abbrev pub decreases-loop-first : goal.decreases-loop-first
decreases-loop-first g l = length (g.B.BitSource.left l.bits)
