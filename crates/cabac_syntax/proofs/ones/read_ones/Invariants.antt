-- what stands behind the one bits is the same from here and from the start, and the bits to the boundary grow fewer
use Rattle.std.proofs.Common.{◌-◌, ◌%◌, List, Bool, length}
use Rattle.cabac_syntax.proofs.Filling.{Filled}
use Rattle.cabac_syntax.proofs.ones.read_ones.Given as goal

abbrev pub invariant-loop-bits : goal.invariant-loop-bits
invariant-loop-bits g l =
    record {
      on : (rest : List Bool) → Filled (g.B.BitSource.taken l.fn.bits) (g.B.BitSource.left l.fn.bits) rest → Filled (g.B.BitSource.taken l.bits) (g.B.BitSource.left l.bits) rest;
      back : (rest : List Bool) → Filled (g.B.BitSource.taken l.bits) (g.B.BitSource.left l.bits) rest → Filled (g.B.BitSource.taken l.fn.bits) (g.B.BitSource.left l.fn.bits) rest;
    }

abbrev pub decreases-loop-bits : goal.decreases-loop-bits
decreases-loop-bits g l = (8 - length (g.B.BitSource.taken l.bits) % 8) % 8
