-- the macroblocks so far were put
use Rattle.std.proofs.Common.{List, Bool, take}
use Rattle.cabac_syntax.specs.Written.{WritesFor}
use Rattle.cabac_tests.proofs.slices.written.Given as goal

abbrev pub invariant-loop-mb : goal.invariant-loop-mb
invariant-loop-mb l = (before : List Bool) × WritesFor (λ (bits : List Bool). bits) l.init l.writer.shape l.writer.rows l.writer.phase l.fn.shape before (take l.mb-index l.mbs)
