use Rattle.binarisation.specs.Codes.{signed}
use Rattle.binarisation.proofs.Strings.{reads_then, reads_none}
use Rattle.binarisation.proofs.vectors.read_mvd.Goals as goal

pub returns-in_err-magnitude-clause-reads : goal.returns-in_err-magnitude-clause-reads
returns-in_err-magnitude-clause-reads g c = rw c.from_residual.ensures (reads_none g.S.BinSource.step _ (signed 32767) _ _ (rw c.from.ensures at c.in_err-magnitude.ensures.reads))

pub returns-clause-reads : goal.returns-clause-reads
returns-clause-reads g c = reads_then g.S.BinSource.step _ (signed 32767) c.in_ok-magnitude.magnitude _ _ _ _ (rw c.from.ensures at c.in_ok-magnitude.ensures.reads) c.read_signed.ensures.reads
