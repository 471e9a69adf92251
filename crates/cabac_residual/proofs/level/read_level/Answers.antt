use Rattle.std.proofs.Common.{◌+◌, ℕ}
use Rattle.binarisation.specs.Codes.{signed}
use Rattle.binarisation.proofs.Strings.{reads_then, reads_none}
use Rattle.cabac_residual.specs.Block.{level}
use Rattle.cabac_residual.proofs.level.read_level.Goals as goal

pub returns-in_err-less-clause-reads : goal.returns-in_err-less-clause-reads
unfolding level
returns-in_err-less-clause-reads g c = rw c.from_residual.ensures
    (reads_none g.S.BinSource.step _ (λ (less : ℕ). signed 65535 (less + 1)) _ _ (rw c.level_contexts.ensures.contexts at c.in_err-less.ensures.reads))

pub returns-clause-reads : goal.returns-clause-reads
unfolding level
returns-clause-reads g c =
    reads_then g.S.BinSource.step _ (λ (less : ℕ). signed 65535 (less + 1)) c.in_ok-less.less _ _ _ _ (rw c.level_contexts.ensures.contexts at c.in_ok-less.ensures.reads) c.read_signed.ensures.reads
