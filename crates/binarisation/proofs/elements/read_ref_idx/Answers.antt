use Rattle.std.proofs.Common.{ℕ}
use Rattle.binarisation.specs.BinString.{only}
use Rattle.binarisation.specs.Elements.{index_of}
use Rattle.binarisation.proofs.Strings.{reads_then, reads_none, reads_only}
use Rattle.binarisation.proofs.elements.read_ref_idx.Goals as goal

pub returns-in_err-count-clause-reads : goal.returns-in_err-count-clause-reads
returns-in_err-count-clause-reads g c = rw c.from_residual.ensures
    (reads_none g.S.BinSource.step _ (λ (count : ℕ). only (index_of count)) _ _ (rw c.from.ensures at c.in_err-count.ensures.reads))

pub returns-clause-reads : goal.returns-clause-reads
returns-clause-reads g c =
    reads_then g.S.BinSource.step _ (λ (count : ℕ). only (index_of count)) c.in_ok-count.count _ _ _ _ (rw c.from.ensures at c.in_ok-count.ensures.reads)
    (rw c.index_of.ensures.value (reads_only g.S.BinSource.step (index_of c.in_ok-count.count) _))
