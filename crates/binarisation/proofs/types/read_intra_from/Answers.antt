use Rattle.std.proofs.Common.{◌+◌, ℕ, refl}
use Rattle.binarisation.specs.BinString.{Value}
use Rattle.binarisation.specs.MacroblockType.{intra_from}
use Rattle.binarisation.proofs.Strings.{reads_then, reads_none}
use Rattle.binarisation.proofs.types.read_intra_from.Goals as goal

pub returns-in_err-number-clause-reads : goal.returns-in_err-number-clause-reads
unfolding intra_from
returns-in_err-number-clause-reads g c = rw c.from_residual.ensures
    (reads_none g.S.BinSource.step _ (λ (number : ℕ). Value (c.args.base + number)) _ _ (rw c.in_inter.ensures at c.in_err-number.ensures.reads))

pub returns-clause-reads : goal.returns-clause-reads
unfolding intra_from
returns-clause-reads g c =
    reads_then g.S.BinSource.step _ (λ (number : ℕ). Value (c.args.base + number)) c.in_ok-number.number _ _ _ _ (rw c.in_inter.ensures at c.in_ok-number.ensures.reads) (refl, refl)
