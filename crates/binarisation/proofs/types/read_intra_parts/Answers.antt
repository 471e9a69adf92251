use Rattle.std.proofs.Common.{◌+◌, ◌*◌, ℕ}
use Rattle.binarisation.specs.MacroblockType.{two_bits, intra_parts}
use Rattle.binarisation.proofs.Strings.{reads_then, reads_none}
use Rattle.binarisation.proofs.types.read_intra_parts.Goals as goal

pub returns-in_err-chroma-clause-reads : goal.returns-in_err-chroma-clause-reads
unfolding intra_parts
returns-in_err-chroma-clause-reads g c = rw c.from_residual.ensures
    (reads_none g.S.BinSource.step _ (λ (chroma : ℕ). two_bits c.args.c.high c.args.c.low (c.args.base + 4 * chroma)) _ _ c.in_err-chroma.ensures.reads)

pub returns-clause-reads : goal.returns-clause-reads
unfolding intra_parts
returns-clause-reads g c =
    reads_then g.S.BinSource.step _ (λ (chroma : ℕ). two_bits c.args.c.high c.args.c.low (c.args.base + 4 * chroma)) c.in_ok-chroma.chroma _ _ _ _ c.in_ok-chroma.ensures.reads c.read_two_bits.ensures.reads
