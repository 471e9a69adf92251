use Rattle.std.proofs.Common.{◌+◌, ◌*◌, ℕ}
use Rattle.binarisation.specs.MacroblockType.{two_bits, intra_parts}
use Rattle.binarisation.proofs.Strings.{writes_then, on_ok}
use Rattle.binarisation.proofs.types.write_intra_parts.Goals as goal

pub returns-clause-writes : goal.returns-clause-writes
unfolding intra_parts
returns-clause-writes g c = on_ok c.write_two_bits.result
    (λ written. writes_then g.S.BinSink.step _ (λ (chroma : ℕ). two_bits c.args.c.high c.args.c.low (c.args.base + 4 * chroma)) _ _ _ _ _ c.in_ok-write_up_to_two.ensures.writes written) c.write_two_bits.ensures.writes
