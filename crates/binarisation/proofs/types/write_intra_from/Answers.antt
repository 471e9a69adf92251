use Rattle.std.proofs.Common.{◌+◌, ◌-◌, ℕ, refl, arith}
use Rattle.binarisation.specs.BinString.{Value}
use Rattle.binarisation.specs.MacroblockType.{intra_from}
use Rattle.binarisation.proofs.Strings.{writes_then, on_ok}
use Rattle.binarisation.proofs.types.write_intra_from.Goals as goal

pub returns-clause-writes : goal.returns-clause-writes
unfolding intra_from
returns-clause-writes g c = on_ok c.write_intra.result
    (λ written. writes_then g.S.BinSink.step _ (λ (number : ℕ). Value (c.args.base + number)) (c.args.value - c.args.base) c.args.value _ _ _ (rw c.in_inter.ensures at written) (omega arith, refl)) c.write_intra.ensures.writes
