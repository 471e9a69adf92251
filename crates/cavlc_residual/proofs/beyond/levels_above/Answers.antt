use Rattle.std.proofs.Common.{◌≡◌, ℕ, false, sym, subst}
use Rattle.cavlc_residual.specs.Block.{levels_above}
use Rattle.cavlc_residual.proofs.BlockLemmas.{levels_never_above}
use Rattle.cavlc_residual.proofs.beyond.levels_above.Goals as goal

pub returns-then-bound-eq20 : goal.returns-then-bound-eq20
returns-then-bound-eq20 c =
    let P : ℕ → Type 0 = λ n. false ≡ levels_above n c.args.levels.now in
    subst P (sym c.if-bound-eq20.true) (sym (levels_never_above c.args.levels.now c.requires.small))
