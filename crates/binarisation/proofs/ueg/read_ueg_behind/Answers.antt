use Rattle.std.proofs.Common.{◌≡◌, ◌+◌, ℕ, ltb, true, false, refl}
use Rattle.std.proofs.lemmas.Bool.{lt-ltb, le-ltb}
use Rattle.binarisation.specs.BinString.{Value}
use Rattle.binarisation.specs.Codes.{ueg_behind}
use Rattle.binarisation.proofs.Strings.{reads_then, reads_none}
use Rattle.binarisation.proofs.ueg.read_ueg_behind.Goals as goal

pub returns-then-count-prefix-clause-reads : goal.returns-then-count-prefix-clause-reads
unfolding ueg_behind
returns-then-count-prefix-clause-reads g c =
    let few : ltb c.args.count c.args.prefix ≡ true = lt-ltb c.args.count c.args.prefix c.if-count-prefix.true in
    rw few (rw c.from.ensures refl, refl)

pub returns-in_err-more-clause-reads : goal.returns-in_err-more-clause-reads
unfolding ueg_behind
returns-in_err-more-clause-reads g c =
    let nine : ltb c.args.count c.args.prefix ≡ false = le-ltb c.args.count c.args.prefix c.if-count-prefix.false in
    rw (nine, c.from_residual.ensures) (reads_none g.S.BinSource.step _ (λ (more : ℕ). Value (c.args.prefix + more)) _ _ c.in_err-more.ensures.reads)

pub returns-clause-reads : goal.returns-clause-reads
unfolding ueg_behind
returns-clause-reads g c =
    let nine : ltb c.args.count c.args.prefix ≡ false = le-ltb c.args.count c.args.prefix c.if-count-prefix.false in
    rw (nine, c.from-2.ensures) (reads_then g.S.BinSource.step _ (λ (more : ℕ). Value (c.args.prefix + more)) c.in_ok-more.more _ _ _ _ c.in_ok-more.ensures.reads (refl, refl))
