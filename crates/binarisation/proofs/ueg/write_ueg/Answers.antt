use Rattle.std.proofs.Common.{◌≡◌, ◌+◌, ◌-◌, ℕ, ltb, true, false, refl, arith}
use Rattle.std.proofs.lemmas.Bool.{lt-ltb, le-ltb}
use Rattle.binarisation.specs.BinString.{Value}
use Rattle.binarisation.specs.Codes.{ueg, ueg_behind}
use Rattle.binarisation.proofs.Strings.{writes_then, on_ok}
use Rattle.binarisation.proofs.ueg.write_ueg.Goals as goal

pub returns-then-value-from-clause-writes : goal.returns-then-value-from-clause-writes
unfolding ueg ueg_behind
returns-then-value-from-clause-writes g c = on_ok c.write_unary.result
    (λ written.
    let few : ltb c.args.value c.args.prefix ≡ true = lt-ltb c.args.value c.args.prefix (omega (arith, c.from.ensures)) in
    writes_then g.S.BinSink.step _ (ueg_behind c.args.prefix c.args.order c.args.most) c.args.value c.args.value _ _ _ written (rw few (refl, refl))) c.write_unary.ensures.writes

pub returns-clause-writes : goal.returns-clause-writes
unfolding ueg ueg_behind
returns-clause-writes g c = on_ok c.write_suffix.result
    (λ written.
    let all : ltb c.args.prefix c.args.prefix ≡ false = le-ltb c.args.prefix c.args.prefix (omega arith) in
    let rest = rw c.from-2.ensures at written in
    writes_then g.S.BinSink.step _ (ueg_behind c.args.prefix c.args.order c.args.most) c.args.prefix c.args.value _ _ _ c.in_ok-write_unary.ensures.writes
    (rw all (writes_then g.S.BinSink.step _ (λ (more : ℕ). Value (c.args.prefix + more)) (c.args.value - c.args.prefix) c.args.value _ _ _ rest (omega (arith, c.from.ensures), refl)))) c.write_suffix.ensures.writes
