use Rattle.std.proofs.Common.{◌≡◌, ◌∙◌, pos, get_or, ap, w32, to_z, of_z, rules, arith}
use Rattle.std.proofs.lemmas.Int.{to_z-of_z}
use Rattle.std.specs.Int.{from_bool}
use Rattle.std.specs.Int.Signed.{lt_z}
use Rattle.bit_texts.proofs.Numbers.{binary-none}
use Rattle.cavlc_residual.proofs.WriteLemmas.{minus_test, signs-turn}
use Rattle.cavlc_residual.proofs.writing.signs_of.Goals as goal

pub loop-i-init : goal.loop-i-init
loop-i-init c = record { bits = binary-none 0 0 (omega arith); fits = omega arith }

pub loop-i-preserved : goal.loop-i-preserved
loop-i-preserved c =
    let known = c.loop-i.invariant in
    let l = get_or c.args.ones.now c.loop-i.i (pos 0) in
    let same : to_z w32 (of_z w32 l) ≡ l = to_z-of_z w32 l (search rules) in
    let sign = c.from.ensures ∙ (ap (λ m. from_bool (lt_z m (pos 0))) same ∙ ap from_bool (minus_test l)) in
    let turn = signs-turn c.args.ones.now c.loop-i.i c.loop-i.signs _ c.loop-i-test.true sign known.bits known.fits in
    record { bits = turn.0; fits = turn.1 }
