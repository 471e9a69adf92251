use Rattle.std.proofs.Common.{◌∙◌, ◌++◌, ◌∷◌, List, ℕ, arith, ap, length, subst}
use Rattle.bit_texts.proofs.Bytes.{bytes_of-bits_of}
use Rattle.exp_golomb.specs.EmulationPrevention.{HasEscape, escaped}
use Rattle.slice_rewrite.proofs.choice.unit_length.Goals as goal

pub write_unit-requires : goal.write_unit-requires
write_unit-requires c =
    let P : List ℕ → Type 0 = HasEscape in
    subst P (bytes_of-bits_of c.args.payload.now (λ i. omega (arith, c.type_inv.payload i))) c.requires

pub returns : goal.returns
returns c =
    let same = bytes_of-bits_of c.args.payload.now (λ i. omega (arith, c.type_inv.payload i)) in
    let unit = c.in_ok-write_unit.ensures.ok ∙ ap (λ v. v ++ 0 ∷ 0 ∷ 0 ∷ 1 ∷ c.args.header ∷ escaped c.args.payload.now) c.new-unit.ensures.items in
    omega (arith, c.len.ensures, ap length unit, ap (λ p. length (escaped p)) same)
