use Rattle.std.proofs.Common.{◌∙◌, ◌∷◌, ◌++◌, List, ℕ, arith, ap, sym, subst}
use Rattle.bit_texts.proofs.Bytes.{bytes_of-bits_of}
use Rattle.exp_golomb.specs.EmulationPrevention.{HasEscape, escaped}
use Rattle.slice_rewrite.specs.Written.{with_start_code}
use Rattle.stream_recoder.proofs.unit_form.payload_unit.Goals as goal

pub write_unit-requires : goal.write_unit-requires
write_unit-requires c =
    let P : List ℕ → Type 0 = HasEscape in
    subst P (bytes_of-bits_of c.args.payload.now (λ i. omega (arith, c.type_inv.payload i))) c.requires

pub returns : goal.returns
returns c =
    c.in_ok-write_unit.ensures.ok ∙ ap (λ v. v ++ with_start_code (c.args.header ∷ escaped c.args.payload.now)) c.new-form.ensures.items
    ∙ ap (λ v. with_start_code (c.args.header ∷ escaped v)) (sym (bytes_of-bits_of c.args.payload.now (λ i. omega (arith, c.type_inv.payload i))))
