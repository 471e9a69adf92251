-- The form is that of the number chosen, by the lengths of the units of all three forms.
use Rattle.std.proofs.Common.{◌≡◌, ◌∙◌, ◌∷◌, [], ℕ, List, arith, ap, length, refl, subst, sym}
use Rattle.bit_texts.specs.Bits.{bits_of, bytes_of}
use Rattle.exp_golomb.specs.EmulationPrevention.{HasEscape, escaped}
use Rattle.slice_rewrite.specs.declared.pick.Tries.TheVariants.{One}
use Rattle.slice_rewrite.proofs.Picked.{form_escape, lengths_of}
use Rattle.slice_rewrite.proofs.Slices.{slice-once}
use Rattle.slice_rewrite.proofs.opening.OpenSlice.recode_by.Goals as goal

abbrev HasPayload : List ℕ → Type 0
HasPayload p = HasEscape (bytes_of (bits_of p))

pub unit_length-requires : goal.unit_length-requires
unit_length-requires g c =
    let o = c.requires.opened in
    let f = c.in_ok-first.first in
    subst HasPayload (sym c.as_slice.ensures.value) (form_escape c.args.to c.args.init.now (One 0) c.args.number o.0 o.1 o.2 f.payload.items f.macroblocks (c.in_ok-first.ensures.ok o.0 o.1 o.2 o.3))

pub unit_length-requires-2 : goal.unit_length-requires-2
unit_length-requires-2 g c =
    let o = c.requires.opened in
    let f = c.in_ok-second.second in
    subst HasPayload (sym c.as_slice-2.ensures.value) (form_escape c.args.to c.args.init.now (One 1) c.args.number o.0 o.1 o.2 f.payload.items f.macroblocks (c.in_ok-second.ensures.ok o.0 o.1 o.2 o.3))

pub unit_length-requires-3 : goal.unit_length-requires-3
unit_length-requires-3 g c =
    let o = c.requires.opened in
    let f = c.in_ok-third.third in
    subst HasPayload (sym c.as_slice-3.ensures.value) (form_escape c.args.to c.args.init.now (One 2) c.args.number o.0 o.1 o.2 f.payload.items f.macroblocks (c.in_ok-third.ensures.ok o.0 o.1 o.2 o.3))

pub returns-in-0-clause-ok : goal.returns-in-0-clause-ok
returns-in-0-clause-ok g c sets header bits r =
    let f0 = c.in_ok-first.ensures.ok sets header bits r in
    let f1 = c.in_ok-second.ensures.ok sets header bits r in
    let f2 = c.in_ok-third.ensures.ok sets header bits r in
    let same = slice-once c.args.to c.args.to c.args.init.now sets header bits f0.slice f0.slice f0.read f0.read in
    let n : List ℕ → ℕ = λ p. length (header ∷ escaped (bytes_of (bits_of p))) in
    let lengths : List ℕ = c.in_ok-unit_length.field-0 ∷ c.in_ok-unit_length-2.field-0 ∷ c.in_ok-unit_length-3.field-0 ∷ [] in
    let S : ℕ → Type 0 = λ k. g.P.InitPick.step c.args.pick.now lengths k c.choose.new.self in
    let chosen : c.choose.result ≡ 0 = c.in-0.is in
    record {
      idc = 0;
      form = f0;
      lengths = lengths;
      are = lengths_of c.args.to c.args.init.now c.args.number sets header bits c.in_ok-first.first.payload.items c.in_ok-second.second.payload.items c.in_ok-third.third.payload.items
          c.in_ok-first.first.macroblocks c.in_ok-second.second.macroblocks c.in_ok-third.third.macroblocks c.in_ok-unit_length.field-0 c.in_ok-unit_length-2.field-0 c.in_ok-unit_length-3.field-0 lengths f0 f1 f2
          (c.in_ok-unit_length.ensures ∙ ap n c.as_slice.ensures.value) (c.in_ok-unit_length-2.ensures ∙ ap n c.as_slice-2.ensures.value) (c.in_ok-unit_length-3.ensures ∙ ap n c.as_slice-3.ensures.value) refl f0.slice same;
      step_is = subst S chosen c.choose.ensures.step;
    }

pub returns-in-1-clause-ok : goal.returns-in-1-clause-ok
returns-in-1-clause-ok g c sets header bits r =
    let f0 = c.in_ok-first.ensures.ok sets header bits r in
    let f1 = c.in_ok-second.ensures.ok sets header bits r in
    let f2 = c.in_ok-third.ensures.ok sets header bits r in
    let same = slice-once c.args.to c.args.to c.args.init.now sets header bits f0.slice f1.slice f0.read f1.read in
    let n : List ℕ → ℕ = λ p. length (header ∷ escaped (bytes_of (bits_of p))) in
    let lengths : List ℕ = c.in_ok-unit_length.field-0 ∷ c.in_ok-unit_length-2.field-0 ∷ c.in_ok-unit_length-3.field-0 ∷ [] in
    let S : ℕ → Type 0 = λ k. g.P.InitPick.step c.args.pick.now lengths k c.choose.new.self in
    let chosen : c.choose.result ≡ 1 = c.in-1.is in
    record {
      idc = 1;
      form = f1;
      lengths = lengths;
      are = lengths_of c.args.to c.args.init.now c.args.number sets header bits c.in_ok-first.first.payload.items c.in_ok-second.second.payload.items c.in_ok-third.third.payload.items
          c.in_ok-first.first.macroblocks c.in_ok-second.second.macroblocks c.in_ok-third.third.macroblocks c.in_ok-unit_length.field-0 c.in_ok-unit_length-2.field-0 c.in_ok-unit_length-3.field-0 lengths f0 f1 f2
          (c.in_ok-unit_length.ensures ∙ ap n c.as_slice.ensures.value) (c.in_ok-unit_length-2.ensures ∙ ap n c.as_slice-2.ensures.value) (c.in_ok-unit_length-3.ensures ∙ ap n c.as_slice-3.ensures.value) refl f1.slice same;
      step_is = subst S chosen c.choose.ensures.step;
    }

pub returns-in_default-clause-ok : goal.returns-in_default-clause-ok
returns-in_default-clause-ok g c sets header bits r =
    let f0 = c.in_ok-first.ensures.ok sets header bits r in
    let f1 = c.in_ok-second.ensures.ok sets header bits r in
    let f2 = c.in_ok-third.ensures.ok sets header bits r in
    let same = slice-once c.args.to c.args.to c.args.init.now sets header bits f0.slice f2.slice f0.read f2.read in
    let n : List ℕ → ℕ = λ p. length (header ∷ escaped (bytes_of (bits_of p))) in
    let lengths : List ℕ = c.in_ok-unit_length.field-0 ∷ c.in_ok-unit_length-2.field-0 ∷ c.in_ok-unit_length-3.field-0 ∷ [] in
    let S : ℕ → Type 0 = λ k. g.P.InitPick.step c.args.pick.now lengths k c.choose.new.self in
    let chosen : c.choose.result ≡ 2 = omega (arith, c.choose.ensures.below, c.in_default) in
    record {
      idc = 2;
      form = f2;
      lengths = lengths;
      are = lengths_of c.args.to c.args.init.now c.args.number sets header bits c.in_ok-first.first.payload.items c.in_ok-second.second.payload.items c.in_ok-third.third.payload.items
          c.in_ok-first.first.macroblocks c.in_ok-second.second.macroblocks c.in_ok-third.third.macroblocks c.in_ok-unit_length.field-0 c.in_ok-unit_length-2.field-0 c.in_ok-unit_length-3.field-0 lengths f0 f1 f2
          (c.in_ok-unit_length.ensures ∙ ap n c.as_slice.ensures.value) (c.in_ok-unit_length-2.ensures ∙ ap n c.as_slice-2.ensures.value) (c.in_ok-unit_length-3.ensures ∙ ap n c.as_slice-3.ensures.value) refl f2.slice same;
      step_is = subst S chosen c.choose.ensures.step;
    }
