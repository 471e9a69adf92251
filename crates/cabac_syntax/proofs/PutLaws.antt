-- The macroblocks that may be put.
use Rattle.std.proofs.Common.{◌≡◌, ℕ, zero, suc, ◌+◌, ◌*◌, ◌<◌, eqb, Bool, true, false, List, [], ◌∷◌, ◌++◌, length, refl, sym, ap, subst, ◌∙◌, append_assoc, length-append, arith}
use Rattle.std.specs.Prelude.{All, ◌&&◌, ◌||◌}
use Rattle.std.specs.Int.{bit_at}
use Rattle.std.proofs.lemmas.Bool.Decides.{nat_tests}
use Rattle.binarisation.specs.BinString.{Writes}
use Rattle.cabac_contexts.specs.Coders.{OutCoding, TakesBin}
use Rattle.cabac_contexts.specs.Terms.{IsReadAt}
use Rattle.cabac_macroblock.specs.MacroblockLayer.{macroblock, without_samples}
use Rattle.cabac_mb_residual.specs.Levels.{IsResidual}
use Rattle.h264_types.proofs.KindLaws.{unset, other_pattern}
use Rattle.h264_types.specs.Kind.{is_i_16x16}
use Rattle.h264_types.specs.LastRows.{LastRows}
use Rattle.h264_types.specs.Macroblock.{quarter_of}
use Rattle.h264_types.specs.Sent.{sends_t8}
use Rattle.h264_types.specs.SliceShape.{IsSliceShape}
use Rattle.h264_types.specs.Valid.{IsMacroblock}
use Rattle.h264_types.specs.declared.layer.Layer.TheVariants.{Cabac}
use Rattle.h264_types.specs.declared.macroblock.Mb.{Mb}
use Rattle.h264_types.specs.declared.macroblock.MbKind.{MbKind}
use Rattle.h264_types.specs.declared.macroblock.MbKind.TheVariants.{Skip, Intra, P, B}
use Rattle.h264_types.specs.declared.macroblock.Pattern.{Pattern}
use Rattle.h264_types.specs.declared.slice_shape.SliceShape.{SliceShape}
use Rattle.pattern_fix.specs.NormalPattern.{normal, all_zero}
use Rattle.pattern_fix.proofs.NormalLaws.{normal-level}
use Rattle.slice_data.specs.Writing.{BeginsSlice}
use Rattle.slice_data.specs.WrittenForm.{written_mb}
use Rattle.cabac_syntax.specs.Standing.{Stands, IsNext}
use Rattle.cabac_syntax.specs.Written.{Wrote, IsPut}
use Rattle.cabac_syntax.proofs.MacroblockLaws.{all_member}
use Rattle.cabac_syntax.proofs.StandsLaws.{HasRoom, here, next_here}
use Rattle.cabac_syntax.proofs.WroteLaws.{wrote_bins}

-- ---- what holds of the macroblock

put_in : (shape : SliceShape) (done : List Mb) (mb : Mb) → BeginsSlice shape (done ++ mb ∷ []) → IsMacroblock shape mb
put_in shape done mb (tail, slice) = all_member (IsMacroblock shape) done mb tail (subst (λ (l : List Mb). All (IsMacroblock shape) l) (append_assoc done (mb ∷ []) tail) slice.macroblocks)

pub put_valid : (kept shape : SliceShape) (rows : LastRows Mb) (done : List Mb) (Place : Type 0) (mb : Mb) → Stands kept rows shape done Place → BeginsSlice shape (done ++ mb ∷ []) → IsMacroblock kept mb
put_valid kept shape rows done Place mb s begins = subst (λ (x : SliceShape). IsMacroblock x mb) (sym s.of) (put_in shape done mb begins)

pub put_room : (kept shape : SliceShape) (rows : LastRows Mb) (done : List Mb) (Place : Type 0) (mb : Mb) → Stands kept rows shape done Place → BeginsSlice shape (done ++ mb ∷ []) → kept.first + rows.count < kept.width * kept.height
put_room kept shape rows done Place mb s (tail, slice) =
    let inside : shape.first + length done < shape.width * shape.height = omega (arith, slice.inside, length-append (done ++ mb ∷ []) tail, length-append done (mb ∷ [])) in
    subst (λ (n : ℕ). kept.first + n < kept.width * kept.height) (sym s.rows_are.counted) (subst (λ (x : SliceShape). x.first + length done < x.width * x.height) (sym s.of) inside)

frame : (kept shape : SliceShape) (rows : LastRows Mb) (done : List Mb) (Place : Type 0) (mb : Mb) → Stands kept rows shape done Place → IsMacroblock kept mb → mb.field ≡ false
frame kept shape rows done Place mb s is = unset mb.field kept.mbaff is.typed.field (ap (λ (x : SliceShape). x.mbaff) s.of ∙ s.built.built.mbaff)

-- a macroblock with the 8x8 transform isn't I_16x16
neither : (a x : Bool) → ((a && false) || (a && (x && false))) ≡ true → ⊥
neither false x h = absurd cc
neither true false h = absurd cc
neither true true h = absurd cc

not_16x16 : (shape : SliceShape) (mb : Mb) (kind : MbKind) → sends_t8 shape (record mb { kind = kind }) ≡ true → is_i_16x16 kind ≡ false
not_16x16 shape mb (Intra zero) h = refl
not_16x16 shape mb (Intra (suc n)) h =
    let other : eqb (suc n) 0 ≡ false = grind (arith, nat_tests) in
    absurd (neither shape.t8_mode _ (rw other at h))
not_16x16 shape mb Skip h = refl
not_16x16 shape mb (P n) h = refl
not_16x16 shape mb (B n) h = refl

is_one : (n : ℕ) → eqb n 1 ≡ true → n ≡ 1
is_one n h = grind (arith, nat_tests)

-- in normal form a luma bit of the 8x8 transform stands for a level
pub put_residual : (shape : SliceShape) (mb : Mb) → mb ≡ written_mb Cabac mb → IsMacroblock shape mb → IsResidual mb
put_residual shape mb form is = record {
  luma = is.coded.luma;
  chroma = is.coded.chroma;
  some = λ q h t8 has zeros.
      let normal_is : normal mb ≡ mb = ap (λ (r : Bool). record (normal mb) { ref0 = r }) (ap (λ (m : Mb). m.ref0) form) ∙ sym form in
      let other : is_i_16x16 mb.kind ≡ false = not_16x16 shape mb mb.kind (is.typed.t8 t8) in
      let bit : bit_at mb.pattern.luma q ≡ 1 = is_one _ (sym (ap (λ (p : Pattern). eqb (bit_at p.luma q) 1) (other_pattern mb mb.kind other)) ∙ has) in
      let level : all_zero (quarter_of mb q) ≡ false = normal-level mb q h normal_is t8 bit in
      let none : all_zero (quarter_of mb q) ≡ true = ap all_zero zeros in
      let clash : true ≡ false = sym none ∙ level in
      absurd cc;
}

-- there is no P_8x8ref0 in CABAC
pub put_plain : (mb : Mb) → mb ≡ written_mb Cabac mb → mb.ref0 ≡ false
put_plain mb form = ap (λ (m : Mb). m.ref0) form

pub put_shape : (kept shape : SliceShape) (rows : LastRows Mb) (done : List Mb) (Place : Type 0) → Stands kept rows shape done Place → IsSliceShape kept
put_shape kept shape rows done Place s = subst IsSliceShape (sym s.of) s.built.is_shape

-- ---- its bins

pub put_bins : (start : ℕ → ℕ × Bool) (kept shape : SliceShape) (rows : LastRows Mb) (before : List Bool) (done : List Mb) (Place : Type 0) (at : ℕ) (mb : Mb) (d e : OutCoding) → Stands kept rows shape done Place → HasRoom kept shape rows done Place at
    → IsMacroblock kept mb → ((mbs : List Mb) → IsReadAt kept rows mbs at → Writes TakesBin (macroblock kept mbs at mb.field) (without_samples mb) d e)
    → Wrote start shape before (IsNext shape done) d → Wrote start shape before (IsPut shape done mb) e
put_bins start kept shape rows before done Place at mb d e s room is writes w =
    let field : mb.field ≡ false = frame kept shape rows done Place mb s is in
    wrote_bins start shape before done mb d e w
    (next_here kept shape rows done Place (λ (x : SliceShape) (n : ℕ). Writes TakesBin (macroblock x done n false) (without_samples mb) d e) at s room
    (subst (λ (b : Bool). Writes TakesBin (macroblock kept done at b) (without_samples mb) d e) field (writes done (here kept shape rows done Place at s room))))
