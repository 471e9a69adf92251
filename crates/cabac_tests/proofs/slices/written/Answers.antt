use Rattle.std.proofs.Common.{◌≡◌, ℕ, ◌+◌, ◌<◌, Bool, false, List, [], ◌∷◌, ◌++◌, length, take, drop, get_or, sym, ap, subst, ◌∙◌}
use Rattle.std.proofs.lemmas.List.{take_more, take-append-drop}
use Rattle.h264_types.specs.Valid.{IsSlice}
use Rattle.h264_types.specs.declared.layer.Layer.TheVariants.{Cabac}
use Rattle.h264_types.specs.declared.macroblock.Mb.{Mb}
use Rattle.h264_types.specs.declared.slice_shape.SliceShape.{SliceShape}
use Rattle.pattern_fix.proofs.NormalLaws.{normal-without_t8}
use Rattle.slice_data.specs.Writing.{BeginsSlice}
use Rattle.slice_data.specs.WrittenForm.{written_mb}
use Rattle.cabac_syntax.specs.Written.{WritesFor}
use Rattle.cabac_tests.proofs.slices.written.Goals as goal

plain_form : (mb : Mb) → (mb.t8 ≡ false) × (mb.ref0 ≡ false) → mb ≡ written_mb Cabac mb
plain_form mb plain = sym (ap (λ (m : Mb). record m { ref0 = false }) (normal-without_t8 mb plain.0) ∙ ap (λ (r : Bool). record mb { ref0 = r }) (sym plain.1))

begins : (shape : SliceShape) (mbs : List Mb) (i : ℕ) (d : Mb) → i < length mbs → IsSlice shape mbs → BeginsSlice shape (take i mbs ++ get_or mbs i d ∷ [])
begins shape mbs i d within slice =
    (drop (i + 1) mbs, subst (IsSlice shape) (sym (take-append-drop (i + 1) mbs) ∙ ap (λ (l : List Mb). l ++ drop (i + 1) mbs) (take_more mbs i d within)) slice)

pub put-requires-in-loop-mb : goal.put-requires-in-loop-mb
put-requires-in-loop-mb c =
    let i = c.loop-mb.mb-index in
    let mbs = c.args.mbs.now in (
      plain_form _ (c.requires.plain i _ c.loop-mb-test.true),
      (c.args.init.now, c.args.shape, c.loop-mb.invariant.0, take i mbs, c.loop-mb.invariant.1, begins c.args.shape mbs i _ c.loop-mb-test.true c.requires.slice),
    )

pub loop-mb-preserved : goal.loop-mb-preserved
loop-mb-preserved c =
    let i = c.loop-mb.mb-index in
    let mbs = c.args.mbs.now in
    let new = c.put-in-loop-mb.new.self in
    let put = c.in-Ok.ensures c.args.init.now c.args.shape c.loop-mb.invariant.0 (take i mbs) c.loop-mb.invariant.1 in
    (c.loop-mb.invariant.0, subst (λ (l : List Mb). WritesFor (λ (bits : List Bool). bits) c.args.init.now new.shape new.rows new.phase c.args.shape c.loop-mb.invariant.0 l) (sym (take_more mbs i _ c.loop-mb-test.true)) put.1)
