-- What was found to be valid may be written.
use Rattle.std.proofs.Common.{◌≡◌, Bool, true, false, List, ap, refl, subst, sym, ◌∙◌}
use Rattle.std.specs.Prelude.{◌&&◌}
use Rattle.h264_types.specs.Valid.{IsSlice}
use Rattle.h264_types.specs.declared.macroblock.Mb.{Mb}
use Rattle.h264_types.specs.declared.slice_shape.SliceShape.{SliceShape}
use Rattle.slice_rewrite.proofs.SliceForms.{read_under, under_read}
use Rattle.stream_tests.proofs.slices.written_with.Goals as goal

these_of : (found shape : SliceShape) (mbs these : List Mb) → found ≡ shape → mbs ≡ these → IsSlice found mbs → IsSlice shape these
these_of found shape mbs these same list is =
    let A : SliceShape → Type 0 = λ s. IsSlice s these in
    let L : List Mb → Type 0 = λ m. IsSlice found m in
    subst A same (subst L list is)

neither : (first second : Bool) → first ≡ false → (first && second) ≡ false
neither false second e = refl
neither true second e = absurd (cc)

-- a slice that isn't of an MBAFF frame is built for each layer
none_of : (found shape : SliceShape) (second : Bool) → found ≡ shape → found.mbaff ≡ false → (shape.mbaff && second) ≡ false
none_of found shape second same e = neither shape.mbaff second (sym (ap (λ (s : SliceShape). s.mbaff) same) ∙ e)

pub shape-shape-requires : goal.shape-shape-requires
shape-shape-requires c = read_under _ _ _ _ _ _ c.in_ok-slice.ensures.ok

pub write_slice-requires-clause-slice : goal.write_slice-requires-clause-slice
write_slice-requires-clause-slice c =
    under_read _ _ _ _ _ _ _ _ c.in_ok-slice.ensures.ok (λ active names. none_of _ _ _ (c.shape-shape.ensures.shape active names) c.if-shape.false)
    (λ active names. these_of _ _ _ _ (c.shape-shape.ensures.shape active names) c.as_slice.ensures.value (c.if-not-valid.ensures.0 refl))
