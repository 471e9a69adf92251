-- What is written of a list of macroblocks that can be written has data in the wanted layer.
use Rattle.std.proofs.Common.{◌≡◌, List, get_or, map, None, false, refl, sym, ◌∙◌}
use Rattle.std.proofs.lemmas.List.Elements.{All-map}
use Rattle.cabac_mb_residual.specs.Levels.{IsResidual}
use Rattle.cavlc_syntax.specs.SliceText.{IsNotBeyond}
use Rattle.h264_types.proofs.ColumnLaws.{slices_of_both}
use Rattle.h264_types.specs.Valid.{IsSlice}
use Rattle.h264_types.specs.declared.layer.Layer.{Layer}
use Rattle.h264_types.specs.declared.layer.Layer.TheVariants.{Cavlc, Cabac}
use Rattle.h264_types.specs.declared.macroblock.Mb.{Mb}
use Rattle.h264_types.specs.declared.slice_shape.SliceShape.{SliceShape}
use Rattle.slice_data.specs.WrittenForm.{written_mb}
use Rattle.slice_rewrite.specs.Layers.{HasDataIn, IsBuiltIn}
use Rattle.slice_rewrite.specs.SliceForms.{IsOtherColumn}
use Rattle.slice_rewrite.specs.Stops.{least_stop}
use Rattle.slice_rewrite.proofs.Layers.{slice_in_layer}
use Rattle.slice_rewrite.proofs.Normal.{slice_written, written_residual}
use Rattle.slice_rewrite.proofs.Stops.{all_go, goes_within, level_of_both, none_emptied}

-- it is a slice in the shape that is written
written_slice : (to : Layer) (shape other : SliceShape) (mbs : List Mb) → IsSlice shape mbs → IsOtherColumn shape other → least_stop to shape mbs ≡ None → IsSlice other (map (written_mb to) mbs)
written_slice to shape other mbs is column goes_on = slices_of_both shape other (map (written_mb to) mbs) column.same column.column (slice_written to shape mbs is (none_emptied to shape mbs goes_on))

-- of macroblocks that make a slice, whatever they were read from
pub written_data : (to : Layer) (shape other : SliceShape) (mbs : List Mb) → IsSlice shape mbs → IsOtherColumn shape other → IsBuiltIn to other → least_stop to shape mbs ≡ None → HasDataIn to other (map (written_mb to) mbs)
written_data Cavlc shape other mbs is column built goes_on = record {
  slice = written_slice Cavlc shape other mbs is column goes_on;
  within = All-map (IsNotBeyond other) (written_mb Cavlc) mbs (λ k d below.
      let mb = get_or mbs k d in
      sym (level_of_both Cavlc shape other (written_mb Cavlc mb) column.same) ∙ goes_within shape mb (all_go Cavlc shape 0 mbs goes_on k d below));
}
written_data Cabac shape other mbs is column built goes_on = record {
  built = built;
  slice = written_slice Cabac shape other mbs is column goes_on;
  residuals = All-map IsResidual (written_mb Cabac) mbs (λ k d below. written_residual Cabac shape (get_or mbs k d) (is.macroblocks k d below) (none_emptied Cabac shape mbs goes_on k d below));
  ref0 = All-map (λ mb. mb.ref0 ≡ false) (written_mb Cabac) mbs (λ k d below. refl);
}

-- of a list that was read in any layer
pub written_list : (from to : Layer) (shape other : SliceShape) (mbs : List Mb) → HasDataIn from shape mbs → IsOtherColumn shape other → IsBuiltIn to other → least_stop to shape mbs ≡ None → HasDataIn to other (map (written_mb to) mbs)
written_list from to shape other mbs has column built goes_on = written_data to shape other mbs (slice_in_layer from shape mbs has) column built goes_on
