-- Which lists have data rests on no column.
use Rattle.std.proofs.Common.{◌≡◌, ℕ, ◌≤◌, List, ap, subst}
use Rattle.h264_types.proofs.ColumnLaws.{column_slice}
use Rattle.h264_types.specs.declared.macroblock.Mb.{Mb}
use Rattle.h264_types.specs.declared.slice_shape.SliceShape.{SliceShape}
use Rattle.h264_types.specs.SliceShape.{without_column}
use Rattle.cabac_syntax.specs.SliceData.{HasData}

column_data : (shape : SliceShape) (column : ℕ) (mbs : List Mb) → column ≤ 3 → HasData shape mbs → HasData (record shape { column = column }) mbs
column_data shape column mbs h has = record {
  built = record { mbaff = has.built.mbaff };
  slice = column_slice shape column mbs h has.slice;
  residuals = has.residuals;
  ref0 = has.ref0;
}

pub lists_of_both : (first second : SliceShape) (mbs : List Mb) → without_column first ≡ without_column second → second.column ≤ 3 → HasData first mbs → HasData second mbs
lists_of_both first second mbs same h has =
    subst (λ (s : SliceShape). HasData s mbs) (ap (λ (s : SliceShape). record s { column = second.column }) same) (column_data first second.column mbs h has)
