-- What is kept of the macroblocks of a slice for those behind them.
use Rattle.std.specs.Prelude.{◌≡◌, ◌*◌, ◌%◌, ◌≤◌, ◌==◌, ◌||◌, true, false}
use Rattle.cavlc_mb_residual.specs.declared.counts.Counts.{Counts}
use Rattle.h264_types.specs.LastRows.{LastRows}
use Rattle.h264_types.specs.SliceShape.{HasRefs}
use Rattle.h264_types.specs.declared.slice_shape.SliceShape.{SliceShape}

-- the shape is one of a slice, said as a fact that a struct can keep
pub record KeepsShape (shape : SliceShape) : Type 0 where
  pub some : (1 ≤ shape.width) × (1 ≤ shape.height)
  pub width : shape.width ≤ 1055
  pub size : shape.width * shape.height ≤ 139264
  pub pairs : shape.mbaff ≡ true → (shape.field_pic ≡ false) × (shape.height % 2 ≡ 0) × (shape.first % 2 ≡ 0)
  pub profile : (shape.profile == 77 || shape.profile == 100) ≡ true
  pub qp : shape.qp ≤ 51
  pub column : shape.column ≤ 3
  pub l0 : HasRefs shape 0
  pub l1 : HasRefs shape 1

-- rows of a slice of this shape
pub record AreOfShape (shape : SliceShape) (rows : LastRows Counts) : Type 0 where
  pub mbaff : rows.mbaff ≡ shape.mbaff
  pub width : rows.width ≡ shape.width
  pub height : rows.height ≡ shape.height
  pub first : rows.first ≡ shape.first
