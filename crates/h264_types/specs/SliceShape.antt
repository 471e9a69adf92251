-- The shape of a slice: what its macroblocks rest on beside one another (ITU-T H.264, 7.4.2.1.1, 7.4.3 and 9.3.1.1).
use Rattle.std.specs.Prelude.{◌≡◌, ℕ, ◌≤◌, ◌⊎◌, Bool, true, false, ◌*◌, ◌%◌, ◌==◌, if◌then◌else◌, IsTrue, slice_index}
use Rattle.h264_types.specs.declared.slice_shape.SliceShape.{SliceShape}
use Rattle.h264_types.specs.declared.slice_shape.SliceKind.{SliceKind}
use Rattle.h264_types.specs.declared.slice_shape.SliceKind.TheVariants as slices

-- all but the column, on which the contexts of CABAC alone rest
abbrev pub without_column : SliceShape → SliceShape
without_column shape = record shape { column = 0 }

-- P slices predict from list 0, and B slices from both lists (7.4.3)
abbrev pub predicts_from : SliceKind → ℕ → Bool
predicts_from slices.I x = false
predicts_from slices.P x = x == 0
predicts_from slices.B x = true

-- the most active references of a list in a field, and in a frame (7.4.3)
abbrev pub most_refs : Bool → ℕ
most_refs field_pic = if field_pic then 32 else 16

-- the active references of list x
pub record HasRefs (shape : SliceShape) (x : ℕ) : Type 0 where
  pub some : IsTrue (predicts_from shape.kind x) → 1 ≤ slice_index shape.refs x
  pub few : slice_index shape.refs x ≤ most_refs shape.field_pic

-- A picture of Main or High within the limits. One of pairs is a frame of whole pairs, and a slice of it begins with the
-- top of one.
pub record IsSliceShape (shape : SliceShape) : Type 0 where
  pub some : (1 ≤ shape.width) × (1 ≤ shape.height)
  pub width : shape.width ≤ 1055
  pub size : shape.width * shape.height ≤ 139264
  pub pairs : shape.mbaff ≡ true → (shape.field_pic ≡ false) × (shape.height % 2 ≡ 0) × (shape.first % 2 ≡ 0)
  pub profile : (shape.profile ≡ 77) ⊎ (shape.profile ≡ 100)
  pub qp : shape.qp ≤ 51
  pub column : shape.column ≤ 3
  pub l0 : HasRefs shape 0
  pub l1 : HasRefs shape 1
