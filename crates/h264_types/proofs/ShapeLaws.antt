-- What follows from a slice's shape.
use Rattle.std.proofs.Common.{ℕ, zero, suc, ◌+◌, ◌*◌, ◌<◌, ◌≤◌, Bool, true, false, arith}
use Rattle.std.specs.Prelude.{slice_index}
use Rattle.h264_types.specs.declared.slice_shape.SliceShape.{SliceShape}
use Rattle.h264_types.specs.Slice.{IsInPicture}
use Rattle.h264_types.specs.SliceShape.{most_refs, HasRefs}

-- a list has at most 32 active references, in frames and in fields
pub few_refs : (shape : SliceShape) (x : ℕ) → HasRefs shape x → slice_index shape.refs x ≤ 32
few_refs shape x has = let few = has.few in by shape.field_pic few
  where
    by : (field : Bool) → slice_index shape.refs x ≤ most_refs field → slice_index shape.refs x ≤ 32
    by true few = few
    by false few = omega (arith, few)

-- a picture with a macroblock has a column of them
pub wide : (shape : SliceShape) (at : ℕ) → IsInPicture shape at → 0 < shape.width
wide shape at h = some shape.width shape.height (shape.first + at) h
  where
    some : (width height n : ℕ) → n < width * height → 0 < width
    some zero height n h = absurd (omega arith)
    some (suc width) height n h = omega arith
