-- What readers and writers of a slice keep of the macroblocks that were done: the last two rows, in MBAFF of pairs, since
-- no neighbour stands further back (6.4.9, 6.4.10).
use Rattle.std.specs.Prelude.{◌≡◌, ◌⊎◌, ℕ, ◌+◌, ◌*◌, ◌/◌, ◌%◌, ◌<◌, ◌≤◌, Bool, true, false, if◌then◌else◌, List, length, map, Option, Some, None, slice_get, min}
use Rattle.std.specs.Option.{option_map}
use Rattle.circular_buffer.specs.Buffer.{keep_last}
use Rattle.h264_types.specs.Slice.{IsInPicture}
use Rattle.h264_types.specs.declared.macroblock.Mb.{Mb}
use Rattle.h264_types.specs.declared.slice_shape.SliceShape.{SliceShape}

-- `count` macroblocks were done, and `last` is what is kept of the last of them
pub record LastRows (K : Type 0) : Type 0 where
  pub width : ℕ
  pub height : ℕ
  pub first : ℕ
  pub mbaff : Bool
  pub count : ℕ
  pub last : List K

-- the macroblocks of two rows, or of two rows of pairs
abbrev pub two_rows : ℕ → Bool → ℕ
two_rows width mbaff = if mbaff then 4 * width else 2 * width

-- the number of macroblock k, in MBAFF that of its pair
abbrev pub unit_of : Bool → ℕ → ℕ
unit_of mbaff k = if mbaff then k / 2 else k

module _ {K : Type 0} where
  -- Rows that were started for this shape, where the macroblocks `mbs` are done; `of` is what is kept of one.
  pub record AreRows (of : Mb → K) (shape : SliceShape) (rows : LastRows K) (mbs : List Mb) : Type 0 where
    pub width : rows.width ≡ shape.width
    pub height : rows.height ≡ shape.height
    pub first : rows.first ≡ shape.first
    pub mbaff : rows.mbaff ≡ shape.mbaff
    pub counted : rows.count ≡ length mbs
    pub last : rows.last ≡ map of (keep_last (two_rows shape.width shape.mbaff) mbs)

  -- macroblock number `at` of the slice lies in the picture and is the next one or the last one of the rows, in MBAFF of
  -- the pair of one of them
  pub record StandsAt (of : Mb → K) (shape : SliceShape) (rows : LastRows K) (mbs : List Mb) (at : ℕ) : Type 0 where
    pub picture : IsInPicture shape at
    pub are : AreRows of shape rows mbs
    pub before : (shape.mbaff ≡ false → at ≤ rows.count) × (shape.mbaff ≡ true → 2 * (at / 2) ≤ rows.count)
    pub behind : (shape.mbaff ≡ false → rows.count ≤ at + 1) × (shape.mbaff ≡ true → rows.count ≤ 2 * (at / 2) + 2)

  -- `number` is that of the next macroblock or the last one, in MBAFF of the pair of one of them
  abbrev pub IsNear : LastRows K → ℕ → Type 0
  IsNear rows number = (number ≤ unit_of rows.mbaff rows.count) × (unit_of rows.mbaff rows.count ≤ number + 1)

  -- macroblock `number` isn't before those of the last two rows
  abbrev pub IsRecent : LastRows K → ℕ → Type 0
  IsRecent rows number = rows.count ≤ number + two_rows rows.width rows.mbaff

  -- it is one of them
  abbrev pub IsHeld : LastRows K → ℕ → Type 0
  IsHeld rows number = (number < rows.count) × IsRecent rows number

  -- it is `at` itself, in MBAFF of the pair of `at`, or one of them
  abbrev pub IsAtHand : SliceShape → LastRows K → ℕ → ℕ → Type 0
  IsAtHand shape rows at number = (number ≡ at) ⊎ ((shape.mbaff ≡ true) × (number / 2 ≡ at / 2)) ⊎ IsHeld rows number

  -- what is kept of a macroblock of the slice
  abbrev pub kept_at : (Mb → K) → List Mb → Option ℕ → Option K
  kept_at of mbs None = None
  kept_at of mbs (Some k) = option_map of (slice_get mbs k)

-- The invariant of `Rows`: the numbers of a picture within the limits, and what is kept of it: room for the last two rows,
-- of `count` macroblocks the last `size`, and the column of the next one, in MBAFF of its pair.
pub record AreCounts (width height first count column room size : ℕ) (mbaff : Bool) : Type 0 where
  pub wide : (1 ≤ width) × (width ≤ 1055)
  pub picture : (width * height ≤ 139264) × (count ≤ width * height)
  pub two_rows : room ≡ two_rows width mbaff
  pub kept : size ≡ min count room
  pub next : column ≡ (unit_of mbaff first + unit_of mbaff count) % width
