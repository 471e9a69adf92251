-- The macroblock and block to the left of a place or above it, found in the slice's list by address (6.4.8 to 6.4.12).
-- Macroblocks are named by their numbers in the slice, counted from 0, and so are pairs: what would stand before
-- number 0 is of another slice or outside the picture, and not available.
use Rattle.std.specs.Prelude.{ℕ, ◌+◌, ◌-◌, ◌*◌, ◌/◌, ◌%◌, ◌<◌, ◌≤◌, ◌≡◌, Bool, not, ◌&&◌, ◌==◌, nat_lt, if◌then◌else◌, Option, Some, List, length}
use Rattle.std.specs.Bool.{IsTrue}
use Rattle.std.specs.Option.{option_map}
use Rattle.h264_types.specs.Slice.{left_number, above_number, field_at}
use Rattle.h264_types.specs.declared.macroblock.Mb.{Mb}
use Rattle.h264_types.specs.declared.slice_shape.SliceShape.{SliceShape}
use Rattle.mb_neighbours.specs.declared.place.At.{At}
use Rattle.mb_neighbours.specs.declared.place.Spot.{Spot}
use Rattle.mb_neighbours.specs.Place.{x_of, y_of, size_of, number_of, covering}
use Rattle.mb_neighbours.specs.Pair.{left_half, left_row, above_half}

-- the block of macroblock k that has the sample in column x, row y
abbrev pub spot : At → ℕ → ℕ → ℕ → Spot
spot place k x y = record { mb = k; block = covering place x y }

-- outside MBAFF: the last column of the macroblock to the left
abbrev pub left_in_rows : SliceShape → ℕ → At → Option Spot
left_in_rows shape at place =
    option_map (λ k. spot place k (size_of place - 1) (y_of place)) (left_number shape.width shape.first at)

-- in MBAFF: the last column of the pair `left` of the slice
abbrev pub left_in_pair : List Mb → ℕ → ℕ → Bool → At → Spot
left_in_pair mbs left bottom field place =
    spot place
    (2 * left + left_half field (field_at mbs (2 * left)) bottom (y_of place) (size_of place))
    (size_of place - 1)
    (left_row field (field_at mbs (2 * left)) bottom (y_of place) (size_of place))

abbrev pub left_in_pairs : SliceShape → List Mb → ℕ → Bool → At → Option Spot
left_in_pairs shape mbs at field place =
    option_map (λ left. left_in_pair mbs left (at % 2) field place) (left_number shape.width (shape.first / 2) (at / 2))

-- what has the sample to the left of a place of macroblock `at`, where `field` is the pair flag that counts for it
abbrev pub left_of : SliceShape → List Mb → ℕ → Bool → At → Option Spot
left_of shape mbs at field place =
    if nat_lt 0 (x_of place) then Some (spot place at (x_of place - 1) (y_of place))
    else if shape.mbaff then left_in_pairs shape mbs at field place
    else left_in_rows shape at place

-- the lowest row of macroblock k, below one another with the place
abbrev pub lowest : At → ℕ → Spot
lowest place k = spot place k (x_of place) (size_of place - 1)

-- outside MBAFF: the lowest row of the macroblock above
abbrev pub above_in_rows : SliceShape → ℕ → At → Option Spot
above_in_rows shape at place = option_map (λ k. lowest place k) (above_number shape.width at)

-- in MBAFF: the lowest rows of the pair `above` of the slice
abbrev pub above_in_pair : List Mb → ℕ → ℕ → Bool → At → Spot
above_in_pair mbs above bottom field place =
    lowest place (2 * above + above_half field (field_at mbs (2 * above)) bottom)

abbrev pub above_in_pairs : SliceShape → List Mb → ℕ → Bool → At → Option Spot
above_in_pairs shape mbs at field place =
    if not field && at % 2 == 1 then Some (lowest place (at - 1))
    else option_map (λ above. above_in_pair mbs above (at % 2) field place) (above_number shape.width (at / 2))

-- what has the sample above a place of macroblock `at`, where `field` is the pair flag that counts for it
abbrev pub above_of : SliceShape → List Mb → ℕ → Bool → At → Option Spot
above_of shape mbs at field place =
    if nat_lt 0 (y_of place) then Some (spot place at (x_of place) (y_of place - 1))
    else if shape.mbaff then above_in_pairs shape mbs at field place
    else above_in_rows shape at place

-- the list has what neighbours are found by: in MBAFF the flags of all pairs before that of `at`, else nothing
abbrev pub HasPairsBefore : SliceShape → List Mb → ℕ → Type 0
HasPairsBefore shape mbs at = IsTrue shape.mbaff → at ≤ length mbs + at % 2

-- in a macroblock before `at`, or in a block of it before the place
abbrev pub IsBefore : Spot → ℕ → At → Type 0
IsBefore found at place = (found.mb ≤ at) × (found.mb ≡ at → found.block < number_of place)
