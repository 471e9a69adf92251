-- Where the macroblocks of a slice stand (6.4.8 to 6.4.10), and the pair flags that are inferred (7.4.4). A number counts
-- the macroblocks of the slice from 0, in MBAFF also its pairs.
use Rattle.std.specs.Prelude.{ℕ, ◌+◌, ◌-◌, ◌*◌, ◌/◌, ◌%◌, ◌<◌, Bool, false, ◌==◌, nat_lt, if◌then◌else◌, Option, Some, None, List, slice_get}
use Rattle.std.specs.Option.{option_map_or}
use Rattle.h264_types.specs.Kind.{is_skip}
use Rattle.h264_types.specs.declared.macroblock.Mb.{Mb}
use Rattle.h264_types.specs.declared.slice_shape.SliceShape.{SliceShape}

abbrev pub IsInPicture : SliceShape → ℕ → Type 0
IsInPicture shape at = shape.first + at < shape.width * shape.height

-- n before number k, where the slice begins early enough
abbrev pub earlier : ℕ → ℕ → Option ℕ
earlier k n = if nat_lt k n then None else Some (k - n)

-- the number to the left of k in rows of `width`, where number 0 has the address `first`
abbrev pub left_number : ℕ → ℕ → ℕ → Option ℕ
left_number width first k = if (first + k) % width == 0 then None else earlier k 1

abbrev pub above_number : ℕ → ℕ → Option ℕ
above_number width k = earlier k width

-- the pair flag of macroblock k
abbrev pub field_at : List Mb → ℕ → Bool
field_at mbs k = option_map_or (λ (mb : Mb). mb.field) (slice_get mbs k) false

abbrev pub skipped_at : List Mb → ℕ → Bool
skipped_at mbs k = option_map_or (λ (mb : Mb). is_skip mb.kind) (slice_get mbs k) false

-- the flag of a pair of the slice, or another value where there is no such pair
abbrev pub pair_field : List Mb → Option ℕ → Bool → Bool
pair_field mbs (Some pair) other = field_at mbs (2 * pair)
pair_field mbs None other = other

-- the flag of a pair whose macroblocks are both skipped: that of the left pair in the slice, else of the pair above, else false
abbrev pub inferred_field : SliceShape → List Mb → ℕ → Bool
inferred_field shape mbs pair =
    pair_field mbs (left_number shape.width (shape.first / 2) pair)
    (pair_field mbs (above_number shape.width pair) false)
