-- Decoding the bins of a segment (clauses 9.3.1.2 and 9.3.3.2).
use Rattle.std.specs.Prelude.{◌≡◌, ℕ, ◌+◌, ◌*◌, ◌^◌, ◌<◌, ◌≤◌, Bool, List, Option, MatchOption, if◌then◌else◌}
use Rattle.bit_texts.specs.Bits.{TakesNumber}
use Rattle.cabac_interval.specs.Interval.{Kind, Bin, Interval, doublings_of, renormalised, without_upper, upper, interval, IsOpen, IsSegment, Begins, with_bin}

-- what contracts see of a decoder: codIRange and codIOffset, the bits that were taken of its source, before it was started
-- too, and those that are left
pub record Decoding : Type 0 where
  pub range : ℕ
  pub offset : ℕ
  pub taken : List Bool
  pub left : List Bool

-- a further bin may be decoded
abbrev pub IsDecoding : Decoding → Type 0
IsDecoding d = 256 ≤ d.range

-- of all the bits, as many as the numbers of the interval have were taken: they write low + offset, and the others are left
pub record Points (all : List Bool) (i : Interval) (range offset : ℕ) (left : List Bool) : Type 0 where
  pub taken : TakesNumber (9 + i.doublings) (i.low + offset) all left
  pub range_is : range ≡ i.range
  pub within : offset < range

-- a decoder that was started on these bits, and now has this range, offset and rest, gave these bins
pub record HasDecoded (all : List Bool) (bins : List Bin) (range offset : ℕ) (left : List Bool) : Type 0 where
  pub points : Points all (interval bins) range offset left
  pub so_far : 256 ≤ range → IsOpen bins
  pub ended : range < 256 → IsSegment bins

-- the range and offset after the doublings of a range, whose bits were taken
pub record Refills (range offset new_range new_offset : ℕ) (left new_left : List Bool) : Type 0 where
  pub value : ℕ
  pub taken : TakesNumber (doublings_of range) value left new_left
  pub range_is : new_range ≡ range * 2 ^ doublings_of range
  pub offset_is : new_offset ≡ offset * 2 ^ doublings_of range + value
  pub low : 256 ≤ new_range
  pub within : new_offset < new_range

-- The lower part of the range, or the upper one of this size, was taken and doubled, whichever the bits begin with a number
-- of. With no answer they do with neither.
abbrev pub Narrows : ℕ → Decoding → Option Bool → Decoding → Type 0
Narrows size old result new =
    (all : List Bool) (i : Interval) → Points all i old.range old.offset old.left
    → MatchOption result
    ((lower : Bool) → Begins all (renormalised (if lower then without_upper size i else upper size i)) → ⊥)
    (λ lower. Points all (renormalised (if lower then without_upper size i else upper size i)) new.range new.offset new.left)

-- The answer to a bin of this kind. It is the bit with which the bits begin with a number of the interval of the bins, of
-- which there is one at most, and none where there is no such bit.
abbrev pub Decodes : Kind → Decoding → Option Bool → Decoding → Type 0
Decodes kind old result new =
    (all : List Bool) (bins : List Bin) → HasDecoded all bins old.range old.offset old.left
    → MatchOption result
    ((bit : Bool) → Begins all (interval (with_bin bins kind bit)) → ⊥)
    (λ bit. HasDecoded all (with_bin bins kind bit) new.range new.offset new.left)
