-- Encoding the bins of a segment (clause 9.3.4).
use Rattle.std.specs.Prelude.{◌≡◌, ℕ, ◌+◌, ◌*◌, ◌^◌, ◌≤◌, ◌<◌, Bool, List, ◌++◌, length}
use Rattle.bit_texts.specs.Bits.{number}
use Rattle.cabac_interval.specs.Interval.{Kind, Bin, Interval, interval, IsOpen, IsSegment, with_bin}
use Rattle.cabac_interval.specs.Laws.{IsClosingCode}

-- what contracts see of an encoder: codIRange, and the bits up to the last one of codILow, from the first one of the sink on,
-- as a number, and how many they are
pub record Encoding : Type 0 where
  pub range : ℕ
  pub size : ℕ
  pub number : ℕ

-- a further bin may be encoded
abbrev pub IsEncoding : Encoding → Type 0
IsEncoding e = 256 ≤ e.range

-- an end bin of 1 was encoded
abbrev pub IsEnded : Encoding → Type 0
IsEnded e = e.range ≡ 2

-- behind the bits before stands the low end of the interval, and its range is the encoder's
pub record Stands (before : List Bool) (i : Interval) (e : Encoding) : Type 0 where
  pub size_is : e.size ≡ length before + (9 + i.doublings)
  pub number_is : e.number ≡ number before * 2 ^ (9 + i.doublings) + i.low
  pub range_is : e.range ≡ i.range

-- an encoder that was started on a sink of the bits before encoded these bins
pub record HasEncoded (before : List Bool) (bins : List Bin) (e : Encoding) : Type 0 where
  pub stands : Stands before (interval bins) e
  pub so_far : 256 ≤ e.range → IsOpen bins
  pub ended : e.range < 256 → IsSegment bins

-- the encoder goes on by one bin
abbrev pub Encodes : Kind → Bool → Encoding → Encoding → Type 0
Encodes kind bit old new =
    (before : List Bool) (bins : List Bin) → HasEncoded before bins old → HasEncoded before (with_bin bins kind bit) new

-- behind the bits before stands the closing code of the bins
pub record Closes (before : List Bool) (bins : List Bin) (bits : List Bool) : Type 0 where
  pub code : List Bool
  pub bits_are : bits ≡ before ++ code
  pub closing : IsClosingCode bins code
