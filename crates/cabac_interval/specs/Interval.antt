-- The arithmetic code of clause 9.3: bins, and the interval that each list of them has, in unbounded whole numbers.
use Rattle.std.specs.Prelude.{◌≡◌, ℕ, ◌+◌, ◌-◌, ◌*◌, ◌/◌, ◌%◌, ◌^◌, ◌<◌, ◌≤◌, Bool, true, false, List, [], ◌∷◌, ◌++◌, length, take, fold, if◌then◌else◌}
use Rattle.std.specs.Int.Count.{count_leading_zeros}
use Rattle.std.specs.Int.{from_bool}
use Rattle.std.specs.Bool.{beq}
use Rattle.bit_texts.specs.Bits.{number}
use Rattle.cabac_interval.specs.Tables.{range_lps}

-- how a bin is coded: in a context, whose state (pStateIdx) is p and whose most probable value (valMPS) is mps, in bypass,
-- or as an end bin
pub data Kind : Type 0 where
  context : ℕ → Bool → Kind
  bypass : Kind
  terminate : Kind

pub record Bin : Type 0 where
  pub kind : Kind
  pub bit : Bool

-- the numbers of 9 + doublings bits from low on, range of them
pub record Interval : Type 0 where
  pub low : ℕ
  pub range : ℕ
  pub doublings : ℕ

abbrev pub doubled : ℕ → Interval → Interval
doubled n i = record { low = i.low * 2 ^ n; range = i.range * 2 ^ n; doublings = i.doublings + n }

-- as many doublings as bring a range up to 256 (RenormD, 9.3.3.2.2): the leading zeros of the range as a number of nine bits
abbrev pub doublings_of : ℕ → ℕ
doublings_of range = count_leading_zeros 9 range

abbrev pub renormalised : Interval → Interval
renormalised i = doubled (doublings_of i.range) i

-- the lower part of the interval, and the upper part of this range
abbrev pub without_upper : ℕ → Interval → Interval
without_upper r i = record { low = i.low; range = i.range - r; doublings = i.doublings }

abbrev pub upper : ℕ → Interval → Interval
upper r i = record { low = i.low + (i.range - r); range = r; doublings = i.doublings }

-- codIRangeLPS: the range of the least probable value
abbrev pub lps_of : ℕ → ℕ → ℕ
lps_of p range = range_lps p (range / 64 % 4)

-- the interval after one more bin (9.3.3.2.1, 9.3.3.2.3, 9.3.3.2.4)
abbrev pub after : Interval → Kind → Bool → Interval
after i (context p mps) bit =
    renormalised (if beq bit mps then without_upper (lps_of p i.range) i else upper (lps_of p i.range) i)
after i bypass bit =
    record { low = 2 * i.low + from_bool bit * i.range; range = i.range; doublings = i.doublings + 1 }
after i terminate false = renormalised (without_upper 2 i)
after i terminate true = upper 2 i

-- all numbers of nine bits below 510 (9.3.1.2)
abbrev pub whole : Interval
whole = record { low = 0; range = 510; doublings = 0 }

-- the interval of a list of bins
abbrev pub interval : List Bin → Interval
interval bins = fold (λ i bin. after i bin.kind bin.bit) whole bins

-- the state of a context is at most 63
abbrev pub IsKind : Kind → Type 0
IsKind (context p mps) = p < 64
IsKind bypass = Unit {0}
IsKind terminate = Unit {0}

abbrev pub end_bin : Bin
end_bin = record { kind = terminate; bit = true }

abbrev pub is_end : Kind → Bool → Bool
is_end terminate bit = bit
is_end bypass bit = false
is_end (context p mps) bit = false

-- bins before the end of a segment: none is an end bin of 1
abbrev pub IsOpen : List Bin → Type 0
IsOpen [] = Unit {0}
IsOpen (bin ∷ bins) = IsKind bin.kind × (is_end bin.kind bin.bit ≡ false) × IsOpen bins

-- the bins of a segment: the last one is its only end bin of 1
pub record IsSegment (bins : List Bin) : Type 0 where
  pub earlier : List Bin
  pub bins_are : bins ≡ earlier ++ end_bin ∷ []
  pub open_before : IsOpen earlier

-- the bits are a code of the bins of a segment
pub record IsCode (bins : List Bin) (code : List Bool) : Type 0 where
  pub segment : IsSegment bins
  pub size : length code ≡ 9 + (interval bins).doublings
  pub above : (interval bins).low ≤ number code
  pub below : number code < (interval bins).low + (interval bins).range

-- the bits begin with a number of the interval
pub record Begins (bits : List Bool) (i : Interval) : Type 0 where
  pub enough : 9 + i.doublings ≤ length bits
  pub above : i.low ≤ number (take (9 + i.doublings) bits)
  pub below : number (take (9 + i.doublings) bits) < i.low + i.range

-- the bins with one more
abbrev pub with_bin : List Bin → Kind → Bool → List Bin
with_bin bins kind bit = bins ++ record { kind = kind; bit = bit } ∷ []
