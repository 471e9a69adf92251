-- The bin strings of numbers: unary (9.3.2.1), truncated unary (9.3.2.2), and UEGk with its suffix (9.3.2.3).
use Rattle.std.specs.Prelude.{ℕ, zero, suc, ◌+◌, ◌*◌, ◌^◌, ℤ, pos, negsuc, ◌==◌, nat_lt, min, Bool, true, false, List, slice_index_or, if◌then◌else◌}
use Rattle.std.specs.Int.{from_bool}
use Rattle.cabac_engine.specs.Bins.{Slot, in_context, in_bypass}
use Rattle.binarisation.specs.BinString.{BinString, Value, NoValue, Next, ◌>>=◌}

-- one bin, in a context
abbrev pub flag : ℕ → BinString Bool
flag ctx = Next (in_context ctx) Value

-- 0, 10 or 11
unfoldable pub up_to_two : ℕ → ℕ → BinString ℕ
up_to_two first second = Next (in_context first) (λ some. if some then Next (in_context second) (λ two. Value (if two then 2 else 1)) else Value 0)

-- the context of the bin at a place, of five; the last one is that of all further bins
abbrev pub context_at : List ℕ → ℕ → Slot
context_at contexts place = in_context (slice_index_or contexts (min place 4) 0)

-- that many ones and more, at most so many more, and a zero if fewer
unfoldable pub ones : List ℕ → ℕ → ℕ → BinString ℕ
ones contexts count zero = Value count
ones contexts count (suc more) = Next (context_at contexts count) (λ one. if one then ones contexts (count + 1) more else Value count)

unfoldable pub unary : List ℕ → ℕ → BinString ℕ
unary contexts most = ones contexts 0 most

-- the lowest n bits of a number, in bypass, behind those above them
unfoldable pub low_bits : ℕ → ℕ → BinString ℕ
low_bits high zero = Value high
low_bits high (suc n) = Next in_bypass (λ one. low_bits (2 * high + from_bool one) n)

-- an Exp-Golomb suffix of order k with fewer than so many ones, on top of what earlier ones stand for
unfoldable pub suffix_above : ℕ → ℕ → ℕ → BinString ℕ
suffix_above base k zero = NoValue
suffix_above base k (suc more) = Next in_bypass (λ one. if one then suffix_above (base + 2 ^ k) (k + 1) more else low_bits 0 k >>= (λ low. Value (base + low)))

unfoldable pub suffix : ℕ → ℕ → BinString ℕ
suffix k most = suffix_above 0 k most

-- UEGk: ones, at most so many, and behind all of them a suffix of order k (9.3.2.3)
unfoldable pub ueg_behind : ℕ → ℕ → ℕ → ℕ → BinString ℕ
ueg_behind prefix k most count = if nat_lt count prefix then Value count else suffix k most >>= (λ more. Value (prefix + more))

unfoldable pub ueg : List ℕ → ℕ → ℕ → ℕ → BinString ℕ
ueg contexts prefix k most = unary contexts prefix >>= ueg_behind prefix k most

-- a number by its magnitude and its sign, which 0 doesn't have; no number of a greater magnitude is in range
abbrev pub signed_of : ℕ → Bool → ℤ
signed_of zero minus = pos 0
signed_of (suc n) true = negsuc n
signed_of (suc n) false = pos (suc n)

unfoldable pub signed : ℕ → ℕ → BinString ℤ
signed greatest magnitude =
    if magnitude == 0 then Value (pos 0) else
    if nat_lt greatest magnitude then NoValue else Next in_bypass (λ minus. Value (signed_of magnitude minus))
