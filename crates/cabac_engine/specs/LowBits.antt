-- How an encoder holds codILow: bits of the sink, pending bits, and a register.
use Rattle.std.specs.Prelude.{◌≡◌, ℕ, ◌+◌, ◌*◌, ◌^◌, ◌≤◌, Bool, true, false, List, length}
use Rattle.bit_texts.specs.Bits.{number}
use Rattle.cabac_interval.specs.Interval.{doublings_of}
use Rattle.cabac_engine.specs.Encoding.{Encoding}

-- the bits before the register, those of the sink and the pending ones, and whether no carry into them can come
pub record Pending : Type 0 where
  pub settled : Bool
  pub bits : List Bool

-- n bits were appended, which write this value; where it has n + 1 bits, the first one is a carry into the bits before
pub record Adds (n value : ℕ) (old new : List Bool) : Type 0 where
  pub size : length new ≡ length old + n
  pub number_is : number new ≡ number old * 2 ^ n + value

-- the n bits of a value are ones, and behind bits that aren't settled there is a carry before them
abbrev pub AreOnes : Bool → ℕ → ℕ → Type 0
AreOnes settled n value = (settled ≡ true → value + 1 ≡ 2 ^ n) × (settled ≡ false → value + 1 ≡ 2 ^ (n + 1))

-- how many bits there are up to the last one of codILow, and the number that they write: the bits before the register, and
-- its own, which are nine and those gathered
abbrev pub size_of : List Bool → ℕ → ℕ
size_of bits gathered = length bits + (9 + gathered)

abbrev pub number_of : List Bool → ℕ → ℕ → ℕ
number_of bits gathered register = number bits * 2 ^ (9 + gathered) + register

-- with this range above it the register has a carry at most, and none where the bits before it are settled
abbrev pub HasRoom : Bool → ℕ → ℕ → ℕ → Type 0
HasRoom settled gathered register range =
    (register + range ≤ 2 ^ (10 + gathered)) × (settled ≡ true → register + range ≤ 2 ^ (9 + gathered))

-- codILow was raised, and then it and a range were doubled until the range was at least 256
pub record Renormalises (skipped range : ℕ) (old new : Encoding) : Type 0 where
  pub size : new.size ≡ old.size + doublings_of range
  pub number_is : new.number ≡ (old.number + skipped) * 2 ^ doublings_of range
  pub range_is : new.range ≡ range * 2 ^ doublings_of range
