-- How a decoder holds codIOffset, with bits that it looked up ahead.
use Rattle.std.specs.Prelude.{◌≡◌, ℕ, ◌+◌, ◌*◌, ◌^◌, Bool, List}
use Rattle.bit_texts.specs.Bits.{TakesNumber}

-- the offset, how many bits behind it are ready, the bits that were taken of the source, and those that are left
pub record Offset : Type 0 where
  pub offset : ℕ
  pub ready : ℕ
  pub taken : List Bool
  pub left : List Bool

-- so many bits were taken into an offset
pub record Doubles (count offset new_offset : ℕ) (left new_left : List Bool) : Type 0 where
  pub value : ℕ
  pub taken : TakesNumber count value left new_left
  pub offset_is : new_offset ≡ offset * 2 ^ count + value
