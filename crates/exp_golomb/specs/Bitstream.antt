-- A bitstream and its pointer (7.2): the bits before it were taken, and those from it on are left.
use Rattle.std.specs.Prelude.{ℕ, Bool, List, take, drop}

pub record Bitstream : Type 0 where
  pub taken : List Bool
  pub left : List Bool

-- these bits, with the pointer behind the first n
abbrev pub pointed : ℕ → List Bool → Bitstream
pointed n bits = record { taken = take n bits; left = drop n bits }
