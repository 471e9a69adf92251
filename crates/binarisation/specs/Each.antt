-- Strings one after another.
use Rattle.std.specs.Prelude.{ℕ, zero, suc, ◌+◌}
use Rattle.binarisation.specs.BinString.{BinString, Value, ◌>>=◌}

-- what f asks for at k, k + 1 and so on, of so many, one after another, each of what those before it made
unfoldable pub each : {A : Type 0} → ℕ → (ℕ → A → BinString A) → ℕ → A → BinString A
each zero f k x = Value x
each (suc n) f k x = f k x >>= each n f (k + 1)
