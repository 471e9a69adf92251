-- A zero byte in front of the bytes of a unit behind its header byte (7.3.1).
use Rattle.std.specs.Prelude.{◌≡◌, ◌≤◌, ℕ, List, [], ◌∷◌, ◌++◌, length, drop, Option, Some, None}
use Rattle.std.specs.Option.{option_map}
use Rattle.exp_golomb.specs.EmulationPrevention.{payload_of}
use Rattle.annexb_units.specs.declared.unescaping.Zeros.{Zeros}
use Rattle.annexb_units.specs.declared.unescaping.Zeros.TheVariants.{Alone, Escaped}

-- what was read, and what is read of the bytes that are left
abbrev pub payload_behind : List ℕ → List ℕ → Option (List ℕ)
payload_behind done bytes = option_map (λ rest. done ++ rest) (payload_of bytes)

-- what the zero byte is: one of the payload, or two with a 03 behind them, or the bytes are those of no payload
abbrev pub StandsAt : List ℕ → Option Zeros → Type 0
StandsAt bytes (Some Alone) = payload_of bytes ≡ payload_behind (0 ∷ []) (drop 1 bytes)
StandsAt bytes (Some Escaped) = (3 ≤ length bytes) × (payload_of bytes ≡ payload_behind (0 ∷ 0 ∷ []) (drop 3 bytes))
StandsAt bytes None = payload_of bytes ≡ None
