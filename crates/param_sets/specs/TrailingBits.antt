-- What stands at the end of a set's payload (ITU-T H.264, 7.3.2.11), over whole bytes.
use Rattle.std.specs.Prelude.{◌≡◌, ◌<◌, ℕ, zero, suc, ◌-◌, ◌%◌, Bool, true, false, not, nat_lt, List, [], ◌∷◌, ◌++◌, length, replicate, if◌then◌else◌}
use Rattle.bit_texts.specs.Bits.{bytes_of}
use Rattle.exp_golomb.specs.Syntax.{Syntax, Done, Never, More, Bounded, ◌>>=◌, flag, in_range}
use Rattle.exp_golomb.specs.EmulationPrevention.{zeros_at_end}
use Rattle.param_sets.specs.Refusal.{Refusal}

unfoldable pub alignment_zero_bits : ℕ → Syntax Refusal Bool
alignment_zero_bits zero = Done true
alignment_zero_bits (suc n) = do
  rbsp_alignment_zero_bit ← flag
  is_zero ← in_range (not rbsp_alignment_zero_bit)
  alignment_zero_bits n

-- a 1 bit, and 0 bits up to the end of the byte, with which the payload ends
unfoldable pub rbsp_trailing_bits : Syntax Refusal Bool
rbsp_trailing_bits = do
  rbsp_stop_one_bit ← flag
  is_one ← in_range rbsp_stop_one_bit
  Bounded (λ left. if nat_lt left 8 then alignment_zero_bits left else Never)

-- the bits while more_rbsp_data( ), at most so many
unfoldable pub bits_before_trailing : ℕ → Syntax Refusal (List Bool)
bits_before_trailing zero = Done []
bits_before_trailing (suc bound) = More (λ more. if more then (do
  bit ← flag
  others ← bits_before_trailing bound
  Done (bit ∷ others)) else Done [])

-- all bits up to the trailing bits
unfoldable pub unread_bits : Syntax Refusal (List Bool)
unread_bits = do
  bits ← Bounded bits_before_trailing
  ends ← rbsp_trailing_bits
  Done bits

-- the bits are these, with trailing bits behind them
abbrev pub EndsInTrailing : List Bool → List Bool → Type 0
EndsInTrailing bits rest = (zeros : ℕ) × (zeros < 8) × (bits ≡ rest ++ true ∷ replicate zeros false)

-- the trailing bits behind so many bits
abbrev pub trailing_bits : ℕ → List Bool
trailing_bits taken = true ∷ replicate (7 - taken % 8) false

-- with its trailing bits
abbrev pub payload_text : List Bool → List Bool
payload_text bits = bits ++ trailing_bits (length bits)

-- whole bytes, of which the last one is not 0: its escaped form has no 03 at its end
pub record IsPayload (bits : List Bool) : Type 0 where
  pub whole : length bits % 8 ≡ 0
  pub no_zeros_at_end : zeros_at_end (bytes_of bits) ≡ 0
