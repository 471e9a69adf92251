-- A decoder and an encoder with the states of their contexts.
use Rattle.std.specs.Prelude.{◌≡◌, ℕ, Bool, List, [], ◌∷◌, ◌++◌, Option, MatchOption}
use Rattle.cabac_interval.specs.Interval.{interval, IsCode, Begins, with_bin}
use Rattle.cabac_engine.specs.Bins.{Slot}
use Rattle.cabac_engine.specs.Decoding.{Decoding, HasDecoded}
use Rattle.cabac_engine.specs.Encoding.{Encoding, HasEncoded}
use Rattle.cabac_contexts.specs.States.{HasStates, state_of, kind_after, with_states}

-- The bins of a segment, each context bin with the state of its context and the last one the end bin of 1, have this code.
-- The states at its start are those after the bins of the segments before.
abbrev pub SegmentBits : (ℕ → ℕ × Bool) → List (Slot × Bool) → List Bool → Type 0
SegmentBits start bins code = IsCode (with_states start [] bins) code

-- ---- the decoder

-- what contracts see of a decoder with its contexts
pub record InCoding : Type 0 where
  pub decoder : Decoding
  pub cells : List (ℕ × Bool)

-- a decoder that was started on these bits, with these states, gave these bins
pub record HasGiven (all : List Bool) (start : ℕ → ℕ × Bool) (bins : List (Slot × Bool)) (d : InCoding) : Type 0 where
  pub decoded : HasDecoded all (with_states start [] bins) d.decoder.range d.decoder.offset d.decoder.left
  pub states : HasStates (state_of start bins) d.cells

-- The answer to a bin of this slot: the bit with which the bits begin with a number of the interval of the bins, and none
-- where there is no such bit.
abbrev pub Answers : InCoding → Slot → Option Bool → InCoding → Type 0
Answers old slot result new =
    (all : List Bool) (start : ℕ → ℕ × Bool) (bins : List (Slot × Bool)) → HasGiven all start bins old
    → MatchOption result
    ((bit : Bool) → Begins all (interval (with_bin (with_states start [] bins) (kind_after start bins slot) bit)) → ⊥)
    (λ bit. HasGiven all start (bins ++ (slot, bit) ∷ []) new)

-- the step of a decoder with its contexts: it loses no bit of the source
pub record GivesBin (old : InCoding) (slot : Slot) (result : Option Bool) (new : InCoding) : Type 0 where
  pub answer : Answers old slot result new
  pub kept : new.decoder.taken ++ new.decoder.left ≡ old.decoder.taken ++ old.decoder.left

-- ---- the encoder

-- what contracts see of an encoder with its contexts
pub record OutCoding : Type 0 where
  pub encoder : Encoding
  pub cells : List (ℕ × Bool)

-- an encoder that was started behind these bits, with these states, took these bins
pub record HasTaken (before : List Bool) (start : ℕ → ℕ × Bool) (bins : List (Slot × Bool)) (e : OutCoding) : Type 0 where
  pub encoded : HasEncoded before (with_states start [] bins) e.encoder
  pub states : HasStates (state_of start bins) e.cells

-- the step of an encoder with its contexts: it goes on by one bin
abbrev pub TakesBin : OutCoding → Slot → Bool → OutCoding → Type 0
TakesBin old slot bit new =
    (before : List Bool) (start : ℕ → ℕ × Bool) (bins : List (Slot × Bool)) → HasTaken before start bins old
    → HasTaken before start (bins ++ (slot, bit) ∷ []) new
