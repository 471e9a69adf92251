-- The states of contexts, bin by bin (9.3.3.2.1.1).
use Rattle.std.specs.Prelude.{◌≡◌, ℕ, ◌<◌, ◌==◌, Bool, List, [], ◌∷◌, ◌++◌, Some, fold, slice_get, if◌then◌else◌}
use Rattle.cabac_interval.specs.Tables.{next_p, next_mps}
use Rattle.cabac_interval.specs.Interval.{Kind, context, bypass, terminate, Bin}
use Rattle.cabac_engine.specs.Bins.{Slot, in_context, in_bypass, at_end}
use Rattle.cabac_engine.specs.declared.cell.Cell.{Cell}

-- pStateIdx and valMPS of a cell
abbrev pub state_in : Cell → ℕ × Bool
state_in cell = (cell.p, cell.mps)

-- these are the states of the contexts
abbrev pub HasStates : (ℕ → ℕ × Bool) → List (ℕ × Bool) → Type 0
HasStates states cells = (ctx : ℕ) → ctx < 460 → slice_get cells ctx ≡ Some (states ctx)

-- the bins of a list that were coded in a context
abbrev pub bit_in : ℕ → Slot → Bool → List Bool
bit_in ctx (in_context other) bit = if ctx == other then bit ∷ [] else []
bit_in ctx in_bypass bit = []
bit_in ctx at_end bit = []

abbrev pub bits_in : ℕ → List (Slot × Bool) → List Bool
bits_in ctx [] = []
bits_in ctx (bin ∷ bins) = bit_in ctx bin.0 bin.1 ++ bits_in ctx bins

-- the state of a context after bins, from the states at the start: one step for each of its bins
abbrev pub state_of : (ℕ → ℕ × Bool) → List (Slot × Bool) → ℕ → ℕ × Bool
state_of start bins ctx = fold (λ state bit. (next_p state.0 state.1 bit, next_mps state.0 state.1 bit)) (start ctx) (bits_in ctx bins)

-- how the next bin is coded after these
abbrev pub kind_after : (ℕ → ℕ × Bool) → List (Slot × Bool) → Slot → Kind
kind_after start bins (in_context ctx) = context (state_of start bins ctx).0 (state_of start bins ctx).1
kind_after start bins in_bypass = bypass
kind_after start bins at_end = terminate

-- bins behind earlier ones, each context bin with the state of its context
abbrev pub with_states : (ℕ → ℕ × Bool) → List (Slot × Bool) → List (Slot × Bool) → List Bin
with_states start earlier [] = []
with_states start earlier (bin ∷ bins) =
    record { kind = kind_after start earlier bin.0; bit = bin.1 } ∷ with_states start (earlier ++ bin ∷ []) bins
