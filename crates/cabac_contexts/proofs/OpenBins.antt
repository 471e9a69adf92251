-- Bins that go on, and the segment that they make with an end bin of 1.
use Rattle.std.proofs.Common.{◌≡◌, ℕ, ◌+◌, ◌-◌, ◌<◌, ◌≤◌, min, cond, ltb, Bool, true, false, List, [], ◌∷◌, ◌++◌, ℤ, pos, negsuc, Some, refl, arith}
use Rattle.std.specs.List.{AllByRecursion, fold}
use Rattle.std.specs.Bool.{beq}
use Rattle.bit_texts.specs.Bits.{EndsInOne}
use Rattle.cabac_interval.specs.Interval.{IsKind, is_end, IsOpen, IsSegment}
use Rattle.cabac_interval.specs.Tables.{next_p, next_mps, trans_lps}
use Rattle.cabac_interval.proofs.Closing.{has_closing}
use Rattle.cabac_interval.proofs.Rows.{trans_within}
use Rattle.cabac_engine.specs.Bins.{Slot, in_context, in_bypass, at_end, is_last}
use Rattle.cabac_contexts.specs.Coders.{SegmentBits}
use Rattle.cabac_contexts.specs.Initial.{pre_state, clipped, starting_states}
use Rattle.cabac_contexts.specs.States.{bits_in, state_of, kind_after, with_states}
use Rattle.cabac_contexts.proofs.Steps.{with_states-push}
use Rattle.init_table.specs.declared.table.InitTable.{InitTable}
use Rattle.init_table.specs.InitTable.{pair_of}

-- the state of each context is at most 63
abbrev pub AreStates : (ℕ → ℕ × Bool) → Type 0
AreStates states = (ctx : ℕ) → (states ctx).0 < 64

next_below : (p : ℕ) (mps bit : Bool) → p < 64 → next_p p mps bit < 64
next_below p mps bit h = by (beq bit mps)
  where
    by : (same : Bool) → cond same (min (p + 1) 62) (trans_lps p) < 64
    by true = omega arith
    by false = let most = trans_within p h in omega (arith, most)

goes_on : (bits : List Bool) (state : ℕ × Bool) → state.0 < 64 → (fold (λ (s : ℕ × Bool) b. (next_p s.0 s.1 b, next_mps s.0 s.1 b)) state bits).0 < 64
goes_on [] state h = h
goes_on (bit ∷ bits) state h = goes_on bits (next_p state.0 state.1 bit, next_mps state.0 state.1 bit) (next_below state.0 state.1 bit h)

pub states_after : (start : ℕ → ℕ × Bool) (bins : List (Slot × Bool)) → AreStates start → AreStates (state_of start bins)
states_after start bins h ctx = goes_on (bits_in ctx bins) (start ctx) (h ctx)

pub starting_are : (init : InitTable) (qp column : ℕ) → AreStates (starting_states init qp column)
starting_are init qp column ctx = of (pre_state (pair_of init ctx column) qp) (clipped_most _)
  where
    clipped_most : (z : ℤ) → clipped z ≤ 126
    clipped_most (pos n) = omega arith
    clipped_most (negsuc n) = omega arith

    by : (pre : ℕ) (low : Bool) → pre ≤ 126 → (cond {A = ℕ × Bool} low (63 - pre, false) (pre - 64, true)).0 < 64
    by pre true h = omega arith
    by pre false h = omega (arith, h)

    of : (pre : ℕ) → pre ≤ 126 → (cond {A = ℕ × Bool} (ltb pre 64) (63 - pre, false) (pre - 64, true)).0 < 64
    of pre h = by pre (ltb pre 64) h

-- no bin is an end bin of 1
abbrev pub GoOn : List (Slot × Bool) → Type 0
GoOn bins = AllByRecursion (λ bin. is_last bin.0 (Some bin.1) ≡ false) bins

kind_is : (start : ℕ → ℕ × Bool) (earlier : List (Slot × Bool)) (slot : Slot) → AreStates start → IsKind (kind_after start earlier slot)
kind_is start earlier (in_context ctx) h = states_after start earlier h ctx
kind_is start earlier in_bypass h = tt
kind_is start earlier at_end h = tt

no_end : (start : ℕ → ℕ × Bool) (earlier : List (Slot × Bool)) (slot : Slot) (bit : Bool) → is_last slot (Some bit) ≡ false → is_end (kind_after start earlier slot) bit ≡ false
no_end start earlier (in_context ctx) bit h = refl
no_end start earlier in_bypass bit h = refl
no_end start earlier at_end bit h = h

opened : (start : ℕ → ℕ × Bool) → AreStates start → (earlier bins : List (Slot × Bool)) → GoOn bins → IsOpen (with_states start earlier bins)
opened start states earlier [] h = tt
opened start states earlier (bin ∷ bins) h = (kind_is start earlier bin.0 states, no_end start earlier bin.0 bin.1 h.0, opened start states (earlier ++ bin ∷ []) bins h.1)

-- bins that go on, and then an end bin of 1, have a code whose last bit is 1
pub segment_has_code : (start : ℕ → ℕ × Bool) (bins : List (Slot × Bool)) → AreStates start → GoOn bins → (code : List Bool) × SegmentBits start (bins ++ (at_end, true) ∷ []) code × EndsInOne code
segment_has_code start bins states h =
    let segment : IsSegment (with_states start [] (bins ++ (at_end, true) ∷ [])) = record { earlier = with_states start [] bins; bins_are = with_states-push start bins at_end true; open_before = opened start states [] bins h } in
    let closing = has_closing (with_states start [] (bins ++ (at_end, true) ∷ [])) segment in
    (closing.0, closing.1.is_code, closing.1.last_is_one)
