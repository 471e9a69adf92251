-- The states of contexts, bin by bin.
use Rattle.std.proofs.Common.{◌≡◌, ◌≢◌, ℕ, zero, suc, ◌+◌, ◌<◌, inl, inr, Bool, false, cond, eqb, eq-eqb, List, [], ◌∷◌, ◌++◌, length, set, map, Some, None, refl, sym, ap, ◌∙◌, arith, append_assoc}
use Rattle.std.specs.List.{fold, slice_get}
use Rattle.std.proofs.lemmas.Bool.{cases_eq}
use Rattle.std.proofs.lemmas.Bool.Decides.{nat_tests}
use Rattle.std.proofs.lemmas.List.{append-nil, length-map}
use Rattle.std.proofs.lemmas.List.Sums.{fold-append}
use Rattle.cabac_interval.specs.Tables.{next_p, next_mps}
use Rattle.cabac_engine.specs.Bins.{Slot, in_context}
use Rattle.cabac_contexts.specs.States.{HasStates, bit_in, bits_in, state_of, kind_after, with_states}

bits_in-push : (c : ℕ) (bins : List (Slot × Bool)) (slot : Slot) (bit : Bool) → bits_in c (bins ++ (slot, bit) ∷ []) ≡ bits_in c bins ++ bit_in c slot bit
bits_in-push c [] slot bit = append-nil (bit_in c slot bit)
bits_in-push c (x ∷ bins) slot bit = ap (λ bs. bit_in c x.0 x.1 ++ bs) (bits_in-push c bins slot bit) ∙ sym (append_assoc (bit_in c x.0 x.1) (bits_in c bins) (bit_in c slot bit))

state_of-push : (start : ℕ → ℕ × Bool) (bins : List (Slot × Bool)) (slot : Slot) (bit : Bool) (c : ℕ)
    → state_of start (bins ++ (slot, bit) ∷ []) c ≡ fold (λ s b. (next_p s.0 s.1 b, next_mps s.0 s.1 b)) (state_of start bins c) (bit_in c slot bit)
state_of-push start bins slot bit c =
    ap (fold (λ (s : ℕ × Bool) b. (next_p s.0 s.1 b, next_mps s.0 s.1 b)) (start c)) (bits_in-push c bins slot bit)
    ∙ fold-append (λ (s : ℕ × Bool) b. (next_p s.0 s.1 b, next_mps s.0 s.1 b)) (start c) (bits_in c bins) (bit_in c slot bit)

bits_in-append : (c : ℕ) (xs ys : List (Slot × Bool)) → bits_in c (xs ++ ys) ≡ bits_in c xs ++ bits_in c ys
bits_in-append c [] ys = refl
bits_in-append c (x ∷ xs) ys = ap (λ bs. bit_in c x.0 x.1 ++ bs) (bits_in-append c xs ys) ∙ sym (append_assoc (bit_in c x.0 x.1) (bits_in c xs) (bits_in c ys))

pub state_of-append : (start : ℕ → ℕ × Bool) (earlier later : List (Slot × Bool)) (c : ℕ) → state_of (state_of start earlier) later c ≡ state_of start (earlier ++ later) c
state_of-append start earlier later c =
    sym (ap (fold (λ (s : ℕ × Bool) b. (next_p s.0 s.1 b, next_mps s.0 s.1 b)) (start c)) (bits_in-append c earlier later)
    ∙ fold-append (λ (s : ℕ × Bool) b. (next_p s.0 s.1 b, next_mps s.0 s.1 b)) (start c) (bits_in c earlier) (bits_in c later))

with_states-after : (start : ℕ → ℕ × Bool) (earlier bins : List (Slot × Bool)) (slot : Slot) (bit : Bool)
    → with_states start earlier (bins ++ (slot, bit) ∷ []) ≡ with_states start earlier bins ++ record { kind = kind_after start (earlier ++ bins) slot; bit = bit } ∷ []
with_states-after start earlier [] slot bit = ap (λ e. record { kind = kind_after start e slot; bit = bit } ∷ []) (sym (append-nil earlier))
with_states-after start earlier (x ∷ bins) slot bit =
    ap (λ bs. record { kind = kind_after start earlier x.0; bit = x.1 } ∷ bs)
    (with_states-after start (earlier ++ x ∷ []) bins slot bit
    ∙ ap (λ e. with_states start (earlier ++ x ∷ []) bins ++ record { kind = kind_after start e slot; bit = bit } ∷ []) (append_assoc earlier (x ∷ []) bins))

pub with_states-push : (start : ℕ → ℕ × Bool) (bins : List (Slot × Bool)) (slot : Slot) (bit : Bool)
    → with_states start [] (bins ++ (slot, bit) ∷ []) ≡ with_states start [] bins ++ record { kind = kind_after start bins slot; bit = bit } ∷ []
with_states-push start bins slot bit = with_states-after start [] bins slot bit

pub with_states-append : (start : ℕ → ℕ × Bool) (earlier xs ys : List (Slot × Bool)) → with_states start earlier (xs ++ ys) ≡ with_states start earlier xs ++ with_states start (earlier ++ xs) ys
with_states-append start earlier [] ys = ap (λ e. with_states start e ys) (sym (append-nil earlier))
with_states-append start earlier (x ∷ xs) ys =
    ap (λ bs. record { kind = kind_after start earlier x.0; bit = x.1 } ∷ bs)
    (with_states-append start (earlier ++ x ∷ []) xs ys
    ∙ ap (λ e. with_states start (earlier ++ x ∷ []) xs ++ with_states start e ys) (append_assoc earlier (x ∷ []) xs))

-- ---- the cells

abbrev next : Bool → ℕ × Bool → ℕ × Bool
next bit s = (next_p s.0 s.1 bit, next_mps s.0 s.1 bit)

set-same : {X : Type 0} (xs : List X) (i : ℕ) (v x : X) → slice_get xs i ≡ Some x → slice_get (set xs i v) i ≡ Some v
set-same [] i v x g = absurd (let h : None ≡ Some x = g in cc)
set-same (y ∷ xs) zero v x g = refl
set-same (y ∷ xs) (suc i) v x g = set-same xs i v x g

set-other : {X : Type 0} (xs : List X) (i c : ℕ) (v : X) → c ≢ i → slice_get (set xs i v) c ≡ slice_get xs c
set-other [] i c v ne = refl
set-other (x ∷ xs) zero zero v ne = absurd (ne refl)
set-other (x ∷ xs) zero (suc c) v ne = refl
set-other (x ∷ xs) (suc i) zero v ne = refl
set-other (x ∷ xs) (suc i) (suc c) v ne = set-other xs i c v (λ e. ne (ap suc e))

own_bit : (c : ℕ) (bit : Bool) → bit_in c (in_context c) bit ≡ bit ∷ []
own_bit c bit = ap (λ b. cond b (bit ∷ []) []) (eq-eqb c c refl)

other_bit : (c d : ℕ) (bit : Bool) → c ≢ d → bit_in c (in_context d) bit ≡ []
other_bit c d bit ne = let e : eqb c d ≡ false = grind (arith, nat_tests) in ap (λ b. cond b (bit ∷ []) []) e

-- a bin that no context counts leaves the states
pub states_plain : (start : ℕ → ℕ × Bool) (bins : List (Slot × Bool)) (cs : List (ℕ × Bool)) (slot : Slot) (bit : Bool)
    → ((c : ℕ) → bit_in c slot bit ≡ []) → HasStates (state_of start bins) cs → HasStates (state_of start (bins ++ (slot, bit) ∷ [])) cs
states_plain start bins cs slot bit none h c below =
    h c below ∙ ap Some (sym (state_of-push start bins slot bit c ∙ ap (fold (λ (s : ℕ × Bool) b. next b s) (state_of start bins c)) (none c)))

-- a bin of a context moves its state one step
pub states_context : (start : ℕ → ℕ × Bool) (bins : List (Slot × Bool)) (cs : List (ℕ × Bool)) (ctx : ℕ) (bit : Bool) → ctx < 460
    → HasStates (state_of start bins) cs → HasStates (state_of start (bins ++ (in_context ctx, bit) ∷ [])) (set cs ctx (next bit (state_of start bins ctx)))
states_context start bins cs ctx bit below h c small =
    let st = state_of start bins ctx in
    elim (cases_eq c ctx) [
      | inl same ↦ rw same (set-same cs ctx (next bit st) st (h ctx below)
          ∙ ap Some (sym (state_of-push start bins (in_context ctx) bit ctx ∙ ap (fold (λ (s : ℕ × Bool) b. next b s) st) (own_bit ctx bit))))
      | inr ne ↦ set-other cs ctx c (next bit st) ne ∙ h c small
          ∙ ap Some (sym (state_of-push start bins (in_context ctx) bit c ∙ ap (fold (λ (s : ℕ × Bool) b. next b s) (state_of start bins c)) (other_bit c ctx bit ne)))
    ]

pub map-set : {X Y : Type 0} (f : X → Y) (xs : List X) (i : ℕ) (v : X) → map f (set xs i v) ≡ set (map f xs) i (f v)
map-set f [] i v = refl
map-set f (x ∷ xs) zero v = refl
map-set f (x ∷ xs) (suc i) v = ap (λ ys. f x ∷ ys) (map-set f xs i v)

set-within : {X : Type 0} (xs : List X) (i : ℕ) (v : X) → i < length xs → slice_get (set xs i v) i ≡ Some v
set-within [] i v h = absurd (omega (arith, h))
set-within (x ∷ xs) zero v h = refl
set-within (x ∷ xs) (suc i) v h = set-within xs i v (omega (arith, h))

-- the cells up to one more
pub cells-more : {X Y : Type 0} (f : X → Y) (g : ℕ → Y) (xs : List X) (n : ℕ) (v : X) → n < length xs → f v ≡ g n
    → ((c : ℕ) → c < n → slice_get (map f xs) c ≡ Some (g c)) → (c : ℕ) → c < n + 1 → slice_get (map f (set xs n v)) c ≡ Some (g c)
cells-more f g xs n v h is before c below =
    rw (map-set f xs n v)
    (elim (cases_eq c n) [
      | inl same ↦ rw same (set-within (map f xs) n (f v) (rw (length-map xs f) h) ∙ ap Some is)
      | inr ne ↦ set-other (map f xs) n c (f v) ne ∙ before c (omega (arith, below, ne))
    ])
