-- No unit ends inside escaped bytes.
use Rattle.std.proofs.Common.{◌≡◌, ◌≢◌, ℕ, zero, suc, ◌%◌, true, false, ltb, List, [], ◌∷◌, ◌++◌, refl, sym, ap, ◌∙◌, arith, inl, inr}
use Rattle.std.proofs.lemmas.Bool.{cases_lt}
use Rattle.std.proofs.lemmas.Bool.Decides.{nat_tests}
use Rattle.exp_golomb.specs.EmulationPrevention.{escaped, is_escaped, HasEscape}
use Rattle.exp_golomb.proofs.Escapes.{both, not_zero, is_escaped-bad, again, zeros_behind}
use Rattle.h264_types.specs.Units.{ends_unit, NoEndIn, IsClosed, EndsNonzero}

no : false ≡ true → ⊥
no h = absurd cc

others : (x : ℕ) (bytes : List ℕ) → is_escaped (x ∷ bytes) ≡ true → is_escaped bytes ≡ true
unfolding is_escaped
others x bytes h = (both _ _ h).1

-- no start code begins at a byte above 0, nor at one before it
none_at : (x : ℕ) (bytes : List ℕ) → ends_unit (suc x ∷ bytes) ≡ false
none_at x [] = refl
none_at x (b ∷ []) = refl
none_at x (b ∷ c ∷ bytes) = rw (not_zero x) refl

none_before : (x : ℕ) (bytes : List ℕ) → ends_unit (0 ∷ suc x ∷ bytes) ≡ false
none_before x [] = refl
none_before x (c ∷ bytes) = rw (not_zero x) refl

none_first : (x : ℕ) (bytes behind : List ℕ) → is_escaped (x ∷ bytes) ≡ true → ends_unit (x ∷ (bytes ++ behind)) ≡ false
unfolding is_escaped
none_first (suc x) bytes behind h = none_at x (bytes ++ behind)
none_first zero [] behind h = absurd cc
none_first zero (suc b ∷ bytes) behind h = none_before b (bytes ++ behind)
none_first zero (zero ∷ []) behind h = absurd cc
none_first zero (zero ∷ c ∷ bytes) behind h =
    elim (cases_lt c 3) [
      | inl lt ↦ absurd (no (sym (is_escaped-bad c bytes lt) ∙ h))
      | inr le ↦ let above : ltb c 2 ≡ false = grind (arith, nat_tests) in above
    ]

no_end_in : (bytes behind : List ℕ) → is_escaped bytes ≡ true → NoEndIn bytes behind
no_end_in [] behind h = tt
no_end_in (x ∷ bytes) behind h = (none_first x bytes behind h, no_end_in bytes behind (others x bytes h))

ends_nonzero : (bytes : List ℕ) → is_escaped bytes ≡ true → EndsNonzero bytes
unfolding is_escaped
ends_nonzero [] h = tt
ends_nonzero (zero ∷ []) h = absurd cc
ends_nonzero (suc x ∷ []) h = λ e. omega (arith, e)
ends_nonzero (x ∷ y ∷ bytes) h = ends_nonzero (y ∷ bytes) (others x (y ∷ bytes) h)

-- ---- a unit

pub IsClosed-unit : (header : ℕ) (payload : List ℕ) → header ≢ 0 → HasEscape payload → IsClosed (header ∷ escaped payload)
IsClosed-unit zero payload h has = absurd (h refl)
IsClosed-unit (suc header) payload h has = λ behind. (none_at header (escaped payload ++ behind), no_end_in (escaped payload) behind (again payload has).is)

pub EndsNonzero-unit : (header : ℕ) (payload : List ℕ) → header ≢ 0 → HasEscape payload → EndsNonzero (header ∷ escaped payload)
EndsNonzero-unit header payload h has = behind (escaped payload) (ends_nonzero (escaped payload) (again payload has).is)
  where
    behind : (bytes : List ℕ) → EndsNonzero bytes → EndsNonzero (header ∷ bytes)
    behind [] k = h
    behind (x ∷ bytes) k = k

-- ---- a payload that doesn't end in a zero byte

no_zeros : (bytes : List ℕ) (x n : ℕ) → EndsNonzero (x ∷ bytes) → zeros_behind n (x ∷ bytes) ≡ 0
no_zeros [] zero n h = absurd (h refl)
no_zeros [] (suc x) n h = rw (not_zero x) refl
no_zeros (y ∷ bytes) x n h = no_zeros bytes y _ h

pub HasEscape-from_EndsNonzero : (payload : List ℕ) → EndsNonzero payload → HasEscape payload
HasEscape-from_EndsNonzero [] h = refl
HasEscape-from_EndsNonzero (x ∷ bytes) h = ap (λ n. n % 2) (no_zeros bytes x 0 h)
