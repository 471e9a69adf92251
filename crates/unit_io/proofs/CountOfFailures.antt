-- How the count of the calls that were to fail grows with the calls.
use Rattle.std.proofs.Common.{◌≡◌, ◌∙◌, sym, ap, ℕ, ◌+◌, ◌<◌, ◌≤◌, Bool, true, false, ◌||◌, ◌==◌, nat_lt, if◌then◌else◌, List, [], ◌∷◌, arith, refl}
use Rattle.std.proofs.lemmas.Bool.Decides.{nat_tests}
use Rattle.std.specs.List.{list_any}
use Rattle.unit_io.specs.Failures.{failures}

one : (f c d : ℕ) → c ≤ d → (if nat_lt f c then 1 else 0) ≤ (if nat_lt f d then 1 else 0)
one f c d h = grind (arith, nat_tests)

-- a later call has as many failures before it
pub failures-≤ : (fs : List ℕ) (c d : ℕ) → c ≤ d → failures fs c ≤ failures fs d
failures-≤ [] c d h = omega arith
failures-≤ (f ∷ fs) c d h = omega (arith, one f c d h, failures-≤ fs c d h)

hit : (f c : ℕ) → (f == c) ≡ true → (if nat_lt f c then 1 else 0) < (if nat_lt f (c + 1) then 1 else 0)
hit f c h = grind (arith, nat_tests)

missed : (f c : ℕ) → (f == c) ≡ false → (if nat_lt f (c + 1) then 1 else 0) ≤ (if nat_lt f c then 1 else 0)
missed f c h = grind (arith, nat_tests)

-- a call that is to fail is one more
pub failures-< : (fs : List ℕ) (c : ℕ) → list_any (λ f. f == c) fs ≡ true → failures fs c < failures fs (c + 1)
failures-< [] c h = absurd (cc)
failures-< (f ∷ fs) c h = by (failures-< fs c) (f == c) refl
  where
    by : (list_any (λ x. x == c) fs ≡ true → failures fs c < failures fs (c + 1)) → (b : Bool) → (f == c) ≡ b → failures (f ∷ fs) c < failures (f ∷ fs) (c + 1)
    by k true e = omega (arith, hit f c e, failures-≤ fs c (c + 1) (omega arith))
    by k false e = omega (arith, one f c (c + 1) (omega arith), k (ap (λ b. b || list_any (λ x. x == c) fs) (sym e) ∙ h))

-- where there is one more, that call is to fail
pub failures_rise : (fs : List ℕ) (c : ℕ) → failures fs c < failures fs (c + 1) → list_any (λ f. f == c) fs ≡ true
failures_rise [] c h = absurd (omega arith)
failures_rise (f ∷ fs) c h = by (failures_rise fs c) (f == c) refl
  where
    by : (failures fs c < failures fs (c + 1) → list_any (λ x. x == c) fs ≡ true) → (b : Bool) → (f == c) ≡ b → list_any (λ x. x == c) (f ∷ fs) ≡ true
    by k true e = ap (λ b. b || list_any (λ x. x == c) fs) e
    by k false e = ap (λ b. b || list_any (λ x. x == c) fs) e ∙ k (omega (arith, h, missed f c e))
