-- The first place of a part.
use Rattle.std.proofs.Common.{◌≡◌, ◌≢◌, ℕ, zero, suc, ◌+◌, ◌-◌, ◌<◌, ◌≤◌, eqb, Bool, true, false, refl, sym, ap, ◌∙◌, arith, inl, inr}
use Rattle.std.specs.Prelude.{if◌then◌else◌}
use Rattle.std.proofs.lemmas.Bool.{cases_eq, cases_lt, eqb-true}
use Rattle.std.proofs.lemmas.Bool.Decides.{nat_tests}
use Rattle.cavlc_inter.specs.Parts.{first_from, first_of}

pub first_here : (test : ℕ → Bool) (n m k : ℕ) → n ≡ suc m → test k ≡ true → first_from test n k ≡ k
unfolding first_from
first_here test n m k e h = rw e (rw h refl)

pub first_next : (test : ℕ → Bool) (n m k : ℕ) → n ≡ suc m → test k ≡ false → first_from test n k ≡ first_from test m (k + 1)
unfolding first_from
first_next test n m k e h = rw e (rw h refl)

pub first_none : (test : ℕ → Bool) (n k : ℕ) → n ≡ 0 → first_from test n k ≡ k
unfolding first_from
first_none test n k e = rw e refl

-- a search as far as place k
pub found : (part : ℕ → ℕ) (n k : ℕ) → k < n → part k ≡ part n → first_from (λ m. eqb (part m) (part n)) (n - k) k ≡ k
found part n k h e = first_here (λ m. eqb (part m) (part n)) (n - k) (n - (k + 1)) k (omega arith) (grind (arith, nat_tests))

pub not_yet : (part : ℕ → ℕ) (n k : ℕ) → k < n → part k ≢ part n → first_from (λ m. eqb (part m) (part n)) (n - k) k ≡ first_from (λ m. eqb (part m) (part n)) (n - (k + 1)) (k + 1)
not_yet part n k h differ = first_next (λ m. eqb (part m) (part n)) (n - k) (n - (k + 1)) k (omega arith) (grind (arith, nat_tests))

pub nowhere : (part : ℕ → ℕ) (n k : ℕ) → n ≤ k → k ≤ n → first_from (λ m. eqb (part m) (part n)) (n - k) k ≡ n
nowhere part n k h l = first_none (λ m. eqb (part m) (part n)) (n - k) k (omega arith) ∙ omega arith

-- ---- which place is the first one

record Found (test : ℕ → Bool) (n k r : ℕ) : Type 0 where
  most : r ≤ k + n
  holds : r < k + n → test r ≡ true
  before : (m : ℕ) → k ≤ m → m < r → test m ≡ false

found_here : (test : ℕ → Bool) (n k r : ℕ) (b : Bool) → test k ≡ b → Found test n (k + 1) r → Found test (suc n) k (if b then k else r)
found_here test n k r true e h = record { most = omega arith; holds = λ lt. e; before = λ m a b. absurd (omega (arith, a, b)) }
found_here test n k r false e h = record {
  most = omega (arith, h.most);
  holds = λ lt. h.holds (omega (arith, lt));
  before = λ m a b.
      elim (cases_eq m k) [
        | inl same ↦ ap test same ∙ e
        | inr differ ↦ h.before m (omega (arith, a, differ)) b
      ];
}

found_by_search : (test : ℕ → Bool) (n k : ℕ) → Found test n k (first_from test n k)
unfolding first_from
found_by_search test zero k = record { most = omega arith; holds = λ h. absurd (omega (arith, h)); before = λ m a b. absurd (omega (arith, a, b)) }
found_by_search test (suc n) k = found_here test n k (first_from test n (k + 1)) (test k) refl (found_by_search test n (k + 1))

pub record IsFirst (part : ℕ → ℕ) (n r : ℕ) : Type 0 where
  pub most : r ≤ n
  pub same : part r ≡ part n
  pub before : (m : ℕ) → m < r → part m ≢ part n

pub first_is : (part : ℕ → ℕ) (n : ℕ) → IsFirst part n (first_of part n)
first_is part n =
    let h = found_by_search (λ m. eqb (part m) (part n)) n 0 in
    let r : ℕ = first_of part n in
    record {
      most = omega (arith, h.most);
      same =
          elim (cases_lt r n) [
            | inl lt ↦ eqb-true _ _ (h.holds (omega (arith, lt)))
            | inr ge ↦ ap part (omega (arith, ge, h.most))
          ];
      before = λ m lt e. differs m e (h.before m (omega arith) lt);
    }
  where
    differs : (m : ℕ) → part m ≡ part n → eqb (part m) (part n) ≡ false → ⊥
    differs m e f = grind (arith, nat_tests)

pub one_first : (part : ℕ → ℕ) (a b r s : ℕ) → part a ≡ part b → IsFirst part a r → IsFirst part b s → r ≡ s
one_first part a b r s e h k =
    elim (cases_lt r s) [
      | inl lt ↦ absurd (k.before r lt (h.same ∙ e))
      | inr ge ↦ elim (cases_lt s r) [
        | inl lt ↦ absurd (h.before s lt (k.same ∙ sym e))
        | inr le ↦ omega (arith, ge, le)
      ]
    ]

pub first_again : (part : ℕ → ℕ) (n : ℕ) → first_of part (first_of part n) ≡ first_of part n
first_again part n = one_first part (first_of part n) n _ _ (first_is part n).same (first_is part (first_of part n)) (first_is part n)
