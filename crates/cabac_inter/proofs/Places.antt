-- The element of a place, case by case.
use Rattle.std.proofs.Common.{◌≡◌, ℕ, ◌<◌, ◌≤◌, Bool, true, false, refl, arith}
use Rattle.std.specs.Prelude.{nat_lt}
use Rattle.std.proofs.lemmas.Bool.Decides.{nat_tests}
use Rattle.binarisation.specs.BinString.{BinString, Value}
use Rattle.cavlc_inter.specs.Parts.{first_of}
use Rattle.cabac_inter.specs.InterPrediction.{element}

module _ {A : Type 0} (part : ℕ → ℕ) (has : ℕ → Bool) (before : ℕ → A) (none : A) (sent : BinString A) (n first : ℕ) (is : first ≡ first_of part n) where
  not_first : first < n → nat_lt (first_of part n) n ≡ true
  not_first h = rw (← is) (grind (arith, nat_tests))

  first_itself : n ≤ first → nat_lt (first_of part n) n ≡ false
  first_itself h = rw (← is) (grind (arith, nat_tests))

  pub element_later : first < n → element part has before none sent n ≡ Value (before first)
  element_later h = rw (not_first h, is) refl

  pub element_none : n ≤ first → has n ≡ false → element part has before none sent n ≡ Value none
  element_none h e = rw (first_itself h, e) refl

  pub element_sent : n ≤ first → has n ≡ true → element part has before none sent n ≡ sent
  element_sent h e = rw (first_itself h, e) refl
