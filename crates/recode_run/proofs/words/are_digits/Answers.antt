use Rattle.std.proofs.Common.{◌≡◌, ◌<◌, suc, sym, true, false, rules, List, ℕ, Bool, [], ◌∷◌, length, refl, arith}
use Rattle.std.specs.Char.{is_ascii_digit}
use Rattle.std.specs.Bool.{MatchBool}
use Rattle.std.specs.List.{list_all, AllWithin, HoldsAt}
use Rattle.std.proofs.lemmas.Iterator.{cases_from_all, YieldsList-from_slice}
use Rattle.std.proofs.lemmas.List.Folds.{list_all_at}
use Rattle.recode_run.proofs.words.are_digits.Goals as goal

all : (xs : List ℕ) → AllWithin (λ x. is_ascii_digit x ≡ true) xs 0 (length xs) → list_all is_ascii_digit xs ≡ true
all [] h = refl
all (x ∷ xs) h =
    let first : is_ascii_digit x ≡ true = h 0 0 (omega arith) (omega arith) in
    rw first (all xs (λ k d le lt. h (suc k) d (omega arith) (omega arith)))

told : (xs : List ℕ) (r : Bool) → MatchBool r (AllWithin (λ x. is_ascii_digit x ≡ true) xs 0 (length xs)) ((k : ℕ) × (k < length xs) × HoldsAt (λ x. is_ascii_digit x ≡ false) xs k)
    → r ≡ list_all is_ascii_digit xs
told xs true h = sym (all xs h)
told xs false h = sym (list_all_at is_ascii_digit xs h.0 0 h.1 (h.2 0))

pub returns : goal.returns
returns c =
    let by = cases_from_all _ _ _ (λ x. is_ascii_digit x ≡ true) (λ x. is_ascii_digit x ≡ false) c.all.ensures.ran (YieldsList-from_slice c.args.text.now cc) (λ x q k. search rules) (λ x q k. search rules) in
    told c.args.text.now c.all.result by
