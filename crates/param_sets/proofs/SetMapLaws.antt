-- A map from numbers to sets, after one more was put.
use Rattle.std.proofs.Common.{◌≡◌, ℕ, Bool, true, false, cond, eqb, List, [], ◌∷◌, Option, Some, None, Bor, refl, sym, ap, ◌∙◌, arith}
use Rattle.std.specs.List.{AllByRecursion}
use Rattle.std.specs.Option.{option_copied, IfSome}
use Rattle.std.specs.Ordering.{nat_cmp, is_eq, match_ordering}
use Rattle.std.specs.declared.cmp.Ordering.{Ordering}
use Rattle.std.specs.declared.cmp.Ordering.TheVariants.{Less, Equal, Greater}
use Rattle.std.specs.Map.{lookup}
use Rattle.std.specs.BTreeMap.{insert_entry, is_at}
use Rattle.std.proofs.lemmas.Bool.Decides.{nat_tests}

pub same_number : (a b : ℕ) → is_eq (nat_cmp a b) ≡ eqb a b
same_number a b = grind (arith, nat_tests)

pub last_found : {A : Type 0} (number key : ℕ) (value : A) (entries : List (ℕ × A)) → lookup (is_at (nat_cmp number)) (insert_entry nat_cmp entries key value) ≡ cond (eqb number key) (Some value) (lookup (is_at (nat_cmp number)) entries)
last_found number key value [] = ap (λ b. cond b (Some value) None) (same_number number key)
last_found {A} number key value (e ∷ entries) = at (nat_cmp key e.0) refl (last_found number key value entries)
  where
    rest : Option A
    rest = lookup (is_at (nat_cmp number)) entries

    at_key : (b c : Bool) → (b ≡ true → c ≡ true → ⊥) → cond c (Some e.1) (cond b (Some value) rest) ≡ cond b (Some value) (cond c (Some e.1) rest)
    at_key true true h = absurd (h refl refl)
    at_key true false h = refl
    at_key false true h = refl
    at_key false false h = refl

    tied : (b c : Bool) → b ≡ c → cond c (Some value) rest ≡ cond b (Some value) (cond c (Some e.1) rest)
    tied true true h = refl
    tied false false h = refl
    tied true false h = absurd cc
    tied false true h = absurd cc

    at : (o : Ordering) → nat_cmp key e.0 ≡ o → lookup (is_at (nat_cmp number)) (insert_entry nat_cmp entries key value) ≡ cond (eqb number key) (Some value) rest
        → lookup (is_at (nat_cmp number)) (match_ordering o ((key, value) ∷ e ∷ entries) ((e.0, value) ∷ entries) (e ∷ insert_entry nat_cmp entries key value)) ≡ cond (eqb number key) (Some value) (cond (is_eq (nat_cmp number e.0)) (Some e.1) rest)
    at Less is so = ap (λ b. cond b (Some value) (cond (is_eq (nat_cmp number e.0)) (Some e.1) rest)) (same_number number key)
    at Equal is so =
        let same : eqb number key ≡ eqb number e.0 = grind (arith, nat_tests) in
        tied (eqb number key) (is_eq (nat_cmp number e.0)) (same ∙ sym (same_number number e.0))
    at Greater is so =
        ap (λ r. cond (is_eq (nat_cmp number e.0)) (Some e.1) r) so
        ∙ at_key (eqb number key) (is_eq (nat_cmp number e.0)) (λ b c. let d : eqb number e.0 ≡ true = sym (same_number number e.0) ∙ c in grind (arith, nat_tests))

-- what holds of the entries holds after one more that it holds of
pub all_put : {A : Type 0} (P : ℕ × A → Type 0) (key : ℕ) (value : A) (entries : List (ℕ × A)) → AllByRecursion P entries → P (key, value) → AllByRecursion P (insert_entry nat_cmp entries key value)
all_put P key value [] h p = (p, tt)
all_put {A} P key value (e ∷ entries) h p = at (nat_cmp key e.0) refl (all_put P key value entries h.1 p)
  where
    at : (o : Ordering) → nat_cmp key e.0 ≡ o → AllByRecursion P (insert_entry nat_cmp entries key value)
        → AllByRecursion P (match_ordering o ((key, value) ∷ e ∷ entries) ((e.0, value) ∷ entries) (e ∷ insert_entry nat_cmp entries key value))
    at Less is so = (p, h)
    at Equal is so = let same : key ≡ e.0 = grind (arith, nat_tests) in ((rw (← same) p), h.1)
    at Greater is so = (h.0, so)

-- what holds of the entries holds of the one that is found
pub found_holds : {A : Type 0} (P : A → ℕ → Type 0) (number : ℕ) (entries : List (ℕ × A)) (value : A) → AllByRecursion (λ e. P e.1 e.0) entries → Some value ≡ lookup (is_at (nat_cmp number)) entries → P value number
found_holds P number [] value h e = absurd cc
found_holds {A} P number (x ∷ entries) value h e = at (eqb number x.0) refl (ap (λ b. cond b (Some x.1) (lookup (is_at (nat_cmp number)) entries)) (same_number number x.0)) (found_holds P number entries value h.1)
  where
    at : (b : Bool) → eqb number x.0 ≡ b → lookup (is_at (nat_cmp number)) (x ∷ entries) ≡ cond (eqb number x.0) (Some x.1) (lookup (is_at (nat_cmp number)) entries)
        → (Some value ≡ lookup (is_at (nat_cmp number)) entries → P value number) → P value number
    at true is k so =
        let tested : lookup (is_at (nat_cmp number)) (x ∷ entries) ≡ Some x.1 = k ∙ rw is refl in
        let same : value ≡ x.1 = cc in
        let key : number ≡ x.0 = grind (arith, nat_tests) in
        rw (same, key) h.0
    at false is k so = let tested : lookup (is_at (nat_cmp number)) (x ∷ entries) ≡ lookup (is_at (nat_cmp number)) entries = k ∙ rw is refl in so (e ∙ tested)

pub found_lent : {A : Type 0} (P : A → ℕ → Type 0) (Q : A → Type 0) (key number : ℕ) (entries : List (ℕ × A)) (result : Option (Bor A)) → AllByRecursion (λ e. P e.1 e.0) entries → option_copied result ≡ lookup (is_at (nat_cmp key)) entries → key ≡ number
    → ((value : A) → P value number → Q value) → IfSome result (λ x. Q x.now)
found_lent P Q key number entries None h e same so = tt
found_lent P Q key number entries (Some x) h e same so = so x.now (rw (← same) (found_holds P key entries x.now h e))
