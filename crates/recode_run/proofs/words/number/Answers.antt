use Rattle.std.proofs.Common.{◌≡◌, ◌<◌, ◌≤◌, ◌^◌, ◌∙◌, ap, sym, arith, true, false, rules, List, ℕ, length, Bool, refl}
use Rattle.std.specs.Prelude.{nat_lt, nat_le, Result, Ok, Err, Some, None, if◌then◌else◌}
use Rattle.std.specs.Char.{is_ascii_digit}
use Rattle.std.specs.List.{list_all}
use Rattle.std.specs.Result.{OkIff, result_ok}
use Rattle.std.specs.Str.Parse.{digits_value}
use Rattle.std.proofs.lemmas.Bool.Decides.{nat_tests}
use Rattle.std.proofs.lemmas.Str.Parse.{IsNumeralModel, numerals_by_value, parse_digits}
use Rattle.recode_run.specs.Words.{number_of}
use Rattle.recode_run.proofs.words.number.Goals as goal

own : IsNumeralModel (λ ds. list_all is_ascii_digit ds ≡ true) (digits_value 10)
own = numerals_by_value _ (search rules)

are : (text : List ℕ) → 0 < length text → length text ≤ 10 → list_all is_ascii_digit text ≡ true
    → number_of text ≡ (if nat_lt (digits_value 10 text) (2 ^ 32) then Some (digits_value 10 text) else None)
are text some few digits =
    let one : nat_lt 0 (length text) ≡ true = grind (arith, nat_tests) in
    let ten : nat_le (length text) 10 ≡ true = grind (arith, nat_tests) in
    rw (one, ten, digits) refl

reads : {E : Type 0} (text : List ℕ) → 0 < length text → length text ≤ 10 → list_all is_ascii_digit text ≡ true → (r : Result ℕ E)
    → OkIff r ((0 < length text) × (digits_value 10 text < 2 ^ 32)) (digits_value 10 text) → result_ok r ≡ number_of text
reads text some few digits (Ok x) h =
    let fits : nat_lt (digits_value 10 text) (2 ^ 32) ≡ true = grind (arith, nat_tests, h.0.1) in
    ap (λ v. Some v) h.1 ∙ sym (are text some few digits ∙ rw fits refl)
reads text some few digits (Err e) h =
    let bad : nat_lt (digits_value 10 text) (2 ^ 32) ≡ false = not_below (nat_lt (digits_value 10 text) (2 ^ 32)) refl in
    sym (are text some few digits ∙ rw bad refl)
  where
    not_below : (t : Bool) → nat_lt (digits_value 10 text) (2 ^ 32) ≡ t → t ≡ false
    not_below true e = let below : digits_value 10 text < 2 ^ 32 = grind (arith, nat_tests, e) in absurd (h (some, below))
    not_below false e = refl

pub returns : goal.returns
returns c =
    let digits : list_all is_ascii_digit c.args.text.now ≡ true = search rules in
    let some : 0 < length c.args.text.now = search rules in
    let few : length c.args.text.now ≤ 10 = search rules in
    c.ok.ensures.value ∙ reads c.args.text.now some few digits c.parse.result (parse_digits own 32 c.args.text.now c.parse.result c.parse.ensures.value.0 digits)
