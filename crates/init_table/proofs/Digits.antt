-- One to three digits.
use Rattle.std.proofs.Common.{◌≡◌, ℕ, ◌+◌, ◌-◌, ◌*◌, ◌^◌, ◌<◌, true, ◌&&◌, List, [], ◌∷◌, ◌++◌, length, take, get_or, refl, sym, ap, ◌∙◌, nat_le, arith}
use Rattle.std.specs.List.{list_all}
use Rattle.std.specs.Char.{is_ascii_digit}
use Rattle.std.proofs.lemmas.List.Folds.{list_all-append}
use Rattle.std.proofs.lemmas.List.Sums.{fold-append}
use Rattle.std.proofs.lemmas.Grind.{common_steps, pow_more}
use Rattle.std.proofs.lemmas.Bool.{and_parts, leb-true}
use Rattle.init_table.specs.TableText.{value_of}

digit_below : (d : ℕ) → is_ascii_digit d ≡ true → d - 48 < 10
digit_below d h = let high = leb-true d 57 (and_parts (nat_le 48 d) (nat_le d 57) h).1 in omega (arith, high)

-- so many of the digits were read
pub record AreRead (digits : List ℕ) (count value : ℕ) : Type 0 where
  pub are_digits : list_all is_ascii_digit (take count digits) ≡ true
  pub value_is : value ≡ value_of (take count digits)
  pub below : value < 10 ^ count

pub first : (digits : List ℕ) → AreRead digits 0 0
first digits = record { are_digits = refl; value_is = refl; below = omega arith }

pub more : (digits : List ℕ) (count value : ℕ) → count < length digits → is_ascii_digit (get_or digits count 0) ≡ true → AreRead digits count value
    → AreRead digits (count + 1) (10 * value + (get_or digits count 0 - 48))
more digits count value h digit r =
    let d = get_or digits count 0 in
    let longer : take (count + 1) digits ≡ take count digits ++ d ∷ [] = grind (arith, common_steps) in
    let tens : 10 ^ (count + 1) ≡ 10 ^ count * 10 = pow_more 10 count in
    record {
      are_digits = rw longer (list_all-append is_ascii_digit (take count digits) (d ∷ []) ∙ ap (λ b. b && (is_ascii_digit d && true)) r.are_digits ∙ ap (λ b. b && true) digit);
      value_is = ap (λ v. 10 * v + (d - 48)) r.value_is ∙ sym (ap value_of longer ∙ fold-append (λ v x. 10 * v + (x - 48)) 0 (take count digits) (d ∷ []));
      below = omega (arith, r.below, tens, digit_below d digit);
    }
