-- Numbers that unary codes stand for.
use Rattle.std.proofs.Common.{◌≡◌, ℕ, zero, suc, ◌+◌, ◌-◌, ◌*◌, ◌/◌, ◌%◌, ◌≤◌, ℤ, pos, negsuc, ◌≤ℤ◌, unsigned_abs, eqb, ltb, false, Some, refl, arith}
use Rattle.std.proofs.lemmas.Bool.Decides.{nat_tests}
use Rattle.std.proofs.lemmas.Int.{ints}
use Rattle.std.proofs.lemmas.Bool.{le-ltb}
use Rattle.std.specs.Int.Signed.{lt_z}
use Rattle.exp_golomb.specs.Code.{place_of}
use Rattle.exp_golomb.specs.Element.{value_at}
use Rattle.binarisation.specs.Elements.{index_of, delta}
use Rattle.binarisation.specs.Codes.{signed_of}

pub index_of-small : (value : ℕ) → value ≤ 31 → index_of value ≡ Some value
index_of-small value h = grind (arith, nat_tests)

value_at-even : (n : ℕ) → value_at (2 * n + 2) ≡ negsuc n
value_at-even n =
    let half : (2 * n + 2) / 2 - 1 ≡ n = omega arith in
    let even : (2 * n + 2) % 2 ≡ 0 = omega arith in
    let some : eqb (2 * n + 2) 0 ≡ false = grind (arith, nat_tests) in
    rw (some, even, half) refl

value_at-odd : (n : ℕ) → value_at (2 * n + 1) ≡ pos (suc n)
value_at-odd n =
    let half : (2 * n + 1) / 2 + 1 ≡ suc n = omega arith in
    let odd : (2 * n + 1) % 2 ≡ 1 = omega arith in
    let some : eqb (2 * n + 1) 0 ≡ false = grind (arith, nat_tests) in
    rw (some, odd, half) refl

pub value_at-place_of : (value : ℤ) → value_at (place_of value) ≡ value
value_at-place_of (pos zero) = refl
value_at-place_of (pos (suc n)) = let odd : 2 * suc n - 1 ≡ 2 * n + 1 = omega arith in rw odd (value_at-odd n)
value_at-place_of (negsuc n) = value_at-even n

pub delta-place_of : (value : ℤ) → negsuc 25 ≤ℤ value → value ≤ℤ pos 25 → delta (place_of value) ≡ Some value
delta-place_of value least greatest =
    let is = value_at-place_of value in
    let not_51 : eqb (place_of value) 51 ≡ false = at_51 value greatest in
    let not_53 : eqb (place_of value) 53 ≡ false = at_53 value greatest in
    rw (not_51, not_53, is) refl
  where
    at_51 : (value : ℤ) → value ≤ℤ pos 25 → eqb (place_of value) 51 ≡ false
    at_51 (pos n) h = let small : n ≤ 25 = omega (arith, ints) in grind (arith, nat_tests)
    at_51 (negsuc n) h = grind (arith, nat_tests)

    at_53 : (value : ℤ) → value ≤ℤ pos 25 → eqb (place_of value) 53 ≡ false
    at_53 (pos n) h = let small : n ≤ 25 = omega (arith, ints) in grind (arith, nat_tests)
    at_53 (negsuc n) h = grind (arith, nat_tests)

pub signed_of-back : (value : ℤ) → signed_of (unsigned_abs value) (lt_z value (pos 0)) ≡ value
signed_of-back (pos zero) = refl
signed_of-back (pos (suc n)) = let e : ltb (suc n) 0 ≡ false = le-ltb (suc n) 0 (omega arith) in rw e refl
signed_of-back (negsuc n) = refl
