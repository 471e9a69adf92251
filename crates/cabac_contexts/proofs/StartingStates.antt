-- The state of a context at the start of a slice, as machine numbers give it.
use Rattle.std.proofs.Common.{◌≡◌, ℕ, zero, suc, ◌*◌, ◌<◌, ◌≤◌, ℤ, pos, negsuc, ◌+ℤ◌, ◌*ℤ◌, ◌≤ℤ◌, neg_ℤ, nat_abs, w8, w16, w32, SFits, to_z, of_z, to_z-of_z, refl, ap, ◌∙◌, arith}
use Rattle.std.specs.Int.{int_max, int_min}
use Rattle.std.specs.Int.Signed.{mag, mag_shr, shr_z}
use Rattle.std.proofs.Math.Nat.{mul-le-mul_left}
use Rattle.std.proofs.lemmas.Int.{ints, clamps}
use Rattle.cabac_contexts.specs.Initial.{shifted, clipped, pre_state}

mag_negative : (r : ℕ) → mag (neg_ℤ (pos r)) ≤ r
mag_negative zero = omega arith
mag_negative (suc r) = omega arith

product_small : (m : ℤ) (q : ℕ) → mag m < 128 → q ≤ 51 → mag (m *ℤ pos q) ≤ 6528
product_small (pos a) q h k = let b = mul-le-mul_left a k in omega (arith, b, h)
product_small (negsuc a) q h k = let b = mul-le-mul_left (suc a) k in let c = mag_negative (suc a * q) in omega (arith, b, c, h)

shifted-is : (z : ℤ) → shr_z z 16 ≡ shifted z
shifted-is (pos n) = refl
shifted-is (negsuc n) = refl

sum_fits : (p n : ℤ) → SFits w16 p → SFits w8 n → SFits w32 (p +ℤ n)
sum_fits p n h k = omega (arith, ints)

between_fits : (r : ℤ) → pos 1 ≤ℤ r → r ≤ℤ pos 126 → SFits w32 r
between_fits r h k = omega (arith, ints)

clipped-is : (z r : ℤ) → r ≡ int_max (pos 1) (int_min z (pos 126)) → nat_abs r ≡ clipped z
clipped-is (pos n) r h = grind (arith, ints, clamps)
clipped-is (negsuc n) r h = grind (arith, ints, clamps)

pub pre_state-is : (pair : ℤ × ℤ) (q : ℕ) (a b d r : ℤ) → SFits w8 pair.0 → SFits w8 pair.1 → q ≤ 51
    → a ≡ to_z w8 (of_z w8 pair.0) → b ≡ pos q → d ≡ to_z w8 (of_z w8 pair.1) → pos 1 ≤ℤ r → r ≤ℤ pos 126
    → r ≡ int_max (pos 1) (int_min (to_z w32 (of_z w32 (to_z w32 (of_z w32 (shr_z (to_z w32 (of_z w32 (to_z w32 (of_z w32 a) *ℤ to_z w32 (of_z w32 b)))) 16)) +ℤ to_z w32 (of_z w32 d)))) (pos 126))
    → nat_abs (to_z w32 (of_z w32 r)) ≡ pre_state pair q
pre_state-is pair q a b d r fm fn small ea eb ed low high h =
    let m = pair.0 in
    let n = pair.1 in
    let am : a ≡ m = ea ∙ to_z-of_z fm in
    let dn : d ≡ n = ed ∙ to_z-of_z fn in
    let m32 : SFits w32 m = record { sfits = omega (arith, fm.sfits) } in
    let n32 : SFits w32 n = record { sfits = omega (arith, fn.sfits) } in
    let q32 : SFits w32 (pos q) = record { sfits = omega (arith, small) } in
    let product = product_small m q fm.sfits small in
    let p32 : SFits w32 (m *ℤ pos q) = record { sfits = omega (arith, product) } in
    let shift = mag_shr (m *ℤ pos q) 16 in
    let s32 : SFits w32 (shr_z (m *ℤ pos q) 16) = record { sfits = omega (arith, shift, product) } in
    let t32 : SFits w32 (shr_z (m *ℤ pos q) 16 +ℤ n) = sum_fits (shr_z (m *ℤ pos q) 16) n (record { sfits = omega (arith, shift, product) }) fn in
    let r32 = between_fits r low high in
    let ma : to_z w32 (of_z w32 a) ≡ m = rw am (to_z-of_z m32) in
    let qb : to_z w32 (of_z w32 b) ≡ pos q = rw eb (to_z-of_z q32) in
    let nd : to_z w32 (of_z w32 d) ≡ n = rw dn (to_z-of_z n32) in
    let e1 : to_z w32 (of_z w32 (to_z w32 (of_z w32 a) *ℤ to_z w32 (of_z w32 b))) ≡ m *ℤ pos q = rw ma (rw qb (to_z-of_z p32)) in
    let e2 : to_z w32 (of_z w32 (shr_z (to_z w32 (of_z w32 (to_z w32 (of_z w32 a) *ℤ to_z w32 (of_z w32 b)))) 16)) ≡ shr_z (m *ℤ pos q) 16 = rw e1 (to_z-of_z s32) in
    let e3 : to_z w32 (of_z w32 (to_z w32 (of_z w32 (shr_z (to_z w32 (of_z w32 (to_z w32 (of_z w32 a) *ℤ to_z w32 (of_z w32 b)))) 16)) +ℤ to_z w32 (of_z w32 d))) ≡ shr_z (m *ℤ pos q) 16 +ℤ n = rw e2 (rw nd (to_z-of_z t32)) in
    ap nat_abs (to_z-of_z r32) ∙ clipped-is (shr_z (m *ℤ pos q) 16 +ℤ n) r (h ∙ ap (λ z. int_max (pos 1) (int_min z (pos 126))) e3) ∙ ap (λ z. clipped (z +ℤ n)) (shifted-is (m *ℤ pos q))
