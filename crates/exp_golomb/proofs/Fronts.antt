-- For each kind of code: what is written is found again, whatever follows, and what is found has that code.
use Rattle.std.proofs.Common.{◌≡◌, ℕ, zero, suc, ℤ, pos, negsuc, ◌+◌, ◌-◌, ◌*◌, ◌/◌, ◌%◌, ◌^◌, ◌<◌, ◌≤◌, min, Bool, true, false, cond, eqb, leb, List, [], ◌∷◌, ◌++◌, length, replicate, drop, length-append, lt-ltb, Option, Some, None, refl, sym, ap, ◌∙◌, arith, inl, inr}
use Rattle.std.proofs.lemmas.Bool.{ltb-true, leb-true, le-leb, cases_lt}
use Rattle.std.proofs.lemmas.Bool.Decides.{nat_tests}
use Rattle.std.specs.Prelude.{◌≤ℤ◌, ◌&&◌, not, MatchOption}
use Rattle.std.proofs.lemmas.Int.{ints}
use lib.Dec.{T}
use Rattle.std.proofs.Math.Bool.{and-true, and-false}
use mir.Val.{bool_byte}
use Rattle.std.specs.Int.RustNames.{int_le}
use Rattle.bit_texts.specs.Bits.{binary}
use Rattle.bit_texts.specs.Bits.{TakesNumber}
use Rattle.bit_texts.specs.Cursor.{cursor}
use Rattle.bit_texts.specs.Texts.{Reads, IsPrefixFree}
use Rattle.bit_texts.specs.Readings.{Gives, Inverts}
use Rattle.bit_texts.proofs.Reading.{Reads-same, TakesNumber-from_binary, short_of_binary}
use Rattle.bit_texts.proofs.Inverting.{Keeps-from_kept, Gives-at_cursor, at_cursor-inverts}
use Rattle.exp_golomb.specs.Code.{Kind, Flag, U, Ue, Te, Se, Value, is_in_range, IsIn, code, place_of, zeros_of, ue, te, se}
use Rattle.exp_golomb.specs.Element.{flag_at, zeros, number_at, made, ue_at, te_at, se_at, value_at, within, front, element_at}
use Rattle.bit_texts.proofs.Numbers.{length-binary, number-binary, pow_most}
use Rattle.exp_golomb.proofs.Golomb.{made_some, number_at-front, number_at-takes, ue_again, ue_takes, ue_at-is, ue_at-none, zeros-rest, zeros-split, ue-parts}

small : (greatest value : ℕ) → leb value (min greatest 4294967294) ≡ true → (value ≤ greatest) × (value < 4294967295)
small greatest value h = grind (arith, nat_tests)

some_is : {A : Type 0} (x y : A) → Some x ≡ Some y → x ≡ y
some_is x y h = cc

-- ---- te(v)

te_again : (greatest value : ℕ) (rest : List Bool) → value ≤ greatest → value < 4294967295 → te_at greatest (te greatest value ++ rest) ≡ Some (value, rest)
unfolding te te_at flag_at
te_again zero value rest h k = ue_again value rest k
te_again (suc zero) zero rest h k = refl
te_again (suc zero) (suc zero) rest h k = refl
te_again (suc zero) (suc (suc value)) rest h k = absurd (omega arith)
te_again (suc (suc greatest)) value rest h k =
    let long : eqb (suc (suc greatest)) 1 ≡ false = grind (arith, nat_tests) in
    rw long (ue_again value rest k)

inverted : (b : Bool) → eqb (cond b 0 1) 0 ≡ b
inverted true = refl
inverted false = refl

te_takes : (greatest : ℕ) (bits : List Bool) (value : ℕ) (rest : List Bool) → te_at greatest bits ≡ Some (value, rest) → value < 4294967295 → bits ≡ te greatest value ++ rest
unfolding te te_at flag_at
te_takes zero bits value rest h k = ue_takes bits value rest h k
te_takes (suc zero) [] value rest h k = absurd cc
te_takes (suc zero) (b ∷ bits) value rest h k =
    let same : ◌≡◌ {A = ℕ × List Bool} (cond b 0 1, bits) (value, rest) = some_is (cond b 0 1, bits) (value, rest) h in
    let bit_is : eqb (cond b 0 1) 0 ≡ b = inverted b in
    rw (← ap (λ (p : ℕ × List Bool). p.1) same, ← ap (λ (p : ℕ × List Bool). p.0) same, bit_is) refl
te_takes (suc (suc greatest)) bits value rest h k =
    let long : eqb (suc (suc greatest)) 1 ≡ false = grind (arith, nat_tests) in
    rw long (ue_takes bits value rest (rw long at h) k)

-- ---- se(v)

value_at-even : (n : ℕ) → value_at (2 * n + 2) ≡ negsuc n
value_at-even n =
    let not_zero : eqb (2 * n + 2) 0 ≡ false = grind (arith, nat_tests) in
    let parity : (2 * n + 2) % 2 ≡ 0 = omega arith in
    let half : (2 * n + 2) / 2 - 1 ≡ n = omega arith in
    rw (not_zero, parity, half) refl

value_at-odd : (n : ℕ) → value_at (2 * n + 1) ≡ pos (suc n)
value_at-odd n =
    let not_zero : eqb (2 * n + 1) 0 ≡ false = grind (arith, nat_tests) in
    let parity : (2 * n + 1) % 2 ≡ 1 = omega arith in
    let half : (2 * n + 1) / 2 + 1 ≡ suc n = omega arith in
    rw (not_zero, parity, half) refl

value_at-place_of : (value : ℤ) → value_at (place_of value) ≡ value
value_at-place_of (pos zero) = refl
value_at-place_of (pos (suc n)) = let odd : 2 * suc n - 1 ≡ 2 * n + 1 = omega arith in rw odd (value_at-odd n)
value_at-place_of (negsuc n) = value_at-even n

place_of-value_at : (place : ℕ) → place_of (value_at place) ≡ place
place_of-value_at zero = refl
place_of-value_at (suc n) =
    elim (cases_lt (suc n % 2) 1) [
      | inl lt ↦ let even : suc n ≡ 2 * (suc n / 2 - 1) + 2 = omega arith in ap (λ (k : ℕ). place_of (value_at k)) even ∙ ap place_of (value_at-even (suc n / 2 - 1)) ∙ sym even
      | inr le ↦ let odd : suc n ≡ 2 * (suc n / 2) + 1 = omega arith in ap (λ (k : ℕ). place_of (value_at k)) odd ∙ ap place_of (value_at-odd (suc n / 2)) ∙ (omega arith)
    ]

pub both : (a b : Bool) → (a && b) ≡ true → (a ≡ true) × (b ≡ true)
both true true h = (refl, refl)
both true false h = absurd cc
both false b h = absurd cc

signed_range : (least greatest value : ℤ) → is_in_range (Se least greatest) value ≡ true → place_of value < 4294967295
signed_range least greatest value h = omega (arith, leb-true (place_of value) 4294967294 (both (int_le least value && int_le value greatest) (leb (place_of value) 4294967294) h).1)

within_some : (kind : Kind) (o : Option (Value kind × List Bool)) (y : Value kind × List Bool) → within kind o ≡ Some y → (o ≡ Some y) × (is_in_range kind y.0 ≡ true)
within_some kind None y h = absurd cc
within_some kind (Some x) y h = ranged (is_in_range kind x.0) x y refl h
  where
    ranged : (b : Bool) (x y : Value kind × List Bool) → is_in_range kind x.0 ≡ b → cond b (Some x) None ≡ Some y → (Some x ≡ Some y) × (is_in_range kind y.0 ≡ true)
    ranged true x y e h = (h, rw (← some_is x y h) e)
    ranged false x y e h = absurd cc

-- ---- any kind

-- what was written is found again, whatever follows
pub front_again : (kind : Kind) (value : Value kind) (rest : List Bool) → is_in_range kind value ≡ true → front kind (code kind value ++ rest) ≡ Some (value, rest)
unfolding front flag_at se_at se
front_again Flag value rest h = refl
front_again (U n) value rest h =
    let below : value < 2 ^ n = ltb-true _ _ h in
    let found : number_at n (binary n value ++ rest) ≡ Some (value, rest) = number_at-front n (binary n value) rest (length-binary n value) ∙ ap (λ (k : ℕ). Some (k, rest)) (number-binary n value below) in
    ap (within (U n)) found ∙ rw h refl
front_again (Ue greatest) value rest h = rw (ue_again value rest (small greatest value h).1, h) refl
front_again (Te greatest) value rest h = let k = small greatest value h in rw (te_again greatest value rest k.0 k.1, h) refl
front_again (Se least greatest) value rest h =
    let found = ue_again (place_of value) rest (signed_range least greatest value h) in
    rw (found, value_at-place_of value, h) refl

-- what is found has that code, and is in range
pub front_takes : (kind : Kind) (bits : List Bool) (value : Value kind) (rest : List Bool) → front kind bits ≡ Some (value, rest) → (is_in_range kind value ≡ true) × (bits ≡ code kind value ++ rest)
unfolding front flag_at se_at se
front_takes Flag [] value rest h = absurd cc
front_takes Flag (b ∷ bits) value rest h = (refl, ap (λ (p : Bool × List Bool). p.0 ∷ p.1) (some_is (b, bits) (value, rest) h))
front_takes (U n) bits value rest h =
    let w = within_some (U n) (number_at n bits) (value, rest) h in
    (w.1, (number_at-takes n bits value rest w.0).1)
front_takes (Ue greatest) bits value rest h =
    let w = within_some (Ue greatest) (ue_at bits) (value, rest) h in
    (w.1, ue_takes bits value rest w.0 (small greatest value w.1).1)
front_takes (Te greatest) bits value rest h =
    let w = within_some (Te greatest) (te_at greatest bits) (value, rest) h in
    (w.1, te_takes greatest bits value rest w.0 (small greatest value w.1).1)
front_takes (Se least greatest) bits value rest h =
    let w = within_some (Se least greatest) (made value_at (ue_at bits)) (value, rest) h in
    let m = made_some value_at (ue_at bits) value rest w.0 in
    let place : place_of value ≡ m.0 = ap place_of (sym m.2) ∙ place_of-value_at m.0 in
    (w.1, rw place (ue_takes bits m.0 rest m.1 (rw (← place) (signed_range least greatest value w.1))))

-- ---- what a reader ensures

abbrev nothing : {A : Type 0} → Option A
nothing = None

-- what is read is the value whose code begins the bits
pub Reads-from_front : (kind : Kind) (result : Option (Value kind)) (old new : List Bool) → Gives result new (front kind old) → Reads (IsIn kind) (code kind) old result new
Reads-from_front kind None old new h = λ value rest in_range e.
    let found = front_again kind value rest in_range in
    let none : front kind (code kind value ++ rest) ≡ nothing = ap (front kind) (sym e) ∙ h in
    absurd cc
Reads-from_front kind (Some value) old new h = front_takes kind old value new h

-- and the same at a cursor
pub element_at-from_front : (kind : Kind) (result : Option (Value kind)) (taken left taken' left' : List Bool) → Gives result left' (front kind left) → taken' ++ left' ≡ taken ++ left
    → Gives result (cursor (length taken') left') (element_at kind (cursor (length taken) left))
element_at-from_front kind result taken left taken' left' h kept = Gives-at_cursor (front kind) result (cursor (length taken) left) (cursor (length taken') left') h (Keeps-from_kept taken left taken' left' kept)

pub Gives-flag : (result : Option Bool) (old new : List Bool) → MatchOption result ((old ≡ []) × (new ≡ [])) (λ bit. old ≡ bit ∷ new) → Gives result new (front Flag old)
unfolding front flag_at
Gives-flag None old new h = rw h.0 refl
Gives-flag (Some b) old new h = rw h refl

pub element-inverts : (kind : Kind) → Inverts (IsIn kind) (λ n. code kind) (element_at kind)
element-inverts kind = at_cursor-inverts (IsIn kind) (code kind) (front kind) (front_takes kind) (front_again kind)

-- ---- the same by the range of each code

pub in_u : (n value : ℕ) → value < 2 ^ n → is_in_range (U n) value ≡ true
in_u n value h = lt-ltb value (2 ^ n) h

pub in_ue : (greatest value : ℕ) → value ≤ greatest → greatest ≤ 4294967294 → is_in_range (Ue greatest) value ≡ true
in_ue greatest value h k = grind (arith, nat_tests)

pub in_se : (least greatest value : ℤ) → least ≤ℤ value → value ≤ℤ greatest → negsuc 2147483646 ≤ℤ least → greatest ≤ℤ pos 2147483647 → is_in_range (Se least greatest) value ≡ true
in_se least greatest value h k l m =
    let low : negsuc 2147483646 ≤ℤ value = omega (arith, ints) in
    let high : value ≤ℤ pos 2147483647 = omega (arith, ints) in
    all_three (int_le least value) (int_le value greatest) (leb (place_of value) 4294967294) (true_from_T _ h.le) (true_from_T _ k.le) (le-leb _ _ (place_most value low high))
  where
    true_from_T : (b : Bool) → T b → b ≡ true
    true_from_T true t = refl
    true_from_T false t = absurd t

    place_most : (value : ℤ) → negsuc 2147483646 ≤ℤ value → value ≤ℤ pos 2147483647 → place_of value ≤ 4294967294
    place_most (pos n) h k = omega (arith, ints)
    place_most (negsuc n) h k = omega (arith, ints)

    all_three : (a b c : Bool) → a ≡ true → b ≡ true → c ≡ true → (a && b && c) ≡ true
    all_three a b c h k l = rw (h, k, l) refl

se_bounds : (least greatest value : ℤ) → is_in_range (Se least greatest) value ≡ true → (least ≤ℤ value) × (value ≤ℤ greatest)
se_bounds least greatest value h =
    let bounds = both (int_le least value) (int_le value greatest) (both (int_le least value && int_le value greatest) (leb (place_of value) 4294967294) h).0 in
    (record { le = T_from_true _ bounds.0 }, record { le = T_from_true _ bounds.1 })
  where
    T_from_true : (b : Bool) → b ≡ true → T b
    T_from_true true e = tt
    T_from_true false e = absurd cc

pub Reads-u : (n : ℕ) (result : Option ℕ) (old new : List Bool) → Gives result new (front (U n) old) → Reads (λ v. v < 2 ^ n) (binary n) old result new
Reads-u n result old new h = Reads-same (IsIn (U n)) (λ v. v < 2 ^ n) (binary n) old result new (λ v p. ltb-true v (2 ^ n) p) (in_u n) (Reads-from_front (U n) result old new h)

pub Reads-ue : (greatest : ℕ) (result : Option ℕ) (old new : List Bool) → greatest ≤ 4294967294 → Gives result new (front (Ue greatest) old) → Reads (λ v. v ≤ greatest) ue old result new
Reads-ue greatest result old new k h = Reads-same (IsIn (Ue greatest)) (λ v. v ≤ greatest) ue old result new (λ v p. (small greatest v p).0) (λ v p. in_ue greatest v p k) (Reads-from_front (Ue greatest) result old new h)

pub Reads-te : (greatest : ℕ) (result : Option ℕ) (old new : List Bool) → greatest ≤ 4294967294 → Gives result new (front (Te greatest) old) → Reads (λ v. v ≤ greatest) (te greatest) old result new
Reads-te greatest result old new k h = Reads-same (IsIn (Te greatest)) (λ v. v ≤ greatest) (te greatest) old result new (λ v p. (small greatest v p).0) (λ v p. in_ue greatest v p k) (Reads-from_front (Te greatest) result old new h)

pub Reads-se : (least greatest : ℤ) (result : Option ℤ) (old new : List Bool) → negsuc 2147483646 ≤ℤ least → greatest ≤ℤ pos 2147483647 → Gives result new (front (Se least greatest) old)
    → Reads (λ v. (least ≤ℤ v) × (v ≤ℤ greatest)) se old result new
Reads-se least greatest result old new k l h =
    Reads-same (IsIn (Se least greatest)) (λ v. (least ≤ℤ v) × (v ≤ℤ greatest)) se old result new (se_bounds least greatest) (λ v p. in_se least greatest v p.0 p.1 k l) (Reads-from_front (Se least greatest) result old new h)

pub Reads-flag : (result : Option Bool) (old new : List Bool) → MatchOption result ((old ≡ []) × (new ≡ [])) (λ bit. old ≡ bit ∷ new) → MatchOption result (old ≡ []) (λ flag. old ≡ flag ∷ new)
Reads-flag None old new h = h.0
Reads-flag (Some b) old new h = h

-- a read of u(n) as a number that is taken
pub TakesNumber-from_Reads : (n value : ℕ) (old new : List Bool) → Reads (λ v. v < 2 ^ n) (binary n) old (Some value) new → TakesNumber n value old new
TakesNumber-from_Reads n value old new h = TakesNumber-from_binary n value old new h.0 h.1

pub short_from_Reads : (n : ℕ) (old new : List Bool) → Reads (λ v. v < 2 ^ n) (binary n) old None new → length old < n
short_from_Reads n old new h = short_of_binary n old h

-- ---- reading ue(v) by its zeros

-- u(n) is always in range
pub number_at-from_front : (n : ℕ) (bits : List Bool) → front (U n) bits ≡ number_at n bits
unfolding front
number_at-from_front n bits = ranged (number_at n bits) refl
  where
    ranged : (o : Option (ℕ × List Bool)) → number_at n bits ≡ o → within (U n) o ≡ o
    ranged None e = refl
    ranged (Some x) e = rw (lt-ltb x.0 (2 ^ n) (number_at-takes n bits x.0 x.1 e).0) refl

-- the number behind the zeros is in range or not
ue_value : (greatest z : ℕ) (bits rest : List Bool) → bits ≡ replicate z false ++ true ∷ rest → front (Ue greatest) bits ≡ within (Ue greatest) (made (λ n. 2 ^ z + n - 1) (number_at z rest))
unfolding front
ue_value greatest z bits rest e = ap (within (Ue greatest)) (ap ue_at e ∙ ue_at-is z rest)

-- 32 zeros begin no code
pub ue_long : (greatest : ℕ) (bits : List Bool) → 32 ≤ zeros bits → front (Ue greatest) bits ≡ None
unfolding front
ue_long greatest bits long =
    let z = zeros bits in
    elim (zeros-rest bits) [
      | inl none ↦ rw (ue_at-none bits none) refl
      | inr behind ↦
          let parts : bits ≡ replicate z false ++ true ∷ behind.0 = zeros-split bits ∙ ap (λ (x : List Bool). replicate z false ++ x) behind.1 in
          ue_value greatest z bits behind.0 parts ∙ big (number_at z behind.0) z long
    ]
  where
    big : (o : Option (ℕ × List Bool)) (z : ℕ) → 32 ≤ z → within (Ue greatest) (made (λ n. 2 ^ z + n - 1) o) ≡ None
    big None z h = refl
    big (Some x) z h =
        let above : leb (2 ^ z + x.0 - 1) (min greatest 4294967294) ≡ false = let p = pow_most 32 z h in grind (arith, nat_tests) in
        rw above refl

pub ue_without_one : (greatest : ℕ) (bits : List Bool) → drop (zeros bits) bits ≡ [] → front (Ue greatest) bits ≡ None
unfolding front
ue_without_one greatest bits none = rw (ue_at-none bits none) refl

-- ---- reading te(v) and se(v)

pub te_long : (greatest : ℕ) (bits : List Bool) → 1 < greatest → front (Te greatest) bits ≡ front (Ue greatest) bits
unfolding front te_at
te_long greatest bits h =
    let long : eqb greatest 1 ≡ false = grind (arith, nat_tests) in
    rw long (same (ue_at bits))
  where
    same : (o : Option (ℕ × List Bool)) → within (Te greatest) o ≡ within (Ue greatest) o
    same None = refl
    same (Some x) = refl

pub te_none : (greatest : ℕ) (bits : List Bool) → 1 ≤ greatest → greatest ≤ 1 → bits ≡ [] → front (Te greatest) bits ≡ None
unfolding front te_at flag_at
te_none greatest bits h k e = let one : greatest ≡ 1 = omega arith in rw (one, e) refl

pub te_bit : (greatest : ℕ) (bits : List Bool) (b : Bool) (rest : List Bool) → 1 ≤ greatest → greatest ≤ 1 → bits ≡ b ∷ rest → front (Te greatest) bits ≡ Some (bool_byte (not b), rest)
unfolding front te_at flag_at
te_bit greatest bits true rest h k e = let one : greatest ≡ 1 = omega arith in rw (one, e) refl
te_bit greatest bits false rest h k e = let one : greatest ≡ 1 = omega arith in rw (one, e) refl

pub te_reads : (greatest : ℕ) (result : Option ℕ) (old new : List Bool) → 1 < greatest → Gives result new (front (Ue greatest) old) → Gives result new (front (Te greatest) old)
te_reads greatest None old new h r = te_long greatest old h ∙ r
te_reads greatest (Some value) old new h r = te_long greatest old h ∙ r

-- a signed value is read by its place
se_at-place : (place : Option (ℕ × List Bool)) (least greatest : ℤ) → within (Ue 4294967294) place ≡ None → within (Se least greatest) (made value_at place) ≡ None
se_at-place None least greatest h = refl
se_at-place (Some x) least greatest h =
    let high : leb x.0 4294967294 ≡ false = refused (leb x.0 4294967294) h in
    let place : leb (place_of (value_at x.0)) 4294967294 ≡ false = rw (place_of-value_at x.0) high in
    rw (place, and-false (int_le least (value_at x.0) && int_le (value_at x.0) greatest)) refl
  where
    refused : (b : Bool) → cond b (Some x) None ≡ nothing → b ≡ false
    refused true e = absurd cc
    refused false e = refl

pub se_cut : (least greatest : ℤ) (bits : List Bool) → front (Ue 4294967294) bits ≡ None → front (Se least greatest) bits ≡ None
unfolding front se_at
se_cut least greatest bits h = se_at-place (ue_at bits) least greatest h

se_place : (least greatest : ℤ) (place : ℕ) (bits rest : List Bool) → front (Ue 4294967294) bits ≡ Some (place, rest)
    → (place ≤ 4294967294) × (front (Se least greatest) bits ≡ (cond (int_le least (value_at place) && int_le (value_at place) greatest) (Some (value_at place, rest)) None))
unfolding front se_at
se_place least greatest place bits rest h =
    let w = within_some (Ue 4294967294) (ue_at bits) (place, rest) h in
    let small : leb (place_of (value_at place)) 4294967294 ≡ true = rw (place_of-value_at place) w.1 in
    (leb-true _ _ w.1, rw (w.0, small, and-true (int_le least (value_at place) && int_le (value_at place) greatest)) refl)

pub se_place-most : (place : ℕ) (bits rest : List Bool) → front (Ue 4294967294) bits ≡ Some (place, rest) → place ≤ 4294967294
se_place-most place bits rest h = (se_place (pos 0) (pos 0) place bits rest h).0

pub se_found : (least greatest value : ℤ) (place : ℕ) (bits rest : List Bool) → front (Ue 4294967294) bits ≡ Some (place, rest) → value ≡ value_at place
    → int_le least value ≡ true → int_le value greatest ≡ true → front (Se least greatest) bits ≡ Some (value, rest)
se_found least greatest value place bits rest h is low high =
    let low' : int_le least (value_at place) ≡ true = rw is at low in
    let high' : int_le (value_at place) greatest ≡ true = rw is at high in
    (se_place least greatest place bits rest h).1 ∙ rw (low', high', is) refl

pub se_low : (least greatest value : ℤ) (place : ℕ) (bits rest : List Bool) → front (Ue 4294967294) bits ≡ Some (place, rest) → value ≡ value_at place
    → int_le least value ≡ false → front (Se least greatest) bits ≡ None
se_low least greatest value place bits rest h is low = let low' : int_le least (value_at place) ≡ false = rw is at low in (se_place least greatest place bits rest h).1 ∙ rw low' refl

pub se_high : (least greatest value : ℤ) (place : ℕ) (bits rest : List Bool) → front (Ue 4294967294) bits ≡ Some (place, rest) → value ≡ value_at place
    → int_le value greatest ≡ false → front (Se least greatest) bits ≡ None
se_high least greatest value place bits rest h is high =
    let high' : int_le (value_at place) greatest ≡ false = rw is at high in
    (se_place least greatest place bits rest h).1 ∙ rw (high', and-false (int_le least (value_at place))) refl

-- no code of a kind begins another one of that kind
pub IsPrefixFree-code : (kind : Kind) → IsPrefixFree (IsIn kind) (code kind)
IsPrefixFree-code kind first second x y h k e =
    let same : ◌≡◌ {A = Value kind × List Bool} (first, x) (second, y) = some_is (first, x) (second, y) (sym (front_again kind first x h) ∙ ap (front kind) e ∙ front_again kind second y k) in
    ap (λ (p : Value kind × List Bool). p.0) same

-- a code of ue(v) has at least one bit
pub ue_shorter : (greatest value : ℕ) (bits rest : List Bool) → front (Ue greatest) bits ≡ Some (value, rest) → length rest < length bits
ue_shorter greatest value bits rest h =
    let took = front_takes (Ue greatest) bits value rest h in
    let parts = ue-parts value (small greatest value took.0).1 in
    let z = zeros_of value in
    omega (arith, ap length took.1, length-append (ue value) rest, ap length parts, length-append (replicate z false) (true ∷ binary z (value + 1 - 2 ^ z)))
