-- Numbers of bits that a carry may still change: some that are held back, and then ones.
use Rattle.std.proofs.Common.{◌≡◌, ℕ, zero, suc, ◌+◌, ◌*◌, ◌^◌, ◌<◌, Bool, true, false, not, List, ◌++◌, length, replicate, refl, ap, ◌∙◌, arith, length-append, append_assoc}
use Rattle.std.specs.Prelude.{Result, Ok, Err, OnOk}
use Rattle.std.specs.Int.{from_bool}
use Rattle.std.proofs.lemmas.List.{length-replicate, replicate-append-replicate}
use Rattle.std.proofs.lemmas.Nat.{pow-add}
use Rattle.bit_texts.specs.Bits.{number, binary}
use Rattle.bit_texts.specs.Texts.{Appended, Appends}
use Rattle.bit_texts.proofs.Numbers.{number-nil, number-cons, number-append, number-binary, number-same, length-binary, pow_suc}
use Rattle.cabac_engine.specs.LowBits.{Adds}

number_of_ones : (n : ℕ) → number (replicate n true) + 1 ≡ 2 ^ n
number_of_ones zero = omega (arith, number-nil)
number_of_ones (suc n) =
    let size = ap (λ k. 2 ^ k) (length-replicate n true) in
    omega (arith, number-cons true (replicate n true), size, number_of_ones n, pow_suc n)

number_of_zeros : (n : ℕ) → number (replicate n false) ≡ 0
number_of_zeros zero = number-nil
number_of_zeros (suc n) = omega (arith, number-cons false (replicate n false), number_of_zeros n)

-- the bits of a sink, c held back that write h, and o outstanding ones
abbrev pub pending : List Bool → ℕ → ℕ → ℕ → List Bool
pending s c h o = s ++ binary c h ++ replicate o true

pub pending_size : (s : List Bool) (c h o : ℕ) → length (pending s c h o) ≡ length s + c + o
pending_size s c h o =
    omega (arith, length-append (s ++ binary c h) (replicate o true), length-append s (binary c h), length-binary c h, length-replicate o true)

-- the number of bits behind those of a sink
behind : (s : List Bool) (c v : ℕ) → v < 2 ^ c → number (s ++ binary c v) ≡ number s * 2 ^ c + v
behind s c v h =
    number-append s (binary c v) ∙ ap (λ k. number s * 2 ^ k + number (binary c v)) (length-binary c v)
    ∙ ap (λ k. number s * 2 ^ c + k) (number-binary c v h)

-- a number of bits, and then of equal ones
and_equal : (xs : List Bool) (o : ℕ) (b : Bool) → number (xs ++ replicate o b) ≡ number xs * 2 ^ o + number (replicate o b)
and_equal xs o b = number-append xs (replicate o b) ∙ ap (λ k. number xs * 2 ^ k + number (replicate o b)) (length-replicate o b)

pub pending_number : (s : List Bool) (c h o : ℕ) → h < 2 ^ c → number (pending s c h o) + 1 ≡ (number s * 2 ^ c + h + 1) * 2 ^ o
pending_number s c h o small =
    let upper : number (s ++ binary c h) * 2 ^ o ≡ (number s * 2 ^ c + h) * 2 ^ o = ap (λ k. k * 2 ^ o) (behind s c h small) in
    omega (arith, and_equal (s ++ binary c h) o true, upper, number_of_ones o)

pub record Plain (s xs : List Bool) : Type 0 where
  pub size : length xs ≡ length s
  pub number_is : number xs ≡ number s

-- none but the bits of the sink, where none are held back
pub plain : (s : List Bool) (c h o : ℕ) → c ≡ 0 → h < 2 ^ c → o ≡ 0 → Plain s (pending s c h o)
plain s c h o none small no_ones =
    let once : 2 ^ c ≡ 1 = ap (λ k. 2 ^ k) none in
    let low : (number s * 2 ^ c + h + 1) * 2 ^ o ≡ (number s * 2 ^ c + h + 1) * 1 = ap (λ k. (number s * 2 ^ c + h + 1) * 2 ^ k) no_ones in
    let upper : number s * 2 ^ c ≡ number s * 1 = ap (λ k. number s * k) once in
    record {
      size = omega (arith, pending_size s c h o, none, no_ones);
      number_is = omega (arith, pending_number s c h o small, low, upper, small, once);
    }

pub plain_is : (s : List Bool) (c h o : ℕ) → c ≡ 0 → h < 2 ^ c → o ≡ 0 → pending s c h o ≡ s
plain_is s c h o none small no_ones = let p = plain s c h o none small no_ones in number-same (pending s c h o) s p.size p.number_is

-- what is put behind bits that a carry was added to
pub Adds-then : (n b v w : ℕ) (old mid new : List Bool) → Adds 0 b old mid → Adds n v mid new → b * 2 ^ n + v ≡ w → Adds n w old new
Adds-then n b v w old mid new x y e =
    let upper : number mid * 2 ^ n ≡ (number old * 1 + b) * 2 ^ n = ap (λ k. k * 2 ^ n) x.number_is in
    record { size = omega (arith, x.size, y.size); number_is = omega (arith, y.number_is, upper, e) }

-- ---- the pending bits are written

settled_number : (s mid new old : List Bool) (c h o v : ℕ) (b : Bool) → number old + 1 ≡ (number s * 2 ^ c + h + 1) * 2 ^ o
    → v ≡ h + from_bool b → number mid ≡ number s * 2 ^ c + v → number new ≡ number mid * 2 ^ o + number (replicate o (not b)) → number new ≡ number old + from_bool b
settled_number s mid new old c h o v true before e m n =
    let upper : number mid * 2 ^ o ≡ (number s * 2 ^ c + (h + 1)) * 2 ^ o = ap (λ k. k * 2 ^ o) (m ∙ ap (λ k. number s * 2 ^ c + k) e) in
    omega (arith, before, n, upper, number_of_zeros o)
settled_number s mid new old c h o v false before e m n =
    let upper : number mid * 2 ^ o ≡ (number s * 2 ^ c + (h + 0)) * 2 ^ o = ap (λ k. k * 2 ^ o) (m ∙ ap (λ k. number s * 2 ^ c + k) e) in
    omega (arith, before, n, upper, number_of_ones o)

pub Adds-settled : (s mid new old : List Bool) (c h o v o' : ℕ) (b : Bool) → old ≡ pending s c h o → h < 2 ^ c → v < 2 ^ c → v ≡ h + from_bool b
    → Appended s mid (binary c v) → new ≡ mid ++ replicate o (not b) → o' ≡ 0 → Adds 0 (from_bool b) old (pending new 0 0 o')
Adds-settled s mid new old c h o v o' b was small fits e put released none =
    let p = plain new 0 0 o' refl (omega arith) none in
    let before : number old + 1 ≡ (number s * 2 ^ c + h + 1) * 2 ^ o = ap (λ x. number x + 1) was ∙ pending_number s c h o small in
    let value = settled_number s mid new old c h o v b before e (ap number put.is ∙ behind s c v fits) (ap number released ∙ and_equal mid o (not b)) in
    let grown = ap length released ∙ length-append mid (replicate o (not b)) in
    let put_size = ap length put.is ∙ length-append s (binary c v) in
    record {
      size = omega (arith, p.size, grown, put_size, length-binary c v, length-replicate o (not b), ap length was, pending_size s c h o);
      number_is = omega (arith, p.number_is, value);
    }

-- n of the equal bits that are still to come were put
pub released : (bits now all : List Bool) (n rest total : ℕ) (b : Bool) → now ≡ bits ++ replicate n b → n + rest ≡ total → bits ++ replicate total b ≡ all → now ++ replicate rest b ≡ all
released bits now all n rest total b put e h =
    ap (λ x. x ++ replicate rest b) put ∙ append_assoc bits (replicate n b) (replicate rest b)
    ∙ ap (λ x. bits ++ x) (replicate-append-replicate n rest b) ∙ ap (λ k. bits ++ replicate k b) e ∙ h

-- ---- bits are appended

-- they are held back
pub Adds-held : (s mid : List Bool) (c h o n v : ℕ) → mid ≡ pending s c h o → c ≡ 0 → h < 2 ^ c → o ≡ 0 → v < 2 ^ n → Adds n v mid (pending s n v o)
Adds-held s mid c h o n v was none small no_ones fits =
    let p = plain s c h o none small no_ones in
    let count : number mid ≡ number s = ap number was ∙ p.number_is in
    let upper : number mid * 2 ^ n ≡ number s * 2 ^ n = ap (λ k. k * 2 ^ n) count in
    let now : (number s * 2 ^ n + v + 1) * 2 ^ o ≡ (number s * 2 ^ n + v + 1) * 1 = ap (λ k. (number s * 2 ^ n + v + 1) * 2 ^ k) no_ones in
    record {
      size = omega (arith, pending_size s n v o, ap length was, p.size, no_ones);
      number_is = omega (arith, pending_number s n v o fits, now, upper);
    }

-- they are written
pub Adds-written : (s new old : List Bool) (c h o n v : ℕ) → old ≡ pending s c h o → c ≡ 0 → h < 2 ^ c → o ≡ 0 → v < 2 ^ n → Appended s new (binary n v) → Adds n v old (pending new c h o)
Adds-written s new old c h o n v was none small no_ones fits put =
    let p = plain s c h o none small no_ones in
    let q = plain new c h o none small no_ones in
    let count : number old ≡ number s = ap number was ∙ p.number_is in
    let upper : number old * 2 ^ n ≡ number s * 2 ^ n = ap (λ k. k * 2 ^ n) count in
    let value = ap number put.is ∙ behind s n v fits in
    record {
      size = omega (arith, q.size, ap length was, p.size, ap length put.is, length-append s (binary n v), length-binary n v);
      number_is = omega (arith, q.number_is, value, upper);
    }

-- they are outstanding
pub Adds-outstanding : (s old : List Bool) (c h o o' n v : ℕ) → old ≡ pending s c h o → h < 2 ^ c → v + 1 ≡ 2 ^ n → o' ≡ o + n → Adds n v old (pending s c h o')
Adds-outstanding s old c h o o' n v was small ones more =
    let base = number s * 2 ^ c + h + 1 in
    let before : (number old + 1) * 2 ^ n ≡ base * 2 ^ o * 2 ^ n = ap (λ k. k * 2 ^ n) (ap (λ x. number x + 1) was ∙ pending_number s c h o small) in
    let power : 2 ^ o' ≡ 2 ^ o * 2 ^ n = ap (λ k. 2 ^ k) more ∙ pow-add 2 o n in
    let now : number (pending s c h o') + 1 ≡ base * (2 ^ o * 2 ^ n) = pending_number s c h o' small ∙ ap (λ k. base * k) power in
    record {
      size = omega (arith, pending_size s c h o', ap length was, pending_size s c h o, more);
      number_is = omega (arith, now, before, ones);
    }

pub OnOk-Appends : {T E : Type 0} (old new text : List Bool) (r : Result T E) → Appends old new text r → OnOk r (Appended old new text)
OnOk-Appends old new text (Ok x) a = a
OnOk-Appends old new text (Err e) a = tt
