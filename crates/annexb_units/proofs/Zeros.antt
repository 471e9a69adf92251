-- What stands at a zero byte, and what stands before the next one.
use Rattle.std.proofs.Common.{◌≡◌, ℕ, zero, suc, ◌-◌, ◌<◌, ◌≤◌, Bool, true, false, eqb, List, [], ◌∷◌, ◌++◌, length, take, drop, get_or, Option, Some, None, Result, Ok, Err, cond, refl, sym, ap, ◌∙◌, arith, append_assoc}
use Rattle.std.specs.Prelude.{MatchBool, OnOk, slice_index, is_ok, is_some}
use Rattle.std.specs.Option.{option_map}
use Rattle.std.proofs.lemmas.Bool.{leb-true}
use Rattle.std.proofs.lemmas.List.{append-nil, take_rest, drop_all}
use Rattle.std.proofs.Math.Seq.{take-length}
use Rattle.exp_golomb.specs.EmulationPrevention.{is_low_or_end, escaped, IsEscape, payload_of}
use Rattle.annexb_units.specs.Zeros.{payload_behind}
use Rattle.exp_golomb.proofs.Escapes.{escaped-plain, escaped-zero, escaped-pair, payload_of-plain, payload_of-zero, payload_of-three, payload_of-open, payload_of-bad, payload_of-end, payload_of-nothing, payload_of-escaped, escaped-payload_of}

-- no zero byte stands before the place n
abbrev pub HasNoZero : ℕ → List ℕ → Type 0
HasNoZero n xs = (k : ℕ) → 0 ≤ k → k < n → eqb (slice_index xs k) 0 ≡ true → ⊥

-- the bytes from a place on, as a slice has them
abbrev pub from : ℕ → List ℕ → List ℕ
from n xs = take (length xs - n) (drop n xs)

-- ---- escaping

pub zero_at_end : (xs : List ℕ) → get_or xs 0 1 ≡ 0 → length xs ≡ 1 → escaped xs ≡ 0 ∷ escaped (drop 1 xs)
unfolding escaped
zero_at_end [] h n = absurd (omega arith)
zero_at_end (zero ∷ []) h n = refl
zero_at_end (suc x ∷ []) h n = absurd (omega arith)
zero_at_end (x ∷ y ∷ xs) h n = absurd (omega arith)

pub zero_alone : (xs : List ℕ) → 1 ≤ length xs → get_or xs 0 1 ≡ 0 → (length xs ≡ 1 → ⊥) → (get_or xs 1 0 ≡ 0 → ⊥) → escaped xs ≡ 0 ∷ escaped (drop 1 xs)
unfolding escaped
zero_alone [] some h n k = absurd (omega arith)
zero_alone (suc x ∷ xs) some h n k = absurd (omega arith)
zero_alone (zero ∷ []) some h n k = refl
zero_alone (zero ∷ zero ∷ xs) some h n k = absurd (k refl)
zero_alone (zero ∷ suc y ∷ xs) some h n k = escaped-zero y xs ∙ ap (λ t. 0 ∷ t) (sym (escaped-plain y xs))

pub two_zeros : (xs : List ℕ) (b : Bool) → 1 ≤ length xs → get_or xs 0 1 ≡ 0 → (length xs ≡ 1 → ⊥) → get_or xs 1 0 ≡ 0 → b ≡ is_low_or_end (drop 2 xs)
    → MatchBool b ((2 ≤ length xs) × (escaped xs ≡ 0 ∷ 0 ∷ 3 ∷ escaped (drop 2 xs))) (escaped xs ≡ 0 ∷ escaped (drop 1 xs))
unfolding escaped
two_zeros [] b some h n k e = absurd (omega arith)
two_zeros (suc x ∷ xs) b some h n k e = absurd (omega arith)
two_zeros (zero ∷ []) b some h n k e = absurd (n refl)
two_zeros (zero ∷ suc y ∷ xs) b some h n k e = absurd (omega arith)
two_zeros (zero ∷ zero ∷ xs) true some h n k e = (omega arith, escaped-pair xs (sym e))
two_zeros (zero ∷ zero ∷ xs) false some h n k e = rw (← e) refl

-- the bytes before the first zero byte are written as they are
pub escaped-run : (n : ℕ) (xs : List ℕ) → n ≤ length xs → HasNoZero n xs → escaped xs ≡ take n xs ++ escaped (drop n xs)
escaped-run zero xs h none = refl
escaped-run (suc n) [] h none = absurd (omega arith)
escaped-run (suc n) (zero ∷ xs) h none = absurd (none 0 (omega arith) (omega arith) refl)
escaped-run (suc n) (suc x ∷ xs) h none = escaped-plain x xs ∙ ap (λ t. suc x ∷ t) (escaped-run n xs (omega arith) (λ k low lt e. none (suc k) (omega arith) (omega arith) e))

pub escaped-none : (xs : List ℕ) → HasNoZero (length xs) xs → escaped xs ≡ xs
unfolding escaped
escaped-none [] none = refl
escaped-none (zero ∷ xs) none = absurd (none 0 (omega arith) (omega arith) refl)
escaped-none (suc x ∷ xs) none = escaped-plain x xs ∙ ap (λ t. suc x ∷ t) (escaped-none xs (λ k low lt e. none (suc k) (omega arith) (omega arith) e))

-- a turn of the loop: the bytes before a zero byte, and then some that begin with it
pub escape_turn : (whole out mid new rest : List ℕ) (n done : ℕ) → out ++ escaped rest ≡ whole → n ≤ length rest → HasNoZero n rest → mid ≡ out ++ take n rest
    → new ++ escaped (drop done (from n rest)) ≡ mid ++ escaped (from n rest) → new ++ escaped (from done (from n rest)) ≡ whole
escape_turn whole out mid new rest n done so_far h none e step =
    let behind : from n rest ≡ drop n rest = take_rest rest n in
    ap (λ t. new ++ escaped t) (take_rest (from n rest) done) ∙ step ∙ ap (λ t. t ++ escaped (from n rest)) e ∙ append_assoc out (take n rest) (escaped (from n rest))
    ∙ ap (λ t. out ++ (take n rest ++ escaped t)) behind ∙ ap (λ t. out ++ t) (sym (escaped-run n rest h none)) ∙ so_far

pub escape_end : {T E : Type 0} (whole out new rest : List ℕ) (r : Result T E) → out ++ escaped rest ≡ whole → HasNoZero (length rest) rest → new ≡ cond (is_ok r) (out ++ rest) out → OnOk r (new ≡ whole)
escape_end whole out new rest (Ok done) so_far none e = e ∙ ap (λ t. out ++ t) (sym (escaped-none rest none)) ∙ so_far
escape_end whole out new rest (Err fault) so_far none e = tt

-- ---- reading

pub read_more : (old new front xs ys : List ℕ) → new ≡ old ++ front → payload_of xs ≡ payload_behind front ys → payload_behind new ys ≡ payload_behind old xs
read_more old new front xs ys e h = rw (e, h) (at (payload_of ys))
  where
    at : (o : Option (List ℕ)) → option_map (λ rest. (old ++ front) ++ rest) o ≡ option_map (λ rest. old ++ rest) (option_map (λ rest. front ++ rest) o)
    at None = refl
    at (Some t) = ap (λ u. Some u) (append_assoc old front t)

pub payload_of-run : (n : ℕ) (xs : List ℕ) → n ≤ length xs → HasNoZero n xs → payload_of xs ≡ payload_behind (take n xs) (drop n xs)
payload_of-run zero xs h none = sym (same (payload_of xs))
  where
    same : (o : Option (List ℕ)) → option_map (λ rest. [] ++ rest) o ≡ o
    same None = refl
    same (Some t) = refl
payload_of-run (suc n) [] h none = absurd (omega arith)
payload_of-run (suc n) (zero ∷ xs) h none = absurd (none 0 (omega arith) (omega arith) refl)
payload_of-run (suc n) (suc x ∷ xs) h none =
    payload_of-plain x xs ∙ sym (read_more (suc x ∷ []) (suc x ∷ take n xs) (take n xs) xs (drop n xs) refl (payload_of-run n xs (omega arith) (λ k low lt e. none (suc k) (omega arith) (omega arith) e)))

pub reads_end : (xs : List ℕ) → get_or xs 0 1 ≡ 0 → length xs ≡ 1 → payload_of xs ≡ None
reads_end [] h n = absurd (omega arith)
reads_end (zero ∷ []) h n = payload_of-end.0
reads_end (suc x ∷ []) h n = absurd (omega arith)
reads_end (x ∷ y ∷ xs) h n = absurd (omega arith)

pub reads_alone : (xs : List ℕ) → 1 ≤ length xs → get_or xs 0 1 ≡ 0 → (length xs ≡ 1 → ⊥) → (get_or xs 1 0 ≡ 0 → ⊥) → payload_of xs ≡ payload_behind (0 ∷ []) (drop 1 xs)
reads_alone [] some h n k = absurd (omega arith)
reads_alone (suc x ∷ xs) some h n k = absurd (omega arith)
reads_alone (zero ∷ []) some h n k = absurd (n refl)
reads_alone (zero ∷ zero ∷ xs) some h n k = absurd (k refl)
reads_alone (zero ∷ suc y ∷ xs) some h n k = payload_of-zero y xs

-- two zero bytes at the front
pub with_zeros : (P : List ℕ → Type 0) → ((ys : List ℕ) → P (0 ∷ 0 ∷ ys)) → (xs : List ℕ) → 1 ≤ length xs → get_or xs 0 1 ≡ 0 → (length xs ≡ 1 → ⊥) → get_or xs 1 0 ≡ 0 → P xs
with_zeros P all [] some h n k = absurd (omega arith)
with_zeros P all (suc x ∷ xs) some h n k = absurd (omega arith)
with_zeros P all (zero ∷ []) some h n k = absurd (n refl)
with_zeros P all (zero ∷ suc y ∷ xs) some h n k = absurd (omega arith)
with_zeros P all (zero ∷ zero ∷ xs) some h n k = all xs

pub zeros_end : (ys : List ℕ) → length (0 ∷ 0 ∷ ys) ≡ 2 → payload_of (0 ∷ 0 ∷ ys) ≡ None
zeros_end [] h = payload_of-end.1
zeros_end (y ∷ ys) h = absurd (omega arith)

pub zeros_bad : (ys : List ℕ) → (length (0 ∷ 0 ∷ ys) ≡ 2 → ⊥) → true ≡ is_low_or_end ys → (get_or ys 0 0 ≡ 3 → ⊥) → payload_of (0 ∷ 0 ∷ ys) ≡ None
zeros_bad [] n h k = absurd (n refl)
zeros_bad (y ∷ ys) n h k = payload_of-bad y ys (omega (arith, leb-true y 3 (sym h), k))

pub zeros_open : (ys : List ℕ) → (length (0 ∷ 0 ∷ ys) ≡ 2 → ⊥) → get_or ys 0 0 ≡ 3 → false ≡ is_low_or_end (drop 1 ys) → payload_of (0 ∷ 0 ∷ ys) ≡ None
zeros_open [] n h k = absurd (n refl)
zeros_open (y ∷ ys) n h k = rw h (payload_of-open ys (sym k))

pub zeros_three : (ys : List ℕ) → (length (0 ∷ 0 ∷ ys) ≡ 2 → ⊥) → get_or ys 0 0 ≡ 3 → true ≡ is_low_or_end (drop 1 ys) → payload_of (0 ∷ 0 ∷ ys) ≡ payload_behind (0 ∷ 0 ∷ []) (drop 1 ys)
zeros_three [] n h k = absurd (n refl)
zeros_three (y ∷ ys) n h k = rw h (payload_of-three ys (sym k))

pub read_turn : (tail done mid new rest : List ℕ) (n k : ℕ) → payload_behind done rest ≡ payload_of tail → n ≤ length rest → HasNoZero n rest → mid ≡ done ++ take n rest
    → payload_behind new (drop k (from n rest)) ≡ payload_behind mid (from n rest) → payload_behind new (from k (from n rest)) ≡ payload_of tail
read_turn tail done mid new rest n k so_far h none e step =
    ap (payload_behind new) (take_rest (from n rest) k) ∙ step ∙ ap (payload_behind mid) (take_rest rest n)
    ∙ read_more done mid (take n rest) rest (drop n rest) e (payload_of-run n rest h none) ∙ so_far

pub read_bad : (tail done rest : List ℕ) (n : ℕ) → payload_behind done rest ≡ payload_of tail → n ≤ length rest → HasNoZero n rest → payload_of (from n rest) ≡ None → (payload : List ℕ) → IsEscape payload tail → ⊥
read_bad tail done rest n so_far h none bad payload is =
    let behind : payload_of (drop n rest) ≡ None = ap payload_of (sym (take_rest rest n)) ∙ bad in
    let here : payload_of rest ≡ None = payload_of-run n rest h none ∙ ap (option_map (λ t. take n rest ++ t)) behind in
    let all : payload_of tail ≡ None = sym so_far ∙ ap (option_map (λ t. done ++ t)) here in
    let some = payload_of-escaped payload tail is in
    absurd cc

pub read_end : (tail done new rest : List ℕ) → payload_behind done rest ≡ payload_of tail → HasNoZero (length rest) rest → new ≡ done ++ rest → IsEscape new tail
read_end tail done new rest so_far none e =
    let run = payload_of-run (length rest) rest (omega arith) none in
    let last : payload_of (drop (length rest) rest) ≡ Some [] = ap payload_of (drop_all (length rest) rest (omega arith)) ∙ payload_of-nothing in
    let here : payload_of rest ≡ Some rest =
    run ∙ ap (option_map (λ t. take (length rest) rest ++ t)) last ∙ ap (λ t. Some t) (append-nil (take (length rest) rest) ∙ take-length rest) in
    escaped-payload_of new tail (sym so_far ∙ ap (option_map (λ t. done ++ t)) here ∙ ap (λ t. Some t) (sym e))

-- ---- whether there is a payload

pub some_behind : (front xs ys : List ℕ) → payload_of xs ≡ payload_behind front ys → is_some (payload_of xs) ≡ is_some (payload_of ys)
some_behind front xs ys e = ap is_some e ∙ same (payload_of ys)
  where
    same : (o : Option (List ℕ)) → is_some (option_map (λ rest. front ++ rest) o) ≡ is_some o
    same None = refl
    same (Some t) = refl

some_run : (rest : List ℕ) (n : ℕ) → n ≤ length rest → HasNoZero n rest → is_some (payload_of rest) ≡ is_some (payload_of (from n rest))
some_run rest n h none = some_behind (take n rest) rest (drop n rest) (payload_of-run n rest h none) ∙ ap (λ t. is_some (payload_of t)) (sym (take_rest rest n))

-- a turn of the loop: the bytes before a zero byte, and then some that begin with it
pub some_turn : (rest front : List ℕ) (n k : ℕ) (all : Bool) → is_some (payload_of rest) ≡ all → n ≤ length rest → HasNoZero n rest → payload_of (from n rest) ≡ payload_behind front (drop k (from n rest))
    → is_some (payload_of (from k (from n rest))) ≡ all
some_turn rest front n k all so_far h none step =
    ap (λ t. is_some (payload_of t)) (take_rest (from n rest) k) ∙ sym (some_behind front (from n rest) (drop k (from n rest)) step) ∙ sym (some_run rest n h none) ∙ so_far

pub some_none : (rest : List ℕ) (n : ℕ) (all : Bool) → is_some (payload_of rest) ≡ all → n ≤ length rest → HasNoZero n rest → payload_of (from n rest) ≡ None → false ≡ all
some_none rest n all so_far h none bad = sym (ap is_some bad) ∙ sym (some_run rest n h none) ∙ so_far

pub some_end : (rest : List ℕ) → HasNoZero (length rest) rest → is_some (payload_of rest) ≡ true
some_end rest none =
    let run = some_behind (take (length rest) rest) rest (drop (length rest) rest) (payload_of-run (length rest) rest (omega arith) none) in
    run ∙ ap (λ t. is_some (payload_of t)) (drop_all (length rest) rest (omega arith)) ∙ ap is_some payload_of-nothing
