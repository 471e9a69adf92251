-- The trailing bits, and the bits before them.
use Rattle.std.proofs.Common.{◌≡◌, ℕ, zero, suc, ◌+◌, ◌-◌, ◌%◌, ◌<◌, ◌≤◌, Bool, true, false, cond, not, ltb, lt-ltb, le-ltb, List, [], ◌∷◌, ◌++◌, length, replicate, Some, None, refl, sym, ap, ◌∙◌, arith, append_assoc, length-append, inl, inr, add-one, add-zero}
use Rattle.std.proofs.lemmas.Bool.{ltb-true}
use Rattle.std.proofs.lemmas.List.{append-nil, length-replicate, reverse-append}
use Rattle.std.proofs.lemmas.Grind.{replicate_next}
use Rattle.std.specs.Prelude.{reverse}
use Rattle.std.specs.List.{list_any}
use Rattle.bit_texts.specs.Bits.{more_data}
use Rattle.exp_golomb.specs.Code.{Flag}
use Rattle.exp_golomb.specs.Element.{front, flag_at, zeros}
use Rattle.exp_golomb.proofs.Golomb.{zeros-front}
use Rattle.exp_golomb.specs.Syntax.{Done, Never, Element, Outcome, Found, Refused, NoText, Spells, outcome_of, ◌>>=◌}
use Rattle.exp_golomb.proofs.Syntaxes.{outcome_of_then, spelled}
use Rattle.param_sets.specs.Refusal.{Refusal}
use Rattle.param_sets.specs.TrailingBits.{alignment_zero_bits, rbsp_trailing_bits, bits_before_trailing, unread_bits, EndsInTrailing, payload_text}
use Rattle.param_sets.proofs.Spelled.{found_then, refused_then, found_in_range}

abbrev nothing : {A : Type 0} → Outcome Refusal A
nothing = NoText

abbrev found : {A : Type 0} → A → List Bool → Outcome Refusal A
found value rest = Found value rest

-- ---- reading the trailing bits

zeros_outcome : (bits : List Bool) → outcome_of (alignment_zero_bits (length bits)) bits ≡ cond (list_any (λ b. b) bits) NoText (Found true [])
unfolding outcome_of alignment_zero_bits front flag_at
zeros_outcome [] = refl
zeros_outcome (true ∷ bits) = refl
zeros_outcome (false ∷ bits) = zeros_outcome bits

-- behind a 1 bit
trailing_outcome : (rest : List Bool) → outcome_of rbsp_trailing_bits (true ∷ rest) ≡ cond (ltb (length rest) 8) (outcome_of (alignment_zero_bits (length rest)) rest) NoText
unfolding outcome_of rbsp_trailing_bits front flag_at
trailing_outcome rest = at (ltb (length rest) 8)
  where
    at : (b : Bool) → outcome_of (cond b (alignment_zero_bits (length rest)) Never) rest ≡ cond b (outcome_of (alignment_zero_bits (length rest)) rest) nothing
    at true = refl
    at false = refl

pub trailing_found : (bits rest : List Bool) → bits ≡ true ∷ rest → more_data bits ≡ false → length rest < 8 → outcome_of rbsp_trailing_bits bits ≡ Found true []
trailing_found bits rest e more few =
    let none : list_any (λ b. b) rest ≡ false = sym (ap more_data e) ∙ more in
    let short : ltb (length rest) 8 ≡ true = lt-ltb _ _ few in
    rw e (trailing_outcome rest ∙ rw short (zeros_outcome rest ∙ rw none refl))

pub trailing_of_more : (bits : List Bool) → more_data bits ≡ true → outcome_of rbsp_trailing_bits bits ≡ NoText
unfolding outcome_of rbsp_trailing_bits front flag_at
trailing_of_more [] more = refl
trailing_of_more (false ∷ rest) more = refl
trailing_of_more (true ∷ rest) more = trailing_outcome rest ∙ at (ltb (length rest) 8)
  where
    at : (b : Bool) → cond b (outcome_of (alignment_zero_bits (length rest)) rest) nothing ≡ nothing
    at true = zeros_outcome rest ∙ rw more refl
    at false = refl

pub trailing_without_flag : (bits : List Bool) → front Flag bits ≡ None → outcome_of rbsp_trailing_bits bits ≡ NoText
unfolding outcome_of rbsp_trailing_bits
trailing_without_flag bits h = rw h refl

pub trailing_of_zero : (bits rest : List Bool) → front Flag bits ≡ Some (false, rest) → outcome_of rbsp_trailing_bits bits ≡ NoText
unfolding outcome_of rbsp_trailing_bits
trailing_of_zero bits rest h = rw h refl

pub trailing_too_long : (bits rest : List Bool) → bits ≡ true ∷ rest → 8 ≤ length rest → outcome_of rbsp_trailing_bits bits ≡ NoText
trailing_too_long bits rest e many =
    let long : ltb (length rest) 8 ≡ false = le-ltb _ _ many in
    rw e (trailing_outcome rest ∙ rw long refl)

-- ---- what is found

zeros_found : (n : ℕ) (bits : List Bool) (value : Bool) (rest : List Bool) → Spells (alignment_zero_bits n) bits (Found value rest) → bits ≡ replicate n false ++ rest
unfolding alignment_zero_bits
zeros_found zero bits value rest h = let at_once : found true bits ≡ found value rest = sym h in cc
zeros_found (suc n) bits value rest (bit, after, in_range, text, others) =
    let zero_bit = found_in_range (not bit) (λ is_zero. alignment_zero_bits n) after value rest others in
    text ∙ ap (λ b. b ∷ after) (negated bit zero_bit.0) ∙ ap (λ bs. false ∷ bs) (zeros_found n after value rest zero_bit.1)
  where
    negated : (b : Bool) → not b ≡ true → b ≡ false
    negated true e = absurd cc
    negated false e = refl

-- a 1 bit, at most seven 0 bits, and nothing else
pub trailing_spelled : (bits : List Bool) (value : Bool) (rest : List Bool) → Spells rbsp_trailing_bits bits (Found value rest) → (count : ℕ) × (count < 8) × (bits ≡ true ∷ replicate count false) × (rest ≡ [])
unfolding rbsp_trailing_bits
trailing_spelled bits value rest (bit, after, in_range, text, others) =
    let one = found_in_range {E = Refusal} bit _ after value rest others in
    let few = at (ltb (length after) 8) refl one.1 in
    let zeros = zeros_found (length after) after value rest few.1 in
    let none = nil rest (omega (arith, ap length zeros, length-append (replicate (length after) false) rest, length-replicate (length after) false)) in
    (length after, ltb-true _ _ few.0, text ∙ rw one.0 (ap (λ bs. true ∷ bs) (zeros ∙ rw none (append-nil _))), none)
  where
    at : (b : Bool) → ltb (length after) 8 ≡ b → Spells (cond b (alignment_zero_bits (length after)) Never) after (found value rest) → (ltb (length after) 8 ≡ true) × Spells (alignment_zero_bits (length after)) after (found value rest)
    at true e h = (e, h)
    at false e h = absurd h

    nil : (xs : List Bool) → length xs ≡ 0 → xs ≡ []
    nil [] e = refl
    nil (x ∷ xs) e = absurd (omega arith)

before_spelled : (n : ℕ) (bits xs rest : List Bool) → Spells (bits_before_trailing n) bits (Found xs rest) → bits ≡ xs ++ rest
unfolding bits_before_trailing
before_spelled zero bits xs rest h = let at_once : found [] bits ≡ found xs rest = sym h in cc
before_spelled (suc n) bits xs rest h = at (more_data bits) h (λ after others tail k. before_spelled n after others tail k)
  where
    done : (x : Bool) (others after : List Bool) → found (x ∷ others) after ≡ found xs rest → x ∷ (others ++ after) ≡ xs ++ rest
    done x others after e = cc

    at : (b : Bool) → Spells (cond b (Element Flag Done >>= λ bit. bits_before_trailing n >>= λ others. Done (bit ∷ others)) (Done [])) bits (found xs rest)
        → ((after ys tail : List Bool) → Spells (bits_before_trailing n) after (found ys tail) → after ≡ ys ++ tail) → bits ≡ xs ++ rest
    at true (bit, after, in_range, text, others) so =
        let f = found_then (bits_before_trailing n) (λ others. Done (bit ∷ others)) after xs rest others in
        text ∙ ap (λ bs. bit ∷ bs) (so after f.0 f.1 f.2) ∙ done bit f.0 f.1 (sym f.3)
    at false e so = let at_once : found [] bits ≡ found xs rest = sym e in cc

pub unread_spelled : (bits xs rest : List Bool) → Spells unread_bits bits (Found xs rest) → EndsInTrailing bits xs × (rest ≡ [])
unfolding unread_bits
unread_spelled bits xs rest h =
    let first = found_then {E = Refusal} (bits_before_trailing (length bits)) (λ bs. rbsp_trailing_bits >>= λ ends. Done bs) bits xs rest h in
    let second = found_then {E = Refusal} rbsp_trailing_bits (λ ends. Done first.0) first.1 xs rest first.3 in
    let ends = trailing_spelled first.1 second.0 second.1 second.2 in
    let same = done first.0 second.1 second.3 in
    ((ends.0, ends.1, before_spelled (length bits) bits first.0 first.1 first.2 ∙ ap (λ bs. first.0 ++ bs) ends.2 ∙ ap (λ bs. bs ++ true ∷ replicate ends.0 false) same.0), same.1 ∙ ends.3)
  where
    done : (ys after : List Bool) → found xs rest ≡ found ys after → (ys ≡ xs) × (rest ≡ after)
    done ys after e = (cc, cc)

-- ---- nothing is refused

zeros_not_refused : (n : ℕ) (bits : List Bool) (cause : Refusal) → Spells (alignment_zero_bits n) bits (Refused cause) → ⊥
unfolding alignment_zero_bits
zeros_not_refused zero bits cause h = cc
zeros_not_refused (suc n) bits cause (true, after, in_range, text, others) = others
zeros_not_refused (suc n) bits cause (false, after, in_range, text, others) = zeros_not_refused n after cause others

trailing_not_refused : (bits : List Bool) (cause : Refusal) → Spells rbsp_trailing_bits bits (Refused cause) → ⊥
unfolding rbsp_trailing_bits
trailing_not_refused bits cause (false, after, in_range, text, others) = others
trailing_not_refused bits cause (true, after, in_range, text, others) = at (ltb (length after) 8) others
  where
    at : (few : Bool) → Spells (cond few (alignment_zero_bits (length after)) Never) after (Refused cause) → ⊥
    at true h = zeros_not_refused (length after) after cause h
    at false h = h

before_not_refused : (n : ℕ) (bits : List Bool) (cause : Refusal) → Spells (bits_before_trailing n) bits (Refused cause) → ⊥
unfolding bits_before_trailing
before_not_refused zero bits cause h = cc
before_not_refused (suc n) bits cause h = at (more_data bits) h (λ after k. before_not_refused n after cause k)
  where
    at : (b : Bool) → Spells (cond b (Element Flag Done >>= λ bit. bits_before_trailing n >>= λ others. Done (bit ∷ others)) (Done [])) bits (Refused cause) → ((after : List Bool) → Spells (bits_before_trailing n) after (Refused cause) → ⊥) → ⊥
    at true (bit, after, in_range, text, others) so =
        elim (refused_then (bits_before_trailing n) (λ others. Done (bit ∷ others)) after cause others) [
          | inl first ↦ so after first
          | inr second ↦ let e = second.3 in cc
        ]
    at false e so = cc

pub unread_not_refused : (bits : List Bool) (cause : Refusal) → Spells unread_bits bits (Refused cause) → ⊥
unfolding unread_bits
unread_not_refused bits cause h =
    elim (refused_then (bits_before_trailing (length bits)) (λ bs. rbsp_trailing_bits >>= λ ends. Done bs) bits cause h) [
      | inl first ↦ before_not_refused (length bits) bits cause first
      | inr second ↦ elim (refused_then rbsp_trailing_bits (λ ends. Done second.0) second.1 cause second.3) [
        | inl ends ↦ trailing_not_refused second.1 cause ends
        | inr last ↦ let e = last.3 in cc
      ]
    ]

-- ---- reading all bits up to the trailing bits

pub no_one : (n : ℕ) → list_any (λ b. b) (replicate n false) ≡ false
no_one zero = refl
no_one (suc n) = no_one n

pub one_within : (xs ys : List Bool) → list_any (λ b. b) (xs ++ true ∷ ys) ≡ true
one_within [] ys = refl
one_within (true ∷ xs) ys = refl
one_within (false ∷ xs) ys = one_within xs ys

before_again : (n : ℕ) (xs : List Bool) (count : ℕ) → length xs ≤ n → outcome_of (bits_before_trailing n) (xs ++ true ∷ replicate count false) ≡ Found xs (true ∷ replicate count false)
unfolding outcome_of bits_before_trailing front flag_at
before_again zero [] count h = refl
before_again zero (x ∷ xs) count h = absurd (omega arith)
before_again (suc n) [] count h = rw (no_one count, outcome_of) refl
before_again (suc n) (x ∷ xs) count h =
    let more : list_any (λ b. b) (xs ++ true ∷ replicate count false) ≡ true = one_within xs (replicate count false) in
    rw more (outcome_of_then (bits_before_trailing n) (λ others. Done (x ∷ others)) (xs ++ true ∷ replicate count false) ∙ rw (before_again n xs count (omega arith)) refl)

pub trailing_again : (count : ℕ) → count < 8 → outcome_of rbsp_trailing_bits (true ∷ replicate count false) ≡ Found true []
trailing_again count few = trailing_found (true ∷ replicate count false) (replicate count false) refl (no_one count) (omega (arith, length-replicate count false))

pub unread_again : (bits xs : List Bool) → EndsInTrailing bits xs → outcome_of unread_bits bits ≡ Found xs []
unfolding unread_bits outcome_of
unread_again bits xs (count, few, e) =
    let bound : length xs ≤ length bits = omega (arith, ap length e, length-append xs (true ∷ replicate count false)) in
    let first : outcome_of (bits_before_trailing (length bits)) bits ≡ Found xs (true ∷ replicate count false) = ap (outcome_of (bits_before_trailing (length bits))) e ∙ before_again (length bits) xs count bound in
    outcome_of_then (bits_before_trailing (length bits)) (λ bs. rbsp_trailing_bits >>= λ ends. Done bs) bits
    ∙ rw first (outcome_of_then rbsp_trailing_bits (λ ends. Done xs) (true ∷ replicate count false) ∙ rw (trailing_again count few) refl)

-- no trailing bits stand at the end
pub unread_without : (bits : List Bool) → ((xs : List Bool) → EndsInTrailing bits xs → ⊥) → outcome_of unread_bits bits ≡ NoText
unread_without bits none = at (outcome_of unread_bits bits) refl
  where
    at : (o : Outcome Refusal (List Bool)) → outcome_of unread_bits bits ≡ o → outcome_of unread_bits bits ≡ NoText
    at (Found xs rest) e = absurd (none xs (unread_spelled bits xs rest (spelled unread_bits bits (Found xs rest) e (λ k. cc))).0)
    at (Refused cause) e = absurd (unread_not_refused bits cause (spelled unread_bits bits (Refused cause) e (λ k. cc)))
    at NoText e = e

-- no bit is left
all_taken : (bits : List Bool) → front Flag bits ≡ None → bits ≡ []
unfolding front flag_at
all_taken [] h = refl
all_taken (b ∷ bits) h = absurd cc

pub all_read : (all left bits : List Bool) → all ++ left ≡ bits → front Flag left ≡ None → all ≡ bits
all_read all left bits e none = sym (append-nil all) ∙ ap (λ t. all ++ t) (sym (all_taken left none)) ∙ e

-- ---- taking the trailing bits off the end

reverse-replicate : (n : ℕ) → reverse (replicate n false) ≡ replicate n false
reverse-replicate zero = refl
reverse-replicate (suc n) = reverse-append (false ∷ []) (replicate n false) ∙ ap (λ t. t ++ false ∷ []) (reverse-replicate n) ∙ sym (replicate_next n false) ∙ ap (λ k. replicate k false) (add-one n)

reverse_one : (n : ℕ) → reverse (true ∷ replicate n false) ≡ replicate n false ++ true ∷ []
reverse_one n = reverse-append (true ∷ []) (replicate n false) ∙ ap (λ t. t ++ true ∷ []) (reverse-replicate n)

zeros-one : (bits : List Bool) (n : ℕ) → n + zeros (true ∷ bits) ≡ n
unfolding zeros
zeros-one bits n = add-zero n

-- the zeros at the end are all that stand behind the last 1
last_zeros : (xs ys : List Bool) (count all : ℕ) → xs ++ true ∷ replicate count false ≡ ys ++ replicate all false → all ≤ count
last_zeros xs ys count all e =
    let backwards : reverse (true ∷ replicate count false) ++ reverse xs ≡ reverse (replicate all false) ++ reverse ys =
    sym (reverse-append xs (true ∷ replicate count false)) ∙ ap reverse e ∙ reverse-append ys (replicate all false) in
    let left : zeros (reverse (true ∷ replicate count false) ++ reverse xs) ≡ count =
    ap zeros (ap (λ t. t ++ reverse xs) (reverse_one count) ∙ append_assoc (replicate count false) (true ∷ []) (reverse xs)) ∙ zeros-front count (true ∷ reverse xs) ∙ zeros-one (reverse xs) count in
    let right : zeros (reverse (replicate all false) ++ reverse ys) ≡ all + zeros (reverse ys) =
    ap (λ t. zeros (t ++ reverse ys)) (reverse-replicate all) ∙ zeros-front all (reverse ys) in
    omega (arith, ap zeros backwards, left, right)

pub no_trailing : (bits rest : List Bool) (xs : List Bool) → bits ≡ rest ++ replicate 8 false → EndsInTrailing bits xs → ⊥
no_trailing bits rest xs e (count, few, k) = let most = last_zeros xs rest count 8 (sym k ∙ e) in omega arith

-- nothing could be taken off
pub none_popped : (bits : List Bool) → (0 < length bits → false ≡ true) → bits ≡ []
none_popped [] h = refl
none_popped (b ∷ bits) h = absurd (let wrong = h (omega arith) in cc)

pub no_trailing_in_zeros : (bits xs : List Bool) (all : ℕ) → bits ≡ [] ++ replicate all false → EndsInTrailing bits xs → ⊥
no_trailing_in_zeros bits xs all e (count, few, k) =
    let one : list_any (λ b. b) bits ≡ true = ap (list_any (λ b. b)) k ∙ one_within xs (replicate count false) in
    let none : list_any (λ b. b) bits ≡ false = ap (list_any (λ b. b)) e ∙ no_one all in
    cc

pub one_more_zero : (bits before now : List Bool) (count : ℕ) → bits ≡ before ++ replicate count false → before ≡ now ++ false ∷ [] → bits ≡ now ++ replicate (count + 1) false
one_more_zero bits before now count e k = e ∙ ap (λ t. t ++ replicate count false) k ∙ append_assoc now (false ∷ []) (replicate count false) ∙ ap (λ n. now ++ replicate n false) (sym (add-one count))

-- ---- the payload of whole bytes

pub whole_payload : (fields bits : List Bool) (count : ℕ) → bits ≡ fields ++ true ∷ replicate count false → count < 8 → length bits % 8 ≡ 0 → bits ≡ payload_text fields
whole_payload fields bits count e few whole =
    let size : length bits ≡ length fields + suc count = ap length e ∙ length-append fields (true ∷ replicate count false) ∙ ap (λ n. length fields + suc n) (length-replicate count false) in
    let count_is : count ≡ 7 - length fields % 8 = omega arith in
    e ∙ ap (λ n. fields ++ true ∷ replicate n false) count_is
