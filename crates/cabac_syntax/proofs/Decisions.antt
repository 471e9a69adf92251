-- Claims that are decided: they hold, or they don't.
use Rattle.std.proofs.Common.{◌≡◌, ℕ, zero, suc, ◌*◌, ◌/◌, ◌^◌, ◌<◌, ◌≤◌, ◌⊎◌, inl, inr, Bool, true, false, List, [], ◌∷◌, ◌++◌, length, replicate, take, drop, refl, sym, ap, subst, ◌∙◌, append_assoc, length-append, arith}
use Rattle.std.specs.Prelude.{All}
use Rattle.std.proofs.lemmas.Bool.Decides.{leb_tells}
use Rattle.std.proofs.lemmas.List.{length-replicate, length-take-le, take-append-drop}
use Rattle.std.proofs.lemmas.List.Elements.{All-nil, All-cons, All-tail}
use Rattle.bit_texts.specs.Bits.{number, binary, bits_of, EndsInOne}
use Rattle.bit_texts.proofs.Bytes.{bits_of-cons, length-bits_of}
use Rattle.bit_texts.proofs.Numbers.{length-binary, number_below}
use Rattle.bit_texts.proofs.Reading.{same_parts, binary-take}
use Rattle.cabac_engine.specs.Bins.{Slot}
use Rattle.binarisation.specs.BinString.{BinString, Value, NoValue, Next, Spells}

abbrev pub Decided : Type 0 → Type 0
Decided P = P ⊎ (P → ⊥)

pub same_decided : {P Q : Type 0} → (P → Q) → (Q → P) → Decided P → Decided Q
same_decided f g (inl p) = inl (f p)
same_decided f g (inr bad) = inr (λ q. bad (g q))

pub both_decided : {P Q : Type 0} → Decided P → Decided Q → Decided (P × Q)
both_decided (inl p) (inl q) = inl (p, q)
both_decided (inl p) (inr bad) = inr (λ h. bad h.1)
both_decided (inr bad) q = inr (λ h. bad h.0)

pub either_decided : {P Q : Type 0} → Decided P → Decided Q → Decided (P ⊎ Q)
either_decided (inl p) q = inl (inl p)
either_decided (inr bad) (inl q) = inl (inr q)
either_decided (inr bad) (inr bad') = inr (λ h. elim h [ inl p ↦ bad p | inr q ↦ bad' q ])

-- a value that there is once at most, and what is decided of it
pub one_decided : {A : Type 0} (Is Has : A → Type 0) → ((a b : A) → Is a → Is b → a ≡ b) → Decided ((a : A) × Is a) → ((a : A) → Is a → Decided (Has a)) → Decided ((a : A) × Is a × Has a)
one_decided Is Has one (inr none) has = inr (λ h. none (h.0, h.1))
one_decided {A} Is Has one (inl found) has = by (has found.0 found.1)
  where
    by : Decided (Has found.0) → Decided ((a : A) × Is a × Has a)
    by (inl p) = inl (found.0, found.1, p)
    by (inr bad) = inr (λ h. bad (subst Has (one h.0 found.0 h.1 found.1) h.2))

pub same_pair : {A B : Type 0} (a c : A) (b d : B) → a ≡ c → b ≡ d → ◌≡◌ {A = A × B} (a, b) (c, d)
same_pair a c b d e f = cc

pub most_decided : (a b : ℕ) → Decided (a ≤ b)
most_decided a b = elim (leb_tells a b) [ inl is ↦ inl is.1 | inr bad ↦ inr (λ h. let above = bad.1 in omega arith) ]

pub bools_decided : (a b : Bool) → Decided (a ≡ b)
bools_decided true true = inl refl
bools_decided true false = inr (λ e. cc)
bools_decided false true = inr (λ e. cc)
bools_decided false false = inl refl

-- ---- bits

pub bits_decided : (xs ys : List Bool) → Decided (xs ≡ ys)
bits_decided [] [] = inl refl
bits_decided [] (y ∷ ys) = inr (λ e. cc)
bits_decided (x ∷ xs) [] = inr (λ e. cc)
bits_decided (x ∷ xs) (y ∷ ys) = same_decided join parts (both_decided (bools_decided x y) (bits_decided xs ys))
  where
    join : (x ≡ y) × (xs ≡ ys) → x ∷ xs ≡ y ∷ ys
    join h = let e = h.0 in let f = h.1 in cc

    parts : x ∷ xs ≡ y ∷ ys → (x ≡ y) × (xs ≡ ys)
    parts e = (cc, cc)

pub front_decided : (front bits : List Bool) → Decided ((rest : List Bool) × (bits ≡ front ++ rest))
front_decided [] bits = inl (bits, refl)
front_decided (b ∷ front) [] = inr (λ h. let e : [] ≡ b ∷ (front ++ h.0) = h.1 in cc)
front_decided (b ∷ front) (c ∷ bits) = same_decided join parts (both_decided (bools_decided c b) (front_decided front bits))
  where
    join : (c ≡ b) × ((rest : List Bool) × (bits ≡ front ++ rest)) → (rest : List Bool) × (c ∷ bits ≡ b ∷ (front ++ rest))
    join h = let e = h.0 in let f = h.1.1 in (h.1.0, cc)

    parts : (rest : List Bool) × (c ∷ bits ≡ b ∷ (front ++ rest)) → (c ≡ b) × ((rest : List Bool) × (bits ≡ front ++ rest))
    parts h = let e = h.1 in (cc, (h.0, cc))

pub ends_in_one_decided : (bits : List Bool) → Decided (EndsInOne bits)
ends_in_one_decided [] = inr (λ h. let size = ap length h.1 in absurd (omega (arith, size, length-append h.0 (true ∷ []))))
ends_in_one_decided (b ∷ []) = same_decided (λ e. ([], ap (λ (x : Bool). x ∷ []) e)) (λ h. last h.0 h.1) (bools_decided b true)
  where
    last : (front : List Bool) → b ∷ [] ≡ front ++ true ∷ [] → b ≡ true
    last [] e = cc
    last (x ∷ front) e = let size = ap length e in absurd (omega (arith, size, length-append front (true ∷ [])))
ends_in_one_decided (b ∷ c ∷ bits) = same_decided (λ h. (b ∷ h.0, ap (λ (l : List Bool). b ∷ l) h.1)) (λ h. more h.0 h.1) (ends_in_one_decided (c ∷ bits))
  where
    more : (front : List Bool) → b ∷ c ∷ bits ≡ front ++ true ∷ [] → EndsInOne (c ∷ bits)
    more [] e = let size = ap length e in absurd (omega (arith, size))
    more (x ∷ front) e = (front, cc)

-- zero words
pub words_decided : (bits : List Bool) → Decided ((words : ℕ) × (bits ≡ replicate (16 * words) false))
words_decided bits =
    same_decided (λ e. (length bits / 16, e)) (λ h. from h.0 h.1) (bits_decided bits (replicate (16 * (length bits / 16)) false))
  where
    from : (words : ℕ) → bits ≡ replicate (16 * words) false → bits ≡ replicate (16 * (length bits / 16)) false
    from words e =
        let size : length bits ≡ 16 * words = ap length e ∙ length-replicate (16 * words) false in
        let same : words ≡ length bits / 16 = omega (arith, size) in
        subst (λ (n : ℕ). bits ≡ replicate (16 * n) false) same e

-- so many bytes, and others
abbrev pub HasBytes : ℕ → List Bool → Type 0
HasBytes n bits = (xs : List ℕ) × (rest : List Bool) × (length xs ≡ n) × All (λ x. x ≤ 255) xs × (bits ≡ bits_of xs ++ rest)

pub bytes_decided : (n : ℕ) (bits : List Bool) → Decided (HasBytes n bits)
bytes_decided zero bits = inl ([], bits, refl, All-nil (λ x. x ≤ 255), refl)
bytes_decided (suc n) bits = elim (leb_tells 8 (length bits)) [ inl is ↦ same_decided (join is.1) (parts is.1) (bytes_decided n (drop 8 bits)) | inr few ↦ inr (none few.1) ]
  where
    none : length bits < 8 → HasBytes (suc n) bits → ⊥
    none few h = omega (arith, few, ap length h.4, length-append (bits_of h.0) h.1, length-bits_of h.0, h.2)

    join : 8 ≤ length bits → HasBytes n (drop 8 bits) → HasBytes (suc n) bits
    join enough h =
        let x = number (take 8 bits) in
        let below = number_below (take 8 bits) in
        let size = length-take-le 8 bits enough in
        let few : x < 2 ^ 8 = subst (λ (k : ℕ). x < 2 ^ k) size below in
        let whole : bits ≡ take 8 bits ++ (bits_of h.0 ++ h.1) = sym (take-append-drop 8 bits) ∙ ap (λ (l : List Bool). take 8 bits ++ l) h.4 in
        let byte : bits_of (x ∷ h.0) ≡ take 8 bits ++ bits_of h.0 = bits_of-cons x h.0 ∙ ap (λ (l : List Bool). l ++ bits_of h.0) (binary-take 8 bits enough) in (
          x ∷ h.0,
          h.1,
          ap suc h.2,
          All-cons (λ b. b ≤ 255) x h.0 (omega (arith, few)) h.3,
          whole ∙ sym (ap (λ (l : List Bool). l ++ h.1) byte ∙ append_assoc (take 8 bits) (bits_of h.0) h.1),
        )

    parts : 8 ≤ length bits → HasBytes (suc n) bits → HasBytes n (drop 8 bits)
    parts enough ([], rest, size, small, e) = absurd (omega (arith, size))
    parts enough (x ∷ xs, rest, size, small, e) =
        let whole : take 8 bits ++ drop 8 bits ≡ binary 8 x ++ (bits_of xs ++ rest) =
        take-append-drop 8 bits ∙ e ∙ ap (λ (l : List Bool). l ++ rest) (bits_of-cons x xs) ∙ append_assoc (binary 8 x) (bits_of xs) rest in
        let same = same_parts (take 8 bits) (binary 8 x) (drop 8 bits) (bits_of xs ++ rest) (length-take-le 8 bits enough ∙ sym (length-binary 8 x)) whole in
        (xs, rest, omega (arith, size), All-tail (λ b. b ≤ 255) x xs small, same.1)

-- ---- what bins spell

-- of all that a string spells, something meets a condition that is decided, or nothing does
pub spelled_decided : {A : Type 0} (string : BinString A) (Is : List (Slot × Bool) → A → Type 0) → ((bins : List (Slot × Bool)) (value : A) → Spells string bins value → Decided (Is bins value))
    → Decided ((bins : List (Slot × Bool)) × (value : A) × Spells string bins value × Is bins value)
spelled_decided {A} (Value x) Is decided = same_decided (λ p. ([], x, (refl, refl), p)) (λ h. from h.0 h.1 h.2 h.3) (decided [] x (refl, refl))
  where
    from : (bins : List (Slot × Bool)) (value : A) → Spells (Value x) bins value → Is bins value → Is [] x
    from bins value spelled p = subst (λ (v : A). Is [] v) (sym spelled.1) (subst (λ (l : List (Slot × Bool)). Is l value) spelled.0 p)
spelled_decided NoValue Is decided = inr (λ h. h.2)
spelled_decided {A} (Next slot rest) Is decided =
    same_decided into (λ h. from h.0 h.1 h.2 h.3)
    (either_decided
    (spelled_decided (rest true) (λ bins. Is ((slot, true) ∷ bins)) (λ bins value spelled. decided ((slot, true) ∷ bins) value (refl, spelled)))
    (spelled_decided (rest false) (λ bins. Is ((slot, false) ∷ bins)) (λ bins value spelled. decided ((slot, false) ∷ bins) value (refl, spelled))))
  where
    Behind : Bool → Type 0
    Behind bit = (bins : List (Slot × Bool)) × (value : A) × Spells (rest bit) bins value × Is ((slot, bit) ∷ bins) value

    into : Behind true ⊎ Behind false → (bins : List (Slot × Bool)) × (value : A) × Spells (Next slot rest) bins value × Is bins value
    into (inl h) = ((slot, true) ∷ h.0, h.1, (refl, h.2), h.3)
    into (inr h) = ((slot, false) ∷ h.0, h.1, (refl, h.2), h.3)

    from : (bins : List (Slot × Bool)) (value : A) → Spells (Next slot rest) bins value → Is bins value → Behind true ⊎ Behind false
    from [] value spelled p = absurd spelled
    from ((kind, true) ∷ bins) value spelled p = inl (bins, value, spelled.1, subst (λ (k : Slot). Is ((k, true) ∷ bins) value) spelled.0 p)
    from ((kind, false) ∷ bins) value spelled p = inr (bins, value, spelled.1, subst (λ (k : Slot). Is ((k, false) ∷ bins) value) spelled.0 p)
