-- Groups of texts: the test of which code word those of a group begin with, and what it says.
use Rattle.std.proofs.Common.{◌≡◌, ℕ, ◌+◌, ◌-◌, ◌*◌, ◌/◌, ◌%◌, ◌^◌, ◌<◌, ◌≤◌, eqb, Bool, true, false, ◌&&◌, ◌||◌, cond, List, [], ◌∷◌, ◌++◌, length, take, get_or, replicate, min, ◌⊎◌, inl, inr, Option, Some, None, refl, sym, ap, ◌∙◌, subst, arith, append_assoc}
use Rattle.std.specs.List.{list_all}
use Rattle.std.specs.Int.Count.{count_leading_zeros}
use Rattle.std.proofs.lemmas.Bool.{false≢true, and_parts, cases_Bool, cases_lt, eqb-true, eq-eqb}
use Rattle.std.proofs.lemmas.Nat.{shr_high, shr_split, leading_length, mod_below}
use Rattle.bit_texts.specs.Bits.{binary}
use Rattle.bit_texts.proofs.Numbers.{length-binary, binary-add, binary-high, binary-zero, pow_next, pow_most}
use Rattle.code_tables.specs.Codes.{Code, code_at, IsEntry, IsCodeTable, present, word, word_at, BeginsWith}
use Rattle.code_tables.specs.Groups.{group, group_count, entry_of, Locates}
use Rattle.code_tables.specs.declared.table.Groups.{Groups}
use Rattle.code_tables.specs.declared.table.Groups.TheVariants.{ByZeros, OfSixBits}
use Rattle.code_tables.proofs.CodeTables.{all_below, all_below-at, are_apart, is_nil, list_all-at, not_apart, code_at-take}

-- ---- the test

-- the second one begins with the first
abbrev pub begins : List Bool → List Bool → Bool
begins [] p = true
begins (true ∷ w) (true ∷ p) = begins w p
begins (false ∷ w) (false ∷ p) = begins w p
begins (true ∷ w) (false ∷ p) = false
begins (false ∷ w) (true ∷ p) = false
begins (b ∷ w) [] = false

begins-rest : (w p : List Bool) → begins w p ≡ true → (rest : List Bool) × (p ≡ w ++ rest)
begins-rest [] p h = (p, refl)
begins-rest (true ∷ w) [] h = absurd (false≢true h)
begins-rest (false ∷ w) [] h = absurd (false≢true h)
begins-rest (true ∷ w) (true ∷ p) h = let rest = begins-rest w p h in (rest.0, ap (λ t. true ∷ t) rest.1)
begins-rest (false ∷ w) (false ∷ p) h = let rest = begins-rest w p h in (rest.0, ap (λ t. false ∷ t) rest.1)
begins-rest (true ∷ w) (false ∷ p) h = absurd (false≢true h)
begins-rest (false ∷ w) (true ∷ p) h = absurd (false≢true h)

-- texts that begin with p begin with the code word at the place, or with none where no entry stands there
abbrev pub tells : List Code → List Bool → ℕ → Bool
tells codes p place = cond (eqb (code_at codes place).0 0) (list_all (λ c. is_nil (word c) || are_apart (word c) p) codes) (begins (word_at codes place) p)

abbrev pub locates : Groups → List ℕ → List Code → Bool
locates groups places codes = eqb (length places) (group_count groups) && all_below (λ i. tells codes (group groups i) (get_or places i 0)) (group_count groups)

apart_word : (w p : List Bool) → 0 < length w → (is_nil w || are_apart w p) ≡ true → are_apart w p ≡ true
apart_word [] p some h = absurd (omega arith)
apart_word (b ∷ w) p some h = h

entry-some : (codes : List Code) (place : ℕ) → eqb (code_at codes place).0 0 ≡ false → IsEntry codes place
entry-some codes place e = omega (arith, λ (z : (code_at codes place).0 ≡ 0). false≢true (sym e ∙ eq-eqb (code_at codes place).0 0 z))

tells-all : (codes : List Code) (p : List Bool) (place : ℕ) → tells codes p place ≡ true → (more : List Bool) → BeginsWith codes (p ++ more) (entry_of codes place)
unfolding binary
tells-all codes p place h more = by (cases_Bool (eqb (code_at codes place).0 0))
  where
    none : list_all (λ c. is_nil (word c) || are_apart (word c) p) codes ≡ true → BeginsWith codes (p ++ more) None
    none all q rest is e =
        let w = word_at codes q in
        let size : 0 < length w = omega (arith, length-binary (code_at codes q).0 (code_at codes q).1) in
        let apart = apart_word w p size (list_all-at (λ c. is_nil (word c) || are_apart (word c) p) codes (0, 0) refl all q) in
        not_apart w p rest more apart (sym e)

    by : (eqb (code_at codes place).0 0 ≡ true) ⊎ (eqb (code_at codes place).0 0 ≡ false) → BeginsWith codes (p ++ more) (entry_of codes place)
    by (inl e) =
        let P : Bool → Type 0 = λ b. cond b (list_all (λ c. is_nil (word c) || are_apart (word c) p) codes) (begins (word_at codes place) p) ≡ true → BeginsWith codes (p ++ more) (cond b None (Some place)) in
        subst P (sym e) none h
    by (inr e) =
        let P : Bool → Type 0 = λ b. cond b (list_all (λ c. is_nil (word c) || are_apart (word c) p) codes) (begins (word_at codes place) p) ≡ true → BeginsWith codes (p ++ more) (cond b None (Some place)) in
        subst P (sym e) (λ (t : begins (word_at codes place) p ≡ true). (
        let rest = begins-rest (word_at codes place) p t in
        (entry-some codes place e, (rest.0 ++ more, ap (λ x. x ++ more) rest.1 ∙ append_assoc (word_at codes place) rest.0 more)))) h

pub Locates-from_test : (groups : Groups) (places : List ℕ) (codes : List Code) → locates groups places codes ≡ true → Locates groups places codes
Locates-from_test groups places codes h =
    let parts = and_parts (eqb (length places) (group_count groups)) (all_below (λ i. tells codes (group groups i) (get_or places i 0)) (group_count groups)) h in
    record {
      size = eqb-true (length places) (group_count groups) parts.0;
      each = λ i more below. tells-all codes (group groups i) (get_or places i 0)
          (all_below-at (λ k. tells codes (group groups k) (get_or places k 0)) (group_count groups) i parts.1 below) more;
    }

-- ---- a table without entries, and one of the first entries of another one

pub Locates-empty : (groups : Groups) (places : List ℕ) → length places ≡ group_count groups → Locates groups places []
Locates-empty groups places size = record {
  size = size;
  each = λ i more below. (λ q rest is e. omega (arith, is));
}

begins-take : (n : ℕ) (codes : List Code) (bits : List Bool) (place : ℕ) → IsCodeTable codes → BeginsWith codes bits (entry_of codes place) → BeginsWith (take n codes) bits (entry_of (take n codes) place)
begins-take n codes bits place t h = elim (code_at-take n codes place) [
  | inl same ↦ kept same.1
  | inr gone ↦ cut gone
]
  where
    -- a word of the first entries is one of all
    other : (q : ℕ) → IsEntry (take n codes) q → code_at (take n codes) q ≡ code_at codes q
    other q is = elim (code_at-take n codes q) [
      | inl same ↦ same.1
      | inr gone ↦ absurd (let P : Code → Type 0 = λ c. 0 < c.0 in let bad : 0 < 0 = subst P gone is in omega arith)
    ]

    none : BeginsWith codes bits None → BeginsWith (take n codes) bits None
    none h q rest is e =
        let same = other q is in
        let P : Code → Type 0 = λ c. 0 < c.0 in
        h q rest (subst P same is) (e ∙ ap (λ c. word c ++ rest) same)

    kept : code_at (take n codes) place ≡ code_at codes place → BeginsWith (take n codes) bits (entry_of (take n codes) place)
    kept same = by (cases_Bool (eqb (code_at codes place).0 0))
      where
        by : (eqb (code_at codes place).0 0 ≡ true) ⊎ (eqb (code_at codes place).0 0 ≡ false) → BeginsWith (take n codes) bits (entry_of (take n codes) place)
        by (inl e) =
            let P : Bool → Type 0 = λ b. BeginsWith codes bits (cond b None (Some place)) in
            let Q : Bool → Type 0 = λ b. BeginsWith (take n codes) bits (cond b None (Some place)) in
            subst Q (sym (ap (λ c. eqb c.0 0) same ∙ e)) (none (subst P e h))
        by (inr e) =
            let P : Bool → Type 0 = λ b. BeginsWith codes bits (cond b None (Some place)) in
            let Q : Bool → Type 0 = λ b. BeginsWith (take n codes) bits (cond b None (Some place)) in
            let all = subst P e h in
            let R : Code → Type 0 = λ c. 0 < c.0 in
            subst Q (sym (ap (λ c. eqb c.0 0) same ∙ e)) (subst R (sym same) all.0, (all.1.0, all.1.1 ∙ ap (λ c. word c ++ all.1.0) (sym same)))

    cut : code_at (take n codes) place ≡ (0, 0) → BeginsWith (take n codes) bits (entry_of (take n codes) place)
    cut gone =
        let Q : Code → Type 0 = λ c. BeginsWith (take n codes) bits (cond (eqb c.0 0) None (Some place)) in
        subst Q (sym gone) (by (cases_Bool (eqb (code_at codes place).0 0)))
      where
        by : (eqb (code_at codes place).0 0 ≡ true) ⊎ (eqb (code_at codes place).0 0 ≡ false) → BeginsWith (take n codes) bits None
        by (inl e) = let P : Bool → Type 0 = λ b. BeginsWith codes bits (cond b None (Some place)) in none (subst P e h)
        by (inr e) = λ q rest is f.
            let P : Bool → Type 0 = λ b. BeginsWith codes bits (cond b None (Some place)) in
            let all = subst P e h in
            let same = other q is in
            let R : Code → Type 0 = λ c. 0 < c.0 in
            let one = t.prefix_free place q all.1.0 rest all.0 (subst R same is) (sym all.1.1 ∙ f ∙ ap (λ c. word c ++ rest) same) in
            let S : ℕ → Type 0 = λ k. IsEntry (take n codes) k in
            let bad : 0 < 0 = subst R gone (subst S (sym one) is) in
            omega arith

pub Locates-take : (n : ℕ) (groups : Groups) (places : List ℕ) (codes : List Code) → IsCodeTable codes → Locates groups places codes → Locates groups places (take n codes)
Locates-take n groups places codes t l = record {
  size = l.size;
  each = λ i more below. begins-take n codes (group groups i ++ more) (get_or places i 0) t (l.each i more below);
}

-- ---- the group of a number's bits

abbrev pub BeginsGroup : Groups → List Bool → ℕ → Type 0
BeginsGroup groups bits i = (more : List Bool) × (bits ≡ group groups i ++ more)

pub six_bits : (window : ℕ) → BeginsGroup OfSixBits (binary 64 window) (window / 2 ^ 58)
six_bits window = (binary 58 window, binary-add 6 58 window)

one_at_end : (z : ℕ) → binary (z + 1) 1 ≡ replicate z false ++ true ∷ []
unfolding binary
one_at_end z = binary-add z 1 1 ∙ ap (λ t. t ++ true ∷ []) (binary-zero z)

-- three bits of a number
three_bits : (i z x : ℕ) → i ≡ 8 * z + x % 8 → binary 3 i ≡ binary 3 x
three_bits i z x e =
    let high : i ≡ z * 2 ^ 3 + x % 8 = omega (arith, e) in
    let split : x / 8 * 2 ^ 3 + x % 8 ≡ x = shr_split x 3 in
    ap (binary 3) high ∙ binary-high 3 z (x % 8) ∙ sym (binary-high 3 (x / 8) (x % 8)) ∙ ap (binary 3) split

quotient_is : (i z x : ℕ) → i ≡ 8 * z + x % 8 → i / 8 ≡ z
quotient_is i z x e =
    let high : i ≡ z * 2 ^ 3 + x % 8 = omega (arith, e) in
    ap (λ k. k / 8) high ∙ shr_high z 3 (x % 8) (mod_below x 8 (omega arith))

few_zeros : (w i z : ℕ) → z < 15 → 2 ^ (63 - z) ≤ w → w < 2 * 2 ^ (63 - z) → i ≡ 8 * z + w / 2 ^ (60 - z) % 8 → BeginsGroup ByZeros (binary 64 w) i
few_zeros w i z below low high e =
    let k : ℕ = 63 - z in
    let j : ℕ = 60 - z in
    let one : w / 2 ^ k ≡ 1 =
    let split : w ≡ 1 * 2 ^ k + (w - 2 ^ k) = omega (arith, low) in
    ap (λ n. n / 2 ^ k) split ∙ shr_high 1 k (w - 2 ^ k) (omega (arith, low, high)) in
    let size : 64 ≡ z + 1 + k = omega (arith, below) in
    let rest : k ≡ 3 + j = omega (arith, below) in
    let front = ap (λ n. binary n w) size ∙ binary-add (z + 1) k w ∙ ap (λ n. binary (z + 1) n ++ binary k w) one ∙ ap (λ t. t ++ binary k w) (one_at_end z) ∙ append_assoc (replicate z false) (true ∷ []) (binary k w) in
    let back : binary k w ≡ binary 3 i ++ binary j w = ap (λ n. binary n w) rest ∙ binary-add 3 j w ∙ ap (λ t. t ++ binary j w) (sym (three_bits i z (w / 2 ^ j) e)) in
    let q = quotient_is i z (w / 2 ^ j) e in
    let few : eqb (i / 8) 15 ≡ false = ap (λ n. eqb n 15) q ∙ not_fifteen z below in
    let is : group ByZeros i ≡ replicate z false ++ true ∷ binary 3 i = ap (λ b. cond b (replicate 15 false) (replicate (i / 8) false ++ true ∷ binary 3 i)) few ∙ ap (λ n. replicate n false ++ true ∷ binary 3 i) q in
    (binary j w, front ∙ ap (λ t. replicate z false ++ true ∷ t) back ∙ sym (append_assoc (replicate z false) (true ∷ binary 3 i) (binary j w)) ∙ ap (λ t. t ++ binary j w) (sym is))
  where
    not_fifteen : (z : ℕ) → z < 15 → eqb z 15 ≡ false
    not_fifteen z h = elim (cases_Bool (eqb z 15)) [
      | inl e ↦ absurd (omega (arith, eqb-true z 15 e))
      | inr e ↦ e
    ]

many_zeros : (w i x : ℕ) → w < 2 ^ 49 → i ≡ 8 * 15 + x % 8 → BeginsGroup ByZeros (binary 64 w) i
many_zeros w i x below e =
    let none : w / 2 ^ 49 ≡ 0 =
    let split : w ≡ 0 * 2 ^ 49 + w = omega arith in
    ap (λ n. n / 2 ^ 49) split ∙ shr_high 0 49 w below in
    let q = quotient_is i 15 x e in
    let is : group ByZeros i ≡ replicate 15 false = ap (λ n. cond (eqb n 15) (replicate 15 false) (replicate n false ++ true ∷ binary 3 i)) q in
    (binary 49 w, binary-add 15 49 w ∙ ap (λ n. binary 15 n ++ binary 49 w) none ∙ ap (λ t. t ++ binary 49 w) (binary-zero 15 ∙ sym is))

pub zeros_and_three : (w i z : ℕ) → w < 2 ^ 64 → z ≡ min (count_leading_zeros 64 w) 15 → i ≡ 8 * z + w / 2 ^ (60 - z) % 8 → BeginsGroup ByZeros (binary 64 w) i
zeros_and_three w i z h is e =
    let lead = leading_length 64 w h in
    elim (cases_lt (count_leading_zeros 64 w) 15) [
      | inl few ↦ (
          let zeros : z ≡ count_leading_zeros 64 w = omega (arith, is, few) in
          let digits : lead.0 ≡ 63 - z + 1 = omega (arith, lead.1, zeros, few) in
          let power : 2 ^ lead.0 ≡ 2 * 2 ^ (63 - z) = ap (λ n. 2 ^ n) digits ∙ pow_next (63 - z) in
          few_zeros w i z (omega (arith, zeros, few)) (omega (arith, lead.3, power)) (omega (arith, lead.2, power)) e)
      | inr many ↦ (
          let zeros : z ≡ 15 = omega (arith, is, many) in
          let power : 2 ^ lead.0 ≤ 2 ^ 49 = pow_most lead.0 49 (omega (arith, lead.1, many)) in
          many_zeros w i (w / 2 ^ (60 - z)) (omega (arith, lead.2, power)) (omega (arith, e, zeros)))
    ]

-- ---- what is found in a group

abbrev Found : List Code → List Bool → ℕ → Option Code → Type 0
Found codes bits place None = BeginsWith codes bits None
Found codes bits place (Some c) = BeginsWith codes bits (Some place)

pub found_in : (groups : Groups) (places : List ℕ) (codes : List Code) (i place : ℕ) (bits : List Bool) (entry : Option Code) → Locates groups places codes → i < group_count groups → BeginsGroup groups bits i → place ≡ get_or places i 0 → entry ≡ present (code_at codes place) → Found codes bits place entry
found_in groups places codes i place bits entry l below begin at is =
    let P : List Bool → Type 0 = λ t. BeginsWith codes t (entry_of codes (get_or places i 0)) in
    let Q : ℕ → Type 0 = λ k. BeginsWith codes bits (entry_of codes k) in
    let here : BeginsWith codes bits (entry_of codes place) = subst Q (sym at) (subst P (sym begin.1) (l.each i begin.0 below)) in
    let R : Option Code → Type 0 = λ o. Found codes bits place o in
    subst R (sym is) (by (cases_Bool (eqb (code_at codes place).0 0)) here)
  where
    by : (eqb (code_at codes place).0 0 ≡ true) ⊎ (eqb (code_at codes place).0 0 ≡ false) → BeginsWith codes bits (entry_of codes place) → Found codes bits place (present (code_at codes place))
    by (inl e) =
        let P : Bool → Type 0 = λ b. BeginsWith codes bits (cond b None (Some place)) → Found codes bits place (cond b None (Some (code_at codes place))) in
        subst P (sym e) (λ h. h)
    by (inr e) =
        let P : Bool → Type 0 = λ b. BeginsWith codes bits (cond b None (Some place)) → Found codes bits place (cond b None (Some (code_at codes place))) in
        subst P (sym e) (λ h. h)

pub found_none : (groups : Groups) (places : List ℕ) (codes all : List Code) (i place : ℕ) (bits : List Bool) (entry : Option Code) → codes ≡ all → Locates groups places codes → i < group_count groups → BeginsGroup groups bits i → place ≡ get_or places i 0 → entry ≡ present (code_at codes place) → entry ≡ None → BeginsWith all bits None
found_none groups places codes all i place bits entry same l below begin at is e =
    let P : Option Code → Type 0 = λ o. Found codes bits place o in
    let Q : List Code → Type 0 = λ cs. BeginsWith cs bits None in
    subst Q same (subst P e (found_in groups places codes i place bits entry l below begin at is))

pub found_some : (groups : Groups) (places : List ℕ) (codes all : List Code) (i place : ℕ) (bits : List Bool) (entry : Option Code) (code : Code) → codes ≡ all → Locates groups places codes → i < group_count groups → BeginsGroup groups bits i → place ≡ get_or places i 0 → entry ≡ present (code_at codes place) → entry ≡ Some code → BeginsWith all bits (Some place)
found_some groups places codes all i place bits entry code same l below begin at is e =
    let P : Option Code → Type 0 = λ o. Found codes bits place o in
    let Q : List Code → Type 0 = λ cs. BeginsWith cs bits (Some place) in
    subst Q same (subst P e (found_in groups places codes i place bits entry l below begin at is))

pub found_length : (codes all : List Code) (place k n v : ℕ) (o : Option Code) → codes ≡ all → o ≡ present (code_at codes k) → k ≡ place → o ≡ Some (n, v) → n ≡ (code_at all place).0
found_length codes all place k n v o same entry at some =
    ap (λ (c : Code). c.0) (of (code_at codes k) (n, v) (cases_Bool (eqb (code_at codes k).0 0)) (sym entry ∙ some))
    ∙ ap (λ i. (code_at codes i).0) at ∙ ap (λ (cs : List Code). (code_at cs place).0) same
  where
    of : (c d : Code) → (eqb c.0 0 ≡ true) ⊎ (eqb c.0 0 ≡ false) → present c ≡ Some d → d ≡ c
    of c d (inl e) h =
        let P : Bool → Type 0 = λ b. cond b None (Some c) ≡ Some d in
        absurd (let bad : ◌≡◌ {A = Option Code} None (Some d) = subst P e h in cc)
    of c d (inr e) h =
        let P : Bool → Type 0 = λ b. cond b None (Some c) ≡ Some d in
        let here : ◌≡◌ {A = Option Code} (Some c) (Some d) = subst P e h in cc
