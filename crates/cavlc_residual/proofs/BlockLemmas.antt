use Rattle.cavlc_residual.proofs.CoefficientLemmas.{code_in_range, next_suffix_length-small}
use Rattle.std.proofs.Common.{◌≡◌, ℕ, zero, suc, ◌+◌, ◌-◌, ◌*◌, ◌<◌, ◌≤◌, ℤ, pos, negsuc, Bool, true, false, ◌||◌, cond, List, [], ◌∷◌, ◌++◌, length, take, drop, sum, filter, reverse, nat_lt, ltb, leb, Option, Some, None, refl, sym, ap, ◌∙◌, subst, arith, ◌⊎◌, inl, inr, length-append}
use Rattle.std.specs.Option.{option_map}
use Rattle.std.specs.List.{AllByRecursion}
use Rattle.std.proofs.lemmas.List.{append-nil, reverse-append, reverse-reverse, length-reverse, length-replicate, take-append-drop}
use Rattle.std.proofs.lemmas.Bool.{cases_Bool, false≢true, ltb-true, ltb-false, lt-ltb, le-ltb, leb-true, le-leb, eqb-true, eq-eqb}
use Rattle.bit_texts.specs.Texts.{Reads, IsPrefixFree, BothAre, both_texts}
use Rattle.bit_texts.proofs.Reading.{Reads-then, Reads-stop, Reads-map, IsPrefixFree-then, IsPrefixFree-map}
use Rattle.code_tables.specs.Codes.{Code, code_at, IsEntry, word_at}
use Rattle.code_tables.specs.CoeffToken.{coeff_token_0, coeff_token_2, coeff_token_4, coeff_token_8, coeff_token_dc, coeff_token_list}
use Rattle.code_tables.specs.TotalZeros.{total_zeros_list}
use Rattle.cavlc_residual.specs.Level.{level_word}
use Rattle.cavlc_residual.specs.Coefficients.{magnitude, code_of, next_suffix_length, AreCoefficients}
use Rattle.cavlc_residual.specs.Block.{IsShape, is_nonzero, total_coeff, is_one, leading_zeros, runs_of, ones_within, trailing_ones, first_suffix_length, first_extra, levels_text, runs_text, parts_text, block_text, is_above, levels_above, is_beyond, IsBlock}
use Rattle.cavlc_residual.specs.Parts.{IsToken, token_text, AreLevels, scan_of, ReadsPlaced}
use Rattle.code_tables.proofs.CodeTables.{all_below, all_below-at}
use Rattle.cavlc_residual.proofs.LevelLemmas.{level_word-small}
use Rattle.cavlc_residual.proofs.RunLemmas.{IsSize, AreZeros, IsRuns, zeros_none, IsPrefixFree-zeros, IsPrefixFree-runs}
use Rattle.cavlc_residual.proofs.PartLemmas.{IsPrefixFree-token, IsPrefixFree-levels, ones_are, FirstIsNoOne, first_suffix_length-small}
use Rattle.cavlc_residual.proofs.ScanLemmas.{count-reverse, zeros, AllNonzero, expand, reverse-zeros, reverse-scan, length-scan, filter-zeros, runs_of-zeros, filter-expand, runs_of-expand, expand_of, AllNonzero-filter, length-runs_of, length_parts}

-- ---- the entries of coeff_token

agree : Bool → Bool → Bool
agree true b = b
agree false true = false
agree false false = true

agree-same : (a b : Bool) → agree a b ≡ true → a ≡ b
unfolding agree
agree-same true b e = sym e
agree-same false true e = e
agree-same false false e = refl

tokens_stand : List Code → ℕ → Bool
tokens_stand codes n = all_below (λ t. all_below (λ o. agree (ltb 0 (code_at codes (4 * t + o)).0) (leb o t)) 4) n

-- Of each total_coeff below n, the entries are those of as many trailing ones at most.
abbrev TokensStand : List Code → ℕ → Type 0
TokensStand codes n = (t o : ℕ) → t < n → o < 4 → (IsEntry codes (4 * t + o) → o ≤ t) × (o ≤ t → IsEntry codes (4 * t + o))

tokens_stand-all : (codes : List Code) (n : ℕ) → tokens_stand codes n ≡ true → TokensStand codes n
unfolding tokens_stand
tokens_stand-all codes n all t o h k =
    let same : ltb 0 (code_at codes (4 * t + o)).0 ≡ leb o t =
    agree-same _ _ (all_below-at (λ o. agree (ltb 0 (code_at codes (4 * t + o)).0) (leb o t)) 4 o
    (all_below-at (λ t. all_below (λ o. agree (ltb 0 (code_at codes (4 * t + o)).0) (leb o t)) 4) n t all h) k) in
    (λ is. leb-true o t (sym same ∙ lt-ltb 0 (code_at codes (4 * t + o)).0 is), λ le. ltb-true 0 (code_at codes (4 * t + o)).0 (same ∙ le-leb o t le))

TokensStand-cond : (b : Bool) (xs ys : List Code) (n : ℕ) → TokensStand xs n → TokensStand ys n → TokensStand (cond b xs ys) n
TokensStand-cond true xs ys n p q = p
TokensStand-cond false xs ys n p q = q

tokens_of-pos : (n : ℕ) → TokensStand (coeff_token_list (pos n)) 17
unfolding coeff_token_list tokens_stand agree
tokens_of-pos n =
    TokensStand-cond (nat_lt n 2) coeff_token_0 _ 17 (tokens_stand-all coeff_token_0 17 refl)
    (TokensStand-cond (nat_lt n 4) coeff_token_2 _ 17 (tokens_stand-all coeff_token_2 17 refl)
    (TokensStand-cond (nat_lt n 8) coeff_token_4 coeff_token_8 17 (tokens_stand-all coeff_token_4 17 refl) (tokens_stand-all coeff_token_8 17 refl)))

tokens_of-negsuc : (n : ℕ) → TokensStand (coeff_token_list (negsuc n)) 5
unfolding coeff_token_list tokens_stand agree
tokens_of-negsuc n = tokens_stand-all coeff_token_dc 5 refl

pub token_entry : (nc : ℤ) (max t o : ℕ) → IsShape nc max → t ≤ max → o < 4 → (IsEntry (coeff_token_list nc) (4 * t + o) → o ≤ t) × (o ≤ t → IsEntry (coeff_token_list nc) (4 * t + o))
token_entry (negsuc n) max t o shape h k = tokens_of-negsuc n t o (omega arith) k
token_entry (pos n) max t o (inl e) h k = tokens_of-pos n t o (omega arith) k
token_entry (pos n) max t o (inr e) h k = tokens_of-pos n t o (omega arith) k

pub size_of_shape : (nc : ℤ) (max : ℕ) → IsShape nc max → IsSize max
size_of_shape (negsuc n) max e = inl e
size_of_shape (pos n) max e = inr e

pub size-small : (max : ℕ) → IsSize max → max ≤ 16
size-small max (inl e) = omega arith
size-small max (inr (inl e)) = omega arith
size-small max (inr (inr e)) = omega arith

-- ---- levels in range

abbrev pub AllSmall : List ℤ → Type 0
AllSmall = AllByRecursion (λ l. magnitude l ≤ 65535)

pub all_append : (P : ℤ → Type 0) (xs ys : List ℤ) → AllByRecursion P xs → AllByRecursion P ys → AllByRecursion P (xs ++ ys)
all_append P [] ys p q = q
all_append P (x ∷ xs) ys p q = (p.0, all_append P xs ys p.1 q)

pub all_parts : (P : ℤ → Type 0) (xs ys : List ℤ) → AllByRecursion P (xs ++ ys) → AllByRecursion P xs × AllByRecursion P ys
all_parts P [] ys p = (tt, p)
all_parts P (x ∷ xs) ys p = let rest = all_parts P xs ys p.1 in ((p.0, rest.0), rest.1)

pub all_reverse : (P : ℤ → Type 0) (xs : List ℤ) → AllByRecursion P xs → AllByRecursion P (reverse xs)
all_reverse P [] p = tt
all_reverse P (x ∷ xs) p =
    let Q : List ℤ → Type 0 = λ t. AllByRecursion P t in
    subst Q (sym (reverse-append (x ∷ []) xs)) (all_append P (reverse xs) (x ∷ []) (all_reverse P xs p.1) (p.0, tt))

pub all_filter : (P : ℤ → Type 0) (f : ℤ → Bool) (xs : List ℤ) → AllByRecursion P xs → AllByRecursion P (filter f xs)
all_filter P f [] p = tt
all_filter P f (x ∷ xs) p = by (f x) (all_filter P f xs p.1) where
  by : (b : Bool) → AllByRecursion P (filter f xs) → AllByRecursion P (cond b (x ∷ filter f xs) (filter f xs))
  by true q = (p.0, q)
  by false q = q

all_weaker : (P Q : ℤ → Type 0) → ((l : ℤ) → P l → Q l) → (xs : List ℤ) → AllByRecursion P xs → AllByRecursion Q xs
all_weaker P Q f [] p = tt
all_weaker P Q f (x ∷ xs) p = (f x p.0, all_weaker P Q f xs p.1)

pub small_zeros : (n : ℕ) → AllSmall (zeros n)
small_zeros zero = tt
small_zeros (suc n) = (omega arith, small_zeros n)

small_scan : (ls : List ℤ) (rs : List ℕ) → AllSmall ls → AllSmall (scan_of ls rs)
small_scan [] rs p = tt
small_scan (l ∷ ls) [] p = tt
small_scan (l ∷ ls) (r ∷ rs) p =
    all_append _ (scan_of ls rs) (zeros r ++ l ∷ []) (small_scan ls rs p.1) (all_append _ (zeros r) (l ∷ []) (small_zeros r) (p.0, tt))

pub magnitude-nonzero : (l : ℤ) → is_nonzero l ≡ true → 0 < magnitude l
magnitude-nonzero (pos n) e = ltb-true 0 n e
magnitude-nonzero (negsuc n) e = omega arith

nonzero-magnitude : (l : ℤ) → 0 < magnitude l → is_nonzero l ≡ true
nonzero-magnitude (pos n) h = lt-ltb 0 n h
nonzero-magnitude (negsuc n) h = refl

one_is : (l : ℤ) → is_one l ≡ true → magnitude l ≡ 1
one_is (pos n) e = eqb-true n 1 e
one_is (negsuc n) e = ap suc (eqb-true n 0 e)

or_false : (a b : Bool) → (a || b) ≡ false → (a ≡ false) × (b ≡ false)
or_false true b e = absurd (false≢true (sym e))
or_false false b e = (refl, e)

-- ---- the levels that have a text with no level_prefix above the bound

abbrev FirstAbove : ℕ → List ℤ → Type 0
FirstAbove extra [] = Unit {0}
FirstAbove extra (l ∷ ls) = extra ≤ code_of l

first_above-zero : (ls : List ℤ) → FirstAbove 0 ls
first_above-zero [] = tt
first_above-zero (l ∷ ls) = omega arith

pub coefficients_are : (bound s extra : ℕ) (ls : List ℤ) → is_above bound s extra ls ≡ false → AllNonzero ls → AllSmall ls → FirstAbove extra ls → AreCoefficients bound s extra ls
coefficients_are bound s extra [] e all small first = tt
coefficients_are bound s extra (l ∷ ls) e all small first =
    let w = level_word s (code_of l - extra) in
    let parts = or_false (nat_lt bound w.0) (is_above bound (next_suffix_length s l) 0 ls) e in (
      record { nonzero = magnitude-nonzero l all.0; small = small.0; above = first; within = ltb-false bound w.0 parts.0 },
      coefficients_are bound (next_suffix_length s l) 0 ls parts.1 all.1 small.1 (first_above-zero ls),
    )

pub none_above : (bound s extra : ℕ) (ls : List ℤ) → AreCoefficients bound s extra ls → is_above bound s extra ls ≡ false
none_above bound s extra [] are = refl
none_above bound s extra (l ∷ ls) are =
    ap (λ b. b || is_above bound (next_suffix_length s l) 0 ls) (le-ltb bound (level_word s (code_of l - extra)).0 are.0.within)
    ∙ none_above bound (next_suffix_length s l) 0 ls are.1

coefficients_nonzero : (bound s extra : ℕ) (ls : List ℤ) → AreCoefficients bound s extra ls → AllNonzero ls × AllSmall ls
coefficients_nonzero bound s extra [] are = (tt, tt)
coefficients_nonzero bound s extra (l ∷ ls) are =
    let rest = coefficients_nonzero bound (next_suffix_length s l) 0 ls are.1 in
    ((nonzero-magnitude l are.0.nonzero, rest.0), (are.0.small, rest.1))

-- behind fewer than three trailing ones there is a greater level
ones_stop : (n : ℕ) (ls : List ℤ) → ones_within n ls < n → FirstIsNoOne (drop (ones_within n ls) ls)
ones_stop zero ls h = absurd (omega arith)
ones_stop (suc n) [] h = tt
ones_stop (suc n) (l ∷ ls) h = by n l ls (cases_Bool (is_one l)) (ones_stop n ls) h where
  by : (n : ℕ) (l : ℤ) (ls : List ℤ) → (is_one l ≡ true) ⊎ (is_one l ≡ false) → (ones_within n ls < n → FirstIsNoOne (drop (ones_within n ls) ls)) → cond (is_one l) (suc (ones_within n ls)) 0 < suc n → FirstIsNoOne (drop (cond (is_one l) (suc (ones_within n ls)) 0) (l ∷ ls))
  by n l ls (inl e) rest = let P : Bool → Type 0 = λ b. cond b (suc (ones_within n ls)) 0 < suc n → FirstIsNoOne (drop (cond b (suc (ones_within n ls)) 0) (l ∷ ls)) in
      subst P (sym e) (λ h. rest (omega arith))
  by n l ls (inr e) rest = let P : Bool → Type 0 = λ b. cond b (suc (ones_within n ls)) 0 < suc n → FirstIsNoOne (drop (cond b (suc (ones_within n ls)) 0) (l ∷ ls)) in
      subst P (sym e) (λ h. e)

two_above : (l : ℤ) → is_nonzero l ≡ true → is_one l ≡ false → 2 ≤ code_of l
two_above (pos n) p q = omega (arith, ltb-true 0 n p, λ (e : n ≡ 1). false≢true (sym q ∙ eq-eqb n 1 e))
two_above (negsuc n) p q = omega (arith, λ (e : n ≡ 0). false≢true (sym q ∙ eq-eqb n 0 e))

first_above : (ls : List ℤ) → AllNonzero ls → FirstIsNoOne ls → FirstAbove 2 ls
first_above [] all apart = tt
first_above (l ∷ ls) all apart = two_above l all.0 apart

first_extra_above : (o : ℕ) (ls : List ℤ) → AllNonzero ls → (o < 3 → FirstIsNoOne ls) → FirstAbove (first_extra o) ls
first_extra_above o ls all first = by (cases_Bool (nat_lt o 3)) where
  by : (nat_lt o 3 ≡ true) ⊎ (nat_lt o 3 ≡ false) → FirstAbove (cond (nat_lt o 3) 2 0) ls
  by (inl e) = let P : Bool → Type 0 = λ b. FirstAbove (cond b 2 0) ls in subst P (sym e) (first_above ls all (first (ltb-true o 3 e)))
  by (inr e) = let P : Bool → Type 0 = λ b. FirstAbove (cond b 2 0) ls in subst P (sym e) (first_above-zero ls)

pub levels_are : (bound : ℕ) (ls : List ℤ) → levels_above bound ls ≡ false → AllNonzero ls → AllSmall ls → AreLevels (length ls, trailing_ones ls) bound ls
levels_are bound ls e all small =
    let o = trailing_ones ls in
    let cut = take-append-drop o ls in
    let P : List ℤ → Type 0 = λ t. AllNonzero t in
    let Q : List ℤ → Type 0 = λ t. AllSmall t in
    let nonzero = (all_parts _ (take o ls) (drop o ls) (subst P (sym cut) all)).1 in
    record {
      count = refl;
      ones = refl;
      others = coefficients_are bound (first_suffix_length (length ls) o) (first_extra o) (drop o ls) e nonzero
          (all_parts _ (take o ls) (drop o ls) (subst Q (sym cut) small)).1
          (first_extra_above o (drop o ls) nonzero (ones_stop 3 ls));
    }

-- and back
pub levels_of : (t : ℕ × ℕ) (bound : ℕ) (ls : List ℤ) → AreLevels t bound ls → AllNonzero ls × AllSmall ls × (levels_above bound ls ≡ false)
levels_of t bound ls are =
    let o = trailing_ones ls in
    let cut = take-append-drop o ls in
    let P : List ℤ → Type 0 = λ t. AllNonzero t in
    let Q : List ℤ → Type 0 = λ t. AllSmall t in
    let R : ℕ → Type 0 = λ k. AreCoefficients bound (first_suffix_length t.0 k) (first_extra k) (drop k ls) in
    let S : ℕ → Type 0 = λ k. AreCoefficients bound (first_suffix_length k o) (first_extra o) (drop o ls) in
    let others : AreCoefficients bound (first_suffix_length (length ls) o) (first_extra o) (drop o ls) = subst S (sym are.count) (subst R (sym are.ones) are.others) in
    let rest = coefficients_nonzero bound (first_suffix_length (length ls) o) (first_extra o) (drop o ls) others in
    let ones = (ones_are 3 ls).each in (
      subst P cut (all_append _ (take o ls) (drop o ls) (all_weaker _ _ (λ l e. nonzero-magnitude l (omega (arith, one_is l e))) (take o ls) ones) rest.0),
      subst Q cut (all_append _ (take o ls) (drop o ls) (all_weaker _ _ (λ l e. omega (arith, one_is l e)) (take o ls) ones) rest.1),
      none_above bound (first_suffix_length (length ls) o) (first_extra o) (drop o ls) others,
    )

-- ---- a block as its parts: coeff_token, levels, total_zeros, runs

abbrev pub IsTail : ℕ → List ℤ → ℕ × List ℕ → Type 0
IsTail max ls = BothAre (AreZeros max (length ls)) (λ z. IsRuns (length ls) z)

abbrev pub tail_text : ℕ → List ℤ → ℕ × List ℕ → List Bool
tail_text max ls = both_texts (word_at (total_zeros_list max (length ls))) (λ z. runs_text z)

abbrev pub IsRest : ℕ → ℕ → ℕ × ℕ → List ℤ × (ℕ × List ℕ) → Type 0
IsRest max bound t = BothAre (AreLevels t bound) (λ ls. IsTail max ls)

abbrev pub rest_text : ℕ → ℕ × ℕ → List ℤ × (ℕ × List ℕ) → List Bool
rest_text max t = both_texts levels_text (λ ls. tail_text max ls)

abbrev pub Parts : Type 0
Parts = (ℕ × ℕ) × (List ℤ × (ℕ × List ℕ))

abbrev pub ArePartsOf : ℤ → ℕ → ℕ → Parts → Type 0
ArePartsOf nc max bound = BothAre (IsToken nc max) (IsRest max bound)

abbrev pub all_text : ℤ → ℕ → Parts → List Bool
all_text nc max = both_texts (token_text nc) (rest_text max)

abbrev pub parts_of : List ℤ → Parts
parts_of levels =
    let ls = filter is_nonzero (reverse levels) in
    let rs = runs_of (reverse levels) in
    ((length ls, trailing_ones ls), (ls, (sum rs, rs)))

abbrev pub block_of : ℕ → Parts → List ℤ
block_of max v = scan_of v.1.0 v.1.1.1 ++ zeros (max - (length v.1.0 + sum v.1.1.1))

block_parts : (nc : ℤ) (max bound : ℕ) → IsShape nc max → (levels : List ℤ) → IsBlock max bound levels → ArePartsOf nc max bound (parts_of levels) × (block_text nc levels ≡ all_text nc max (parts_of levels))
block_parts nc max bound shape levels is =
    let ds = reverse levels in
    let ls = filter is_nonzero ds in
    let rs = runs_of ds in
    let size : length ds ≡ max = length-reverse levels ∙ is.size in
    let fits : length ls + sum rs ≤ max = omega (arith, length_parts ds) in
    let ones = ones_are 3 ls in
    let o_fits : trailing_ones ls ≤ length ls = ones.fits in
    let o_small : trailing_ones ls < 4 = omega (arith, ones.within) in (
      (
        (omega arith, o_small, (token_entry nc max (length ls) (trailing_ones ls) shape (omega arith) o_small).1 o_fits),
        (
          levels_are bound ls is.within (AllNonzero-filter ds) (all_filter _ is_nonzero ds (all_reverse _ levels is.small)),
          ((fits, λ none. no_runs ds none), (length-runs_of ds, refl)),
        ),
      ),
      ap (λ m. parts_text nc m ls rs) is.size,
    )
  where
    no_runs : (ds : List ℤ) → length (filter is_nonzero ds) ≡ 0 → sum (runs_of ds) ≡ 0
    no_runs ds none = by (runs_of ds) (length-runs_of ds ∙ none) where
      by : (rs : List ℕ) → length rs ≡ 0 → sum rs ≡ 0
      by [] e = refl
      by (r ∷ rs) e = absurd (omega arith)

reverse-block : (max : ℕ) (ls : List ℤ) (rs : List ℕ) (k : ℕ) → reverse (scan_of ls rs ++ zeros k) ≡ zeros k ++ expand ls rs
reverse-block max ls rs k =
    reverse-append (scan_of ls rs) (zeros k) ∙ (ap (λ t. t ++ reverse (scan_of ls rs)) (reverse-zeros k) ∙ ap (λ t. zeros k ++ t) (reverse-scan ls rs))

block_joined : (nc : ℤ) (max bound : ℕ) (v : Parts) → ArePartsOf nc max bound v → IsBlock max bound (block_of max v) × (block_text nc (block_of max v) ≡ all_text nc max v)
block_joined nc max bound v are =
    let ls = v.1.0 in
    let z = v.1.1.0 in
    let rs = v.1.1.1 in
    let k = max - (length ls + sum rs) in
    let levels = block_of max v in
    let pairs : length ls ≡ length rs = sym are.1.1.1.0 in
    let total : sum rs ≡ z = are.1.1.1.1 in
    let known = levels_of v.0 bound ls are.1.0 in
    let fits : length ls + sum rs ≤ max = omega (arith, are.1.1.0.0) in
    let down : reverse levels ≡ zeros k ++ expand ls rs = reverse-block max ls rs k in
    let found : filter is_nonzero (reverse levels) ≡ ls = ap (filter is_nonzero) down ∙ (filter-zeros k (expand ls rs) ∙ filter-expand ls rs pairs known.0) in
    let runs : runs_of (reverse levels) ≡ rs = ap runs_of down ∙ (runs_of-zeros k (expand ls rs) ∙ runs_of-expand ls rs pairs known.0) in
    let size : length levels ≡ max = length-append (scan_of ls rs) (zeros k) ∙ omega (arith, length-scan ls rs pairs, length-replicate k (pos 0)) in
    let place : 4 * length ls + trailing_ones ls ≡ 4 * v.0.0 + v.0.1 = omega (arith, are.1.0.count, are.1.0.ones) in (
      record {
        size = size;
        small = all_append _ (scan_of ls rs) (zeros k) (small_scan ls rs known.1) (small_zeros k);
        within = ap (levels_above bound) found ∙ known.2;
      },
      ap (λ m. parts_text nc m (filter is_nonzero (reverse levels)) (runs_of (reverse levels))) size
          ∙ (ap (λ t. parts_text nc max t (runs_of (reverse levels))) found
          ∙ (ap (λ t. parts_text nc max ls t) runs
          ∙ (ap (λ p. word_at (coeff_token_list nc) p ++ (levels_text ls ++ (word_at (total_zeros_list max (length ls)) (sum rs) ++ runs_text (sum rs) rs))) place
          ∙ ap (λ n. word_at (coeff_token_list nc) (4 * v.0.0 + v.0.1) ++ (levels_text ls ++ (word_at (total_zeros_list max (length ls)) n ++ runs_text n rs))) total))),
    )

block_same : (max : ℕ) (levels : List ℤ) → length levels ≡ max → block_of max (parts_of levels) ≡ levels
block_same max levels size =
    let ds = reverse levels in
    let ls = filter is_nonzero ds in
    let rs = runs_of ds in
    let k : max - (length ls + sum rs) ≡ leading_zeros ds = omega (arith, length_parts ds, length-reverse levels) in
    let down : reverse (block_of max (parts_of levels)) ≡ ds = reverse-block max ls rs (max - (length ls + sum rs)) ∙ (ap (λ n. zeros n ++ expand ls rs) k ∙ sym (expand_of ds)) in
    sym (reverse-reverse (block_of max (parts_of levels))) ∙ (ap reverse down ∙ reverse-reverse levels)

-- TotalCoeff of the block of some parts
pub total_of : (t o bound k : ℕ) (ls : List ℤ) (rs : List ℕ) (levels : List ℤ) → AreLevels (t, o) bound ls → length rs ≡ t → levels ≡ scan_of ls rs ++ zeros k → t ≡ total_coeff levels
total_of t o bound k ls rs levels are runs e =
    let known = levels_of (t, o) bound ls are in
    let pairs : length ls ≡ length rs = are.count ∙ sym runs in
    let down : reverse levels ≡ zeros k ++ expand ls rs = ap reverse e ∙ reverse-block 0 ls rs k in
    let found : filter is_nonzero (reverse levels) ≡ ls = ap (filter is_nonzero) down ∙ (filter-zeros k (expand ls rs) ∙ filter-expand ls rs pairs known.0) in
    sym are.count ∙ ap (length {A = ℤ}) (sym found) ∙ count-reverse levels

-- ---- no text of a block begins another one

IsPrefixFree-tail : (max : ℕ) (ls : List ℤ) → IsSize max → length ls ≤ max → IsPrefixFree (IsTail max ls) (tail_text max ls)
IsPrefixFree-tail max ls size h =
    IsPrefixFree-then (AreZeros max (length ls)) (word_at (total_zeros_list max (length ls))) (λ z. IsRuns (length ls) z) (λ z. runs_text z)
    (IsPrefixFree-zeros max (length ls) size h) (λ z k. IsPrefixFree-runs (length ls) z (omega (arith, k.0, size-small max size)))

IsPrefixFree-token_levels : (nc : ℤ) (max bound : ℕ) (t : ℕ × ℕ) → IsShape nc max → bound ≤ 20 → IsToken nc max t → IsPrefixFree (AreLevels t bound) levels_text
IsPrefixFree-token_levels nc max bound t shape h is =
    IsPrefixFree-levels t bound ((token_entry nc max t.0 t.1 shape is.0 is.1).0 is.2) (omega (arith, is.1)) h

IsPrefixFree-parts : (nc : ℤ) (max bound : ℕ) → IsShape nc max → bound ≤ 20 → IsPrefixFree (ArePartsOf nc max bound) (all_text nc max)
IsPrefixFree-parts nc max bound shape h =
    IsPrefixFree-then (IsToken nc max) (token_text nc) (IsRest max bound) (rest_text max) (IsPrefixFree-token nc max) (λ t is.
    IsPrefixFree-then (AreLevels t bound) levels_text (λ ls. IsTail max ls) (λ ls. tail_text max ls) (IsPrefixFree-token_levels nc max bound t shape h is) (λ ls are.
    IsPrefixFree-tail max ls (size_of_shape nc max shape) (omega (arith, are.count, is.0))))

pub IsPrefixFree-block : (nc : ℤ) (max bound : ℕ) → IsShape nc max → bound ≤ 20 → IsPrefixFree (IsBlock max bound) (block_text nc)
IsPrefixFree-block nc max bound shape h =
    IsPrefixFree-map (ArePartsOf nc max bound) (all_text nc max) (IsBlock max bound) (block_text nc) (block_of max) parts_of
    (block_parts nc max bound shape) (λ levels is. block_same max levels is.size) (IsPrefixFree-parts nc max bound shape h)

-- ---- what was read of the parts is what was read of the block

pub block_read : (nc : ℤ) (max bound : ℕ) (bits : List Bool) (r : Option Parts) (rest : List Bool) → IsShape nc max → Reads (ArePartsOf nc max bound) (all_text nc max) bits r rest → Reads (IsBlock max bound) (block_text nc) bits (option_map (block_of max) r) rest
block_read nc max bound bits r rest shape read =
    Reads-map (ArePartsOf nc max bound) (all_text nc max) (IsBlock max bound) (block_text nc) (block_of max) parts_of
    (block_parts nc max bound shape) (block_joined nc max bound) bits r rest read

pub after_token : (nc : ℤ) (max bound : ℕ) (t : ℕ × ℕ) (bits mid : List Bool) → IsToken nc max t × (bits ≡ token_text nc t ++ mid) → (r : Option (List ℤ × (ℕ × List ℕ))) (rest : List Bool) → Reads (IsRest max bound t) (rest_text max t) mid r rest → Reads (ArePartsOf nc max bound) (all_text nc max) bits (option_map (λ w. (t, w)) r) rest
after_token nc max bound t bits mid first r rest read =
    Reads-then (IsToken nc max) (token_text nc) (IsRest max bound) (rest_text max) (IsPrefixFree-token nc max) t bits mid first.0 first.1 r rest read

pub after_levels : (nc : ℤ) (max bound : ℕ) (t : ℕ × ℕ) (ls : List ℤ) (bits mid : List Bool) → IsShape nc max → bound ≤ 20 → IsToken nc max t → AreLevels t bound ls × (bits ≡ levels_text ls ++ mid) → (r : Option (ℕ × List ℕ)) (rest : List Bool) → Reads (IsTail max ls) (tail_text max ls) mid r rest → Reads (IsRest max bound t) (rest_text max t) bits (option_map (λ w. (ls, w)) r) rest
after_levels nc max bound t ls bits mid shape h is first r rest read =
    Reads-then (AreLevels t bound) levels_text (λ ls. IsTail max ls) (λ ls. tail_text max ls) (IsPrefixFree-token_levels nc max bound t shape h is) ls bits mid first.0 first.1 r rest read

pub after_zeros : (max total z : ℕ) (ls : List ℤ) (bits mid : List Bool) → IsSize max → total ≤ max → length ls ≡ total → AreZeros max total z × (bits ≡ word_at (total_zeros_list max total) z ++ mid) → (r : Option (List ℕ)) (rest : List Bool) → Reads (IsRuns total z) (runs_text z) mid r rest → Reads (IsTail max ls) (tail_text max ls) bits (option_map (λ rs. (z, rs)) r) rest
after_zeros max total z ls bits mid size h count first r rest read =
    let P : ℕ → Type 0 = λ n. AreZeros max n z × (bits ≡ word_at (total_zeros_list max n) z ++ mid) in
    let Q : ℕ → Type 0 = λ n. Reads (IsRuns n z) (runs_text z) mid r rest in
    let here = subst P (sym count) first in
    Reads-then (AreZeros max (length ls)) (word_at (total_zeros_list max (length ls))) (λ z. IsRuns (length ls) z) (λ z. runs_text z)
    (IsPrefixFree-zeros max (length ls) size (omega arith)) z bits mid here.0 here.1 r rest (subst Q (sym count) read)

pub no_zeros : (max total : ℕ) (ls : List ℤ) (bits rest : List Bool) → length ls ≡ total → Reads (AreZeros max total) (word_at (total_zeros_list max total)) bits None rest → Reads (IsTail max ls) (tail_text max ls) bits None rest
no_zeros max total ls bits rest count none =
    let P : ℕ → Type 0 = λ n. Reads (AreZeros max n) (word_at (total_zeros_list max n)) bits None rest in
    Reads-stop (AreZeros max (length ls)) (word_at (total_zeros_list max (length ls))) (λ z. IsRuns (length ls) z) (λ z. runs_text z) bits rest rest (subst P (sym count) none)

pub no_rest : (max bound : ℕ) (t : ℕ × ℕ) (bits rest : List Bool) → Reads (AreLevels t bound) levels_text bits None rest → Reads (IsRest max bound t) (rest_text max t) bits None rest
no_rest max bound t bits rest none = Reads-stop (AreLevels t bound) levels_text (λ ls. IsTail max ls) (λ ls. tail_text max ls) bits rest rest none

pub no_parts : (nc : ℤ) (max bound : ℕ) (bits rest : List Bool) → Reads (IsToken nc max) (token_text nc) bits None rest → Reads (ArePartsOf nc max bound) (all_text nc max) bits None rest
no_parts nc max bound bits rest none = Reads-stop (IsToken nc max) (token_text nc) (IsRest max bound) (rest_text max) bits rest rest none

-- ---- the steps of a read, where the code's nC is m

pub ends_at_token : (m nc : ℤ) (max bound : ℕ) (bits rest : List Bool) → m ≡ nc → IsShape nc max → Reads (IsToken m max) (token_text m) bits None rest → Reads (IsBlock max bound) (block_text nc) bits None rest
ends_at_token m nc max bound bits rest e shape none =
    let P : ℤ → Type 0 = λ n. Reads (IsToken n max) (token_text n) bits None rest in
    block_read nc max bound bits None rest shape (no_parts nc max bound bits rest (subst P e none))

pub token_of : (m nc : ℤ) (max : ℕ) (t : ℕ × ℕ) (bits mid : List Bool) → m ≡ nc → IsToken m max t × (bits ≡ token_text m t ++ mid) → IsToken nc max t × (bits ≡ token_text nc t ++ mid)
token_of m nc max t bits mid e read =
    let P : ℤ → Type 0 = λ n. IsToken n max t × (bits ≡ token_text n t ++ mid) in subst P e read

pub ends_at_levels : (m nc : ℤ) (max bound : ℕ) (t : ℕ × ℕ) (bits mid rest : List Bool) → m ≡ nc → IsShape nc max → IsToken m max t × (bits ≡ token_text m t ++ mid) → Reads (AreLevels t bound) levels_text mid None rest → Reads (IsBlock max bound) (block_text nc) bits None rest
ends_at_levels m nc max bound t bits mid rest e shape token none =
    block_read nc max bound bits None rest shape (after_token nc max bound t bits mid (token_of m nc max t bits mid e token) None rest (no_rest max bound t mid rest none))

pub ends_at_zeros : (m nc : ℤ) (max bound t o : ℕ) (ls : List ℤ) (bits mid tail rest : List Bool) → m ≡ nc → IsShape nc max → bound ≤ 20 → IsToken m max (t, o) × (bits ≡ token_text m (t, o) ++ mid) → AreLevels (t, o) bound ls × (mid ≡ levels_text ls ++ tail) → Reads (AreZeros max t) (word_at (total_zeros_list max t)) tail None rest → Reads (IsBlock max bound) (block_text nc) bits None rest
ends_at_zeros m nc max bound t o ls bits mid tail rest e shape h token levels none =
    let first = token_of m nc max (t, o) bits mid e token in
    block_read nc max bound bits None rest shape (after_token nc max bound (t, o) bits mid first None rest
    (after_levels nc max bound (t, o) ls mid tail shape h first.0 levels None rest (no_zeros max t ls tail rest levels.0.count none)))

pub block_is_read : (m nc : ℤ) (max bound t o z : ℕ) (ls : List ℤ) (bits mid tail runs : List Bool) → m ≡ nc → IsShape nc max → bound ≤ 20 → IsToken m max (t, o) × (bits ≡ token_text m (t, o) ++ mid) → AreLevels (t, o) bound ls × (mid ≡ levels_text ls ++ tail) → AreZeros max t z × (tail ≡ word_at (total_zeros_list max t) z ++ runs) → (r : Option (List ℕ)) (rest : List Bool) → Reads (IsRuns t z) (runs_text z) runs r rest → Reads (IsBlock max bound) (block_text nc) bits (option_map (λ rs. block_of max ((t, o), (ls, (z, rs)))) r) rest
block_is_read m nc max bound t o z ls bits mid tail runs e shape h token levels all_zeros r rest read =
    let first = token_of m nc max (t, o) bits mid e token in
    same r (block_read nc max bound bits _ rest shape (after_token nc max bound (t, o) bits mid first _ rest
    (after_levels nc max bound (t, o) ls mid tail shape h first.0 levels _ rest
    (after_zeros max t z ls tail runs (size_of_shape nc max shape) (omega (arith, first.0.0)) levels.0.count all_zeros r rest read))))
  where
    same : (r : Option (List ℕ)) → Reads (IsBlock max bound) (block_text nc) bits (option_map (block_of max) (option_map (λ w. ((t, o), w)) (option_map (λ w. (ls, w)) (option_map (λ rs. (z, rs)) r)))) rest → Reads (IsBlock max bound) (block_text nc) bits (option_map (λ rs. block_of max ((t, o), (ls, (z, rs)))) r) rest
    same None w = w
    same (Some rs) w = w

-- the same with the block that the levels were put into
pub placed_is_read : (m nc : ℤ) (max bound t o z size : ℕ) (ls xs : List ℤ) (bits mid tail runs : List Bool) → m ≡ nc → IsShape nc max → bound ≤ 20 → IsToken m max (t, o) × (bits ≡ token_text m (t, o) ++ mid) → AreLevels (t, o) bound ls × (mid ≡ levels_text ls ++ tail) → AreZeros max t z × (tail ≡ word_at (total_zeros_list max t) z ++ runs) → xs ≡ ls → size ≡ max → (r : Option (List ℤ)) (rest : List Bool) → ReadsPlaced xs z size runs r rest → Reads (IsBlock max bound) (block_text nc) bits r rest
placed_is_read m nc max bound t o z size ls xs bits mid tail runs e shape h token levels all_zeros same fits None rest read =
    let count : length xs ≡ t = ap (length {A = ℤ}) same ∙ levels.0.count in
    let P : ℕ → Type 0 = λ n. Reads (IsRuns n z) (runs_text z) runs None rest in
    block_is_read m nc max bound t o z ls bits mid tail runs e shape h token levels all_zeros None rest (subst P count read)
placed_is_read m nc max bound t o z size ls xs bits mid tail runs e shape h token levels all_zeros same fits (Some block) rest read =
    let rs = read.0 in
    let count : length xs ≡ t = ap (length {A = ℤ}) same ∙ levels.0.count in
    let P : ℕ → Type 0 = λ n. IsRuns n z rs × (runs ≡ runs_text z rs ++ rest) in
    let Q : List ℤ → Type 0 = λ b. IsBlock max bound b × (bits ≡ block_text nc b ++ rest) in
    let is : block ≡ scan_of ls rs ++ zeros (max - (length ls + sum rs)) =
    read.2 ∙ ap (λ (x : List ℤ). scan_of x rs ++ zeros (size - (length x + z))) same ∙ ap (λ n. scan_of ls rs ++ zeros (n - (length ls + z))) fits
    ∙ ap (λ n. scan_of ls rs ++ zeros (max - (length ls + n))) (sym read.1.0.1) in
    subst Q (sym is) (block_is_read m nc max bound t o z ls bits mid tail runs e shape h token levels all_zeros (Some rs) rest (subst P count read.1))

pub placed_total : (t o bound z size : ℕ) (ls xs block : List ℤ) (runs rest : List Bool) → AreLevels (t, o) bound ls → xs ≡ ls → ReadsPlaced xs z size runs (Some block) rest → t ≡ total_coeff block
placed_total t o bound z size ls xs block runs rest are same read =
    total_of t o bound (size - (length xs + z)) ls read.0 block are (read.1.0.0 ∙ ap (length {A = ℤ}) same ∙ are.count)
    (read.2 ∙ ap (λ x. scan_of x read.0 ++ zeros (size - (length xs + z))) same)

-- what is said of a list of the same length
pub same_shape : (m nc : ℤ) (n k : ℕ) → m ≡ nc → k ≡ n → IsShape nc n → IsShape m k
same_shape m nc n k e size shape = let P : ℕ → Type 0 = λ i. IsShape m i in subst P (sym size) (subst (λ t. IsShape t n) (sym e) shape)

pub same_reads : (m nc : ℤ) (n k bound : ℕ) (bits : List Bool) (r : Option (List ℤ)) (rest : List Bool) → m ≡ nc → k ≡ n → Reads (IsBlock k bound) (block_text m) bits r rest → Reads (IsBlock n bound) (block_text nc) bits r rest
same_reads m nc n k bound bits r rest e size read =
    let P : ℕ → Type 0 = λ i. Reads (IsBlock i bound) (block_text nc) bits r rest in
    let Q : ℤ → Type 0 = λ t. Reads (IsBlock k bound) (block_text t) bits r rest in
    subst P size (subst Q e read)

-- a block of levels 0 is all that a coeff_token with no levels says
pub none_is_read : (m nc : ℤ) (max bound t o : ℕ) (levels : List ℤ) (bits rest : List Bool) → m ≡ nc → IsShape nc max → bound ≤ 20 → t ≡ 0 → IsToken m max (t, o) × (bits ≡ token_text m (t, o) ++ rest) → levels ≡ zeros max → IsBlock max bound levels × (bits ≡ block_text nc levels ++ rest)
none_is_read m nc max bound t o levels bits rest e shape h none token all =
    let first = token_of m nc max (t, o) bits rest e token in
    let few = (token_entry nc max t o shape first.0.0 first.0.1).0 first.0.2 in
    let T : ℕ → Type 0 = λ n. IsToken m max (n, o) × (bits ≡ token_text m (n, o) ++ rest) in
    let O : ℕ → Type 0 = λ n. IsToken m max (0, n) × (bits ≡ token_text m (0, n) ++ rest) in
    let here = subst O (let k : o ≡ 0 = omega (arith, few, none) in k) (subst T none token) in
    let P : List ℤ → Type 0 = λ ls. IsBlock max bound ls × (bits ≡ block_text nc ls ++ rest) in
    let left : max - 0 ≡ max = omega arith in
    subst P (ap zeros left ∙ sym all)
    (block_is_read m nc max bound 0 0 0 [] bits rest rest rest e shape h here (record { count = refl; ones = refl; others = tt }, refl) (zeros_none max 0 rest (inl refl) (omega arith)) (Some []) rest ((refl, refl), refl))

pub total_of_none : (n : ℕ) (levels : List ℤ) → levels ≡ zeros n → 0 ≡ total_coeff levels
total_of_none n levels all = sym (ap total_coeff (all ∙ sym (append-nil (zeros n))) ∙ ap (length {A = ℤ}) (filter-zeros n []))

-- ---- with a bound of 20 no block in range is beyond it

pub none_above_20 : (s extra : ℕ) (ls : List ℤ) → s ≤ 6 → AllSmall ls → is_above 20 s extra ls ≡ false
none_above_20 s extra [] h small = refl
none_above_20 s extra (l ∷ ls) h small =
    let w = level_word-small s (code_of l - extra) (omega arith) (omega (arith, code_in_range l small.0)) in
    ap (λ b. b || is_above 20 (next_suffix_length s l) 0 ls) (le-ltb 20 (level_word s (code_of l - extra)).0 w)
    ∙ none_above_20 (next_suffix_length s l) 0 ls (next_suffix_length-small s l h) small.1

pub levels_never_above : (ls : List ℤ) → AllSmall ls → levels_above 20 ls ≡ false
levels_never_above ls small =
    let o = trailing_ones ls in
    let P : List ℤ → Type 0 = λ t. AllSmall t in
    none_above_20 (first_suffix_length (length ls) o) (first_extra o) (drop o ls) (first_suffix_length-small (length ls) o)
    (all_parts _ (take o ls) (drop o ls) (subst P (sym (take-append-drop o ls)) small)).1

pub never_beyond : (levels : List ℤ) → AllSmall levels → is_beyond 20 levels ≡ false
never_beyond levels small = levels_never_above (filter is_nonzero (reverse levels)) (all_filter _ is_nonzero (reverse levels) (all_reverse _ levels small))
