use Rattle.std.proofs.Common.{◌≡◌, ℕ, zero, suc, ◌+◌, ◌-◌, ◌*◌, ◌/◌, ◌%◌, ◌^◌, ◌<◌, ◌≤◌, ℤ, pos, negsuc, Bool, true, false, cond, List, [], ◌∷◌, ◌++◌, length, get_or, slice_set, take, drop, map, sum, filter, reverse, refl, sym, ap, ◌∙◌, subst, arith, append_assoc, ◌⊎◌, inl, inr, w32, to_z, of_z, eqb, Option, Some, None, Result, IsErr}
use Rattle.std.specs.List.{AllByRecursion}
use Rattle.std.proofs.lemmas.Int.{ints, to_z-of_z}
use Rattle.std.proofs.lemmas.List.{map-append, append-nil, nil_from_length, reverse-append, drop_more, take_more, take_more_set, take-set, length-drop, get_or_past, length-reverse}
use Rattle.std.proofs.lemmas.List.Sums.{sum_by-cons}
use Rattle.std.proofs.lemmas.Bool.{cases_Bool, le-ltb, ne_eqb}
use Rattle.std.proofs.Math.Bool.{not}
use Rattle.cavlc_residual.proofs.Pieces.{AppendsFront, Appends-stop, Wrote-front}
use Rattle.bit_texts.specs.Texts.{Appended, Appends, Wrote}
use Rattle.std.specs.Int.{from_bool}
use Rattle.std.specs.Int.Signed.{lt_z}
use Rattle.bit_texts.proofs.Numbers.{binary-add, binary-high, binary-push, pow_most, pow_next}
use Rattle.std.proofs.lemmas.Nat.{shr_high, mul-add-lt, mul-lt, pow-add}
use Rattle.bit_texts.proofs.Writing.{Appends-then, Appends-same, Appended-same, Wrote-next, Wrote-end}
use Rattle.bit_texts.specs.Bits.{binary}
use Rattle.code_tables.specs.Codes.{Code, IsCodeTable, code_at, present, word, word_at}
use Rattle.cavlc_residual.proofs.WindowLemmas.{nothing_stands}
use Rattle.code_tables.specs.CoeffToken.{coeff_token_list}
use Rattle.code_tables.specs.RunBefore.{run_before_list}
use Rattle.code_tables.specs.TotalZeros.{total_zeros_list}
use Rattle.cavlc_residual.specs.Coefficients.{magnitude, is_minus, next_suffix_length, coefficient_text, coefficients_text, AreCoefficients}
use Rattle.cavlc_residual.specs.Block.{IsShape, is_nonzero, total_coeff, runs_of, runs_text, trailing_ones, first_suffix_length, first_extra, levels_text, parts_text, block_text, levels_above, is_beyond}
use Rattle.cavlc_residual.specs.Parts.{AreLevels}
use Rattle.cavlc_residual.specs.Places.{places_of, AreFalling, gaps}
use Rattle.cavlc_residual.proofs.GapLemmas.{gaps-places, falling-places, falling_more, length-gaps}
use Rattle.cavlc_residual.proofs.RunLemmas.{zeros_none}
use Rattle.cavlc_residual.proofs.ScanLemmas.{zero_is, AllNonzero, AllNonzero-filter, count-reverse, length-runs_of}
use Rattle.cavlc_residual.proofs.BlockLemmas.{AllSmall, all_filter, all_reverse, levels_are}

-- ---- numbers of 32 bits

pub same_i32 : (l : ℤ) → magnitude l ≤ 65535 → to_z w32 (of_z w32 l) ≡ l
same_i32 (pos n) h = to_z-of_z w32 (pos n) (omega (arith, ints))
same_i32 (negsuc n) h = to_z-of_z w32 (negsuc n) (omega (arith, ints))

pub all_at : (P : ℤ → Type 0) (xs : List ℤ) (i : ℕ) → AllByRecursion P xs → i < length xs → P (get_or xs i (pos 0))
all_at P [] i all h = absurd (omega arith)
all_at P (x ∷ xs) zero all h = all.0
all_at P (x ∷ xs) (suc i) all h = all_at P xs i all.1 (omega arith)

-- ---- the levels behind the trailing ones

coefficients-head : (s e i : ℕ) (ls : List ℤ) → i < length ls → AreCoefficients 20 s e (drop i ls) → AreCoefficients 20 s e (get_or ls i (pos 0) ∷ drop (i + 1) ls)
coefficients-head s e i ls h are = let P : List ℤ → Type 0 = λ t. AreCoefficients 20 s e t in subst P (drop_more ls i (pos 0) h) are

pub element_is : (s e i : ℕ) (ls : List ℤ) → i < length ls → AreCoefficients 20 s e (drop i ls) → to_z w32 (of_z w32 (get_or ls i (pos 0))) ≡ get_or ls i (pos 0)
element_is s e i ls h are = same_i32 (get_or ls i (pos 0)) (coefficients-head s e i ls h are).0.small

pub coefficients-turn : (s e i t : ℕ) (ls : List ℤ) (l : ℤ) (old mid new text : List Bool) → i < length ls → l ≡ get_or ls i (pos 0) → t ≡ next_suffix_length s l → AreCoefficients 20 s e (drop i ls) → Wrote old mid text (coefficients_text s e (drop i ls)) → Appended mid new (coefficient_text s e l) → AreCoefficients 20 t 0 (drop (i + 1) ls) × Wrote old new text (coefficients_text t 0 (drop (i + 1) ls))
coefficients-turn s e i t ls l old mid new text h level next are wrote step =
    let head = coefficients-head s e i ls h are in
    let n : t ≡ next_suffix_length s (get_or ls i (pos 0)) = next ∙ ap (next_suffix_length s) level in
    let R : ℤ → Type 0 = λ m. Appended mid new (coefficient_text s e m) in
    let P : ℕ → Type 0 = λ k. AreCoefficients 20 k 0 (drop (i + 1) ls) in
    let Q : ℕ → Type 0 = λ k. Wrote old new text (coefficients_text k 0 (drop (i + 1) ls)) in (
      subst P (sym n) head.1,
      subst Q (sym n) (Wrote-next old mid new text (coefficient_text s e (get_or ls i (pos 0))) _ _ (ap (coefficients_text s e) (drop_more ls i (pos 0) h)) wrote (subst R level step)),
    )

pub coefficients-stop : (s e i : ℕ) (ls : List ℤ) (l : ℤ) (old mid new text : List Bool) → i < length ls → l ≡ get_or ls i (pos 0) → Wrote old mid text (coefficients_text s e (drop i ls)) → AppendsFront mid new (coefficient_text s e l) → AppendsFront old new text
coefficients-stop s e i ls l old mid new text h level wrote front =
    let P : ℤ → Type 0 = λ m. AppendsFront mid new (coefficient_text s e m) in
    Wrote-front old mid new text (coefficient_text s e (get_or ls i (pos 0))) _ _ (ap (coefficients_text s e) (drop_more ls i (pos 0) h)) wrote (subst P level front)

-- ---- the runs

runs-split : (left i : ℕ) (rs : List ℕ) → i + 1 < length rs → runs_text left (drop i rs) ≡ word_at (run_before_list left) (get_or rs i 0) ++ runs_text (left - get_or rs i 0) (drop (i + 1) rs)
runs-split left i rs h =
    let first = drop_more rs i 0 (omega arith) in
    let second = drop_more rs (i + 1) 0 h in
    ap (runs_text left) (first ∙ ap (λ t. get_or rs i 0 ∷ t) second) ∙ ap (λ t. word_at (run_before_list left) (get_or rs i 0) ++ runs_text (left - get_or rs i 0) t) (sym second)

pub runs-turn : (left i : ℕ) (rs : List ℕ) (old mid new text : List Bool) → i + 1 < length rs → sum (drop i rs) ≤ left → Wrote old mid text (runs_text left (drop i rs)) → Appended mid new (word_at (run_before_list left) (get_or rs i 0)) → (sum (drop (i + 1) rs) ≤ left - get_or rs i 0) × Wrote old new text (runs_text (left - get_or rs i 0) (drop (i + 1) rs))
runs-turn left i rs old mid new text h fits wrote step =
    let whole = ap sum (drop_more rs i 0 (omega arith)) in
    let parts = sum_by-cons (λ x. x) (get_or rs i 0) (drop (i + 1) rs) in
    (omega arith, Wrote-next old mid new text _ _ _ (runs-split left i rs h) wrote step)

pub run_fits : (left i : ℕ) (rs : List ℕ) → i < length rs → sum (drop i rs) ≤ left → get_or rs i 0 ≤ left
run_fits left i rs h fits =
    let whole = ap sum (drop_more rs i 0 h) in
    let parts = sum_by-cons (λ x. x) (get_or rs i 0) (drop (i + 1) rs) in
    omega arith

pub runs-stop : (left i : ℕ) (rs : List ℕ) (old mid new text : List Bool) → i + 1 < length rs → Wrote old mid text (runs_text left (drop i rs)) → AppendsFront mid new (word_at (run_before_list left) (get_or rs i 0)) → AppendsFront old new text
runs-stop left i rs old mid new text h wrote front = Wrote-front old mid new text _ _ _ (runs-split left i rs h) wrote front

pub runs-end : (left i : ℕ) (rs : List ℕ) (old new text : List Bool) → length rs ≤ i + 1 → Wrote old new text (runs_text left (drop i rs)) → Appended old new text
runs-end left i rs old new text h wrote = Wrote-end old new text (runs_text left (drop i rs)) (none (drop i rs) (omega (arith, length-drop i rs))) wrote where
  none : (xs : List ℕ) → length xs ≤ 1 → runs_text left xs ≡ []
  none [] h = refl
  none (x ∷ []) h = refl
  none (x ∷ y ∷ xs) h = absurd (omega arith)

-- the run behind the level at a place is the gap up to the next place
pub gaps-turn : (left i j r : ℕ) (ps : List ℕ) (old mid new text : List Bool) → 0 < i → i < length ps → j ≡ i → r ≡ get_or (gaps ps) (i - 1) 0 → sum (drop (i - 1) (gaps ps)) ≤ left → Wrote old mid text (runs_text left (drop (i - 1) (gaps ps))) → Appended mid new (word_at (run_before_list left) r) → (sum (drop j (gaps ps)) ≤ left - r) × Wrote old new text (runs_text (left - r) (drop j (gaps ps)))
gaps-turn left i j r ps old mid new text some h at run fits wrote step =
    let P : ℕ → Type 0 = λ n. Appended mid new (word_at (run_before_list left) n) in
    let Q : ℕ → ℕ → Type 0 = λ k n. (sum (drop k (gaps ps)) ≤ left - n) × Wrote old new text (runs_text (left - n) (drop k (gaps ps))) in
    let next : i - 1 + 1 ≡ j = omega (arith, some, at) in
    let turn = runs-turn left (i - 1) (gaps ps) old mid new text (omega (arith, some, h, length-gaps ps)) fits wrote (subst P run step) in
    subst (λ k. Q k r) next (subst (λ n. Q (i - 1 + 1) n) (sym run) turn)

-- where no zeros are left no run is sent
no_run : (x : ℕ) → word_at (run_before_list 0) x ≡ []
unfolding run_before_list binary
no_run x = let none : List Code = [] in ap word (get_or_past none x (0, 0) (omega arith))

no_runs : (xs : List ℕ) → runs_text 0 xs ≡ []
no_runs [] = refl
no_runs (x ∷ []) = refl
no_runs (x ∷ y ∷ xs) =
    let left : 0 - x ≡ 0 = omega arith in
    ap (λ t. t ++ runs_text (0 - x) (y ∷ xs)) (no_run x) ∙ (ap (λ n. runs_text n (y ∷ xs)) left ∙ no_runs (y ∷ xs))

pub runs-none : (left i : ℕ) (rs : List ℕ) (old new text : List Bool) → left ≡ 0 → Wrote old new text (runs_text left (drop i rs)) → Appended old new text
runs-none left i rs old new text none wrote =
    Wrote-end old new text (runs_text left (drop i rs)) (ap (λ n. runs_text n (drop i rs)) none ∙ no_runs (drop i rs)) wrote

-- ---- separating the levels from the zeros, from the highest frequency down

pub down-next : (xs : List ℤ) (i k : ℕ) (x : ℤ) → k ≡ i + 1 → i < length xs → x ≡ get_or xs i (pos 0) → reverse (take k xs) ≡ x ∷ reverse (take i xs)
down-next xs i k x at h e =
    ap (λ n. reverse (take n xs)) at
    ∙ (ap reverse (take_more xs i (pos 0) h) ∙ (reverse-append (take i xs) (get_or xs i (pos 0) ∷ []) ∙ ap (λ y. y ∷ reverse (take i xs)) (sym e)))

zero_i32 : (x : ℤ) → magnitude x ≤ 65535 → of_z w32 x ≡ 0 → x ≡ pos 0
zero_i32 x small e = sym (same_i32 x small) ∙ ap (to_z w32) e

pub nonzero_i32 : (x : ℤ) → (of_z w32 x ≡ 0 → ⊥) → is_nonzero x ≡ true
nonzero_i32 x h = by (cases_Bool (is_nonzero x)) where
  by : (is_nonzero x ≡ true) ⊎ (is_nonzero x ≡ false) → is_nonzero x ≡ true
  by (inl e) = e
  by (inr e) = absurd (h (ap (of_z w32) (zero_is x e)))

pub nonzero_test : (x : ℤ) → magnitude x ≤ 65535 → not (eqb (of_z w32 x) 0) ≡ is_nonzero x
nonzero_test x small = by (of_z w32 x) refl where
  by : (n : ℕ) → of_z w32 x ≡ n → not (eqb n 0) ≡ is_nonzero x
  by zero e = sym (ap is_nonzero (zero_i32 x small e))
  by (suc n) e = ap not (ne_eqb (suc n) 0 (λ z. absurd (omega (arith, z)))) ∙ sym (nonzero_i32 x (λ z. absurd (omega (arith, e, z))))

-- a zero at the end, which is behind no level, counts for nothing, nor do four
one_less : (xs : List ℤ) (i k : ℕ) → k ≡ i + 1 → i < length xs → get_or xs i (pos 0) ≡ pos 0 → (filter is_nonzero (reverse (take k xs)) ≡ filter is_nonzero (reverse (take i xs))) × (places_of (reverse (take k xs)) ≡ places_of (reverse (take i xs)))
one_less xs i k at h e =
    let next : reverse (take k xs) ≡ pos 0 ∷ reverse (take i xs) = down-next xs i k (pos 0) at h (sym e) in
    (ap (filter is_nonzero) next, ap places_of next)

pub four_less : (xs : List ℤ) (k : ℕ) → 4 ≤ k → k ≤ length xs → AllByRecursion (λ l. magnitude l ≤ 65535) xs
    → (to_z w32 (of_z w32 (get_or xs (k - 1) (pos 0))) ≡ pos 0) × ((to_z w32 (of_z w32 (get_or xs (k - 2) (pos 0))) ≡ pos 0) × ((to_z w32 (of_z w32 (get_or xs (k - 3) (pos 0))) ≡ pos 0) × (to_z w32 (of_z w32 (get_or xs (k - 4) (pos 0))) ≡ pos 0)))
    → (filter is_nonzero (reverse (take k xs)) ≡ filter is_nonzero (reverse (take (k - 4) xs))) × (places_of (reverse (take k xs)) ≡ places_of (reverse (take (k - 4) xs)))
four_less xs k some within small none =
    let zero_at : (i : ℕ) → i < length xs → to_z w32 (of_z w32 (get_or xs i (pos 0))) ≡ pos 0 → get_or xs i (pos 0) ≡ pos 0 = λ i h e. sym (same_i32 (get_or xs i (pos 0)) (all_at (λ l. magnitude l ≤ 65535) xs i small h)) ∙ e in
    let a = one_less xs (k - 1) k (omega arith) (omega arith) (zero_at (k - 1) (omega arith) none.0) in
    let b = one_less xs (k - 2) (k - 1) (omega arith) (omega arith) (zero_at (k - 2) (omega arith) none.1.0) in
    let c = one_less xs (k - 3) (k - 2) (omega arith) (omega arith) (zero_at (k - 3) (omega arith) none.1.1.0) in
    let d = one_less xs (k - 4) (k - 3) (omega arith) (omega arith) (zero_at (k - 4) (omega arith) none.1.1.1) in
    (a.0 ∙ (b.0 ∙ (c.0 ∙ d.0)), a.1 ∙ (b.1 ∙ (c.1 ∙ d.1)))

-- Of the list that a loop takes from `rest`, so many are stored: one more is stored behind them, and counts only where it
-- is one of the list.
pub store-turn : {A : Type 0} (list stored all rest more : List A) (count k i : ℕ) (b : Bool) (y : A) → i ≡ count → i < length list → k ≡ count + from_bool b → stored ≡ slice_set list i y → rest ≡ cond b (y ∷ more) more → all ≡ take count list ++ rest → all ≡ take k stored ++ more
store-turn list stored all rest more count k i true y at h next set front known =
    let one : k ≡ i + 1 = omega (arith, at, next) in
    known ∙ (ap (λ t. take count list ++ t) front ∙ (sym (append_assoc (take count list) (y ∷ []) more)
    ∙ ap (λ t. t ++ more) (ap (λ n. take n list ++ y ∷ []) (sym at) ∙ (sym (take_more_set list i y h) ∙ (ap (λ t. take (i + 1) t) (sym set) ∙ ap (λ n. take n stored) (sym one))))))
store-turn list stored all rest more count k i false y at h next set front known =
    let same : k ≡ i = omega (arith, at, next) in
    known ∙ (ap (λ t. take count list ++ t) front
    ∙ ap (λ t. t ++ more) (ap (λ n. take n list) (sym at) ∙ (sym (take-set list i y) ∙ (ap (λ t. take i t) (sym set) ∙ ap (λ n. take n stored) (sym same)))))

pub small_element : (xs ys : List ℤ) (i : ℕ) → xs ≡ ys → AllByRecursion (λ l. magnitude l ≤ 65535) ys → i < length xs → magnitude (get_or xs i (pos 0)) ≤ 65535
small_element xs ys i e all h = let P : List ℤ → Type 0 = λ t. AllByRecursion (λ l. magnitude l ≤ 65535) t in all_at (λ l. magnitude l ≤ 65535) xs i (subst P (sym e) all) h

-- ---- the text of the levels

pub levels_stopped : {T E : Type 0} (token text : List Bool) (ls signs : List ℤ) (o : ℕ) (old new : List Bool) (r : Result T E) → o ≡ trailing_ones ls → signs ≡ take o ls → text ≡ token ++ map is_minus signs → AppendsFront old new text → IsErr r → Appends old new (token ++ levels_text ls) r
levels_stopped token text ls signs o old new r ones front_is text_is front err =
    let n = trailing_ones ls in
    let rest = coefficients_text (first_suffix_length (length ls) n) (first_extra n) (drop n ls) in
    let P : List Bool → Type 0 = λ t. AppendsFront old new t in
    let start : text ≡ token ++ map is_minus (take n ls) = text_is ∙ ap (λ t. token ++ map is_minus t) (front_is ∙ ap (λ k. take k ls) ones) in
    Appends-same old new _ _ r (append_assoc token (map is_minus (take n ls)) rest) (Appends-stop old new (token ++ map is_minus (take n ls)) rest r (subst P start front) err)

pub levels_written : {T E : Type 0} (token text : List Bool) (ls signs others : List ℤ) (o s e : ℕ) (old mid new : List Bool) (r : Result T E) → o ≡ trailing_ones ls → signs ≡ take o ls → others ≡ drop o ls → s ≡ first_suffix_length (length ls) o → e ≡ first_extra o → text ≡ token ++ map is_minus signs → Appended old mid text → Appends mid new (coefficients_text s e others) r → Appends old new (token ++ levels_text ls) r
levels_written token text ls signs others o s e old mid new r ones front_is back_is length_is extra_is text_is first second =
    let n = trailing_ones ls in
    let rest = coefficients_text (first_suffix_length (length ls) n) (first_extra n) (drop n ls) in
    let start : text ≡ token ++ map is_minus (take n ls) = text_is ∙ ap (λ t. token ++ map is_minus t) (front_is ∙ ap (λ k. take k ls) ones) in
    let others_text : coefficients_text s e others ≡ rest =
    ap (λ k. coefficients_text k e others) length_is ∙ (ap (λ k. coefficients_text (first_suffix_length (length ls) o) k others) extra_is
    ∙ (ap (coefficients_text (first_suffix_length (length ls) o) (first_extra o)) back_is
    ∙ ap (λ k. coefficients_text (first_suffix_length (length ls) k) (first_extra k) (drop k ls)) ones)) in
    let P : List Bool → Type 0 = λ t. Appends mid new t r in
    Appends-same old new _ _ r (append_assoc token (map is_minus (take n ls)) rest)
    (Appends-then old mid new (token ++ map is_minus (take n ls)) rest r (Appended-same old mid text _ start first) (subst P others_text second))

-- ---- the signs as a number

pub minus_test : (l : ℤ) → lt_z l (pos 0) ≡ is_minus l
minus_test (pos n) = le-ltb n 0 (omega arith)
minus_test (negsuc n) = refl

pub signs-turn : (ls : List ℤ) (i signs bit : ℕ) → i < length ls → bit ≡ from_bool (is_minus (get_or ls i (pos 0))) → binary i signs ≡ map is_minus (take i ls) → signs < 2 ^ i → (binary (i + 1) (2 * signs + bit) ≡ map is_minus (take (i + 1) ls)) × (2 * signs + bit < 2 ^ (i + 1))
signs-turn ls i signs bit h e known fits =
    let minus = is_minus (get_or ls i (pos 0)) in (
      ap (λ n. binary (i + 1) (2 * signs + n)) e ∙ (binary-push i signs minus ∙ (ap (λ t. t ++ minus ∷ []) known
          ∙ (sym (map-append is_minus (take i ls) (get_or ls i (pos 0) ∷ [])) ∙ ap (map is_minus) (sym (take_more ls i (pos 0) h))))),
      omega (arith, fits, pow_next i, e, from_bool-small minus),
    )
  where
    from_bool-small : (b : Bool) → from_bool b ≤ 1
    from_bool-small true = omega arith
    from_bool-small false = omega arith

pub signs_are : (n o x : ℕ) (signs : List ℤ) → length signs ≡ n → n ≡ o → binary (length signs) x ≡ map is_minus signs → binary o x ≡ map is_minus signs
signs_are n o x signs size count known = ap (λ k. binary k x) (sym count ∙ sym size) ∙ known

-- ---- a code word and a few bits behind it

pub two_texts : (a b c d : List Bool) → a ≡ c → b ≡ d → a ++ b ≡ c ++ d
two_texts a b c d e f = ap (λ t. t ++ b) e ∙ ap (λ t. c ++ t) f

pub word_and : (l v n x y : ℕ) → v < 2 ^ l → x < 2 ^ n → y ≡ v * 2 ^ n + x → (binary (l + n) y ≡ binary l v ++ binary n x) × (y < 2 ^ (l + n))
word_and l v n x y h k e =
    let high : y / 2 ^ n ≡ v = ap (λ m. m / 2 ^ n) e ∙ shr_high v n x k in
    let low : binary n y ≡ binary n x = ap (binary n) e ∙ binary-high n v x in
    let turned : n + l ≡ l + n = omega arith in (
      binary-add l n y ∙ (ap (λ m. binary l m ++ binary n y) high ∙ ap (λ t. binary l v ++ t) low),
      omega (arith, e, mul-add-lt v (2 ^ n) x (2 ^ l) h k, pow-add 2 n l, ap (λ m. 2 ^ m) turned),
    )

-- the word has at most 16 bits
pub shifted_word : (l v n : ℕ) → l ≤ 16 → v < 2 ^ l → n ≤ 3 → (v * 2 ^ n % 18446744073709551616 ≡ v * 2 ^ n) × (v * 2 ^ n < 589824)
shifted_word l v n few h k =
    let word : v < 65536 = omega (arith, h, pow_most l 16 few) in
    let size : 2 ^ n < 9 = omega (arith, pow_most n 3 k) in
    let below = mul-lt v (2 ^ n) 65536 9 word size in
    (omega (arith, below), omega (arith, below))

pub code_stands : (codes : List Code) (place l v : ℕ) (o : Option Code) → o ≡ present (code_at codes place) → o ≡ Some (l, v) → (l, v) ≡ code_at codes place
code_stands codes place l v o entry some = of (code_at codes place) (cases_Bool (eqb (code_at codes place).0 0)) (sym entry ∙ some)
  where
    of : (c : Code) → (eqb c.0 0 ≡ true) ⊎ (eqb c.0 0 ≡ false) → present c ≡ Some (l, v) → (l, v) ≡ c
    of c (inl e) h =
        let P : Bool → Type 0 = λ b. cond b None (Some c) ≡ Some (l, v) in
        absurd (let bad : ◌≡◌ {A = Option Code} None (Some (l, v)) = subst P e h in cc)
    of c (inr e) h =
        let P : Bool → Type 0 = λ b. cond b None (Some c) ≡ Some (l, v) in
        let same : ◌≡◌ {A = Option Code} (Some c) (Some (l, v)) = subst P e h in cc

pub code_and : (codes : List Code) (place l v n x y : ℕ) → IsCodeTable codes → (l, v) ≡ code_at codes place → n ≤ 3 → x < 2 ^ n → y ≡ v * 2 ^ n % 18446744073709551616 + x → (binary (l + n) y ≡ word_at codes place ++ binary n x) × (y < 2 ^ (l + n))
code_and codes place l v n x y table here few below e =
    let Fits : Code → Type 0 = λ c. (c.0 ≤ 16) × (c.1 < 2 ^ c.0) in
    let fits = subst Fits (sym here) (table.fits place) in
    let both = word_and l v n x y fits.1 below (e ∙ ap (λ m. m + x) (shifted_word l v n fits.0 fits.1 few).0) in
    (both.0 ∙ ap (λ c. word c ++ binary n x) here, both.1)

pub none_and : (codes : List Code) (place n x : ℕ) (o : Option Code) → o ≡ present (code_at codes place) → o ≡ None → binary n x ≡ word_at codes place ++ binary n x
none_and codes place n x o entry none =
    let nothing : [] ≡ word_at codes place = (nothing_stands codes place o [] entry none).is in ap (λ t. t ++ binary n x) nothing

-- ---- the text of a block, part by part

pub token_word : (m nc : ℤ) (codes : List Code) (t o place : ℕ) (ls : List ℤ) → codes ≡ coeff_token_list m → m ≡ nc → t ≡ length ls → o ≡ trailing_ones ls → place ≡ 4 * t + o → word_at codes place ≡ word_at (coeff_token_list nc) (4 * length ls + trailing_ones ls)
token_word m nc codes t o place ls e n total ones at =
    ap (λ cs. word_at cs place) (e ∙ ap coeff_token_list n) ∙ ap (word_at (coeff_token_list nc)) (omega arith)

pub zeros_word : (max t z : ℕ) (codes : List Code) (ls : List ℤ) (rs : List ℕ) → codes ≡ total_zeros_list max t → t ≡ length ls → z ≡ sum rs → word_at codes z ≡ word_at (total_zeros_list max (length ls)) (sum rs)
zeros_word max t z codes ls rs e total zero_count =
    ap (λ cs. word_at cs z) (e ∙ ap (total_zeros_list max) total) ∙ ap (word_at (total_zeros_list max (length ls))) zero_count

-- coeff_token and the levels
abbrev front_text : ℤ → List ℤ → List Bool
front_text nc ls = word_at (coeff_token_list nc) (4 * length ls + trailing_ones ls) ++ levels_text ls

parts_same : {T E : Type 0} (nc : ℤ) (max : ℕ) (ls : List ℤ) (rs : List ℕ) (old new : List Bool) (r : Result T E) → Appends old new (front_text nc ls ++ (word_at (total_zeros_list max (length ls)) (sum rs) ++ runs_text (sum rs) rs)) r → Appends old new (parts_text nc max ls rs) r
parts_same nc max ls rs old new r appends =
    Appends-same old new _ _ r (append_assoc (word_at (coeff_token_list nc) (4 * length ls + trailing_ones ls)) (levels_text ls) (word_at (total_zeros_list max (length ls)) (sum rs) ++ runs_text (sum rs) rs)) appends

pub parts_end_at_levels : {T E : Type 0} (nc : ℤ) (max : ℕ) (ls : List ℤ) (rs : List ℕ) (old new : List Bool) (r : Result T E) → AppendsFront old new (front_text nc ls) → IsErr r → Appends old new (parts_text nc max ls rs) r
parts_end_at_levels nc max ls rs old new r front err = parts_same nc max ls rs old new r (Appends-stop old new (front_text nc ls) _ r front err)

pub parts_end_at_zeros : {T E : Type 0} (nc : ℤ) (max : ℕ) (ls : List ℤ) (rs : List ℕ) (behind old mid new : List Bool) (r : Result T E) → Appended old mid (front_text nc ls) → behind ≡ word_at (total_zeros_list max (length ls)) (sum rs) → AppendsFront mid new behind → IsErr r → Appends old new (parts_text nc max ls rs) r
parts_end_at_zeros nc max ls rs behind old mid new r first d front err =
    let P : List Bool → Type 0 = λ t. AppendsFront mid new t in
    parts_same nc max ls rs old new r (Appends-then old mid new (front_text nc ls) _ r first (Appends-stop mid new _ _ r (subst P d front) err))

pub parts_written : {T E : Type 0} (nc : ℤ) (max z : ℕ) (ls : List ℤ) (rs : List ℕ) (behind old mid next new : List Bool) (r : Result T E) → Appended old mid (front_text nc ls) → behind ≡ word_at (total_zeros_list max (length ls)) (sum rs) → Appended mid next behind → z ≡ sum rs → Appends next new (runs_text z rs) r → Appends old new (parts_text nc max ls rs) r
parts_written nc max z ls rs behind old mid next new r first d second total final =
    let P : ℕ → Type 0 = λ n. Appends next new (runs_text n rs) r in
    parts_same nc max ls rs old new r (Appends-then old mid new (front_text nc ls) _ r first
    (Appends-then mid next new _ _ r (Appended-same mid next behind _ d second) (subst P total final)))

-- a block without levels has no bits behind its coeff_token
pub empty_text : (nc : ℤ) (levels : List ℤ) → total_coeff levels ≡ 0 → word_at (coeff_token_list nc) 0 ≡ block_text nc levels
empty_text nc levels none =
    let ds = reverse levels in
    let count : length (filter is_nonzero ds) ≡ 0 = count-reverse levels ∙ none in
    let no_levels : filter is_nonzero ds ≡ [] = nil_from_length (filter is_nonzero ds) count in
    let no_runs : runs_of ds ≡ [] = nil_from_length (runs_of ds) (length-runs_of ds ∙ count) in
    let behind : word_at (total_zeros_list (length levels) 0) 0 ≡ [] = sym (append-nil (word_at (total_zeros_list (length levels) 0) 0)) ∙ sym ((zeros_none (length levels) 0 [] (inl refl) (omega arith)).1) in
    sym (ap (λ t. parts_text nc (length levels) t (runs_of ds)) no_levels ∙ (ap (parts_text nc (length levels) []) no_runs
    ∙ (ap (λ t. word_at (coeff_token_list nc) (4 * 0 + 0) ++ (t ++ [])) behind ∙ append-nil (word_at (coeff_token_list nc) (4 * 0 + 0)))))

-- ---- a block that is to be written

coefficients_weaker : (bound s e : ℕ) (ls : List ℤ) → bound ≤ 20 → AreCoefficients bound s e ls → AreCoefficients 20 s e ls
coefficients_weaker bound s e [] h are = tt
coefficients_weaker bound s e (l ∷ ls) h are = (
  record { nonzero = are.0.nonzero; small = are.0.small; above = are.0.above; within = omega (arith, are.0.within) },
  coefficients_weaker bound (next_suffix_length s l) 0 ls h are.1,
)

-- of the levels other than 0 of a block in range
pub found_known : (levels cs : List ℤ) → cs ≡ filter is_nonzero (reverse levels) → AllSmall levels → AllNonzero cs × AllSmall cs
found_known levels cs e small =
    let P : List ℤ → Type 0 = λ t. AllNonzero t in
    let Q : List ℤ → Type 0 = λ t. AllSmall t in (
      subst P (sym e) (AllNonzero-filter (reverse levels)),
      subst Q (sym e) (all_filter _ is_nonzero (reverse levels) (all_reverse _ levels small)),
    )

pub levels_known : (bound : ℕ) (levels cs : List ℤ) → bound ≤ 20 → cs ≡ filter is_nonzero (reverse levels) → AllSmall levels → is_beyond bound levels ≡ false → AreLevels (length cs, trailing_ones cs) 20 cs
levels_known bound levels cs h found small within =
    let known = found_known levels cs found small in
    let are = levels_are bound cs (ap (levels_above bound) found ∙ within) known.0 known.1 in
    record { count = are.count; ones = are.ones; others = coefficients_weaker bound _ _ _ h are.others }

shape_few : (nc : ℤ) (max : ℕ) → IsShape nc max → max ≤ 16
shape_few (negsuc n) max e = omega (arith, e)
shape_few (pos n) max (inl e) = omega (arith, e)
shape_few (pos n) max (inr e) = omega (arith, e)

-- of the places of the levels other than 0 of a block
pub places_known : (nc : ℤ) (levels : List ℤ) (ps : List ℕ) → ps ≡ places_of (reverse levels) → IsShape nc (length levels) → AreFalling 16 ps × (gaps ps ≡ runs_of (reverse levels))
places_known nc levels ps found shape =
    let P : List ℕ → Type 0 = λ t. AreFalling 16 t in
    let fall = falling_more (length (reverse levels)) 16 (places_of (reverse levels)) (omega (arith, shape_few nc (length levels) shape, length-reverse levels)) (falling-places (reverse levels)) in
    (subst P (sym found) fall, ap gaps found ∙ gaps-places (reverse levels))

pub text_is : (nc : ℤ) (max : ℕ) (levels cs : List ℤ) (rs : List ℕ) → cs ≡ filter is_nonzero (reverse levels) → rs ≡ runs_of (reverse levels) → max ≡ length levels → parts_text nc max cs rs ≡ block_text nc levels
text_is nc max levels cs rs found runs size =
    ap (λ m. parts_text nc m cs rs) size ∙ (ap (λ t. parts_text nc (length levels) t rs) found ∙ ap (parts_text nc (length levels) (filter is_nonzero (reverse levels))) runs)
