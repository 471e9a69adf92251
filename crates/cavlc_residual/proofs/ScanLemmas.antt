use Rattle.std.proofs.Common.{◌≡◌, ℕ, zero, suc, ◌+◌, ℤ, pos, negsuc, Bool, true, false, cond, List, [], ◌∷◌, ◌++◌, length, sum, filter, reverse, replicate, refl, sym, ap, ◌∙◌, subst, arith, ◌⊎◌, inl, inr, length-append, add-one}
use Rattle.std.specs.List.{AllByRecursion}
use Rattle.std.proofs.lemmas.List.{reverse-append, length-replicate, length-reverse, replicate_more}
use Rattle.std.proofs.lemmas.List.Sums.{sum_by-cons}
use Rattle.std.proofs.lemmas.Bool.{cases_Bool, false≢true, ltb-false}
use Rattle.cavlc_residual.specs.Block.{is_nonzero, leading_zeros, runs_of}
use Rattle.cavlc_residual.specs.Parts.{scan_of}

-- the zeros of a run
abbrev pub zeros : ℕ → List ℤ
zeros n = replicate n (pos 0)

abbrev pub AllNonzero : List ℤ → Type 0
AllNonzero = AllByRecursion (λ l. is_nonzero l ≡ true)

-- levels other than 0 and the runs behind them, from the highest frequency down
abbrev pub expand : List ℤ → List ℕ → List ℤ
expand (l ∷ ls) (r ∷ rs) = l ∷ (zeros r ++ expand ls rs)
expand [] rs = []
expand (l ∷ ls) [] = []

pub reverse-zeros : (n : ℕ) → reverse (zeros n) ≡ zeros n
reverse-zeros zero = refl
reverse-zeros (suc n) = reverse-append (pos 0 ∷ []) (zeros n) ∙ (ap (λ t. t ++ pos 0 ∷ []) (reverse-zeros n) ∙ (replicate_more n (pos 0) ∙ ap zeros (add-one n)))

pub reverse-scan : (ls : List ℤ) (rs : List ℕ) → reverse (scan_of ls rs) ≡ expand ls rs
reverse-scan [] rs = refl
reverse-scan (l ∷ ls) [] = refl
reverse-scan (l ∷ ls) (r ∷ rs) =
    reverse-append (scan_of ls rs) (zeros r ++ l ∷ [])
    ∙ (ap (λ t. t ++ reverse (scan_of ls rs)) (reverse-append (zeros r) (l ∷ []))
    ∙ (ap (λ z. (l ∷ z) ++ reverse (scan_of ls rs)) (reverse-zeros r) ∙ ap (λ t. l ∷ (zeros r ++ t)) (reverse-scan ls rs)))

pub length-scan : (ls : List ℤ) (rs : List ℕ) → length ls ≡ length rs → length (scan_of ls rs) ≡ length ls + sum rs
length-scan [] [] e = refl
length-scan [] (r ∷ rs) e = absurd (omega arith)
length-scan (l ∷ ls) [] e = absurd (omega arith)
length-scan (l ∷ ls) (r ∷ rs) e =
    let whole = length-append (scan_of ls rs) (zeros r ++ l ∷ []) in
    let last = length-append (zeros r) (l ∷ []) in
    let run = length-replicate r (pos 0) in
    let before = length-scan ls rs (omega arith) in
    let more = sum_by-cons (λ x. x) r rs in
    omega arith

-- ---- what stands in them

pub filter-zeros : (n : ℕ) (xs : List ℤ) → filter is_nonzero (zeros n ++ xs) ≡ filter is_nonzero xs
filter-zeros zero xs = refl
filter-zeros (suc n) xs = filter-zeros n xs

pub runs_of-zeros : (n : ℕ) (xs : List ℤ) → runs_of (zeros n ++ xs) ≡ runs_of xs
runs_of-zeros zero xs = refl
runs_of-zeros (suc n) xs = runs_of-zeros n xs

pub filter-expand : (ls : List ℤ) (rs : List ℕ) → length ls ≡ length rs → AllNonzero ls → filter is_nonzero (expand ls rs) ≡ ls
filter-expand [] rs e all = refl
filter-expand (l ∷ ls) [] e all = absurd (omega arith)
filter-expand (l ∷ ls) (r ∷ rs) e all =
    ap (λ b. cond b (l ∷ filter is_nonzero (zeros r ++ expand ls rs)) (filter is_nonzero (zeros r ++ expand ls rs))) all.0
    ∙ ap (λ t. l ∷ t) (filter-zeros r (expand ls rs) ∙ filter-expand ls rs (omega arith) all.1)

leading_zeros-expand : (n : ℕ) (ls : List ℤ) (rs : List ℕ) → AllNonzero ls → leading_zeros (zeros n ++ expand ls rs) ≡ n
leading_zeros-expand zero [] rs all = refl
leading_zeros-expand zero (l ∷ ls) [] all = refl
leading_zeros-expand zero (l ∷ ls) (r ∷ rs) all = ap (λ b. cond b 0 (leading_zeros (zeros r ++ expand ls rs) + 1)) all.0
leading_zeros-expand (suc n) ls rs all = ap (λ k. k + 1) (leading_zeros-expand n ls rs all) ∙ add-one n

pub runs_of-expand : (ls : List ℤ) (rs : List ℕ) → length ls ≡ length rs → AllNonzero ls → runs_of (expand ls rs) ≡ rs
runs_of-expand [] [] e all = refl
runs_of-expand [] (r ∷ rs) e all = absurd (omega arith)
runs_of-expand (l ∷ ls) [] e all = absurd (omega arith)
runs_of-expand (l ∷ ls) (r ∷ rs) e all =
    let rest = zeros r ++ expand ls rs in
    ap (λ b. cond b (leading_zeros rest ∷ runs_of rest) (runs_of rest)) all.0
    ∙ (ap (λ n. n ∷ runs_of rest) (leading_zeros-expand r ls rs all.1)
    ∙ ap (λ t. r ∷ t) (runs_of-zeros r (expand ls rs) ∙ runs_of-expand ls rs (omega arith) all.1))

pub zero_is : (l : ℤ) → is_nonzero l ≡ false → l ≡ pos 0
zero_is (pos n) e = ap pos (omega (arith, ltb-false 0 n e))
zero_is (negsuc n) e = absurd (false≢true (sym e))

-- each list is its zeros at the front, and its levels with the runs behind them
pub expand_of : (ds : List ℤ) → ds ≡ zeros (leading_zeros ds) ++ expand (filter is_nonzero ds) (runs_of ds)
expand_of [] = refl
expand_of (d ∷ ds) = by d ds (cases_Bool (is_nonzero d)) (expand_of ds) where
  by : (d : ℤ) (ds : List ℤ) → (is_nonzero d ≡ true) ⊎ (is_nonzero d ≡ false) → ds ≡ zeros (leading_zeros ds) ++ expand (filter is_nonzero ds) (runs_of ds)
      → d ∷ ds ≡ zeros (cond (is_nonzero d) 0 (leading_zeros ds + 1)) ++ expand (cond (is_nonzero d) (d ∷ filter is_nonzero ds) (filter is_nonzero ds)) (cond (is_nonzero d) (leading_zeros ds ∷ runs_of ds) (runs_of ds))
  by d ds (inl e) h =
      let P : Bool → Type 0 = λ b. d ∷ ds ≡ zeros (cond b 0 (leading_zeros ds + 1)) ++ expand (cond b (d ∷ filter is_nonzero ds) (filter is_nonzero ds)) (cond b (leading_zeros ds ∷ runs_of ds) (runs_of ds)) in
      subst P (sym e) (ap (λ t. d ∷ t) h)
  by d ds (inr e) h =
      let P : Bool → Type 0 = λ b. d ∷ ds ≡ zeros (cond b 0 (leading_zeros ds + 1)) ++ expand (cond b (d ∷ filter is_nonzero ds) (filter is_nonzero ds)) (cond b (leading_zeros ds ∷ runs_of ds) (runs_of ds)) in
      subst P (sym e) (ap (λ t. t ∷ ds) (zero_is d e) ∙ (ap (λ t. pos 0 ∷ t) h ∙ ap (λ n. zeros n ++ expand (filter is_nonzero ds) (runs_of ds)) (sym (add-one (leading_zeros ds)))))

pub AllNonzero-filter : (ds : List ℤ) → AllNonzero (filter is_nonzero ds)
AllNonzero-filter [] = tt
AllNonzero-filter (d ∷ ds) = by d ds (cases_Bool (is_nonzero d)) (AllNonzero-filter ds) where
  by : (d : ℤ) (ds : List ℤ) → (is_nonzero d ≡ true) ⊎ (is_nonzero d ≡ false) → AllNonzero (filter is_nonzero ds) → AllNonzero (cond (is_nonzero d) (d ∷ filter is_nonzero ds) (filter is_nonzero ds))
  by d ds (inl e) h = let P : Bool → Type 0 = λ b. AllNonzero (cond b (d ∷ filter is_nonzero ds) (filter is_nonzero ds)) in subst P (sym e) (e, h)
  by d ds (inr e) h = let P : Bool → Type 0 = λ b. AllNonzero (cond b (d ∷ filter is_nonzero ds) (filter is_nonzero ds)) in subst P (sym e) h

pub length-runs_of : (ds : List ℤ) → length (runs_of ds) ≡ length (filter is_nonzero ds)
length-runs_of [] = refl
length-runs_of (d ∷ ds) = by (is_nonzero d) d ds (length-runs_of ds) where
  by : (b : Bool) (d : ℤ) (ds : List ℤ) → length (runs_of ds) ≡ length (filter is_nonzero ds) → length (cond b (leading_zeros ds ∷ runs_of ds) (runs_of ds)) ≡ length (cond b (d ∷ filter is_nonzero ds) (filter is_nonzero ds))
  by true d ds h = ap suc h
  by false d ds h = h

length-expand : (ls : List ℤ) (rs : List ℕ) → length ls ≡ length rs → length (expand ls rs) ≡ length ls + sum rs
length-expand ls rs e = ap length (sym (reverse-scan ls rs)) ∙ (length-reverse (scan_of ls rs) ∙ length-scan ls rs e)

pub length_parts : (ds : List ℤ) → length ds ≡ leading_zeros ds + (length (filter is_nonzero ds) + sum (runs_of ds))
length_parts ds =
    ap length (expand_of ds) ∙ (length-append (zeros (leading_zeros ds)) (expand (filter is_nonzero ds) (runs_of ds))
    ∙ (ap (λ n. n + length (expand (filter is_nonzero ds) (runs_of ds))) (length-replicate (leading_zeros ds) (pos 0))
    ∙ ap (λ n. leading_zeros ds + n) (length-expand (filter is_nonzero ds) (runs_of ds) (sym (length-runs_of ds)))))

-- ---- how many levels there are

count-append : (xs ys : List ℤ) → length (filter is_nonzero (xs ++ ys)) ≡ length (filter is_nonzero xs) + length (filter is_nonzero ys)
count-append [] ys = omega arith
count-append (x ∷ xs) ys = by (is_nonzero x) (count-append xs ys)
  where
    by : (b : Bool) → length (filter is_nonzero (xs ++ ys)) ≡ length (filter is_nonzero xs) + length (filter is_nonzero ys) → length (cond b (x ∷ filter is_nonzero (xs ++ ys)) (filter is_nonzero (xs ++ ys))) ≡ length (cond b (x ∷ filter is_nonzero xs) (filter is_nonzero xs)) + length (filter is_nonzero ys)
    by true h = omega (arith, h)
    by false h = h

pub count-reverse : (xs : List ℤ) → length (filter is_nonzero (reverse xs)) ≡ length (filter is_nonzero xs)
count-reverse [] = refl
count-reverse (x ∷ xs) =
    let whole = ap (λ t. length (filter is_nonzero t)) (reverse-append (x ∷ []) xs) in
    let parts = count-append (reverse xs) (x ∷ []) in
    let again = count-append (x ∷ []) xs in
    omega (arith, whole, parts, again, count-reverse xs)
