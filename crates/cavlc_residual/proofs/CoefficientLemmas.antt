use Rattle.std.proofs.Common.{◌≡◌, ◌≢◌, ℕ, zero, suc, ◌+◌, ◌-◌, ◌<◌, ◌≤◌, ℤ, pos, negsuc, Bool, List, [], ◌∷◌, ◌++◌, length, Option, Some, None, Result, refl, sym, ap, ◌∙◌, subst, arith, append_assoc}
use Rattle.std.specs.Option.{option_map}
use Rattle.std.proofs.lemmas.List.{append-nil, nil_from_length}
use Rattle.std.proofs.lemmas.Bool.Decides.{nat_tests}
use Rattle.bit_texts.specs.Texts.{Appends, Reads, IsPrefixFree, BothAre, both_texts}
use Rattle.bit_texts.proofs.Reading.{Reads-then, Reads-stop, Reads-map, IsPrefixFree-then, IsPrefixFree-map}
use Rattle.cavlc_residual.specs.Level.{word_bits, IsLevelWord, level_code, level_word}
use Rattle.cavlc_residual.proofs.LevelLemmas.{IsPrefixFree-level, level_word-level_code, level_code-level_word}
use Rattle.cavlc_residual.specs.Coefficients.{magnitude, code_of, next_suffix_length, coefficient_text, IsCoefficient, coefficients_text, AreCoefficients}

-- ---- one level

pub same_from_code : (l m : ℤ) → 0 < magnitude l → 0 < magnitude m → code_of l ≡ code_of m → l ≡ m
same_from_code (pos a) (pos b) h k e = ap pos (omega arith)
same_from_code (pos a) (negsuc b) h k e = absurd (omega arith)
same_from_code (negsuc a) (pos b) h k e = absurd (omega arith)
same_from_code (negsuc a) (negsuc b) h k e = ap negsuc (omega arith)

pub code_in_range : (l : ℤ) → magnitude l ≤ 65535 → code_of l ≤ 131069
code_in_range (pos a) h = omega arith
code_in_range (negsuc a) h = omega arith

-- a level that has a text has a word, and its code is made from the word
coefficient_word : (s extra bound : ℕ) (l : ℤ) → s ≤ 6 → bound ≤ 20 → IsCoefficient s extra bound l → IsLevelWord s bound (level_word s (code_of l - extra)) × (level_code s (level_word s (code_of l - extra)).0 (level_word s (code_of l - extra)).1 + extra ≡ code_of l)
coefficient_word s extra bound l h k is =
    let made = level_code-level_word s (code_of l - extra) (omega arith) (omega (arith, is.within)) in
    ((is.within, made.0.1), ap (λ n. n + extra) made.1 ∙ omega (arith, is.above))

-- no other level begins the bits
pub coefficient_read : (s extra bound p x : ℕ) (left rest : List Bool) (l : ℤ) → s ≤ 6 → bound ≤ 20 → IsLevelWord s bound (p, x) × (left ≡ word_bits s (p, x) ++ rest) → code_of l ≡ level_code s p x + extra → 0 < magnitude l → magnitude l ≤ 65535 → IsCoefficient s extra bound l × (left ≡ coefficient_text s extra l ++ rest)
coefficient_read s extra bound p x left rest l h k read code nonzero small =
    let same : code_of l - extra ≡ level_code s p x = omega arith in
    let word : level_word s (code_of l - extra) ≡ (p, x) = ap (level_word s) same ∙ level_word-level_code s p x (omega arith) (omega (arith, read.0.0), read.0.1) in
    let Within : ℕ × ℕ → Type 0 = λ w. w.0 ≤ bound in (
      record { nonzero = nonzero; small = small; above = omega arith; within = subst Within (sym word) read.0.0 },
      read.1 ∙ ap (λ w. word_bits s w ++ rest) (sym word),
    )

pub coefficient_too_large : (s extra bound p x : ℕ) (left rest : List Bool) → s ≤ 6 → bound ≤ 20 → IsLevelWord s bound (p, x) × (left ≡ word_bits s (p, x) ++ rest) → 131069 < level_code s p x + extra → (l : ℤ) (more : List Bool) → IsCoefficient s extra bound l → left ≢ coefficient_text s extra l ++ more
coefficient_too_large s extra bound p x left rest h k read large l more is bad =
    let w = coefficient_word s extra bound l h k is in
    let same = IsPrefixFree-level s bound (p, x) (level_word s (code_of l - extra)) rest more read.0 w.0 (sym read.1 ∙ bad) in
    let code : level_code s p x + extra ≡ code_of l = ap (λ (v : ℕ × ℕ). level_code s v.0 v.1 + extra) same ∙ w.1 in
    omega (arith, code_in_range l is.small)

pub no_coefficient : (s extra bound : ℕ) (left rest : List Bool) → s ≤ 6 → bound ≤ 20 → Reads (IsLevelWord s bound) (word_bits s) left None rest → (l : ℤ) (more : List Bool) → IsCoefficient s extra bound l → left ≢ coefficient_text s extra l ++ more
no_coefficient s extra bound left rest h k none l more is =
    none (level_word s (code_of l - extra)) more (coefficient_word s extra bound l h k is).0

pub IsPrefixFree-coefficient : (s extra bound : ℕ) → s ≤ 6 → bound ≤ 20 → IsPrefixFree (IsCoefficient s extra bound) (coefficient_text s extra)
IsPrefixFree-coefficient s extra bound h k l m x y p q e =
    let v = coefficient_word s extra bound l h k p in
    let w = coefficient_word s extra bound m h k q in
    let same = IsPrefixFree-level s bound (level_word s (code_of l - extra)) (level_word s (code_of m - extra)) x y v.0 w.0 e in
    same_from_code l m p.nonzero q.nonzero (sym v.1 ∙ (ap (λ (v : ℕ × ℕ). level_code s v.0 v.1 + extra) same ∙ w.1))

-- ---- a list of levels

-- `count` levels from the highest frequency down, of which the first has `extra` taken off
abbrev pub IsList : ℕ → ℕ → ℕ → ℕ → List ℤ → Type 0
IsList count bound s extra ls = (length ls ≡ count) × AreCoefficients bound s extra ls

abbrev pub ReadsList : ℕ → ℕ → ℕ → ℕ → List Bool → Option (List ℤ) → List Bool → Type 0
ReadsList count bound s extra left r rest = Reads (IsList count bound s extra) (coefficients_text s extra) left r rest

pub next_suffix_length-small : (s : ℕ) (l : ℤ) → s ≤ 6 → next_suffix_length s l ≤ 6
next_suffix_length-small s l h = grind (arith, nat_tests)

uncons : List ℤ → ℤ × List ℤ
uncons [] = (pos 0, [])
uncons (l ∷ ls) = (l, ls)

-- a list as its first level and the others
AfterFirst : ℕ → ℕ → ℕ → ℤ → List ℤ → Type 0
AfterFirst n bound s l = IsList n bound (next_suffix_length s l) 0

text_after : ℕ → ℤ → List ℤ → List Bool
text_after s l = coefficients_text (next_suffix_length s l) 0

list_parts : (n bound s extra : ℕ) (ls : List ℤ) → IsList (suc n) bound s extra ls → BothAre (IsCoefficient s extra bound) (AfterFirst n bound s) (uncons ls) × (coefficients_text s extra ls ≡ both_texts (coefficient_text s extra) (text_after s) (uncons ls))
unfolding uncons AfterFirst text_after
list_parts n bound s extra [] h = absurd (omega (arith, h.0))
list_parts n bound s extra (l ∷ ls) h = ((h.1.0, (omega (arith, h.0), h.1.1)), refl)

list_joined : (n bound s extra : ℕ) (v : ℤ × List ℤ) → BothAre (IsCoefficient s extra bound) (AfterFirst n bound s) v → IsList (suc n) bound s extra (v.0 ∷ v.1) × (coefficients_text s extra (v.0 ∷ v.1) ≡ both_texts (coefficient_text s extra) (text_after s) v)
unfolding AfterFirst text_after
list_joined n bound s extra v h = ((omega (arith, h.1.0), (h.0, h.1.1)), refl)

pub IsPrefixFree-list : (n bound s extra : ℕ) → s ≤ 6 → bound ≤ 20 → IsPrefixFree (IsList n bound s extra) (coefficients_text s extra)
unfolding AfterFirst text_after uncons
IsPrefixFree-list zero bound s extra h k = λ v w x y p q e. nil_from_length v p.0 ∙ sym (nil_from_length w q.0)
IsPrefixFree-list (suc n) bound s extra h k =
    IsPrefixFree-map (BothAre (IsCoefficient s extra bound) (AfterFirst n bound s)) (both_texts (coefficient_text s extra) (text_after s))
    (IsList (suc n) bound s extra) (coefficients_text s extra) (λ v. v.0 ∷ v.1) uncons (list_parts n bound s extra) (back n)
    (IsPrefixFree-then (IsCoefficient s extra bound) (coefficient_text s extra) (AfterFirst n bound s) (text_after s)
    (IsPrefixFree-coefficient s extra bound h k) (λ l _. IsPrefixFree-list n bound (next_suffix_length s l) 0 (next_suffix_length-small s l h) k))
  where
    back : (n : ℕ) (ls : List ℤ) → IsList (suc n) bound s extra ls → (uncons ls).0 ∷ (uncons ls).1 ≡ ls
    back n [] h = absurd (omega (arith, h.0))
    back n (l ∷ ls) h = refl

-- a first level, and then what was read of the others
ReadsList-cons : (n bound s extra : ℕ) (l : ℤ) (left mid : List Bool) → s ≤ 6 → bound ≤ 20 → IsCoefficient s extra bound l × (left ≡ coefficient_text s extra l ++ mid) → (r : Option (List ℤ)) (rest : List Bool) → ReadsList n bound (next_suffix_length s l) 0 mid r rest → ReadsList (suc n) bound s extra left (option_map (λ ls. l ∷ ls) r) rest
unfolding AfterFirst text_after
ReadsList-cons n bound s extra l left mid h k first r rest others =
    let both = Reads-then (IsCoefficient s extra bound) (coefficient_text s extra) (AfterFirst n bound s) (text_after s) (IsPrefixFree-coefficient s extra bound h k) l left mid first.0 first.1 r rest others in
    let whole = Reads-map (BothAre (IsCoefficient s extra bound) (AfterFirst n bound s)) (both_texts (coefficient_text s extra) (text_after s))
    (IsList (suc n) bound s extra) (coefficients_text s extra) (λ v. v.0 ∷ v.1) uncons (list_parts n bound s extra) (list_joined n bound s extra) left _ rest both in
    same r whole
  where
    same : (r : Option (List ℤ)) → ReadsList (suc n) bound s extra left (option_map (λ (v : ℤ × List ℤ). v.0 ∷ v.1) (option_map (λ ls. (l, ls)) r)) rest → ReadsList (suc n) bound s extra left (option_map (λ ls. l ∷ ls) r) rest
    same None w = w
    same (Some ls) w = w

-- Whatever is read of the levels that are still to come completes those that were read.
abbrev pub Completes : (count n bound s extra s0 extra0 : ℕ) → List Bool → List Bool → List ℤ → Type 0
Completes count n bound s extra s0 extra0 left0 left done =
    (r : Option (List ℤ)) (rest : List Bool) → ReadsList n bound s extra left r rest → ReadsList count bound s0 extra0 left0 (option_map (λ ls. done ++ ls) r) rest

pub Completes-start : (count bound s extra : ℕ) (left : List Bool) → Completes count count bound s extra s extra left left []
Completes-start count bound s extra left None rest h = h
Completes-start count bound s extra left (Some ls) rest h = h

pub Completes-from : (count n bound s extra : ℕ) (left : List Bool) (done : List ℤ) → n ≡ count → done ≡ [] → Completes count n bound s extra s extra left left done
Completes-from count n bound s extra left done all none = rw (all, none) (Completes-start count bound s extra left)

pub Completes-next : (count n m bound s extra s0 extra0 : ℕ) (left0 left mid : List Bool) (done : List ℤ) (l : ℤ) → s ≤ 6 → bound ≤ 20 → n ≡ suc m → Completes count n bound s extra s0 extra0 left0 left done → IsCoefficient s extra bound l × (left ≡ coefficient_text s extra l ++ mid) → Completes count m bound (next_suffix_length s l) 0 s0 extra0 left0 mid (done ++ l ∷ [])
Completes-next count n m bound s extra s0 extra0 left0 left mid done l h k e completes first r rest others =
    let cons = ReadsList-cons m bound s extra l left mid h k first r rest others in
    let P : ℕ → Type 0 = λ i. ReadsList i bound s extra left (option_map (λ ls. l ∷ ls) r) rest in
    same r (completes _ rest (subst P (sym e) cons))
  where
    same : (r : Option (List ℤ)) → ReadsList count bound s0 extra0 left0 (option_map (λ ls. done ++ ls) (option_map (λ ls. l ∷ ls) r)) rest → ReadsList count bound s0 extra0 left0 (option_map (λ ls. (done ++ l ∷ []) ++ ls) r) rest
    same None w = w
    same (Some ls) w = let P : List ℤ → Type 0 = λ t. ReadsList count bound s0 extra0 left0 (Some t) rest in subst P (sym (append_assoc done (l ∷ []) ls)) w

pub Completes-stop : (count n m bound s extra s0 extra0 : ℕ) (left0 left rest : List Bool) (done : List ℤ) → n ≡ suc m → Completes count n bound s extra s0 extra0 left0 left done → Reads (IsCoefficient s extra bound) (coefficient_text s extra) left None rest → ReadsList count bound s0 extra0 left0 None rest
unfolding AfterFirst text_after
Completes-stop count n m bound s extra s0 extra0 left0 left rest done e completes none =
    let P : ℕ → Type 0 = λ i. ReadsList i bound s extra left None rest in
    completes None rest (subst P (sym e) (λ ls more is bad.
    let parts = list_parts m bound s extra ls is in
    Reads-stop (IsCoefficient s extra bound) (coefficient_text s extra) (AfterFirst m bound s) (text_after s) left rest rest none (uncons ls) more parts.0 (bad ∙ ap (λ t. t ++ more) parts.1)))

pub Completes-end : (count n bound s extra s0 extra0 : ℕ) (left0 left : List Bool) (done : List ℤ) → n ≡ 0 → Completes count n bound s extra s0 extra0 left0 left done → ReadsList count bound s0 extra0 left0 (Some done) left
Completes-end count n bound s extra s0 extra0 left0 left done e completes =
    let P : ℕ → Type 0 = λ i. ReadsList i bound s extra left (Some []) left in
    let Q : List ℤ → Type 0 = λ t. ReadsList count bound s0 extra0 left0 (Some t) left in
    subst Q (append-nil done) (completes (Some []) left (subst P (sym e) ((refl, tt), refl)))

-- the same with what the code computes
pub Completes-turn : (count n m bound s extra s0 extra0 t : ℕ) (left0 left mid : List Bool) (done more : List ℤ) (l : ℤ) → s ≤ 6 → bound ≤ 20 → n ≡ suc m → Completes count n bound s extra s0 extra0 left0 left done → IsCoefficient s extra bound l × (left ≡ coefficient_text s extra l ++ mid) → t ≡ next_suffix_length s l → more ≡ done ++ l ∷ [] → Completes count m bound t 0 s0 extra0 left0 mid more
Completes-turn count n m bound s extra s0 extra0 t left0 left mid done more l h k e completes first next push =
    let P : ℕ → Type 0 = λ u. Completes count m bound u 0 s0 extra0 left0 mid more in
    let Q : List ℤ → Type 0 = λ ls. Completes count m bound (next_suffix_length s l) 0 s0 extra0 left0 mid ls in
    subst P (sym next) (subst Q (sym push) (Completes-next count n m bound s extra s0 extra0 left0 left mid done l h k e completes first))

-- ---- a level that is written

-- the levelCode that is written, less `extra`
pub coefficient_code : (k e n : ℕ) (l m : ℤ) → n ≡ code_of m → m ≡ l → k ≡ e → n - k ≡ code_of l - e
coefficient_code k e n l m code level extra = ap (λ i. i - k) (code ∙ ap code_of level) ∙ ap (λ i. code_of l - i) extra

pub coefficient_written : {T E : Type 0} (s e i : ℕ) (l : ℤ) (old new : List Bool) (r : Result T E) → i ≡ code_of l - e → Appends old new (word_bits s (level_word s i)) r → Appends old new (coefficient_text s e l) r
coefficient_written s e i l old new r same written =
    let P : ℕ → Type 0 = λ k. Appends old new (word_bits s (level_word s k)) r in
    subst P same written
