use Rattle.std.proofs.Common.{◌≡◌, ◌≢◌, ℕ, zero, suc, ◌+◌, ◌-◌, ◌*◌, ◌/◌, ◌%◌, ◌<◌, ◌≤◌, ℤ, pos, negsuc, Bool, true, false, ◌&&◌, cond, List, [], ◌∷◌, ◌++◌, length, take, drop, map, nat_lt, Option, Some, None, refl, sym, ap, ◌∙◌, subst, arith, ◌⊎◌, inl, inr, length-append}
use Rattle.std.specs.Option.{option_map}
use Rattle.std.specs.List.{AllByRecursion}
use Rattle.std.proofs.lemmas.List.{append-nil, length-map, length-take-le, take-append-drop, take_at, drop_at, length-drop}
use Rattle.std.proofs.lemmas.Bool.{cases_Bool, lt-ltb, eqb-true, ne_eqb, false≢true}
use Rattle.bit_texts.specs.Texts.{Reads, IsPrefixFree, BothAre, both_texts}
use Rattle.bit_texts.proofs.Reading.{same_parts, Reads-then, Reads-stop, Reads-map, IsPrefixFree-then, IsPrefixFree-map}
use Rattle.code_tables.specs.Codes.{Code, IsEntry, word_at}
use Rattle.code_tables.specs.CoeffToken.{coeff_token_list}
use Rattle.code_tables.proofs.Tables.{IsCodeTable-coeff_token}
use Rattle.cavlc_residual.specs.Coefficients.{is_minus, code_of, coefficients_text, AreCoefficients}
use Rattle.cavlc_residual.proofs.CoefficientLemmas.{IsList, ReadsList, IsPrefixFree-list}
use Rattle.cavlc_residual.specs.Block.{is_one, ones_within, trailing_ones, first_suffix_length, first_extra, levels_text}
use Rattle.cavlc_residual.specs.Parts.{IsToken, token_text, AreOnes, AreLevels}

-- ---- coeff_token

length-cond : {A : Type 0} (b : Bool) (n : ℕ) (xs ys : List A) → length xs ≤ n → length ys ≤ n → length (cond b xs ys) ≤ n
length-cond true n xs ys p q = p
length-cond false n xs ys p q = q

pub length-coeff_token_list : (nc : ℤ) → length (coeff_token_list nc) ≤ 256
unfolding coeff_token_list
length-coeff_token_list (negsuc n) = omega arith
length-coeff_token_list (pos n) = length-cond (nat_lt n 2) 256 _ _ (omega arith) (length-cond (nat_lt n 4) 256 _ _ (omega arith) (length-cond (nat_lt n 8) 256 _ _ (omega arith) (omega arith)))

place_of : (t o : ℕ) → o < 4 → ((4 * t + o) / 4 ≡ t) × ((4 * t + o) % 4 ≡ o)
place_of t o h = (omega arith, omega arith)

pub IsPrefixFree-token : (nc : ℤ) (max : ℕ) → IsPrefixFree (IsToken nc max) (token_text nc)
IsPrefixFree-token nc max v w x y p q e =
    let same : 4 * v.0 + v.1 ≡ 4 * w.0 + w.1 = (IsCodeTable-coeff_token nc).prefix_free (4 * v.0 + v.1) (4 * w.0 + w.1) x y p.2 q.2 e in
    let total : v.0 ≡ w.0 = omega (arith, p.1, q.1) in
    let ones : v.1 ≡ w.1 = omega (arith, p.1, q.1) in
    ap (λ t. (t, v.1)) total ∙ ap (λ o. (w.0, o)) ones

pub token_read : (nc : ℤ) (max place : ℕ) (codes : List Code) (bits rest : List Bool) → codes ≡ coeff_token_list nc → place / 4 ≤ max → IsEntry codes place × (bits ≡ word_at codes place ++ rest) → IsToken nc max (place / 4, place % 4) × (bits ≡ token_text nc (place / 4, place % 4) ++ rest)
token_read nc max place codes bits rest e h read =
    let P : List Code → Type 0 = λ cs. IsEntry cs place × (bits ≡ word_at cs place ++ rest) in
    let here = subst P e read in
    let Q : ℕ → Type 0 = λ p. IsEntry (coeff_token_list nc) p × (bits ≡ word_at (coeff_token_list nc) p ++ rest) in
    let whole : place ≡ 4 * (place / 4) + place % 4 = omega arith in
    let parts = subst Q whole here in
    ((h, omega arith, parts.0), parts.1)

pub token_too_large : (nc : ℤ) (max place : ℕ) (codes : List Code) (bits rest : List Bool) → codes ≡ coeff_token_list nc → max < place / 4 → IsEntry codes place × (bits ≡ word_at codes place ++ rest) → (t : ℕ × ℕ) (more : List Bool) → IsToken nc max t → bits ≢ token_text nc t ++ more
token_too_large nc max place codes bits rest e h read t more is bad =
    let P : List Code → Type 0 = λ cs. IsEntry cs place × (bits ≡ word_at cs place ++ rest) in
    let here = subst P e read in
    let same = (IsCodeTable-coeff_token nc).prefix_free place (4 * t.0 + t.1) rest more here.0 is.2 (sym here.1 ∙ bad) in
    omega (arith, is.0, is.1)

pub no_token : (nc : ℤ) (max : ℕ) (codes : List Code) (bits rest : List Bool) → codes ≡ coeff_token_list nc → Reads (IsEntry codes) (word_at codes) bits None rest → Reads (IsToken nc max) (token_text nc) bits None rest
no_token nc max codes bits rest e none =
    let P : List Code → Type 0 = λ cs. Reads (IsEntry cs) (word_at cs) bits None rest in
    λ t more is. subst P e none (4 * t.0 + t.1) more is.2

-- ---- trailing ones

one_from_sign : (l m : ℤ) → is_one l ≡ true → is_one m ≡ true → is_minus l ≡ is_minus m → l ≡ m
one_from_sign (pos a) (pos b) p q e = ap pos (eqb-true a 1 p ∙ sym (eqb-true b 1 q))
one_from_sign (pos a) (negsuc b) p q e = absurd (false≢true e)
one_from_sign (negsuc a) (pos b) p q e = absurd (false≢true (sym e))
one_from_sign (negsuc a) (negsuc b) p q e = ap negsuc (eqb-true a 0 p ∙ sym (eqb-true b 0 q))

same_from_signs : (v w : List ℤ) → AllByRecursion (λ l. is_one l ≡ true) v → AllByRecursion (λ l. is_one l ≡ true) w → length v ≡ length w → map is_minus v ≡ map is_minus w → v ≡ w
same_from_signs [] [] p q n e = refl
same_from_signs [] (m ∷ w) p q n e = absurd (omega arith)
same_from_signs (l ∷ v) [] p q n e = absurd (omega arith)
same_from_signs (l ∷ v) (m ∷ w) p q n e =
    let sign : is_minus l ≡ is_minus m = cc in
    let signs : map is_minus v ≡ map is_minus w = cc in
    let first = one_from_sign l m p.0 q.0 sign in
    let others = same_from_signs v w p.1 q.1 (omega arith) signs in
    cc

pub IsPrefixFree-ones : (count : ℕ) → IsPrefixFree (AreOnes count) (map is_minus)
IsPrefixFree-ones count v w x y p q e =
    same_from_signs v w p.1 q.1 (p.0 ∙ sym q.0) (same_parts (map is_minus v) (map is_minus w) x y (length-map v is_minus ∙ (p.0 ∙ (sym q.0 ∙ sym (length-map w is_minus)))) e).0

-- where the bits end there aren't as many signs
pub no_ones : (count n : ℕ) (done : List ℤ) (bits rest : List Bool) → length done ≡ n → n < count → bits ≡ map is_minus done ++ rest → rest ≡ [] → (ls : List ℤ) (more : List Bool) → AreOnes count ls → bits ≢ map is_minus ls ++ more
no_ones count n done bits rest size h e end ls more is bad =
    let short : length bits ≡ n + 0 = ap length e ∙ (length-append (map is_minus done) rest ∙ (ap (λ k. k + length rest) (length-map done is_minus ∙ size) ∙ ap (λ r. n + length r) end)) in
    let long : length bits ≡ count + length more = ap length bad ∙ (length-append (map is_minus ls) more ∙ ap (λ k. k + length more) (length-map ls is_minus ∙ is.0)) in
    omega arith

-- what trailing_ones counts
pub record OnesAre (n : ℕ) (ls : List ℤ) (count : ℕ) : Type 0 where
  pub within : count ≤ n
  pub fits : count ≤ length ls
  pub each : AllByRecursion (λ l. is_one l ≡ true) (take count ls)

pub ones_are : (n : ℕ) (ls : List ℤ) → OnesAre n ls (ones_within n ls)
ones_are zero ls = record { within = omega arith; fits = omega arith; each = tt }
ones_are (suc n) [] = record { within = omega arith; fits = omega arith; each = tt }
ones_are (suc n) (l ∷ ls) = by n l ls (cases_Bool (is_one l)) (ones_are n ls) where
  by : (n : ℕ) (l : ℤ) (ls : List ℤ) → (is_one l ≡ true) ⊎ (is_one l ≡ false) → OnesAre n ls (ones_within n ls) → OnesAre (suc n) (l ∷ ls) (cond (is_one l) (suc (ones_within n ls)) 0)
  by n l ls (inl e) h =
      let P : Bool → Type 0 = λ b. OnesAre (suc n) (l ∷ ls) (cond b (suc (ones_within n ls)) 0) in
      subst P (sym e) record { within = omega (arith, h.within); fits = omega (arith, h.fits); each = (e, h.each) }
  by n l ls (inr e) h =
      let P : Bool → Type 0 = λ b. OnesAre (suc n) (l ∷ ls) (cond b (suc (ones_within n ls)) 0) in
      subst P (sym e) record { within = omega arith; fits = omega arith; each = tt }

abbrev pub FirstIsNoOne : List ℤ → Type 0
FirstIsNoOne [] = Unit {0}
FirstIsNoOne (l ∷ ls) = is_one l ≡ false

ones_joined : (n : ℕ) (a b : List ℤ) → AllByRecursion (λ l. is_one l ≡ true) a → length a ≤ n → (length a < n → FirstIsNoOne b) → ones_within n (a ++ b) ≡ length a
ones_joined zero [] b all h first = refl
ones_joined (suc n) [] [] all h first = refl
ones_joined (suc n) [] (l ∷ b) all h first = ap (λ t. cond t (suc (ones_within n b)) 0) (first (omega arith))
ones_joined zero (l ∷ a) b all h first = absurd (omega arith)
ones_joined (suc n) (l ∷ a) b all h first =
    ap (λ t. cond t (suc (ones_within n (a ++ b))) 0) all.0 ∙ ap suc (ones_joined n a b all.1 (omega arith) (λ k. first (omega arith)))

no_one_above : (l : ℤ) → 2 ≤ code_of l → is_one l ≡ false
no_one_above (pos n) h = ne_eqb n 1 (λ e. omega arith)
no_one_above (negsuc n) h = ne_eqb n 0 (λ e. omega arith)

first_extra-two : (ones : ℕ) → ones < 3 → first_extra ones ≡ 2
first_extra-two ones h = ap (λ b. cond b 2 0) (lt-ltb ones 3 h)

first_no_one : (bound s extra : ℕ) (ls : List ℤ) → extra ≡ 2 → AreCoefficients bound s extra ls → FirstIsNoOne ls
first_no_one bound s extra [] e are = tt
first_no_one bound s extra (l ∷ ls) e are = no_one_above l (omega (arith, are.0.above))

-- ---- the levels

levels_text-at : (ls : List ℤ) (t o : ℕ) → length ls ≡ t → trailing_ones ls ≡ o → levels_text ls ≡ map is_minus (take o ls) ++ coefficients_text (first_suffix_length t o) (first_extra o) (drop o ls)
levels_text-at ls t o count ones =
    ap (λ k. map is_minus (take k ls) ++ coefficients_text (first_suffix_length (length ls) k) (first_extra k) (drop k ls)) ones
    ∙ ap (λ n. map is_minus (take o ls) ++ coefficients_text (first_suffix_length n o) (first_extra o) (drop o ls)) count

-- the levels behind the trailing ones
OthersAre : ℕ × ℕ → ℕ → List ℤ → List ℤ → Type 0
OthersAre t bound a = IsList (t.0 - t.1) bound (first_suffix_length t.0 t.1) (first_extra t.1)

others_text : ℕ × ℕ → List ℤ → List ℤ → List Bool
others_text t a = coefficients_text (first_suffix_length t.0 t.1) (first_extra t.1)

levels_parts : (t : ℕ × ℕ) (bound : ℕ) (ls : List ℤ) → AreLevels t bound ls → BothAre (AreOnes t.1) (OthersAre t bound) (take t.1 ls, drop t.1 ls) × (levels_text ls ≡ both_texts (map is_minus) (others_text t) (take t.1 ls, drop t.1 ls))
unfolding OthersAre others_text
levels_parts t bound ls are =
    let ones = ones_are 3 ls in
    let Each : ℕ → Type 0 = λ o. AllByRecursion (λ l. is_one l ≡ true) (take o ls) in (
      ((length-take-le t.1 ls (omega (arith, ones.fits, are.ones)), subst Each are.ones ones.each), (length-drop t.1 ls ∙ ap (λ n. n - t.1) are.count, are.others)),
      levels_text-at ls t.0 t.1 are.count are.ones,
    )

levels_joined : (t : ℕ × ℕ) (bound : ℕ) → t.1 ≤ t.0 → t.1 ≤ 3 → (v : List ℤ × List ℤ) → BothAre (AreOnes t.1) (OthersAre t bound) v → AreLevels t bound (v.0 ++ v.1) × (levels_text (v.0 ++ v.1) ≡ both_texts (map is_minus) (others_text t) v)
unfolding OthersAre others_text
levels_joined t bound h k v both =
    let count : length (v.0 ++ v.1) ≡ t.0 = length-append v.0 v.1 ∙ omega (arith, both.0.0, both.1.0) in
    let ones : trailing_ones (v.0 ++ v.1) ≡ t.1 = ones_joined 3 v.0 v.1 both.0.1 (omega (arith, both.0.0)) (λ l. first_no_one bound (first_suffix_length t.0 t.1) (first_extra t.1) v.1 (first_extra-two t.1 (omega (arith, both.0.0))) both.1.1) ∙ both.0.0 in
    let front : take t.1 (v.0 ++ v.1) ≡ v.0 = take_at v.0 v.1 t.1 both.0.0 in
    let back : drop t.1 (v.0 ++ v.1) ≡ v.1 = drop_at v.0 v.1 t.1 both.0.0 in
    let Are : List ℤ → Type 0 = λ ls. AreCoefficients bound (first_suffix_length t.0 t.1) (first_extra t.1) ls in (
      record { count = count; ones = ones; others = subst Are (sym back) both.1.1 },
      levels_text-at (v.0 ++ v.1) t.0 t.1 count ones
          ∙ (ap (λ a. map is_minus a ++ coefficients_text (first_suffix_length t.0 t.1) (first_extra t.1) (drop t.1 (v.0 ++ v.1))) front
          ∙ ap (λ b. map is_minus v.0 ++ coefficients_text (first_suffix_length t.0 t.1) (first_extra t.1) b) back),
    )

pub first_suffix_length-small : (t o : ℕ) → first_suffix_length t o ≤ 6
first_suffix_length-small t o = small (nat_lt 10 t && nat_lt o 3) where
  small : (b : Bool) → cond b 1 0 ≤ 6
  small true = omega arith
  small false = omega arith

pub IsPrefixFree-levels : (t : ℕ × ℕ) (bound : ℕ) → t.1 ≤ t.0 → t.1 ≤ 3 → bound ≤ 20 → IsPrefixFree (AreLevels t bound) levels_text
unfolding OthersAre others_text
IsPrefixFree-levels t bound h k small =
    IsPrefixFree-map (BothAre (AreOnes t.1) (OthersAre t bound)) (both_texts (map is_minus) (others_text t)) (AreLevels t bound) levels_text
    (λ v. v.0 ++ v.1) (λ ls. (take t.1 ls, drop t.1 ls)) (levels_parts t bound) (λ ls _. take-append-drop t.1 ls)
    (IsPrefixFree-then (AreOnes t.1) (map is_minus) (OthersAre t bound) (others_text t) (IsPrefixFree-ones t.1)
    (λ a _. IsPrefixFree-list (t.0 - t.1) bound (first_suffix_length t.0 t.1) (first_extra t.1) (first_suffix_length-small t.0 t.1) small))

pub levels_reads : (t : ℕ × ℕ) (bound : ℕ) → t.1 ≤ t.0 → t.1 ≤ 3 → (a : List ℤ) (bits mid : List Bool) → AreOnes t.1 a × (bits ≡ map is_minus a ++ mid) → (r : Option (List ℤ)) (rest : List Bool) → ReadsList (t.0 - t.1) bound (first_suffix_length t.0 t.1) (first_extra t.1) mid r rest → Reads (AreLevels t bound) levels_text bits (option_map (λ b. a ++ b) r) rest
unfolding OthersAre others_text
levels_reads t bound h k a bits mid first r rest others =
    let both = Reads-then (AreOnes t.1) (map is_minus) (OthersAre t bound) (others_text t) (IsPrefixFree-ones t.1) a bits mid first.0 first.1 r rest others in
    let whole = Reads-map (BothAre (AreOnes t.1) (OthersAre t bound)) (both_texts (map is_minus) (others_text t)) (AreLevels t bound) levels_text
    (λ v. v.0 ++ v.1) (λ ls. (take t.1 ls, drop t.1 ls)) (levels_parts t bound) (levels_joined t bound h k) bits _ rest both in
    same r whole
  where
    same : (r : Option (List ℤ)) → Reads (AreLevels t bound) levels_text bits (option_map (λ (v : List ℤ × List ℤ). v.0 ++ v.1) (option_map (λ b. (a, b)) r)) rest → Reads (AreLevels t bound) levels_text bits (option_map (λ b. a ++ b) r) rest
    same None w = w
    same (Some b) w = w

pub no_levels : (t : ℕ × ℕ) (bound : ℕ) (bits rest : List Bool) → Reads (AreOnes t.1) (map is_minus) bits None rest → Reads (AreLevels t bound) levels_text bits None rest
unfolding OthersAre others_text
no_levels t bound bits rest none = λ ls more are bad.
    let parts = levels_parts t bound ls are in
    Reads-stop (AreOnes t.1) (map is_minus) (OthersAre t bound) (others_text t) bits rest rest none (take t.1 ls, drop t.1 ls) more parts.0 (bad ∙ ap (λ b. b ++ more) parts.1)

-- the same with what the code computes
pub levels_read : (t o bound s e : ℕ) → o ≤ t → o ≤ 3 → (a : List ℤ) (bits mid : List Bool) → AreOnes o a × (bits ≡ map is_minus a ++ mid) → s ≡ first_suffix_length t o → e ≡ first_extra o → (r : Option (List ℤ)) (rest : List Bool) → ReadsList (t - o) bound s e mid r rest → Reads (AreLevels (t, o) bound) levels_text bits (option_map (λ b. a ++ b) r) rest
levels_read t o bound s e h k a bits mid first length_is extra_is r rest others =
    let P : ℕ → Type 0 = λ n. ReadsList (t - o) bound n e mid r rest in
    let Q : ℕ → Type 0 = λ n. ReadsList (t - o) bound (first_suffix_length t o) n mid r rest in
    levels_reads (t, o) bound h k a bits mid first r rest (subst Q extra_is (subst P length_is others))

-- the others were appended to a list of the trailing ones
pub levels_appended : (t o bound s e n : ℕ) → o ≤ t → o ≤ 3 → (a new : List ℤ) (bits mid : List Bool) → take n new ≡ a → AreOnes o a × (bits ≡ map is_minus a ++ mid) → s ≡ first_suffix_length t o → e ≡ first_extra o
    → (r : Option (Unit {0})) (rest : List Bool) → ReadsList (t - o) bound s e mid (option_map (λ _. drop n new) r) rest → Reads (AreLevels (t, o) bound) levels_text bits (option_map (λ _. new) r) rest
levels_appended t o bound s e n h k a new bits mid front first length_is extra_is None rest others =
    levels_read t o bound s e h k a bits mid first length_is extra_is None rest others
levels_appended t o bound s e n h k a new bits mid front first length_is extra_is (Some done) rest others =
    let P : List ℤ → Type 0 = λ ls. AreLevels (t, o) bound ls × (bits ≡ levels_text ls ++ rest) in
    subst P (ap (λ b. b ++ drop n new) (sym front) ∙ take-append-drop n new) (levels_read t o bound s e h k a bits mid first length_is extra_is (Some (drop n new)) rest others)

-- there are no others
pub all_ones_read : (t o bound : ℕ) → o ≤ t → o ≤ 3 → (a : List ℤ) (bits rest : List Bool) → t ≡ o → AreOnes o a × (bits ≡ map is_minus a ++ rest) → AreLevels (t, o) bound a × (bits ≡ levels_text a ++ rest)
all_ones_read t o bound h k a bits rest e first =
    let P : List ℤ → Type 0 = λ ls. AreLevels (t, o) bound ls × (bits ≡ levels_text ls ++ rest) in
    let none : 0 ≡ t - o = omega (arith, e) in
    subst P (append-nil a) (levels_read t o bound (first_suffix_length t o) (first_extra o) h k a bits rest first refl refl (Some []) rest ((none, tt), refl))
