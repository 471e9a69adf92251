-- The elements of places one after another.
use Rattle.std.proofs.Common.{◌≡◌, ℕ, zero, suc, ◌+◌, ◌-◌, ◌<◌, ◌≤◌, Bool, true, List, [], ◌∷◌, ◌++◌, length, take, drop, get_or, slice_set, Some, None, refl, sym, ap, subst, ◌∙◌, append_assoc, arith}
use Rattle.std.proofs.lemmas.List.{take_more, take_more_set, take_all, length-take-le, append-nil}
use Rattle.bit_texts.specs.Texts.{Appended, Wrote, Reads, IsPrefixFree, AreTurns, turns_text, Completes, IsWhen, when_text}
use Rattle.bit_texts.proofs.Reading.{IsPrefixFree-when}
use Rattle.bit_texts.proofs.Turns.{Completes-turn, Completes-stop, Completes-end, IsPrefixFree-turns, Wrote-turn, Wrote-turn_stop, Wrote-turns_end}
use Rattle.cavlc_inter.specs.Parts.{is_sent, repeated, IsElement, element_text, and_next, AreElements, elements_text}

pub IsPrefixFree-element : {A : Type 0} (part : ℕ → ℕ) (has : ℕ → Bool) (none : A) (Is : A → Type 0) (text : A → List Bool) → IsPrefixFree Is text → (before : List A) → IsPrefixFree (IsElement part has none Is before) (element_text part has text before)
IsPrefixFree-element part has none Is text free before = IsPrefixFree-when (is_sent part has (length before)) (repeated part none before) Is text free

pub IsPrefixFree-elements : {A : Type 0} (count : ℕ) (part : ℕ → ℕ) (has : ℕ → Bool) (none : A) (Is : A → Type 0) (text : A → List Bool) → IsPrefixFree Is text → IsPrefixFree (AreElements count part has none Is) (elements_text part has text)
IsPrefixFree-elements {A} count part has none Is text free = IsPrefixFree-turns (IsElement part has none Is) (element_text part has text) (and_next {A = A}) (IsPrefixFree-element part has none Is text free) count []

-- ---- reading: what is known where i elements of xs were read

abbrev pub ReadsOn : {A : Type 0} → ℕ → (ℕ → ℕ) → (ℕ → Bool) → A → (A → Type 0) → (A → List Bool) → List Bool → ℕ → List A → List Bool → Type 0
ReadsOn {A} count part has none Is text whole i xs left =
    Completes (IsElement part has none Is) (element_text part has text) (and_next {A = A}) count [] whole (count - i) (take i xs) left (take i xs)

pub reads_more : {A : Type 0} (count : ℕ) (part : ℕ → ℕ) (has : ℕ → Bool) (none : A) (Is : A → Type 0) (text : A → List Bool) → IsPrefixFree Is text → (whole left mid : List Bool) (i : ℕ) (xs : List A) (x : A)
    → i < count → i < length xs → ReadsOn count part has none Is text whole i xs left → IsElement part has none Is (take i xs) x × (left ≡ element_text part has text (take i xs) x ++ mid)
    → ReadsOn count part has none Is text whole (i + 1) (slice_set xs i x) mid
reads_more {A} count part has none Is text free whole left mid i xs x below inside known read =
    let more : take (i + 1) (slice_set xs i x) ≡ take i xs ++ x ∷ [] = take_more_set xs i x inside in
    Completes-turn (IsElement part has none Is) (element_text part has text) (and_next {A = A}) count [] whole (count - i) (count - (i + 1)) (take i xs) _ left mid (take i xs) _ x
    (omega arith) (IsPrefixFree-element part has none Is text free (take i xs)) known read.0 read.1 more more

pub reads_stop : {A : Type 0} (count : ℕ) (part : ℕ → ℕ) (has : ℕ → Bool) (none : A) (Is : A → Type 0) (text : A → List Bool) (whole left rest : List Bool) (i : ℕ) (xs : List A)
    → i < count → ReadsOn count part has none Is text whole i xs left → Reads (IsElement part has none Is (take i xs)) (element_text part has text (take i xs)) left None rest
    → Reads (AreElements count part has none Is) (elements_text part has text) whole None rest
reads_stop {A} count part has none Is text whole left rest i xs below known stop =
    Completes-stop (IsElement part has none Is) (element_text part has text) (and_next {A = A}) count [] whole (count - i) (count - (i + 1)) (take i xs) left rest rest (take i xs) (omega arith) known stop

pub reads_end : {A : Type 0} (count : ℕ) (part : ℕ → ℕ) (has : ℕ → Bool) (none : A) (Is : A → Type 0) (text : A → List Bool) (whole left : List Bool) (i : ℕ) (xs : List A)
    → count ≤ i → length xs ≡ count → ReadsOn count part has none Is text whole i xs left → Reads (AreElements count part has none Is) (elements_text part has text) whole (Some xs) left
reads_end {A} count part has none Is text whole left i xs all size known =
    let P : List A → Type 0 = λ ys. Reads (AreElements count part has none Is) (elements_text part has text) whole (Some ys) left in
    subst P (take_all i xs (omega arith)) (Completes-end (IsElement part has none Is) (element_text part has text) (and_next {A = A}) count [] whole (count - i) (take i xs) left (take i xs) (omega arith) known)

-- ---- each element by its place

turns_length : {A : Type 0} (Is : List A → A → Type 0) (n : ℕ) (before xs : List A) → AreTurns Is (and_next {A = A}) n before xs → length xs ≡ n
unfolding AreTurns
turns_length Is zero before [] are = refl
turns_length Is zero before (x ∷ xs) are = absurd are
turns_length Is (suc n) before [] are = absurd are
turns_length Is (suc n) before (x ∷ xs) are = let e = turns_length Is n (before ++ x ∷ []) xs are.1 in omega (arith, e)

turns_at : {A : Type 0} (Is : List A → A → Type 0) (n : ℕ) (before xs : List A) → AreTurns Is (and_next {A = A}) n before xs → (i : ℕ) (d : A) → i < n → Is (before ++ take i xs) (get_or xs i d)
unfolding AreTurns
turns_at Is zero before xs are i d h = absurd (omega arith)
turns_at Is (suc n) before [] are i d h = absurd are
turns_at {A} Is (suc n) before (x ∷ xs) are zero d h = let P : List A → Type 0 = λ b. Is b x in subst P (sym (append-nil before)) are.0
turns_at {A} Is (suc n) before (x ∷ xs) are (suc i) d h =
    let P : List A → Type 0 = λ b. Is b (get_or xs i d) in
    subst P (append_assoc before (x ∷ []) (take i xs)) (turns_at Is n (before ++ x ∷ []) xs are.1 i d (omega arith))

turns_from : {A : Type 0} (Is : List A → A → Type 0) (n : ℕ) (before xs : List A) → length xs ≡ n → ((i : ℕ) (d : A) → i < n → Is (before ++ take i xs) (get_or xs i d)) → AreTurns Is (and_next {A = A}) n before xs
unfolding AreTurns
turns_from Is zero before [] size each = tt
turns_from Is zero before (x ∷ xs) size each = absurd (omega arith)
turns_from Is (suc n) before [] size each = absurd (omega arith)
turns_from {A} Is (suc n) before (x ∷ xs) size each = (
  let P : List A → Type 0 = λ b. Is b x in
      subst P (append-nil before) (each 0 x (omega arith)),
  turns_from Is n (before ++ x ∷ []) xs (omega arith) (λ i d h.
      let P : List A → Type 0 = λ b. Is b (get_or xs i d) in
      subst P (sym (append_assoc before (x ∷ []) (take i xs))) (each (suc i) d (omega arith))),
)

pub elements_length : {A : Type 0} (count : ℕ) (part : ℕ → ℕ) (has : ℕ → Bool) (none : A) (Is : A → Type 0) (xs : List A) → AreElements count part has none Is xs → length xs ≡ count
elements_length count part has none Is xs are = turns_length (IsElement part has none Is) count [] xs are

pub elements_at : {A : Type 0} (count : ℕ) (part : ℕ → ℕ) (has : ℕ → Bool) (none : A) (Is : A → Type 0) (xs : List A) → AreElements count part has none Is xs → (i : ℕ) (d : A) → i < count → IsElement part has none Is (take i xs) (get_or xs i d)
elements_at count part has none Is xs are i d h = turns_at (IsElement part has none Is) count [] xs are i d h

pub elements_from : {A : Type 0} (count : ℕ) (part : ℕ → ℕ) (has : ℕ → Bool) (none : A) (Is : A → Type 0) (xs : List A) → length xs ≡ count → ((i : ℕ) (d : A) → i < count → IsElement part has none Is (take i xs) (get_or xs i d)) → AreElements count part has none Is xs
elements_from count part has none Is xs size each = turns_from (IsElement part has none Is) count [] xs size each

-- what a place has for which something is sent
pub element_is : {A : Type 0} (count : ℕ) (part : ℕ → ℕ) (has : ℕ → Bool) (none : A) (Is : A → Type 0) (xs : List A) → AreElements count part has none Is xs → (i : ℕ) (d x : A) → x ≡ get_or xs i d → i < count → is_sent part has i ≡ true → Is x
element_is count part has none Is xs are i d x same below sent =
    let size : length (take i xs) ≡ i = length-take-le i xs (omega (arith, elements_length count part has none Is xs are)) in
    let P : Bool → Type 0 = λ b. IsWhen b (repeated part none (take i xs)) Is (get_or xs i d) in
    subst Is (sym same) (subst P (ap (is_sent part has) size ∙ sent) (elements_at count part has none Is xs are i d below))

-- ---- writing: what was written where i elements of xs were

abbrev pub WroteTo : {A : Type 0} → (ℕ → ℕ) → (ℕ → Bool) → (A → List Bool) → List Bool → List Bool → ℕ → List A → Type 0
WroteTo {A} part has text old now i xs = Wrote old now (elements_text part has text xs) (turns_text (element_text part has text) (and_next {A = A}) (take i xs) (drop i xs))

place_text : {A : Type 0} (part : ℕ → ℕ) (has : ℕ → Bool) (text : A → List Bool) (xs : List A) (i : ℕ) (x : A) → i < length xs → when_text (is_sent part has i) text x ≡ element_text part has text (take i xs) x
place_text part has text xs i x inside = let size : i ≡ length (take i xs) = sym (length-take-le i xs (omega arith)) in ap (λ n. when_text (is_sent part has n) text x) size

pub wrote_more : {A : Type 0} (part : ℕ → ℕ) (has : ℕ → Bool) (text : A → List Bool) (old now new : List Bool) (i : ℕ) (xs : List A) (d x : A) → x ≡ get_or xs i d → i < length xs → WroteTo part has text old now i xs
    → Appended now new (when_text (is_sent part has i) text x) → WroteTo part has text old new (i + 1) xs
wrote_more {A} part has text old now new i xs d x same inside w step =
    let P : List Bool → Type 0 = λ t. Appended now new t in
    let next : take (i + 1) xs ≡ and_next (take i xs) x = take_more xs i d inside ∙ ap (λ y. and_next (take i xs) y) (sym same) in
    Wrote-turn (element_text part has text) (and_next {A = A}) (take i xs) (take (i + 1) xs) xs i d x old now new _ inside same next w (subst P (place_text part has text xs i x inside) step)

pub wrote_stop : {A : Type 0} (part : ℕ → ℕ) (has : ℕ → Bool) (text : A → List Bool) (old now new rest : List Bool) (i : ℕ) (xs : List A) (d x : A) → x ≡ get_or xs i d → i < length xs → WroteTo part has text old now i xs
    → Wrote now new (when_text (is_sent part has i) text x) rest → Wrote old new (elements_text part has text xs) (rest ++ turns_text (element_text part has text) (and_next {A = A}) (and_next (take i xs) (get_or xs i d)) (drop (i + 1) xs))
wrote_stop {A} part has text old now new rest i xs d x same inside w step =
    let P : List Bool → Type 0 = λ t. Wrote now new t rest in
    Wrote-turn_stop (element_text part has text) (and_next {A = A}) (take i xs) xs i d x old now new _ rest inside same w (subst P (place_text part has text xs i x inside) step)

pub wrote_end : {A : Type 0} (part : ℕ → ℕ) (has : ℕ → Bool) (text : A → List Bool) (old now : List Bool) (i : ℕ) (xs : List A) → length xs ≤ i → WroteTo part has text old now i xs → Appended old now (elements_text part has text xs)
wrote_end {A} part has text old now i xs all w = Wrote-turns_end (element_text part has text) (and_next {A = A}) (take i xs) xs i old now _ all w
