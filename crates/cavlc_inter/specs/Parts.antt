-- Elements that are sent once for all the places of a part, at its first place: those of quarters for partitions of
-- quarters, those of blocks for partitions and sub-macroblock partitions of blocks.
use Rattle.std.specs.Prelude.{ℕ, zero, suc, ◌+◌, ◌==◌, ◌&&◌, Bool, if◌then◌else◌, List, [], ◌∷◌, ◌++◌, length, slice_index_or}
use Rattle.bit_texts.specs.Texts.{IsWhen, when_text, AreTurns, turns_text}

-- the first of n numbers from k on at which the test holds, and k + n where there is none
unfoldable pub first_from : (ℕ → Bool) → ℕ → ℕ → ℕ
first_from test zero k = k
first_from test (suc n) k = if test k then k else first_from test n (k + 1)

-- the first place of the part that has place n
abbrev pub first_of : (ℕ → ℕ) → ℕ → ℕ
first_of part n = first_from (λ m. part m == part n) n 0

-- the element of a place is sent at the first place of its part, where the part has one
abbrev pub is_sent : (ℕ → ℕ) → (ℕ → Bool) → ℕ → Bool
is_sent part has n = first_of part n == n && has n

-- What a place has where nothing is sent for it, behind those before it: what the first place of its part has. The first
-- place itself, which isn't among those before it, has none.
abbrev pub repeated : {A : Type 0} → (ℕ → ℕ) → A → List A → A
repeated part none before = slice_index_or before (first_of part (length before)) none

abbrev pub IsElement : {A : Type 0} → (ℕ → ℕ) → (ℕ → Bool) → A → (A → Type 0) → List A → A → Type 0
IsElement part has none Is before x = IsWhen (is_sent part has (length before)) (repeated part none before) Is x

abbrev pub element_text : {A : Type 0} → (ℕ → ℕ) → (ℕ → Bool) → (A → List Bool) → List A → A → List Bool
element_text part has text before x = when_text (is_sent part has (length before)) text x

abbrev pub and_next : {A : Type 0} → List A → A → List A
and_next before x = before ++ x ∷ []

-- the elements of so many places, one after another
abbrev pub AreElements : {A : Type 0} → ℕ → (ℕ → ℕ) → (ℕ → Bool) → A → (A → Type 0) → List A → Type 0
AreElements count part has none Is xs = AreTurns (IsElement part has none Is) and_next count [] xs

abbrev pub elements_text : {A : Type 0} → (ℕ → ℕ) → (ℕ → Bool) → (A → List Bool) → List A → List Bool
elements_text part has text xs = turns_text (element_text part has text) and_next [] xs
