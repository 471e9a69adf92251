-- The words of a text, one after another.
use Rattle.std.proofs.Common.{◌≡◌, ℕ, ◌+◌, ◌<◌, ◌≤◌, Bool, true, false, not, cond, List, [], ◌∷◌, length, take, drop, filter, get_or, position, Option, Some, None, MatchOption, nat_lt, add-zero, refl, sym, ap, ◌∙◌, arith}
use Rattle.std.specs.List.{position_or_len}
use Rattle.std.proofs.lemmas.Grind.{common_steps}
use Rattle.std.proofs.lemmas.Bool.{ltb-true, ltb-false}
use Rattle.std.proofs.lemmas.List.{take_all, drop_all, length-drop, get_or-drop}
use Rattle.std.proofs.lemmas.List.Sums.{passes_at_first}
use Rattle.init_table.specs.TableText.{is_blank, is_word, parts, words}

abbrev other : ℕ → Bool
other byte = not (is_blank byte)

drop-more : (n byte : ℕ) (bytes : List ℕ) → drop (1 + n) (byte ∷ bytes) ≡ drop n bytes
drop-more n byte bytes = grind (arith, common_steps)

take-more : (n byte : ℕ) (bytes : List ℕ) → take (1 + n) (byte ∷ bytes) ≡ byte ∷ take n bytes
take-more n byte bytes = grind (arith, common_steps)

-- the blanks in front of a text take no part in its words
words-behind_blanks : (text : List ℕ) → words text ≡ words (drop (position_or_len other text) text)
words-behind_blanks [] = refl
words-behind_blanks (byte ∷ bytes) = by (is_blank byte) refl (words-behind_blanks bytes)
  where
    by : (b : Bool) → is_blank byte ≡ b → words bytes ≡ words (drop (position_or_len other bytes) bytes)
        → words (byte ∷ bytes) ≡ words (drop (position_or_len other (byte ∷ bytes)) (byte ∷ bytes))
    by true is same = rw is (same ∙ ap words (sym (drop-more (position_or_len other bytes) byte bytes)))
    by false is same =
        let none : drop (position_or_len other (byte ∷ bytes)) (byte ∷ bytes) ≡ byte ∷ bytes = rw is refl in
        ap words (sym none)

-- the parts behind a first one that ended: none at the text's end
abbrev parts_behind : List ℕ → List (List ℕ)
parts_behind [] = []
parts_behind (blank ∷ bytes) = parts bytes

-- the first part of a text ends at its first blank
parts-at_blank : (text : List ℕ) → parts text ≡ take (position_or_len is_blank text) text ∷ parts_behind (drop (position_or_len is_blank text) text)
parts-at_blank [] = refl
parts-at_blank (byte ∷ bytes) = by (is_blank byte) refl (parts-at_blank bytes)
  where
    by : (b : Bool) → is_blank byte ≡ b → parts bytes ≡ take (position_or_len is_blank bytes) bytes ∷ parts_behind (drop (position_or_len is_blank bytes) bytes)
        → parts (byte ∷ bytes) ≡ take (position_or_len is_blank (byte ∷ bytes)) (byte ∷ bytes) ∷ parts_behind (drop (position_or_len is_blank (byte ∷ bytes)) (byte ∷ bytes))
    by true is rest = rw is refl
    by false is rest = rw is (rw rest (rw (take-more (position_or_len is_blank bytes) byte bytes) (rw (drop-more (position_or_len is_blank bytes) byte bytes) refl)))

-- where a text begins with a blank or ends, its words are those of the parts behind
words-behind : (text : List ℕ) → (0 < length text → is_blank (get_or text 0 0) ≡ true) → filter is_word (parts_behind text) ≡ words text
words-behind [] h = refl
words-behind (blank ∷ bytes) h = rw (h (omega arith)) refl

-- a text up to its first blank, and from there on
behind_first : (text : List ℕ) → 0 < length (drop (position_or_len is_blank text) text) → is_blank (get_or (drop (position_or_len is_blank text) text) 0 0) ≡ true
behind_first [] h = absurd (omega (arith, h))
behind_first (byte ∷ bytes) h = by (is_blank byte) refl (behind_first bytes) h
  where
    by : (b : Bool) → is_blank byte ≡ b → (0 < length (drop (position_or_len is_blank bytes) bytes) → is_blank (get_or (drop (position_or_len is_blank bytes) bytes) 0 0) ≡ true)
        → 0 < length (drop (position_or_len is_blank (byte ∷ bytes)) (byte ∷ bytes)) → is_blank (get_or (drop (position_or_len is_blank (byte ∷ bytes)) (byte ∷ bytes)) 0 0) ≡ true
    by true is rest = rw is (λ h. is)
    by false is rest = rw is (rw (drop-more (position_or_len is_blank bytes) byte bytes) rest)

-- the words of a text whose first word comes at once
words-at_once : (text : List ℕ) → 0 < length text → is_blank (get_or text 0 0) ≡ false
    → words text ≡ take (position_or_len is_blank text) text ∷ words (drop (position_or_len is_blank text) text)
words-at_once [] some h = absurd (omega (arith, some))
words-at_once (byte ∷ bytes) some h =
    let n = position_or_len is_blank (byte ∷ bytes) in
    let long : n ≡ 1 + position_or_len is_blank bytes = rw h refl in
    let first : take n (byte ∷ bytes) ≡ byte ∷ take (position_or_len is_blank bytes) bytes = rw long (take-more (position_or_len is_blank bytes) byte bytes) in
    ap (filter is_word) (parts-at_blank (byte ∷ bytes))
    ∙ ap (λ part. filter is_word (part ∷ parts_behind (drop n (byte ∷ bytes)))) first
    ∙ ap (λ ws. (byte ∷ take (position_or_len is_blank bytes) bytes) ∷ ws) (words-behind (drop n (byte ∷ bytes)) (behind_first (byte ∷ bytes)))
    ∙ ap (λ part. part ∷ words (drop n (byte ∷ bytes))) (sym first)

-- the place of the first byte that passes
position-some : (p : ℕ → Bool) (text : List ℕ) (start : ℕ) → position p text ≡ Some start → (start ≡ position_or_len p text) × (position_or_len p text < length text)
position-some p text start h = by (nat_lt (position_or_len p text) (length text)) refl h
  where
    by : (b : Bool) → nat_lt (position_or_len p text) (length text) ≡ b → cond b (Some (position_or_len p text)) None ≡ Some start → (start ≡ position_or_len p text) × (position_or_len p text < length text)
    by true e h = (cc, ltb-true (position_or_len p text) (length text) e)
    by false e h = absurd (let bad : Some start ≡ None = sym h in cc)

position-none : (p : ℕ → Bool) (text : List ℕ) → position p text ≡ None → length text ≤ position_or_len p text
position-none p text h = by (nat_lt (position_or_len p text) (length text)) refl h
  where
    by : (b : Bool) → nat_lt (position_or_len p text) (length text) ≡ b → cond b (Some (position_or_len p text)) None ≡ None → length text ≤ position_or_len p text
    by true e h = absurd (let bad : Some (position_or_len p text) ≡ None = h in cc)
    by false e h = ltb-false (position_or_len p text) (length text) e

-- the text from its first byte on that is no blank has the same words, and begins with one
begins : (text : List ℕ) (start : ℕ) → position other text ≡ Some start
    → (words text ≡ words (drop start text)) × (0 < length (drop start text)) × (is_blank (get_or (drop start text) 0 0) ≡ false)
begins text start h =
    let at = position-some other text start h in
    let n = position_or_len other text in
    let first : other (get_or text n 0) ≡ true = passes_at_first other text 0 at.1 in
    let blank : is_blank (get_or text n 0) ≡ false = not-true (is_blank (get_or text n 0)) first in
    rw at.0 (words-behind_blanks text, omega (arith, length-drop n text, at.1), rw (get_or-drop n text 0 0) (rw (add-zero n) blank))
  where
    not-true : (b : Bool) → not b ≡ true → b ≡ false
    not-true true h = sym h
    not-true false h = refl

-- a text whose first word comes at a place, and ends at another one or with the text
pub words-first : (text : List ℕ) (start : ℕ) → position other text ≡ Some start → (rest : List ℕ) → rest ≡ drop start text
    → (end : Option ℕ) → position is_blank rest ≡ end → MatchOption end (words text ≡ rest ∷ []) (λ e. words text ≡ take e rest ∷ words (drop e rest))
words-first text start h rest is None none =
    let b = begins text start h in
    let past = position-none is_blank rest none in
    let once = words-at_once rest (rw is b.1) (rw is b.2) in
    b.0 ∙ ap words (sym is) ∙ once ∙ ap (λ w. w ∷ words (drop (position_or_len is_blank rest) rest)) (take_all (position_or_len is_blank rest) rest past)
    ∙ ap (λ r. rest ∷ words r) (drop_all (position_or_len is_blank rest) rest past)
words-first text start h rest is (Some end) some =
    let b = begins text start h in
    let at = position-some is_blank rest end some in
    rw at.0 (b.0 ∙ ap words (sym is) ∙ words-at_once rest (rw is b.1) (rw is b.2))

pub words-none : (text : List ℕ) → position other text ≡ None → words text ≡ []
words-none text h = words-behind_blanks text ∙ ap words (drop_all (position_or_len other text) text (position-none other text h))
