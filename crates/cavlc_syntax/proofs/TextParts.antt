-- The parts of a text of a slice from a place on.
use Rattle.std.proofs.Common.{◌≡◌, ℕ, zero, suc, ◌+◌, ◌-◌, ◌%◌, ◌<◌, Bool, true, false, List, [], ◌∷◌, ◌++◌, length, replicate, refl, sym, ap, subst, ◌∙◌, length-append, arith}
use Rattle.std.specs.List.{list_any}
use Rattle.bit_texts.specs.Bits.{more_data}
use Rattle.h264_types.specs.Kind.{is_skip}
use Rattle.h264_types.specs.declared.macroblock.Mb.{Mb}
use Rattle.h264_types.specs.declared.slice_shape.SliceShape.{SliceShape}
use Rattle.cavlc_macroblock.specs.Macroblock.{macroblock_text}
use Rattle.cavlc_macroblock.proofs.Layers.{text_some}
use Rattle.cavlc_syntax.specs.SliceText.{stop_text, run_text, last_run_text, field_text, sends_field, around_next, coded_text, text_after}

-- ---- a 1 bit behind other bits

pub one_behind : (xs ys : List Bool) → list_any (λ bit. bit) ys ≡ true → list_any (λ bit. bit) (xs ++ ys) ≡ true
one_behind [] ys h = h
one_behind (true ∷ xs) ys h = refl
one_behind (false ∷ xs) ys h = one_behind xs ys h

pub more_behind : (xs ys : List Bool) → 0 < length xs → list_any (λ bit. bit) ys ≡ true → more_data (xs ++ ys) ≡ true
more_behind [] ys some h = absurd (omega arith)
more_behind (x ∷ xs) ys some h = one_behind xs ys h

zeros_only : (k : ℕ) → list_any (λ bit. bit) (replicate k false) ≡ false
zeros_only zero = refl
zeros_only (suc k) = zeros_only k

pub stop_no_more : (n : ℕ) → more_data (stop_text n) ≡ false
stop_no_more n = zeros_only (7 - n % 8)

-- ---- the parts of a text

-- the text of a macroblock that isn't skipped and of those behind it
abbrev pub coded_after : SliceShape → List Mb → Mb → List Mb → ℕ → List Bool
coded_after shape before mb tail n =
    let text = coded_text shape n before mb in
    text ++ text_after shape (n + length text) (before ++ mb ∷ []) 0 tail

-- the same, by whether the flag is sent, and the flag
abbrev pub sent_after : SliceShape → Bool → Bool → List Mb → Mb → List Mb → ℕ → List Bool
sent_after shape sends field before mb tail n =
    let text = field_text sends field ++ macroblock_text shape (around_next shape field before) (n + length (field_text sends field)) mb in
    text ++ text_after shape (n + length text) (before ++ mb ∷ []) 0 tail

-- the same, behind the flag
abbrev pub body_after : SliceShape → Bool → List Mb → Mb → List Mb → ℕ → List Bool
body_after shape field before mb tail n =
    let text = macroblock_text shape (around_next shape field before) n mb in
    text ++ text_after shape (n + length text) (before ++ mb ∷ []) 0 tail

pub without_flag : (shape : SliceShape) (field : Bool) (before : List Mb) (mb : Mb) (tail : List Mb) (n : ℕ) → sent_after shape false field before mb tail n ≡ body_after shape field before mb tail n
without_flag shape field before mb tail n =
    let same : n + 0 ≡ n = omega arith in
    ap (λ k.
    let text = macroblock_text shape (around_next shape field before) k mb in
    text ++ text_after shape (n + length text) (before ++ mb ∷ []) 0 tail) same

pub with_flag : (shape : SliceShape) (field : Bool) (before : List Mb) (mb : Mb) (tail : List Mb) (n : ℕ) → sent_after shape true field before mb tail n ≡ field ∷ body_after shape field before mb tail (n + 1)
with_flag shape field before mb tail n =
    let text = macroblock_text shape (around_next shape field before) (n + 1) mb in
    let same : n + length (field ∷ text) ≡ n + 1 + length text = omega arith in
    ap (λ k. field ∷ (text ++ text_after shape k (before ++ mb ∷ []) 0 tail)) same

-- the flag and the macroblock are some bits
pub coded_some : (shape : SliceShape) (n : ℕ) (before : List Mb) (mb : Mb) → 0 < length (coded_text shape n before mb)
coded_some shape n before mb =
    let flag = field_text (sends_field shape before) mb.field in
    let text = macroblock_text shape (around_next shape mb.field before) (n + length flag) mb in
    omega (arith, length-append flag text, text_some shape (around_next shape mb.field before) (n + length flag) mb)

-- the text, with the mb_skip_run before it
abbrev pub run_after : SliceShape → List Mb → Mb → List Mb → ℕ → ℕ → List Bool
run_after shape before mb tail n run = run_text shape.kind run ++ coded_after shape before mb tail (n + length (run_text shape.kind run))

abbrev pub end_text : ℕ → List Bool → List Bool
end_text n last = last ++ stop_text (n + length last)

pub text_end : (shape : SliceShape) (n : ℕ) (before : List Mb) (run : ℕ) → text_after shape n before run [] ≡ end_text n (last_run_text shape.kind run)
unfolding text_after
text_end shape n before run = refl

pub text_no_run : (shape : SliceShape) (n : ℕ) (before : List Mb) → text_after shape n before 0 [] ≡ stop_text n
text_no_run shape n before = let e : n + 0 ≡ n = omega arith in text_end shape n before 0 ∙ ap stop_text e

pub text_skip : (shape : SliceShape) (n : ℕ) (before : List Mb) (run : ℕ) (mb : Mb) (tail : List Mb) → is_skip mb.kind ≡ true → text_after shape n before run (mb ∷ tail) ≡ text_after shape n (before ++ mb ∷ []) (run + 1) tail
unfolding text_after
text_skip shape n before run mb tail e = rw e refl

pub text_coded : (shape : SliceShape) (n : ℕ) (before : List Mb) (run : ℕ) (mb : Mb) (tail : List Mb) → is_skip mb.kind ≡ false → text_after shape n before run (mb ∷ tail) ≡ run_after shape before mb tail n run
unfolding text_after
text_coded shape n before run mb tail e = rw e refl

-- what holds of the text of the end, and of the text of each further macroblock where it holds of those behind it
pub text_by : (P : ℕ → List Mb → ℕ → List Mb → Type 0) (shape : SliceShape)
    → ((n : ℕ) (before : List Mb) (run : ℕ) → P n before run [])
    → ((n : ℕ) (before : List Mb) (run : ℕ) (mb : Mb) (tail : List Mb) → is_skip mb.kind ≡ true → P n (before ++ mb ∷ []) (run + 1) tail → P n before run (mb ∷ tail))
    → ((n : ℕ) (before : List Mb) (run : ℕ) (mb : Mb) (tail : List Mb) → is_skip mb.kind ≡ false
    → P (n + length (run_text shape.kind run) + length (coded_text shape (n + length (run_text shape.kind run)) before mb)) (before ++ mb ∷ []) 0 tail → P n before run (mb ∷ tail))
    → (n : ℕ) (before : List Mb) (run : ℕ) (mbs : List Mb) → P n before run mbs
text_by P shape end skip coded n before run [] = end n before run
text_by P shape end skip coded n before run (mb ∷ tail) =
    let first = run_text shape.kind run in
    by (is_skip mb.kind) refl (text_by P shape end skip coded n (before ++ mb ∷ []) (run + 1) tail)
    (text_by P shape end skip coded (n + length first + length (coded_text shape (n + length first) before mb)) (before ++ mb ∷ []) 0 tail)
  where
    by : (b : Bool) → is_skip mb.kind ≡ b → P n (before ++ mb ∷ []) (run + 1) tail
        → P (n + length (run_text shape.kind run) + length (coded_text shape (n + length (run_text shape.kind run)) before mb)) (before ++ mb ∷ []) 0 tail → P n before run (mb ∷ tail)
    by true e h k = skip n before run mb tail e h
    by false e h k = coded n before run mb tail e k

abbrev pub HasOne : List Bool → Type 0
HasOne bits = list_any (λ bit. bit) bits ≡ true

pub text_has_one : (shape : SliceShape) (n : ℕ) (before : List Mb) (run : ℕ) (mbs : List Mb) → HasOne (text_after shape n before run mbs)
text_has_one shape =
    text_by (λ n before run mbs. HasOne (text_after shape n before run mbs)) shape
    (λ n before run. subst HasOne (sym (text_end shape n before run)) (one_behind (last_run_text shape.kind run) _ refl))
    (λ n before run mb tail e h. subst HasOne (sym (text_skip shape n before run mb tail e)) h)
    (λ n before run mb tail e h. subst HasOne (sym (text_coded shape n before run mb tail e)) (one_behind (run_text shape.kind run) _ (one_behind (coded_text shape (n + length (run_text shape.kind run)) before mb) _ h)))
