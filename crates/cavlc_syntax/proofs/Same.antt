-- No bits are the text of two lists.
use Rattle.std.proofs.Common.{◌≡◌, ℕ, zero, suc, ◌+◌, ◌≤◌, Bool, true, false, List, [], ◌∷◌, ◌++◌, length, refl, sym, ap, subst, ◌∙◌, append_assoc, length-append, arith}
use Rattle.std.specs.Prelude.{All}
use Rattle.bit_texts.specs.Bits.{more_data}
use Rattle.bit_texts.specs.Cursor.{Cursor, cursor}
use Rattle.bit_texts.specs.Texts.{IsPrefixFree}
use Rattle.bit_texts.proofs.Inverting.{some_is}
use Rattle.bit_texts.proofs.Reading.{same_rest}
use Rattle.h264_types.specs.Kind.{is_skip}
use Rattle.h264_types.specs.SliceShape.{IsSliceShape}
use Rattle.h264_types.specs.declared.macroblock.Mb.{Mb}
use Rattle.h264_types.specs.declared.slice_shape.SliceShape.{SliceShape}
use Rattle.cavlc_mb_residual.specs.declared.counts.Around.{Around}
use Rattle.cavlc_macroblock.specs.Macroblock.{skipped, macroblock_text}
use Rattle.cavlc_macroblock.specs.Reading.{IsSent}
use Rattle.cavlc_macroblock.proofs.Layers.{IsPrefixFree-macroblock}
use Rattle.cavlc_syntax.specs.Reading.{IsRead}
use Rattle.cavlc_syntax.specs.SliceText.{HasText, prefix_bound, around_next, run_text, text_after}
use Rattle.cavlc_syntax.specs.Standing.{IsBehindRun, IsFlagged, IsBehindSkipped}
use Rattle.cavlc_syntax.proofs.Flags.{IsTopCoded, to_behind, skipped_ahead, ahead_more}
use Rattle.cavlc_syntax.proofs.Members.{sent_of, skipped_of_read, bound_most, read_next, all_read, all_behind}
use Rattle.cavlc_syntax.proofs.Pairs.{is_last_skipped-push}
use Rattle.cavlc_syntax.proofs.Runs.{run_same, no_stop, text_first}
use Rattle.cavlc_syntax.proofs.TextParts.{stop_no_more, text_no_run}

-- the macroblocks that are read with one pair flag
pub sent_with : (shape : SliceShape) (field : Bool) (mb : Mb) → IsRead shape mb → is_skip mb.kind ≡ false → mb.field ≡ field → IsSent shape field (prefix_bound shape) mb
sent_with shape field mb is sent same = subst (λ (b : Bool). IsSent shape b (prefix_bound shape) mb) same (sent_of shape mb is sent)

-- no text of a macroblock begins another one
pub no_other : (shape : SliceShape) (field : Bool) (around : Around) (pos : ℕ) → IsSliceShape shape → IsPrefixFree (IsSent shape field (prefix_bound shape)) (macroblock_text shape around pos)
no_other shape field around pos is = IsPrefixFree-macroblock shape field around (prefix_bound shape) pos is (bound_most shape)

few : (shape : SliceShape) (known tail : List Mb) → HasText shape (known ++ tail) → length tail ≤ 4294967294
few shape known tail has = omega (arith, has.slice.inside, has.slice.is_shape.size, length-append known tail)

read_behind : (shape : SliceShape) (known tail : List Mb) → HasText shape (known ++ tail) → All (IsRead shape) tail
read_behind shape known tail has = all_behind (IsRead shape) known tail (all_read shape (known ++ tail) has)

-- the text of the list with one more known
further : (shape : SliceShape) (known : List Mb) (mb : Mb) (tail : List Mb) → HasText shape (known ++ mb ∷ tail) → HasText shape ((known ++ mb ∷ []) ++ tail)
further shape known mb tail has = subst (HasText shape) (sym (append_assoc known (mb ∷ []) tail)) has

same_heads : (x y : Mb) (xs ys : List Mb) → x ≡ y → xs ≡ ys → x ∷ xs ≡ y ∷ ys
same_heads x y xs ys e f = cc

-- lists with the same text, where those are the same that go on behind the same mb_skip_run
same_after : (shape : SliceShape) (n : ℕ) (known xs ys : List Mb) → HasText shape (known ++ xs) → HasText shape (known ++ ys) → IsTopCoded shape known
    → ((count : ℕ) (d : Cursor) → IsBehindSkipped shape known count d xs → IsBehindSkipped shape known count d ys → xs ≡ ys)
    → text_after shape n known 0 xs ≡ text_after shape n known 0 ys → xs ≡ ys
same_after shape n known [] [] p q coded behind e = refl
same_after shape n known [] (y ∷ ys) p q coded behind e = absurd (no_stop shape n known y ys (read_behind shape known (y ∷ ys) q) (sym (text_no_run shape n known) ∙ e))
same_after shape n known (x ∷ xs) [] p q coded behind e = absurd (no_stop shape n known x xs (read_behind shape known (x ∷ xs) p) (sym (text_no_run shape n known) ∙ sym e))
same_after shape n known (x ∷ xs) (y ∷ ys) p q coded behind e =
    let f = text_first shape n known x xs (read_behind shape known (x ∷ xs) p) in
    let g = text_first shape n known y ys (read_behind shape known (y ∷ ys) q) in
    let same = run_same shape.kind f.count g.count f.rest g.rest (omega (arith, f.few, few shape known (x ∷ xs) p)) (omega (arith, g.few, few shape known (y ∷ ys) q)) f.may g.may (sym f.parts ∙ e ∙ g.parts) in
    let other : IsBehindRun shape known f.count (cursor (n + length (run_text shape.kind f.count)) f.rest) (y ∷ ys) =
    subst (λ (l : List Bool). IsBehindRun shape known f.count (cursor (n + length (run_text shape.kind f.count)) l) (y ∷ ys)) (sym same.1)
    (subst (λ (k : ℕ). IsBehindRun shape known k (cursor (n + length (run_text shape.kind k)) g.rest) (y ∷ ys)) (sym same.0) g.behind) in
    let d : Cursor = cursor (n + length (run_text shape.kind f.count)) f.rest in
    behind f.count d (to_behind shape known f.count d (x ∷ xs) p coded f.behind) (to_behind shape known f.count d (y ∷ ys) q coded other)

-- the same macroblock stands behind the same flag, and the same bits behind it
abbrev SameNext : SliceShape → List Mb → Cursor → Mb → Mb → List Mb → List Mb → Bool → Type 0
SameNext shape known d x y xs ys field =
    let text = macroblock_text shape (around_next shape field known) d.taken in
    (x ≡ y) × (text_after shape (d.taken + length (text x)) (known ++ x ∷ []) 0 xs ≡ text_after shape (d.taken + length (text x)) (known ++ x ∷ []) 0 ys)

same_flagged : (shape : SliceShape) (known : List Mb) (field : Bool) (d : Cursor) (x y : Mb) (xs ys : List Mb) → HasText shape (known ++ x ∷ xs) → HasText shape (known ++ y ∷ ys)
    → IsFlagged shape known field d (x ∷ xs) → IsFlagged shape known field d (y ∷ ys) → SameNext shape known d x y xs ys field
same_flagged shape known field d x y xs ys p q left right =
    let around = around_next shape field known in
    let text = macroblock_text shape around d.taken in
    let one = sent_with shape field x (read_next shape known x xs p) left.0 left.1 in
    let two = sent_with shape field y (read_next shape known y ys q) right.0 right.1 in
    let same = same_rest (IsSent shape field (prefix_bound shape)) text (no_other shape field around d.taken p.slice.is_shape) x y _ _ one two (sym left.2 ∙ right.2) in
    (same.0, same.1 ∙ ap (λ z. text_after shape (d.taken + length (text z)) (known ++ z ∷ []) 0 ys) (sym same.0))

coded_top : (shape : SliceShape) (known : List Mb) (mb : Mb) → is_skip mb.kind ≡ false → IsTopCoded shape (known ++ mb ∷ [])
coded_top shape known mb sent half = is_last_skipped-push known mb ∙ sent

no_end : (shape : SliceShape) (known : List Mb) (d : Cursor) (mb : Mb) (tail : List Mb) → IsBehindSkipped shape known 0 d [] → IsBehindSkipped shape known 0 d (mb ∷ tail) → ⊥
no_end shape known d mb tail left right =
    let some : more_data d.left ≡ true = ahead_more shape known d mb tail right in
    let none : more_data d.left ≡ false = ap more_data left.1 ∙ stop_no_more d.taken in
    absurd cc

same_behind : (shape : SliceShape) (known : List Mb) (count : ℕ) (d : Cursor) (xs ys : List Mb) → HasText shape (known ++ xs) → HasText shape (known ++ ys)
    → IsBehindSkipped shape known count d xs → IsBehindSkipped shape known count d ys → xs ≡ ys
unfolding IsBehindRun
same_behind shape known zero d [] [] p q left right = refl
same_behind shape known zero d [] (y ∷ ys) p q left right = absurd (no_end shape known d y ys left right)
same_behind shape known zero d (x ∷ xs) [] p q left right = absurd (no_end shape known d x xs right left)
same_behind shape known zero d (x ∷ xs) (y ∷ ys) p q left right =
    let flags = some_is (left.0, left.1) (right.0, right.1) (sym left.2 ∙ right.2) in
    let other : IsFlagged shape known left.0 left.1 (y ∷ ys) = subst (λ (f : Bool × Cursor). IsFlagged shape known f.0 f.1 (y ∷ ys)) (sym flags) right.3 in
    let same = same_flagged shape known left.0 left.1 x y xs ys p q left.3 other in
    let now = known ++ x ∷ [] in
    let p' = further shape known x xs p in
    let q' = subst (λ (z : Mb). HasText shape ((known ++ z ∷ []) ++ ys)) (sym same.0) (further shape known y ys q) in
    same_heads x y xs ys same.0
    (same_after shape (left.1.taken + length (macroblock_text shape (around_next shape left.0 known) left.1.taken x)) now xs ys p' q' (coded_top shape known x left.3.0)
    (λ count c l r. same_behind shape now count c xs ys p' q' l r) same.1)
same_behind shape known (suc count) d [] ys p q left right = absurd left
same_behind shape known (suc count) d (x ∷ xs) [] p q left right = absurd right
same_behind shape known (suc count) d (x ∷ xs) (y ∷ ys) p q left right =
    let a = skipped_ahead shape known x count d xs p left.0 left.1 in
    let b = skipped_ahead shape known y count d ys q right.0 right.1 in
    let flags = some_is (x.field, a.0) (y.field, b.0) (sym a.1 ∙ b.1) in
    let one = skipped_of_read shape x (read_next shape known x xs p) left.0 in
    let two = skipped_of_read shape y (read_next shape known y ys q) right.0 in
    let heads : x ≡ y = one.elements ∙ ap (λ (f : Bool × Cursor). skipped f.0) flags ∙ sym two.elements in
    let now = known ++ x ∷ [] in
    let other : IsBehindSkipped shape now count a.0 ys =
    subst (λ (z : Mb). IsBehindSkipped shape (known ++ z ∷ []) count a.0 ys) (sym heads)
    (subst (λ (f : Bool × Cursor). IsBehindSkipped shape (known ++ y ∷ []) count f.1 ys) (sym flags) b.2) in
    same_heads x y xs ys heads
    (same_behind shape now count a.0 xs ys (further shape known x xs p) (subst (λ (z : Mb). HasText shape ((known ++ z ∷ []) ++ ys)) (sym heads) (further shape known y ys q)) a.2 other)

-- no bits are the text of two lists, from a place on where no top alone is skipped
pub same_text : (shape : SliceShape) (n : ℕ) (known xs ys : List Mb) → HasText shape (known ++ xs) → HasText shape (known ++ ys) → IsTopCoded shape known
    → text_after shape n known 0 xs ≡ text_after shape n known 0 ys → xs ≡ ys
same_text shape n known xs ys p q coded e = same_after shape n known xs ys p q coded (λ count d l r. same_behind shape known count d xs ys p q l r) e
