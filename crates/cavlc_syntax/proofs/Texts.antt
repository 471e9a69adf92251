-- The text of a slice: no two lists have one, it fills bytes, ends in the stop bit, and rests on no column.
use Rattle.std.proofs.Common.{◌≡◌, ℕ, ◌+◌, ◌-◌, ◌%◌, ◌<◌, ◌≤◌, Bool, true, false, List, [], ◌∷◌, ◌++◌, length, replicate, refl, sym, ap, subst, ◌∙◌, append_assoc, length-append, arith}
use Rattle.std.proofs.lemmas.List.{length-replicate}
use Rattle.std.proofs.lemmas.List.Elements.{All-weaker}
use Rattle.h264_types.specs.declared.macroblock.Mb.{Mb}
use Rattle.h264_types.specs.declared.slice_shape.SliceShape.{SliceShape}
use Rattle.h264_types.specs.SliceShape.{without_column}
use Rattle.h264_types.proofs.ColumnLaws.{column_slice}
use Rattle.cavlc_macroblock.specs.Macroblock.{macroblock_text}
use Rattle.cavlc_macroblock.specs.MacroblockLayer.{layer_text}
use Rattle.cavlc_syntax.specs.SliceText.{IsNotBeyond, HasText, stop_text, run_text, last_run_text, coded_text, text_after, slice_text}
use Rattle.cavlc_syntax.proofs.Same.{same_text}
use Rattle.cavlc_syntax.proofs.TextParts.{end_text, text_end, text_skip, text_coded, text_by}

-- no bits are the text of two lists
pub one_list : (shape : SliceShape) (pos : ℕ) (xs ys : List Mb) → HasText shape xs → HasText shape ys → slice_text shape pos xs ≡ slice_text shape pos ys → xs ≡ ys
one_list shape pos xs ys p q e =
    same_text shape pos [] xs ys p q (λ half. refl) e

-- ---- the end of a text

abbrev Fills : ℕ → List Bool → Type 0
Fills n bits = (n + length bits) % 8 ≡ 0

end_fills : (n : ℕ) (last : List Bool) → Fills n (end_text n last)
end_fills n last = omega (arith, length-append last (stop_text (n + length last)), length-replicate (7 - (n + length last) % 8) false)

fills_behind : (n : ℕ) (text rest : List Bool) → Fills (n + length text) rest → Fills n (text ++ rest)
fills_behind n text rest h = omega (arith, h, length-append text rest)

text_fills : (shape : SliceShape) (n : ℕ) (before : List Mb) (run : ℕ) (mbs : List Mb) → Fills n (text_after shape n before run mbs)
text_fills shape =
    text_by (λ n before run mbs. Fills n (text_after shape n before run mbs)) shape
    (λ n before run. subst (Fills n) (sym (text_end shape n before run)) (end_fills n (last_run_text shape.kind run)))
    (λ n before run mb tail e h. subst (Fills n) (sym (text_skip shape n before run mb tail e)) h)
    (λ n before run mb tail e h. subst (Fills n) (sym (text_coded shape n before run mb tail e))
    (fills_behind n (run_text shape.kind run) _ (fills_behind (n + length (run_text shape.kind run)) (coded_text shape (n + length (run_text shape.kind run)) before mb) _ h)))

pub slice_fills : (shape : SliceShape) (pos : ℕ) (mbs : List Mb) → (pos + length (slice_text shape pos mbs)) % 8 ≡ 0
slice_fills shape pos mbs = text_fills shape pos [] 0 mbs

abbrev EndsInStop : List Bool → Type 0
EndsInStop bits = (front : List Bool) × (zeros : ℕ) × (zeros < 8) × (bits ≡ front ++ true ∷ replicate zeros false)

stops_behind : (text rest : List Bool) → EndsInStop rest → EndsInStop (text ++ rest)
stops_behind text rest h = (text ++ h.0, h.1, h.2, ap (λ l. text ++ l) h.3 ∙ sym (append_assoc text h.0 (true ∷ replicate h.1 false)))

text_stops : (shape : SliceShape) (n : ℕ) (before : List Mb) (run : ℕ) (mbs : List Mb) → EndsInStop (text_after shape n before run mbs)
text_stops shape =
    text_by (λ n before run mbs. EndsInStop (text_after shape n before run mbs)) shape
    (λ n before run.
    let last = last_run_text shape.kind run in
    subst EndsInStop (sym (text_end shape n before run)) (last, 7 - (n + length last) % 8, omega arith, refl))
    (λ n before run mb tail e h. subst EndsInStop (sym (text_skip shape n before run mb tail e)) h)
    (λ n before run mb tail e h. subst EndsInStop (sym (text_coded shape n before run mb tail e))
    (stops_behind (run_text shape.kind run) _ (stops_behind (coded_text shape (n + length (run_text shape.kind run)) before mb) _ h)))

pub slice_stops : (shape : SliceShape) (pos : ℕ) (mbs : List Mb) → EndsInStop (slice_text shape pos mbs)
slice_stops shape pos mbs = text_stops shape pos [] 0 mbs

-- ---- the shape

-- the text of a macroblock rests on no column
coded_column : (shape : SliceShape) (n : ℕ) (before : List Mb) (mb : Mb) → coded_text shape n before mb ≡ coded_text (without_column shape) n before mb
unfolding macroblock_text layer_text
coded_column shape n before mb = refl

text_column : (shape : SliceShape) (n : ℕ) (before : List Mb) (run : ℕ) (mbs : List Mb) → text_after shape n before run mbs ≡ text_after (without_column shape) n before run mbs
text_column shape =
    let other = without_column shape in
    text_by (λ n before run mbs. text_after shape n before run mbs ≡ text_after other n before run mbs) shape
    (λ n before run. text_end shape n before run ∙ sym (text_end other n before run))
    (λ n before run mb tail e h. text_skip shape n before run mb tail e ∙ h ∙ sym (text_skip other n before run mb tail e))
    (λ n before run mb tail e h.
    let first = run_text shape.kind run in
    let here = coded_text shape (n + length first) before mb in
    text_coded shape n before run mb tail e ∙ ap (λ l. first ++ (here ++ l)) h
    ∙ ap (λ t. first ++ (t ++ text_after other (n + length first + length t) (before ++ mb ∷ []) 0 tail)) (coded_column shape (n + length first) before mb)
    ∙ sym (text_coded other n before run mb tail e))

pub slice_of_both : (first second : SliceShape) (pos : ℕ) (mbs : List Mb) → without_column first ≡ without_column second → slice_text first pos mbs ≡ slice_text second pos mbs
slice_of_both first second pos mbs same =
    text_column first pos [] 0 mbs ∙ ap (λ (s : SliceShape). text_after s pos [] 0 mbs) same ∙ sym (text_column second pos [] 0 mbs)

-- the lists that have a text rest on no column, either
column_text : (shape : SliceShape) (column : ℕ) (mbs : List Mb) → column ≤ 3 → HasText shape mbs → HasText (record shape { column = column }) mbs
column_text shape column mbs h has =
    let other : SliceShape = record shape { column = column } in
    record {
      slice = column_slice shape column mbs h has.slice;
      within = All-weaker (IsNotBeyond shape) (IsNotBeyond other) (λ mb h. h) mbs has.within;
    }

pub lists_of_both : (first second : SliceShape) (mbs : List Mb) → without_column first ≡ without_column second → second.column ≤ 3 → HasText first mbs → HasText second mbs
lists_of_both first second mbs same h has =
    subst (λ (s : SliceShape). HasText s mbs) (ap (λ (s : SliceShape). record s { column = second.column }) same) (column_text first second.column mbs h has)
