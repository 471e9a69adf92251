-- Each step of a writer keeps the text.
use Rattle.std.proofs.Common.{◌≡◌, ℕ, ◌+◌, Bool, true, false, List, [], ◌∷◌, ◌++◌, length, sym, ap, subst, ◌∙◌, append_assoc, append-nil, length-append, arith}
use Rattle.std.specs.Prelude.{All, ◌%◌, ◌==◌, ◌&&◌, ◌||◌, nat_lt}
use Rattle.std.proofs.lemmas.Bool.Decides.{nat_tests}
use Rattle.std.proofs.lemmas.List.Elements.{All-head, All-tail}
use Rattle.bit_texts.specs.Texts.{Appended}
use Rattle.h264_types.specs.Kind.{is_skip}
use Rattle.h264_types.specs.Valid.{IsMacroblock}
use Rattle.h264_types.specs.declared.macroblock.Mb.{Mb}
use Rattle.h264_types.specs.declared.slice_shape.SliceShape.{SliceShape}
use Rattle.h264_types.specs.LastRows.{LastRows, AreRows}
use Rattle.cavlc_mb_residual.specs.Counts.{counts_of}
use Rattle.cavlc_mb_residual.specs.MacroblockResidual.{is_beyond_mb}
use Rattle.cavlc_mb_residual.specs.declared.counts.Around.{Around}
use Rattle.cavlc_mb_residual.specs.declared.counts.Counts.{Counts}
use Rattle.cavlc_macroblock.specs.Reading.{IsSent}
use Rattle.cavlc_syntax.specs.SliceText.{IsNotBeyond, prefix_bound, sends_field, around_next, stop_text, run_text, last_run_text, coded_text, put_text, text_after, slice_text}
use Rattle.cavlc_syntax.specs.Written.{Writes}
use Rattle.slice_data.specs.Writing.{BeginsSlice}
use Rattle.cavlc_macroblock.proofs.ValidLaws.{skipped_levels}
use Rattle.cavlc_syntax.proofs.Pairs.{is_last_skipped-push}
use Rattle.cavlc_syntax.proofs.Rows.{IsAroundNext}
use Rattle.cavlc_syntax.proofs.Members.{skipped_of, sent_20}
use Rattle.cavlc_syntax.proofs.TextParts.{text_end, text_skip, text_coded}

-- ---- what is put

some_run : (run : ℕ) → nat_lt 0 (run + 1) ≡ true
some_run run = grind (arith, nat_tests)

pub put_skipped : (kept : SliceShape) (rows rows' : LastRows Counts) (run : ℕ) (bits : List Bool) (shape : SliceShape) (before : List Bool) (done : List Mb) (mb : Mb) → Writes kept rows run bits shape before done
    → is_skip mb.kind ≡ true → AreRows counts_of shape rows' (done ++ mb ∷ []) → Writes kept rows' (run + 1) bits shape before (done ++ mb ∷ [])
put_skipped kept rows rows' run bits shape before done mb w skips rows_are = record {
  of = w.of;
  is_shape = w.is_shape;
  rows_are = rows_are;
  few = omega (arith, w.few, w.rows_are.counted, rows_are.counted, length-append done (mb ∷ []));
  last = is_last_skipped-push done mb ∙ skips ∙ sym (some_run run);
  text = λ tail.
      ap (λ l. before ++ slice_text shape (length before) l) (append_assoc done (mb ∷ []) tail) ∙ w.text (mb ∷ tail) ∙ ap (λ l. bits ++ l) (text_skip shape (length bits) done run mb tail skips);
}

pub put_one : (kept : SliceShape) (rows rows' : LastRows Counts) (run : ℕ) (bits new : List Bool) (shape : SliceShape) (before : List Bool) (done : List Mb) (mb : Mb) → Writes kept rows run bits shape before done
    → is_skip mb.kind ≡ false → Appended bits new (put_text shape (sends_field shape done) (around_next shape mb.field done) (length bits) run mb) → AreRows counts_of shape rows' (done ++ mb ∷ []) → Writes kept rows' 0 new shape before (done ++ mb ∷ [])
put_one kept rows rows' run bits new shape before done mb w sent put rows_are =
    let first = run_text shape.kind run in
    let here = coded_text shape (length bits + length first) done mb in
    let far : length new ≡ length bits + length first + length here = omega (arith, ap length put.is, length-append bits (first ++ here), length-append first here) in
    let rest : ℕ → List Mb → List Bool = λ n tail. text_after shape n (done ++ mb ∷ []) 0 tail in
    record {
      of = w.of;
      is_shape = w.is_shape;
      rows_are = rows_are;
      few = omega arith;
      last = is_last_skipped-push done mb ∙ sent;
      text = λ tail.
          ap (λ l. before ++ slice_text shape (length before) l) (append_assoc done (mb ∷ []) tail) ∙ w.text (mb ∷ tail)
          ∙ ap (λ l. bits ++ l) (text_coded shape (length bits) done run mb tail sent ∙ sym (append_assoc first here (rest (length bits + length first + length here) tail)))
          ∙ sym (append_assoc bits (first ++ here) (rest (length bits + length first + length here) tail))
          ∙ ap (λ l. l ++ rest (length bits + length first + length here) tail) (sym put.is) ∙ ap (λ n. new ++ rest n tail) (sym far);
    }

pub put_end : (kept : SliceShape) (rows : LastRows Counts) (run : ℕ) (bits mid new : List Bool) (shape : SliceShape) (before : List Bool) (done : List Mb) → Writes kept rows run bits shape before done
    → Appended bits mid (last_run_text kept.kind run) → Appended mid new (stop_text (length mid)) → new ≡ before ++ slice_text shape (length before) done
put_end kept rows run bits mid new shape before done w last stop =
    let end = last_run_text shape.kind run in
    let put : Appended bits mid end = subst (λ (s : SliceShape). Appended bits mid (last_run_text s.kind run)) w.of last in
    let far : length mid ≡ length bits + length end = ap length put.is ∙ length-append bits end in
    stop.is ∙ ap (λ l. l ++ stop_text (length mid)) put.is ∙ append_assoc bits end (stop_text (length mid)) ∙ ap (λ n. bits ++ (end ++ stop_text n)) far ∙ ap (λ l. bits ++ l) (sym (text_end shape (length bits) done run))
    ∙ sym (w.text []) ∙ ap (λ l. before ++ slice_text shape (length before) l) (append-nil done)

-- ---- a macroblock that may be put

all_last : {A : Type 0} (P : A → Type 0) (xs : List A) (x : A) (ys : List A) → All P ((xs ++ x ∷ []) ++ ys) → P x
all_last P [] x ys h = All-head P x ys h
all_last P (y ∷ xs) x ys h = all_last P xs x ys (All-tail P y ((xs ++ x ∷ []) ++ ys) h)

-- it has a text, whatever the bound, in the shape that the writer keeps
pub may_sent : (kept : SliceShape) (rows : LastRows Counts) (run : ℕ) (bits : List Bool) (shape : SliceShape) (before : List Bool) (done : List Mb) (mb : Mb) → Writes kept rows run bits shape before done
    → BeginsSlice shape (done ++ mb ∷ []) → is_skip mb.kind ≡ false → IsSent kept mb.field 20 mb
may_sent kept rows run bits shape before done mb w begins sent =
    subst (λ (s : SliceShape). IsSent s mb.field 20 mb) (sym w.of) (sent_20 shape mb sent (all_last (IsMacroblock shape) done mb begins.0 begins.1.macroblocks))

-- a skipped one has no level
pub may_skip : (shape other : SliceShape) (done : List Mb) (mb : Mb) → BeginsSlice shape (done ++ mb ∷ []) → is_skip mb.kind ≡ true → IsNotBeyond other mb
may_skip shape other done mb begins skips =
    let is = skipped_of shape mb skips (all_last (IsMacroblock shape) done mb begins.0 begins.1.macroblocks) in
    ap (is_beyond_mb (prefix_bound other)) is.elements ∙ (skipped_levels mb.field (prefix_bound other)).1

-- ---- the shape that a writer keeps

pub put_beyond : (kept shape : SliceShape) (bound : ℕ) (mb : Mb) (b : Bool) → kept ≡ shape → bound ≡ prefix_bound kept → b ≡ is_beyond_mb bound mb → is_beyond_mb (prefix_bound shape) mb ≡ b
put_beyond kept shape bound mb b of e f = ap (λ (s : SliceShape). is_beyond_mb (prefix_bound s) mb) (sym of) ∙ ap (λ n. is_beyond_mb n mb) (sym e) ∙ sym f

-- whether the flag is sent, by what the writer keeps
abbrev pub kept_sends : SliceShape → LastRows Counts → ℕ → Bool
kept_sends kept rows run = kept.mbaff && (rows.count % 2 == 0 || nat_lt 0 run)

put_sends : (kept : SliceShape) (rows : LastRows Counts) (run : ℕ) (bits : List Bool) (shape : SliceShape) (before : List Bool) (done : List Mb) → Writes kept rows run bits shape before done → kept_sends kept rows run ≡ sends_field shape done
put_sends kept rows run bits shape before done w =
    ap (λ (s : SliceShape). kept_sends s rows run) w.of ∙ ap (λ n. shape.mbaff && (n % 2 == 0 || nat_lt 0 run)) w.rows_are.counted ∙ ap (λ b. shape.mbaff && (length done % 2 == 0 || b)) (sym w.last)

-- the text that is put, in the words of the shape that a writer stands for
pub put_around : (kept : SliceShape) (rows : LastRows Counts) (run : ℕ) (bits : List Bool) (shape : SliceShape) (before : List Bool) (done : List Mb) (mb : Mb) (sends : Bool) (around : Around) → Writes kept rows run bits shape before done
    → sends ≡ kept_sends kept rows run → IsAroundNext kept rows mb.field around → put_text kept sends around (length bits) run mb ≡ put_text shape (sends_field shape done) (around_next shape mb.field done) (length bits) run mb
put_around kept rows run bits shape before done mb sends around w sends_is is =
    let rows_are : AreRows counts_of kept rows done = subst (λ (s : SliceShape). AreRows counts_of s rows done) (sym w.of) w.rows_are in
    ap (λ b. put_text kept b around (length bits) run mb) (sends_is ∙ put_sends kept rows run bits shape before done w) ∙ ap (λ (a : Around). put_text kept (sends_field shape done) a (length bits) run mb) (is done rows_are)
    ∙ ap (λ (s : SliceShape). put_text s (sends_field shape done) (around_next s mb.field done) (length bits) run mb) w.of
