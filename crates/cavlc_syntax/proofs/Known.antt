-- Each step of a reader keeps what is known, and a refusal shows that no list has the bits.
use Rattle.std.proofs.Common.{◌≡◌, ◌⊎◌, inl, inr, ℕ, zero, suc, ◌+◌, ◌-◌, ◌*◌, ◌/◌, ◌%◌, ◌<◌, ◌≤◌, Bool, true, false, List, [], ◌∷◌, ◌++◌, length, Option, None, Some, refl, sym, ap, subst, ◌∙◌, append_assoc, append-nil, length-append, arith}
use Rattle.std.specs.Prelude.{All}
use Rattle.std.proofs.lemmas.List.Elements.{All-push}
use Rattle.bit_texts.specs.Bits.{more_data}
use Rattle.bit_texts.specs.Cursor.{Cursor}
use Rattle.bit_texts.proofs.Inverting.{some_is}
use Rattle.bit_texts.proofs.Reading.{same_rest}
use Rattle.h264_types.proofs.SliceLaws.{inferred_field-append}
use Rattle.h264_types.specs.LastRows.{LastRows, AreRows}
use Rattle.h264_types.specs.Slice.{inferred_field}
use Rattle.h264_types.specs.Valid.{is_kind_in}
use Rattle.h264_types.specs.declared.macroblock.Mb.{Mb}
use Rattle.h264_types.specs.declared.macroblock.MbKind.TheVariants.{Skip}
use Rattle.h264_types.specs.declared.slice_shape.SliceShape.{SliceShape}
use Rattle.slice_data.specs.Reading.{AreGiven}
use Rattle.cavlc_mb_residual.specs.Counts.{counts_of}
use Rattle.cavlc_mb_residual.specs.declared.counts.Around.{Around}
use Rattle.cavlc_mb_residual.specs.declared.counts.Counts.{Counts}
use Rattle.cavlc_macroblock.specs.Macroblock.{skipped, macroblock_text}
use Rattle.cavlc_macroblock.specs.Reading.{IsSent, ReadsMacroblock}
use Rattle.cavlc_macroblock.proofs.ValidLaws.{sent_field}
use Rattle.cavlc_syntax.specs.Reading.{run_at, next_field, IsRead}
use Rattle.cavlc_syntax.specs.SliceText.{HasText, is_bottom, last_field, prefix_bound, around_next, stop_text, text_after, slice_text, IsText, NoList}
use Rattle.cavlc_syntax.specs.Standing.{IsFlagged, IsAheadOfFlag, IsAhead, IsBehindRun, IsBehindSkipped, IsOfRun, Remains, left_of, Knows, Stands}
use Rattle.cavlc_syntax.proofs.Flags.{next_bottom, next_inferred, to_behind, from_behind, skipped_ahead, skipped_back, ahead_more}
use Rattle.cavlc_syntax.proofs.Rows.{IsAroundNext, Keeps}
use Rattle.cavlc_syntax.proofs.Members.{skipped_of_read, all_read, all_behind, read_next, read_text, half_text}
use Rattle.cavlc_syntax.proofs.Pairs.{bottom_is, top_by, last_field-push, is_last_skipped-push, slice_whole, pairs_push}
use Rattle.cavlc_syntax.proofs.Runs.{MaySkip, run_takes, run_reads, text_first, first_back, text_more}
use Rattle.cavlc_syntax.proofs.Same.{sent_with, no_other}
use Rattle.cavlc_syntax.proofs.TextParts.{stop_no_more, text_no_run}

-- to show a fact of the shape that a reader stands for, show it of the one that it keeps
by_kept : (kept : SliceShape) (rows : LastRows Counts) (field : Bool) (run : Option ℕ) (Is : SliceShape → List Mb → Type 0) (P : SliceShape → Type 0) (shape : SliceShape) (pos : ℕ) (all : List Bool) (done : List Mb)
    → (Knows kept pos all done run (Is kept) → AreRows counts_of kept rows done → field ≡ last_field done → P kept) → Stands kept rows field run (Is shape) shape pos all done → P shape
by_kept kept rows field run Is P shape pos all done of_kept s =
    let known : Knows kept pos all done run (Is kept) = subst (λ (x : SliceShape). Knows x pos all done run (Is x)) (sym s.of) s.knows in
    let rows_are : AreRows counts_of kept rows done = subst (λ (x : SliceShape). AreRows counts_of x rows done) (sym s.of) s.rows_are in
    subst (λ (x : SliceShape). P x) s.of (of_kept known rows_are s.field_is)

-- where no macroblock was given yet, a run isn't over, or more_rbsp_data is true, one stands here
abbrev pub GoesOn : List Mb → Option ℕ → Cursor → Type 0
GoesOn known run c = 0 < length known → left_of run ≡ 0 → more_data c.left ≡ true

-- how many macroblocks more the picture has room for
abbrev pub IsRoom : SliceShape → List Mb → ℕ → Type 0
IsRoom shape known room = room ≡ shape.width * shape.height - (shape.first + length known)

-- ---- what stands here

-- no tail is left where the bits left are those of the end
remains_end : (shape : SliceShape) (known : List Mb) (run : Option ℕ) (c : Cursor) → Remains shape known run c [] → (left_of run ≡ 0) × (c.left ≡ stop_text c.taken)
unfolding IsBehindRun
remains_end shape known None c r = (refl, r ∙ text_no_run shape c.taken known)
remains_end shape known (Some zero) c r = (refl, r.1)
remains_end shape known (Some (suc left)) c r = absurd r

remains_more : (shape : SliceShape) (known : List Mb) (run : Option ℕ) (c : Cursor) (mb : Mb) (tail : List Mb) → All (IsRead shape) (mb ∷ tail) → left_of run ≡ 0 → Remains shape known run c (mb ∷ tail) → more_data c.left ≡ true
remains_more shape known None c mb tail are none r = ap more_data r ∙ text_more shape c.taken known mb tail are
remains_more shape known (Some zero) c mb tail are none r = ahead_more shape known c mb tail r
remains_more shape known (Some (suc left)) c mb tail are none r = absurd cc

to_ahead : (shape : SliceShape) (known : List Mb) (left : ℕ) (c : Cursor) (mb : Mb) (tail : List Mb) → IsBehindSkipped shape known left c (mb ∷ tail) → IsAhead shape known left c (mb ∷ tail)
to_ahead shape known zero c mb tail h = h
to_ahead shape known (suc left) c mb tail h = h

from_ahead : (shape : SliceShape) (known : List Mb) (left : ℕ) (c : Cursor) (tail : List Mb) → IsAhead shape known left c tail → (0 < length tail) × IsBehindSkipped shape known left c tail
unfolding IsBehindRun
from_ahead shape known zero c [] h = absurd h.3
from_ahead shape known zero c (mb ∷ tail) h = (omega arith, h)
from_ahead shape known (suc left) c [] h = absurd h
from_ahead shape known (suc left) c (mb ∷ tail) h = (omega arith, h)

-- what is read of the run before a tail
abbrev Ahead : SliceShape → List Mb → Option ℕ → ℕ → Cursor → List Mb → Type 0
Ahead shape known run room c tail = (left : ℕ) × (d : Cursor) × (run_at shape.kind room run c ≡ Some (left, d)) × IsAhead shape known left d tail

ahead : (shape : SliceShape) (known : List Mb) (run : Option ℕ) (room : ℕ) (c : Cursor) (mb : Mb) (tail : List Mb) → HasText shape (known ++ mb ∷ tail) → length (mb ∷ tail) ≤ room → room ≤ 4294967294
    → IsOfRun shape known run → Remains shape known run c (mb ∷ tail) → Ahead shape known run room c (mb ∷ tail)
unfolding run_at
ahead shape known (Some left) room c mb tail has few most of_run r = (left, c, refl, to_ahead shape known left c mb tail r)
ahead shape known None room c mb tail has few most coded r =
    let are = all_behind (IsRead shape) known (mb ∷ tail) (all_read shape (known ++ mb ∷ tail) has) in
    let f = text_first shape c.taken known mb tail are in (
      f.count,
      _,
      run_reads shape.kind room f.count c f.rest (omega (arith, f.few, few)) most f.may (r ∙ f.parts),
      to_ahead shape known f.count _ mb tail (to_behind shape known f.count _ (mb ∷ tail) has (λ half. coded) f.behind),
    )

behind_ahead : (shape : SliceShape) (known : List Mb) (run : Option ℕ) (room : ℕ) (c : Cursor) (left : ℕ) (d : Cursor) (tail : List Mb) → IsOfRun shape known run
    → run_at shape.kind room run c ≡ Some (left, d) → IsAhead shape known left d tail → Remains shape known run c tail
unfolding run_at
behind_ahead shape known (Some k) room c left d tail of_run e h =
    let same : ◌≡◌ {A = ℕ × Cursor} (left, d) (k, c) = sym (some_is (k, c) (left, d) e) in
    subst (λ (p : ℕ × Cursor). IsBehindSkipped shape known p.0 p.1 tail) same (from_ahead shape known left d tail h).1
behind_ahead shape known None room c left d tail coded e h =
    let b = from_ahead shape known left d tail h in
    let took = (run_takes shape.kind room left c d e).0 in
    took.parts ∙ first_back shape c.taken known tail left d took.count b.0 (from_behind shape known left d tail (λ half. coded) b.1)

-- a list with these bits goes on here
record Next (shape : SliceShape) (known : List Mb) (run : Option ℕ) (room : ℕ) (c : Cursor) (mbs : List Mb) : Type 0 where
  tail : List Mb
  parts : mbs ≡ known ++ tail
  some : 0 < length tail
  few : length tail ≤ room
  stands : Ahead shape known run room c tail

find_next : (shape : SliceShape) (pos : ℕ) (all : List Bool) (known : List Mb) (run : Option ℕ) (room : ℕ) (c : Cursor) (mbs : List Mb) → Knows shape pos all known run (Remains shape known run c)
    → GoesOn known run c → IsRoom shape known room → HasText shape mbs → all ≡ slice_text shape pos mbs → Next shape known run room c mbs
find_next shape pos all known run room c mbs k more is_room has e = let old = k.only mbs has e in next_in old.0 old.1 old.2
  where
    next_in : (tail : List Mb) → mbs ≡ known ++ tail → Remains shape known run c tail → Next shape known run room c mbs
    next_in [] parts r =
        let over = remains_end shape known run c r in
        let there : more_data c.left ≡ true = more (omega (arith, has.slice.some, ap length parts, length-append known [])) over.0 in
        let ended : more_data c.left ≡ false = ap more_data over.1 ∙ stop_no_more c.taken in
        absurd cc
    next_in (mb ∷ tail) parts r =
        let few : length (mb ∷ tail) ≤ room = omega (arith, is_room, has.slice.inside, ap length parts, length-append known (mb ∷ tail)) in
        record {
          tail = mb ∷ tail;
          parts = parts;
          some = omega arith;
          few = few;
          stands = ahead shape known run room c mb tail (subst (HasText shape) parts has) few (omega (arith, is_room, has.slice.is_shape.size)) k.of_run r;
        }

-- the macroblock is that which is read at the place that the rows tell
read_around : (kept : SliceShape) (rows : LastRows Counts) (field : Bool) (around : Around) (bound : ℕ) (c : Cursor) (result : Option (Unit {0})) (mb : Mb) (d : Cursor) (done : List Mb) → IsAroundNext kept rows field around → bound ≡ prefix_bound kept
    → AreRows counts_of kept rows done → ReadsMacroblock kept field around bound c result mb d → ReadsMacroblock kept field (around_next kept field done) (prefix_bound kept) c result mb d
read_around kept rows field around bound c result mb d done around_is bound_is rows_are reads =
    subst (λ (n : ℕ). ReadsMacroblock kept field (around_next kept field done) n c result mb d) bound_is (subst (λ (a : Around). ReadsMacroblock kept field a bound c result mb d) (around_is done rows_are) reads)

-- ---- refusals

-- the picture has no room
refuse_more : (shape : SliceShape) (pos : ℕ) (all : List Bool) (known : List Mb) (run : Option ℕ) (room : ℕ) (c : Cursor) → Knows shape pos all known run (Remains shape known run c)
    → GoesOn known run c → IsRoom shape known room → room ≡ 0 → NoList shape pos all
refuse_more shape pos all known run room c k more is_room none mbs has e = let f = find_next shape pos all known run room c mbs k more is_room has e in absurd (omega (arith, f.some, f.few, none))

-- no mb_skip_run stands here
refuse_run : (shape : SliceShape) (pos : ℕ) (all : List Bool) (known : List Mb) (run : Option ℕ) (room : ℕ) (c : Cursor) → Knows shape pos all known run (Remains shape known run c)
    → GoesOn known run c → IsRoom shape known room → run_at shape.kind room run c ≡ None → NoList shape pos all
refuse_run shape pos all known run room c k more is_room none mbs has e =
    let f = find_next shape pos all known run room c mbs k more is_room has e in
    let there = f.stands.2 in
    absurd cc

-- no mb_field_decoding_flag stands here
refuse_flag : (shape : SliceShape) (pos : ℕ) (all : List Bool) (known : List Mb) (run : Option ℕ) (c : Cursor) → Knows shape pos all known run (IsAheadOfFlag shape known c) → next_field shape known 0 c ≡ None → NoList shape pos all
refuse_flag shape pos all known run c k none mbs has e =
    let there = (k.only mbs has e).2.2 in
    absurd cc

refuse_skipped : (shape : SliceShape) (pos : ℕ) (all : List Bool) (known : List Mb) (run : Option ℕ) (left : ℕ) (c : Cursor) → Knows shape pos all known run (IsBehindRun shape known (suc left) c) → next_field shape known left c ≡ None → NoList shape pos all
unfolding IsBehindRun
refuse_skipped shape pos all known run left c k none mbs has e = let old = k.only mbs has e in by old.0 old.1 old.2
  where
    by : (tail : List Mb) → mbs ≡ known ++ tail → IsBehindRun shape known (suc left) c tail → ⊥
    by [] parts h = h
    by (mb ∷ tail) parts h =
        let there = (skipped_ahead shape known mb left c tail (subst (HasText shape) parts has) h.0 h.1).1 in
        absurd cc

-- no macroblock stands here
refuse_text : (shape : SliceShape) (pos : ℕ) (all : List Bool) (known : List Mb) (run : Option ℕ) (field : Bool) (c d : Cursor) (mb : Mb) → Knows shape pos all known run (IsFlagged shape known field c)
    → ReadsMacroblock shape field (around_next shape field known) (prefix_bound shape) c None mb d → NoList shape pos all
refuse_text shape pos all known run field c d mb k none mbs has e = let old = k.only mbs has e in by old.0 old.1 old.2
  where
    by : (tail : List Mb) → mbs ≡ known ++ tail → IsFlagged shape known field c tail → ⊥
    by [] parts r = r
    by (x ∷ tail) parts r = none x _ (sent_with shape field x (read_next shape known x tail (subst (HasText shape) parts has)) r.0 r.1) r.2

-- ---- a run is read

-- what is known where so many skipped macroblocks come next
know_run : (shape : SliceShape) (pos : ℕ) (all : List Bool) (known : List Mb) (run : Option ℕ) (room : ℕ) (c : Cursor) (left : ℕ) (d : Cursor) → Knows shape pos all known run (Remains shape known run c)
    → GoesOn known run c → IsRoom shape known room → 0 < room → run_at shape.kind room run c ≡ Some (left, d) → Knows shape pos all known (Some left) (IsAhead shape known left d)
unfolding run_at
know_run shape pos all known run room c left d k more is_room some e = record {
  is_shape = k.is_shape;
  inside = λ any. (fits run k.inside k.may_skip e).0;
  may_skip = λ any. (fits run k.inside k.may_skip e).1 any;
  are_read = k.are_read;
  pairs = k.pairs;
  of_run = of_read run left k.of_run e;
  only = λ mbs has same.
      let f = find_next shape pos all known run room c mbs k more is_room has same in
      let a = f.stands in
      let one = some_is (a.0, a.1) (left, d) (sym a.2 ∙ e) in
      (f.tail, f.parts, subst (λ (p : ℕ × Cursor). IsAhead shape known p.0 p.1 f.tail) one a.3);
  these = λ tail is. k.these tail (behind_ahead shape known run room c left d tail k.of_run e is);
}
  where
    fits : (run : Option ℕ) → (0 < length known + left_of run → shape.first + (length known + left_of run) ≤ shape.width * shape.height) → (0 < left_of run → is_kind_in shape.kind Skip ≡ true)
        → run_at shape.kind room run c ≡ Some (left, d) → (shape.first + (length known + left) ≤ shape.width * shape.height) × MaySkip shape.kind left
    fits None inside may h = let t = run_takes shape.kind room left c d h in (omega (arith, t.1, is_room, some), t.2)
    fits (Some zero) inside may h =
        let same : 0 ≡ left = ap (λ (p : ℕ × Cursor). p.0) (some_is (0, c) (left, d) h) in
        (omega (arith, is_room, some, same), λ any. absurd (omega (arith, any, same)))
    fits (Some (suc n)) inside may h =
        let same : suc n ≡ left = ap (λ (p : ℕ × Cursor). p.0) (some_is (suc n, c) (left, d) h) in
        (omega (arith, inside (omega arith), same), λ any. may (omega arith))

    of_read : (run : Option ℕ) (left : ℕ) → IsOfRun shape known run → run_at shape.kind room run c ≡ Some (left, d) → IsOfRun shape known (Some left)
    of_read run zero of_run h = tt
    of_read None (suc n) coded h = λ half skips. absurd cc
    of_read (Some zero) (suc n) of_run h =
        let same : 0 ≡ suc n = ap (λ (p : ℕ × Cursor). p.0) (some_is (0, c) (suc n, d) h) in
        absurd cc
    of_read (Some (suc m)) (suc n) of_run h = of_run

-- ---- a flag is read

know_flag : (shape : SliceShape) (pos : ℕ) (all : List Bool) (known : List Mb) (c : Cursor) (field : Bool) (d : Cursor) → Knows shape pos all known (Some 0) (IsAheadOfFlag shape known c)
    → next_field shape known 0 c ≡ Some (field, d) → Knows shape pos all known (Some 0) (IsFlagged shape known field d)
know_flag shape pos all known c field d k read = record {
  is_shape = k.is_shape;
  inside = k.inside;
  may_skip = k.may_skip;
  are_read = k.are_read;
  pairs = k.pairs;
  of_run = tt;
  only = λ mbs has same.
      let old = k.only mbs has same in
      let a = old.2 in
      let one = some_is (a.0, a.1) (field, d) (sym a.2 ∙ read) in
      (old.0, old.1, subst (λ (p : Bool × Cursor). IsFlagged shape known p.0 p.1 old.0) one a.3);
  these = λ tail is. k.these tail (field, d, read, is);
}

-- ---- a macroblock is given

top_inferred : (shape : SliceShape) (known : List Mb) (field : Bool) (more : ℕ) (c d : Cursor) → 0 < shape.width → next_field shape known (suc more) c ≡ Some (field, d)
    → is_bottom shape (length (known ++ skipped field ∷ [])) ≡ true → last_field (known ++ skipped field ∷ []) ≡ inferred_field shape (known ++ skipped field ∷ []) (length (known ++ skipped field ∷ []) / 2)
top_inferred shape known field more c d wide read half =
    let h = bottom_is shape (length (known ++ skipped field ∷ [])) half in
    let count : length (known ++ skipped field ∷ []) ≡ length known + 1 = length-append known (skipped field ∷ []) in
    let even : length known % 2 ≡ 0 = omega (arith, h.1, count) in
    let pair : length known / 2 ≡ length (known ++ skipped field ∷ []) / 2 = omega (arith, even, count) in
    let same = some_is (inferred_field shape known (length known / 2), c) (field, d) (sym (next_inferred shape known more c (top_by shape (length known) even) h.0) ∙ read) in
    last_field-push known (skipped field) ∙ sym (ap (λ (p : Bool × Cursor). p.0) same) ∙ sym (inferred_field-append shape known (skipped field ∷ []) (length known / 2) wide (omega (arith, even)))
    ∙ ap (inferred_field shape (known ++ skipped field ∷ [])) pair

know_skipped : (shape : SliceShape) (pos : ℕ) (all : List Bool) (known : List Mb) (left : ℕ) (c : Cursor) (field : Bool) (d : Cursor) → Knows shape pos all known (Some (suc left)) (IsBehindRun shape known (suc left) c)
    → (field ≡ true → shape.mbaff ≡ true) → next_field shape known left c ≡ Some (field, d)
    → Knows shape pos all (known ++ skipped field ∷ []) (Some left) (IsBehindSkipped shape (known ++ skipped field ∷ []) left d)
unfolding IsBehindRun
know_skipped shape pos all known left c field d k pair read = record {
  is_shape = k.is_shape;
  inside = λ any. omega (arith, k.inside (omega arith), length-append known (skipped field ∷ []));
  may_skip = λ any. k.may_skip (omega arith);
  are_read = All-push (IsRead shape) known (skipped field) k.are_read (inr (record { elements = refl; kind = k.may_skip (omega arith); pair = pair }));
  pairs = pairs_push shape known (skipped field) (omega (arith, k.is_shape.some.0)) k.pairs (λ half.
      let same = some_is (last_field known, c) (field, d) (sym (next_bottom shape known left c half) ∙ read) in
      (sym (ap (λ (p : Bool × Cursor). p.0) same), λ skips own. k.of_run half skips));
  of_run = of_skipped left read;
  only = λ mbs has e. let old = k.only mbs has e in behind mbs has old.0 old.1 old.2;
  these = λ tail is. k.these (skipped field ∷ tail) (refl, skipped_back shape known field left c d tail read is) ∙ ap (λ l. slice_text shape pos l) (sym (append_assoc known (skipped field ∷ []) tail));
}
  where
    behind : (mbs : List Mb) → HasText shape mbs → (tail : List Mb) → mbs ≡ known ++ tail → IsBehindRun shape known (suc left) c tail
        → (rest : List Mb) × (mbs ≡ (known ++ skipped field ∷ []) ++ rest) × IsBehindSkipped shape (known ++ skipped field ∷ []) left d rest
    behind mbs has [] parts h = absurd h
    behind mbs has (mb ∷ tail) parts h =
        let there = subst (HasText shape) parts has in
        let a = skipped_ahead shape known mb left c tail there h.0 h.1 in
        let one = some_is (mb.field, a.0) (field, d) (sym a.1 ∙ read) in
        let is = skipped_of_read shape mb (read_next shape known mb tail there) h.0 in
        let same : mb ≡ skipped field = is.elements ∙ ap (λ (p : Bool × Cursor). skipped p.0) one in (
          tail,
          parts ∙ ap (λ m. known ++ m ∷ tail) same ∙ sym (append_assoc known (skipped field ∷ []) tail),
          subst (λ m. IsBehindSkipped shape (known ++ m ∷ []) left d tail) same (subst (λ (p : Bool × Cursor). IsBehindSkipped shape (known ++ mb ∷ []) left p.1 tail) one a.2),
        )

    -- a skipped top with more to come has the flag that is inferred
    of_skipped : (left : ℕ) → next_field shape known left c ≡ Some (field, d) → IsOfRun shape (known ++ skipped field ∷ []) (Some left)
    of_skipped zero read = tt
    of_skipped (suc n) read = λ half skips. top_inferred shape known field n c d (omega (arith, k.is_shape.some.0)) read half

know_next : (shape : SliceShape) (pos : ℕ) (all : List Bool) (known : List Mb) (field : Bool) (c d : Cursor) (mb : Mb) → Knows shape pos all known (Some 0) (IsFlagged shape known field c) → shape.first + length known < shape.width * shape.height
    → (is_bottom shape (length known) ≡ true → field ≡ last_field known) → ReadsMacroblock shape field (around_next shape field known) (prefix_bound shape) c (Some tt) mb d
    → Knows shape pos all (known ++ mb ∷ []) None (Remains shape (known ++ mb ∷ []) None d)
know_next shape pos all known field c d mb k room last took =
    let text = macroblock_text shape (around_next shape field known) c.taken in
    let flag : mb.field ≡ field = sent_field shape field (prefix_bound shape) mb took.0 in
    record {
      is_shape = k.is_shape;
      inside = λ some. omega (arith, length-append known (mb ∷ []), room);
      may_skip = λ any. absurd (omega (arith, any));
      are_read = All-push (IsRead shape) known mb k.are_read (inl (subst (λ (b : Bool). IsSent shape b (prefix_bound shape) mb) (sym flag) took.0));
      pairs = pairs_push shape known mb (omega (arith, k.is_shape.some.0)) k.pairs (λ half. (flag ∙ last half, λ skips own. let sent = took.0.sent in absurd cc));
      of_run = is_last_skipped-push known mb ∙ took.0.sent;
      only = λ mbs has e. let old = k.only mbs has e in behind mbs has old.0 old.1 old.2;
      these = λ tail r.
          let left : c.left ≡ text mb ++ text_after shape (c.taken + length (text mb)) (known ++ mb ∷ []) 0 tail = took.1.parts ∙ ap (λ l. text mb ++ l) (r ∙ ap (λ n. text_after shape n (known ++ mb ∷ []) 0 tail) took.1.count) in
          k.these (mb ∷ tail) (took.0.sent, flag, left) ∙ ap (λ l. slice_text shape pos l) (sym (append_assoc known (mb ∷ []) tail));
    }
  where
    behind : (mbs : List Mb) → HasText shape mbs → (tail : List Mb) → mbs ≡ known ++ tail → IsFlagged shape known field c tail → (rest : List Mb) × (mbs ≡ (known ++ mb ∷ []) ++ rest) × Remains shape (known ++ mb ∷ []) None d rest
    behind mbs has [] parts h = absurd h
    behind mbs has (x ∷ tail) parts h =
        let text = macroblock_text shape (around_next shape field known) c.taken in
        let is = sent_with shape field x (read_next shape known x tail (subst (HasText shape) parts has)) h.0 h.1 in
        let same = same_rest (IsSent shape field (prefix_bound shape)) text (no_other shape field (around_next shape field known) c.taken has.slice.is_shape) x mb _ d.left is took.0 (sym h.2 ∙ took.1.parts) in
        let far = λ (m : Mb). text_after shape (c.taken + length (text m)) (known ++ m ∷ []) 0 tail in (
          tail,
          parts ∙ ap (λ m. known ++ m ∷ tail) same.0 ∙ sym (append_assoc known (mb ∷ []) tail),
          sym same.1 ∙ ap far same.0 ∙ ap (λ n. text_after shape n (known ++ mb ∷ []) 0 tail) (sym took.1.count),
        )

-- ---- lists that have a text

known_text : (shape : SliceShape) (pos : ℕ) (all : List Bool) (known : List Mb) (run : Option ℕ) (Is : List Mb → Type 0) → Knows shape pos all known run Is → 0 < length known → is_bottom shape (length known) ≡ false → HasText shape known
known_text shape pos all known run Is k some whole = read_text shape known k.is_shape some (omega (arith, k.inside (omega (arith, some)))) k.are_read k.pairs whole

are_given : (shape : SliceShape) (pos : ℕ) (all : List Bool) (known : List Mb) (run : Option ℕ) (Is : List Mb → Type 0) → Knows shape pos all known run Is → 0 < length known → AreGiven HasText IsText shape pos all known
are_given shape pos all known run Is k some = record {
  begins = goes_on (is_bottom shape (length known)) refl;
  only = λ mbs has e. let old = k.only mbs has e in (old.0, old.1);
}
  where
    goes_on : (b : Bool) → is_bottom shape (length known) ≡ b → (tail : List Mb) × HasText shape (known ++ tail)
    goes_on true half = half_text shape known k.is_shape some (omega (arith, k.inside (omega (arith, some)))) k.are_read k.pairs half
    goes_on false whole = ([], subst (HasText shape) (sym (append-nil known)) (known_text shape pos all known run Is k some whole))

-- ---- the reader

some_behind : (done : List Mb) (mb : Mb) → 0 < length (done ++ mb ∷ [])
some_behind done mb = omega (arith, length-append done (mb ∷ []))

pub stands_skipped : (kept : SliceShape) (rows rows' : LastRows Counts) (own field : Bool) (left : ℕ) (c d : Cursor) (mb : Mb) (shape : SliceShape) (pos : ℕ) (all : List Bool) (done : List Mb)
    → ((known : List Mb) → AreRows counts_of kept rows known → own ≡ last_field known → next_field kept known left c ≡ Some (field, d)) → (field ≡ true → kept.mbaff ≡ true) → mb ≡ skipped field → Keeps rows rows' mb
    → Stands kept rows own (Some (left + 1)) (IsBehindRun shape done (left + 1) c) shape pos all done
    → Stands kept rows' field (Some left) (IsBehindSkipped shape (done ++ mb ∷ []) left d) shape pos all (done ++ mb ∷ []) × AreGiven HasText IsText shape pos all (done ++ mb ∷ [])
stands_skipped kept rows rows' own field left c d mb shape pos all done read pair is push =
    by_kept kept rows own (Some (left + 1)) (λ sh. IsBehindRun sh done (left + 1) c) (λ sh. Stands kept rows' field (Some left) (IsBehindSkipped sh (done ++ mb ∷ []) left d) sh pos all (done ++ mb ∷ []) × AreGiven HasText IsText sh pos all (done ++ mb ∷ []))
    shape pos all done (λ k rows_are field_is.
    let more : left + 1 ≡ suc left = omega arith in
    let next = subst (λ (m : Mb). Knows kept pos all (done ++ m ∷ []) (Some left) (IsBehindSkipped kept (done ++ m ∷ []) left d)) (sym is)
    (know_skipped kept pos all done left c field d (subst (λ (n : ℕ). Knows kept pos all done (Some n) (IsBehindRun kept done n c)) more k) pair (read done rows_are field_is)) in (
      record { of = refl; rows_are = push kept done rows_are; field_is = sym (last_field-push done mb ∙ ap (λ (m : Mb). m.field) is); knows = next },
      are_given kept pos all (done ++ mb ∷ []) (Some left) (IsBehindSkipped kept (done ++ mb ∷ []) left d) next (some_behind done mb),
    ))

pub stands_coded : (kept : SliceShape) (rows rows' : LastRows Counts) (own field : Bool) (c mid d : Cursor) (mb : Mb) (around : Around) (bound : ℕ) (shape : SliceShape) (pos : ℕ) (all : List Bool) (done : List Mb) → kept.first + rows.count < kept.width * kept.height
    → ((known : List Mb) → AreRows counts_of kept rows known → own ≡ last_field known → next_field kept known 0 c ≡ Some (field, mid)) → IsAroundNext kept rows field around → bound ≡ prefix_bound kept → Keeps rows rows' mb
    → ReadsMacroblock kept field around bound mid (Some tt) mb d → Stands kept rows own (Some 0) (IsAheadOfFlag shape done c) shape pos all done
    → Stands kept rows' field None (Remains shape (done ++ mb ∷ []) None d) shape pos all (done ++ mb ∷ []) × AreGiven HasText IsText shape pos all (done ++ mb ∷ [])
stands_coded kept rows rows' own field c mid d mb around bound shape pos all done room read around_is bound_is push reads =
    by_kept kept rows own (Some 0) (λ sh. IsAheadOfFlag sh done c) (λ sh. Stands kept rows' field None (Remains sh (done ++ mb ∷ []) None d) sh pos all (done ++ mb ∷ []) × AreGiven HasText IsText sh pos all (done ++ mb ∷ []))
    shape pos all done (λ k rows_are field_is.
    let there = read done rows_are field_is in
    let took = read_around kept rows field around bound mid (Some tt) mb d done around_is bound_is rows_are reads in
    let last : is_bottom kept (length done) ≡ true → field ≡ last_field done = λ half. sym (ap (λ (p : Bool × Cursor). p.0) (some_is (last_field done, c) (field, mid) (sym (next_bottom kept done 0 c half) ∙ there))) in
    let next = know_next kept pos all done field mid d mb (know_flag kept pos all done c field mid k there) (omega (arith, room, rows_are.counted)) last took in
    let own : mb.field ≡ field = sent_field kept field (prefix_bound kept) mb took.0 in (
      record { of = refl; rows_are = push kept done rows_are; field_is = sym (last_field-push done mb ∙ own); knows = next },
      are_given kept pos all (done ++ mb ∷ []) None (Remains kept (done ++ mb ∷ []) None d) next (some_behind done mb),
    ))

pub refuse_coded : (kept : SliceShape) (rows : LastRows Counts) (own field : Bool) (c mid d : Cursor) (mb : Mb) (around : Around) (bound : ℕ) (shape : SliceShape) (pos : ℕ) (all : List Bool) (done : List Mb)
    → ((known : List Mb) → AreRows counts_of kept rows known → own ≡ last_field known → next_field kept known 0 c ≡ Some (field, mid)) → IsAroundNext kept rows field around → bound ≡ prefix_bound kept
    → ReadsMacroblock kept field around bound mid None mb d → Stands kept rows own (Some 0) (IsAheadOfFlag shape done c) shape pos all done → NoList shape pos all
refuse_coded kept rows own field c mid d mb around bound shape pos all done read around_is bound_is none =
    by_kept kept rows own (Some 0) (λ sh. IsAheadOfFlag sh done c) (λ sh. NoList sh pos all) shape pos all done (λ k rows_are field_is.
    refuse_text kept pos all done (Some 0) field mid d mb (know_flag kept pos all done c field mid k (read done rows_are field_is))
    (read_around kept rows field around bound mid None mb d done around_is bound_is rows_are none))

-- no flag stands before a macroblock that isn't skipped, or behind a skipped one
pub refuse_coded_flag : (kept : SliceShape) (rows : LastRows Counts) (own : Bool) (c : Cursor) (shape : SliceShape) (pos : ℕ) (all : List Bool) (done : List Mb)
    → ((known : List Mb) → AreRows counts_of kept rows known → own ≡ last_field known → next_field kept known 0 c ≡ None) → Stands kept rows own (Some 0) (IsAheadOfFlag shape done c) shape pos all done → NoList shape pos all
refuse_coded_flag kept rows own c shape pos all done none =
    by_kept kept rows own (Some 0) (λ sh. IsAheadOfFlag sh done c) (λ sh. NoList sh pos all) shape pos all done (λ k rows_are field_is. refuse_flag kept pos all done (Some 0) c k (none done rows_are field_is))

pub refuse_skipped_flag : (kept : SliceShape) (rows : LastRows Counts) (own : Bool) (left : ℕ) (c : Cursor) (shape : SliceShape) (pos : ℕ) (all : List Bool) (done : List Mb)
    → ((known : List Mb) → AreRows counts_of kept rows known → own ≡ last_field known → next_field kept known left c ≡ None) → Stands kept rows own (Some (left + 1)) (IsBehindRun shape done (left + 1) c) shape pos all done → NoList shape pos all
refuse_skipped_flag kept rows own left c shape pos all done none =
    by_kept kept rows own (Some (left + 1)) (λ sh. IsBehindRun sh done (left + 1) c) (λ sh. NoList sh pos all) shape pos all done (λ k rows_are field_is.
    let more : left + 1 ≡ suc left = omega arith in
    refuse_skipped kept pos all done (Some (left + 1)) left c (subst (λ (n : ℕ). Knows kept pos all done (Some (left + 1)) (IsBehindRun kept done n c)) more k) (none done rows_are field_is))

-- what was read of the run, in a state that goes on
pub stands_run : (kept : SliceShape) (rows : LastRows Counts) (own : Bool) (run : Option ℕ) (room : ℕ) (c : Cursor) (left : ℕ) (d : Cursor) (shape : SliceShape) (pos : ℕ) (all : List Bool) (done : List Mb)
    → (0 < rows.count → left_of run ≡ 0 → more_data c.left ≡ true) → room ≡ kept.width * kept.height - (kept.first + rows.count) → 0 < room → run_at kept.kind room run c ≡ Some (left, d)
    → Stands kept rows own run (Remains shape done run c) shape pos all done → Stands kept rows own (Some left) (IsAhead shape done left d) shape pos all done
stands_run kept rows own run room c left d shape pos all done more is_room some e =
    by_kept kept rows own run (λ sh. Remains sh done run c) (λ sh. Stands kept rows own (Some left) (IsAhead sh done left d) sh pos all done) shape pos all done (λ k rows_are field_is.
    record { of = refl; rows_are = rows_are; field_is = field_is; knows = know_run kept pos all done run room c left d k (λ any. more (omega (arith, any, rows_are.counted))) (is_room ∙ ap (λ n. kept.width * kept.height - (kept.first + n)) rows_are.counted) some e })

pub stands_some : (kept : SliceShape) (rows : LastRows Counts) (own : Bool) (left n : ℕ) (d : Cursor) (shape : SliceShape) (pos : ℕ) (all : List Bool) (done : List Mb) → 0 < left → n ≡ left
    → Stands kept rows own (Some left) (IsAhead shape done left d) shape pos all done → Stands kept rows own (Some n) (IsBehindRun shape done n d) shape pos all done
stands_some kept rows own zero n d shape pos all done some e s = absurd (omega (arith, some))
stands_some kept rows own (suc left) n d shape pos all done some e s = subst (λ (m : ℕ). Stands kept rows own (Some m) (IsBehindRun shape done m d) shape pos all done) (sym e) s

pub stands_none : (kept : SliceShape) (rows : LastRows Counts) (own : Bool) (left : ℕ) (d : Cursor) (shape : SliceShape) (pos : ℕ) (all : List Bool) (done : List Mb) → left ≡ 0
    → Stands kept rows own (Some left) (IsAhead shape done left d) shape pos all done → Stands kept rows own (Some 0) (IsAheadOfFlag shape done d) shape pos all done
stands_none kept rows own left d shape pos all done e s = subst (λ (m : ℕ). Stands kept rows own (Some m) (IsAhead shape done m d) shape pos all done) e s

pub refuse_ahead : (kept : SliceShape) (rows : LastRows Counts) (own : Bool) (run : Option ℕ) (room : ℕ) (c : Cursor) (shape : SliceShape) (pos : ℕ) (all : List Bool) (done : List Mb)
    → (0 < rows.count → left_of run ≡ 0 → more_data c.left ≡ true) → room ≡ kept.width * kept.height - (kept.first + rows.count) → (room ≡ 0) ⊎ (run_at kept.kind room run c ≡ None)
    → Stands kept rows own run (Remains shape done run c) shape pos all done → NoList shape pos all
refuse_ahead kept rows own run room c shape pos all done more is_room none =
    by_kept kept rows own run (λ sh. Remains sh done run c) (λ sh. NoList sh pos all) shape pos all done (λ k rows_are field_is.
    let goes_on : GoesOn done run c = λ any. more (omega (arith, any, rows_are.counted)) in
    let is : IsRoom kept done room = is_room ∙ ap (λ n. kept.width * kept.height - (kept.first + n)) rows_are.counted in
    elim none [
      | inl full ↦ refuse_more kept pos all done run room c k goes_on is full
      | inr cut ↦ refuse_run kept pos all done run room c k goes_on is cut
    ])

-- ---- the end

remains_none : (shape : SliceShape) (known : List Mb) (run : Option ℕ) (c : Cursor) → is_bottom shape (length known) ≡ false → left_of run ≡ 0 → c.left ≡ stop_text c.taken → Remains shape known run c []
remains_none shape known None c whole none e = e ∙ sym (text_no_run shape c.taken known)
remains_none shape known (Some zero) c whole none e = (whole, e)
remains_none shape known (Some (suc left)) c whole none e = absurd cc

know_end : (shape : SliceShape) (pos : ℕ) (all : List Bool) (known : List Mb) (run : Option ℕ) (c : Cursor) → Knows shape pos all known run (Remains shape known run c) → 0 < length known → is_bottom shape (length known) ≡ false
    → left_of run ≡ 0 → c.left ≡ stop_text c.taken → HasText shape known × (all ≡ slice_text shape pos known)
know_end shape pos all known run c k some whole none left = (
  known_text shape pos all known run (Remains shape known run c) k some whole,
  k.these [] (remains_none shape known run c whole none left) ∙ ap (λ l. slice_text shape pos l) (append-nil known),
)

-- No end stands here: half a pair was given, or other bits are left than the stop bit and zero bits.
abbrev pub IsNoEnd : SliceShape → ℕ → Cursor → Type 0
IsNoEnd shape count c = (is_bottom shape count ≡ true) ⊎ (c.left ≡ stop_text c.taken → ⊥)

-- no end, and no 1 bit behind the first bit
refuse_end : (shape : SliceShape) (pos : ℕ) (all : List Bool) (known : List Mb) (run : Option ℕ) (c : Cursor) → Knows shape pos all known run (Remains shape known run c) → left_of run ≡ 0 → more_data c.left ≡ false
    → IsNoEnd shape (length known) c → NoList shape pos all
refuse_end shape pos all known run c k none ended other mbs has e = let old = k.only mbs has e in no_tail old.0 old.1 old.2
  where
    no_stop : HasText shape (known ++ []) → c.left ≡ stop_text c.taken → IsNoEnd shape (length known) c → ⊥
    no_stop text stop (inl half) = let whole = slice_whole shape known (subst (HasText shape) (append-nil known) text).slice in absurd cc
    no_stop text stop (inr none) = none stop

    no_tail : (tail : List Mb) → mbs ≡ known ++ tail → Remains shape known run c tail → ⊥
    no_tail [] parts r = no_stop (subst (HasText shape) parts has) (remains_end shape known run c r).1 other
    no_tail (mb ∷ tail) parts r =
        let are : All (IsRead shape) (mb ∷ tail) = all_behind (IsRead shape) known (mb ∷ tail) (subst (All (IsRead shape)) parts (all_read shape mbs has)) in
        let there : more_data c.left ≡ true = remains_more shape known run c mb tail are none r in
        absurd cc

pub stands_end : (kept : SliceShape) (rows : LastRows Counts) (own : Bool) (run : Option ℕ) (c : Cursor) (shape : SliceShape) (pos : ℕ) (all : List Bool) (done : List Mb) → 0 < rows.count → is_bottom kept rows.count ≡ false
    → left_of run ≡ 0 → c.left ≡ stop_text c.taken → Stands kept rows own run (Remains shape done run c) shape pos all done → HasText shape done × (all ≡ slice_text shape pos done)
stands_end kept rows own run c shape pos all done some whole none left =
    by_kept kept rows own run (λ sh. Remains sh done run c) (λ sh. HasText sh done × (all ≡ slice_text sh pos done)) shape pos all done (λ k rows_are field_is.
    know_end kept pos all done run c k (omega (arith, rows_are.counted, some)) (ap (is_bottom kept) (sym rows_are.counted) ∙ whole) none left)

pub refuse_other : (kept : SliceShape) (rows : LastRows Counts) (own : Bool) (run : Option ℕ) (c : Cursor) (shape : SliceShape) (pos : ℕ) (all : List Bool) (done : List Mb) → left_of run ≡ 0 → more_data c.left ≡ false → IsNoEnd kept rows.count c
    → Stands kept rows own run (Remains shape done run c) shape pos all done → NoList shape pos all
refuse_other kept rows own run c shape pos all done none ended other =
    by_kept kept rows own run (λ sh. Remains sh done run c) (λ sh. NoList sh pos all) shape pos all done (λ k rows_are field_is.
    refuse_end kept pos all done run c k none ended (subst (λ (n : ℕ). IsNoEnd kept n c) rows_are.counted other))
