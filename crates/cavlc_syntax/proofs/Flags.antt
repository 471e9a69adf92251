-- The pair flag of the next macroblock: it is known, or stands before the macroblock. What stands ahead, by the flag.
use Rattle.std.proofs.Common.{◌≡◌, ◌⊎◌, inl, inr, ℕ, zero, suc, ◌+◌, ◌/◌, Bool, true, false, List, [], ◌∷◌, ◌++◌, length, Some, refl, sym, ap, subst, ◌∙◌, append_assoc, append-nil, length-append, arith}
use Rattle.std.specs.Prelude.{◌==◌, if◌then◌else◌}
use Rattle.std.proofs.lemmas.Bool.Decides.{nat_tests}
use Rattle.bit_texts.specs.Bits.{more_data}
use Rattle.bit_texts.specs.Cursor.{Cursor, cursor, Takes}
use Rattle.bit_texts.proofs.Inverting.{some_is}
use Rattle.exp_golomb.specs.Code.{Flag}
use Rattle.exp_golomb.specs.Element.{element_at}
use Rattle.exp_golomb.proofs.Fronts.{element-inverts}
use Rattle.h264_types.specs.Kind.{is_skip}
use Rattle.h264_types.specs.LastRows.{LastRows, AreRows}
use Rattle.h264_types.specs.Slice.{inferred_field}
use Rattle.h264_types.specs.declared.macroblock.Mb.{Mb}
use Rattle.h264_types.specs.declared.slice_shape.SliceShape.{SliceShape}
use Rattle.pcm_samples.proofs.AlignmentLaws.{flag_takes}
use Rattle.cavlc_mb_residual.specs.Counts.{counts_of}
use Rattle.cavlc_mb_residual.specs.declared.counts.Counts.{Counts}
use Rattle.cavlc_macroblock.specs.Macroblock.{skipped, macroblock_text}
use Rattle.cavlc_macroblock.proofs.Layers.{text_some}
use Rattle.cavlc_syntax.specs.Reading.{next_field}
use Rattle.cavlc_syntax.specs.SliceText.{HasText, is_bottom, last_field, is_last_skipped, sends_field, around_next, text_after}
use Rattle.cavlc_syntax.specs.Standing.{IsCodedNext, IsBehindRun, IsAheadOfFlag, IsBehindSkipped}
use Rattle.cavlc_syntax.proofs.Members.{read_next, no_field}
use Rattle.cavlc_syntax.proofs.Pairs.{top_is, no_pairs, behind_bottom, behind_top, last_field-push, is_last_skipped-push, sends_behind_top, sends_at_top, sends_never, slice_whole, slice_bottom, slice_top}
use Rattle.cavlc_syntax.proofs.TextParts.{sent_after, body_after, without_flag, with_flag, more_behind, one_behind, text_has_one}

-- ---- what is read of the flag

pub next_bottom : (shape : SliceShape) (known : List Mb) (skips : ℕ) (c : Cursor) → is_bottom shape (length known) ≡ true → next_field shape known skips c ≡ Some (last_field known, c)
unfolding next_field
next_bottom shape known skips c e = rw e refl

pub next_frame : (shape : SliceShape) (known : List Mb) (skips : ℕ) (c : Cursor) → shape.mbaff ≡ false → next_field shape known skips c ≡ Some (false, c)
unfolding next_field
next_frame shape known skips c mbaff = rw mbaff refl

pub next_top : (shape : SliceShape) (known : List Mb) (c : Cursor) → is_bottom shape (length known) ≡ false → shape.mbaff ≡ true → next_field shape known 0 c ≡ element_at Flag c
unfolding next_field
next_top shape known c e mbaff = rw e (rw mbaff refl)

pub next_inferred : (shape : SliceShape) (known : List Mb) (skips : ℕ) (c : Cursor) → is_bottom shape (length known) ≡ false → shape.mbaff ≡ true
    → next_field shape known (suc skips) c ≡ Some (inferred_field shape known (length known / 2), c)
unfolding next_field
next_inferred shape known skips c e mbaff =
    let more : (suc skips == 0) ≡ false = grind (arith, nat_tests) in
    rw e (rw mbaff (rw more refl))

-- the same, by what is kept of the known ones

kept_at : (shape : SliceShape) (rows : LastRows Counts) (b : Bool) (n : ℕ) (known : List Mb) → n ≡ rows.count → b ≡ is_bottom shape n → AreRows counts_of shape rows known → is_bottom shape (length known) ≡ b
kept_at shape rows b n known count half are = ap (is_bottom shape) (sym (count ∙ are.counted)) ∙ sym half

pub kept_bottom : (shape : SliceShape) (rows : LastRows Counts) (last : Bool) (skips : ℕ) (c : Cursor) (n : ℕ) (known : List Mb) → n ≡ rows.count → true ≡ is_bottom shape n
    → AreRows counts_of shape rows known → last ≡ last_field known → next_field shape known skips c ≡ Some (last, c)
kept_bottom shape rows last skips c n known count half are same = next_bottom shape known skips c (kept_at shape rows true n known count half are) ∙ ap (λ b. Some (b, c)) (sym same)

pub kept_top : (shape : SliceShape) (rows : LastRows Counts) (skips : ℕ) (c : Cursor) (n : ℕ) (known : List Mb) → n ≡ rows.count → false ≡ is_bottom shape n → shape.mbaff ≡ true → skips ≡ 0
    → AreRows counts_of shape rows known → next_field shape known skips c ≡ element_at Flag c
kept_top shape rows skips c n known count half mbaff none are = ap (λ k. next_field shape known k c) none ∙ next_top shape known c (kept_at shape rows false n known count half are) mbaff

pub kept_inferred : (shape : SliceShape) (rows : LastRows Counts) (skips : ℕ) (c : Cursor) (n m : ℕ) (flag : Bool) (known : List Mb) → n ≡ rows.count → m ≡ rows.count → false ≡ is_bottom shape n → shape.mbaff ≡ true → (skips ≡ 0 → ⊥)
    → AreRows counts_of shape rows known → flag ≡ inferred_field shape known (m / 2) → next_field shape known skips c ≡ Some (flag, c)
kept_inferred shape rows zero c n m flag known count again half mbaff some are is = absurd (some refl)
kept_inferred shape rows (suc skips) c n m flag known count again half mbaff some are is =
    next_inferred shape known skips c (kept_at shape rows false n known count half are) mbaff
    ∙ ap (λ b. Some (b, c)) (ap (λ k. inferred_field shape known (k / 2)) (sym (again ∙ are.counted)) ∙ sym is)

flag_is : (c : Cursor) (b : Bool) (rest : List Bool) → c.left ≡ b ∷ rest → element_at Flag c ≡ Some (b, cursor (c.taken + 1) rest)
flag_is c b rest e = ap (λ (l : List Bool). element_at Flag (cursor c.taken l)) e ∙ (element-inverts Flag).again c.taken b rest refl

-- the flag that is known where none is sent
abbrev given_field : SliceShape → List Mb → Bool
given_field shape known = if is_bottom shape (length known) then last_field known else false

-- The flag isn't sent and known, or it stands before a macroblock that isn't skipped.
abbrev NextFlag : SliceShape → List Mb → Type 0
NextFlag shape known =
    ((sends_field shape known ≡ false) × ((c : Cursor) → next_field shape known 0 c ≡ Some (given_field shape known, c)))
    ⊎ ((sends_field shape known ≡ true) × ((c : Cursor) → next_field shape known 0 c ≡ element_at Flag c))

-- the top of this bottom isn't skipped
abbrev pub IsTopCoded : SliceShape → List Mb → Type 0
IsTopCoded shape known = is_bottom shape (length known) ≡ true → is_last_skipped known ≡ false

next_flag : (shape : SliceShape) (known : List Mb) → IsTopCoded shape known → NextFlag shape known
next_flag shape known coded = by (is_bottom shape (length known)) refl shape.mbaff refl
  where
    given : (b : Bool) → is_bottom shape (length known) ≡ b → given_field shape known ≡ (if b then last_field known else false)
    given b e = ap (λ (x : Bool). if x then last_field known else false) e

    by : (b : Bool) → is_bottom shape (length known) ≡ b → (m : Bool) → shape.mbaff ≡ m → NextFlag shape known
    by true e m f = inl (sends_behind_top shape known e ∙ coded e, λ c. next_bottom shape known 0 c e ∙ ap (λ x. Some (x, c)) (sym (given true e)))
    by false e false f = inl (sends_never shape known f, λ c. next_frame shape known 0 c f ∙ ap (λ x. Some (x, c)) (sym (given false e)))
    by false e true f = inr (sends_at_top shape known f (top_is shape (length known) e f), λ c. next_top shape known c e f)

given_is : (shape : SliceShape) (known : List Mb) (mb : Mb) (tail : List Mb) → HasText shape (known ++ mb ∷ tail) → sends_field shape known ≡ false → mb.field ≡ given_field shape known
given_is shape known mb tail has none = by (is_bottom shape (length known)) refl shape.mbaff refl
  where
    given : (b : Bool) → is_bottom shape (length known) ≡ b → given_field shape known ≡ (if b then last_field known else false)
    given b e = ap (λ (x : Bool). if x then last_field known else false) e

    by : (b : Bool) → is_bottom shape (length known) ≡ b → (m : Bool) → shape.mbaff ≡ m → mb.field ≡ given_field shape known
    by true e m f = slice_bottom shape known mb tail has.slice e ∙ sym (given true e)
    by false e false f = no_field shape mb (read_next shape known mb tail has) f ∙ sym (given false e)
    by false e true f = let sends = sends_at_top shape known f (top_is shape (length known) e f) in absurd cc

-- ---- a macroblock that isn't skipped, behind its flag

pub coded_ahead : (shape : SliceShape) (known : List Mb) (c : Cursor) (mb : Mb) (tail : List Mb) → HasText shape (known ++ mb ∷ tail) → IsTopCoded shape known
    → IsCodedNext shape known c (mb ∷ tail) → IsAheadOfFlag shape known c (mb ∷ tail)
coded_ahead shape known c mb tail has coded h =
    elim (next_flag shape known coded) [
      | inl k ↦
          let same = given_is shape known mb tail has k.0 in (
            given_field shape known,
            c,
            k.1 c,
            (
              h.0,
              same,
              h.1 ∙ ap (λ s. sent_after shape s mb.field known mb tail c.taken) k.0 ∙ without_flag shape mb.field known mb tail c.taken ∙ ap (λ f. body_after shape f known mb tail c.taken) same,
            ),
          )
      | inr k ↦
          let rest = body_after shape mb.field known mb tail (c.taken + 1) in
          let left : c.left ≡ mb.field ∷ rest = h.1 ∙ ap (λ s. sent_after shape s mb.field known mb tail c.taken) k.0 ∙ with_flag shape mb.field known mb tail c.taken in
          (mb.field, cursor (c.taken + 1) rest, k.1 c ∙ flag_is c mb.field rest left, (h.0, refl, refl))
    ]

pub coded_back : (shape : SliceShape) (known : List Mb) (c : Cursor) (tail : List Mb) → IsTopCoded shape known → IsAheadOfFlag shape known c tail → IsCodedNext shape known c tail
coded_back shape known c [] coded a = absurd a.3
coded_back shape known c (mb ∷ tail) coded a =
    let flagged = a.3 in
    elim (next_flag shape known coded) [
      | inl k ↦
          let same = some_is (given_field shape known, c) (a.0, a.1) (sym (k.1 c) ∙ a.2) in
          let left : c.left ≡ body_after shape a.0 known mb tail c.taken = subst (λ (p : Bool × Cursor). p.1.left ≡ body_after shape a.0 known mb tail p.1.taken) (sym same) flagged.2 in
          (flagged.0, left ∙ ap (λ f. body_after shape f known mb tail c.taken) (sym flagged.1) ∙ sym (without_flag shape mb.field known mb tail c.taken) ∙ ap (λ s. sent_after shape s mb.field known mb tail c.taken) (sym k.0))
      | inr k ↦
          let t : Takes (a.0 ∷ []) c a.1 = flag_takes c a.0 a.1 (sym (k.1 c) ∙ a.2) in (
            flagged.0,
            t.parts ∙ ap (λ l. a.0 ∷ l) (flagged.2 ∙ ap (λ n. body_after shape a.0 known mb tail n) t.count) ∙ ap (λ f. f ∷ body_after shape f known mb tail (c.taken + 1)) (sym flagged.1)
                ∙ sym (with_flag shape mb.field known mb tail c.taken) ∙ ap (λ s. sent_after shape s mb.field known mb tail c.taken) (sym k.0),
          )
    ]

-- ---- behind a run

pub to_behind : (shape : SliceShape) (known : List Mb) (left : ℕ) (c : Cursor) (tail : List Mb) → HasText shape (known ++ tail) → IsTopCoded shape known
    → IsBehindRun shape known left c tail → IsBehindSkipped shape known left c tail
unfolding IsBehindRun
to_behind shape known zero c [] has coded h = (slice_whole shape known (subst (HasText shape) (append-nil known) has).slice, h)
to_behind shape known zero c (mb ∷ tail) has coded h = coded_ahead shape known c mb tail has coded h
to_behind shape known (suc left) c tail has coded h = h

pub from_behind : (shape : SliceShape) (known : List Mb) (left : ℕ) (c : Cursor) (tail : List Mb) → IsTopCoded shape known
    → IsBehindSkipped shape known left c tail → IsBehindRun shape known left c tail
unfolding IsBehindRun
from_behind shape known zero c [] coded h = h.1
from_behind shape known zero c (mb ∷ tail) coded h = coded_back shape known c (mb ∷ tail) coded h
from_behind shape known (suc left) c tail coded h = h

no_top : (shape : SliceShape) (known : List Mb) → is_bottom shape (length known) ≡ false → IsTopCoded shape known
no_top shape known e half = absurd cc

-- ---- a skipped macroblock and its flag

-- the flag of a skipped macroblock, and what stands behind it
abbrev pub SkippedAhead : SliceShape → List Mb → Mb → ℕ → Cursor → List Mb → Type 0
SkippedAhead shape known mb left c tail = (d : Cursor) × (next_field shape known left c ≡ Some (mb.field, d)) × IsBehindSkipped shape (known ++ mb ∷ []) left d tail

half_behind : (shape : SliceShape) (known : List Mb) (mb : Mb) → is_bottom shape (length known) ≡ false → shape.mbaff ≡ true → is_bottom shape (length (known ++ mb ∷ [])) ≡ true
half_behind shape known mb e f = ap (is_bottom shape) (length-append known (mb ∷ [])) ∙ behind_top shape (length known) e f

whole_behind : (shape : SliceShape) (known : List Mb) (mb : Mb) → is_bottom shape (length known) ≡ true → is_bottom shape (length (known ++ mb ∷ [])) ≡ false
whole_behind shape known mb e = ap (is_bottom shape) (length-append known (mb ∷ [])) ∙ behind_bottom shape (length known) e

top_ahead : (shape : SliceShape) (known : List Mb) (mb : Mb) (left : ℕ) (c : Cursor) (tail : List Mb) → HasText shape (known ++ mb ∷ tail) → is_skip mb.kind ≡ true → is_bottom shape (length known) ≡ false → shape.mbaff ≡ true
    → IsBehindRun shape (known ++ mb ∷ []) left c tail → SkippedAhead shape known mb left c tail
unfolding IsBehindRun
top_ahead shape known mb zero c [] has skips e f h =
    let whole = slice_whole shape (known ++ mb ∷ []) has.slice in
    let half = half_behind shape known mb e f in
    absurd cc
top_ahead shape known mb zero c (x ∷ tail) has skips e f h =
    let now = known ++ mb ∷ [] in
    let half = half_behind shape known mb e f in
    let sends : sends_field shape now ≡ true = sends_behind_top shape now half ∙ is_last_skipped-push known mb ∙ skips in
    let same : mb.field ≡ x.field = (slice_top shape known mb x tail has.slice f (top_is shape (length known) e f)).same in
    let last : x.field ≡ last_field now = sym same ∙ sym (last_field-push known mb) in
    let rest = body_after shape x.field now x tail (c.taken + 1) in
    let left : c.left ≡ x.field ∷ rest = h.1 ∙ ap (λ s. sent_after shape s x.field now x tail c.taken) sends ∙ with_flag shape x.field now x tail c.taken in
    let d : Cursor = cursor (c.taken + 1) rest in (
      d,
      next_top shape known c e f ∙ flag_is c x.field rest left ∙ ap (λ b. Some (b, d)) (sym same),
      (last_field now, d, next_bottom shape now 0 d half, (h.0, last, ap (λ b. body_after shape b now x tail (c.taken + 1)) last)),
    )
top_ahead shape known mb (suc left) c [] has skips e f h = absurd h
top_ahead shape known mb (suc left) c (x ∷ tail) has skips e f h =
    let top = slice_top shape known mb x tail has.slice f (top_is shape (length known) e f) in
    (c, next_inferred shape known left c e f ∙ ap (λ b. Some (b, c)) (sym (top.inferred skips h.0)), h)

pub skipped_ahead : (shape : SliceShape) (known : List Mb) (mb : Mb) (left : ℕ) (c : Cursor) (tail : List Mb) → HasText shape (known ++ mb ∷ tail) → is_skip mb.kind ≡ true
    → IsBehindRun shape (known ++ mb ∷ []) left c tail → SkippedAhead shape known mb left c tail
skipped_ahead shape known mb left c tail has skips h = by (is_bottom shape (length known)) refl shape.mbaff refl
  where
    whole : is_bottom shape (length (known ++ mb ∷ [])) ≡ false → IsBehindSkipped shape (known ++ mb ∷ []) left c tail
    whole e = to_behind shape (known ++ mb ∷ []) left c tail (subst (HasText shape) (sym (append_assoc known (mb ∷ []) tail)) has) (no_top shape (known ++ mb ∷ []) e) h

    by : (b : Bool) → is_bottom shape (length known) ≡ b → (m : Bool) → shape.mbaff ≡ m → SkippedAhead shape known mb left c tail
    by true e m f = (c, next_bottom shape known left c e ∙ ap (λ x. Some (x, c)) (sym (slice_bottom shape known mb tail has.slice e)), whole (whole_behind shape known mb e))
    by false e false f = (c, next_frame shape known left c f ∙ ap (λ x. Some (x, c)) (sym (no_field shape mb (read_next shape known mb tail has) f)), whole (no_pairs shape (length (known ++ mb ∷ [])) f))
    by false e true f = top_ahead shape known mb left c tail has skips e f h

top_back : (shape : SliceShape) (known : List Mb) (field : Bool) (left : ℕ) (c d : Cursor) (tail : List Mb) → is_bottom shape (length known) ≡ false → shape.mbaff ≡ true → next_field shape known left c ≡ Some (field, d)
    → IsBehindSkipped shape (known ++ skipped field ∷ []) left d tail → IsBehindRun shape (known ++ skipped field ∷ []) left c tail
unfolding IsBehindRun
top_back shape known field zero c d [] e f read h =
    let half = half_behind shape known (skipped field) e f in
    let whole = h.0 in
    absurd cc
top_back shape known field zero c d (x ∷ tail) e f read a =
    let now = known ++ skipped field ∷ [] in
    let half = half_behind shape known (skipped field) e f in
    let sends : sends_field shape now ≡ true = sends_behind_top shape now half ∙ is_last_skipped-push known (skipped field) in
    let same = some_is (last_field now, d) (a.0, a.1) (sym (next_bottom shape now 0 d half) ∙ a.2) in
    let flagged = a.3 in
    let own : a.0 ≡ field = sym (ap (λ (p : Bool × Cursor). p.0) same) ∙ last_field-push known (skipped field) in
    let flag : x.field ≡ field = flagged.1 ∙ own in
    let left : d.left ≡ body_after shape a.0 now x tail d.taken = subst (λ (p : Bool × Cursor). p.1.left ≡ body_after shape a.0 now x tail p.1.taken) (sym same) flagged.2 in
    let t : Takes (field ∷ []) c d = flag_takes c field d (sym (next_top shape known c e f) ∙ read) in (
      flagged.0,
      t.parts ∙ ap (λ l. field ∷ l) (left ∙ ap (λ n. body_after shape a.0 now x tail n) t.count ∙ ap (λ b. body_after shape b now x tail (c.taken + 1)) own) ∙ ap (λ b. b ∷ body_after shape b now x tail (c.taken + 1)) (sym flag)
          ∙ sym (with_flag shape x.field now x tail c.taken) ∙ ap (λ s. sent_after shape s x.field now x tail c.taken) (sym sends),
    )
top_back shape known field (suc left) c d tail e f read h =
    let same = some_is (inferred_field shape known (length known / 2), c) (field, d) (sym (next_inferred shape known left c e f) ∙ read) in
    subst (λ (p : Bool × Cursor). IsBehindRun shape (known ++ skipped field ∷ []) (suc left) p.1 tail) (sym same) h

pub skipped_back : (shape : SliceShape) (known : List Mb) (field : Bool) (left : ℕ) (c d : Cursor) (tail : List Mb) → next_field shape known left c ≡ Some (field, d)
    → IsBehindSkipped shape (known ++ skipped field ∷ []) left d tail → IsBehindRun shape (known ++ skipped field ∷ []) left c tail
skipped_back shape known field left c d tail read h = by (is_bottom shape (length known)) refl shape.mbaff refl
  where
    whole : (b : Bool) → next_field shape known left c ≡ Some (b, c) → is_bottom shape (length (known ++ skipped field ∷ [])) ≡ false → IsBehindRun shape (known ++ skipped field ∷ []) left c tail
    whole b there e =
        let same = some_is (b, c) (field, d) (sym there ∙ read) in
        subst (λ (p : Bool × Cursor). IsBehindRun shape (known ++ skipped field ∷ []) left p.1 tail) (sym same)
        (from_behind shape (known ++ skipped field ∷ []) left d tail (no_top shape (known ++ skipped field ∷ []) e) h)

    by : (b : Bool) → is_bottom shape (length known) ≡ b → (m : Bool) → shape.mbaff ≡ m → IsBehindRun shape (known ++ skipped field ∷ []) left c tail
    by true e m f = whole (last_field known) (next_bottom shape known left c e) (whole_behind shape known (skipped field) e)
    by false e false f = whole false (next_frame shape known left c f) (no_pairs shape (length (known ++ skipped field ∷ [])) f)
    by false e true f = top_back shape known field left c d tail e f read h

-- ---- a macroblock is no end

next_parts : (shape : SliceShape) (known : List Mb) (c : Cursor) (field : Bool) (d : Cursor) → next_field shape known 0 c ≡ Some (field, d) → (c ≡ d) ⊎ (c.left ≡ field ∷ d.left)
next_parts shape known c field d read = by (is_bottom shape (length known)) refl shape.mbaff refl
  where
    by : (b : Bool) → is_bottom shape (length known) ≡ b → (m : Bool) → shape.mbaff ≡ m → (c ≡ d) ⊎ (c.left ≡ field ∷ d.left)
    by true e m f = inl (ap (λ (p : Bool × Cursor). p.1) (some_is (last_field known, c) (field, d) (sym (next_bottom shape known 0 c e) ∙ read)))
    by false e false f = inl (ap (λ (p : Bool × Cursor). p.1) (some_is (false, c) (field, d) (sym (next_frame shape known 0 c f) ∙ read)))
    by false e true f = inr (flag_takes c field d (sym (next_top shape known c e f) ∙ read)).parts

pub ahead_more : (shape : SliceShape) (known : List Mb) (c : Cursor) (mb : Mb) (tail : List Mb) → IsAheadOfFlag shape known c (mb ∷ tail) → more_data c.left ≡ true
ahead_more shape known c mb tail a =
    let d = a.1 in
    let text = macroblock_text shape (around_next shape a.0 known) d.taken mb in
    let rest = text_after shape (d.taken + length text) (known ++ mb ∷ []) 0 tail in
    let one = text_has_one shape (d.taken + length text) (known ++ mb ∷ []) 0 tail in
    elim (next_parts shape known c a.0 d a.2) [
      | inl same ↦ ap (λ (k : Cursor). more_data k.left) same ∙ ap more_data a.3.2 ∙ more_behind text rest (text_some shape (around_next shape a.0 known) d.taken mb) one
      | inr left ↦ ap more_data (left ∙ ap (λ l. a.0 ∷ l) a.3.2) ∙ more_behind (a.0 ∷ []) (text ++ rest) (omega arith) (one_behind text rest one)
    ]
