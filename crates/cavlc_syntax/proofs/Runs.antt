-- The mb_skip_run at the front of a text, and the macroblocks behind it.
use Rattle.std.proofs.Common.{◌≡◌, inl, inr, ℕ, zero, suc, ◌+◌, ◌<◌, ◌≤◌, min, Bool, true, false, leb, List, [], ◌∷◌, ◌++◌, length, Some, None, refl, sym, ap, subst, ◌∙◌, arith}
use Rattle.std.specs.Prelude.{All, ◌==◌}
use Rattle.std.proofs.lemmas.Bool.Decides.{nat_tests}
use Rattle.std.proofs.lemmas.List.Elements.{All-head, All-tail}
use Rattle.bit_texts.specs.Bits.{more_data}
use Rattle.bit_texts.specs.Cursor.{Cursor, cursor, Takes}
use Rattle.bit_texts.proofs.Inverting.{some_is}
use Rattle.exp_golomb.specs.Code.{Ue, ue}
use Rattle.exp_golomb.specs.Element.{element_at}
use Rattle.exp_golomb.proofs.Fronts.{element-inverts, in_ue}
use Rattle.h264_types.specs.Kind.{is_skip}
use Rattle.h264_types.specs.Valid.{is_kind_in}
use Rattle.h264_types.specs.declared.macroblock.Mb.{Mb}
use Rattle.h264_types.specs.declared.macroblock.MbKind.TheVariants.{Skip}
use Rattle.h264_types.specs.declared.slice_shape.SliceKind.{SliceKind}
use Rattle.h264_types.specs.declared.slice_shape.SliceKind.TheVariants as slices
use Rattle.h264_types.specs.declared.slice_shape.SliceShape.{SliceShape}
use Rattle.cavlc_syntax.specs.Reading.{run_at, IsSkipped, IsRead}
use Rattle.cavlc_syntax.specs.SliceText.{stop_text, run_text, last_run_text, coded_text, text_after}
use Rattle.cavlc_syntax.specs.Standing.{IsCodedNext, IsBehindRun}
use Rattle.cavlc_macroblock.proofs.Layers.{ue_some}
use Rattle.cavlc_syntax.proofs.Members.{is_skipped}
use Rattle.cavlc_syntax.proofs.TextParts.{HasOne, one_behind, more_behind, stop_no_more, coded_some, coded_after, run_after, end_text, text_end, text_skip, text_coded, text_has_one}

-- ---- mb_skip_run

-- I slices have no skipped macroblock
abbrev pub MaySkip : SliceKind → ℕ → Type 0
MaySkip kind run = 0 < run → is_kind_in kind Skip ≡ true

most_of : (room run : ℕ) → leb run (min room 4294967294) ≡ true → run ≤ room
most_of room run h = grind (arith, nat_tests)

pub run_takes : (kind : SliceKind) (room run : ℕ) (c d : Cursor) → run_at kind room None c ≡ Some (run, d) → Takes (run_text kind run) c d × (run ≤ room) × MaySkip kind run
unfolding run_at
run_takes slices.I room run c d e =
    let same : ◌≡◌ {A = ℕ × Cursor} (0, c) (run, d) = some_is (0, c) (run, d) e in
    subst (λ (p : ℕ × Cursor). Takes [] c p.1 × (p.0 ≤ room) × MaySkip slices.I p.0) same (record { parts = refl; count = omega arith }, omega arith, λ h. absurd (omega arith))
run_takes slices.P room run c d e = let t = (element-inverts (Ue room)).takes c run d e in (t.1, most_of room run t.0, λ h. refl)
run_takes slices.B room run c d e = let t = (element-inverts (Ue room)).takes c run d e in (t.1, most_of room run t.0, λ h. refl)

pub run_reads : (kind : SliceKind) (room run : ℕ) (c : Cursor) (rest : List Bool) → run ≤ room → room ≤ 4294967294 → MaySkip kind run → c.left ≡ run_text kind run ++ rest
    → run_at kind room None c ≡ Some (run, cursor (c.taken + length (run_text kind run)) rest)
unfolding run_at
run_reads slices.I room zero c rest few most may e = let k : c.taken + 0 ≡ c.taken = omega arith in rw k (ap (λ (l : List Bool). Some (0, cursor c.taken l)) e)
run_reads slices.I room (suc run) c rest few most may e = let bad : false ≡ true = may (omega arith) in absurd cc
run_reads slices.P room run c rest few most may e = ap (λ (l : List Bool). element_at (Ue room) (cursor c.taken l)) e ∙ (element-inverts (Ue room)).again c.taken run rest (in_ue room run few most)
run_reads slices.B room run c rest few most may e = ap (λ (l : List Bool). element_at (Ue room) (cursor c.taken l)) e ∙ (element-inverts (Ue room)).again c.taken run rest (in_ue room run few most)

-- no mb_skip_run begins another one
pub run_same : (kind : SliceKind) (run other : ℕ) (x y : List Bool) → run ≤ 4294967294 → other ≤ 4294967294 → MaySkip kind run → MaySkip kind other → run_text kind run ++ x ≡ run_text kind other ++ y → (run ≡ other) × (x ≡ y)
run_same kind run other x y few few' may may' e =
    let c : Cursor = cursor 0 (run_text kind run ++ x) in
    let one = run_reads kind 4294967294 run c x few (omega arith) may refl in
    let two = run_reads kind 4294967294 other c y few' (omega arith) may' e in
    let same = some_is (run, cursor (0 + length (run_text kind run)) x) (other, cursor (0 + length (run_text kind other)) y) (sym one ∙ two) in
    (ap (λ (p : ℕ × Cursor). p.0) same, ap (λ (p : ℕ × Cursor). p.1.left) same)

pub last_is : (kind : SliceKind) (run : ℕ) → 0 < run → last_run_text kind run ≡ run_text kind run
last_is kind run some = let e : (run == 0) ≡ false = grind (arith, nat_tests) in rw e refl

-- ---- the front of a text

-- A text begins with an mb_skip_run, of `run` skipped macroblocks before and `count` of those to come.
record Front (shape : SliceShape) (n : ℕ) (known : List Mb) (run : ℕ) (tail : List Mb) (bits : List Bool) : Type 0 where
  count : ℕ
  rest : List Bool
  parts : bits ≡ run_text shape.kind (run + count) ++ rest
  behind : IsBehindRun shape known count (cursor (n + length (run_text shape.kind (run + count))) rest) tail
  few : count ≤ length tail
  may : MaySkip shape.kind count

text_front : (shape : SliceShape) (n : ℕ) (known : List Mb) (run : ℕ) (tail : List Mb) → All (IsRead shape) tail → 0 < run + length tail → Front shape n known run tail (text_after shape n known run tail)
unfolding IsBehindRun
text_front shape n known run [] are some =
    let first = run_text shape.kind (run + 0) in
    let same : last_run_text shape.kind run ≡ first = last_is shape.kind run (omega (arith, some)) ∙ ap (run_text shape.kind) (omega arith) in
    record {
      count = 0;
      rest = stop_text (n + length first);
      parts = text_end shape n known run ∙ ap (end_text n) same;
      behind = refl;
      few = omega arith;
      may = λ h. absurd (omega arith);
    }
text_front shape n known run (mb ∷ tail) are some =
    by (All-head (IsRead shape) mb tail are) (text_front shape n (known ++ mb ∷ []) (run + 1) tail (All-tail (IsRead shape) mb tail are) (omega arith))
  where
    coded : is_skip mb.kind ≡ false → Front shape n known run (mb ∷ tail) (text_after shape n known run (mb ∷ tail))
    coded e = record {
      count = 0;
      rest = coded_after shape known mb tail (n + length (run_text shape.kind (run + 0)));
      parts = text_coded shape n known run mb tail e ∙ ap (run_after shape known mb tail n) (omega arith);
      behind = (e, refl);
      few = omega arith;
      may = λ h. absurd (omega arith);
    }

    skips : IsSkipped shape mb → Front shape n (known ++ mb ∷ []) (run + 1) tail (text_after shape n (known ++ mb ∷ []) (run + 1) tail) → Front shape n known run (mb ∷ tail) (text_after shape n known run (mb ∷ tail))
    skips is f =
        let more : run + 1 + f.count ≡ run + suc f.count = omega arith in
        record {
          count = suc f.count;
          rest = f.rest;
          parts = text_skip shape n known run mb tail (is_skipped shape mb is) ∙ f.parts ∙ ap (λ r. run_text shape.kind r ++ f.rest) more;
          behind = (is_skipped shape mb is, subst (λ r. IsBehindRun shape (known ++ mb ∷ []) f.count (cursor (n + length (run_text shape.kind r)) f.rest) tail) more f.behind);
          few = omega (arith, f.few);
          may = λ h. is.kind;
        }

    by : IsRead shape mb → Front shape n (known ++ mb ∷ []) (run + 1) tail (text_after shape n (known ++ mb ∷ []) (run + 1) tail) → Front shape n known run (mb ∷ tail) (text_after shape n known run (mb ∷ tail))
    by (inl is) f = coded is.sent
    by (inr is) f = skips is f

-- and what begins so is the text
text_back : (shape : SliceShape) (n : ℕ) (known : List Mb) (run : ℕ) (tail : List Mb) (count : ℕ) (d : Cursor) → d.taken ≡ n + length (run_text shape.kind (run + count)) → 0 < run + length tail
    → IsBehindRun shape known count d tail → run_text shape.kind (run + count) ++ d.left ≡ text_after shape n known run tail
unfolding IsBehindRun
text_back shape n known run [] zero d far some left =
    let first = run_text shape.kind (run + 0) in
    let same : last_run_text shape.kind run ≡ first = last_is shape.kind run (omega (arith, some)) ∙ ap (run_text shape.kind) (omega arith) in
    ap (λ l. first ++ l) (left ∙ ap stop_text far) ∙ sym (ap (end_text n) same) ∙ sym (text_end shape n known run)
text_back shape n known run [] (suc count) d far some left = absurd left
text_back shape n known run (mb ∷ tail) zero d far some left =
    let same : run + 0 ≡ run = omega arith in
    ap (λ l. run_text shape.kind (run + 0) ++ l) (left.1 ∙ ap (coded_after shape known mb tail) far) ∙ ap (run_after shape known mb tail n) same ∙ sym (text_coded shape n known run mb tail left.0)
text_back shape n known run (mb ∷ tail) (suc count) d far some left =
    let more : run + suc count ≡ run + 1 + count = omega arith in
    ap (λ r. run_text shape.kind r ++ d.left) more
    ∙ text_back shape n (known ++ mb ∷ []) (run + 1) tail count d (far ∙ ap (λ r. n + length (run_text shape.kind r)) more) (omega arith) left.1
    ∙ sym (text_skip shape n known run mb tail left.0)

-- ---- the front of a text behind a macroblock that isn't skipped

pub record First (shape : SliceShape) (n : ℕ) (known tail : List Mb) (bits : List Bool) : Type 0 where
  pub count : ℕ
  pub rest : List Bool
  pub parts : bits ≡ run_text shape.kind count ++ rest
  pub behind : IsBehindRun shape known count (cursor (n + length (run_text shape.kind count)) rest) tail
  pub few : count ≤ length tail
  pub may : MaySkip shape.kind count

pub text_first : (shape : SliceShape) (n : ℕ) (known : List Mb) (mb : Mb) (tail : List Mb) → All (IsRead shape) (mb ∷ tail) → First shape n known (mb ∷ tail) (text_after shape n known 0 (mb ∷ tail))
text_first shape n known mb tail are =
    let f = text_front shape n known 0 (mb ∷ tail) are (omega arith) in
    let same : 0 + f.count ≡ f.count = omega arith in
    record {
      count = f.count;
      rest = f.rest;
      parts = f.parts ∙ ap (λ r. run_text shape.kind r ++ f.rest) same;
      behind = subst (λ r. IsBehindRun shape known f.count (cursor (n + length (run_text shape.kind r)) f.rest) (mb ∷ tail)) same f.behind;
      few = f.few;
      may = f.may;
    }

pub first_back : (shape : SliceShape) (n : ℕ) (known tail : List Mb) (count : ℕ) (d : Cursor) → d.taken ≡ n + length (run_text shape.kind count) → 0 < length tail
    → IsBehindRun shape known count d tail → run_text shape.kind count ++ d.left ≡ text_after shape n known 0 tail
first_back shape n known tail count d far some left =
    let same : count ≡ 0 + count = omega arith in
    ap (λ r. run_text shape.kind r ++ d.left) same ∙ text_back shape n known 0 tail count d (far ∙ ap (λ r. n + length (run_text shape.kind r)) same) (omega (arith, some)) left

-- ---- a macroblock is no end

behind_has_one : (shape : SliceShape) (known : List Mb) (count : ℕ) (d : Cursor) (tail : List Mb) → IsBehindRun shape known count d tail → HasOne d.left
unfolding IsBehindRun
behind_has_one shape known zero d [] left = subst HasOne (sym left) refl
behind_has_one shape known zero d (mb ∷ tail) left =
    let text = coded_text shape d.taken known mb in
    subst HasOne (sym left.1) (one_behind text _ (text_has_one shape (d.taken + length text) (known ++ mb ∷ []) 0 tail))
behind_has_one shape known (suc count) d [] left = absurd left
behind_has_one shape known (suc count) d (mb ∷ tail) left = behind_has_one shape (known ++ mb ∷ []) count d tail left.1

pub coded_more : (shape : SliceShape) (known : List Mb) (d : Cursor) (mb : Mb) (tail : List Mb) → IsCodedNext shape known d (mb ∷ tail) → more_data d.left ≡ true
coded_more shape known d mb tail left =
    let text = coded_text shape d.taken known mb in
    ap more_data left.1 ∙ more_behind text _ (coded_some shape d.taken known mb) (text_has_one shape (d.taken + length text) (known ++ mb ∷ []) 0 tail)

run_more : (kind : SliceKind) (run : ℕ) (rest : List Bool) → HasOne rest → (kind ≡ slices.I → more_data rest ≡ true) → more_data (run_text kind run ++ rest) ≡ true
run_more slices.I run rest one more = more refl
run_more slices.P run rest one more = more_behind (ue run) rest (ue_some run) one
run_more slices.B run rest one more = more_behind (ue run) rest (ue_some run) one

-- a further macroblock stands where more_rbsp_data is true
pub text_more : (shape : SliceShape) (n : ℕ) (known : List Mb) (mb : Mb) (tail : List Mb) → All (IsRead shape) (mb ∷ tail) → more_data (text_after shape n known 0 (mb ∷ tail)) ≡ true
unfolding IsBehindRun
text_more shape n known mb tail are =
    let f = text_first shape n known mb tail are in
    ap more_data f.parts ∙ run_more shape.kind f.count f.rest (behind_has_one shape known f.count _ (mb ∷ tail) f.behind) (λ e. in_i f.count f.may e _ f.behind)
  where
    in_i : (count : ℕ) → MaySkip shape.kind count → shape.kind ≡ slices.I → (d : Cursor) → IsBehindRun shape known count d (mb ∷ tail) → more_data d.left ≡ true
    in_i zero may e d left = coded_more shape known d mb tail left
    in_i (suc count) may e d left = let bad : false ≡ true = ap (λ (kind : SliceKind). is_kind_in kind Skip) (sym e) ∙ may (omega arith) in absurd cc

pub no_stop : (shape : SliceShape) (n : ℕ) (known : List Mb) (mb : Mb) (tail : List Mb) → All (IsRead shape) (mb ∷ tail) → stop_text n ≡ text_after shape n known 0 (mb ∷ tail) → ⊥
no_stop shape n known mb tail are e =
    let some : more_data (text_after shape n known 0 (mb ∷ tail)) ≡ true = text_more shape n known mb tail are in
    let none : more_data (stop_text n) ≡ false = stop_no_more n in
    let same : more_data (stop_text n) ≡ more_data (text_after shape n known 0 (mb ∷ tail)) = ap more_data e in
    absurd cc
