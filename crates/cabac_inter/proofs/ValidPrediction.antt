-- What bins spell is a valid prediction.
use Rattle.std.proofs.Common.{◌≡◌, ℕ, zero, suc, ◌<◌, ◌≤◌, ℤ, Bool, true, false, List, [], length, take, get_or, inl, inr, refl, sym, ap, subst, ◌∙◌, arith}
use Rattle.std.specs.Prelude.{slice_set}
use Rattle.std.specs.List.{AllByRecursion}
use Rattle.std.proofs.lemmas.Bool.{cases_lt}
use Rattle.std.proofs.lemmas.List.{length-set, length-take-le, get_or-take, get_or_past, get_or_default, get_or-set_same, get_or-set_other}
use Rattle.std.proofs.lemmas.List.Elements.{recursion_from_All}
use Rattle.bit_texts.specs.Texts.{IsWhen}
use Rattle.cabac_engine.specs.Bins.{Slot}
use Rattle.binarisation.specs.BinString.{Spells, ◌>>=◌}
use Rattle.binarisation.proofs.OneString.{splits}
use Rattle.h264_types.specs.Sizes.{HasSizes}
use Rattle.h264_types.specs.Valid.{IsInterPredicted}
use Rattle.h264_types.specs.declared.macroblock.Mb.{Mb}
use Rattle.h264_types.specs.declared.slice_shape.SliceShape.{SliceShape}
use Rattle.h264_types.proofs.Lists.{two_all}
use Rattle.cavlc_inter.specs.declared.parts.Parts.{Parts}
use Rattle.cavlc_inter.specs.Parts.{first_of, AreElements}
use Rattle.cavlc_inter.specs.InterPrediction.{no_vector, has_mvd, IsVector, AreSubsIf, AreRefs, AreMvds}
use Rattle.h264_types.specs.Partition.{part_of}
use Rattle.cavlc_inter.proofs.Elements.{elements_at, elements_length}
use Rattle.cavlc_inter.proofs.InterValid.{from_inter}
use Rattle.cabac_inter.specs.InterPrediction.{greatest_at, subs, refs, mvds, inter_prediction}
use Rattle.cabac_inter.proofs.OnePrediction.{Fits, fits_of, fits_refs, fits_mvds}
use Rattle.cabac_inter.proofs.SpelledLists.{subs_kept, refs_kept, mvds_kept}

-- ---- what all elements of places have, where those that are sent have it and none

module _ {A : Type 0} (P : A → Type 0) (count : ℕ) (part : ℕ → ℕ) (has : ℕ → Bool) (none : A) (Is : A → Type 0) (xs : List A) (are : AreElements count part has none Is xs) (empty : P none) (there : (v : A) → Is v → P v) where
  of_when : (b : Bool) (repeated v : A) → P repeated → IsWhen b repeated Is v → P v
  of_when true repeated v p h = there v h
  of_when false repeated v p h = subst P (sym h) p

  before : (n : ℕ) → n ≤ length xs → ((k : ℕ) → k < n → P (get_or xs k none)) → (k : ℕ) → P (get_or (take n xs) k none)
  before n inside earlier k =
      elim (cases_lt k n) [
        | inl less ↦ subst P (sym (get_or-take n xs k none less)) (earlier k less)
        | inr past ↦ subst P (sym (get_or_past (take n xs) k none (let size = length-take-le n xs inside in omega (arith, past, size)))) empty
      ]

  up_to_place : (n : ℕ) → n ≤ count → (i : ℕ) → i < n → P (get_or xs i none)
  up_to_place zero most i h = absurd (omega (arith, h))
  up_to_place (suc n) most i h =
      elim (cases_lt i n) [
        | inl less ↦ up_to_place n (omega (arith, most)) i less
        | inr here ↦ next n (omega (arith, most)) (up_to_place n (omega (arith, most))) i (omega (arith, h, here))
      ]
    where
      next : (n : ℕ) → n < count → ((k : ℕ) → k < n → P (get_or xs k none)) → (i : ℕ) → i ≡ n → P (get_or xs i none)
      next n below earlier i e =
          let inside : n ≤ length xs = let size = elements_length count part has none Is xs are in omega (arith, size, below) in
          subst (λ k. P (get_or xs k none)) (sym e)
          (of_when _ _ (get_or xs n none) (before n inside earlier (first_of part (length (take n xs)))) (elements_at count part has none Is xs are n none below))

  pub all_elements : AllByRecursion P xs
  all_elements =
      let size = elements_length count part has none Is xs are in
      recursion_from_All P xs (λ i d h. subst P (get_or_default xs i none d h) (up_to_place count (omega arith) i (omega (arith, h, size))))

-- ---- what a prediction was made of

pub record Made (shape : SliceShape) (mb made : Mb) : Type 0 where
  pub subs : List ℕ
  pub r0 : List ℕ
  pub r1 : List ℕ
  pub m0 : List (List ℤ)
  pub m1 : List (List ℤ)
  pub are_subs : AreSubsIf mb.kind subs
  pub sizes : (length subs ≡ 4) × (length r0 ≡ 4) × (length r1 ≡ 4) × (length m0 ≡ 16) × (length m1 ≡ 16)
  pub are_r0 : AreRefs (record { kind = mb.kind; subs = subs }) 0 (greatest_at shape mb 0) r0
  pub are_r1 : AreRefs (record { kind = mb.kind; subs = subs }) 1 (greatest_at shape mb 1) r1
  pub are_m0 : AreMvds (record { kind = mb.kind; subs = subs }) 0 m0
  pub are_m1 : AreMvds (record { kind = mb.kind; subs = subs }) 1 m1
  pub is : made ≡ record mb { subs = subs; refs = slice_set (slice_set mb.refs 0 r0) 1 r1; mvd = slice_set (slice_set mb.mvd 0 m0) 1 m1 }

module _ (shape : SliceShape) (done : List Mb) (at : ℕ) (mb : Mb) (sizes : HasSizes mb) where
  abbrev state : List ℕ → List (List ℕ) → List (List (List ℤ)) → Mb
  state s rs ms = record mb { subs = s; refs = rs; mvd = ms }

  refs_stage : (x : ℕ) (s : List ℕ) (rs : List (List ℕ)) (ms : List (List (List ℤ))) (m v : Mb) (bins : List (Slot × Bool)) → x < 2 → Fits (state s rs ms) → m ≡ state s rs ms → Spells (refs shape done at x m) bins v
      → (r : List ℕ) × AreRefs (record { kind = mb.kind; subs = s }) x (greatest_at shape mb x) r × (length r ≡ 4) × (v ≡ state s (slice_set rs x r) ms)
  refs_stage x s rs ms m v bins h fits e spelled =
      refs_kept shape done at x (state s rs ms) (let size = fits.refs in omega (arith, h, size)) (fits.refs_of x h) bins v (subst (λ (n : Mb). Spells (refs shape done at x n) bins v) e spelled)

  mvds_stage : (x : ℕ) (s : List ℕ) (rs : List (List ℕ)) (ms : List (List (List ℤ))) (m v : Mb) (bins : List (Slot × Bool)) → x < 2 → Fits (state s rs ms) → m ≡ state s rs ms → Spells (mvds shape done at x m) bins v
      → (u : List (List ℤ)) × AreMvds (record { kind = mb.kind; subs = s }) x u × (length u ≡ 16) × (v ≡ state s rs (slice_set ms x u))
  mvds_stage x s rs ms m v bins h fits e spelled =
      mvds_kept shape done at x (state s rs ms) (let size = fits.mvd in omega (arith, h, size)) (fits.mvds_of x h) bins v (subst (λ (n : Mb). Spells (mvds shape done at x n) bins v) e spelled)

  -- by what follows the indices, and by all that follows sub_mb_type
  with_vectors : (s r0 r1 : List ℕ) (d e made : Mb) (bins others : List (Slot × Bool)) → AreSubsIf mb.kind s → length s ≡ 4 → length r0 ≡ 4 → length r1 ≡ 4
      → AreRefs (record { kind = mb.kind; subs = s }) 0 (greatest_at shape mb 0) r0 → AreRefs (record { kind = mb.kind; subs = s }) 1 (greatest_at shape mb 1) r1
      → Fits (state s (slice_set (slice_set mb.refs 0 r0) 1 r1) mb.mvd) → d ≡ state s (slice_set (slice_set mb.refs 0 r0) 1 r1) mb.mvd
      → Spells (mvds shape done at 0 d) bins e → Spells (mvds shape done at 1 e) others made → Made shape mb made
  with_vectors s r0 r1 d e made bins others are_s size size0 size1 are0 are1 fits is first second =
      let rs = slice_set (slice_set mb.refs 0 r0) 1 r1 in
      let a = mvds_stage 0 s rs mb.mvd d e bins (omega arith) fits is first in
      let b = mvds_stage 1 s rs (slice_set mb.mvd 0 a.0) e made others (omega arith) (fits_mvds 0 (state s rs mb.mvd) a.0 (omega arith) a.2 fits) a.3 second in
      record {
        subs = s;
        r0 = r0;
        r1 = r1;
        m0 = a.0;
        m1 = b.0;
        are_subs = are_s;
        sizes = (size, size0, size1, a.2, b.2);
        are_r0 = are0;
        are_r1 = are1;
        are_m0 = a.1;
        are_m1 = b.1;
        is = b.3;
      }

  with_indices : (s : List ℕ) (a b d e made : Mb) (bins more others last : List (Slot × Bool)) → AreSubsIf mb.kind s → length s ≡ 4 → a ≡ state s mb.refs mb.mvd
      → Spells (refs shape done at 0 a) bins b → Spells (refs shape done at 1 b) more d → Spells (mvds shape done at 0 d) others e → Spells (mvds shape done at 1 e) last made → Made shape mb made
  with_indices s a b d e made bins more others last are size is first second third fourth =
      let start = fits_of mb sizes in
      let fits : Fits (state s mb.refs mb.mvd) = record { refs = start.refs; mvd = start.mvd; refs_of = start.refs_of; mvds_of = start.mvds_of } in
      let u = refs_stage 0 s mb.refs mb.mvd a b bins (omega arith) fits is first in
      let fits' : Fits (state s (slice_set mb.refs 0 u.0) mb.mvd) = fits_refs 0 (state s mb.refs mb.mvd) u.0 (omega arith) u.2 fits in
      let v = refs_stage 1 s (slice_set mb.refs 0 u.0) mb.mvd b d more (omega arith) fits' u.3 second in
      with_vectors s u.0 v.0 d e made others last are size u.2 v.2 u.1 v.1 (fits_refs 1 (state s (slice_set mb.refs 0 u.0) mb.mvd) v.0 (omega arith) v.2 fits') v.3 third fourth

  pub prediction_made : (bins : List (Slot × Bool)) (made : Mb) → Spells (inter_prediction shape done at mb) bins made → Made shape mb made
  unfolding inter_prediction
  prediction_made bins made h =
      let p4 = splits (subs mb >>= refs shape done at 0 >>= refs shape done at 1 >>= mvds shape done at 0) (mvds shape done at 1) bins made h in
      let p3 = splits (subs mb >>= refs shape done at 0 >>= refs shape done at 1) (mvds shape done at 0) p4.1 p4.0 p4.4 in
      let p2 = splits (subs mb >>= refs shape done at 0) (refs shape done at 1) p3.1 p3.0 p3.4 in
      let p1 = splits (subs mb) (refs shape done at 0) p2.1 p2.0 p2.4 in
      let a = subs_kept mb sizes.subs p1.1 p1.0 p1.4 in
      with_indices a.0 p1.0 p2.0 p3.0 p4.0 made p1.2 p2.2 p3.2 p4.2 a.1 a.2 a.3 p1.5 p2.5 p3.5 p4.5

  module _ (made : Mb) (of : Made shape mb made) where
    whole : Mb
    whole = record mb { subs = of.subs; refs = slice_set (slice_set mb.refs 0 of.r0) 1 of.r1; mvd = slice_set (slice_set mb.mvd 0 of.m0) 1 of.m1 }

    first_list : {A : Type 0} (lists : List (List A)) (a b : List A) → length lists ≡ 2 → get_or (slice_set (slice_set lists 0 a) 1 b) 0 [] ≡ a
    first_list lists a b e = get_or-set_other (slice_set lists 0 a) 1 0 b [] (λ h. omega (arith, h)) ∙ get_or-set_same lists 0 a [] (omega (arith, e))

    second_list : {A : Type 0} (lists : List (List A)) (a b : List A) → length lists ≡ 2 → get_or (slice_set (slice_set lists 0 a) 1 b) 1 [] ≡ b
    second_list lists a b e = get_or-set_same (slice_set lists 0 a) 1 b [] (let size = length-set lists 0 a in omega (arith, e, size))

    two_long : {A : Type 0} (lists : List (List A)) (a b : List A) → length lists ≡ 2 → length (slice_set (slice_set lists 0 a) 1 b) ≡ 2
    two_long lists a b e = length-set (slice_set lists 0 a) 1 b ∙ length-set lists 0 a ∙ e

    vectors : (x : ℕ) (xs : List (List ℤ)) → AreMvds (record { kind = mb.kind; subs = of.subs }) x xs → AllByRecursion (λ vector. length vector ≡ 2) xs
    vectors x xs are =
        all_elements (λ vector. length vector ≡ 2) 16 (part_of mb.kind of.subs) (has_mvd (record { kind = mb.kind; subs = of.subs }) x) no_vector IsVector xs are refl (λ v is. is.size)

    whole_sizes : HasSizes whole
    unfolding whole
    whole_sizes =
        let refs' = slice_set (slice_set mb.refs 0 of.r0) 1 of.r1 in
        let mvds' = slice_set (slice_set mb.mvd 0 of.m0) 1 of.m1 in
        let IsMvdList : List (List ℤ) → Type 0 = λ list. (length list ≡ 16) × AllByRecursion (λ difference. length difference ≡ 2) list in
        record {
          modes = sizes.modes;
          subs = of.sizes.0;
          refs = (
            two_long mb.refs of.r0 of.r1 sizes.refs.0,
            two_all (λ list. length list ≡ 4) [] refs' (two_long mb.refs of.r0 of.r1 sizes.refs.0) (ap length (first_list mb.refs of.r0 of.r1 sizes.refs.0) ∙ of.sizes.1) (ap length (second_list mb.refs of.r0 of.r1 sizes.refs.0) ∙ of.sizes.2),
          );
          mvd = (
            two_long mb.mvd of.m0 of.m1 sizes.mvd.0,
            two_all IsMvdList [] mvds' (two_long mb.mvd of.m0 of.m1 sizes.mvd.0) (subst IsMvdList (sym (first_list mb.mvd of.m0 of.m1 sizes.mvd.0)) (of.sizes.3, vectors 0 of.m0 of.are_m0)) (subst IsMvdList (sym (second_list mb.mvd of.m0 of.m1 sizes.mvd.0)) (of.sizes.4, vectors 1 of.m1 of.are_m1)),
          );
          dc = sizes.dc;
          luma = sizes.luma;
          chroma_dc = sizes.chroma_dc;
          chroma_ac = sizes.chroma_ac;
          pcm = sizes.pcm;
        }

    whole_predicted : IsInterPredicted shape whole
    unfolding whole
    whole_predicted =
        let parts : Parts = record { kind = mb.kind; subs = of.subs } in
        let plain : Mb = record whole { ref0 = false } in
        let is = from_inter shape plain (record {
          subs = of.are_subs;
          refs_l0 = subst (AreRefs parts 0 (greatest_at shape mb 0)) (sym (first_list mb.refs of.r0 of.r1 sizes.refs.0)) of.are_r0;
          refs_l1 = subst (AreRefs parts 1 (greatest_at shape mb 1)) (sym (second_list mb.refs of.r0 of.r1 sizes.refs.0)) of.are_r1;
          mvd_l0 = subst (AreMvds parts 0) (sym (first_list mb.mvd of.m0 of.m1 sizes.mvd.0)) of.are_m0;
          mvd_l1 = subst (AreMvds parts 1) (sym (second_list mb.mvd of.m0 of.m1 sizes.mvd.0)) of.are_m1;
          lists = (two_long mb.refs of.r0 of.r1 sizes.refs.0, two_long mb.mvd of.m0 of.m1 sizes.mvd.0);
        }) in
        record {
          subs = is.subs;
          l0 = record { refs = is.l0.refs; refs_repeat = is.l0.refs_repeat; mvd = is.l0.mvd; mvd_repeat = is.l0.mvd_repeat };
          l1 = record { refs = is.l1.refs; refs_repeat = is.l1.refs_repeat; mvd = is.l1.mvd; mvd_repeat = is.l1.mvd_repeat };
        }

  pub prediction_valid : (made : Mb) (bins : List (Slot × Bool)) → Spells (inter_prediction shape done at mb) bins made → IsInterPredicted shape made
  unfolding whole
  prediction_valid made bins h = let of = prediction_made bins made h in subst (IsInterPredicted shape) (sym of.is) (whole_predicted made of)

  pub prediction_sizes : (made : Mb) (bins : List (Slot × Bool)) → Spells (inter_prediction shape done at mb) bins made → HasSizes made
  unfolding whole
  prediction_sizes made bins h = let of = prediction_made bins made h in subst HasSizes (sym of.is) (whole_sizes made of)

  pub prediction_others : (made : Mb) (bins : List (Slot × Bool)) → Spells (inter_prediction shape done at mb) bins made → made ≡ record mb { subs = made.subs; refs = made.refs; mvd = made.mvd }
  prediction_others made bins h =
      let of = prediction_made bins made h in
      of.is ∙ ap (λ (m : Mb). record mb { subs = m.subs; refs = m.refs; mvd = m.mvd }) (sym of.is)
