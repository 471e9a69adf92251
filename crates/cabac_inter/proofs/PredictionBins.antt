-- The prediction of a P or B macroblock of a slice has bins.
use Rattle.std.proofs.Common.{◌≡◌, inl, inr, ℕ, zero, suc, ◌-◌, ◌*◌, ◌<◌, ◌≤◌, ℤ, pos, negsuc, unsigned_abs, eqb, cond, Bool, true, false, List, length, get_or, refl, ap, subst, arith}
use Rattle.std.specs.Prelude.{◌&&◌, slice_index}
use Rattle.std.proofs.lemmas.Bool.Decides.{leb_tells}
use Rattle.std.proofs.lemmas.Int.{ints}
use Rattle.cabac_engine.specs.Bins.{Slot}
use Rattle.binarisation.specs.BinString.{Spells}
use Rattle.binarisation.specs.Each.{each}
use Rattle.binarisation.proofs.HasBins.{Takes, HasBins, each_has, sub_p_has, sub_b_has, ref_idx_has, mvd_has, spelled_by}
use Rattle.cabac_contexts.specs.Increments as incs
use Rattle.cavlc_inter.specs.InterPrediction.{refs_of, mvds_of, IsDifference}
use Rattle.cavlc_inter.specs.Parts.{first_of}
use Rattle.h264_types.specs.Kind.{has_sub_macroblocks}
use Rattle.h264_types.specs.Partition.{partition_of, part_of}
use Rattle.h264_types.specs.Sizes.{HasSizes}
use Rattle.h264_types.specs.Slice.{IsInPicture}
use Rattle.h264_types.specs.SliceShape.{IsSliceShape, HasRefs, most_refs}
use Rattle.h264_types.specs.Valid.{IsInterPredicted, IsListSent, sub_bound}
use Rattle.h264_types.specs.Valid as valid
use Rattle.h264_types.specs.declared.macroblock.Mb.{Mb}
use Rattle.h264_types.specs.declared.macroblock.MbKind.{MbKind}
use Rattle.h264_types.specs.declared.macroblock.MbKind.TheVariants.{Skip, Intra, P, B}
use Rattle.h264_types.specs.declared.slice_shape.SliceShape.{SliceShape}
use Rattle.h264_types.proofs.Lists.{lists_of}
use Rattle.cabac_inter.specs.InterPrediction.{sub_type, sub_at, subs, greatest_at, sends_refs, ref_of, with_refs, ref_at, refs, sends_mvds, mvd_of, with_mvds, mvd_at, mvds, inter_prediction}
use Rattle.cabac_inter.specs.Stages.{typed, with_subs, predicted, IsBegun}
use Rattle.cabac_inter.proofs.Begun.{begun_subs, begun_l0, begun_refs, begun_mvds, is_predicted}
use Rattle.cabac_inter.proofs.RefSteps as ref_steps
use Rattle.cabac_inter.proofs.SubSteps.{subs_sent, subs_unsent, first_subs, writes_sub_at, all_subs, no_subs}
use Rattle.cabac_inter.proofs.VectorSteps as vector_steps
use Rattle.cabac_inter.proofs.Whole.{writes_all}

-- ---- sub_mb_type

at_most : (b : Bool) (n most : ℕ) → n ≤ cond b most 0 → n ≤ most
at_most true n most h = h
at_most false n most h = omega (arith, h)

sub_has : (kind : MbKind) (sub : ℕ) → has_sub_macroblocks kind ≡ true → sub ≤ sub_bound kind → HasBins (sub_type kind) sub
sub_has Skip sub sent h = absurd cc
sub_has (Intra n) sub sent h = absurd cc
sub_has (P n) sub sent h = sub_p_has sub (at_most (eqb n 3) sub 3 h)
sub_has (B n) sub sent h = sub_b_has sub (at_most (eqb n 22) sub 12 h)

-- ---- how many references are active

few_refs : (mbaff field field_pic : Bool) (refs : ℕ) → (mbaff ≡ true → field_pic ≡ false) → refs ≤ most_refs field_pic → refs * cond (mbaff && field) 2 1 - 1 ≤ 31
few_refs true true field_pic refs frame few =
    let none : most_refs field_pic ≡ 16 = ap most_refs (frame refl) in
    omega (arith, few, none)
few_refs true false true refs frame few = omega (arith, few)
few_refs true false false refs frame few = omega (arith, few)
few_refs false field true refs frame few = omega (arith, few)
few_refs false field false refs frame few = omega (arith, few)

references : (shape : SliceShape) → IsSliceShape shape → (x : ℕ) → x < 2 → HasRefs shape x
references shape is zero h = is.l0
references shape is (suc zero) h = is.l1
references shape is (suc (suc x)) h = absurd (omega (arith, h))

greatest_small : (shape : SliceShape) (mb : Mb) (x : ℕ) → IsSliceShape shape → x < 2 → greatest_at shape mb x ≤ 31
greatest_small shape mb x is h = few_refs shape.mbaff mb.field shape.field_pic (slice_index shape.refs x) (λ mbaff. (is.pairs mbaff).0) (references shape is x h).few

sent_of : (shape : SliceShape) (mb : Mb) → IsInterPredicted shape mb → (x : ℕ) → x < 2 → IsListSent shape mb x
sent_of shape mb is zero h = is.l0
sent_of shape mb is (suc zero) h = is.l1
sent_of shape mb is (suc (suc x)) h = absurd (omega (arith, h))

difference_small : (d : ℤ) → IsDifference d → unsigned_abs d ≤ 32767
difference_small (pos n) h = omega (arith, ints)
difference_small (negsuc n) h = omega (arith, ints)

module _ (shape : SliceShape) (done : List Mb) (at : ℕ) (mb : Mb) (picture : IsInPicture shape at) (is_shape : IsSliceShape shape) (sizes : HasSizes mb) (is : IsInterPredicted shape mb) where
  subs_have : HasBins (subs (typed mb)) (with_subs mb)
  subs_have = by (has_sub_macroblocks mb.kind) refl
    where
      by : (b : Bool) → has_sub_macroblocks mb.kind ≡ b → HasBins (subs (typed mb)) (with_subs mb)
      by true e =
          rw (subs_sent (typed mb) e)
          (subst (λ (m : Mb). HasBins (each 4 sub_at 0 (typed mb)) m) (all_subs 4 mb sizes.subs refl)
          (each_has sub_at (λ q. first_subs q mb) 4 0
          (λ q from to. writes_sub_at Takes q mb false false sizes.subs (omega (arith, to)) (sub_has mb.kind (get_or mb.subs q 0) e (is.subs q 0 (omega (arith, to, sizes.subs)))))))
      by false e = rw (subs_unsent (typed mb) e) (no_subs mb sizes.subs e is.subs, refl)

  -- ---- reference indices

  ref_has : (x q : ℕ) → x < 2 → q < 4 → HasBins (ref_of shape done at x q mb) (valid.ref_at mb x q)
  ref_has x q one h =
      elim (leb_tells q first) [
        | inl is_first ↦ by (sends_refs shape mb x q) refl is_first.1
        | inr later ↦ ref_steps.writes_later Takes shape done at x q mb false first refl sent h later.1
      ]
    where
      first : ℕ
      first = first_of (partition_of mb.kind) q

      sent : IsListSent shape mb x
      sent = sent_of shape mb is x one

      by : (b : Bool) → sends_refs shape mb x q ≡ b → q ≤ first → HasBins (ref_of shape done at x q mb) (valid.ref_at mb x q)
      by true e from =
          let inc : ℕ = incs.ref_idx shape done at mb.field mb x q in
          let index = ref_steps.index_within Takes shape done at x q mb false first refl sent h e in
          ref_steps.writes_ref Takes shape done at x q mb false first refl sent h inc false refl from e (ref_idx_has inc (valid.ref_at mb x q) (omega (arith, index, greatest_small shape mb x is_shape one)))
      by false e from = ref_steps.writes_no_ref Takes shape done at x q mb false first refl sent h from e

  refs_have : (x : ℕ) (base : Mb) → x < 2 → IsBegun mb base → HasBins (refs shape done at x base) (with_refs x base (refs_of x mb))
  refs_have x base one begun =
      let lists = lists_of mb sizes in
      ref_steps.begins_writing Takes shape done at x mb base false one begun lists (with_refs x base (refs_of x mb)) false
      (subst (λ (m : Mb). HasBins (each 4 (ref_at shape done at x) 0 (ref_steps.first_refs x 0 mb base)) m) (ref_steps.all_refs Takes shape done at x mb base false one begun lists 4 refl)
      (each_has (ref_at shape done at x) (λ q. ref_steps.first_refs x q mb base) 4 0
      (λ q from to. ref_steps.writes_ref_at Takes shape done at x mb base false one begun lists q false picture (omega (arith, to)) (ref_has x q one (omega (arith, to))))))

  -- ---- vector differences

  mvd_of_has : (x n : ℕ) → x < 2 → n < 16 → HasBins (mvd_of shape done at x n mb) (valid.mvd_of mb x n)
  mvd_of_has x n one h =
      elim (leb_tells n first) [
        | inl is_first ↦ by (sends_mvds mb x n) refl is_first.1
        | inr later ↦ vector_steps.writes_later Takes shape done at x n mb false first refl sent h later.1
      ]
    where
      first : ℕ
      first = first_of (part_of mb.kind mb.subs) n

      sent : IsListSent shape mb x
      sent = sent_of shape mb is x one

      size : length (valid.mvd_of mb x n) ≡ 2
      size = (lists_of mb sizes).vectors x n one h

      by : (b : Bool) → sends_mvds mb x n ≡ b → n ≤ first → HasBins (mvd_of shape done at x n mb) (valid.mvd_of mb x n)
      by true e from =
          let a : ℕ = incs.mvd shape done at mb.field mb x n 0 in
          let b : ℕ = incs.mvd shape done at mb.field mb x n 1 in
          let across : ℤ = get_or (valid.mvd_of mb x n) 0 (pos 0) in
          let down : ℤ = get_or (valid.mvd_of mb x n) 1 (pos 0) in
          let vector = vector_steps.is_vector shape mb x n size sent h e in
          vector_steps.writes_mvd Takes shape done at x n mb false first refl sent h false from e
          (vector_steps.writes_sent shape done at x n mb false false false a b refl refl Takes across down (valid.mvd_of mb x n) (vector_steps.components (valid.mvd_of mb x n) size)
          (mvd_has 40 a across (difference_small across vector.x)) (mvd_has 47 b down (difference_small down vector.y)))
      by false e from = vector_steps.writes_none Takes shape done at x n mb false first refl sent h size from e

  mvds_have : (x : ℕ) (base : Mb) → x < 2 → IsBegun mb base → HasBins (mvds shape done at x base) (with_mvds x base (mvds_of x mb))
  mvds_have x base one begun =
      let lists = lists_of mb sizes in
      vector_steps.begins_writing Takes shape done at x mb base false one begun lists (with_mvds x base (mvds_of x mb)) false
      (subst (λ (m : Mb). HasBins (each 16 (mvd_at shape done at x) 0 (vector_steps.first_mvds x 0 mb base)) m) (vector_steps.all_mvds Takes shape done at x mb base false one begun lists 16 refl)
      (each_has (mvd_at shape done at x) (λ n. vector_steps.first_mvds x n mb base) 16 0
      (λ n from to. vector_steps.writes_mvd_at Takes shape done at x mb base false one begun lists n false picture (omega (arith, to)) (mvd_of_has x n one (omega (arith, to))))))

  -- ---- the prediction

  pub prediction_has : HasBins (inter_prediction shape done at (typed mb)) (predicted mb)
  prediction_has =
      let a : Mb = with_subs mb in
      let b : Mb = with_refs 0 a (refs_of 0 mb) in
      let d : Mb = with_refs 1 b (refs_of 1 mb) in
      let e : Mb = with_mvds 0 d (mvds_of 0 mb) in
      let f : Mb = with_mvds 1 e (mvds_of 1 mb) in
      subst (HasBins (inter_prediction shape done at (typed mb))) (is_predicted mb sizes)
      (writes_all Takes shape done at (typed mb) a b d e f false false false false false false subs_have (refs_have 0 a (omega arith) (begun_subs mb sizes)) (refs_have 1 b (omega arith) (begun_l0 mb sizes))
      (mvds_have 0 d (omega arith) (begun_refs mb sizes)) (mvds_have 1 e (omega arith) (begun_mvds mb sizes)))

pub prediction_spelled : (shape : SliceShape) (done : List Mb) (at : ℕ) (mb : Mb) → IsInPicture shape at → IsSliceShape shape → HasSizes mb → IsInterPredicted shape mb
    → (bins : List (Slot × Bool)) × Spells (inter_prediction shape done at (typed mb)) bins (predicted mb)
prediction_spelled shape done at mb picture is_shape sizes is = spelled_by (inter_prediction shape done at (typed mb)) (predicted mb) false (prediction_has shape done at mb picture is_shape sizes is)
