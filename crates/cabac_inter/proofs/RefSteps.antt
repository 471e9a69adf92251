-- Reference indices, one by one.
use Rattle.std.proofs.Common.{◌≡◌, ℕ, ◌+◌, ◌-◌, ◌<◌, ◌≤◌, Bool, true, false, cond, List, length, Option, Some, None, refl, sym, ap, subst, ◌∙◌, arith}
use Rattle.std.specs.Prelude.{nat_lt, ◌&&◌, slice_set}
use Rattle.std.proofs.lemmas.Bool.Decides.{nat_tests}
use Rattle.cabac_engine.specs.Bins.{Slot}
use Rattle.binarisation.specs.BinString.{Value, NoValue, Reads, Writes}
use Rattle.binarisation.specs.Elements as syntax
use Rattle.binarisation.specs.Each.{each}
use Rattle.binarisation.proofs.Strings.{reads_then, reads_none, writes_then, Continues, Completes}
use Rattle.h264_types.specs.Partition.{partition_of}
use Rattle.h264_types.specs.Valid as valid
use Rattle.h264_types.specs.declared.macroblock.Mb.{Mb}
use Rattle.h264_types.specs.declared.slice_shape.SliceShape.{SliceShape}
use Rattle.cabac_contexts.specs.Increments as incs
use Rattle.cavlc_inter.specs.Parts.{first_of}
use Rattle.cavlc_inter.specs.InterPrediction.{refs_of, active_at}
use Rattle.cabac_inter.specs.InterPrediction.{greatest_at, sends_refs, up_to, sent_ref, ref_of, with_refs, ref_at, refs}
use Rattle.cabac_inter.proofs.Places.{element_later, element_none, element_sent}
use Rattle.cabac_inter.proofs.Puts.{reads_put, writes_put}
use Rattle.cabac_inter.specs.Stages.{IsBegun}
use Rattle.cabac_inter.proofs.Alike.{same_ref_of}
use Rattle.cabac_inter.proofs.Fronts.{put, put_none, put_more, put_all, put_at}
use Rattle.cavlc_inter.proofs.Firsts.{first_is}
use Rattle.h264_types.proofs.Lists.{HasLists, lists_of}
use Rattle.h264_types.specs.Slice.{IsInPicture}
use Rattle.h264_types.specs.Valid.{IsListSent, list_is_used}

within : (greatest index : ℕ) → index ≤ greatest → up_to greatest index ≡ Value index
within greatest index h = let e : nat_lt greatest index ≡ false = grind (arith, nat_tests) in rw e refl

beyond : (greatest index : ℕ) → greatest < index → up_to greatest index ≡ NoValue
beyond greatest index h = let e : nat_lt greatest index ≡ true = grind (arith, nat_tests) in rw e refl

module _ {S : Type 0} (shape : SliceShape) (done : List Mb) (at x q : ℕ) (mb : Mb) (s t : S) where
  module _ (step : S → Slot → Option Bool → S → Type 0) where
    module _ (inc : ℕ) (e : inc ≡ incs.ref_idx shape done at mb.field mb x q) where
      pub reads_sent : (index : ℕ) → index ≤ greatest_at shape mb x → Reads step (syntax.ref_idx inc) (Some index) s t → Reads step (sent_ref shape done at x q mb) (Some index) s t
      unfolding sent_ref
      reads_sent index h first =
          reads_then step (syntax.ref_idx (incs.ref_idx shape done at mb.field mb x q)) (up_to (greatest_at shape mb x)) index (Some index) s t t (rw e at first)
          (rw (within (greatest_at shape mb x) index h) (refl, refl))

      pub reads_beyond : (index : ℕ) → greatest_at shape mb x < index → Reads step (syntax.ref_idx inc) (Some index) s t → Reads step (sent_ref shape done at x q mb) None s t
      unfolding sent_ref
      reads_beyond index h first =
          reads_then step (syntax.ref_idx (incs.ref_idx shape done at mb.field mb x q)) (up_to (greatest_at shape mb x)) index None s t t (rw e at first)
          (rw (beyond (greatest_at shape mb x) index h) (refl, refl))

      pub reads_unsent : Reads step (syntax.ref_idx inc) None s t → Reads step (sent_ref shape done at x q mb) None s t
      unfolding sent_ref
      reads_unsent first = reads_none step (syntax.ref_idx (incs.ref_idx shape done at mb.field mb x q)) (up_to (greatest_at shape mb x)) s t (rw e at first)

    module _ (first : ℕ) (is : first ≡ first_of (partition_of mb.kind) q) where
      pub reads_later : (index : ℕ) → first < q → index ≡ valid.ref_at mb x first → Reads step (ref_of shape done at x q mb) (Some index) s s
      unfolding ref_of
      reads_later index h e = rw (element_later (partition_of mb.kind) (sends_refs shape mb x) (valid.ref_at mb x) 0 (sent_ref shape done at x q mb) q first is h) (ap Some e, refl)

      pub reads_no_ref : q ≤ first → sends_refs shape mb x q ≡ false → Reads step (ref_of shape done at x q mb) (Some 0) s s
      unfolding ref_of
      reads_no_ref h e = rw (element_none (partition_of mb.kind) (sends_refs shape mb x) (valid.ref_at mb x) 0 (sent_ref shape done at x q mb) q first is h e) (refl, refl)

      pub reads_ref : (result : Option ℕ) → q ≤ first → sends_refs shape mb x q ≡ true → Reads step (sent_ref shape done at x q mb) result s t → Reads step (ref_of shape done at x q mb) result s t
      unfolding ref_of
      reads_ref result h e read = rw (element_sent (partition_of mb.kind) (sends_refs shape mb x) (valid.ref_at mb x) 0 (sent_ref shape done at x q mb) q first is h e) read

    pub reads_ref_at : (index : ℕ) (made : Mb) → made ≡ with_refs x mb (slice_set (refs_of x mb) q index) → Reads step (ref_of shape done at x q mb) (Some index) s t → Reads step (ref_at shape done at x q mb) (Some made) s t
    unfolding ref_at
    reads_ref_at index made e read = reads_put step (ref_of shape done at x q mb) (λ i. with_refs x mb (slice_set (refs_of x mb) q i)) index made s t e read

    pub reads_no_ref_at : Reads step (ref_of shape done at x q mb) None s t → Reads step (ref_at shape done at x q mb) None s t
    unfolding ref_at
    reads_no_ref_at read = reads_none step (ref_of shape done at x q mb) (λ i. Value (with_refs x mb (slice_set (refs_of x mb) q i))) s t read

pub begins_refs : {S : Type 0} (step : S → Slot → Option Bool → S → Type 0) (shape : SliceShape) (done : List Mb) (at x : ℕ) (mb : Mb) (s : S) → Continues step (refs shape done at x mb) s (each (4 - 0) (ref_at shape done at x) 0 mb) s
unfolding refs
begins_refs step shape done at x mb s result t h = h

-- ---- writing

-- a macroblock that has what another one has before its indices, with its first indices of a list
abbrev pub first_refs : ℕ → ℕ → Mb → Mb → Mb
first_refs x k mb base = record base { refs = put base.refs x (refs_of x mb) k }

module _ {S : Type 0} (step : S → Slot → Bool → S → Type 0) (shape : SliceShape) (done : List Mb) (at x : ℕ) (mb base : Mb) (s : S) (one : x < 2) (begun : IsBegun mb base) (sizes : HasLists mb) where
  inside : x < length base.refs
  inside = let lists = lists_of base begun.sizes in omega (arith, one, lists.refs)

  size : length (refs_of x base) ≡ length (refs_of x mb)
  size = (lists_of base begun.sizes).refs_of x one ∙ sym (sizes.refs_of x one)

  pub begins_writing : Completes step (refs shape done at x base) s (each (4 - 0) (ref_at shape done at x) 0 (first_refs x 0 mb base)) s
  unfolding refs
  begins_writing value t h =
      let P : Mb → Type 0 = λ m. Writes step (each 4 (ref_at shape done at x) 0 m) value s t in
      subst P (ap (λ l. record base { refs = l }) (put_none base.refs x (refs_of x mb) inside size)) h

  pub writes_ref_at : (k : ℕ) (t : S) → IsInPicture shape at → k < 4 → Writes step (ref_of shape done at x k mb) (valid.ref_at mb x k) s t
      → Writes step (ref_at shape done at x k (first_refs x k mb base)) (first_refs x (k + 1) mb base) s t
  unfolding ref_at
  writes_ref_at k t picture h written =
      let most : k ≤ length (refs_of x mb) = let four = sizes.refs_of x one in omega (arith, h, four) in
      let same = same_ref_of shape done at x (first_refs x k mb base) mb picture (record { kind = begun.kind; field = begun.field; subs = begun.subs }) k h
      (λ i less. put_at base.refs x (refs_of x mb) inside size k i 0 less most) in
      writes_put step (ref_of shape done at x k (first_refs x k mb base)) (λ i. with_refs x (first_refs x k mb base) (slice_set (refs_of x (first_refs x k mb base)) k i)) (valid.ref_at mb x k) (first_refs x (k + 1) mb base) s t
      (ap (λ l. record base { refs = l }) (sym (put_more base.refs x (refs_of x mb) inside size k 0 (let four = sizes.refs_of x one in omega (arith, h, four)))))
      (rw same written)

  pub all_refs : (k : ℕ) → k ≡ 4 → first_refs x k mb base ≡ with_refs x base (refs_of x mb)
  all_refs k e = ap (λ l. record base { refs = l }) (put_all base.refs x (refs_of x mb) inside size k (e ∙ sym (sizes.refs_of x one)))

-- ---- the index that a quarter has

module _ {S : Type 0} (step : S → Slot → Bool → S → Type 0) (shape : SliceShape) (done : List Mb) (at x q : ℕ) (mb : Mb) (s : S) (first : ℕ) (is : first ≡ first_of (partition_of mb.kind) q) (sent : IsListSent shape mb x) (below : q < 4) where
  pub writes_later : first < q → Writes step (ref_of shape done at x q mb) (valid.ref_at mb x q) s s
  unfolding ref_of
  writes_later h =
      let same : partition_of mb.kind first ≡ partition_of mb.kind q = ap (partition_of mb.kind) is ∙ (first_is (partition_of mb.kind) q).same in
      rw (element_later (partition_of mb.kind) (sends_refs shape mb x) (valid.ref_at mb x) 0 (sent_ref shape done at x q mb) q first is h) (sent.refs_repeat first (omega (arith, h, below)) q below same, refl)

  no_index : (used some : Bool) (index active : ℕ) → (some && used) ≡ false → nat_lt 0 (active - 1) ≡ some → index ≤ cond used (active - 1) 0 → 0 ≡ index
  no_index true true index active e f le = absurd cc
  no_index true false index active e f le = grind (arith, nat_tests)
  no_index false some index active e f le = omega (arith, le)

  pub writes_no_ref : q ≤ first → sends_refs shape mb x q ≡ false → Writes step (ref_of shape done at x q mb) (valid.ref_at mb x q) s s
  unfolding ref_of
  writes_no_ref h e =
      rw (element_none (partition_of mb.kind) (sends_refs shape mb x) (valid.ref_at mb x) 0 (sent_ref shape done at x q mb) q first is h e)
      (no_index (list_is_used mb x q) (nat_lt 0 (greatest_at shape mb x)) (valid.ref_at mb x q) (active_at shape mb x) e refl (sent.refs q below), refl)

  in_range : (used : Bool) (some : Bool) (index greatest : ℕ) → (some && used) ≡ true → index ≤ cond used greatest 0 → index ≤ greatest
  in_range true some index greatest e le = le
  in_range false true index greatest e le = absurd cc
  in_range false false index greatest e le = absurd cc

  pub index_within : sends_refs shape mb x q ≡ true → valid.ref_at mb x q ≤ greatest_at shape mb x
  index_within e = in_range (list_is_used mb x q) (nat_lt 0 (greatest_at shape mb x)) (valid.ref_at mb x q) (greatest_at shape mb x) e (sent.refs q below)

  pub writes_ref : (inc : ℕ) (t : S) → inc ≡ incs.ref_idx shape done at mb.field mb x q → q ≤ first → sends_refs shape mb x q ≡ true → Writes step (syntax.ref_idx inc) (valid.ref_at mb x q) s t → Writes step (ref_of shape done at x q mb) (valid.ref_at mb x q) s t
  unfolding ref_of sent_ref
  writes_ref inc t e h has written =
      rw (element_sent (partition_of mb.kind) (sends_refs shape mb x) (valid.ref_at mb x) 0 (sent_ref shape done at x q mb) q first is h has)
      (writes_then step (syntax.ref_idx (incs.ref_idx shape done at mb.field mb x q)) (up_to (greatest_at shape mb x)) (valid.ref_at mb x q) (valid.ref_at mb x q) s t t (rw e at written)
      (rw (within (greatest_at shape mb x) (valid.ref_at mb x q) (index_within has)) (refl, refl)))
