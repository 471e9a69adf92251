-- Vector differences, one by one.
use Rattle.std.proofs.Common.{◌≡◌, ℕ, ◌+◌, ◌-◌, ◌/◌, ◌<◌, ◌≤◌, ℤ, pos, Bool, true, false, cond, List, length, get_or, [], ◌∷◌, Option, Some, None, refl, sym, ap, subst, ◌∙◌, arith}
use Rattle.std.specs.Prelude.{slice_set}
use Rattle.cabac_engine.specs.Bins.{Slot}
use Rattle.binarisation.specs.BinString.{Value, Reads, Writes, ◌>>=◌}
use Rattle.binarisation.specs.Elements as syntax
use Rattle.binarisation.specs.Each.{each}
use Rattle.binarisation.proofs.Strings.{reads_then, reads_none, writes_then, Continues, Completes}
use Rattle.h264_types.specs.Partition.{part_of}
use Rattle.h264_types.specs.Valid as valid
use Rattle.h264_types.specs.declared.macroblock.Mb.{Mb}
use Rattle.h264_types.specs.declared.slice_shape.SliceShape.{SliceShape}
use Rattle.cabac_contexts.specs.Increments as incs
use Rattle.cavlc_inter.specs.Parts.{first_of}
use Rattle.cavlc_inter.specs.InterPrediction.{no_vector, mvds_of, IsVector}
use Rattle.cabac_inter.specs.InterPrediction.{sends_mvds, sent_mvd, mvd_of, with_mvds, mvd_at, mvds}
use Rattle.cabac_inter.proofs.Places.{element_later, element_none, element_sent}
use Rattle.cabac_inter.proofs.Puts.{reads_put, writes_put}
use Rattle.cabac_inter.specs.Stages.{IsBegun}
use Rattle.cabac_inter.proofs.Alike.{same_mvd_of}
use Rattle.cabac_inter.proofs.Fronts.{put, put_none, put_more, put_all, put_at}
use Rattle.cavlc_inter.proofs.Firsts.{first_is}
use Rattle.cavlc_inter.proofs.InterValid.{difference_of}
use Rattle.h264_types.proofs.Lists.{HasLists, lists_of}
use Rattle.h264_types.proofs.Zeros.{zero_levels}
use Rattle.h264_types.specs.Slice.{IsInPicture}
use Rattle.h264_types.specs.Valid.{IsListSent, IsWithin, list_is_used}

module _ {S : Type 0} (shape : SliceShape) (done : List Mb) (at x n : ℕ) (mb : Mb) (s t : S) where
  module _ (m : S) (a b : ℕ) (ea : a ≡ incs.mvd shape done at mb.field mb x n 0) (eb : b ≡ incs.mvd shape done at mb.field mb x n 1) where
    module _ (step : S → Slot → Option Bool → S → Type 0) where
      pub reads_sent : (across down : ℤ) (vector : List ℤ) → vector ≡ across ∷ down ∷ [] → Reads step (syntax.mvd 40 a) (Some across) s m → Reads step (syntax.mvd 47 b) (Some down) m t → Reads step (sent_mvd shape done at x n mb) (Some vector) s t
      unfolding sent_mvd
      reads_sent across down vector is first second =
          let a' : ℕ = incs.mvd shape done at mb.field mb x n 0 in
          let b' : ℕ = incs.mvd shape done at mb.field mb x n 1 in
          reads_then step (syntax.mvd 40 a') (λ h. syntax.mvd 47 b' >>= (λ v. Value (h ∷ v ∷ []))) across (Some vector) s m t (rw ea at first)
          (reads_put step (syntax.mvd 47 b') (λ v. across ∷ v ∷ []) down vector m t is (rw eb at second))

      pub reads_no_second : (across : ℤ) → Reads step (syntax.mvd 40 a) (Some across) s m → Reads step (syntax.mvd 47 b) None m t → Reads step (sent_mvd shape done at x n mb) None s t
      unfolding sent_mvd
      reads_no_second across first second =
          let a' : ℕ = incs.mvd shape done at mb.field mb x n 0 in
          let b' : ℕ = incs.mvd shape done at mb.field mb x n 1 in
          reads_then step (syntax.mvd 40 a') (λ h. syntax.mvd 47 b' >>= (λ v. Value (h ∷ v ∷ []))) across None s m t (rw ea at first)
          (reads_none step (syntax.mvd 47 b') (λ v. Value (across ∷ v ∷ [])) m t (rw eb at second))

    pub writes_sent : (step : S → Slot → Bool → S → Type 0) (across down : ℤ) (vector : List ℤ) → vector ≡ across ∷ down ∷ [] → Writes step (syntax.mvd 40 a) across s m → Writes step (syntax.mvd 47 b) down m t → Writes step (sent_mvd shape done at x n mb) vector s t
    unfolding sent_mvd
    writes_sent step across down vector is first second =
        let a' : ℕ = incs.mvd shape done at mb.field mb x n 0 in
        let b' : ℕ = incs.mvd shape done at mb.field mb x n 1 in
        writes_then step (syntax.mvd 40 a') (λ h. syntax.mvd 47 b' >>= (λ v. Value (h ∷ v ∷ []))) across vector s m t (rw ea at first)
        (writes_then step (syntax.mvd 47 b') (λ v. Value (across ∷ v ∷ [])) down vector m t t (rw eb at second) (sym is, refl))

  module _ (step : S → Slot → Option Bool → S → Type 0) where
    pub reads_no_first : (a : ℕ) → a ≡ incs.mvd shape done at mb.field mb x n 0 → Reads step (syntax.mvd 40 a) None s t → Reads step (sent_mvd shape done at x n mb) None s t
    unfolding sent_mvd
    reads_no_first a ea first =
        reads_none step (syntax.mvd 40 (incs.mvd shape done at mb.field mb x n 0)) (λ h. syntax.mvd 47 (incs.mvd shape done at mb.field mb x n 1) >>= (λ v. Value (h ∷ v ∷ []))) s t (rw ea at first)

    module _ (first : ℕ) (is : first ≡ first_of (part_of mb.kind mb.subs) n) where
      pub reads_later : (vector : List ℤ) → first < n → vector ≡ valid.mvd_of mb x first → Reads step (mvd_of shape done at x n mb) (Some vector) s s
      unfolding mvd_of
      reads_later vector h e = rw (element_later (part_of mb.kind mb.subs) (sends_mvds mb x) (valid.mvd_of mb x) no_vector (sent_mvd shape done at x n mb) n first is h) (ap Some e, refl)

      pub reads_none_of : (vector : List ℤ) → vector ≡ no_vector → n ≤ first → sends_mvds mb x n ≡ false → Reads step (mvd_of shape done at x n mb) (Some vector) s s
      unfolding mvd_of
      reads_none_of vector v h e = rw (element_none (part_of mb.kind mb.subs) (sends_mvds mb x) (valid.mvd_of mb x) no_vector (sent_mvd shape done at x n mb) n first is h e) (ap Some v, refl)

      pub reads_mvd : (result : Option (List ℤ)) → n ≤ first → sends_mvds mb x n ≡ true → Reads step (sent_mvd shape done at x n mb) result s t → Reads step (mvd_of shape done at x n mb) result s t
      unfolding mvd_of
      reads_mvd result h e read = rw (element_sent (part_of mb.kind mb.subs) (sends_mvds mb x) (valid.mvd_of mb x) no_vector (sent_mvd shape done at x n mb) n first is h e) read

    pub reads_mvd_at : (vector : List ℤ) (made : Mb) → made ≡ with_mvds x mb (slice_set (mvds_of x mb) n vector) → Reads step (mvd_of shape done at x n mb) (Some vector) s t → Reads step (mvd_at shape done at x n mb) (Some made) s t
    unfolding mvd_at
    reads_mvd_at vector made e read = reads_put step (mvd_of shape done at x n mb) (λ v. with_mvds x mb (slice_set (mvds_of x mb) n v)) vector made s t e read

    pub reads_no_mvd_at : Reads step (mvd_of shape done at x n mb) None s t → Reads step (mvd_at shape done at x n mb) None s t
    unfolding mvd_at
    reads_no_mvd_at read = reads_none step (mvd_of shape done at x n mb) (λ v. Value (with_mvds x mb (slice_set (mvds_of x mb) n v))) s t read

pub begins_mvds : {S : Type 0} (step : S → Slot → Option Bool → S → Type 0) (shape : SliceShape) (done : List Mb) (at x : ℕ) (mb : Mb) (s : S) → Continues step (mvds shape done at x mb) s (each (16 - 0) (mvd_at shape done at x) 0 mb) s
unfolding mvds
begins_mvds step shape done at x mb s result t h = h

-- ---- writing

-- a macroblock that has what another one has before its vector differences, with its first ones of a list
abbrev pub first_mvds : ℕ → ℕ → Mb → Mb → Mb
first_mvds x k mb base = record base { mvd = put base.mvd x (mvds_of x mb) k }

module _ {S : Type 0} (step : S → Slot → Bool → S → Type 0) (shape : SliceShape) (done : List Mb) (at x : ℕ) (mb base : Mb) (s : S) (one : x < 2) (begun : IsBegun mb base) (sizes : HasLists mb) where
  inside : x < length base.mvd
  inside = let lists = lists_of base begun.sizes in omega (arith, one, lists.mvd)

  size : length (mvds_of x base) ≡ length (mvds_of x mb)
  size = (lists_of base begun.sizes).mvds_of x one ∙ sym (sizes.mvds_of x one)

  pub begins_writing : Completes step (mvds shape done at x base) s (each (16 - 0) (mvd_at shape done at x) 0 (first_mvds x 0 mb base)) s
  unfolding mvds
  begins_writing value t h =
      let P : Mb → Type 0 = λ m. Writes step (each 16 (mvd_at shape done at x) 0 m) value s t in
      subst P (ap (λ l. record base { mvd = l }) (put_none base.mvd x (mvds_of x mb) inside size)) h

  pub writes_mvd_at : (k : ℕ) (t : S) → IsInPicture shape at → k < 16 → Writes step (mvd_of shape done at x k mb) (valid.mvd_of mb x k) s t
      → Writes step (mvd_at shape done at x k (first_mvds x k mb base)) (first_mvds x (k + 1) mb base) s t
  unfolding mvd_at
  writes_mvd_at k t picture h written =
      let most : k ≤ length (mvds_of x mb) = let all = sizes.mvds_of x one in omega (arith, h, all) in
      let same = same_mvd_of shape done at x (first_mvds x k mb base) mb picture (record { kind = begun.kind; field = begun.field; subs = begun.subs }) k h
      (λ i less. put_at base.mvd x (mvds_of x mb) inside size k i [] less most) in
      writes_put step (mvd_of shape done at x k (first_mvds x k mb base)) (λ v. with_mvds x (first_mvds x k mb base) (slice_set (mvds_of x (first_mvds x k mb base)) k v)) (valid.mvd_of mb x k) (first_mvds x (k + 1) mb base) s t
      (ap (λ l. record base { mvd = l }) (sym (put_more base.mvd x (mvds_of x mb) inside size k [] (let all = sizes.mvds_of x one in omega (arith, h, all)))))
      (rw same written)

  pub all_mvds : (k : ℕ) → k ≡ 16 → first_mvds x k mb base ≡ with_mvds x base (mvds_of x mb)
  all_mvds k e = ap (λ l. record base { mvd = l }) (put_all base.mvd x (mvds_of x mb) inside size k (e ∙ sym (sizes.mvds_of x one)))

-- ---- the vector difference that a block has

module _ {S : Type 0} (step : S → Slot → Bool → S → Type 0) (shape : SliceShape) (done : List Mb) (at x n : ℕ) (mb : Mb) (s : S) (first : ℕ) (is : first ≡ first_of (part_of mb.kind mb.subs) n) (sent : IsListSent shape mb x) (below : n < 16) where
  pub writes_later : first < n → Writes step (mvd_of shape done at x n mb) (valid.mvd_of mb x n) s s
  unfolding mvd_of
  writes_later h =
      let same : part_of mb.kind mb.subs first ≡ part_of mb.kind mb.subs n = ap (part_of mb.kind mb.subs) is ∙ (first_is (part_of mb.kind mb.subs) n).same in
      rw (element_later (part_of mb.kind mb.subs) (sends_mvds mb x) (valid.mvd_of mb x) no_vector (sent_mvd shape done at x n mb) n first is h) (sent.mvd_repeat first (omega (arith, h, below)) n below same, refl)

  absent : (used : Bool) (v : List ℤ) → used ≡ false → length v ≡ 2 → IsWithin (cond used 32767 0) v → v ≡ no_vector
  absent true v e size within = absurd cc
  absent false v e size within = zero_levels 2 0 v refl size within

  pub writes_none : length (valid.mvd_of mb x n) ≡ 2 → n ≤ first → sends_mvds mb x n ≡ false → Writes step (mvd_of shape done at x n mb) (valid.mvd_of mb x n) s s
  unfolding mvd_of
  writes_none size h e =
      rw (element_none (part_of mb.kind mb.subs) (sends_mvds mb x) (valid.mvd_of mb x) no_vector (sent_mvd shape done at x n mb) n first is h e)
      (sym (absent (list_is_used mb x (n / 4)) (valid.mvd_of mb x n) e size (sent.mvd n below)), refl)

  pub writes_mvd : (t : S) → n ≤ first → sends_mvds mb x n ≡ true → Writes step (sent_mvd shape done at x n mb) (valid.mvd_of mb x n) s t → Writes step (mvd_of shape done at x n mb) (valid.mvd_of mb x n) s t
  unfolding mvd_of
  writes_mvd t h has written = rw (element_sent (part_of mb.kind mb.subs) (sends_mvds mb x) (valid.mvd_of mb x) no_vector (sent_mvd shape done at x n mb) n first is h has) written

there : (used : Bool) (v : List ℤ) → used ≡ true → length v ≡ 2 → IsWithin (cond used 32767 0) v → IsVector v
there true v e size within = record { size = size; x = difference_of _ (within 0 (pos 0) (omega (arith, size))); y = difference_of _ (within 1 (pos 0) (omega (arith, size))) }
there false v e size within = absurd cc

pub is_vector : (shape : SliceShape) (mb : Mb) (x n : ℕ) → length (valid.mvd_of mb x n) ≡ 2 → IsListSent shape mb x → n < 16 → sends_mvds mb x n ≡ true → IsVector (valid.mvd_of mb x n)
is_vector shape mb x n size sent below e = there (list_is_used mb x (n / 4)) (valid.mvd_of mb x n) e size (sent.mvd n below)

-- a vector by its components
pub components : (v : List ℤ) → length v ≡ 2 → v ≡ get_or v 0 (pos 0) ∷ get_or v 1 (pos 0) ∷ []
components [] e = absurd (omega (arith, e))
components (a ∷ []) e = absurd (omega (arith, e))
components (a ∷ b ∷ c ∷ v) e = absurd (omega (arith, e))
components (a ∷ b ∷ []) e = refl

pub written_as : (v w : List ℤ) (a b : ℤ) → w ≡ v → length v ≡ 2 → a ≡ get_or w 0 (pos 0) → b ≡ get_or w 1 (pos 0) → v ≡ a ∷ b ∷ []
written_as v w a b same size first second = components v size ∙ rw (first, second, same) refl
