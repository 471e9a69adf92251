-- transform_size_8x8_flag behind the pattern, mb_qp_delta and the residual, and the whole macroblock.
use Rattle.std.proofs.Common.{◌≡◌, ℕ, ℤ, Bool, true, false, List, Option, Some, None, refl, sym, ap, ◌∙◌}
use Rattle.cabac_engine.specs.Bins.{Slot}
use Rattle.binarisation.specs.BinString.{Value, Reads, Writes, ◌>>=◌}
use Rattle.binarisation.specs.Elements as syntax
use Rattle.binarisation.proofs.Strings.{reads_none}
use Rattle.h264_types.specs.Kind.{is_intra, is_i_pcm}
use Rattle.h264_types.specs.Slice.{IsInPicture}
use Rattle.h264_types.specs.Sent.{sends_t8_last, sends_qp_delta}
use Rattle.h264_types.proofs.KindLaws.{unset}
use Rattle.h264_types.specs.declared.macroblock.Mb.{Mb}
use Rattle.h264_types.specs.declared.slice_shape.SliceShape.{SliceShape}
use Rattle.cabac_contexts.specs.declared.term.Term.TheVariants.{Transform8}
use Rattle.cabac_contexts.specs.Increments as incs
use Rattle.cabac_mb_residual.specs.MacroblockResidual.{residual}
use Rattle.cabac_mb_residual.specs.Levels.{without_levels}
use Rattle.cabac_macroblock.specs.MacroblockLayer.{last_transform_size, qp_delta, coding, intra_elements, inter_elements, elements}
use Rattle.cabac_macroblock.specs.Stages.{before_last_t8, before_qp_delta}
use Rattle.cabac_macroblock.proofs.Puts.{reads_put, writes_put}
use Rattle.cabac_macroblock.proofs.WholeIncrements.{same_sum}

-- ---- mb_qp_delta

pub reads_delta : {S : Type 0} (step : S → Slot → Option Bool → S → Type 0) (done : List Mb) (at : ℕ) (mb made : Mb) (inc : ℕ) (delta : ℤ) (s t : S) → inc ≡ incs.qp_delta done at → made ≡ record mb { qp_delta = delta }
    → Reads step (syntax.qp_delta inc) (Some delta) s t → Reads step (qp_delta done at mb) (Some made) s t
unfolding qp_delta
reads_delta step done at mb made inc delta s t e is first = reads_put step (syntax.qp_delta (incs.qp_delta done at)) (λ delta. record mb { qp_delta = delta }) delta made s t is (rw e at first)

pub reads_no_delta : {S : Type 0} (step : S → Slot → Option Bool → S → Type 0) (done : List Mb) (at : ℕ) (mb : Mb) (inc : ℕ) (s t : S) → inc ≡ incs.qp_delta done at
    → Reads step (syntax.qp_delta inc) None s t → Reads step (qp_delta done at mb) None s t
unfolding qp_delta
reads_no_delta step done at mb inc s t e first = reads_none step (syntax.qp_delta (incs.qp_delta done at)) (λ delta. Value (record mb { qp_delta = delta })) s t (rw e at first)

pub writes_delta : {S : Type 0} (step : S → Slot → Bool → S → Type 0) (done : List Mb) (at : ℕ) (mb : Mb) (inc : ℕ) (s t : S) → inc ≡ incs.qp_delta done at
    → Writes step (syntax.qp_delta inc) mb.qp_delta s t → Writes step (qp_delta done at (before_qp_delta mb)) (without_levels mb) s t
unfolding qp_delta
writes_delta step done at mb inc s t e first = writes_put step (syntax.qp_delta (incs.qp_delta done at)) (λ delta. record (before_qp_delta mb) { qp_delta = delta }) mb.qp_delta (without_levels mb) s t refl (rw e at first)

-- ---- what is sent behind the pattern

pub coding_sent : (shape : SliceShape) (done : List Mb) (at : ℕ) (mb : Mb) → sends_qp_delta mb.kind mb.pattern ≡ true → coding shape done at mb ≡ (qp_delta done at mb >>= residual shape done at)
unfolding coding
coding_sent shape done at mb e = rw e refl

pub coding_unsent : (shape : SliceShape) (done : List Mb) (at : ℕ) (mb : Mb) → sends_qp_delta mb.kind mb.pattern ≡ false → coding shape done at mb ≡ Value mb
unfolding coding
coding_unsent shape done at mb e = rw e refl

-- ---- transform_size_8x8_flag behind the pattern

pub reads_last_t8 : {S : Type 0} (step : S → Slot → Option Bool → S → Type 0) (shape : SliceShape) (done : List Mb) (at : ℕ) (mb made : Mb) (inc : ℕ) (flag : Bool) (s t : S) → sends_t8_last shape mb.kind mb.subs mb.pattern ≡ true → inc ≡ incs.t8 shape done at mb.field mb → made ≡ record mb { t8 = flag }
    → Reads step (syntax.t8 inc) (Some flag) s t → Reads step (last_transform_size shape done at mb) (Some made) s t
unfolding last_transform_size
reads_last_t8 step shape done at mb made inc flag s t sent e is first = rw sent (reads_put step (syntax.t8 (incs.t8 shape done at mb.field mb)) (λ flag. record mb { t8 = flag }) flag made s t is (rw e at first))

pub reads_last_t8_none : {S : Type 0} (step : S → Slot → Option Bool → S → Type 0) (shape : SliceShape) (done : List Mb) (at : ℕ) (mb : Mb) (inc : ℕ) (s t : S) → sends_t8_last shape mb.kind mb.subs mb.pattern ≡ true → inc ≡ incs.t8 shape done at mb.field mb
    → Reads step (syntax.t8 inc) None s t → Reads step (last_transform_size shape done at mb) None s t
unfolding last_transform_size
reads_last_t8_none step shape done at mb inc s t sent e first = rw sent (reads_none step (syntax.t8 (incs.t8 shape done at mb.field mb)) (λ flag. Value (record mb { t8 = flag })) s t (rw e at first))

pub reads_last_t8_unsent : {S : Type 0} (step : S → Slot → Option Bool → S → Type 0) (shape : SliceShape) (done : List Mb) (at : ℕ) (mb : Mb) (s : S) → sends_t8_last shape mb.kind mb.subs mb.pattern ≡ false → Reads step (last_transform_size shape done at mb) (Some mb) s s
unfolding last_transform_size
reads_last_t8_unsent step shape done at mb s sent = rw sent (refl, refl)

pub writes_last_t8 : {S : Type 0} (step : S → Slot → Bool → S → Type 0) (shape : SliceShape) (done : List Mb) (at : ℕ) (mb : Mb) (inc : ℕ) (s t : S) → IsInPicture shape at → sends_t8_last shape mb.kind mb.subs mb.pattern ≡ true → inc ≡ incs.t8 shape done at mb.field mb
    → Writes step (syntax.t8 inc) mb.t8 s t → Writes step (last_transform_size shape done at (before_last_t8 mb)) (before_qp_delta mb) s t
unfolding last_transform_size
writes_last_t8 step shape done at mb inc s t inside sent e first =
    let same : inc ≡ incs.t8 shape done at mb.field (before_last_t8 mb) = e ∙ same_sum Transform8 shape done at mb.field mb (before_last_t8 mb) inside in
    rw sent (writes_put step (syntax.t8 (incs.t8 shape done at mb.field (before_last_t8 mb))) (λ flag. record (before_last_t8 mb) { t8 = flag }) mb.t8 (before_qp_delta mb) s t refl (rw same at first))

pub writes_last_t8_unsent : {S : Type 0} (step : S → Slot → Bool → S → Type 0) (shape : SliceShape) (done : List Mb) (at : ℕ) (mb : Mb) (s : S) → sends_t8_last shape mb.kind mb.subs mb.pattern ≡ false → (mb.t8 ≡ true → sends_t8_last shape mb.kind mb.subs mb.pattern ≡ true)
    → Writes step (last_transform_size shape done at (before_last_t8 mb)) (before_qp_delta mb) s s
unfolding last_transform_size
writes_last_t8_unsent step shape done at mb s sent only =
    let none : mb.t8 ≡ false = unset mb.t8 (sends_t8_last shape mb.kind mb.subs mb.pattern) only sent in
    rw sent (ap (λ flag. record (before_last_t8 mb) { t8 = flag }) (sym none), refl)

-- ---- the elements behind mb_type

pub elements_pcm : (shape : SliceShape) (done : List Mb) (at : ℕ) (mb : Mb) → is_i_pcm mb.kind ≡ true → elements shape done at mb ≡ Value mb
unfolding elements
elements_pcm shape done at mb e = rw e refl

pub elements_intra : (shape : SliceShape) (done : List Mb) (at : ℕ) (mb : Mb) → is_i_pcm mb.kind ≡ false → is_intra mb.kind ≡ true → elements shape done at mb ≡ intra_elements shape done at mb
unfolding elements
elements_intra shape done at mb e h = rw (e, h) refl

pub elements_inter : (shape : SliceShape) (done : List Mb) (at : ℕ) (mb : Mb) → is_i_pcm mb.kind ≡ false → is_intra mb.kind ≡ false → elements shape done at mb ≡ inter_elements shape done at mb
unfolding elements
elements_inter shape done at mb e h = rw (e, h) refl
