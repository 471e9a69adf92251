-- The prediction of intra macroblocks, element by element.
use Rattle.std.proofs.Common.{◌≡◌, ℕ, suc, ◌+◌, ◌-◌, ◌<◌, ◌≤◌, Bool, true, false, cond, List, [], ◌∷◌, ◌++◌, length, take, drop, replicate, Option, Some, None, refl, sym, ap, subst, ◌∙◌, arith}
use Rattle.std.specs.Prelude.{slice_set, slice_index, nat_lt, not, ◌&&◌}
use Rattle.std.proofs.lemmas.List.{set_at, take_more, take-append-drop, append_assoc, length-take-le, length-drop, get_or-drop}
use Rattle.std.proofs.lemmas.Bool.Decides.{nat_tests}
use Rattle.cabac_engine.specs.Bins.{Slot}
use Rattle.binarisation.specs.BinString.{Value, Reads, Writes}
use Rattle.binarisation.specs.Elements as elements
use Rattle.binarisation.proofs.Strings.{reads_then, reads_none, writes_then, Continues, Completes}
use Rattle.h264_types.specs.Kind.{is_intra, is_i_nxn, is_i_pcm}
use Rattle.h264_types.specs.Valid.{mode_bound, IsIntraPredicted}
use Rattle.h264_types.specs.Slice.{IsInPicture}
use Rattle.h264_types.specs.Sent.{sends_t8_first, mode_count}
use Rattle.h264_types.specs.declared.macroblock.Mb.{Mb}
use Rattle.h264_types.specs.declared.slice_shape.SliceShape.{SliceShape}
use Rattle.h264_types.proofs.Zeros.{zero_numbers}
use Rattle.cabac_contexts.specs.declared.term.Term.TheVariants.{ChromaMode, Transform8}
use Rattle.cabac_contexts.specs.Increments as incs
use Rattle.binarisation.specs.Each.{each}
use Rattle.cabac_macroblock.specs.IntraPrediction.{transform_size, any_mode, mode_at, modes, chroma_mode}
use Rattle.cabac_macroblock.specs.Stages.{before_t8, before_modes, before_chroma_mode, before_pattern}
use Rattle.cabac_macroblock.proofs.Puts.{reads_put, writes_put}
use Rattle.cabac_macroblock.proofs.WholeIncrements.{same_sum}

-- ---- transform_size_8x8_flag

pub reads_t8 : {S : Type 0} (step : S → Slot → Option Bool → S → Type 0) (shape : SliceShape) (done : List Mb) (at : ℕ) (mb made : Mb) (inc : ℕ) (flag : Bool) (s t : S) → sends_t8_first shape mb.kind ≡ true → inc ≡ incs.t8 shape done at mb.field mb → made ≡ record mb { t8 = flag }
    → Reads step (elements.t8 inc) (Some flag) s t → Reads step (transform_size shape done at mb) (Some made) s t
unfolding transform_size
reads_t8 step shape done at mb made inc flag s t sent e is first = rw sent (reads_put step (elements.t8 (incs.t8 shape done at mb.field mb)) (λ flag. record mb { t8 = flag }) flag made s t is (rw e at first))

pub reads_t8_none : {S : Type 0} (step : S → Slot → Option Bool → S → Type 0) (shape : SliceShape) (done : List Mb) (at : ℕ) (mb : Mb) (inc : ℕ) (s t : S) → sends_t8_first shape mb.kind ≡ true → inc ≡ incs.t8 shape done at mb.field mb
    → Reads step (elements.t8 inc) None s t → Reads step (transform_size shape done at mb) None s t
unfolding transform_size
reads_t8_none step shape done at mb inc s t sent e first = rw sent (reads_none step (elements.t8 (incs.t8 shape done at mb.field mb)) (λ flag. Value (record mb { t8 = flag })) s t (rw e at first))

pub reads_t8_unsent : {S : Type 0} (step : S → Slot → Option Bool → S → Type 0) (shape : SliceShape) (done : List Mb) (at : ℕ) (mb : Mb) (s : S) → sends_t8_first shape mb.kind ≡ false → Reads step (transform_size shape done at mb) (Some mb) s s
unfolding transform_size
reads_t8_unsent step shape done at mb s sent = rw sent (refl, refl)

pub writes_t8 : {S : Type 0} (step : S → Slot → Bool → S → Type 0) (shape : SliceShape) (done : List Mb) (at : ℕ) (mb : Mb) (inc : ℕ) (s t : S) → IsInPicture shape at → sends_t8_first shape mb.kind ≡ true → inc ≡ incs.t8 shape done at mb.field mb
    → Writes step (elements.t8 inc) mb.t8 s t → Writes step (transform_size shape done at (before_t8 mb)) (before_modes mb) s t
unfolding transform_size
writes_t8 step shape done at mb inc s t inside sent e first =
    let same : inc ≡ incs.t8 shape done at mb.field (before_t8 mb) = e ∙ same_sum Transform8 shape done at mb.field mb (before_t8 mb) inside in
    rw sent (writes_put step (elements.t8 (incs.t8 shape done at mb.field (before_t8 mb))) (λ flag. record (before_t8 mb) { t8 = flag }) mb.t8 (before_modes mb) s t refl (rw same at first))

pub writes_t8_unsent : {S : Type 0} (step : S → Slot → Bool → S → Type 0) (shape : SliceShape) (done : List Mb) (at : ℕ) (mb : Mb) (s : S) → sends_t8_first shape mb.kind ≡ false → (mb.t8 ≡ true → sends_t8_first shape mb.kind ≡ true)
    → Writes step (transform_size shape done at (before_t8 mb)) (before_modes mb) s s
unfolding transform_size
writes_t8_unsent step shape done at mb s sent only =
    let none : mb.t8 ≡ false = unset mb.t8 refl in
    rw sent (ap (λ flag. record (before_t8 mb) { t8 = flag }) (sym none), refl)
  where
    unset : (flag : Bool) → mb.t8 ≡ flag → mb.t8 ≡ false
    unset true e = let is = only e in absurd cc
    unset false e = e

-- ---- the modes

pub reads_same : {S : Type 0} (step : S → Slot → Option Bool → S → Type 0) (flag : Bool) (s t : S) → flag ≡ true → Reads step elements.mode_flag (Some flag) s t → Reads step any_mode (Some 8) s t
unfolding any_mode
reads_same step flag s t e first = reads_then step elements.mode_flag (λ same. cond same (Value 8) elements.mode) flag (Some 8) s t t first (rw e (refl, refl))

pub reads_other : {S : Type 0} (step : S → Slot → Option Bool → S → Type 0) (flag : Bool) (result : Option ℕ) (s m t : S) → flag ≡ false → Reads step elements.mode_flag (Some flag) s m → Reads step elements.mode result m t → Reads step any_mode result s t
unfolding any_mode
reads_other step flag result s m t e first others = reads_then step elements.mode_flag (λ same. cond same (Value 8) elements.mode) flag result s m t first (rw e others)

pub reads_no_mode : {S : Type 0} (step : S → Slot → Option Bool → S → Type 0) (s t : S) → Reads step elements.mode_flag None s t → Reads step any_mode None s t
unfolding any_mode
reads_no_mode step s t first = reads_none step elements.mode_flag (λ same. cond same (Value 8) elements.mode) s t first

pub writes_same : {S : Type 0} (step : S → Slot → Bool → S → Type 0) (mode : ℕ) (s t : S) → mode ≡ 8 → Writes step elements.mode_flag true s t → Writes step any_mode mode s t
unfolding any_mode
writes_same step mode s t e first = rw e (writes_then step elements.mode_flag (λ same. cond same (Value 8) elements.mode) true 8 s t t first (refl, refl))

pub writes_other : {S : Type 0} (step : S → Slot → Bool → S → Type 0) (mode : ℕ) (s m t : S) → Writes step elements.mode_flag false s m → Writes step elements.mode mode m t → Writes step any_mode mode s t
unfolding any_mode
writes_other step mode s m t first others = writes_then step elements.mode_flag (λ same. cond same (Value 8) elements.mode) false mode s m t first others

pub reads_mode_at : {S : Type 0} (step : S → Slot → Option Bool → S → Type 0) (k mode : ℕ) (mb : Mb) (s t : S) → Reads step any_mode (Some mode) s t → Reads step (mode_at k mb) (Some (record mb { modes = slice_set mb.modes k mode })) s t
unfolding mode_at
reads_mode_at step k mode mb s t first = reads_put step any_mode (λ m. record mb { modes = slice_set mb.modes k m }) mode _ s t refl first

pub reads_no_mode_at : {S : Type 0} (step : S → Slot → Option Bool → S → Type 0) (k : ℕ) (mb : Mb) (s t : S) → Reads step any_mode None s t → Reads step (mode_at k mb) None s t
unfolding mode_at
reads_no_mode_at step k mb s t first = reads_none step any_mode (λ m. Value (record mb { modes = slice_set mb.modes k m })) s t first

pub modes_unsent : (mb : Mb) → is_i_nxn mb.kind ≡ false → modes mb ≡ Value mb
unfolding modes
modes_unsent mb e = rw e refl

-- the macroblock with its first modes alone
abbrev pub with_first : ℕ → Mb → Mb
with_first k mb = record (before_modes mb) { modes = take k mb.modes ++ replicate (16 - k) 0 }

next_first : (k : ℕ) (xs : List ℕ) → length xs ≡ 16 → k < 16 → slice_set (take k xs ++ replicate (16 - k) 0) k (slice_index xs k) ≡ take (k + 1) xs ++ replicate (16 - (k + 1)) 0
next_first k xs size h =
    let one : 16 - k ≡ suc (16 - (k + 1)) = omega arith in
    let rest : List ℕ = replicate (16 - (k + 1)) 0 in
    let front : length (take k xs) ≡ k = length-take-le k xs (omega (arith, size)) in
    ap (λ n. slice_set (take k xs ++ replicate n 0) k (slice_index xs k)) one
    ∙ set_at (take k xs) 0 rest (slice_index xs k) k front
    ∙ sym (append_assoc (take k xs) (slice_index xs k ∷ []) rest)
    ∙ ap (λ l. l ++ rest) (sym (take_more xs k 0 (omega (arith, size))))

pub writes_mode_at : {S : Type 0} (step : S → Slot → Bool → S → Type 0) (k : ℕ) (mb : Mb) (s t : S) → length mb.modes ≡ 16 → k < 16 → Writes step any_mode (slice_index mb.modes k) s t → Writes step (mode_at k (with_first k mb)) (with_first (k + 1) mb) s t
unfolding mode_at
writes_mode_at step k mb s t size h first =
    writes_put step any_mode (λ m. record (with_first k mb) { modes = slice_set (with_first k mb).modes k m }) (slice_index mb.modes k) (with_first (k + 1) mb) s t
    (ap (λ l. record (before_modes mb) { modes = l }) (sym (next_first k mb.modes size h))) first

-- the modes up to a place, where none behind them is other than 0
first_modes : (n : ℕ) (xs : List ℕ) → n ≤ 16 → length xs ≡ 16 → ((k : ℕ) → n ≤ k → k < 16 → slice_index xs k ≤ 0) → take n xs ++ replicate (16 - n) 0 ≡ xs
first_modes n xs most size none =
    let behind : drop n xs ≡ replicate (16 - n) 0 = zero_numbers (16 - n) (drop n xs) (length-drop n xs ∙ ap (λ l. l - n) size) (λ k below. omega (arith, none (n + k) (omega arith) (omega (arith, below)), get_or-drop n xs k 0)) in
    ap (λ l. take n xs ++ l) (sym behind) ∙ take-append-drop n xs

no_mode : (count : ℕ) (xs : List ℕ) → ((k : ℕ) → k < 16 → slice_index xs k ≤ cond (nat_lt k count) 8 0) → (k : ℕ) → count ≤ k → k < 16 → slice_index xs k ≤ 0
no_mode count xs bound k least below = let no : nat_lt k count ≡ false = grind (arith, nat_tests) in let P : Bool → Type 0 = λ b. slice_index xs k ≤ cond b 8 0 in subst P no (bound k below)

-- all modes that are sent
pub all_first : (mb : Mb) (n : ℕ) → n ≤ 16 → length mb.modes ≡ 16 → is_i_nxn mb.kind ≡ true → n ≡ mode_count mb.t8 → ((k : ℕ) → k < 16 → slice_index mb.modes k ≤ mode_bound mb k) → with_first n mb ≡ before_chroma_mode mb
all_first mb n most size sent e bound =
    ap (λ l. record (before_modes mb) { modes = l }) (first_modes n mb.modes most size (λ k least below. no_mode (mode_count mb.t8) mb.modes (rw sent at bound) k (rw e at least) below))

-- where none is sent
pub no_first : (mb : Mb) → length mb.modes ≡ 16 → is_i_nxn mb.kind ≡ false → ((k : ℕ) → k < 16 → slice_index mb.modes k ≤ mode_bound mb k) → before_modes mb ≡ before_chroma_mode mb
no_first mb size unsent bound = ap (λ l. record (before_modes mb) { modes = l }) (sym (zero_numbers 16 mb.modes size (rw unsent at bound)))

pub begins_reading : {S : Type 0} (step : S → Slot → Option Bool → S → Type 0) (mb : Mb) (s : S) → is_i_nxn mb.kind ≡ true → Continues step (modes mb) s (each (mode_count mb.t8 - 0) mode_at 0 mb) s
unfolding modes
begins_reading step mb s sent result t h = let all : mode_count mb.t8 - 0 ≡ mode_count mb.t8 = omega arith in rw sent (rw all at h)

pub begins_writing : {S : Type 0} (step : S → Slot → Bool → S → Type 0) (mb : Mb) (s : S) → is_i_nxn mb.kind ≡ true → Completes step (modes (before_modes mb)) s (each (mode_count mb.t8 - 0) mode_at 0 (with_first 0 mb)) s
unfolding modes
begins_writing step mb s sent value t h = let all : mode_count mb.t8 - 0 ≡ mode_count mb.t8 = omega arith in rw sent (rw all at h)

-- ---- intra_chroma_pred_mode

pub reads_chroma_mode : {S : Type 0} (step : S → Slot → Option Bool → S → Type 0) (shape : SliceShape) (done : List Mb) (at : ℕ) (mb made : Mb) (inc mode : ℕ) (s t : S) → inc ≡ incs.chroma_mode shape done at mb.field mb → made ≡ record mb { chroma_mode = mode }
    → Reads step (elements.chroma_mode inc) (Some mode) s t → Reads step (chroma_mode shape done at mb) (Some made) s t
unfolding chroma_mode
reads_chroma_mode step shape done at mb made inc mode s t e is first = reads_put step (elements.chroma_mode (incs.chroma_mode shape done at mb.field mb)) (λ mode. record mb { chroma_mode = mode }) mode made s t is (rw e at first)

pub reads_no_chroma_mode : {S : Type 0} (step : S → Slot → Option Bool → S → Type 0) (shape : SliceShape) (done : List Mb) (at : ℕ) (mb : Mb) (inc : ℕ) (s t : S) → inc ≡ incs.chroma_mode shape done at mb.field mb
    → Reads step (elements.chroma_mode inc) None s t → Reads step (chroma_mode shape done at mb) None s t
unfolding chroma_mode
reads_no_chroma_mode step shape done at mb inc s t e first = reads_none step (elements.chroma_mode (incs.chroma_mode shape done at mb.field mb)) (λ mode. Value (record mb { chroma_mode = mode })) s t (rw e at first)

pub writes_chroma_mode : {S : Type 0} (step : S → Slot → Bool → S → Type 0) (shape : SliceShape) (done : List Mb) (at : ℕ) (mb : Mb) (inc : ℕ) (s t : S) → IsInPicture shape at → inc ≡ incs.chroma_mode shape done at mb.field mb
    → Writes step (elements.chroma_mode inc) mb.chroma_mode s t → Writes step (chroma_mode shape done at (before_chroma_mode mb)) (before_pattern mb) s t
unfolding chroma_mode
writes_chroma_mode step shape done at mb inc s t inside e first =
    let same : inc ≡ incs.chroma_mode shape done at mb.field (before_chroma_mode mb) = e ∙ same_sum ChromaMode shape done at mb.field mb (before_chroma_mode mb) inside in
    writes_put step (elements.chroma_mode (incs.chroma_mode shape done at mb.field (before_chroma_mode mb))) (λ mode. record (before_chroma_mode mb) { chroma_mode = mode }) mb.chroma_mode (before_pattern mb) s t refl (rw same at first)

pub chroma_mode_range : (mb : Mb) → IsIntraPredicted mb → mb.chroma_mode ≤ 3
chroma_mode_range mb is = most (is_intra mb.kind && not (is_i_pcm mb.kind)) is.chroma_mode
  where
    most : (b : Bool) → mb.chroma_mode ≤ cond b 3 0 → mb.chroma_mode ≤ 3
    most true h = h
    most false h = omega (arith, h)
