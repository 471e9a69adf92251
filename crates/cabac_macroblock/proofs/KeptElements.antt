-- The elements before each one stay.
use Rattle.std.proofs.Common.{◌≡◌, ℕ, ◌*◌, pos, Bool, true, false, cond, List, refl, ap, ◌∙◌}
use Rattle.std.specs.Prelude.{not, ◌==◌, slice_set}
use Rattle.binarisation.specs.BinString.{Value, ◌>>=◌}
use Rattle.binarisation.specs.Elements as syntax
use Rattle.cabac_residual.specs.Block.{block}
use Rattle.h264_types.specs.Kind.{is_intra, is_i_nxn, is_i_16x16, is_i_pcm}
use Rattle.h264_types.specs.Macroblock.{pattern_of}
use Rattle.h264_types.specs.Sizes.{HasSizes}
use Rattle.h264_types.specs.Sent.{sends_t8_first, sends_t8_last, mode_count, sends_pattern, sends_qp_delta}
use Rattle.h264_types.specs.declared.macroblock.Mb.{Mb}
use Rattle.h264_types.specs.declared.macroblock.MbKind.{MbKind}
use Rattle.h264_types.specs.declared.slice_shape.SliceShape.{SliceShape}
use Rattle.cabac_contexts.specs.Terms.{has_luma}
use Rattle.cabac_contexts.specs.Increments as incs
use Rattle.binarisation.specs.Each.{each}
use Rattle.cabac_mb_residual.specs.MacroblockResidual.{is_field, list, luma_dc, luma_cat, luma_max, luma4, filled, with_luma4, with_quarter, with_chroma_dc, with_chroma_block, quarter, chroma_dc, chroma_block, chroma_ac, residual}
use Rattle.cabac_mb_residual.specs.Levels.{without_levels}
use Rattle.cabac_macroblock.specs.IntraPrediction.{transform_size, any_mode, mode_at, modes, chroma_mode, intra_prediction}
use Rattle.cabac_macroblock.specs.CodedBlockPattern.{with_luma_bit, luma_bit, luma_bits, chroma_pattern, pattern}
use Rattle.cabac_inter.specs.InterPrediction.{inter_prediction}
use Rattle.cabac_macroblock.specs.MbType.{of_kind}
use Rattle.cabac_macroblock.specs.MacroblockLayer.{last_transform_size, qp_delta, coding, intra_elements, inter_elements, elements}
use Rattle.cabac_inter.proofs.ValidPrediction.{prediction_others}
use Rattle.cabac_macroblock.proofs.InterLaws.{kind_sized}
use Rattle.cabac_macroblock.specs.Stages.{before_t8, before_modes, before_chroma_mode, before_inter, before_pattern, before_chroma_pattern, before_last_t8, before_qp_delta}
use Rattle.cabac_macroblock.proofs.Kept.{Keeps, keeps_value, keeps_then, keeps_put, keeps_if, keeps_each}

-- ---- the residual: levels alone are put

abbrev Levelled : Mb → Mb → Type 0
Levelled w m = without_levels m ≡ w

luma_dc_kept : (shape : SliceShape) (done : List Mb) (at : ℕ) (w mb : Mb) → Levelled w mb → Keeps (Levelled w) (luma_dc shape done at mb)
unfolding luma_dc
luma_dc_kept shape done at w mb is =
    keeps_if (Levelled w) (is_i_16x16 mb.kind) (list shape done at 0 0 0 16 mb >>= (λ levels. Value (record mb { dc = levels }))) (Value mb)
    (keeps_put (Levelled w) (list shape done at 0 0 0 16 mb) (λ levels. record mb { dc = levels }) (λ levels. is)) (keeps_value (Levelled w) mb is)

luma4_kept : (shape : SliceShape) (done : List Mb) (at : ℕ) (w : Mb) (n : ℕ) (mb : Mb) → Levelled w mb → Keeps (Levelled w) (luma4 shape done at n mb)
unfolding luma4
luma4_kept shape done at w n mb is =
    keeps_put (Levelled w) (list shape done at (luma_cat mb.kind) 0 n (luma_max mb.kind) mb) (λ levels. with_luma4 n mb (filled levels)) (λ levels. is)

quarter_kept : (shape : SliceShape) (done : List Mb) (at : ℕ) (w : Mb) (q : ℕ) (mb : Mb) → Levelled w mb → Keeps (Levelled w) (quarter shape done at q mb)
unfolding quarter
quarter_kept shape done at w q mb is =
    let whole = block 5 (is_field shape mb) 0 64 >>= (λ levels. Value (with_quarter q mb levels)) in
    let blocks = each 4 (luma4 shape done at) (4 * q) mb in
    keeps_if (Levelled w) (not (has_luma mb q)) (Value mb) (cond mb.t8 whole blocks) (keeps_value (Levelled w) mb is)
    (keeps_if (Levelled w) mb.t8 whole blocks
    (keeps_put (Levelled w) (block 5 (is_field shape mb) 0 64) (λ levels. with_quarter q mb levels) (λ levels. is))
    (keeps_each (Levelled w) (luma4 shape done at) (λ n m h. luma4_kept shape done at w n m h) 4 (4 * q) mb is))

chroma_dc_kept : (shape : SliceShape) (done : List Mb) (at : ℕ) (w : Mb) (comp : ℕ) (mb : Mb) → Levelled w mb → Keeps (Levelled w) (chroma_dc shape done at comp mb)
unfolding chroma_dc
chroma_dc_kept shape done at w comp mb is =
    keeps_if (Levelled w) ((pattern_of mb).chroma == 0) (Value mb) (list shape done at 3 comp 0 4 mb >>= (λ levels. Value (with_chroma_dc comp mb levels))) (keeps_value (Levelled w) mb is)
    (keeps_put (Levelled w) (list shape done at 3 comp 0 4 mb) (λ levels. with_chroma_dc comp mb levels) (λ levels. is))

chroma_block_kept : (shape : SliceShape) (done : List Mb) (at : ℕ) (w : Mb) (comp n : ℕ) (mb : Mb) → Levelled w mb → Keeps (Levelled w) (chroma_block shape done at comp n mb)
unfolding chroma_block
chroma_block_kept shape done at w comp n mb is = keeps_put (Levelled w) (list shape done at 4 comp n 15 mb) (λ levels. with_chroma_block comp n mb levels) (λ levels. is)

chroma_ac_kept : (shape : SliceShape) (done : List Mb) (at : ℕ) (w : Mb) (comp : ℕ) (mb : Mb) → Levelled w mb → Keeps (Levelled w) (chroma_ac shape done at comp mb)
unfolding chroma_ac
chroma_ac_kept shape done at w comp mb is =
    keeps_if (Levelled w) ((pattern_of mb).chroma == 2) (each 4 (chroma_block shape done at comp) 0 mb) (Value mb)
    (keeps_each (Levelled w) (chroma_block shape done at comp) (λ n m h. chroma_block_kept shape done at w comp n m h) 4 0 mb is) (keeps_value (Levelled w) mb is)

pub residual_kept : (shape : SliceShape) (done : List Mb) (at : ℕ) (w mb : Mb) → without_levels mb ≡ w → Keeps (λ m. without_levels m ≡ w) (residual shape done at mb)
unfolding residual
residual_kept shape done at w mb is =
    let P : Mb → Type 0 = λ m. without_levels m ≡ w in
    let luma = luma_dc shape done at mb >>= each 4 (quarter shape done at) 0 in
    let dc = luma >>= each 2 (chroma_dc shape done at) 0 in
    keeps_then P P dc (each 2 (chroma_ac shape done at) 0)
    (keeps_then P P luma (each 2 (chroma_dc shape done at) 0)
    (keeps_then P P (luma_dc shape done at mb) (each 4 (quarter shape done at) 0) (luma_dc_kept shape done at w mb is)
    (λ m h. keeps_each P (quarter shape done at) (λ q n g. quarter_kept shape done at w q n g) 4 0 m h))
    (λ m h. keeps_each P (chroma_dc shape done at) (λ comp n g. chroma_dc_kept shape done at w comp n g) 2 0 m h))
    (λ m h. keeps_each P (chroma_ac shape done at) (λ comp n g. chroma_ac_kept shape done at w comp n g) 2 0 m h)

-- ---- the other elements

pub coding_kept : (shape : SliceShape) (done : List Mb) (at : ℕ) (w mb : Mb) → before_qp_delta mb ≡ w → Keeps (λ m. before_qp_delta m ≡ w) (coding shape done at mb)
unfolding coding qp_delta
coding_kept shape done at w mb is =
    let P : Mb → Type 0 = λ m. before_qp_delta m ≡ w in
    let delta = syntax.qp_delta (incs.qp_delta done at) >>= (λ d. Value (record mb { qp_delta = d })) in
    keeps_if P (sends_qp_delta mb.kind mb.pattern) (delta >>= residual shape done at) (Value mb)
    (keeps_then P P delta (residual shape done at) (keeps_put P (syntax.qp_delta (incs.qp_delta done at)) (λ d. record mb { qp_delta = d }) (λ d. is))
    (λ m h bins value g. ap (λ (n : Mb). record n { qp_delta = pos 0 }) (residual_kept shape done at (without_levels m) m refl bins value g) ∙ h))
    (keeps_value P mb is)

pub luma_bits_kept : (shape : SliceShape) (done : List Mb) (at : ℕ) (w mb : Mb) → before_pattern mb ≡ w → Keeps (λ m. before_pattern m ≡ w) (luma_bits shape done at mb)
unfolding luma_bits luma_bit
luma_bits_kept shape done at w mb is =
    let P : Mb → Type 0 = λ m. before_pattern m ≡ w in
    keeps_each P (luma_bit shape done at) (λ q m h. keeps_put P (syntax.pattern_luma (incs.luma shape done at m.field m q)) (λ bit. record m { pattern = with_luma_bit m.pattern q bit }) (λ bit. h)) 4 0 mb is

pub chroma_pattern_kept : (shape : SliceShape) (done : List Mb) (at : ℕ) (w mb : Mb) → before_chroma_pattern mb ≡ w → Keeps (λ m. before_chroma_pattern m ≡ w) (chroma_pattern shape done at mb)
unfolding chroma_pattern
chroma_pattern_kept shape done at w mb is =
    keeps_put (λ m. before_chroma_pattern m ≡ w) (syntax.pattern_chroma (incs.chroma shape done at mb.field mb false) (incs.chroma shape done at mb.field mb true)) (λ chroma. record mb { pattern = record mb.pattern { chroma = chroma } }) (λ chroma. is)

pub pattern_kept : (shape : SliceShape) (done : List Mb) (at : ℕ) (w mb : Mb) → before_pattern mb ≡ w → Keeps (λ m. before_pattern m ≡ w) (pattern shape done at mb)
unfolding pattern
pattern_kept shape done at w mb is =
    let P : Mb → Type 0 = λ m. before_pattern m ≡ w in
    keeps_if P (sends_pattern mb.kind) (luma_bits shape done at mb >>= chroma_pattern shape done at) (Value mb)
    (keeps_then P P (luma_bits shape done at mb) (chroma_pattern shape done at) (luma_bits_kept shape done at w mb is)
    (λ m h bins value g. ap before_pattern (chroma_pattern_kept shape done at (before_chroma_pattern m) m refl bins value g) ∙ h))
    (keeps_value P mb is)

pub chroma_mode_kept : (shape : SliceShape) (done : List Mb) (at : ℕ) (w mb : Mb) → before_chroma_mode mb ≡ w → Keeps (λ m. before_chroma_mode m ≡ w) (chroma_mode shape done at mb)
unfolding chroma_mode
chroma_mode_kept shape done at w mb is = keeps_put (λ m. before_chroma_mode m ≡ w) (syntax.chroma_mode (incs.chroma_mode shape done at mb.field mb)) (λ mode. record mb { chroma_mode = mode }) (λ mode. is)

pub modes_kept : (w mb : Mb) → before_modes mb ≡ w → Keeps (λ m. before_modes m ≡ w) (modes mb)
unfolding modes mode_at
modes_kept w mb is =
    let P : Mb → Type 0 = λ m. before_modes m ≡ w in
    keeps_if P (is_i_nxn mb.kind) (each (mode_count mb.t8) mode_at 0 mb) (Value mb)
    (keeps_each P mode_at (λ k m h. keeps_put P any_mode (λ mode. record m { modes = slice_set m.modes k mode }) (λ mode. h)) (mode_count mb.t8) 0 mb is) (keeps_value P mb is)

pub transform_size_kept : (shape : SliceShape) (done : List Mb) (at : ℕ) (w mb : Mb) → before_t8 mb ≡ w → Keeps (λ m. before_t8 m ≡ w) (transform_size shape done at mb)
unfolding transform_size
transform_size_kept shape done at w mb is =
    let P : Mb → Type 0 = λ m. before_t8 m ≡ w in
    keeps_if P (sends_t8_first shape mb.kind) (syntax.t8 (incs.t8 shape done at mb.field mb) >>= (λ flag. Value (record mb { t8 = flag }))) (Value mb)
    (keeps_put P (syntax.t8 (incs.t8 shape done at mb.field mb)) (λ flag. record mb { t8 = flag }) (λ flag. is)) (keeps_value P mb is)

pub prediction_kept : (shape : SliceShape) (done : List Mb) (at : ℕ) (w mb : Mb) → before_t8 mb ≡ w → Keeps (λ m. before_t8 m ≡ w) (intra_prediction shape done at mb)
unfolding intra_prediction
prediction_kept shape done at w mb is =
    let P : Mb → Type 0 = λ m. before_t8 m ≡ w in
    keeps_then P P (transform_size shape done at mb >>= modes) (chroma_mode shape done at)
    (keeps_then P P (transform_size shape done at mb) modes (transform_size_kept shape done at w mb is)
    (λ m h bins value g. ap before_t8 (modes_kept (before_modes m) m refl bins value g) ∙ h))
    (λ m h bins value g. ap before_t8 (chroma_mode_kept shape done at (before_chroma_mode m) m refl bins value g) ∙ h)

pub intra_elements_kept : (shape : SliceShape) (done : List Mb) (at : ℕ) (w mb : Mb) → before_t8 mb ≡ w → Keeps (λ m. before_t8 m ≡ w) (intra_elements shape done at mb)
unfolding intra_elements
intra_elements_kept shape done at w mb is =
    let P : Mb → Type 0 = λ m. before_t8 m ≡ w in
    keeps_then P P (intra_prediction shape done at mb >>= pattern shape done at) (coding shape done at)
    (keeps_then P P (intra_prediction shape done at mb) (pattern shape done at) (prediction_kept shape done at w mb is)
    (λ m h bins value g. ap before_t8 (pattern_kept shape done at (before_pattern m) m refl bins value g) ∙ h))
    (λ m h bins value g. ap before_t8 (coding_kept shape done at (before_qp_delta m) m refl bins value g) ∙ h)

-- ---- P and B macroblocks

pub last_size_kept : (shape : SliceShape) (done : List Mb) (at : ℕ) (w mb : Mb) → before_last_t8 mb ≡ w → Keeps (λ m. before_last_t8 m ≡ w) (last_transform_size shape done at mb)
unfolding last_transform_size
last_size_kept shape done at w mb is =
    let P : Mb → Type 0 = λ m. before_last_t8 m ≡ w in
    keeps_if P (sends_t8_last shape mb.kind mb.subs mb.pattern) (syntax.t8 (incs.t8 shape done at mb.field mb) >>= (λ flag. Value (record mb { t8 = flag }))) (Value mb)
    (keeps_put P (syntax.t8 (incs.t8 shape done at mb.field mb)) (λ flag. record mb { t8 = flag }) (λ flag. is)) (keeps_value P mb is)

pub inter_kept : (shape : SliceShape) (done : List Mb) (at : ℕ) (w mb : Mb) → HasSizes mb → before_inter mb ≡ w → Keeps (λ m. before_inter m ≡ w) (inter_prediction shape done at mb)
inter_kept shape done at w mb sizes is bins value h = ap before_inter (prediction_others shape done at mb sizes value bins h) ∙ is

pub inter_elements_kept : (shape : SliceShape) (done : List Mb) (at : ℕ) (w mb : Mb) → HasSizes mb → before_inter mb ≡ w → Keeps (λ m. before_inter m ≡ w) (inter_elements shape done at mb)
unfolding inter_elements
inter_elements_kept shape done at w mb sizes is =
    let P : Mb → Type 0 = λ m. before_inter m ≡ w in
    keeps_then P P (inter_prediction shape done at mb >>= pattern shape done at >>= last_transform_size shape done at) (coding shape done at)
    (keeps_then P P (inter_prediction shape done at mb >>= pattern shape done at) (last_transform_size shape done at)
    (keeps_then P P (inter_prediction shape done at mb) (pattern shape done at) (inter_kept shape done at w mb sizes is)
    (λ m h bins value g. ap before_inter (pattern_kept shape done at (before_pattern m) m refl bins value g) ∙ h))
    (λ m h bins value g. ap before_inter (last_size_kept shape done at (before_last_t8 m) m refl bins value g) ∙ h))
    (λ m h bins value g. ap before_inter (coding_kept shape done at (before_qp_delta m) m refl bins value g) ∙ h)

-- ---- the type and the pair flag stay

abbrev pub IsTypedAs : Bool → MbKind → Mb → Type 0
IsTypedAs field kind m = (m.kind ≡ kind) × (m.field ≡ field) × (m.ref0 ≡ false)

pub elements_typed : (shape : SliceShape) (done : List Mb) (at : ℕ) (field : Bool) (kind : MbKind) → Keeps (IsTypedAs field kind) (elements shape done at (of_kind field kind))
unfolding elements
elements_typed shape done at field kind =
    let P : Mb → Type 0 = IsTypedAs field kind in
    let w : Mb = of_kind field kind in
    keeps_if P (is_i_pcm kind) (Value w) (cond (is_intra kind) (intra_elements shape done at w) (inter_elements shape done at w)) (keeps_value P w (refl, refl, refl))
    (keeps_if P (is_intra kind) (intra_elements shape done at w) (inter_elements shape done at w)
    (λ bins value h. by (before_t8 value) (intra_elements_kept shape done at w w refl bins value h))
    (λ bins value h. by (before_inter value) (inter_elements_kept shape done at w w (kind_sized field kind) refl bins value h)))
  where
    by : (m : Mb) → m ≡ of_kind field kind → IsTypedAs field kind m
    by m e = (ap (λ (n : Mb). n.kind) e, ap (λ (n : Mb). n.field) e, ap (λ (n : Mb). n.ref0) e)
