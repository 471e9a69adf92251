-- No macroblock has two strings of bins.
use Rattle.std.proofs.Common.{◌≡◌, ℕ, ◌+◌, ◌-◌, ◌*◌, ◌%◌, ◌^◌, ◌<◌, ◌≤◌, Bool, true, false, cond, List, length, refl, sym, ap, subst, ◌∙◌, arith}
use Rattle.std.specs.Prelude.{slice_set, slice_index}
use Rattle.std.specs.Int.{from_bool}
use Rattle.std.proofs.Math.Nat.{add-mul-mod_self_left, mod-eq_of_lt, mul_assoc}
use Rattle.std.proofs.lemmas.Nat.{pow_pos, pow-add}
use Rattle.std.proofs.lemmas.List.{length-set, get_or-set_same, get_or-set_other}
use Rattle.cabac_engine.specs.Bins.{Slot}
use Rattle.binarisation.specs.BinString.{BinString, Value, Spells, ◌>>=◌, HasOneString}
use Rattle.binarisation.specs.Elements as syntax
use Rattle.binarisation.proofs.OneString.{value_one, differ_one}
use Rattle.binarisation.proofs.ElementStrings.{flag_one, mode_one, qp_delta_one, up_to_two_one}
use Rattle.binarisation.proofs.ElementStrings as strings
use Rattle.h264_types.specs.Kind.{is_intra, is_i_nxn, is_i_pcm, is_skip}
use Rattle.h264_types.specs.Sizes.{HasSizes}
use Rattle.h264_types.specs.Sent.{sends_t8_first, sends_t8_last, mode_count, sends_pattern, sends_qp_delta}
use Rattle.h264_types.specs.declared.macroblock.Mb.{Mb}
use Rattle.h264_types.specs.declared.macroblock.MbKind.{MbKind}
use Rattle.h264_types.specs.declared.macroblock.MbKind.TheVariants.{Skip}
use Rattle.h264_types.specs.declared.slice_shape.SliceShape.{SliceShape}
use Rattle.cabac_contexts.specs.Increments as incs
use Rattle.binarisation.specs.Each.{each}
use Rattle.cabac_mb_residual.specs.MacroblockResidual.{residual}
use Rattle.cabac_mb_residual.specs.Levels.{without_levels}
use Rattle.cabac_macroblock.specs.IntraPrediction.{transform_size, any_mode, mode_at, modes, chroma_mode, intra_prediction}
use Rattle.cabac_macroblock.specs.CodedBlockPattern.{with_luma_bit, luma_bit, luma_bits, chroma_pattern, pattern}
use Rattle.cabac_inter.specs.InterPrediction.{inter_prediction}
use Rattle.cabac_macroblock.specs.MbType.{of_kind, skip_flag, mb_type}
use Rattle.cabac_macroblock.specs.MacroblockLayer.{last_transform_size, qp_delta, coding, intra_elements, inter_elements, elements, layer, macroblock}
use Rattle.cabac_macroblock.proofs.CodingSteps.{elements_pcm, elements_intra, elements_inter}
use Rattle.cabac_inter.proofs.OnePrediction.{prediction_one}
use Rattle.cabac_inter.proofs.ValidPrediction.{prediction_others}
use Rattle.cabac_macroblock.proofs.InterLaws.{with_inter, kind_sized}
use Rattle.cabac_macroblock.proofs.TypeLaws.{IsType, type_range, type_one, skip_one}
use Rattle.cabac_macroblock.specs.Stages.{before_t8, before_modes, before_chroma_mode, before_inter, before_pattern, before_chroma_pattern, before_last_t8, before_qp_delta}
use Rattle.cabac_macroblock.proofs.Kept.{Keeps, keeps_value, keeps_then, keeps_put, keeps_if, keeps_each, keeps_from}
use Rattle.cabac_macroblock.proofs.KeptElements.{residual_kept, coding_kept, pattern_kept, chroma_pattern_kept, chroma_mode_kept, modes_kept, last_size_kept, elements_typed}
use Rattle.binarisation.proofs.Each.{then_one_where, each_one_where}
use Rattle.cabac_macroblock.proofs.OneStrings.{then_one_back, put_one, if_one}
use Rattle.h264_types.proofs.KindLaws.{mode_count-most}

-- ---- what is absent stays so

pub size_settled : (shape : SliceShape) (done : List Mb) (at : ℕ) (mb : Mb) → before_t8 mb ≡ mb → Keeps (λ m. before_modes m ≡ m) (transform_size shape done at mb)
unfolding transform_size
size_settled shape done at mb is =
    let P : Mb → Type 0 = λ m. before_modes m ≡ m in
    keeps_if P (sends_t8_first shape mb.kind) (syntax.t8 (incs.t8 shape done at mb.field mb) >>= (λ flag. Value (record mb { t8 = flag }))) (Value mb)
    (keeps_put P (syntax.t8 (incs.t8 shape done at mb.field mb)) (λ flag. record mb { t8 = flag }) (λ flag. ap (λ (m : Mb). record m { t8 = flag }) is))
    (keeps_value P mb (ap before_modes (sym is) ∙ is))

pub modes_settled : (mb : Mb) → before_modes mb ≡ mb → Keeps (λ m. before_chroma_mode m ≡ m) (modes mb)
unfolding modes mode_at
modes_settled mb is =
    let P : Mb → Type 0 = λ m. before_chroma_mode m ≡ m in
    let start : before_chroma_mode mb ≡ mb = ap before_chroma_mode (sym is) ∙ is in
    keeps_if P (is_i_nxn mb.kind) (each (mode_count mb.t8) mode_at 0 mb) (Value mb)
    (keeps_each P mode_at (λ k m h. keeps_put P any_mode (λ mode. record m { modes = slice_set m.modes k mode }) (λ mode. ap (λ (n : Mb). record n { modes = slice_set m.modes k mode }) h)) (mode_count mb.t8) 0 mb start)
    (keeps_value P mb start)

pub mode_settled : (shape : SliceShape) (done : List Mb) (at : ℕ) (mb : Mb) → before_chroma_mode mb ≡ mb → Keeps (λ m. before_pattern m ≡ m) (chroma_mode shape done at mb)
unfolding chroma_mode
mode_settled shape done at mb is =
    keeps_put (λ m. before_pattern m ≡ m) (syntax.chroma_mode (incs.chroma_mode shape done at mb.field mb)) (λ mode. record mb { chroma_mode = mode }) (λ mode. ap (λ (m : Mb). record m { chroma_mode = mode }) is)

pub prediction_settled : (shape : SliceShape) (done : List Mb) (at : ℕ) (mb : Mb) → before_t8 mb ≡ mb → Keeps (λ m. before_pattern m ≡ m) (intra_prediction shape done at mb)
unfolding intra_prediction
prediction_settled shape done at mb is =
    keeps_then (λ (m : Mb). before_chroma_mode m ≡ m) (λ (m : Mb). before_pattern m ≡ m) (transform_size shape done at mb >>= modes) (chroma_mode shape done at)
    (keeps_then (λ (m : Mb). before_modes m ≡ m) (λ (m : Mb). before_chroma_mode m ≡ m) (transform_size shape done at mb) modes (size_settled shape done at mb is) modes_settled)
    (mode_settled shape done at)

pub luma_settled : (shape : SliceShape) (done : List Mb) (at : ℕ) (mb : Mb) → before_pattern mb ≡ mb → Keeps (λ m. before_chroma_pattern m ≡ m) (luma_bits shape done at mb)
unfolding luma_bits luma_bit
luma_settled shape done at mb is =
    let P : Mb → Type 0 = λ m. before_chroma_pattern m ≡ m in
    keeps_each P (luma_bit shape done at) (λ q m h. keeps_put P (syntax.pattern_luma (incs.luma shape done at m.field m q)) (λ bit. record m { pattern = with_luma_bit m.pattern q bit })
    (λ bit. ap (λ (n : Mb). record n { pattern = record { luma = m.pattern.luma + 2 ^ q * from_bool bit; chroma = n.pattern.chroma } }) h)) 4 0 mb (ap before_chroma_pattern (sym is) ∙ is)

pub pattern_settled : (shape : SliceShape) (done : List Mb) (at : ℕ) (mb : Mb) → before_pattern mb ≡ mb → Keeps (λ m. before_qp_delta m ≡ m) (pattern shape done at mb)
unfolding pattern chroma_pattern
pattern_settled shape done at mb is =
    let P : Mb → Type 0 = λ m. before_qp_delta m ≡ m in
    keeps_if P (sends_pattern mb.kind) (luma_bits shape done at mb >>= chroma_pattern shape done at) (Value mb)
    (keeps_then (λ (m : Mb). before_chroma_pattern m ≡ m) P (luma_bits shape done at mb) (chroma_pattern shape done at) (luma_settled shape done at mb is)
    (λ m h. keeps_put P (syntax.pattern_chroma (incs.chroma shape done at m.field m false) (incs.chroma shape done at m.field m true)) (λ chroma. record m { pattern = record m.pattern { chroma = chroma } })
    (λ chroma. ap (λ (n : Mb). record n { pattern = record { luma = m.pattern.luma; chroma = chroma } }) h)))
    (keeps_value P mb (ap before_qp_delta (sym is) ∙ is))

-- ---- prediction

size_one : (shape : SliceShape) (done : List Mb) (at : ℕ) (mb : Mb) → HasOneString (transform_size shape done at mb)
unfolding transform_size
size_one shape done at mb =
    if_one (sends_t8_first shape mb.kind) (syntax.t8 (incs.t8 shape done at mb.field mb) >>= (λ flag. Value (record mb { t8 = flag }))) (Value mb)
    (put_one (syntax.t8 (incs.t8 shape done at mb.field mb)) (λ flag. record mb { t8 = flag }) (flag_one _) (λ a b e. ap (λ (m : Mb). m.t8) e)) (value_one mb)

any_mode_one : HasOneString any_mode
unfolding any_mode ◌>>=◌
any_mode_one = differ_one (λ n. n) any_mode refl

abbrev IsModes : ℕ → Mb → Type 0
IsModes k m = length m.modes ≡ 16

abbrev HasMode : ℕ → Mb → Mb → Type 0
HasMode k m made = (mode : ℕ) × (made ≡ record m { modes = slice_set m.modes k mode })

-- a mode stays where others are put behind it
mode_stays : (k n mode : ℕ) (mb : Mb) → slice_index mb.modes k ≡ mode → Keeps (λ m. slice_index m.modes k ≡ mode) (each n mode_at (k + 1) mb)
unfolding mode_at
mode_stays k n mode mb is =
    let P : Mb → Type 0 = λ m. slice_index m.modes k ≡ mode in
    keeps_from P mode_at (k + 1) (λ j m h has. keeps_put P any_mode (λ other. record m { modes = slice_set m.modes j other }) (λ other. get_or-set_other m.modes j k other 0 (λ e. omega (arith, h, e)) ∙ has)) n (k + 1) mb (omega arith) is

modes_one : (mb : Mb) → length mb.modes ≡ 16 → HasOneString (modes mb)
unfolding modes mode_at
modes_one mb size =
    if_one (is_i_nxn mb.kind) (each (mode_count mb.t8) mode_at 0 mb) (Value mb)
    (each_one_where 16 IsModes HasMode mode_at one (λ k m below is. kept k m is) told (mode_count mb.t8) 0 mb (omega (arith, mode_count-most mb.t8)) size) (value_one mb)
  where
    one : (k : ℕ) (m : Mb) → k < 16 → IsModes k m → HasOneString (mode_at k m)
    one k m h is =
        let inside : k < length m.modes = omega (arith, h, is) in
        put_one any_mode (λ mode. record m { modes = slice_set m.modes k mode }) any_mode_one
        (λ a b e. sym (get_or-set_same m.modes k a 0 inside) ∙ ap (λ (n : Mb). slice_index n.modes k) e ∙ get_or-set_same m.modes k b 0 inside)

    kept : (k : ℕ) (m : Mb) → IsModes k m → Keeps (λ y. IsModes (k + 1) y × HasMode k m y) (mode_at k m)
    kept k m is = keeps_put (λ y. IsModes (k + 1) y × HasMode k m y) any_mode (λ mode. record m { modes = slice_set m.modes k mode }) (λ mode. (length-set m.modes k mode ∙ is, (mode, refl)))

    told : (n k : ℕ) (x y z : Mb) (first second : List (Slot × Bool)) (value : Mb) → k + 1 + n ≤ 16 → IsModes k x → IsModes (k + 1) y → HasMode k x y → IsModes (k + 1) z → HasMode k x z
        → Spells (each n mode_at (k + 1) y) first value → Spells (each n mode_at (k + 1) z) second value → y ≡ z
    told n k x y z first second value h is py (a, ey) pz (b, ez) sy sz =
        let inside : k < length x.modes = omega (arith, h, is) in
        let at_y : slice_index y.modes k ≡ a = ap (λ (m : Mb). slice_index m.modes k) ey ∙ get_or-set_same x.modes k a 0 inside in
        let at_z : slice_index z.modes k ≡ b = ap (λ (m : Mb). slice_index m.modes k) ez ∙ get_or-set_same x.modes k b 0 inside in
        let same : a ≡ b = sym (mode_stays k n a y at_y first value sy) ∙ mode_stays k n b z at_z second value sz in
        ey ∙ ap (λ m. record x { modes = slice_set x.modes k m }) same ∙ sym ez

mode_one_of : (shape : SliceShape) (done : List Mb) (at : ℕ) (mb : Mb) → HasOneString (chroma_mode shape done at mb)
unfolding chroma_mode
mode_one_of shape done at mb =
    put_one (syntax.chroma_mode (incs.chroma_mode shape done at mb.field mb)) (λ mode. record mb { chroma_mode = mode }) (strings.chroma_mode_one _) (λ a b e. ap (λ (m : Mb). m.chroma_mode) e)

intra_prediction_one : (shape : SliceShape) (done : List Mb) (at : ℕ) (mb : Mb) → before_t8 mb ≡ mb → HasOneString (intra_prediction shape done at mb)
unfolding intra_prediction
intra_prediction_one shape done at mb is =
    then_one_back (λ (m : Mb). before_chroma_mode m ≡ m) (transform_size shape done at mb >>= modes) (chroma_mode shape done at) before_chroma_mode
    (keeps_then (λ (m : Mb). before_modes m ≡ m) (λ (m : Mb). before_chroma_mode m ≡ m) (transform_size shape done at mb) modes (size_settled shape done at mb is) modes_settled)
    (then_one_back (λ (m : Mb). before_modes m ≡ m) (transform_size shape done at mb) modes before_modes (size_settled shape done at mb is) (size_one shape done at mb)
    (λ m h. modes_one m (ap (λ (n : Mb). length n.modes) (sym h))) (λ m h. modes_kept m m h))
    (λ m h. mode_one_of shape done at m) (λ m h. chroma_mode_kept shape done at m m h)

-- ---- coded_block_pattern

abbrev pub IsLow : ℕ → Mb → Type 0
IsLow k m = m.pattern.luma < 2 ^ k

abbrev HasBit : ℕ → Mb → Mb → Type 0
HasBit k m made = (bit : Bool) × (made ≡ record m { pattern = with_luma_bit m.pattern k bit })

-- the lower bits of a number stay where a higher one is added
higher : (n k j : ℕ) (bit : Bool) → k ≤ j → (n + 2 ^ j * from_bool bit) % 2 ^ k ≡ n % 2 ^ k
higher n k j bit h =
    let parts : 2 ^ j ≡ 2 ^ k * 2 ^ (j - k) = let e : k + (j - k) ≡ j = omega arith in ap (λ i. 2 ^ i) (sym e) ∙ pow-add 2 k (j - k) in
    ap (λ m. (n + m * from_bool bit) % 2 ^ k) parts
    ∙ ap (λ m. (n + m) % 2 ^ k) (mul_assoc (2 ^ k) (2 ^ (j - k)) (from_bool bit))
    ∙ add-mul-mod_self_left n (2 ^ k) (2 ^ (j - k) * from_bool bit)

bits_stay : (shape : SliceShape) (done : List Mb) (at k n low : ℕ) (mb : Mb) → mb.pattern.luma % 2 ^ (k + 1) ≡ low → Keeps (λ m. m.pattern.luma % 2 ^ (k + 1) ≡ low) (each n (luma_bit shape done at) (k + 1) mb)
unfolding luma_bit
bits_stay shape done at k n low mb is =
    let P : Mb → Type 0 = λ m. m.pattern.luma % 2 ^ (k + 1) ≡ low in
    keeps_from P (luma_bit shape done at) (k + 1) (λ j m h has. keeps_put P (syntax.pattern_luma (incs.luma shape done at m.field m j)) (λ bit. record m { pattern = with_luma_bit m.pattern j bit })
    (λ bit. higher m.pattern.luma (k + 1) j bit h ∙ has)) n (k + 1) mb (omega arith) is

pub low_more : (k : ℕ) (m : Mb) (bit : Bool) → IsLow k m → m.pattern.luma + 2 ^ k * from_bool bit < 2 ^ (k + 1)
low_more k m bit h =
    let twice : 2 ^ (k + 1) ≡ 2 ^ k * 2 = pow-add 2 k 1 in
    by bit (omega (arith, twice, h)) (omega (arith, twice, h))
  where
    by : (b : Bool) → m.pattern.luma + 2 ^ k * 1 < 2 ^ (k + 1) → m.pattern.luma + 2 ^ k * 0 < 2 ^ (k + 1) → m.pattern.luma + 2 ^ k * from_bool b < 2 ^ (k + 1)
    by true one none = one
    by false one none = none

luma_one : (shape : SliceShape) (done : List Mb) (at : ℕ) (mb : Mb) → mb.pattern.luma ≡ 0 → HasOneString (luma_bits shape done at mb)
unfolding luma_bits luma_bit
luma_one shape done at mb none = each_one_where 4 IsLow HasBit (luma_bit shape done at) one (λ k m below is. kept k m is) told 4 0 mb (omega arith) (omega (arith, none))
  where
    same_bit : (n k : ℕ) (a b : Bool) → n + 2 ^ k * from_bool a ≡ n + 2 ^ k * from_bool b → a ≡ b
    same_bit n k true true e = refl
    same_bit n k false false e = refl
    same_bit n k true false e = absurd (omega (arith, e, pow_pos k))
    same_bit n k false true e = absurd (omega (arith, e, pow_pos k))

    one : (k : ℕ) (m : Mb) → k < 4 → IsLow k m → HasOneString (luma_bit shape done at k m)
    one k m h is =
        put_one (syntax.pattern_luma (incs.luma shape done at m.field m k)) (λ bit. record m { pattern = with_luma_bit m.pattern k bit }) (flag_one _)
        (λ a b e. same_bit m.pattern.luma k a b (ap (λ (n : Mb). n.pattern.luma) e))

    kept : (k : ℕ) (m : Mb) → IsLow k m → Keeps (λ y. IsLow (k + 1) y × HasBit k m y) (luma_bit shape done at k m)
    kept k m is = keeps_put (λ y. IsLow (k + 1) y × HasBit k m y) (syntax.pattern_luma (incs.luma shape done at m.field m k)) (λ bit. record m { pattern = with_luma_bit m.pattern k bit }) (λ bit. (low_more k m bit is, (bit, refl)))

    told : (n k : ℕ) (x y z : Mb) (first second : List (Slot × Bool)) (value : Mb) → k + 1 + n ≤ 4 → IsLow k x → IsLow (k + 1) y → HasBit k x y → IsLow (k + 1) z → HasBit k x z
        → Spells (each n (luma_bit shape done at) (k + 1) y) first value → Spells (each n (luma_bit shape done at) (k + 1) z) second value → y ≡ z
    told n k x y z first second value h is py (a, ey) pz (b, ez) sy sz =
        let low_y : y.pattern.luma % 2 ^ (k + 1) ≡ y.pattern.luma = mod-eq_of_lt py in
        let low_z : z.pattern.luma % 2 ^ (k + 1) ≡ z.pattern.luma = mod-eq_of_lt pz in
        let same : y.pattern.luma ≡ z.pattern.luma = sym (bits_stay shape done at k n y.pattern.luma y low_y first value sy) ∙ bits_stay shape done at k n z.pattern.luma z low_z second value sz in
        let sums : x.pattern.luma + 2 ^ k * from_bool a ≡ x.pattern.luma + 2 ^ k * from_bool b = sym (ap (λ (m : Mb). m.pattern.luma) ey) ∙ same ∙ ap (λ (m : Mb). m.pattern.luma) ez in
        ey ∙ ap (λ bit. record x { pattern = with_luma_bit x.pattern k bit }) (same_bit x.pattern.luma k a b sums) ∙ sym ez

chroma_one : (shape : SliceShape) (done : List Mb) (at : ℕ) (mb : Mb) → HasOneString (chroma_pattern shape done at mb)
unfolding chroma_pattern
chroma_one shape done at mb =
    put_one (syntax.pattern_chroma (incs.chroma shape done at mb.field mb false) (incs.chroma shape done at mb.field mb true)) (λ chroma. record mb { pattern = record mb.pattern { chroma = chroma } }) (up_to_two_one _ _) (λ a b e. ap (λ (m : Mb). m.pattern.chroma) e)

pattern_one : (shape : SliceShape) (done : List Mb) (at : ℕ) (mb : Mb) → before_pattern mb ≡ mb → HasOneString (pattern shape done at mb)
unfolding pattern
pattern_one shape done at mb is =
    if_one (sends_pattern mb.kind) (luma_bits shape done at mb >>= chroma_pattern shape done at) (Value mb)
    (then_one_back (λ (m : Mb). before_chroma_pattern m ≡ m) (luma_bits shape done at mb) (chroma_pattern shape done at) before_chroma_pattern (luma_settled shape done at mb is)
    (luma_one shape done at mb (ap (λ (m : Mb). m.pattern.luma) (sym is))) (λ m h. chroma_one shape done at m) (λ m h. chroma_pattern_kept shape done at m m h))
    (value_one mb)

-- ---- the whole macroblock

delta_settled : (done : List Mb) (at : ℕ) (mb : Mb) → before_qp_delta mb ≡ mb → Keeps (λ m. without_levels m ≡ m) (qp_delta done at mb)
unfolding qp_delta
delta_settled done at mb is = keeps_put (λ m. without_levels m ≡ m) (syntax.qp_delta (incs.qp_delta done at)) (λ delta. record mb { qp_delta = delta }) (λ delta. ap (λ (m : Mb). record m { qp_delta = delta }) is)

delta_one : (done : List Mb) (at : ℕ) (mb : Mb) → HasOneString (qp_delta done at mb)
unfolding qp_delta
delta_one done at mb = put_one (syntax.qp_delta (incs.qp_delta done at)) (λ delta. record mb { qp_delta = delta }) (qp_delta_one _) (λ a b e. ap (λ (m : Mb). m.qp_delta) e)

coding_one : (shape : SliceShape) (done : List Mb) (at : ℕ) (mb : Mb) → ((m : Mb) → HasOneString (residual shape done at (without_levels m))) → before_qp_delta mb ≡ mb → HasOneString (coding shape done at mb)
unfolding coding
coding_one shape done at mb each_residual is =
    if_one (sends_qp_delta mb.kind mb.pattern) (qp_delta done at mb >>= residual shape done at) (Value mb)
    (then_one_back (λ (m : Mb). without_levels m ≡ m) (qp_delta done at mb) (residual shape done at) without_levels (delta_settled done at mb is) (delta_one done at mb)
    (λ m h. subst (λ (n : Mb). HasOneString (residual shape done at n)) h (each_residual m)) (λ m h. residual_kept shape done at m m h))
    (value_one mb)

intra_elements_one : (shape : SliceShape) (done : List Mb) (at : ℕ) (mb : Mb) → ((m : Mb) → HasOneString (residual shape done at (without_levels m))) → before_t8 mb ≡ mb → HasOneString (intra_elements shape done at mb)
unfolding intra_elements
intra_elements_one shape done at mb each_residual is =
    then_one_back (λ (m : Mb). before_qp_delta m ≡ m) (intra_prediction shape done at mb >>= pattern shape done at) (coding shape done at) before_qp_delta
    (keeps_then (λ (m : Mb). before_pattern m ≡ m) (λ (m : Mb). before_qp_delta m ≡ m) (intra_prediction shape done at mb) (pattern shape done at) (prediction_settled shape done at mb is) (pattern_settled shape done at))
    (then_one_back (λ (m : Mb). before_pattern m ≡ m) (intra_prediction shape done at mb) (pattern shape done at) before_pattern (prediction_settled shape done at mb is) (intra_prediction_one shape done at mb is)
    (pattern_one shape done at) (λ m h. pattern_kept shape done at m m h))
    (λ m h. coding_one shape done at m each_residual h) (λ m h. coding_kept shape done at m m h)

-- ---- P and B macroblocks

-- behind the prediction, and behind the pattern, transform_size_8x8_flag is to come
abbrev pub IsPredicted : Mb → Type 0
IsPredicted m = (before_pattern m ≡ m) × (m.t8 ≡ false)

pub inter_settled : (shape : SliceShape) (done : List Mb) (at : ℕ) (mb : Mb) → HasSizes mb → before_inter mb ≡ mb → Keeps IsPredicted (inter_prediction shape done at mb)
inter_settled shape done at mb sizes is bins value h =
    let same : value ≡ with_inter mb value = prediction_others shape done at mb sizes value bins h in
    let whole : before_inter (with_inter mb value) ≡ mb = is in
    let settled : before_pattern (with_inter mb value) ≡ with_inter mb value = ap (λ (m : Mb). with_inter (before_pattern m) value) (sym is) ∙ ap (λ (m : Mb). with_inter m value) is in
    (ap before_pattern same ∙ settled ∙ sym same, ap (λ (m : Mb). m.t8) same ∙ ap (λ (m : Mb). m.t8) (sym is))

pub inter_pattern_settled : (shape : SliceShape) (done : List Mb) (at : ℕ) (mb : Mb) → IsPredicted mb → Keeps (λ m. before_last_t8 m ≡ m) (pattern shape done at mb)
inter_pattern_settled shape done at mb (is, none) bins value h =
    let t8 : value.t8 ≡ false = ap (λ (m : Mb). m.t8) (pattern_kept shape done at mb mb is bins value h) ∙ none in
    ap (λ b. record (before_qp_delta value) { t8 = b }) (sym t8) ∙ pattern_settled shape done at mb is bins value h

pub last_size_settled : (shape : SliceShape) (done : List Mb) (at : ℕ) (mb : Mb) → before_last_t8 mb ≡ mb → Keeps (λ m. before_qp_delta m ≡ m) (last_transform_size shape done at mb)
unfolding last_transform_size
last_size_settled shape done at mb is =
    let P : Mb → Type 0 = λ m. before_qp_delta m ≡ m in
    keeps_if P (sends_t8_last shape mb.kind mb.subs mb.pattern) (syntax.t8 (incs.t8 shape done at mb.field mb) >>= (λ flag. Value (record mb { t8 = flag }))) (Value mb)
    (keeps_put P (syntax.t8 (incs.t8 shape done at mb.field mb)) (λ flag. record mb { t8 = flag }) (λ flag. ap (λ (m : Mb). record m { t8 = flag }) is))
    (keeps_value P mb (ap before_qp_delta (sym is) ∙ is))

last_size_one : (shape : SliceShape) (done : List Mb) (at : ℕ) (mb : Mb) → HasOneString (last_transform_size shape done at mb)
unfolding last_transform_size
last_size_one shape done at mb =
    if_one (sends_t8_last shape mb.kind mb.subs mb.pattern) (syntax.t8 (incs.t8 shape done at mb.field mb) >>= (λ flag. Value (record mb { t8 = flag }))) (Value mb)
    (put_one (syntax.t8 (incs.t8 shape done at mb.field mb)) (λ flag. record mb { t8 = flag }) (flag_one _) (λ a b e. ap (λ (m : Mb). m.t8) e)) (value_one mb)

inter_elements_one : (shape : SliceShape) (done : List Mb) (at : ℕ) (mb : Mb) → ((m : Mb) → HasOneString (residual shape done at (without_levels m))) → HasSizes mb → before_inter mb ≡ mb
    → HasOneString (inter_elements shape done at mb)
unfolding inter_elements
inter_elements_one shape done at mb each_residual sizes is =
    let patterned = keeps_then IsPredicted (λ (m : Mb). before_last_t8 m ≡ m) (inter_prediction shape done at mb) (pattern shape done at) (inter_settled shape done at mb sizes is) (inter_pattern_settled shape done at) in
    then_one_back (λ (m : Mb). before_qp_delta m ≡ m) (inter_prediction shape done at mb >>= pattern shape done at >>= last_transform_size shape done at) (coding shape done at) before_qp_delta
    (keeps_then (λ (m : Mb). before_last_t8 m ≡ m) (λ (m : Mb). before_qp_delta m ≡ m) (inter_prediction shape done at mb >>= pattern shape done at) (last_transform_size shape done at) patterned (last_size_settled shape done at))
    (then_one_back (λ (m : Mb). before_last_t8 m ≡ m) (inter_prediction shape done at mb >>= pattern shape done at) (last_transform_size shape done at) before_last_t8 patterned
    (then_one_back IsPredicted (inter_prediction shape done at mb) (pattern shape done at) before_pattern (inter_settled shape done at mb sizes is) (prediction_one shape done at mb sizes)
    (λ m h. pattern_one shape done at m h.0) (λ m h. pattern_kept shape done at m m h.0))
    (λ m h. last_size_one shape done at m) (λ m h. last_size_kept shape done at m m h))
    (λ m h. coding_one shape done at m each_residual h) (λ m h. coding_kept shape done at m m h)

-- ---- by the type

elements_one : (shape : SliceShape) (done : List Mb) (at : ℕ) (field : Bool) (kind : MbKind) → ((m : Mb) → HasOneString (residual shape done at (without_levels m))) → HasOneString (elements shape done at (of_kind field kind))
elements_one shape done at field kind each_residual = by (is_i_pcm kind) (is_intra kind) refl refl
  where
    mb : Mb
    mb = of_kind field kind

    by : (pcm intra : Bool) → is_i_pcm kind ≡ pcm → is_intra kind ≡ intra → HasOneString (elements shape done at mb)
    by true intra e h = rw (elements_pcm shape done at mb e) (value_one mb)
    by false true e h = rw (elements_intra shape done at mb e h) (intra_elements_one shape done at mb each_residual refl)
    by false false e h = rw (elements_inter shape done at mb e h) (inter_elements_one shape done at mb each_residual (kind_sized field kind) refl)

layer_one : (shape : SliceShape) (done : List Mb) (at : ℕ) (field : Bool) → ((m : Mb) → HasOneString (residual shape done at (without_levels m))) → HasOneString (layer shape done at field)
unfolding layer
layer_one shape done at field each_residual =
    then_one_where (IsType shape) (mb_type shape done at field) (λ kind. elements shape done at (of_kind field kind)) (type_range shape done at field) (type_one shape done at field)
    (λ kind is. elements_one shape done at field kind each_residual)
    (λ x y first second value p q h g. sym (elements_typed shape done at field x first value h).0 ∙ (elements_typed shape done at field y second value g).0)

-- a layer isn't that of a skipped macroblock
layer_sent : (shape : SliceShape) (done : List Mb) (at : ℕ) (field : Bool) → Keeps (λ m. is_skip m.kind ≡ false) (layer shape done at field)
unfolding layer
layer_sent shape done at field =
    keeps_then (IsType shape) (λ (m : Mb). is_skip m.kind ≡ false) (mb_type shape done at field) (λ kind. elements shape done at (of_kind field kind)) (type_range shape done at field)
    (λ kind is bins value h. ap is_skip (elements_typed shape done at field kind bins value h).0 ∙ is.1)

pub macroblock_one : (shape : SliceShape) (done : List Mb) (at : ℕ) (field : Bool) → ((m : Mb) → HasOneString (residual shape done at (without_levels m))) → HasOneString (macroblock shape done at field)
unfolding macroblock
macroblock_one shape done at field each_residual =
    then_one_where (λ (b : Bool). Unit {0}) (skip_flag shape done at field) next (λ bins value h. tt) (skip_one shape done at field)
    (λ b u. if_one b (Value (of_kind field Skip)) (layer shape done at field) (value_one (of_kind field Skip)) (layer_one shape done at field each_residual))
    (λ x y first second value p q h g. sym (told x first value h) ∙ told y second value g)
  where
    next : Bool → BinString Mb
    next skipped = cond skipped (Value (of_kind field Skip)) (layer shape done at field)

    told : (b : Bool) (bins : List (Slot × Bool)) (value : Mb) → Spells (next b) bins value → is_skip value.kind ≡ b
    told true bins value h = ap (λ (m : Mb). is_skip m.kind) (sym h.1)
    told false bins value h = layer_sent shape done at field bins value h
