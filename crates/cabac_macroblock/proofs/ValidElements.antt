-- What is spelled is a macroblock of the slice.
use Rattle.std.proofs.Common.{◌≡◌, ℕ, ◌+◌, ◌*◌, ◌^◌, ◌<◌, ◌≤◌, ℤ, pos, Bool, true, false, cond, List, [], length, replicate, refl, sym, ap, subst, ◌∙◌, arith}
use Rattle.std.specs.Prelude.{nat_lt, ◌==◌, slice_set, slice_index}
use Rattle.std.specs.List.{AllByRecursion}
use Rattle.std.proofs.lemmas.Bool.{eqb-true}
use Rattle.std.proofs.lemmas.Bool.Decides.{nat_tests}
use Rattle.std.proofs.lemmas.List.{length-set, get_or-set_same, get_or-set_other, get_or-replicate}
use Rattle.std.proofs.lemmas.List.Elements.{All-replicate}
use Rattle.binarisation.specs.BinString.{Value, ◌>>=◌}
use Rattle.binarisation.specs.Elements as syntax
use Rattle.binarisation.proofs.OneString.{splits}
use Rattle.h264_types.specs.Kind.{is_i_nxn}
use Rattle.h264_types.specs.Macroblock.{quarter_of}
use Rattle.h264_types.specs.Sizes.{HasSizes}
use Rattle.h264_types.specs.Valid.{mode_bound, pattern_bound, IsWithin, IsQuarterCoded, IsLumaCoded, IsChromaCoded}
use Rattle.h264_types.specs.Sent.{sends_t8_first, mode_count, sends_pattern}
use Rattle.h264_types.specs.declared.macroblock.Mb.{Mb}
use Rattle.h264_types.specs.declared.macroblock.MbKind.{MbKind}
use Rattle.h264_types.specs.declared.slice_shape.SliceShape.{SliceShape}
use Rattle.h264_types.proofs.Zeros.{zeros_within, zero_at}
use Rattle.cabac_contexts.specs.Increments as incs
use Rattle.binarisation.specs.Each.{each}
use Rattle.cabac_mb_residual.specs.Levels.{without_levels}
use Rattle.cabac_macroblock.specs.IntraPrediction.{transform_size, any_mode, mode_at, modes, chroma_mode}
use Rattle.cabac_macroblock.specs.CodedBlockPattern.{with_luma_bit, luma_bit, luma_bits, chroma_pattern, pattern}
use Rattle.cabac_macroblock.specs.Stages.{before_t8, before_modes, before_pattern, before_chroma_pattern}
use Rattle.cabac_macroblock.proofs.Kept.{Keeps, keeps_value, keeps_put, keeps_put_of, keeps_when, keeps_upto, keeps_at}
use Rattle.cabac_macroblock.proofs.Values.{mode_range, chroma_mode_range, chroma_range}
use Rattle.cabac_macroblock.specs.MbType.{of_kind}
use Rattle.cabac_macroblock.proofs.KeptElements.{luma_bits_kept, chroma_pattern_kept}
use Rattle.cabac_macroblock.proofs.InterLaws.{each_of}
use Rattle.cabac_macroblock.proofs.OneMacroblock.{IsLow, low_more}
use Rattle.h264_types.proofs.KindLaws.{mode_count-most}

-- ---- transform_size_8x8_flag

abbrev pub IsSized : SliceShape → Mb → Type 0
IsSized shape m = m.t8 ≡ true → sends_t8_first shape m.kind ≡ true

pub size_valid : (shape : SliceShape) (done : List Mb) (at : ℕ) (mb : Mb) → mb.t8 ≡ false → Keeps (IsSized shape) (transform_size shape done at mb)
unfolding transform_size
size_valid shape done at mb none =
    keeps_when (IsSized shape) (sends_t8_first shape mb.kind) (syntax.t8 (incs.t8 shape done at mb.field mb) >>= (λ flag. Value (record mb { t8 = flag }))) (Value mb)
    (λ sent. keeps_put (IsSized shape) (syntax.t8 (incs.t8 shape done at mb.field mb)) (λ flag. record mb { t8 = flag }) (λ flag set. sent))
    (λ unsent. keeps_value (IsSized shape) mb (λ set. absurd (let clash : true ≡ false = sym set ∙ none in cc)))

-- ---- the modes

record AreFirst (count : ℕ) (w m : Mb) : Type 0 where
  others : before_modes m ≡ w
  size : length m.modes ≡ 16
  range : (k : ℕ) → slice_index m.modes k ≤ cond (nat_lt k count) 8 0

put_first : (count : ℕ) (w m : Mb) (j mode : ℕ) → j < count → count ≤ 16 → mode ≤ 8 → AreFirst count w m → AreFirst count w (record m { modes = slice_set m.modes j mode })
put_first count w m j mode h most small is = record {
  others = is.others;
  size = length-set m.modes j mode ∙ is.size;
  range = λ k. by k (k == j) refl;
}
  where
    by : (k : ℕ) (b : Bool) → (k == j) ≡ b → slice_index (slice_set m.modes j mode) k ≤ cond (nat_lt k count) 8 0
    by k true e =
        let same : k ≡ j = eqb-true k j e in
        let inside : nat_lt k count ≡ true = grind (arith, nat_tests) in
        let there : slice_index (slice_set m.modes j mode) k ≡ mode = ap (λ i. slice_index (slice_set m.modes j mode) i) same ∙ get_or-set_same m.modes j mode 0 (omega (arith, h, most, is.size)) in
        rw (there, inside) small
    by k false e = rw (get_or-set_other m.modes j k mode 0 (grind (arith, nat_tests))) (is.range k)

abbrev pub AreModes : Mb → Type 0
AreModes m = (length m.modes ≡ 16) × ((k : ℕ) → k < 16 → slice_index m.modes k ≤ mode_bound m k)

pub modes_valid : (mb : Mb) → before_modes mb ≡ mb → Keeps AreModes (modes mb)
unfolding modes mode_at
modes_valid mb is = keeps_when AreModes (is_i_nxn mb.kind) (each (mode_count mb.t8) mode_at 0 mb) (Value mb) sent unsent
  where
    zeros : mb.modes ≡ replicate 16 0
    zeros = ap (λ (m : Mb). m.modes) (sym is)

    sent : is_i_nxn mb.kind ≡ true → Keeps AreModes (each (mode_count mb.t8) mode_at 0 mb)
    sent nxn bins value h =
        let count : ℕ = mode_count mb.t8 in
        let start : AreFirst count mb mb = record { others = is; size = ap length zeros; range = λ k. rw (zeros, zero_at 16 k) (omega arith) } in
        let all : AreFirst count mb value =
        keeps_upto (AreFirst count mb) mode_at count (λ j m below first. keeps_put_of (λ n. n ≤ 8) (AreFirst count mb) any_mode (λ mode. record m { modes = slice_set m.modes j mode }) mode_range
        (λ mode small. put_first count mb m j mode below (mode_count-most mb.t8) small first)) count 0 mb (omega arith) start bins value h in
        let same_kind : value.kind ≡ mb.kind = ap (λ (m : Mb). m.kind) all.others in
        let same_t8 : value.t8 ≡ mb.t8 = ap (λ (m : Mb). m.t8) all.others in
        (all.size, λ k below. rw (ap is_i_nxn same_kind ∙ nxn) (subst (λ b. slice_index value.modes k ≤ cond (nat_lt k (mode_count b)) 8 0) (sym same_t8) (all.range k)))

    unsent : is_i_nxn mb.kind ≡ false → Keeps AreModes (Value mb)
    unsent other = keeps_value AreModes mb (ap length zeros, λ k below. let zero_there : slice_index mb.modes k ≡ 0 = ap (λ l. slice_index l k) zeros ∙ zero_at 16 k in omega (arith, zero_there))

-- ---- intra_chroma_pred_mode and the pattern

pub chroma_mode_valid : (shape : SliceShape) (done : List Mb) (at : ℕ) (mb : Mb) → Keeps (λ m. m.chroma_mode ≤ 3) (chroma_mode shape done at mb)
unfolding chroma_mode
chroma_mode_valid shape done at mb =
    keeps_put_of (λ n. n ≤ 3) (λ (m : Mb). m.chroma_mode ≤ 3) (syntax.chroma_mode (incs.chroma_mode shape done at mb.field mb)) (λ mode. record mb { chroma_mode = mode }) (chroma_mode_range _) (λ mode small. small)

luma_valid : (shape : SliceShape) (done : List Mb) (at : ℕ) (mb : Mb) → mb.pattern.luma ≡ 0 → Keeps (λ m. m.pattern.luma ≤ 15) (luma_bits shape done at mb)
unfolding luma_bits luma_bit
luma_valid shape done at mb none bins value h =
    let low : value.pattern.luma < 2 ^ 4 = keeps_at IsLow (luma_bit shape done at)
    (λ k m is. keeps_put (IsLow (k + 1)) (syntax.pattern_luma (incs.luma shape done at m.field m k)) (λ bit. record m { pattern = with_luma_bit m.pattern k bit }) (λ bit. low_more k m bit is))
    4 0 4 mb refl (omega (arith, none)) bins value h in
    omega (arith, low)

chroma_pattern_range : (shape : SliceShape) (done : List Mb) (at : ℕ) (mb : Mb) → Keeps (λ n. n.pattern.chroma ≤ 2) (chroma_pattern shape done at mb)
unfolding chroma_pattern
chroma_pattern_range shape done at mb =
    keeps_put_of (λ n. n ≤ 2) (λ (m : Mb). m.pattern.chroma ≤ 2) (syntax.pattern_chroma (incs.chroma shape done at mb.field mb false) (incs.chroma shape done at mb.field mb true)) (λ chroma. record mb { pattern = record mb.pattern { chroma = chroma } })
    (chroma_range _ _) (λ chroma small. small)

abbrev pub IsPatterned : Mb → Type 0
IsPatterned m = (m.pattern.luma ≤ pattern_bound m.kind 15) × (m.pattern.chroma ≤ pattern_bound m.kind 2)

no_patterned : (m : Mb) → m.pattern.luma ≡ 0 → m.pattern.chroma ≡ 0 → IsPatterned m
no_patterned m luma chroma = (omega (arith, luma), omega (arith, chroma))

pub pattern_valid : (shape : SliceShape) (done : List Mb) (at : ℕ) (mb : Mb) → before_pattern mb ≡ mb → Keeps IsPatterned (pattern shape done at mb)
unfolding pattern
pattern_valid shape done at mb is =
    keeps_when IsPatterned (sends_pattern mb.kind) (luma_bits shape done at mb >>= chroma_pattern shape done at) (Value mb) sent
    (λ unsent. keeps_value IsPatterned mb (no_patterned mb (ap (λ (m : Mb). m.pattern.luma) (sym is)) (ap (λ (m : Mb). m.pattern.chroma) (sym is))))
  where
    sent : sends_pattern mb.kind ≡ true → Keeps IsPatterned (luma_bits shape done at mb >>= chroma_pattern shape done at)
    sent e bins value h =
        let parts = splits (luma_bits shape done at mb) (chroma_pattern shape done at) bins value h in
        let low : parts.0.pattern.luma ≤ 15 = luma_valid shape done at mb (ap (λ (m : Mb). m.pattern.luma) (sym is)) parts.1 parts.0 parts.4 in
        let high : value.pattern.chroma ≤ 2 = chroma_pattern_range shape done at parts.0 parts.2 value parts.5 in
        let same = chroma_pattern_kept shape done at (before_chroma_pattern parts.0) parts.0 refl parts.2 value parts.5 in
        let first = luma_bits_kept shape done at (before_pattern mb) mb refl parts.1 parts.0 parts.4 in
        let luma : value.pattern.luma ≡ parts.0.pattern.luma = ap (λ (m : Mb). m.pattern.luma) same in
        let kind : value.kind ≡ mb.kind = ap (λ (m : Mb). m.kind) same ∙ ap (λ (m : Mb). m.kind) first in
        let sends : sends_pattern value.kind ≡ true = ap sends_pattern kind ∙ e in
        rw sends (omega (arith, luma, low), high)

-- ---- levels that are 0

zero_quarter : (m : Mb) (q : ℕ) → q < 4 → IsQuarterCoded (without_levels m) q
zero_quarter m q h =
    let none : quarter_of (without_levels m) q ≡ replicate 64 (pos 0) = get_or-replicate 4 q (replicate 64 (pos 0)) [] h in
    record {
      levels = subst (IsWithin _) (sym none) (zeros_within _ 64);
      last = λ k lt. rw (none, get_or-replicate 64 (16 * k + 15) (pos 0) (pos 0) (omega arith)) (omega arith);
    }

pub zero_luma : (m : Mb) → IsLumaCoded (without_levels m)
zero_luma m = record { dc = zeros_within _ 16; quarters = λ q h. zero_quarter m q h }

pub zero_chroma : (m : Mb) → IsChromaCoded (without_levels m)
zero_chroma m = record {
  dc = All-replicate (IsWithin _) 2 (replicate 4 (pos 0)) (zeros_within _ 4);
  cb_ac = All-replicate (IsWithin _) 4 (replicate 15 (pos 0)) (zeros_within _ 15);
  cr_ac = All-replicate (IsWithin _) 4 (replicate 15 (pos 0)) (zeros_within _ 15);
}

-- an intra macroblock, with the pattern and mb_qp_delta
pub sized : (field : Bool) (kind : MbKind) (m : Mb) → before_t8 m ≡ of_kind field kind → length m.modes ≡ 16 → HasSizes (without_levels m)
sized field kind m e size = record {
  modes = size;
  subs = ap (λ (n : Mb). length n.subs) e;
  refs = subst (λ (l : List (List ℕ)). (length l ≡ 2) × AllByRecursion (λ list. length list ≡ 4) l) (sym (ap (λ (n : Mb). n.refs) e)) (refl, (refl, (refl, tt)));
  mvd = subst (λ (l : List (List (List ℤ))). (length l ≡ 2) × AllByRecursion (λ list. (length list ≡ 16) × AllByRecursion (λ difference. length difference ≡ 2) list) l) (sym (ap (λ (n : Mb). n.mvd) e))
      (refl, ((refl, each_of (λ difference. length difference ≡ 2) (replicate 2 (pos 0)) refl 16), ((refl, each_of (λ difference. length difference ≡ 2) (replicate 2 (pos 0)) refl 16), tt)));
  dc = refl;
  luma = (refl, (refl, (refl, (refl, (refl, tt)))));
  chroma_dc = (refl, (refl, (refl, tt)));
  chroma_ac = (refl, ((refl, (refl, (refl, (refl, (refl, tt))))), ((refl, (refl, (refl, (refl, (refl, tt))))), tt)));
  pcm = ap (λ (n : Mb). length n.pcm) e;
}
