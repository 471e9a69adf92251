-- The residual of a macroblock that can be written has bins.
use Rattle.std.proofs.Common.{◌≡◌, ◌≢◌, ℕ, ◌+◌, ◌*◌, ◌/◌, ◌%◌, ◌<◌, ◌≤◌, eqb, cond, Bool, true, false, ℤ, pos, List, length, take, drop, replicate, refl, sym, ap, subst, ◌∙◌, arith}
use Rattle.std.proofs.lemmas.Bool.{eqb-true}
use Rattle.std.proofs.lemmas.List.{length-take-le, length-drop, length-replicate}
use Rattle.cabac_engine.specs.Bins.{Slot}
use Rattle.binarisation.specs.BinString.{Spells}
use Rattle.binarisation.specs.Each.{each}
use Rattle.binarisation.proofs.HasBins.{Takes, HasBins, each_has, spelled_by}
use Rattle.cabac_contexts.specs.Increments.{coded_block}
use Rattle.cabac_contexts.specs.Terms.{has_luma, chroma_dc_of, chroma_ac_of}
use Rattle.cabac_residual.specs.Block.{block, AreLevels}
use Rattle.cabac_residual.proofs.BlockLevels.{NotZeros}
use Rattle.cabac_residual.proofs.BlockBins.{block_has}
use Rattle.h264_types.specs.Kind.{is_i_16x16}
use Rattle.h264_types.specs.Macroblock.{pattern_of, quarter_of, luma_block}
use Rattle.h264_types.specs.Sizes.{HasSizes}
use Rattle.h264_types.specs.Slice.{IsInPicture}
use Rattle.h264_types.specs.declared.macroblock.Mb.{Mb}
use Rattle.h264_types.specs.declared.macroblock.MbKind.{MbKind}
use Rattle.h264_types.specs.declared.slice_shape.SliceShape.{SliceShape}
use Rattle.cabac_mb_residual.specs.Levels.{IsResidual, so_far, without_levels}
use Rattle.cabac_mb_residual.specs.MacroblockResidual.{is_field, luma_dc, luma_cat, luma_max, luma4, quarter, chroma_dc, chroma_block, chroma_ac, residual}
use Rattle.cabac_mb_residual.proofs.SoFar.{quarter_size, chroma_dc_size, chroma_ac_size}
use Rattle.cabac_mb_residual.proofs.Written.{small_dc, small_quarter, small_block, small_chroma_dc, small_chroma_ac, writes_luma_dc, writes_no_luma_dc, writes_luma4, writes_eight, writes_no_quarter, writes_blocks, writes_chroma_dc, writes_no_chroma_dc, writes_chroma_block, writes_chroma_blocks, writes_no_chroma_ac, writes_residual}

-- a list of so many levels, not of category 5
list_has : (cat : ℕ) (field : Bool) (inc max : ℕ) (levels : List ℤ) → length levels ≡ max → AreLevels levels → cat ≢ 5 → HasBins (block cat field inc max) levels
list_has cat field inc max levels size small other =
    subst (λ (n : ℕ). HasBins (block cat field inc n) levels) size (block_has cat field inc levels small (λ five. absurd (other five)))

luma_cat-other : (kind : MbKind) → luma_cat kind ≢ 5
luma_cat-other kind = by (is_i_16x16 kind)
  where
    by : (b : Bool) → ◌≡◌ {A = ℕ} (cond b 1 2) 5 → ⊥
    by true e = absurd (omega (arith, e))
    by false e = absurd (omega (arith, e))

luma_max-most : (kind : MbKind) → luma_max kind ≤ 16
luma_max-most kind = by (is_i_16x16 kind)
  where
    by : (b : Bool) → cond b 15 16 ≤ 16
    by true = omega arith
    by false = omega arith

module _ (shape : SliceShape) (done : List Mb) (at : ℕ) (mb : Mb) (picture : IsInPicture shape at) (sizes : HasSizes mb) (is : IsResidual mb) where
  -- ---- luma

  luma_dc_has : HasBins (luma_dc shape done at (so_far 0 0 0 0 mb)) (so_far 16 0 0 0 mb)
  luma_dc_has = by (is_i_16x16 mb.kind) refl
    where
      by : (b : Bool) → is_i_16x16 mb.kind ≡ b → HasBins (luma_dc shape done at (so_far 0 0 0 0 mb)) (so_far 16 0 0 0 mb)
      by true e =
          writes_luma_dc Takes shape done at mb (coded_block shape done at mb.field mb 0 0 0) 16 (is_field shape mb) false false picture sizes e refl refl refl
          (list_has 0 (is_field shape mb) (coded_block shape done at mb.field mb 0 0 0) 16 mb.dc sizes.dc (small_dc mb is) (λ h. omega (arith, h)))
      by false e = writes_no_luma_dc Takes shape done at mb false sizes is e

  block_size : (n : ℕ) → n < 16 → length (take (luma_max mb.kind) (luma_block mb n)) ≡ luma_max mb.kind
  block_size n h =
      let whole = quarter_size mb (n / 4) sizes (omega (arith, h)) in
      let rest = length-drop (16 * (n % 4)) (quarter_of mb (n / 4)) in
      let size : length (luma_block mb n) ≡ 16 = length-take-le 16 (drop (16 * (n % 4)) (quarter_of mb (n / 4))) (omega (arith, whole, rest)) in
      length-take-le (luma_max mb.kind) (luma_block mb n) (omega (arith, size, luma_max-most mb.kind))

  luma4_has : (n : ℕ) → n < 16 → HasBins (luma4 shape done at n (so_far 16 (16 * n) 0 0 mb)) (so_far 16 (16 * (n + 1)) 0 0 mb)
  luma4_has n h =
      let cat : ℕ = luma_cat mb.kind in
      let levels : List ℤ = take (luma_max mb.kind) (luma_block mb n) in
      let inc : ℕ = coded_block shape done at mb.field mb cat 0 n in
      writes_luma4 Takes shape done at n mb cat inc (luma_max mb.kind) (is_field shape mb) levels false false picture sizes is h refl refl refl refl refl
      (list_has cat (is_field shape mb) inc (luma_max mb.kind) levels (block_size n h) (small_block mb n (luma_max mb.kind) h is) (luma_cat-other mb.kind))

  blocks_have : (q : ℕ) → q < 4 → HasBins (each 4 (luma4 shape done at) (4 * q) (so_far 16 (64 * q) 0 0 mb)) (so_far 16 (64 * (q + 1)) 0 0 mb)
  blocks_have q h =
      let from : 16 * (4 * q) ≡ 64 * q = omega arith in
      let to : 16 * (4 * q + 4) ≡ 64 * (q + 1) = omega arith in
      subst (λ (n : ℕ). HasBins (each 4 (luma4 shape done at) (4 * q) (so_far 16 n 0 0 mb)) (so_far 16 (64 * (q + 1)) 0 0 mb)) from
      (subst (λ (n : ℕ). HasBins (each 4 (luma4 shape done at) (4 * q) (so_far 16 (16 * (4 * q)) 0 0 mb)) (so_far 16 n 0 0 mb)) to
      (each_has (luma4 shape done at) (λ n. so_far 16 (16 * n) 0 0 mb) 4 (4 * q) (λ j low high. luma4_has j (omega (arith, high, h)))))

  quarter_has : (q : ℕ) → q < 4 → HasBins (quarter shape done at q (so_far 16 (64 * q) 0 0 mb)) (so_far 16 (64 * (q + 1)) 0 0 mb)
  quarter_has q h = by (has_luma mb q) mb.t8 refl refl
    where
      by : (has t8 : Bool) → has_luma mb q ≡ has → mb.t8 ≡ t8 → HasBins (quarter shape done at q (so_far 16 (64 * q) 0 0 mb)) (so_far 16 (64 * (q + 1)) 0 0 mb)
      by false t8 e w = writes_no_quarter Takes shape done at q mb false false sizes is h refl (sym e)
      by true false e w = writes_blocks Takes shape done at q mb true false false refl (sym e) w (blocks_have q h)
      by true true e w =
          let size = quarter_size mb q sizes h in
          let some : NotZeros (quarter_of mb q) = λ n zeros.
          let same : n ≡ 64 = sym (length-replicate n (pos 0)) ∙ sym (ap length zeros) ∙ size in
          is.some q h w e (zeros ∙ ap (λ (k : ℕ). replicate k (pos 0)) same) in
          writes_eight Takes shape done at q mb 64 true (is_field shape mb) (quarter_of mb q) false false sizes h refl (sym e) w refl refl refl
          (subst (λ (n : ℕ). HasBins (block 5 (is_field shape mb) 0 n) (quarter_of mb q)) size (block_has 5 (is_field shape mb) 0 (quarter_of mb q) (small_quarter mb q h is) (λ five. some)))

  quarters_have : HasBins (each 4 (quarter shape done at) 0 (so_far 16 0 0 0 mb)) (so_far 16 256 0 0 mb)
  quarters_have = each_has (quarter shape done at) (λ q. so_far 16 (64 * q) 0 0 mb) 4 0 (λ q low high. quarter_has q (omega (arith, high)))

  -- ---- chroma

  chroma_dc_has : (comp : ℕ) → comp < 2 → HasBins (chroma_dc shape done at comp (so_far 16 256 (4 * comp) 0 mb)) (so_far 16 256 (4 * (comp + 1)) 0 mb)
  chroma_dc_has comp h = by (eqb (pattern_of mb).chroma 0) refl
    where
      by : (none : Bool) → eqb (pattern_of mb).chroma 0 ≡ none → HasBins (chroma_dc shape done at comp (so_far 16 256 (4 * comp) 0 mb)) (so_far 16 256 (4 * (comp + 1)) 0 mb)
      by true e = writes_no_chroma_dc Takes shape done at comp mb false sizes is h e (eqb-true (pattern_of mb).chroma 0 e)
      by false e =
          let inc : ℕ = coded_block shape done at mb.field mb 3 comp 0 in
          writes_chroma_dc Takes shape done at comp mb inc 4 (is_field shape mb) (chroma_dc_of mb comp) false false picture sizes h e refl refl refl refl
          (list_has 3 (is_field shape mb) inc 4 (chroma_dc_of mb comp) (chroma_dc_size mb comp sizes h) (small_chroma_dc mb comp h sizes is) (λ k. omega (arith, k)))

  chroma_dcs_have : HasBins (each 2 (chroma_dc shape done at) 0 (so_far 16 256 0 0 mb)) (so_far 16 256 8 0 mb)
  chroma_dcs_have = each_has (chroma_dc shape done at) (λ comp. so_far 16 256 (4 * comp) 0 mb) 2 0 (λ comp low high. chroma_dc_has comp (omega (arith, high)))

  chroma_block_has : (comp n : ℕ) → comp < 2 → n < 4 → HasBins (chroma_block shape done at comp n (so_far 16 256 8 (60 * comp + 15 * n) mb)) (so_far 16 256 8 (60 * comp + 15 * (n + 1)) mb)
  chroma_block_has comp n h k =
      let inc : ℕ = coded_block shape done at mb.field mb 4 comp n in
      writes_chroma_block Takes shape done at comp n mb inc 15 (is_field shape mb) (chroma_ac_of mb comp n) false false picture sizes h k refl refl refl refl
      (list_has 4 (is_field shape mb) inc 15 (chroma_ac_of mb comp n) (chroma_ac_size mb comp n sizes h k) (small_chroma_ac mb comp n h k sizes is) (λ e. omega (arith, e)))

  chroma_blocks_have : (comp : ℕ) → comp < 2 → HasBins (each 4 (chroma_block shape done at comp) 0 (so_far 16 256 8 (60 * comp) mb)) (so_far 16 256 8 (60 * (comp + 1)) mb)
  chroma_blocks_have comp h =
      let from : 60 * comp + 15 * 0 ≡ 60 * comp = omega arith in
      let to : 60 * comp + 15 * (0 + 4) ≡ 60 * (comp + 1) = omega arith in
      subst (λ (n : ℕ). HasBins (each 4 (chroma_block shape done at comp) 0 (so_far 16 256 8 n mb)) (so_far 16 256 8 (60 * (comp + 1)) mb)) from
      (subst (λ (n : ℕ). HasBins (each 4 (chroma_block shape done at comp) 0 (so_far 16 256 8 (60 * comp + 15 * 0) mb)) (so_far 16 256 8 n mb)) to
      (each_has (chroma_block shape done at comp) (λ n. so_far 16 256 8 (60 * comp + 15 * n) mb) 4 0 (λ n low high. chroma_block_has comp n h (omega (arith, high)))))

  chroma_ac_has : (comp : ℕ) → comp < 2 → HasBins (chroma_ac shape done at comp (so_far 16 256 8 (60 * comp) mb)) (so_far 16 256 8 (60 * (comp + 1)) mb)
  chroma_ac_has comp h = by (eqb (pattern_of mb).chroma 2) refl
    where
      by : (both : Bool) → eqb (pattern_of mb).chroma 2 ≡ both → HasBins (chroma_ac shape done at comp (so_far 16 256 8 (60 * comp) mb)) (so_far 16 256 8 (60 * (comp + 1)) mb)
      by true e = writes_chroma_blocks Takes shape done at comp mb false false e (chroma_blocks_have comp h)
      by false e = writes_no_chroma_ac Takes shape done at comp mb false sizes is h e

  chroma_acs_have : HasBins (each 2 (chroma_ac shape done at) 0 (so_far 16 256 8 0 mb)) (so_far 16 256 8 120 mb)
  chroma_acs_have = each_has (chroma_ac shape done at) (λ comp. so_far 16 256 8 (60 * comp) mb) 2 0 (λ comp low high. chroma_ac_has comp (omega (arith, high)))

  pub residual_has : HasBins (residual shape done at (without_levels mb)) mb
  residual_has = writes_residual Takes shape done at mb false false false false false sizes luma_dc_has quarters_have chroma_dcs_have chroma_acs_have

pub residual_spelled : (shape : SliceShape) (done : List Mb) (at : ℕ) (mb : Mb) → IsInPicture shape at → HasSizes mb → IsResidual mb → (bins : List (Slot × Bool)) × Spells (residual shape done at (without_levels mb)) bins mb
residual_spelled shape done at mb picture sizes is = spelled_by (residual shape done at (without_levels mb)) mb false (residual_has shape done at mb picture sizes is)
