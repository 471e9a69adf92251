-- What the bins of a macroblock's parts spell.
use Rattle.std.proofs.Common.{◌≡◌, ◌≢◌, ℕ, ◌+◌, ◌-◌, ◌*◌, ◌/◌, ◌%◌, ◌<◌, ◌≤◌, eqb, cond, Bool, true, false, ◌⊎◌, inl, inr, ℤ, pos, List, [], ◌++◌, length, take, drop, replicate, get_or, set, refl, sym, ap, ◌∙◌, lit<, arith}
use Rattle.std.specs.Prelude.{All}
use Rattle.std.proofs.lemmas.List.{take_at, drop_at, append_assoc, length-append, length-take-le, length-drop, length-set, length-replicate, take-append-drop, get_or-set_same, get_or-set_other}
use Rattle.std.proofs.lemmas.List.Elements.{All-set, All-replicate}
use Rattle.std.proofs.Math.Seq.{drop-append-add}
use Rattle.cabac_engine.specs.Bins.{Slot}
use Rattle.h264_types.specs.Kind.{is_i_16x16}
use Rattle.h264_types.specs.Macroblock.{pattern_of, quarter_of, block_of, with_block, luma_block}
use Rattle.h264_types.specs.declared.macroblock.Mb.{Mb}
use Rattle.h264_types.specs.declared.macroblock.MbKind.{MbKind}
use Rattle.h264_types.specs.declared.slice_shape.SliceShape.{SliceShape}
use Rattle.binarisation.specs.BinString.{Spells}
use Rattle.binarisation.proofs.OneString.{splits}
use Rattle.cabac_contexts.specs.Terms.{has_luma}
use Rattle.binarisation.specs.Each.{each}
use Rattle.cabac_mb_residual.specs.MacroblockResidual.{list, luma_dc, luma_cat, luma_max, filled, luma4, quarter, chroma_dc, chroma_block, with_luma4, with_quarter, with_chroma_dc, with_chroma_block}
use Rattle.cabac_mb_residual.specs.Levels.{without_levels}
use Rattle.cabac_residual.proofs.BlockLevels.{AreOf, block_levels}
use Rattle.cabac_mb_residual.proofs.Lists.{luma_dc-some, luma_dc-none, quarter-none, quarter-eight, quarter-blocks, chroma_dc-some, chroma_dc-none}
use Rattle.cabac_mb_residual.proofs.SoFar.{block_front, below, near}

-- the lists of levels are as long as those of any macroblock
pub record AreSized (mb : Mb) : Type 0 where
  pub dc : length mb.dc ≡ 16
  pub four : length mb.luma ≡ 4
  pub quarters : All (λ levels. length levels ≡ 64) mb.luma
  pub two : length mb.chroma_dc ≡ 2
  pub dcs : All (λ levels. length levels ≡ 4) mb.chroma_dc
  pub both : length mb.chroma_ac ≡ 2
  pub blocks : All (λ blocks. (length blocks ≡ 4) × All (λ levels. length levels ≡ 15) blocks) mb.chroma_ac

pub sized-none : (mb : Mb) → AreSized (without_levels mb)
sized-none mb = record {
  dc = refl;
  four = refl;
  quarters = All-replicate (λ levels. length levels ≡ 64) 4 (replicate 64 (pos 0)) refl;
  two = refl;
  dcs = All-replicate (λ levels. length levels ≡ 4) 2 (replicate 4 (pos 0)) refl;
  both = refl;
  blocks = All-replicate (λ (blocks : List (List ℤ)). (length blocks ≡ 4) × All (λ levels. length levels ≡ 15) blocks) 2 (replicate 4 (replicate 15 (pos 0))) (refl, All-replicate (λ levels. length levels ≡ 15) 4 (replicate 15 (pos 0)) refl);
}

-- ---- a 4x4 block of a quarter

pub with_block-size : (levels block : List ℤ) (k : ℕ) → length levels ≡ 64 → length block ≡ 16 → k < 4 → length (with_block levels k block) ≡ 64
with_block-size levels block k e f h =
    let front = length-take-le (16 * k) levels (omega (arith, e)) in
    let back = length-drop (16 * k + 16) levels in
    let both = length-append (take (16 * k) levels) block in
    let all = length-append (take (16 * k) levels ++ block) (drop (16 * k + 16) levels) in
    omega (arith, front, back, both, all, e, f)

pub own_block : (levels block : List ℤ) (k : ℕ) → length levels ≡ 64 → length block ≡ 16 → k < 4 → block_of (with_block levels k block) k ≡ block
own_block levels block k e f h =
    let rest : List ℤ = drop (16 * k + 16) levels in
    let front = length-take-le (16 * k) levels (omega (arith, e)) in
    ap (λ (l : List ℤ). block_of l k) (append_assoc (take (16 * k) levels) block rest)
    ∙ ap (take 16) (drop_at (take (16 * k) levels) (block ++ rest) (16 * k) front)
    ∙ take_at block rest 16 f

pub other_block : (levels block : List ℤ) (k j : ℕ) → length levels ≡ 64 → length block ≡ 16 → k < 4 → j < 4 → j ≢ k → block_of (with_block levels k block) j ≡ block_of levels j
other_block levels block k j e f h i other =
    elim (below j k) [
      | inl less ↦ ap (λ (l : List ℤ). block_of l j) (append_assoc (take (16 * k) levels) block (drop (16 * k + 16) levels))
          ∙ block_front (take (16 * k) levels) (block ++ drop (16 * k + 16) levels) j (omega (arith, length-take-le (16 * k) levels (omega (arith, e))))
          ∙ sym (block_front (take (16 * k) levels) (drop (16 * k) levels) j (omega (arith, length-take-le (16 * k) levels (omega (arith, e)))))
          ∙ ap (λ (l : List ℤ). block_of l j) (take-append-drop (16 * k) levels)
      | inr more ↦ behind (take (16 * k) levels ++ block) (drop (16 * k + 16) levels) (omega (arith, length-append (take (16 * k) levels) block, length-take-le (16 * k) levels (omega (arith, e)), f)) (omega arith)
          ∙ sym (behind (take (16 * k + 16) levels) (drop (16 * k + 16) levels) (length-take-le (16 * k + 16) levels (omega (arith, e))) (omega arith))
          ∙ ap (λ (l : List ℤ). block_of l j) (take-append-drop (16 * k + 16) levels)
    ]
  where
    behind : (front rest : List ℤ) → length front ≡ 16 * k + 16 → 16 * k + 16 ≤ 16 * j → block_of (front ++ rest) j ≡ take 16 (drop (16 * j - (16 * k + 16)) rest)
    behind front rest size more =
        let place : 16 * j ≡ length front + (16 * j - (16 * k + 16)) = omega (arith, size) in
        ap (λ n. take 16 (drop n (front ++ rest))) place ∙ ap (take 16) (drop-append-add front rest (16 * j - (16 * k + 16)))

-- ---- what a part puts

pub sized-quarter : (mb : Mb) (q : ℕ) (levels : List ℤ) → AreSized mb → length levels ≡ 64 → AreSized (with_quarter q mb levels)
sized-quarter mb q levels sizes e = record {
  dc = sizes.dc;
  four = length-set mb.luma q levels ∙ sizes.four;
  quarters = All-set (λ levels. length levels ≡ 64) mb.luma q levels e sizes.quarters;
  two = sizes.two;
  dcs = sizes.dcs;
  both = sizes.both;
  blocks = sizes.blocks;
}

pub size_of-quarter : (mb : Mb) (q : ℕ) → AreSized mb → q < 4 → length (quarter_of mb q) ≡ 64
size_of-quarter mb q sizes h = sizes.quarters q [] (omega (arith, sizes.four))

pub sized-luma4 : (mb : Mb) (n : ℕ) (block : List ℤ) → AreSized mb → n < 16 → length block ≡ 16 → AreSized (with_luma4 n mb block)
sized-luma4 mb n block sizes h e =
    sized-quarter mb (n / 4) (with_block (quarter_of mb (n / 4)) (n % 4) block) sizes (with_block-size (quarter_of mb (n / 4)) block (n % 4) (size_of-quarter mb (n / 4) sizes (omega arith)) e (omega arith))

pub own_luma4 : (mb : Mb) (n : ℕ) (block : List ℤ) → AreSized mb → n < 16 → length block ≡ 16 → luma_block (with_luma4 n mb block) n ≡ block
own_luma4 mb n block sizes h e =
    ap (λ (l : List ℤ). block_of l (n % 4)) (get_or-set_same mb.luma (n / 4) (with_block (quarter_of mb (n / 4)) (n % 4) block) [] (omega (arith, sizes.four)))
    ∙ own_block (quarter_of mb (n / 4)) block (n % 4) (size_of-quarter mb (n / 4) sizes (omega arith)) e (omega arith)

pub other_luma4 : (mb : Mb) (n m : ℕ) (block : List ℤ) → AreSized mb → n < 16 → m < 16 → m ≢ n → length block ≡ 16 → luma_block (with_luma4 n mb block) m ≡ luma_block mb m
other_luma4 mb n m block sizes h i other e =
    elim (near (m / 4) (n / 4)) [
      | inl same ↦
          ap (λ q. block_of (get_or (set mb.luma (n / 4) (with_block (quarter_of mb (n / 4)) (n % 4) block)) q []) (m % 4)) same
          ∙ ap (λ (l : List ℤ). block_of l (m % 4)) (get_or-set_same mb.luma (n / 4) (with_block (quarter_of mb (n / 4)) (n % 4) block) [] (omega (arith, sizes.four)))
          ∙ other_block (quarter_of mb (n / 4)) block (n % 4) (m % 4) (size_of-quarter mb (n / 4) sizes (omega arith)) e (omega arith) (omega arith) (omega arith)
          ∙ ap (λ q. block_of (quarter_of mb q) (m % 4)) (sym same)
      | inr apart ↦ ap (λ (l : List ℤ). block_of l (m % 4)) (get_or-set_other mb.luma (n / 4) (m / 4) (with_block (quarter_of mb (n / 4)) (n % 4) block) [] apart)
    ]

pub sized-chroma_dc : (mb : Mb) (comp : ℕ) (levels : List ℤ) → AreSized mb → length levels ≡ 4 → AreSized (with_chroma_dc comp mb levels)
sized-chroma_dc mb comp levels sizes e = record {
  dc = sizes.dc;
  four = sizes.four;
  quarters = sizes.quarters;
  two = length-set mb.chroma_dc comp levels ∙ sizes.two;
  dcs = All-set (λ levels. length levels ≡ 4) mb.chroma_dc comp levels e sizes.dcs;
  both = sizes.both;
  blocks = sizes.blocks;
}

pub sized-chroma_block : (mb : Mb) (comp n : ℕ) (levels : List ℤ) → AreSized mb → comp < 2 → length levels ≡ 15 → AreSized (with_chroma_block comp n mb levels)
sized-chroma_block mb comp n levels sizes h e =
    let old = sizes.blocks comp [] (omega (arith, sizes.both)) in
    record {
      dc = sizes.dc;
      four = sizes.four;
      quarters = sizes.quarters;
      two = sizes.two;
      dcs = sizes.dcs;
      both = length-set mb.chroma_ac comp (set (get_or mb.chroma_ac comp []) n levels) ∙ sizes.both;
      blocks = All-set (λ (blocks : List (List ℤ)). (length blocks ≡ 4) × All (λ levels. length levels ≡ 15) blocks) mb.chroma_ac comp (set (get_or mb.chroma_ac comp []) n levels)
          (length-set (get_or mb.chroma_ac comp []) n levels ∙ old.0, All-set (λ levels. length levels ≡ 15) (get_or mb.chroma_ac comp []) n levels e old.1) sizes.blocks;
    }

-- ---- what is spelled

pub luma_max-some : (kind : MbKind) → 0 < luma_max kind
luma_max-some kind = at (is_i_16x16 kind)
  where
    at : (test : Bool) → 0 < cond test 15 16
    at true = lit< tt
    at false = lit< tt

pub filled-size : (levels : List ℤ) → length levels ≤ 16 → length (filled levels) ≡ 16
filled-size levels h = omega (arith, length-append levels (replicate (16 - length levels) (pos 0)), length-replicate (16 - length levels) (pos 0))

abbrev pub SpellsLuma4 : ℕ → Mb → Mb → Type 0
SpellsLuma4 n x y = (levels : List ℤ) × AreOf (luma_cat x.kind) (luma_max x.kind) levels × (with_luma4 n x (filled levels) ≡ y)

pub luma4-spelled : (shape : SliceShape) (done : List Mb) (at n : ℕ) (x : Mb) (bins : List (Slot × Bool)) (y : Mb) → Spells (luma4 shape done at n x) bins y → SpellsLuma4 n x y
unfolding luma4 list
luma4-spelled shape done at n x bins y h = let parts = splits _ _ bins y h in (parts.0, block_levels _ _ _ _ parts.1 parts.0 (luma_max-some x.kind) parts.4, parts.5.1)

abbrev pub SpellsBlock : (cat max : ℕ) → (List ℤ → Mb) → Mb → Type 0
SpellsBlock cat max put y = (levels : List ℤ) × AreOf cat max levels × (put levels ≡ y)

pub chroma_block-spelled : (shape : SliceShape) (done : List Mb) (at comp n : ℕ) (x : Mb) (bins : List (Slot × Bool)) (y : Mb) → Spells (chroma_block shape done at comp n x) bins y → SpellsBlock 4 15 (with_chroma_block comp n x) y
unfolding chroma_block list
chroma_block-spelled shape done at comp n x bins y h = let parts = splits _ _ bins y h in (parts.0, block_levels _ _ _ _ parts.1 parts.0 (lit< tt) parts.4, parts.5.1)

pub luma_dc-spelled : (shape : SliceShape) (done : List Mb) (at : ℕ) (x : Mb) (bins : List (Slot × Bool)) (y : Mb) → Spells (luma_dc shape done at x) bins y
    → ((is_i_16x16 x.kind ≡ false) × (x ≡ y)) ⊎ ((is_i_16x16 x.kind ≡ true) × SpellsBlock 0 16 (λ levels. record x { dc = levels }) y)
unfolding list
luma_dc-spelled shape done at x bins y h = by (is_i_16x16 x.kind) refl
  where
    by : (test : Bool) → is_i_16x16 x.kind ≡ test → ((is_i_16x16 x.kind ≡ false) × (x ≡ y)) ⊎ ((is_i_16x16 x.kind ≡ true) × SpellsBlock 0 16 (λ levels. record x { dc = levels }) y)
    by false e = let g = rw (luma_dc-none shape done at x e) at h in inl (e, g.1)
    by true e =
        let g = rw (luma_dc-some shape done at x e) at h in
        let parts = splits _ _ bins y g in
        inr (e, (parts.0, block_levels _ _ _ _ parts.1 parts.0 (lit< tt) parts.4, parts.5.1))

pub chroma_dc-spelled : (shape : SliceShape) (done : List Mb) (at comp : ℕ) (x : Mb) (bins : List (Slot × Bool)) (y : Mb) → Spells (chroma_dc shape done at comp x) bins y
    → ((eqb (pattern_of x).chroma 0 ≡ true) × (x ≡ y)) ⊎ ((eqb (pattern_of x).chroma 0 ≡ false) × SpellsBlock 3 4 (with_chroma_dc comp x) y)
unfolding list
chroma_dc-spelled shape done at comp x bins y h = by (eqb (pattern_of x).chroma 0) refl
  where
    by : (test : Bool) → eqb (pattern_of x).chroma 0 ≡ test → ((eqb (pattern_of x).chroma 0 ≡ true) × (x ≡ y)) ⊎ ((eqb (pattern_of x).chroma 0 ≡ false) × SpellsBlock 3 4 (with_chroma_dc comp x) y)
    by true e = let g = rw (chroma_dc-none shape done at comp x e) at h in inl (e, g.1)
    by false e =
        let g = rw (chroma_dc-some shape done at comp x e) at h in
        let parts = splits _ _ bins y g in
        inr (e, (parts.0, block_levels _ _ _ _ parts.1 parts.0 (lit< tt) parts.4, parts.5.1))

pub data SpellsQuarter (shape : SliceShape) (done : List Mb) (at q : ℕ) (x : Mb) (bins : List (Slot × Bool)) (y : Mb) : Type 0 where
  NoQuarter : has_luma x q ≡ false → x ≡ y → SpellsQuarter shape done at q x bins y
  Eight : has_luma x q ≡ true → x.t8 ≡ true → SpellsBlock 5 64 (with_quarter q x) y → SpellsQuarter shape done at q x bins y
  Blocks : has_luma x q ≡ true → x.t8 ≡ false → Spells (each 4 (luma4 shape done at) (4 * q) x) bins y → SpellsQuarter shape done at q x bins y

pub quarter-spelled : (shape : SliceShape) (done : List Mb) (at q : ℕ) (x : Mb) (bins : List (Slot × Bool)) (y : Mb) → Spells (quarter shape done at q x) bins y → SpellsQuarter shape done at q x bins y
quarter-spelled shape done at q x bins y h = by (has_luma x q) x.t8 refl refl
  where
    by : (has t8 : Bool) → has_luma x q ≡ has → x.t8 ≡ t8 → SpellsQuarter shape done at q x bins y
    by false t8 e f = let g = rw (quarter-none shape done at q x false refl (sym e)) at h in NoQuarter e g.1
    by true true e f =
        let g = rw (quarter-eight shape done at q x true refl (sym e) f) at h in
        let parts = splits _ _ bins y g in
        Eight e f (parts.0, block_levels _ _ _ _ parts.1 parts.0 (lit< tt) parts.4, parts.5.1)
    by true false e f = Blocks e f (rw (quarter-blocks shape done at q x true refl (sym e) f) at h)
