-- No residual has two strings of bins.
use Rattle.std.proofs.Common.{◌≡◌, ℕ, ◌+◌, ◌-◌, ◌*◌, ◌/◌, ◌%◌, ◌<◌, ◌≤◌, eqb, Bool, true, false, inl, inr, ℤ, pos, List, [], length, take, replicate, get_or, set, refl, sym, ap, subst, ◌∙◌, arith}
use Rattle.std.proofs.lemmas.List.{take_at, set-set, set-get_or, get_or-set_same, get_or-set_other}
use Rattle.cabac_engine.specs.Bins.{Slot}
use Rattle.h264_types.specs.Kind.{is_i_16x16}
use Rattle.h264_types.specs.Macroblock.{pattern_of, quarter_of, with_block, luma_block}
use Rattle.h264_types.specs.declared.macroblock.Mb.{Mb}
use Rattle.h264_types.specs.declared.slice_shape.SliceShape.{SliceShape}
use Rattle.binarisation.specs.BinString.{BinString, Value, Spells, ◌>>=◌, HasOneString}
use Rattle.binarisation.proofs.OneString.{splits, then_one, value_one}
use Rattle.cabac_contexts.specs.Terms.{has_luma, chroma_dc_of, chroma_ac_of}
use Rattle.cabac_residual.proofs.OneString.{block_one}
use Rattle.binarisation.specs.Each.{each}
use Rattle.cabac_mb_residual.specs.MacroblockResidual.{list, luma_dc, luma_cat, luma_max, filled, luma4, quarter, chroma_dc, chroma_block, chroma_ac, residual, with_luma4, with_quarter, with_chroma_dc, with_chroma_block}
use Rattle.cabac_residual.proofs.BlockLevels.{AreOf, block_levels}
use Rattle.binarisation.proofs.Each.{then_one_of, each_keeps, each_one}
use Rattle.cabac_mb_residual.proofs.Lists.{luma_dc-some, luma_dc-none, luma_max-most, quarter-none, quarter-eight, quarter-blocks, chroma_dc-some, chroma_dc-none, chroma_ac-none, chroma_ac-blocks}
use Rattle.cabac_mb_residual.proofs.Spelled.{AreSized, sized-quarter, sized-luma4, own_luma4, other_luma4, sized-chroma_dc, sized-chroma_block, luma_max-some, filled-size, luma4-spelled, chroma_block-spelled, luma_dc-spelled, chroma_dc-spelled, SpellsQuarter, NoQuarter, Eight, Blocks, quarter-spelled}

-- ---- 4x4 luma blocks

pub filled-sixteen : (x : Mb) (levels : List ℤ) → AreOf (luma_cat x.kind) (luma_max x.kind) levels → length (filled levels) ≡ 16
filled-sixteen x levels are = let most = luma_max-most x.kind in filled-size levels (omega (arith, are.size))

pub luma4-sized : (shape : SliceShape) (done : List Mb) (at n : ℕ) (x : Mb) (bins : List (Slot × Bool)) (y : Mb) → n < 16 → AreSized x → Spells (luma4 shape done at n x) bins y → AreSized y
luma4-sized shape done at n x bins y h sizes g =
    let s = luma4-spelled shape done at n x bins y g in
    subst AreSized s.2 (sized-luma4 x n (filled s.0) sizes h (filled-sixteen x s.0 s.1))

luma4_one : (shape : SliceShape) (done : List Mb) (at n : ℕ) (x : Mb) → n < 16 → AreSized x → HasOneString (luma4 shape done at n x)
unfolding luma4 list
luma4_one shape done at n x h sizes =
    then_one _ (λ (levels : List ℤ). Value (with_luma4 n x (filled levels))) (λ y. take (luma_max x.kind) (luma_block y n)) (block_one _ _ _ _) (λ levels. value_one (with_luma4 n x (filled levels)))
    (λ first second levels y f g.
    let are = block_levels _ _ _ _ first levels (luma_max-some x.kind) f in
    ap (λ (m : Mb). take (luma_max x.kind) (luma_block m n)) (sym g.1)
    ∙ ap (take (luma_max x.kind)) (own_luma4 x n (filled levels) sizes h (filled-sixteen x levels are))
    ∙ take_at levels (replicate (16 - length levels) (pos 0)) (luma_max x.kind) are.size)

luma4-made : (shape : SliceShape) (done : List Mb) (at n : ℕ) (x : Mb) (bins : List (Slot × Bool)) (y : Mb) → n < 16 → AreSized x → Spells (luma4 shape done at n x) bins y → with_luma4 n x (luma_block y n) ≡ y
luma4-made shape done at n x bins y h sizes g =
    let s = luma4-spelled shape done at n x bins y g in
    ap (λ (m : Mb). with_luma4 n x (luma_block m n)) (sym s.2) ∙ ap (with_luma4 n x) (own_luma4 x n (filled s.0) sizes h (filled-sixteen x s.0 s.1)) ∙ s.2

luma4-later : (shape : SliceShape) (done : List Mb) (at n m : ℕ) (x : Mb) (bins : List (Slot × Bool)) (y : Mb) → n < 16 → m < n → AreSized x → Spells (luma4 shape done at n x) bins y → luma_block y m ≡ luma_block x m
luma4-later shape done at n m x bins y h less sizes g =
    let s = luma4-spelled shape done at n x bins y g in
    ap (λ (b : Mb). luma_block b m) (sym s.2) ∙ other_luma4 x n m (filled s.0) sizes h (omega arith) (omega arith) (filled-sixteen x s.0 s.1)

luma4s_one : (shape : SliceShape) (done : List Mb) (at n k : ℕ) (x : Mb) → k + n ≤ 16 → AreSized x → HasOneString (each n (luma4 shape done at) k x)
luma4s_one shape done at n k x h sizes =
    each_one (luma4 shape done at) AreSized (λ n x z. with_luma4 n x (luma_block z n)) 0 16
    (λ k x low high sizes. luma4_one shape done at k x high sizes) (λ k x bins y low high sizes g. luma4-sized shape done at k x bins y high sizes g) (λ k x bins y low high sizes g. luma4-made shape done at k x bins y high sizes g)
    (λ j k x w bins y low less high sizes g. ap (with_luma4 j x) (luma4-later shape done at k j w bins y high less sizes g)) n k x (omega arith) h sizes

-- ---- quarters

quarter-put : (x w : Mb) (q : ℕ) (levels : List ℤ) → q < length w.luma → with_quarter q x (quarter_of w q) ≡ w → with_quarter q x (quarter_of (with_quarter q w levels) q) ≡ with_quarter q w levels
quarter-put x w q levels h e =
    ap (with_quarter q x) (get_or-set_same w.luma q levels [] h)
    ∙ sym (ap (λ (m : Mb). with_quarter q m levels) (sym e) ∙ ap (λ (l : List (List ℤ)). record x { luma = l }) (set-set x.luma q (quarter_of w q) levels))

quarter-same : (x : Mb) (q : ℕ) → with_quarter q x (quarter_of x q) ≡ x
quarter-same x q = ap (λ (l : List (List ℤ)). record x { luma = l }) (set-get_or x.luma q [])

pub quarter-sized : (shape : SliceShape) (done : List Mb) (at q : ℕ) (x : Mb) (bins : List (Slot × Bool)) (y : Mb) → q < 4 → AreSized x → Spells (quarter shape done at q x) bins y → AreSized y
quarter-sized shape done at q x bins y h sizes g = by (quarter-spelled shape done at q x bins y g)
  where
    by : SpellsQuarter shape done at q x bins y → AreSized y
    by (NoQuarter e same) = subst AreSized same sizes
    by (Eight e f s) = subst AreSized s.2 (sized-quarter x q s.0 sizes s.1.size)
    by (Blocks e f s) = each_keeps (luma4 shape done at) (λ k w. AreSized w) 0 16 (λ k w bins v low high sizes g. luma4-sized shape done at k w bins v high sizes g) 4 (4 * q) x bins y (omega arith) (omega arith) sizes s

pub quarter-made : (shape : SliceShape) (done : List Mb) (at q : ℕ) (x : Mb) (bins : List (Slot × Bool)) (y : Mb) → q < 4 → AreSized x → Spells (quarter shape done at q x) bins y → with_quarter q x (quarter_of y q) ≡ y
quarter-made shape done at q x bins y h sizes g = by (quarter-spelled shape done at q x bins y g)
  where
    step : (k : ℕ) (w : Mb) (bins : List (Slot × Bool)) (v : Mb) → 4 * q ≤ k → k < 4 * q + 4 → AreSized w × (with_quarter q x (quarter_of w q) ≡ w) → Spells (luma4 shape done at k w) bins v → AreSized v × (with_quarter q x (quarter_of v q) ≡ v)
    step k w bins v low high kept g =
        let s = luma4-spelled shape done at k w bins v g in
        let block : List ℤ = with_block (quarter_of w (k / 4)) (k % 4) (filled s.0) in
        let own : q ≡ k / 4 = omega arith in
        let made : with_quarter q w block ≡ v = ap (λ r. with_quarter r w block) own ∙ s.2 in
        (luma4-sized shape done at k w bins v (omega arith) kept.0 g, subst (λ (m : Mb). with_quarter q x (quarter_of m q) ≡ m) made (quarter-put x w q block (omega (arith, kept.0.four)) kept.1))

    by : SpellsQuarter shape done at q x bins y → with_quarter q x (quarter_of y q) ≡ y
    by (NoQuarter e same) = subst (λ (m : Mb). with_quarter q x (quarter_of m q) ≡ m) same (quarter-same x q)
    by (Eight e f s) = subst (λ (m : Mb). with_quarter q x (quarter_of m q) ≡ m) s.2 (quarter-put x x q s.0 (omega (arith, sizes.four)) (quarter-same x q))
    by (Blocks e f s) = (each_keeps (luma4 shape done at) (λ k w. AreSized w × (with_quarter q x (quarter_of w q) ≡ w)) (4 * q) (4 * q + 4) step 4 (4 * q) x bins y (omega arith) (omega arith) (sizes, quarter-same x q) s).1

quarter-later : (shape : SliceShape) (done : List Mb) (at q r : ℕ) (x : Mb) (bins : List (Slot × Bool)) (y : Mb) → q < 4 → r < q → AreSized x → Spells (quarter shape done at q x) bins y → quarter_of y r ≡ quarter_of x r
quarter-later shape done at q r x bins y h less sizes g =
    ap (λ (m : Mb). quarter_of m r) (sym (quarter-made shape done at q x bins y h sizes g)) ∙ get_or-set_other x.luma q r (quarter_of y q) [] (omega arith)

quarter_one : (shape : SliceShape) (done : List Mb) (at q : ℕ) (x : Mb) → q < 4 → AreSized x → HasOneString (quarter shape done at q x)
quarter_one shape done at q x h sizes = by (has_luma x q) x.t8 refl refl
  where
    by : (has t8 : Bool) → has_luma x q ≡ has → x.t8 ≡ t8 → HasOneString (quarter shape done at q x)
    by false t8 e f = subst (λ (s : BinString Mb). HasOneString s) (sym (quarter-none shape done at q x false refl (sym e))) (value_one x)
    by true true e f = subst (λ (s : BinString Mb). HasOneString s) (sym (quarter-eight shape done at q x true refl (sym e) f))
        (then_one _ (λ (levels : List ℤ). Value (with_quarter q x levels)) (λ y. quarter_of y q) (block_one _ _ _ _) (λ levels. value_one (with_quarter q x levels))
        (λ first second levels y g k. ap (λ (m : Mb). quarter_of m q) (sym k.1) ∙ get_or-set_same x.luma q levels [] (omega (arith, sizes.four))))
    by true false e f = subst (λ (s : BinString Mb). HasOneString s) (sym (quarter-blocks shape done at q x true refl (sym e) f)) (luma4s_one shape done at 4 (4 * q) x (omega arith) sizes)

quarters_one : (shape : SliceShape) (done : List Mb) (at : ℕ) (x : Mb) → AreSized x → HasOneString (each 4 (quarter shape done at) 0 x)
quarters_one shape done at x sizes =
    each_one (quarter shape done at) AreSized (λ q x z. with_quarter q x (quarter_of z q)) 0 4
    (λ q x low high sizes. quarter_one shape done at q x high sizes) (λ q x bins y low high sizes g. quarter-sized shape done at q x bins y high sizes g) (λ q x bins y low high sizes g. quarter-made shape done at q x bins y high sizes g)
    (λ j k x w bins y low less high sizes g. ap (with_quarter j x) (quarter-later shape done at k j w bins y high less sizes g)) 4 0 x (omega arith) (omega arith) sizes

-- a macroblock's luma levels alone are new
pub quarters-kept : (shape : SliceShape) (done : List Mb) (at : ℕ) (x : Mb) (bins : List (Slot × Bool)) (y : Mb) → AreSized x → Spells (each 4 (quarter shape done at) 0 x) bins y → AreSized y × (record x { luma = y.luma } ≡ y)
quarters-kept shape done at x bins y sizes g =
    each_keeps (quarter shape done at) (λ k w. AreSized w × (record x { luma = w.luma } ≡ w)) 0 4
    (λ k w bins v low high kept g. (quarter-sized shape done at k w bins v high kept.0 g, only w v (set w.luma k (quarter_of v k)) kept.1 (quarter-made shape done at k w bins v high kept.0 g))) 4 0 x bins y (omega arith) (omega arith) (sizes, refl) g
  where
    only : (w v : Mb) (l : List (List ℤ)) → record x { luma = w.luma } ≡ w → record w { luma = l } ≡ v → record x { luma = v.luma } ≡ v
    only w v l e f = ap (λ (m : Mb). record x { luma = m.luma }) (sym f) ∙ ap (λ (m : Mb). record m { luma = l }) e ∙ f

-- ---- chroma DC

pub chroma_dc-sized : (shape : SliceShape) (done : List Mb) (at comp : ℕ) (x : Mb) (bins : List (Slot × Bool)) (y : Mb) → AreSized x → Spells (chroma_dc shape done at comp x) bins y → AreSized y
chroma_dc-sized shape done at comp x bins y sizes g =
    elim (chroma_dc-spelled shape done at comp x bins y g) [
      | inl none ↦ subst AreSized none.1 sizes
      | inr some ↦ subst AreSized some.1.2 (sized-chroma_dc x comp some.1.0 sizes some.1.1.size)
    ]

pub chroma_dc-made : (shape : SliceShape) (done : List Mb) (at comp : ℕ) (x : Mb) (bins : List (Slot × Bool)) (y : Mb) → comp < 2 → AreSized x → Spells (chroma_dc shape done at comp x) bins y → with_chroma_dc comp x (chroma_dc_of y comp) ≡ y
chroma_dc-made shape done at comp x bins y h sizes g =
    elim (chroma_dc-spelled shape done at comp x bins y g) [
      | inl none ↦ subst (λ (m : Mb). with_chroma_dc comp x (chroma_dc_of m comp) ≡ m) none.1 (ap (λ (l : List (List ℤ)). record x { chroma_dc = l }) (set-get_or x.chroma_dc comp []))
      | inr some ↦ subst (λ (m : Mb). with_chroma_dc comp x (chroma_dc_of m comp) ≡ m) some.1.2 (ap (with_chroma_dc comp x) (get_or-set_same x.chroma_dc comp some.1.0 [] (omega (arith, sizes.two))))
    ]

chroma_dc_one : (shape : SliceShape) (done : List Mb) (at comp : ℕ) (x : Mb) → comp < 2 → AreSized x → HasOneString (chroma_dc shape done at comp x)
unfolding list
chroma_dc_one shape done at comp x h sizes = by (eqb (pattern_of x).chroma 0) refl
  where
    by : (none : Bool) → eqb (pattern_of x).chroma 0 ≡ none → HasOneString (chroma_dc shape done at comp x)
    by true e = subst (λ (s : BinString Mb). HasOneString s) (sym (chroma_dc-none shape done at comp x e)) (value_one x)
    by false e = subst (λ (s : BinString Mb). HasOneString s) (sym (chroma_dc-some shape done at comp x e))
        (then_one (list shape done at 3 comp 0 4 x) (λ (levels : List ℤ). Value (with_chroma_dc comp x levels)) (λ y. chroma_dc_of y comp) (block_one _ _ _ _) (λ levels. value_one (with_chroma_dc comp x levels))
        (λ first second levels y g k. ap (λ (m : Mb). chroma_dc_of m comp) (sym k.1) ∙ get_or-set_same x.chroma_dc comp levels [] (omega (arith, sizes.two))))

chroma_dcs_one : (shape : SliceShape) (done : List Mb) (at : ℕ) (x : Mb) → AreSized x → HasOneString (each 2 (chroma_dc shape done at) 0 x)
chroma_dcs_one shape done at x sizes =
    each_one (chroma_dc shape done at) AreSized (λ comp x z. with_chroma_dc comp x (chroma_dc_of z comp)) 0 2
    (λ comp x low high sizes. chroma_dc_one shape done at comp x high sizes) (λ comp x bins y low high sizes g. chroma_dc-sized shape done at comp x bins y sizes g) (λ comp x bins y low high sizes g. chroma_dc-made shape done at comp x bins y high sizes g)
    (λ j k x w bins y low less high sizes g. ap (with_chroma_dc j x)
    (ap (λ (m : Mb). chroma_dc_of m j) (sym (chroma_dc-made shape done at k w bins y high sizes g)) ∙ get_or-set_other w.chroma_dc k j (chroma_dc_of y k) [] (omega arith))) 2 0 x (omega arith) (omega arith) sizes

pub chroma_dcs-kept : (shape : SliceShape) (done : List Mb) (at : ℕ) (x : Mb) (bins : List (Slot × Bool)) (y : Mb) → AreSized x → Spells (each 2 (chroma_dc shape done at) 0 x) bins y → AreSized y × (record x { chroma_dc = y.chroma_dc } ≡ y)
chroma_dcs-kept shape done at x bins y sizes g =
    each_keeps (chroma_dc shape done at) (λ k w. AreSized w × (record x { chroma_dc = w.chroma_dc } ≡ w)) 0 2
    (λ k w bins v low high kept g. (chroma_dc-sized shape done at k w bins v kept.0 g, only w v (set w.chroma_dc k (chroma_dc_of v k)) kept.1 (chroma_dc-made shape done at k w bins v high kept.0 g))) 2 0 x bins y (omega arith) (omega arith) (sizes, refl) g
  where
    only : (w v : Mb) (l : List (List ℤ)) → record x { chroma_dc = w.chroma_dc } ≡ w → record w { chroma_dc = l } ≡ v → record x { chroma_dc = v.chroma_dc } ≡ v
    only w v l e f = ap (λ (m : Mb). record x { chroma_dc = m.chroma_dc }) (sym f) ∙ ap (λ (m : Mb). record m { chroma_dc = l }) e ∙ f

-- ---- chroma AC

abbrev pub blocks_of : Mb → ℕ → List (List ℤ)
blocks_of mb comp = get_or mb.chroma_ac comp []

abbrev pub with_blocks : ℕ → Mb → List (List ℤ) → Mb
with_blocks comp mb blocks = record mb { chroma_ac = set mb.chroma_ac comp blocks }

pub chroma_block-sized : (shape : SliceShape) (done : List Mb) (at comp n : ℕ) (x : Mb) (bins : List (Slot × Bool)) (y : Mb) → comp < 2 → AreSized x → Spells (chroma_block shape done at comp n x) bins y → AreSized y
chroma_block-sized shape done at comp n x bins y h sizes g =
    let s = chroma_block-spelled shape done at comp n x bins y g in
    subst AreSized s.2 (sized-chroma_block x comp n s.0 sizes h s.1.size)

own_blocks : (x : Mb) (comp : ℕ) (blocks : List (List ℤ)) → AreSized x → comp < 2 → blocks_of (with_blocks comp x blocks) comp ≡ blocks
own_blocks x comp blocks sizes h = get_or-set_same x.chroma_ac comp blocks [] (omega (arith, sizes.both))

own_chroma_block : (x : Mb) (comp n : ℕ) (levels : List ℤ) → AreSized x → comp < 2 → n < 4 → chroma_ac_of (with_chroma_block comp n x levels) comp n ≡ levels
own_chroma_block x comp n levels sizes h i =
    let size = sizes.blocks comp [] (omega (arith, sizes.both)) in
    ap (λ (l : List (List ℤ)). get_or l n []) (own_blocks x comp (set (blocks_of x comp) n levels) sizes h) ∙ get_or-set_same (blocks_of x comp) n levels [] (omega (arith, size.0))

chroma_block_one : (shape : SliceShape) (done : List Mb) (at comp n : ℕ) (x : Mb) → comp < 2 → n < 4 → AreSized x → HasOneString (chroma_block shape done at comp n x)
unfolding chroma_block list
chroma_block_one shape done at comp n x h i sizes =
    then_one _ (λ (levels : List ℤ). Value (with_chroma_block comp n x levels)) (λ y. chroma_ac_of y comp n) (block_one _ _ _ _) (λ levels. value_one (with_chroma_block comp n x levels))
    (λ first second levels y f g. ap (λ (m : Mb). chroma_ac_of m comp n) (sym g.1) ∙ own_chroma_block x comp n levels sizes h i)

chroma_blocks_one : (shape : SliceShape) (done : List Mb) (at comp : ℕ) (x : Mb) → comp < 2 → AreSized x → HasOneString (each 4 (chroma_block shape done at comp) 0 x)
chroma_blocks_one shape done at comp x h sizes =
    each_one (chroma_block shape done at comp) AreSized (λ n x z. with_chroma_block comp n x (chroma_ac_of z comp n)) 0 4
    (λ n x low high sizes. chroma_block_one shape done at comp n x h high sizes) (λ n x bins y low high sizes g. chroma_block-sized shape done at comp n x bins y h sizes g)
    (λ n x bins y low high sizes g. let s = chroma_block-spelled shape done at comp n x bins y g in
    ap (λ (m : Mb). with_chroma_block comp n x (chroma_ac_of m comp n)) (sym s.2) ∙ ap (with_chroma_block comp n x) (own_chroma_block x comp n s.0 sizes h high) ∙ s.2)
    (λ j k x w bins y low less high sizes g. let s = chroma_block-spelled shape done at comp k w bins y g in
    ap (with_chroma_block comp j x)
    (ap (λ (m : Mb). chroma_ac_of m comp j) (sym s.2) ∙ ap (λ (l : List (List ℤ)). get_or l j []) (own_blocks w comp (set (blocks_of w comp) k s.0) sizes h) ∙ get_or-set_other (blocks_of w comp) k j s.0 [] (omega arith))) 4 0 x (omega arith) (omega arith) sizes

chroma_ac_one : (shape : SliceShape) (done : List Mb) (at comp : ℕ) (x : Mb) → comp < 2 → AreSized x → HasOneString (chroma_ac shape done at comp x)
chroma_ac_one shape done at comp x h sizes = by (eqb (pattern_of x).chroma 2) refl
  where
    by : (some : Bool) → eqb (pattern_of x).chroma 2 ≡ some → HasOneString (chroma_ac shape done at comp x)
    by false e = subst (λ (s : BinString Mb). HasOneString s) (sym (chroma_ac-none shape done at comp x e)) (value_one x)
    by true e = subst (λ (s : BinString Mb). HasOneString s) (sym (chroma_ac-blocks shape done at comp x e)) (chroma_blocks_one shape done at comp x h sizes)

-- the blocks of the component alone are new
abbrev pub AcStays : ℕ → Mb → Mb → Type 0
AcStays comp x w = AreSized w × (with_blocks comp x (blocks_of w comp) ≡ w)

ac-same : (comp : ℕ) (x : Mb) → AreSized x → AcStays comp x x
ac-same comp x sizes = (sizes, ap (λ (l : List (List (List ℤ))). record x { chroma_ac = l }) (set-get_or x.chroma_ac comp []))

pub chroma_ac-made : (shape : SliceShape) (done : List Mb) (at comp : ℕ) (x : Mb) (bins : List (Slot × Bool)) (y : Mb) → comp < 2 → AreSized x → Spells (chroma_ac shape done at comp x) bins y → AcStays comp x y
chroma_ac-made shape done at comp x bins y h sizes g = by (eqb (pattern_of x).chroma 2) refl
  where
    put : (w : Mb) (blocks : List (List ℤ)) → AreSized w → with_blocks comp x (blocks_of w comp) ≡ w → with_blocks comp x (blocks_of (with_blocks comp w blocks) comp) ≡ with_blocks comp w blocks
    put w blocks sizes e =
        ap (with_blocks comp x) (own_blocks w comp blocks sizes h)
        ∙ sym (ap (λ (m : Mb). with_blocks comp m blocks) (sym e) ∙ ap (λ (l : List (List (List ℤ))). record x { chroma_ac = l }) (set-set x.chroma_ac comp (blocks_of w comp) blocks))

    step : (k : ℕ) (w : Mb) (bins : List (Slot × Bool)) (v : Mb) → 0 ≤ k → k < 4 → AcStays comp x w → Spells (chroma_block shape done at comp k w) bins v → AcStays comp x v
    step k w bins v low high kept g =
        let s = chroma_block-spelled shape done at comp k w bins v g in
        (chroma_block-sized shape done at comp k w bins v h kept.0 g, subst (λ (m : Mb). with_blocks comp x (blocks_of m comp) ≡ m) s.2 (put w (set (blocks_of w comp) k s.0) kept.0 kept.1))

    by : (some : Bool) → eqb (pattern_of x).chroma 2 ≡ some → AcStays comp x y
    by false e = let k = rw (chroma_ac-none shape done at comp x e) at g in subst (AcStays comp x) k.1 (ac-same comp x sizes)
    by true e = each_keeps (chroma_block shape done at comp) (λ k w. AcStays comp x w) 0 4 step 4 0 x bins y (omega arith) (omega arith) (ac-same comp x sizes) (rw (chroma_ac-blocks shape done at comp x e) at g)

chroma_acs_one : (shape : SliceShape) (done : List Mb) (at : ℕ) (x : Mb) → AreSized x → HasOneString (each 2 (chroma_ac shape done at) 0 x)
chroma_acs_one shape done at x sizes =
    each_one (chroma_ac shape done at) AreSized (λ comp x z. with_blocks comp x (blocks_of z comp)) 0 2
    (λ comp x low high sizes. chroma_ac_one shape done at comp x high sizes) (λ comp x bins y low high sizes g. (chroma_ac-made shape done at comp x bins y high sizes g).0) (λ comp x bins y low high sizes g. (chroma_ac-made shape done at comp x bins y high sizes g).1)
    (λ j k x w bins y low less high sizes g. ap (with_blocks j x)
    (ap (λ (m : Mb). blocks_of m j) (sym (chroma_ac-made shape done at k w bins y high sizes g).1) ∙ get_or-set_other w.chroma_ac k j (blocks_of y k) [] (omega arith))) 2 0 x (omega arith) (omega arith) sizes

pub chroma_acs-kept : (shape : SliceShape) (done : List Mb) (at : ℕ) (x : Mb) (bins : List (Slot × Bool)) (y : Mb) → AreSized x → Spells (each 2 (chroma_ac shape done at) 0 x) bins y → AreSized y × (record x { chroma_ac = y.chroma_ac } ≡ y)
chroma_acs-kept shape done at x bins y sizes g =
    each_keeps (chroma_ac shape done at) (λ k w. AreSized w × (record x { chroma_ac = w.chroma_ac } ≡ w)) 0 2
    (λ k w bins v low high kept g. let made = chroma_ac-made shape done at k w bins v high kept.0 g in (made.0, only w v (set w.chroma_ac k (blocks_of v k)) kept.1 made.1)) 2 0 x bins y (omega arith) (omega arith) (sizes, refl) g
  where
    only : (w v : Mb) (l : List (List (List ℤ))) → record x { chroma_ac = w.chroma_ac } ≡ w → record w { chroma_ac = l } ≡ v → record x { chroma_ac = v.chroma_ac } ≡ v
    only w v l e f = ap (λ (m : Mb). record x { chroma_ac = m.chroma_ac }) (sym f) ∙ ap (λ (m : Mb). record m { chroma_ac = l }) e ∙ f

-- ---- luma DC

pub luma_dc-kept : (shape : SliceShape) (done : List Mb) (at : ℕ) (x : Mb) (bins : List (Slot × Bool)) (y : Mb) → AreSized x → Spells (luma_dc shape done at x) bins y → AreSized y × (record x { dc = y.dc } ≡ y)
luma_dc-kept shape done at x bins y sizes g =
    elim (luma_dc-spelled shape done at x bins y g) [
      | inl none ↦ subst (λ (m : Mb). AreSized m × (record x { dc = m.dc } ≡ m)) none.1 (sizes, refl)
      | inr some ↦ subst (λ (m : Mb). AreSized m × (record x { dc = m.dc } ≡ m)) some.1.2
          (record { dc = some.1.1.size; four = sizes.four; quarters = sizes.quarters; two = sizes.two; dcs = sizes.dcs; both = sizes.both; blocks = sizes.blocks }, refl)
    ]

luma_dc_one : (shape : SliceShape) (done : List Mb) (at : ℕ) (x : Mb) → HasOneString (luma_dc shape done at x)
unfolding list
luma_dc_one shape done at x = by (is_i_16x16 x.kind) refl
  where
    by : (some : Bool) → is_i_16x16 x.kind ≡ some → HasOneString (luma_dc shape done at x)
    by false e = subst (λ (s : BinString Mb). HasOneString s) (sym (luma_dc-none shape done at x e)) (value_one x)
    by true e = subst (λ (s : BinString Mb). HasOneString s) (sym (luma_dc-some shape done at x e))
        (then_one (list shape done at 0 0 0 16 x) (λ (levels : List ℤ). Value (record x { dc = levels })) (λ y. y.dc) (block_one _ _ _ _) (λ levels. value_one (record x { dc = levels })) (λ first second levels y g k. ap (λ (m : Mb). m.dc) (sym k.1)))

-- ---- residual

pub residual_one : (shape : SliceShape) (done : List Mb) (at : ℕ) (x : Mb) → AreSized x → HasOneString (residual shape done at x)
unfolding residual
residual_one shape done at x sizes =
    then_one_of (luma_dc shape done at x >>= each 4 (quarter shape done at) 0 >>= each 2 (chroma_dc shape done at) 0) (each 2 (chroma_ac shape done at) 0) (λ z. record z { chroma_ac = x.chroma_ac }) (λ y. AreSized y × (y.chroma_ac ≡ x.chroma_ac))
    (then_one_of (luma_dc shape done at x >>= each 4 (quarter shape done at) 0) (each 2 (chroma_dc shape done at) 0) (λ z. record z { chroma_dc = x.chroma_dc }) (λ y. AreSized y × (y.chroma_dc ≡ x.chroma_dc) × (y.chroma_ac ≡ x.chroma_ac))
    (then_one_of (luma_dc shape done at x) (each 4 (quarter shape done at) 0) (λ z. record z { luma = x.luma }) (λ y. AreSized y × (y.luma ≡ x.luma) × (y.chroma_dc ≡ x.chroma_dc) × (y.chroma_ac ≡ x.chroma_ac)) (luma_dc_one shape done at x) behind_dc (λ y p. quarters_one shape done at y p.0)
    (λ bins others y z h g. let p = behind_dc bins y h in
    ap (λ (m : Mb). record m { luma = x.luma }) (sym (quarters-kept shape done at y others z p.0 g).1) ∙ ap (λ (l : List (List ℤ)). record y { luma = l }) (sym p.1)))
    behind_luma (λ y p. chroma_dcs_one shape done at y p.0)
    (λ bins others y z h g. let p = behind_luma bins y h in
    ap (λ (m : Mb). record m { chroma_dc = x.chroma_dc }) (sym (chroma_dcs-kept shape done at y others z p.0 g).1) ∙ ap (λ (l : List (List ℤ)). record y { chroma_dc = l }) (sym p.1)))
    behind_chroma_dc (λ y p. chroma_acs_one shape done at y p.0)
    (λ bins others y z h g. let p = behind_chroma_dc bins y h in
    ap (λ (m : Mb). record m { chroma_ac = x.chroma_ac }) (sym (chroma_acs-kept shape done at y others z p.0 g).1) ∙ ap (λ (l : List (List (List ℤ))). record y { chroma_ac = l }) (sym p.1))
  where
    behind_dc : (bins : List (Slot × Bool)) (y : Mb) → Spells (luma_dc shape done at x) bins y → AreSized y × (y.luma ≡ x.luma) × (y.chroma_dc ≡ x.chroma_dc) × (y.chroma_ac ≡ x.chroma_ac)
    behind_dc bins y h =
        let kept = luma_dc-kept shape done at x bins y sizes h in
        (kept.0, ap (λ (m : Mb). m.luma) (sym kept.1), ap (λ (m : Mb). m.chroma_dc) (sym kept.1), ap (λ (m : Mb). m.chroma_ac) (sym kept.1))

    behind_luma : (bins : List (Slot × Bool)) (y : Mb) → Spells (luma_dc shape done at x >>= each 4 (quarter shape done at) 0) bins y → AreSized y × (y.chroma_dc ≡ x.chroma_dc) × (y.chroma_ac ≡ x.chroma_ac)
    behind_luma bins y h =
        let parts = splits (luma_dc shape done at x) (each 4 (quarter shape done at) 0) bins y h in
        let before = behind_dc parts.1 parts.0 parts.4 in
        let kept = quarters-kept shape done at parts.0 parts.2 y before.0 parts.5 in
        (kept.0, ap (λ (m : Mb). m.chroma_dc) (sym kept.1) ∙ before.2, ap (λ (m : Mb). m.chroma_ac) (sym kept.1) ∙ before.3)

    behind_chroma_dc : (bins : List (Slot × Bool)) (y : Mb) → Spells (luma_dc shape done at x >>= each 4 (quarter shape done at) 0 >>= each 2 (chroma_dc shape done at) 0) bins y → AreSized y × (y.chroma_ac ≡ x.chroma_ac)
    behind_chroma_dc bins y h =
        let parts = splits (luma_dc shape done at x >>= each 4 (quarter shape done at) 0) (each 2 (chroma_dc shape done at) 0) bins y h in
        let before = behind_luma parts.1 parts.0 parts.4 in
        let kept = chroma_dcs-kept shape done at parts.0 parts.2 y before.0 parts.5 in
        (kept.0, ap (λ (m : Mb). m.chroma_ac) (sym kept.1) ∙ before.2)
