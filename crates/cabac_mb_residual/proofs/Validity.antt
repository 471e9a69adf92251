-- What the bins of a residual spell is in range.
use Rattle.std.proofs.Common.{◌≡◌, ℕ, zero, suc, ◌+◌, ◌-◌, ◌*◌, ◌/◌, ◌%◌, ◌<◌, ◌≤◌, eqb, ltb, cond, Bool, true, false, inl, inr, ℤ, pos, unsigned_abs, List, [], ◌∷◌, ◌++◌, length, take, drop, replicate, get_or, set, refl, sym, ap, subst, ◌∙◌, arith}
use Rattle.std.specs.Prelude.{All}
use Rattle.std.specs.List.{AllByRecursion}
use Rattle.std.proofs.lemmas.Bool.{false≢true}
use Rattle.std.proofs.lemmas.Bool.Decides.{nat_tests}
use Rattle.std.proofs.lemmas.List.{get_or-take, get_or-drop, get_or-replicate, get_or_append_left, get_or-append-add, get_or-set_same, get_or-set_other}
use Rattle.std.proofs.lemmas.List.Elements.{All-set, All-take, All-drop, All-append, All-replicate, All-from_recursion, recursion_from_All}
use Rattle.cabac_engine.specs.Bins.{Slot}
use Rattle.h264_types.specs.Kind.{is_i_16x16}
use Rattle.h264_types.specs.Macroblock.{pattern_of, quarter_of, block_of, with_block}
use Rattle.h264_types.specs.Sizes.{HasSizes}
use Rattle.h264_types.specs.Valid.{IsWithin, dc_bound, luma_bound, last_luma_bound, chroma_dc_bound, chroma_ac_bound}
use Rattle.h264_types.specs.declared.macroblock.Mb.{Mb}
use Rattle.h264_types.specs.declared.slice_shape.SliceShape.{SliceShape}
use Rattle.h264_types.proofs.Zeros.{zeros_within}
use Rattle.binarisation.specs.BinString.{Spells, ◌>>=◌}
use Rattle.binarisation.proofs.OneString.{splits}
use Rattle.cabac_contexts.specs.Terms.{has_luma}
use Rattle.cabac_residual.specs.Block.{AreLevels}
use Rattle.binarisation.specs.Each.{each}
use Rattle.cabac_mb_residual.specs.MacroblockResidual.{luma_dc, luma_cat, luma_max, filled, luma4, quarter, chroma_dc, chroma_block, chroma_ac, residual, with_quarter}
use Rattle.cabac_mb_residual.specs.Levels.{IsResidual, without_levels}
use Rattle.cabac_residual.proofs.BlockLevels.{AreOf, NotZeros}
use Rattle.binarisation.proofs.Each.{each_keeps}
use Rattle.cabac_mb_residual.proofs.Lists.{chroma_ac-none, chroma_ac-blocks}
use Rattle.cabac_mb_residual.proofs.SoFar.{near}
use Rattle.cabac_mb_residual.proofs.Spelled.{AreSized, sized-none, size_of-quarter, own_block, other_block, luma4-spelled, chroma_block-spelled, luma_dc-spelled, chroma_dc-spelled, SpellsQuarter, NoQuarter, Eight, Blocks, quarter-spelled}
use Rattle.cabac_mb_residual.proofs.OneString.{filled-sixteen, luma4-sized, quarter-sized, quarter-made, quarters-kept, chroma_dcs-kept, chroma_block-sized, chroma_acs-kept, luma_dc-kept}

within : (levels : List ℤ) (bound : ℕ) → bound ≡ 65535 → AreLevels levels → IsWithin bound levels
within levels bound e small = λ k d h. let least = All-from_recursion (λ level. unsigned_abs level ≤ 65535) levels small k d h in omega (arith, least, e)

-- ---- luma

record IsCoded (bound last : ℕ) (levels : List ℤ) : Type 0 where
  all : IsWithin bound levels
  lasts : (k : ℕ) → k < 4 → unsigned_abs (get_or (block_of levels k) 15 (pos 0)) ≤ last

last_of : (levels : List ℤ) (k : ℕ) → get_or (block_of levels k) 15 (pos 0) ≡ get_or levels (16 * k + 15) (pos 0)
last_of levels k = get_or-take 16 (drop (16 * k) levels) 15 (pos 0) (omega arith) ∙ get_or-drop (16 * k) levels 15 (pos 0)

-- the levels of the quarters are in range, and of those before k there are some
record IsLuma (k : ℕ) (mb : Mb) : Type 0 where
  sized : AreSized mb
  plain : mb.t8 ≡ true → is_i_16x16 mb.kind ≡ false
  coded : (q : ℕ) → q < 4 → IsCoded (luma_bound mb q) (last_luma_bound mb) (quarter_of mb q)
  some : (q : ℕ) → q < k → mb.t8 ≡ true → has_luma mb q ≡ true → NotZeros (quarter_of mb q)

luma-put : (w v : Mb) (k : ℕ) (levels : List ℤ) → IsLuma k w → AreSized v → k < 4 → with_quarter k w levels ≡ v → IsCoded (luma_bound w k) (last_luma_bound w) levels → (w.t8 ≡ true → has_luma w k ≡ true → NotZeros levels) → IsLuma (k + 1) v
luma-put w v k levels luma sized h e coded some = record {
  sized = sized;
  plain = subst (λ (m : Mb). m.t8 ≡ true → is_i_16x16 m.kind ≡ false) e luma.plain;
  coded = λ q i. subst (λ (m : Mb). IsCoded (luma_bound m q) (last_luma_bound m) (quarter_of m q)) e (elim (near q k) [
    | inl same ↦ subst (λ r. IsCoded (luma_bound w r) (last_luma_bound w) (get_or (set w.luma k levels) r [])) (sym same) (subst (IsCoded (luma_bound w k) (last_luma_bound w)) (sym own) coded)
    | inr other ↦ subst (IsCoded (luma_bound w q) (last_luma_bound w)) (sym (get_or-set_other w.luma k q levels [] other)) (luma.coded q i)
  ]);
  some = λ q i. subst (λ (m : Mb). m.t8 ≡ true → has_luma m q ≡ true → NotZeros (quarter_of m q)) e (elim (near q k) [
    | inl same ↦ subst (λ r. w.t8 ≡ true → has_luma w r ≡ true → NotZeros (get_or (set w.luma k levels) r [])) (sym same) (λ t8 has. subst NotZeros (sym own) (some t8 has))
    | inr other ↦ λ t8 has. subst NotZeros (sym (get_or-set_other w.luma k q levels [] other)) (luma.some q (omega arith) t8 has)
  ]);
}
  where
    own : get_or (set w.luma k levels) k [] ≡ levels
    own = get_or-set_same w.luma k levels [] (omega (arith, luma.sized.four))

coded_eight : (w : Mb) (k : ℕ) (levels : List ℤ) → has_luma w k ≡ true → is_i_16x16 w.kind ≡ false → length levels ≡ 64 → AreLevels levels → IsCoded (luma_bound w k) (last_luma_bound w) levels
coded_eight w k levels has plain size small =
    let greatest : luma_bound w k ≡ 65535 = ap (λ b. cond b 65535 0) has in
    let last : last_luma_bound w ≡ 65535 = ap (λ b. cond b 0 65535) plain in
    record {
      all = within levels (luma_bound w k) greatest small;
      lasts = λ j h. let level = within levels 65535 refl small (16 * j + 15) (pos 0) (omega (arith, size)) in omega (arith, ap unsigned_abs (last_of levels j), level, last);
    }

-- the last place of a block is 0 where its list has 15 levels
filled-last : (w : Mb) (levels : List ℤ) → AreOf (luma_cat w.kind) (luma_max w.kind) levels → unsigned_abs (get_or (filled levels) 15 (pos 0)) ≤ last_luma_bound w
filled-last w levels are = by (is_i_16x16 w.kind) are.size
  where
    by : (test : Bool) → length levels ≡ cond test 15 16 → unsigned_abs (get_or (filled levels) 15 (pos 0)) ≤ cond test 0 65535
    by true e =
        let place : 15 ≡ length levels + 0 = omega (arith, e) in
        let zeros : replicate (16 - length levels) (pos 0) ≡ pos 0 ∷ [] = ap (λ n. replicate (16 - n) (pos 0)) e in
        let zero : get_or (filled levels) 15 (pos 0) ≡ pos 0 =
        ap (λ n. get_or (filled levels) n (pos 0)) place ∙ get_or-append-add levels (replicate (16 - length levels) (pos 0)) 0 (pos 0) ∙ ap (λ (l : List ℤ). get_or l 0 (pos 0)) zeros in
        omega (arith, ap unsigned_abs zero)
    by false e =
        let level = within levels 65535 refl are.small 15 (pos 0) (omega (arith, e)) in
        omega (arith, ap unsigned_abs (get_or_append_left levels (replicate (16 - length levels) (pos 0)) (pos 0) 15 (omega (arith, e))), level)

filled-within : (w : Mb) (levels : List ℤ) → AreOf (luma_cat w.kind) (luma_max w.kind) levels → IsWithin 65535 (filled levels)
filled-within w levels are = All-append (λ value. unsigned_abs value ≤ 65535) levels (replicate (16 - length levels) (pos 0)) (within levels 65535 refl are.small) (zeros_within 65535 (16 - length levels))

coded_block : (levels block : List ℤ) (k last : ℕ) → k < 4 → length levels ≡ 64 → length block ≡ 16 → IsCoded 65535 last levels → IsWithin 65535 block → unsigned_abs (get_or block 15 (pos 0)) ≤ last → IsCoded 65535 last (with_block levels k block)
coded_block levels block k last h e f coded small own = record {
  all = All-append (λ value. unsigned_abs value ≤ 65535) (take (16 * k) levels ++ block) (drop (16 * k + 16) levels)
      (All-append (λ value. unsigned_abs value ≤ 65535) (take (16 * k) levels) block (All-take (λ value. unsigned_abs value ≤ 65535) (16 * k) levels coded.all) small)
      (All-drop (λ value. unsigned_abs value ≤ 65535) (16 * k + 16) levels coded.all);
  lasts = λ j i. elim (near j k) [
    | inl same ↦ subst (λ r. unsigned_abs (get_or (block_of (with_block levels k block) r) 15 (pos 0)) ≤ last) (sym same) (subst (λ (l : List ℤ). unsigned_abs (get_or l 15 (pos 0)) ≤ last) (sym (own_block levels block k e f h)) own)
    | inr other ↦ subst (λ (l : List ℤ). unsigned_abs (get_or l 15 (pos 0)) ≤ last) (sym (other_block levels block k j e f h i other)) (coded.lasts j i)
  ];
}

coded_blocks : (shape : SliceShape) (done : List Mb) (at q : ℕ) (x : Mb) (bins : List (Slot × Bool)) (y : Mb) → q < 4 → AreSized x → IsCoded 65535 (last_luma_bound x) (quarter_of x q) → Spells (each 4 (luma4 shape done at) (4 * q) x) bins y
    → AreSized y × IsCoded 65535 (last_luma_bound y) (quarter_of y q)
coded_blocks shape done at q x bins y h sized coded g =
    each_keeps (luma4 shape done at) (λ k w. AreSized w × IsCoded 65535 (last_luma_bound w) (quarter_of w q)) (4 * q) (4 * q + 4) step 4 (4 * q) x bins y (omega arith) (omega arith) (sized, coded) g
  where
    step : (k : ℕ) (w : Mb) (bins : List (Slot × Bool)) (v : Mb) → 4 * q ≤ k → k < 4 * q + 4 → AreSized w × IsCoded 65535 (last_luma_bound w) (quarter_of w q) → Spells (luma4 shape done at k w) bins v
        → AreSized v × IsCoded 65535 (last_luma_bound v) (quarter_of v q)
    step k w bins v low high kept g =
        let s = luma4-spelled shape done at k w bins v g in
        let own : q ≡ k / 4 = omega arith in
        let block : List ℤ = with_block (quarter_of w q) (k % 4) (filled s.0) in
        let made : with_quarter q w block ≡ v = ap (λ r. with_quarter r w (with_block (quarter_of w r) (k % 4) (filled s.0))) own ∙ s.2 in
        let new = coded_block (quarter_of w q) (filled s.0) (k % 4) (last_luma_bound w) (omega arith) (size_of-quarter w q kept.0 h) (filled-sixteen w s.0 s.1) kept.1 (filled-within w s.0 s.1) (filled-last w s.0 s.1) in (
          luma4-sized shape done at k w bins v (omega arith) kept.0 g,
          subst (λ (m : Mb). IsCoded 65535 (last_luma_bound m) (quarter_of m q)) made (subst (IsCoded 65535 (last_luma_bound w)) (sym (get_or-set_same w.luma q block [] (omega (arith, kept.0.four)))) new),
        )

luma-step : (shape : SliceShape) (done : List Mb) (at k : ℕ) (w : Mb) (bins : List (Slot × Bool)) (v : Mb) → k < 4 → IsLuma k w → Spells (quarter shape done at k w) bins v → IsLuma (k + 1) v
luma-step shape done at k w bins v h luma g = by (quarter-spelled shape done at k w bins v g)
  where
    sized : AreSized v
    sized = quarter-sized shape done at k w bins v h luma.sized g

    by : SpellsQuarter shape done at k w bins v → IsLuma (k + 1) v
    by (NoQuarter e same) =
        luma-put w v k (quarter_of v k) luma sized h (quarter-made shape done at k w bins v h luma.sized g)
        (subst (λ (m : Mb). IsCoded (luma_bound w k) (last_luma_bound w) (quarter_of m k)) same (luma.coded k h)) (λ t8 has. absurd (false≢true (sym e ∙ has)))
    by (Eight e f s) = luma-put w v k s.0 luma sized h s.2 (coded_eight w k s.0 e (luma.plain f) s.1.size s.1.small) (λ t8 has. s.1.some refl)
    by (Blocks e f s) =
        let made = quarter-made shape done at k w bins v h luma.sized g in
        let greatest : luma_bound w k ≡ 65535 = ap (λ b. cond b 65535 0) e in
        let old : IsCoded 65535 (last_luma_bound w) (quarter_of w k) = subst (λ b. IsCoded b (last_luma_bound w) (quarter_of w k)) greatest (luma.coded k h) in
        let new = (coded_blocks shape done at k w bins v h luma.sized old s).1 in
        let last : last_luma_bound v ≡ last_luma_bound w = ap last_luma_bound (sym made) in
        luma-put w v k (quarter_of v k) luma sized h made
        (subst (λ b. IsCoded b (last_luma_bound w) (quarter_of v k)) (sym greatest) (subst (λ b. IsCoded 65535 b (quarter_of v k)) last new))
        (λ t8 has. absurd (false≢true (sym f ∙ t8)))

luma-end : (shape : SliceShape) (done : List Mb) (at : ℕ) (x : Mb) (bins : List (Slot × Bool)) (y : Mb) → IsLuma 0 x → Spells (each 4 (quarter shape done at) 0 x) bins y → IsLuma 4 y
luma-end shape done at x bins y luma g = each_keeps (quarter shape done at) IsLuma 0 4 (λ k w bins v low high luma g. luma-step shape done at k w bins v high luma g) 4 0 x bins y (omega arith) (omega arith) luma g

-- ---- chroma

HasDc : Mb → Type 0
HasDc mb = All (IsWithin (chroma_dc_bound mb)) mb.chroma_dc

dc-end : (shape : SliceShape) (done : List Mb) (at : ℕ) (x : Mb) (bins : List (Slot × Bool)) (y : Mb) → HasDc x → Spells (each 2 (chroma_dc shape done at) 0 x) bins y → HasDc y
unfolding HasDc
dc-end shape done at x bins y dc g = each_keeps (chroma_dc shape done at) (λ k w. HasDc w) 0 2 step 2 0 x bins y (omega arith) (omega arith) dc g
  where
    some : (n : ℕ) → eqb n 0 ≡ false → ◌≡◌ {A = ℕ} (cond (ltb 0 n) 65535 0) 65535
    some zero e = absurd (false≢true (sym e))
    some (suc n) e = let more : ltb 0 (suc n) ≡ true = grind (arith, nat_tests) in ap (λ b. cond b 65535 0) more

    step : (k : ℕ) (w : Mb) (bins : List (Slot × Bool)) (v : Mb) → 0 ≤ k → k < 2 → HasDc w → Spells (chroma_dc shape done at k w) bins v → HasDc v
    step k w bins v low high dc g =
        elim (chroma_dc-spelled shape done at k w bins v g) [
          | inl none ↦ subst HasDc none.1 dc
          | inr more ↦ subst HasDc more.1.2 (All-set (IsWithin (chroma_dc_bound w)) w.chroma_dc k more.1.0 (within more.1.0 (chroma_dc_bound w) (some (pattern_of w).chroma more.0) more.1.1.small) dc)
        ]

HasAc : Mb → Type 0
HasAc mb = All (All (IsWithin (chroma_ac_bound mb))) mb.chroma_ac

ac-step : (shape : SliceShape) (done : List Mb) (at comp : ℕ) (x : Mb) (bins : List (Slot × Bool)) (y : Mb) → comp < 2 → AreSized x → HasAc x → Spells (chroma_ac shape done at comp x) bins y → AreSized y × HasAc y
unfolding HasAc
ac-step shape done at comp x bins y h sized ac g = by (eqb (pattern_of x).chroma 2) refl
  where
    step : (k : ℕ) (w : Mb) (bins : List (Slot × Bool)) (v : Mb) → 0 ≤ k → k < 4 → AreSized w × HasAc w × (chroma_ac_bound w ≡ 65535) → Spells (chroma_block shape done at comp k w) bins v → AreSized v × HasAc v × (chroma_ac_bound v ≡ 65535)
    step k w bins v low high kept g =
        let s = chroma_block-spelled shape done at comp k w bins v g in
        let old = kept.1 comp [] (omega (arith, kept.0.both)) in
        let blocks = All-set (IsWithin (chroma_ac_bound w)) (get_or w.chroma_ac comp []) k s.0 (within s.0 (chroma_ac_bound w) kept.2 s.1.small) old in
        let all = All-set (All (IsWithin (chroma_ac_bound w))) w.chroma_ac comp (set (get_or w.chroma_ac comp []) k s.0) blocks kept.1 in
        (chroma_block-sized shape done at comp k w bins v h kept.0 g, subst (λ (m : Mb). All (All (IsWithin (chroma_ac_bound m))) m.chroma_ac) s.2 all, subst (λ (m : Mb). chroma_ac_bound m ≡ 65535) s.2 kept.2)

    by : (some : Bool) → eqb (pattern_of x).chroma 2 ≡ some → AreSized y × HasAc y
    by false e = let k = rw (chroma_ac-none shape done at comp x e) at g in (subst AreSized k.1 sized, subst HasAc k.1 ac)
    by true e =
        let end = each_keeps (chroma_block shape done at comp) (λ k w. AreSized w × HasAc w × (chroma_ac_bound w ≡ 65535)) 0 4 step 4 0 x bins y (omega arith) (omega arith) (sized, ac, ap (λ b. cond b 65535 0) e) (rw (chroma_ac-blocks shape done at comp x e) at g) in
        (end.0, end.1)

ac-end : (shape : SliceShape) (done : List Mb) (at : ℕ) (x : Mb) (bins : List (Slot × Bool)) (y : Mb) → AreSized x → HasAc x → Spells (each 2 (chroma_ac shape done at) 0 x) bins y → AreSized y × HasAc y
ac-end shape done at x bins y sized ac g =
    each_keeps (chroma_ac shape done at) (λ k w. AreSized w × HasAc w) 0 2 (λ k w bins v low high kept g. ac-step shape done at k w bins v high kept.0 kept.1 g) 2 0 x bins y (omega arith) (omega arith) (sized, ac) g

-- ---- luma DC

HasLumaDc : Mb → Type 0
HasLumaDc mb = IsWithin (dc_bound mb.kind) mb.dc

luma_dc-end : (shape : SliceShape) (done : List Mb) (at : ℕ) (x : Mb) (bins : List (Slot × Bool)) (y : Mb) → HasLumaDc x → Spells (luma_dc shape done at x) bins y → HasLumaDc y
unfolding HasLumaDc
luma_dc-end shape done at x bins y dc g =
    elim (luma_dc-spelled shape done at x bins y g) [
      | inl none ↦ subst HasLumaDc none.1 dc
      | inr some ↦ subst HasLumaDc some.1.2 (within some.1.0 (dc_bound x.kind) (ap (λ b. cond b 65535 0) some.0) some.1.1.small)
    ]

-- ---- residual

-- the lists of levels, and those of another macroblock that is the same but for its levels
sizes_of : (mb m : Mb) → HasSizes mb → without_levels m ≡ without_levels mb → AreSized m → HasSizes m
sizes_of mb m sizes same sized =
    let others : HasSizes (without_levels mb) = record {
      modes = sizes.modes;
      subs = sizes.subs;
      refs = sizes.refs;
      mvd = sizes.mvd;
      dc = refl;
      luma = (refl, (refl, (refl, (refl, (refl, tt)))));
      chroma_dc = (refl, (refl, (refl, tt)));
      chroma_ac = (refl, ((refl, (refl, (refl, (refl, (refl, tt))))), ((refl, (refl, (refl, (refl, (refl, tt))))), tt)));
      pcm = sizes.pcm;
    } in
    let old : HasSizes (without_levels m) = subst HasSizes (sym same) others in
    record {
      modes = old.modes;
      subs = old.subs;
      refs = old.refs;
      mvd = old.mvd;
      dc = sized.dc;
      luma = (sized.four, recursion_from_All (λ levels. length levels ≡ 64) m.luma sized.quarters);
      chroma_dc = (sized.two, recursion_from_All (λ levels. length levels ≡ 4) m.chroma_dc sized.dcs);
      chroma_ac = (
        sized.both,
        recursion_from_All (λ (blocks : List (List ℤ)). (length blocks ≡ 4) × AllByRecursion (λ block. length block ≡ 15) blocks) m.chroma_ac (λ k d h.
            let blocks = sized.blocks k d h in (blocks.0, recursion_from_All (λ block. length block ≡ 15) (get_or m.chroma_ac k d) blocks.1)),
      );
      pcm = old.pcm;
    }

zeros_coded : (bound last : ℕ) (levels : List ℤ) → levels ≡ replicate 64 (pos 0) → IsCoded bound last levels
zeros_coded bound last levels e = record {
  all = subst (IsWithin bound) (sym e) (zeros_within bound 64);
  lasts = λ k h. let zero : get_or (block_of levels k) 15 (pos 0) ≡ pos 0 = last_of levels k ∙ ap (λ (l : List ℤ). get_or l (16 * k + 15) (pos 0)) e ∙ get_or-replicate 64 (16 * k + 15) (pos 0) (pos 0) (omega arith) in omega (arith, ap unsigned_abs zero);
}

-- behind the luma DC levels the quarters are 0
luma-start : (mb b : Mb) → (mb.t8 ≡ true → is_i_16x16 mb.kind ≡ false) → AreSized b → record (without_levels mb) { dc = b.dc } ≡ b → IsLuma 0 b
luma-start mb b plain sized e = subst (IsLuma 0) e (record {
  sized = subst AreSized (sym e) sized;
  plain = plain;
  coded = λ q i. zeros_coded (luma_bound mb q) (last_luma_bound mb) (quarter_of (without_levels mb) q) (get_or-replicate 4 q (replicate 64 (pos 0)) [] i);
  some = λ q i. absurd (omega arith);
})

-- the levels of each part stay where those of the later parts are new
valid_of : (m b c d : Mb) → HasLumaDc b → IsLuma 4 c → HasDc d → AreSized m → HasAc m → record b { luma = c.luma } ≡ c → record c { chroma_dc = d.chroma_dc } ≡ d → record d { chroma_ac = m.chroma_ac } ≡ m → IsResidual m
unfolding HasDc HasAc HasLumaDc
valid_of m b c d first luma second sized third luma_new dc_new ac_new =
    let luma_dc : HasLumaDc m = subst HasLumaDc ac_new (subst HasLumaDc dc_new (subst HasLumaDc luma_new first)) in
    let dc : HasDc m = subst HasDc ac_new second in
    let LumaOf : Mb → Type 0 = λ w. (q : ℕ) → q < 4 → IsCoded (luma_bound w q) (last_luma_bound w) (quarter_of w q) in
    let coded : LumaOf m = subst LumaOf ac_new (subst LumaOf dc_new luma.coded) in
    let SomeOf : Mb → Type 0 = λ w. (q : ℕ) → q < 4 → w.t8 ≡ true → has_luma w q ≡ true → NotZeros (quarter_of w q) in
    let some : SomeOf m = subst SomeOf ac_new (subst SomeOf dc_new luma.some) in
    record {
      luma = record { dc = luma_dc; quarters = λ q i. record { levels = (coded q i).all; last = λ k j. let last = (coded q i).lasts k j in omega (arith, ap unsigned_abs (last_of (quarter_of m q) k), last) } };
      chroma = record { dc = dc; cb_ac = third 0 [] (omega (arith, sized.both)); cr_ac = third 1 [] (omega (arith, sized.both)) };
      some = λ q i t8 has zeros. some q i t8 has 64 zeros;
    }

parts_valid : (shape : SliceShape) (done : List Mb) (at : ℕ) (mb b c d m : Mb) (bins others more last : List (Slot × Bool)) → HasSizes mb → (mb.t8 ≡ true → is_i_16x16 mb.kind ≡ false)
    → Spells (luma_dc shape done at (without_levels mb)) bins b → Spells (each 4 (quarter shape done at) 0 b) others c → Spells (each 2 (chroma_dc shape done at) 0 c) more d → Spells (each 2 (chroma_ac shape done at) 0 d) last m
    → IsResidual m × HasSizes m × (without_levels m ≡ without_levels mb)
unfolding HasDc HasAc HasLumaDc
parts_valid shape done at mb b c d m bins others more last sizes plain f g h k =
    let x : Mb = without_levels mb in
    let first = luma_dc-kept shape done at x bins b (sized-none mb) f in
    let second = quarters-kept shape done at b others c first.0 g in
    let third = chroma_dcs-kept shape done at c more d second.0 h in
    let fourth = chroma_acs-kept shape done at d last m third.0 k in
    let luma_dc = luma_dc-end shape done at x bins b (zeros_within (dc_bound mb.kind) 16) f in
    let luma = luma-end shape done at b others c (luma-start mb b plain first.0 first.1) g in
    let no_dc : HasDc x = All-replicate (IsWithin (chroma_dc_bound mb)) 2 (replicate 4 (pos 0)) (zeros_within (chroma_dc_bound mb) 4) in
    let dc = dc-end shape done at c more d (subst HasDc second.1 (subst HasDc first.1 no_dc)) h in
    let no_ac : HasAc x = All-replicate (All (IsWithin (chroma_ac_bound mb))) 2 (replicate 4 (replicate 15 (pos 0))) (All-replicate (IsWithin (chroma_ac_bound mb)) 4 (replicate 15 (pos 0)) (zeros_within (chroma_ac_bound mb) 15)) in
    let ac = ac-end shape done at d last m third.0 (subst HasAc third.1 (subst HasAc second.1 (subst HasAc first.1 no_ac))) k in
    let same : without_levels m ≡ without_levels mb = ap without_levels (sym fourth.1) ∙ ap without_levels (sym third.1) ∙ ap without_levels (sym second.1) ∙ ap without_levels (sym first.1) in
    (valid_of m b c d luma_dc luma dc fourth.0 ac.1 second.1 third.1 fourth.1, sizes_of mb m sizes same fourth.0, same)

pub spelled_is_valid : (shape : SliceShape) (done : List Mb) (at : ℕ) (mb : Mb) (bins : List (Slot × Bool)) (m : Mb) → HasSizes mb → (mb.t8 ≡ true → is_i_16x16 mb.kind ≡ false)
    → Spells (residual shape done at (without_levels mb)) bins m → IsResidual m × HasSizes m × (without_levels m ≡ without_levels mb)
unfolding residual
spelled_is_valid shape done at mb bins m sizes plain h =
    let d = splits (luma_dc shape done at (without_levels mb) >>= each 4 (quarter shape done at) 0 >>= each 2 (chroma_dc shape done at) 0) (each 2 (chroma_ac shape done at) 0) bins m h in
    let c = splits (luma_dc shape done at (without_levels mb) >>= each 4 (quarter shape done at) 0) (each 2 (chroma_dc shape done at) 0) d.1 d.0 d.4 in
    let b = splits (luma_dc shape done at (without_levels mb)) (each 4 (quarter shape done at) 0) c.1 c.0 c.4 in
    parts_valid shape done at mb b.0 c.0 d.0 m b.1 b.2 c.2 d.2 sizes plain b.4 b.5 c.5 d.5
