-- One list of levels that is written from a macroblock.
use Rattle.std.proofs.Common.{◌≡◌, ℕ, zero, suc, ◌+◌, ◌-◌, ◌*◌, ◌/◌, ◌%◌, ◌<◌, ◌≤◌, eqb, ltb, cond, Bool, true, false, ℤ, pos, unsigned_abs, List, [], ◌∷◌, ◌++◌, length, take, drop, replicate, get_or, refl, sym, ap, ◌∙◌, lit≤, arith}
use Rattle.std.proofs.lemmas.List.{take_all, append-nil, length-take-le, length-drop, take_more, get_or-take, get_or-drop}
use Rattle.std.proofs.lemmas.List.Elements.{recursion_from_All, All-take, All-drop}
use Rattle.cabac_engine.specs.Bins.{Slot}
use Rattle.h264_types.specs.Kind.{is_i_16x16, is_intra}
use Rattle.h264_types.specs.Macroblock.{pattern_of, quarter_of, luma_block}
use Rattle.h264_types.specs.Sizes.{HasSizes}
use Rattle.h264_types.specs.Slice.{IsInPicture}
use Rattle.h264_types.specs.Valid.{IsWithin, dc_bound, luma_bound, chroma_dc_bound, chroma_ac_bound}
use Rattle.h264_types.specs.declared.macroblock.Mb.{Mb}
use Rattle.h264_types.specs.declared.slice_shape.SliceShape.{SliceShape}
use Rattle.h264_types.proofs.Zeros.{zero_of, zero_levels}
use Rattle.mb_neighbours.specs.declared.place.At.TheVariants.{Luma4}
use Rattle.binarisation.specs.BinString.{BinString, Value, Writes, ◌>>=◌}
use Rattle.binarisation.proofs.Strings.{writes_then}
use Rattle.cabac_contexts.specs.declared.term.Term.TheVariants.{LumaFlag}
use Rattle.cabac_contexts.specs.Increments.{coded_block, weighted_of, flag_of, place_of}
use Rattle.cabac_contexts.specs.Terms.{has_luma, chroma_dc_of, chroma_ac_of}
use Rattle.cabac_residual.specs.Block.{block, AreLevels}
use Rattle.binarisation.specs.Each.{each}
use Rattle.cabac_mb_residual.specs.MacroblockResidual.{is_field, list, luma_dc, luma_cat, luma_max, filled, luma4, quarter, chroma_dc, chroma_block, chroma_ac, residual, with_luma4, with_quarter, with_chroma_dc, with_chroma_block}
use Rattle.cabac_mb_residual.specs.Levels.{IsResidual, so_far, without_levels}
use Rattle.cabac_mb_residual.proofs.Flags.{dc_flag, luma_flag, chroma_dc_flag, chroma_ac_flag}
use Rattle.cabac_mb_residual.proofs.Lists.{luma_dc-some, luma_dc-none, quarter-eight, quarter-none, quarter-blocks, chroma_dc-some, chroma_dc-none, chroma_ac-none, chroma_ac-blocks}
use Rattle.cabac_mb_residual.proofs.SoFar.{so_far-none, so_far-all, so_far-dc, so_far-no_dc, so_far-luma4, so_far-quarter, so_far-no_quarter, so_far-chroma_dc, so_far-no_chroma_dc, so_far-chroma_block, so_far-no_chroma_ac, quarter_size, chroma_dc_size, chroma_ac_sizes, chroma_ac_size}

-- ---- ranges

small : (bound : ℕ) (levels : List ℤ) → bound ≤ 65535 → IsWithin bound levels → AreLevels levels
small bound levels b h = recursion_from_All (λ level. unsigned_abs level ≤ 65535) levels (λ k d below. omega (arith, h k d below))

greatest : (test : Bool) → cond test 65535 0 ≤ 65535
greatest true = lit≤ tt
greatest false = lit≤ tt

pub small_dc : (mb : Mb) → IsResidual mb → AreLevels mb.dc
small_dc mb is = small (dc_bound mb.kind) mb.dc (greatest (is_i_16x16 mb.kind)) is.luma.dc

pub small_quarter : (mb : Mb) (q : ℕ) → q < 4 → IsResidual mb → AreLevels (quarter_of mb q)
small_quarter mb q h is = small (luma_bound mb q) (quarter_of mb q) (greatest (has_luma mb q)) (is.luma.quarters q h).levels

pub small_block : (mb : Mb) (n k : ℕ) → n < 16 → IsResidual mb → AreLevels (take k (luma_block mb n))
small_block mb n k h is =
    let within : IsWithin (luma_bound mb (n / 4)) (quarter_of mb (n / 4)) = (is.luma.quarters (n / 4) (omega arith)).levels in
    let rest = All-drop (λ level. unsigned_abs level ≤ luma_bound mb (n / 4)) (16 * (n % 4)) (quarter_of mb (n / 4)) within in
    let block = All-take (λ level. unsigned_abs level ≤ luma_bound mb (n / 4)) 16 (drop (16 * (n % 4)) (quarter_of mb (n / 4))) rest in
    small (luma_bound mb (n / 4)) (take k (luma_block mb n)) (greatest (has_luma mb (n / 4))) (All-take (λ level. unsigned_abs level ≤ luma_bound mb (n / 4)) k (luma_block mb n) block)

pub small_chroma_dc : (mb : Mb) (comp : ℕ) → comp < 2 → HasSizes mb → IsResidual mb → AreLevels (chroma_dc_of mb comp)
small_chroma_dc mb comp h sizes is = small (chroma_dc_bound mb) (chroma_dc_of mb comp) (greatest (ltb 0 (pattern_of mb).chroma)) (is.chroma.dc comp [] (omega (arith, sizes.chroma_dc.0)))

ac_within : (mb : Mb) (comp n : ℕ) → comp < 2 → n < 4 → HasSizes mb → IsResidual mb → IsWithin (chroma_ac_bound mb) (chroma_ac_of mb comp n)
ac_within mb zero n h i sizes is = is.chroma.cb_ac n [] (omega (arith, (chroma_ac_sizes mb 0 sizes h).0))
ac_within mb (suc zero) n h i sizes is = is.chroma.cr_ac n [] (omega (arith, (chroma_ac_sizes mb 1 sizes h).0))
ac_within mb (suc (suc comp)) n h i sizes is = absurd (omega arith)

pub small_chroma_ac : (mb : Mb) (comp n : ℕ) → comp < 2 → n < 4 → HasSizes mb → IsResidual mb → AreLevels (chroma_ac_of mb comp n)
small_chroma_ac mb comp n h i sizes is = small (chroma_ac_bound mb) (chroma_ac_of mb comp n) (greatest (eqb (pattern_of mb).chroma 2)) (ac_within mb comp n h i sizes is)

-- ---- a 4x4 luma block

luma_block_size : (mb : Mb) (n : ℕ) → HasSizes mb → n < 16 → length (luma_block mb n) ≡ 16
luma_block_size mb n sizes h =
    let quarter = quarter_size mb (n / 4) sizes (omega arith) in
    let rest = length-drop (16 * (n % 4)) (quarter_of mb (n / 4)) in
    length-take-le 16 (drop (16 * (n % 4)) (quarter_of mb (n / 4))) (omega (arith, quarter, rest))

pub filled_block : (mb : Mb) (n : ℕ) → HasSizes mb → IsResidual mb → n < 16 → filled (take (luma_max mb.kind) (luma_block mb n)) ≡ luma_block mb n
filled_block mb n sizes is h = by (is_i_16x16 mb.kind) refl
  where
    size : length (luma_block mb n) ≡ 16
    size = luma_block_size mb n sizes h

    last : is_i_16x16 mb.kind ≡ true → get_or (luma_block mb n) 15 (pos 0) ≡ pos 0
    last e =
        let low : unsigned_abs (get_or (quarter_of mb (n / 4)) (16 * (n % 4) + 15) (pos 0)) ≤ cond (is_i_16x16 mb.kind) 0 65535 = (is.luma.quarters (n / 4) (omega arith)).last (n % 4) (omega arith) in
        get_or-take 16 (drop (16 * (n % 4)) (quarter_of mb (n / 4))) 15 (pos 0) (omega arith) ∙ get_or-drop (16 * (n % 4)) (quarter_of mb (n / 4)) 15 (pos 0) ∙ zero_of _ (rw e at low)

    by : (test : Bool) → is_i_16x16 mb.kind ≡ test → filled (take (cond test 15 16) (luma_block mb n)) ≡ luma_block mb n
    by true e =
        let front : length (take 15 (luma_block mb n)) ≡ 15 = length-take-le 15 (luma_block mb n) (omega (arith, size)) in
        ap (λ k. take 15 (luma_block mb n) ++ replicate (16 - k) (pos 0)) front
        ∙ ap (λ (v : ℤ). take 15 (luma_block mb n) ++ v ∷ []) (sym (last e))
        ∙ sym (take_more (luma_block mb n) 15 (pos 0) (omega (arith, size)))
        ∙ take_all 16 (luma_block mb n) (omega (arith, size))
    by false e =
        let all : take 16 (luma_block mb n) ≡ luma_block mb n = take_all 16 (luma_block mb n) (omega (arith, size)) in
        ap filled all ∙ ap (λ k. luma_block mb n ++ replicate (16 - k) (pos 0)) size ∙ append-nil (luma_block mb n)

luma_coded : (test missing : Bool) (shape : SliceShape) (done : List Mb) (at : ℕ) (field : Bool) (mb : Mb) (n : ℕ)
    → weighted_of missing (flag_of (cond test 1 2) 0) shape done at field mb (place_of (cond test 1 2) n) ≡ weighted_of missing LumaFlag shape done at field mb (Luma4 n)
luma_coded true missing shape done at field mb n = refl
luma_coded false missing shape done at field mb n = refl

-- ---- lists that are written

writes_put : {S : Type 0} (step : S → Slot → Bool → S → Type 0) (string : BinString (List ℤ)) (put : List ℤ → Mb) (levels : List ℤ) (new : Mb) (s t : S) → put levels ≡ new
    → Writes step string levels s t → Writes step (string >>= (λ levels. Value (put levels))) new s t
writes_put step string put levels new s t e written = writes_then step string (λ levels. Value (put levels)) levels new s t t written (e, refl)

pub writes_luma_dc : {S : Type 0} (step : S → Slot → Bool → S → Type 0) (shape : SliceShape) (done : List Mb) (at : ℕ) (mb : Mb) (inc max : ℕ) (field : Bool) (s t : S) → IsInPicture shape at → HasSizes mb
    → is_i_16x16 mb.kind ≡ true → inc ≡ coded_block shape done at mb.field mb 0 0 0 → field ≡ is_field shape mb → max ≡ 16
    → Writes step (block 0 field inc max) mb.dc s t → Writes step (luma_dc shape done at (so_far 0 0 0 0 mb)) (so_far 16 0 0 0 mb) s t
unfolding list so_far
writes_luma_dc step shape done at mb inc max field s t picture sizes e i f m written =
    let flag : inc ≡ coded_block shape done at mb.field (so_far 0 0 0 0 mb) 0 0 0 = i ∙ dc_flag shape done at mb.field mb picture in
    rw (luma_dc-some shape done at (so_far 0 0 0 0 mb) e)
    (writes_put step (block 0 (is_field shape mb) (coded_block shape done at mb.field (so_far 0 0 0 0 mb) 0 0 0) 16) (λ levels. record (so_far 0 0 0 0 mb) { dc = levels }) mb.dc (so_far 16 0 0 0 mb) s t (so_far-dc mb sizes) (rw (flag, f, m) at written))

pub writes_no_luma_dc : {S : Type 0} (step : S → Slot → Bool → S → Type 0) (shape : SliceShape) (done : List Mb) (at : ℕ) (mb : Mb) (s : S) → HasSizes mb → IsResidual mb
    → is_i_16x16 mb.kind ≡ false → Writes step (luma_dc shape done at (so_far 0 0 0 0 mb)) (so_far 16 0 0 0 mb) s s
unfolding so_far
writes_no_luma_dc step shape done at mb s sizes is e =
    let none : dc_bound mb.kind ≡ 0 = ap (λ b. cond b 65535 0) e in
    rw (luma_dc-none shape done at (so_far 0 0 0 0 mb) e) (so_far-no_dc mb (zero_levels 16 (dc_bound mb.kind) mb.dc none sizes.dc is.luma.dc), refl)

pub writes_luma4 : {S : Type 0} (step : S → Slot → Bool → S → Type 0) (shape : SliceShape) (done : List Mb) (at n : ℕ) (mb : Mb) (cat inc max : ℕ) (field : Bool) (levels : List ℤ) (s t : S) → IsInPicture shape at → HasSizes mb → IsResidual mb → n < 16
    → cat ≡ luma_cat mb.kind → inc ≡ coded_block shape done at mb.field mb cat 0 n → field ≡ is_field shape mb → max ≡ luma_max mb.kind → levels ≡ take (luma_max mb.kind) (luma_block mb n)
    → Writes step (block cat field inc max) levels s t → Writes step (luma4 shape done at n (so_far 16 (16 * n) 0 0 mb)) (so_far 16 (16 * (n + 1)) 0 0 mb) s t
unfolding luma4 list so_far
writes_luma4 step shape done at n mb cat inc max field levels s t picture sizes is h k i f m e written =
    let flag : inc ≡ coded_block shape done at mb.field (so_far 16 (16 * n) 0 0 mb) (luma_cat mb.kind) 0 n =
    i ∙ ap (λ c. coded_block shape done at mb.field mb c 0 n) k ∙ luma_coded (is_i_16x16 mb.kind) (is_intra mb.kind) shape done at mb.field mb n ∙ luma_flag shape done at mb.field mb n picture sizes h
    ∙ sym (luma_coded (is_i_16x16 mb.kind) (is_intra mb.kind) shape done at mb.field (so_far 16 (16 * n) 0 0 mb) n) in
    let whole : with_luma4 n (so_far 16 (16 * n) 0 0 mb) (filled levels) ≡ so_far 16 (16 * (n + 1)) 0 0 mb =
    ap (λ (l : List ℤ). with_luma4 n (so_far 16 (16 * n) 0 0 mb) (filled l)) e ∙ ap (with_luma4 n (so_far 16 (16 * n) 0 0 mb)) (filled_block mb n sizes is h) ∙ so_far-luma4 mb n sizes h in
    writes_put step (block (luma_cat mb.kind) (is_field shape mb) (coded_block shape done at mb.field (so_far 16 (16 * n) 0 0 mb) (luma_cat mb.kind) 0 n) (luma_max mb.kind)) (λ levels. with_luma4 n (so_far 16 (16 * n) 0 0 mb) (filled levels)) levels (so_far 16 (16 * (n + 1)) 0 0 mb) s t whole
    (rw (flag, f, m, k) at written)

pub writes_eight : {S : Type 0} (step : S → Slot → Bool → S → Type 0) (shape : SliceShape) (done : List Mb) (at q : ℕ) (mb : Mb) (max : ℕ) (has field : Bool) (levels : List ℤ) (s t : S) → HasSizes mb → q < 4
    → has ≡ true → has ≡ has_luma mb q → mb.t8 ≡ true → field ≡ is_field shape mb → max ≡ 64 → levels ≡ quarter_of mb q
    → Writes step (block 5 field 0 max) levels s t → Writes step (quarter shape done at q (so_far 16 (64 * q) 0 0 mb)) (so_far 16 (64 * (q + 1)) 0 0 mb) s t
unfolding so_far
writes_eight step shape done at q mb max has field levels s t sizes h b e w f m l written =
    rw (quarter-eight shape done at q (so_far 16 (64 * q) 0 0 mb) has b e w)
    (writes_put step (block 5 (is_field shape mb) 0 64) (λ levels. with_quarter q (so_far 16 (64 * q) 0 0 mb) levels) levels (so_far 16 (64 * (q + 1)) 0 0 mb) s t (ap (with_quarter q (so_far 16 (64 * q) 0 0 mb)) l ∙ so_far-quarter mb q sizes h) (rw (f, m) at written))

pub writes_no_quarter : {S : Type 0} (step : S → Slot → Bool → S → Type 0) (shape : SliceShape) (done : List Mb) (at q : ℕ) (mb : Mb) (has : Bool) (s : S) → HasSizes mb → IsResidual mb → q < 4
    → has ≡ false → has ≡ has_luma mb q → Writes step (quarter shape done at q (so_far 16 (64 * q) 0 0 mb)) (so_far 16 (64 * (q + 1)) 0 0 mb) s s
unfolding so_far
writes_no_quarter step shape done at q mb has s sizes is h b e =
    let none : luma_bound mb q ≡ 0 = ap (λ b. cond b 65535 0) (sym e ∙ b) in
    rw (quarter-none shape done at q (so_far 16 (64 * q) 0 0 mb) has b e)
    (so_far-no_quarter mb q sizes h (zero_levels 64 (luma_bound mb q) (quarter_of mb q) none (quarter_size mb q sizes h) (is.luma.quarters q h).levels), refl)

pub writes_blocks : {S : Type 0} (step : S → Slot → Bool → S → Type 0) (shape : SliceShape) (done : List Mb) (at q : ℕ) (mb : Mb) (has : Bool) (s t : S) → has ≡ true → has ≡ has_luma mb q → mb.t8 ≡ false
    → Writes step (each 4 (luma4 shape done at) (4 * q) (so_far 16 (64 * q) 0 0 mb)) (so_far 16 (64 * (q + 1)) 0 0 mb) s t → Writes step (quarter shape done at q (so_far 16 (64 * q) 0 0 mb)) (so_far 16 (64 * (q + 1)) 0 0 mb) s t
unfolding so_far
writes_blocks step shape done at q mb has s t b e w written = rw (quarter-blocks shape done at q (so_far 16 (64 * q) 0 0 mb) has b e w) written

pub writes_chroma_dc : {S : Type 0} (step : S → Slot → Bool → S → Type 0) (shape : SliceShape) (done : List Mb) (at comp : ℕ) (mb : Mb) (inc max : ℕ) (field : Bool) (levels : List ℤ) (s t : S) → IsInPicture shape at → HasSizes mb → comp < 2
    → eqb (pattern_of mb).chroma 0 ≡ false → inc ≡ coded_block shape done at mb.field mb 3 comp 0 → field ≡ is_field shape mb → max ≡ 4 → levels ≡ chroma_dc_of mb comp
    → Writes step (block 3 field inc max) levels s t → Writes step (chroma_dc shape done at comp (so_far 16 256 (4 * comp) 0 mb)) (so_far 16 256 (4 * (comp + 1)) 0 mb) s t
unfolding list so_far
writes_chroma_dc step shape done at comp mb inc max field levels s t picture sizes h e i f m l written =
    let flag : inc ≡ coded_block shape done at mb.field (so_far 16 256 (4 * comp) 0 mb) 3 comp 0 = i ∙ chroma_dc_flag shape done at mb.field mb comp picture in
    rw (chroma_dc-some shape done at comp (so_far 16 256 (4 * comp) 0 mb) e)
    (writes_put step (block 3 (is_field shape mb) (coded_block shape done at mb.field (so_far 16 256 (4 * comp) 0 mb) 3 comp 0) 4) (λ levels. with_chroma_dc comp (so_far 16 256 (4 * comp) 0 mb) levels) levels (so_far 16 256 (4 * (comp + 1)) 0 mb) s t
    (ap (with_chroma_dc comp (so_far 16 256 (4 * comp) 0 mb)) l ∙ so_far-chroma_dc mb comp sizes h) (rw (flag, f, m) at written))

pub writes_no_chroma_dc : {S : Type 0} (step : S → Slot → Bool → S → Type 0) (shape : SliceShape) (done : List Mb) (at comp : ℕ) (mb : Mb) (s : S) → HasSizes mb → IsResidual mb → comp < 2
    → eqb (pattern_of mb).chroma 0 ≡ true → (pattern_of mb).chroma ≡ 0 → Writes step (chroma_dc shape done at comp (so_far 16 256 (4 * comp) 0 mb)) (so_far 16 256 (4 * (comp + 1)) 0 mb) s s
unfolding so_far
writes_no_chroma_dc step shape done at comp mb s sizes is h e z =
    let none : chroma_dc_bound mb ≡ 0 = ap (λ n. cond (ltb 0 n) 65535 0) z in
    rw (chroma_dc-none shape done at comp (so_far 16 256 (4 * comp) 0 mb) e)
    (so_far-no_chroma_dc mb comp sizes h (zero_levels 4 (chroma_dc_bound mb) (chroma_dc_of mb comp) none (chroma_dc_size mb comp sizes h) (is.chroma.dc comp [] (omega (arith, sizes.chroma_dc.0)))), refl)

pub writes_chroma_block : {S : Type 0} (step : S → Slot → Bool → S → Type 0) (shape : SliceShape) (done : List Mb) (at comp n : ℕ) (mb : Mb) (inc max : ℕ) (field : Bool) (levels : List ℤ) (s t : S) → IsInPicture shape at → HasSizes mb → comp < 2 → n < 4
    → inc ≡ coded_block shape done at mb.field mb 4 comp n → field ≡ is_field shape mb → max ≡ 15 → levels ≡ chroma_ac_of mb comp n
    → Writes step (block 4 field inc max) levels s t → Writes step (chroma_block shape done at comp n (so_far 16 256 8 (60 * comp + 15 * n) mb)) (so_far 16 256 8 (60 * comp + 15 * (n + 1)) mb) s t
unfolding chroma_block list so_far
writes_chroma_block step shape done at comp n mb inc max field levels s t picture sizes h k i f m l written =
    let flag : inc ≡ coded_block shape done at mb.field (so_far 16 256 8 (60 * comp + 15 * n) mb) 4 comp n = i ∙ chroma_ac_flag shape done at mb.field mb comp n picture sizes h k in
    writes_put step (block 4 (is_field shape mb) (coded_block shape done at mb.field (so_far 16 256 8 (60 * comp + 15 * n) mb) 4 comp n) 15) (λ levels. with_chroma_block comp n (so_far 16 256 8 (60 * comp + 15 * n) mb) levels) levels (so_far 16 256 8 (60 * comp + 15 * (n + 1)) mb) s t
    (ap (with_chroma_block comp n (so_far 16 256 8 (60 * comp + 15 * n) mb)) l ∙ so_far-chroma_block mb comp n sizes h k) (rw (flag, f, m) at written)

pub writes_chroma_blocks : {S : Type 0} (step : S → Slot → Bool → S → Type 0) (shape : SliceShape) (done : List Mb) (at comp : ℕ) (mb : Mb) (s t : S) → eqb (pattern_of mb).chroma 2 ≡ true
    → Writes step (each 4 (chroma_block shape done at comp) 0 (so_far 16 256 8 (60 * comp) mb)) (so_far 16 256 8 (60 * (comp + 1)) mb) s t → Writes step (chroma_ac shape done at comp (so_far 16 256 8 (60 * comp) mb)) (so_far 16 256 8 (60 * (comp + 1)) mb) s t
unfolding so_far
writes_chroma_blocks step shape done at comp mb s t e written = rw (chroma_ac-blocks shape done at comp (so_far 16 256 8 (60 * comp) mb) e) written

pub writes_no_chroma_ac : {S : Type 0} (step : S → Slot → Bool → S → Type 0) (shape : SliceShape) (done : List Mb) (at comp : ℕ) (mb : Mb) (s : S) → HasSizes mb → IsResidual mb → comp < 2
    → eqb (pattern_of mb).chroma 2 ≡ false → Writes step (chroma_ac shape done at comp (so_far 16 256 8 (60 * comp) mb)) (so_far 16 256 8 (60 * (comp + 1)) mb) s s
unfolding so_far
writes_no_chroma_ac step shape done at comp mb s sizes is h e =
    let none : chroma_ac_bound mb ≡ 0 = ap (λ b. cond b 65535 0) e in
    rw (chroma_ac-none shape done at comp (so_far 16 256 8 (60 * comp) mb) e)
    (so_far-no_chroma_ac mb comp sizes h (λ n k. zero_levels 15 (chroma_ac_bound mb) (chroma_ac_of mb comp n) none (chroma_ac_size mb comp n sizes h k) (ac_within mb comp n h k sizes is)), refl)

-- ---- residual

pub writes_residual : {S : Type 0} (step : S → Slot → Bool → S → Type 0) (shape : SliceShape) (done : List Mb) (at : ℕ) (mb : Mb) (s a b c t : S) → HasSizes mb
    → Writes step (luma_dc shape done at (so_far 0 0 0 0 mb)) (so_far 16 0 0 0 mb) s a
    → Writes step (each 4 (quarter shape done at) 0 (so_far 16 0 0 0 mb)) (so_far 16 256 0 0 mb) a b
    → Writes step (each 2 (chroma_dc shape done at) 0 (so_far 16 256 0 0 mb)) (so_far 16 256 8 0 mb) b c
    → Writes step (each 2 (chroma_ac shape done at) 0 (so_far 16 256 8 0 mb)) (so_far 16 256 8 120 mb) c t
    → Writes step (residual shape done at (without_levels mb)) mb s t
unfolding residual
writes_residual step shape done at mb s a b c t sizes first second third last =
    let all = rw (so_far-all mb sizes) at last in
    rw (← so_far-none mb)
    (writes_then step (luma_dc shape done at (so_far 0 0 0 0 mb) >>= each 4 (quarter shape done at) 0 >>= each 2 (chroma_dc shape done at) 0) (each 2 (chroma_ac shape done at) 0) (so_far 16 256 8 0 mb) mb s c t
    (writes_then step (luma_dc shape done at (so_far 0 0 0 0 mb) >>= each 4 (quarter shape done at) 0) (each 2 (chroma_dc shape done at) 0) (so_far 16 256 0 0 mb) (so_far 16 256 8 0 mb) s b c
    (writes_then step (luma_dc shape done at (so_far 0 0 0 0 mb)) (each 4 (quarter shape done at) 0) (so_far 16 0 0 0 mb) (so_far 16 256 0 0 mb) s a b first second) third) all)
