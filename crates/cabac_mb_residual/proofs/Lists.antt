-- The strings of a macroblock's parts, and one list of levels that is read into a macroblock.
use Rattle.std.proofs.Common.{◌≡◌, ◌≢◌, ℕ, ◌-◌, ◌*◌, ◌≤◌, eqb, cond, Bool, true, false, ℤ, pos, List, ◌++◌, length, replicate, take, drop, Option, Some, None, refl, ap, sym, ◌∙◌, lit≤, arith}
use Rattle.std.proofs.lemmas.List.{drop-replicate, length-take-le}
use Rattle.std.proofs.lemmas.Bool.Decides.{nat_tests}
use Rattle.std.specs.Option.{option_map}
use Rattle.cabac_engine.specs.Bins.{Slot}
use Rattle.h264_types.specs.Kind.{is_i_16x16}
use Rattle.h264_types.specs.Macroblock.{pattern_of}
use Rattle.h264_types.specs.declared.macroblock.Mb.{Mb}
use Rattle.h264_types.specs.declared.macroblock.MbKind.{MbKind}
use Rattle.h264_types.specs.declared.macroblock.Pattern.{Pattern}
use Rattle.h264_types.specs.declared.slice_shape.SliceShape.{SliceShape}
use Rattle.binarisation.specs.BinString.{BinString, Value, Reads, ◌>>=◌}
use Rattle.binarisation.proofs.Strings.{reads_then, reads_none}
use Rattle.cabac_contexts.specs.Increments.{coded_block}
use Rattle.cabac_contexts.specs.Terms.{has_luma}
use Rattle.cabac_residual.specs.Block.{block}
use Rattle.binarisation.specs.Each.{each}
use Rattle.cabac_mb_residual.specs.MacroblockResidual.{is_field, list, luma_dc, luma_cat, luma_max, filled, luma4, quarter, chroma_dc, chroma_block, chroma_ac, with_luma4, with_quarter, with_chroma_dc, with_chroma_block}

-- a list that was read is put somewhere
reads_put : {S U : Type 0} (step : S → Slot → Option Bool → S → Type 0) (string : BinString (List ℤ)) (put : List ℤ → Mb) (result : Option U) (levels : List ℤ) (new : Mb) (s t : S) → new ≡ put levels
    → Reads step string (option_map (λ _. levels) result) s t → Reads step (string >>= (λ levels. Value (put levels))) (option_map (λ _. new) result) s t
reads_put step string put (Some u) levels new s t e read = reads_then step string (λ levels. Value (put levels)) levels (Some new) s t t read (ap Some e, refl)
reads_put step string put None levels new s t e read = reads_none step string (λ levels. Value (put levels)) s t read

cond_true : {A : Type 0} (test : Bool) (x y : A) → test ≡ true → cond test x y ≡ x
cond_true test x y e = rw e refl

cond_false : {A : Type 0} (test : Bool) (x y : A) → test ≡ false → cond test x y ≡ y
cond_false test x y e = rw e refl

-- ---- luma

pub luma_dc-some : (shape : SliceShape) (done : List Mb) (at : ℕ) (mb : Mb) → is_i_16x16 mb.kind ≡ true
    → luma_dc shape done at mb ≡ (list shape done at 0 0 0 16 mb >>= (λ levels. Value (record mb { dc = levels })))
unfolding luma_dc
luma_dc-some shape done at mb e = rw e refl

pub luma_dc-none : (shape : SliceShape) (done : List Mb) (at : ℕ) (mb : Mb) → is_i_16x16 mb.kind ≡ false → luma_dc shape done at mb ≡ Value mb
unfolding luma_dc
luma_dc-none shape done at mb e = rw e refl

pub reads_luma_dc : {S U : Type 0} (step : S → Slot → Option Bool → S → Type 0) (shape : SliceShape) (done : List Mb) (at : ℕ) (mb new : Mb) (inc max : ℕ) (field : Bool) (levels : List ℤ) (result : Option U) (s t : S)
    → is_i_16x16 mb.kind ≡ true → inc ≡ coded_block shape done at mb.field mb 0 0 0 → field ≡ is_field shape mb → max ≡ 16 → new ≡ record mb { dc = levels }
    → Reads step (block 0 field inc max) (option_map (λ _. levels) result) s t → Reads step (luma_dc shape done at mb) (option_map (λ _. new) result) s t
unfolding list
reads_luma_dc step shape done at mb new inc max field levels result s t e i f m n read =
    rw (luma_dc-some shape done at mb e)
    (reads_put step (block 0 (is_field shape mb) (coded_block shape done at mb.field mb 0 0 0) 16) (λ levels. record mb { dc = levels }) result levels new s t n (rw (i, f, m) at read))

pub reads_luma4 : {S U : Type 0} (step : S → Slot → Option Bool → S → Type 0) (shape : SliceShape) (done : List Mb) (at n : ℕ) (mb new : Mb) (cat inc max : ℕ) (field : Bool) (levels : List ℤ) (result : Option U) (s t : S)
    → cat ≡ luma_cat mb.kind → inc ≡ coded_block shape done at mb.field mb cat 0 n → field ≡ is_field shape mb → max ≡ luma_max mb.kind → new ≡ with_luma4 n mb (filled levels)
    → Reads step (block cat field inc max) (option_map (λ _. levels) result) s t → Reads step (luma4 shape done at n mb) (option_map (λ _. new) result) s t
unfolding luma4 list
reads_luma4 step shape done at n mb new cat inc max field levels result s t k i f m e read =
    reads_put step (block (luma_cat mb.kind) (is_field shape mb) (coded_block shape done at mb.field mb (luma_cat mb.kind) 0 n) (luma_max mb.kind)) (λ levels. with_luma4 n mb (filled levels)) result levels new s t e (rw (i, f, m, k) at read)

pub luma_max-most : (kind : MbKind) → luma_max kind ≤ 16
luma_max-most kind = at (is_i_16x16 kind)
  where
    at : (test : Bool) → cond test 15 16 ≤ 16
    at true = lit≤ tt
    at false = lit≤ tt

pub length-front : (max : ℕ) (kind : MbKind) (place : ℕ) → max ≡ luma_max kind → place ≡ max → length (take place (replicate 16 (pos 0))) ≡ luma_max kind
length-front max kind place e f =
    let most = luma_max-most kind in
    length-take-le place (replicate 16 (pos 0)) (omega arith) ∙ f ∙ e

-- a list that was read into the front of sixteen places that are 0
pub filled-front : (levels : List ℤ) (max : ℕ) → length levels ≡ max → levels ++ drop max (replicate 16 (pos 0)) ≡ filled levels
filled-front levels max e = ap (λ (l : List ℤ). levels ++ l) (drop-replicate max 16 (pos 0) ∙ ap (λ k. replicate (16 - k) (pos 0)) (sym e))

pub quarter-eight : (shape : SliceShape) (done : List Mb) (at q : ℕ) (mb : Mb) (has : Bool) → has ≡ true → has ≡ has_luma mb q → mb.t8 ≡ true
    → quarter shape done at q mb ≡ (block 5 (is_field shape mb) 0 64 >>= (λ levels. Value (with_quarter q mb levels)))
unfolding quarter
quarter-eight shape done at q mb has h e w =
    rw (← e, h) (cond_true mb.t8 (block 5 (is_field shape mb) 0 64 >>= (λ levels. Value (with_quarter q mb levels))) (each 4 (luma4 shape done at) (4 * q) mb) w)

pub reads_eight : {S U : Type 0} (step : S → Slot → Option Bool → S → Type 0) (shape : SliceShape) (done : List Mb) (at q : ℕ) (mb new : Mb) (max : ℕ) (has field : Bool) (levels : List ℤ) (result : Option U) (s t : S)
    → has ≡ true → has ≡ has_luma mb q → mb.t8 ≡ true → field ≡ is_field shape mb → max ≡ 64 → new ≡ with_quarter q mb levels
    → Reads step (block 5 field 0 max) (option_map (λ _. levels) result) s t → Reads step (quarter shape done at q mb) (option_map (λ _. new) result) s t
reads_eight step shape done at q mb new max has field levels result s t h e w f m n read =
    rw (quarter-eight shape done at q mb has h e w)
    (reads_put step (block 5 (is_field shape mb) 0 64) (λ levels. with_quarter q mb levels) result levels new s t n (rw (f, m) at read))

pub quarter-none : (shape : SliceShape) (done : List Mb) (at q : ℕ) (mb : Mb) (has : Bool) → has ≡ false → has ≡ has_luma mb q → quarter shape done at q mb ≡ Value mb
unfolding quarter
quarter-none shape done at q mb has h e = rw (← e, h) refl

pub quarter-blocks : (shape : SliceShape) (done : List Mb) (at q : ℕ) (mb : Mb) (has : Bool) → has ≡ true → has ≡ has_luma mb q → mb.t8 ≡ false → quarter shape done at q mb ≡ each 4 (luma4 shape done at) (4 * q) mb
unfolding quarter
quarter-blocks shape done at q mb has h e w =
    rw (← e, h) (cond_false mb.t8 (block 5 (is_field shape mb) 0 64 >>= (λ levels. Value (with_quarter q mb levels))) (each 4 (luma4 shape done at) (4 * q) mb) w)

-- ---- chroma

pub is_chroma : (mb : Mb) (pattern : Pattern) (k : ℕ) → pattern ≡ pattern_of mb → pattern.chroma ≡ k → eqb (pattern_of mb).chroma k ≡ true
is_chroma mb pattern k e h = rw (← e, h) (same k)
  where
    same : (k : ℕ) → eqb k k ≡ true
    same k = grind (arith, nat_tests)

pub no_chroma : (mb : Mb) (pattern : Pattern) (k : ℕ) → pattern ≡ pattern_of mb → pattern.chroma ≢ k → eqb (pattern_of mb).chroma k ≡ false
no_chroma mb pattern k e h = rw (← e) (differs pattern.chroma k h)
  where
    differs : (n k : ℕ) → n ≢ k → eqb n k ≡ false
    differs n k h = grind (arith, nat_tests)

pub chroma_dc-some : (shape : SliceShape) (done : List Mb) (at comp : ℕ) (mb : Mb) → eqb (pattern_of mb).chroma 0 ≡ false
    → chroma_dc shape done at comp mb ≡ (list shape done at 3 comp 0 4 mb >>= (λ levels. Value (with_chroma_dc comp mb levels)))
unfolding chroma_dc
chroma_dc-some shape done at comp mb e = rw e refl

pub reads_chroma_dc : {S U : Type 0} (step : S → Slot → Option Bool → S → Type 0) (shape : SliceShape) (done : List Mb) (at comp : ℕ) (mb new : Mb) (inc max : ℕ) (field : Bool) (levels : List ℤ) (result : Option U) (s t : S)
    → eqb (pattern_of mb).chroma 0 ≡ false → inc ≡ coded_block shape done at mb.field mb 3 comp 0 → field ≡ is_field shape mb → max ≡ 4 → new ≡ with_chroma_dc comp mb levels
    → Reads step (block 3 field inc max) (option_map (λ _. levels) result) s t → Reads step (chroma_dc shape done at comp mb) (option_map (λ _. new) result) s t
unfolding list
reads_chroma_dc step shape done at comp mb new inc max field levels result s t e i f m n read =
    rw (chroma_dc-some shape done at comp mb e)
    (reads_put step (block 3 (is_field shape mb) (coded_block shape done at mb.field mb 3 comp 0) 4) (λ levels. with_chroma_dc comp mb levels) result levels new s t n (rw (i, f, m) at read))

pub chroma_dc-none : (shape : SliceShape) (done : List Mb) (at comp : ℕ) (mb : Mb) → eqb (pattern_of mb).chroma 0 ≡ true → chroma_dc shape done at comp mb ≡ Value mb
unfolding chroma_dc
chroma_dc-none shape done at comp mb e = rw e refl

pub reads_chroma_block : {S U : Type 0} (step : S → Slot → Option Bool → S → Type 0) (shape : SliceShape) (done : List Mb) (at comp n : ℕ) (mb new : Mb) (inc max : ℕ) (field : Bool) (levels : List ℤ) (result : Option U) (s t : S)
    → inc ≡ coded_block shape done at mb.field mb 4 comp n → field ≡ is_field shape mb → max ≡ 15 → new ≡ with_chroma_block comp n mb levels
    → Reads step (block 4 field inc max) (option_map (λ _. levels) result) s t → Reads step (chroma_block shape done at comp n mb) (option_map (λ _. new) result) s t
unfolding chroma_block list
reads_chroma_block step shape done at comp n mb new inc max field levels result s t i f m e read =
    reads_put step (block 4 (is_field shape mb) (coded_block shape done at mb.field mb 4 comp n) 15) (λ levels. with_chroma_block comp n mb levels) result levels new s t e (rw (i, f, m) at read)

pub chroma_ac-none : (shape : SliceShape) (done : List Mb) (at comp : ℕ) (mb : Mb) → eqb (pattern_of mb).chroma 2 ≡ false → chroma_ac shape done at comp mb ≡ Value mb
unfolding chroma_ac
chroma_ac-none shape done at comp mb e = rw e refl

pub chroma_ac-blocks : (shape : SliceShape) (done : List Mb) (at comp : ℕ) (mb : Mb) → eqb (pattern_of mb).chroma 2 ≡ true → chroma_ac shape done at comp mb ≡ each 4 (chroma_block shape done at comp) 0 mb
unfolding chroma_ac
chroma_ac-blocks shape done at comp mb e = rw e refl
