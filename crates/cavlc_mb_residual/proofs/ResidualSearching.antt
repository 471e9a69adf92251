-- The levels of a residual can be searched, and it is decided whether they are one.
use Rattle.std.proofs.Common.{◌≡◌, ℕ, zero, suc, ◌-◌, ◌<◌, ◌≤◌, ℤ, pos, Bool, true, false, List, [], ◌∷◌, length, take, drop, refl, sym, subst, arith}
use Rattle.std.specs.Prelude.{replicate, slice_index_or}
use Rattle.std.proofs.lemmas.List.{get_or_default}
use Rattle.std.proofs.lemmas.List.Elements.{recursion_from_All, All-from_recursion}
use Rattle.bit_texts.specs.Texts.{BothAre, AreTurns}
use Rattle.cavlc_residual.specs.Coefficients.{magnitude}
use Rattle.cavlc_residual.specs.Block.{IsBlock, is_beyond}
use Rattle.h264_types.specs.Valid.{IsWithin}
use Rattle.h264_types.specs.declared.macroblock.Mb.{Mb}
use Rattle.h264_types.specs.declared.macroblock.Pattern.{Pattern}
use Rattle.cavlc_mb_residual.specs.LumaBlocks.{luma_blocks}
use Rattle.cavlc_mb_residual.specs.Residual.{IsList, IsSixteen, counted, is_coded, IsLumaBlock, AreLumaBlocks, IsChromaBlock, AreChromaBlocks}
use Rattle.h264_types.specs.Sizes.{HasSizes}
use Rattle.cavlc_mb_residual.specs.MacroblockResidual.{max_of, dc_of, ac_of, has_chroma_dc, has_chroma_ac, IsResidual, AreSmallLevels}
use Rattle.h264_types.proofs.Lists.{two_all}
use Rattle.cavlc_mb_residual.proofs.BeyondLaws.{small_residual}
use Rattle.cavlc_mb_residual.proofs.ResidualValid.{small_levels, luma_in_range}
use Rattle.cavlc_mb_residual.proofs.Searching.{Searches, Decided, AreMany, pairs_searched, magnitudes_searched, many_searched, same_decided, both_decided, most_decided, numbers_decided, bools_decided, signed_decided, lists_decided, all_decided, many_decided, when_decided, turns_decided}

-- ---- what is decided of levels

small_decided : (levels : List ℤ) → Decided (AreSmallLevels levels)
small_decided levels = all_decided (λ l. magnitude l ≤ 65535) (λ l. most_decided (magnitude l) 65535) levels

levels_decided : (xs ys : List ℤ) → Decided (xs ≡ ys)
levels_decided xs ys = lists_decided signed_decided xs ys

pub block_decided : (max bound : ℕ) (levels : List ℤ) → Decided (IsBlock max bound levels)
block_decided max bound levels =
    same_decided (λ h. record { size = h.0; small = h.1.0; within = h.1.1 }) (λ is. (is.size, (is.small, is.within)))
    (both_decided (numbers_decided (length levels) max) (both_decided (small_decided levels) (bools_decided (is_beyond bound levels) false)))

pub list_decided : (coded : Bool) (max bound : ℕ) (levels : List ℤ) → Decided (IsList coded max bound levels)
list_decided coded max bound levels = when_decided coded (replicate max (pos 0)) (IsBlock max bound) levels (levels_decided levels (replicate max (pos 0))) (block_decided max bound levels)

pub sixteen_decided : (coded : Bool) (max bound : ℕ) (block : List ℤ) → Decided (IsSixteen coded max bound block)
sixteen_decided coded max bound block =
    same_decided (λ h. record { levels = h.0; others = h.1 }) (λ is. (is.levels, is.others))
    (both_decided (list_decided coded max bound (take max block)) (levels_decided (drop max block) (replicate (16 - max) (pos 0))))

size_decided : {A : Type 0} (n : ℕ) (xs : List A) → Decided (length xs ≡ n)
size_decided n xs = numbers_decided (length xs) n

lists_size_decided : {A : Type 0} (n m : ℕ) (xs : List (List A)) → Decided (AreMany (λ x. length x ≡ m) n xs)
lists_size_decided n m xs = many_decided (λ x. length x ≡ m) (size_decided m) n xs

lists_of_lists_size_decided : {A : Type 0} (n m k : ℕ) (xs : List (List (List A))) → Decided (AreMany (AreMany (λ x. length x ≡ k) m) n xs)
lists_of_lists_size_decided n m k xs = many_decided (AreMany (λ x. length x ≡ k) m) (lists_size_decided m k) n xs

-- its fields one after another
pub sizes_decided : (mb : Mb) → Decided (HasSizes mb)
sizes_decided mb =
    same_decided
    (λ h. record { modes = h.0; subs = h.1.0; refs = h.1.1.0; mvd = h.1.1.1.0; dc = h.1.1.1.1.0; luma = h.1.1.1.1.1.0; chroma_dc = h.1.1.1.1.1.1.0; chroma_ac = h.1.1.1.1.1.1.1.0; pcm = h.1.1.1.1.1.1.1.1 })
    (λ is. (is.modes, (is.subs, (is.refs, (is.mvd, (is.dc, (is.luma, (is.chroma_dc, (is.chroma_ac, is.pcm)))))))))
    (both_decided (size_decided 16 mb.modes)
    (both_decided (size_decided 4 mb.subs)
    (both_decided (lists_size_decided 2 4 mb.refs)
    (both_decided (lists_of_lists_size_decided 2 16 2 mb.mvd)
    (both_decided (size_decided 16 mb.dc)
    (both_decided (lists_size_decided 4 64 mb.luma)
    (both_decided (lists_size_decided 2 4 mb.chroma_dc)
    (both_decided (lists_of_lists_size_decided 2 4 15 mb.chroma_ac)
    (size_decided 384 mb.pcm)))))))))

pub luma_decided : (luma max bound : ℕ) (blocks : List (List ℤ)) → Decided (AreLumaBlocks luma max bound blocks)
luma_decided luma max bound blocks = turns_decided (IsLumaBlock luma max bound) counted (λ counts x. sixteen_decided (is_coded luma counts) max bound x) 16 [] blocks

pub chroma_decided : (coded : Bool) (bound : ℕ) (blocks : List (List ℤ)) → Decided (AreChromaBlocks coded bound blocks)
chroma_decided coded bound blocks = turns_decided (IsChromaBlock coded bound) counted (λ counts x. list_decided coded 15 bound x) 4 [] blocks

pub residual_decided : (s : Bool) (p : Pattern) (bound : ℕ) (mb : Mb) → Decided (IsResidual s p bound mb)
residual_decided s p bound mb =
    same_decided
    (λ h. record { dc = h.0; luma = h.1.0; cb_dc = h.1.1.0; cr_dc = h.1.1.1.0; cb_ac = h.1.1.1.1.0; cr_ac = h.1.1.1.1.1.0; sizes = h.1.1.1.1.1.1 })
    (λ is. (is.dc, (is.luma, (is.cb_dc, (is.cr_dc, (is.cb_ac, (is.cr_ac, is.sizes)))))))
    (both_decided (list_decided s 16 bound mb.dc)
    (both_decided (luma_decided p.luma (max_of s) bound (luma_blocks mb))
    (both_decided (list_decided (has_chroma_dc p) 4 bound (dc_of 0 mb))
    (both_decided (list_decided (has_chroma_dc p) 4 bound (dc_of 1 mb))
    (both_decided (chroma_decided (has_chroma_ac p) bound (ac_of 0 mb))
    (both_decided (chroma_decided (has_chroma_ac p) bound (ac_of 1 mb))
    (sizes_decided mb)))))))

-- ---- lists of levels of one size, in range

abbrev pub AreLevels : ℕ → List ℤ → Type 0
AreLevels n levels = AreMany (λ l. magnitude l ≤ 65535) n levels

abbrev pub AreLists : ℕ → ℕ → List (List ℤ) → Type 0
AreLists n m lists = AreMany (AreLevels m) n lists

levels_searched : (n : ℕ) → Searches (AreLevels n)
levels_searched n = many_searched (λ l. magnitude l ≤ 65535) (magnitudes_searched 65535) n

level_lists_searched : (n m : ℕ) → Searches (AreLists n m)
level_lists_searched n m = many_searched (AreLevels m) (levels_searched m) n

zeros_are : (n : ℕ) → AreLevels n (replicate n (pos 0))
zeros_are zero = (refl, tt)
zeros_are (suc n) = let more = zeros_are n in let e = more.0 in (omega arith, (omega arith, more.1))

list_is : (coded : Bool) (max bound : ℕ) (levels : List ℤ) → IsList coded max bound levels → AreLevels max levels
list_is true max bound levels is = (is.size, is.small)
list_is false max bound levels is = subst (AreLevels max) (sym is) (zeros_are max)

turns_are : {S A : Type 0} (Is : S → A → Type 0) (next : S → A → S) (P : A → Type 0) → ((s : S) (x : A) → Is s x → P x) → (n : ℕ) (s : S) (xs : List A) → AreTurns Is next n s xs → AreMany P n xs
unfolding AreTurns
turns_are Is next P each zero s [] are = (refl, tt)
turns_are Is next P each zero s (x ∷ xs) are = absurd are
turns_are Is next P each (suc n) s [] are = absurd are
turns_are Is next P each (suc n) s (x ∷ xs) are = let more = turns_are Is next P each n (next s x) xs are.1 in let e = more.0 in (omega arith, (each s x are.0, more.1))

-- ---- luma

-- the lists of a luma all of whose levels are in range
quarters_are : (luma : List (List ℤ)) → AreMany (λ quarter. length quarter ≡ 64) 4 luma → ((q : ℕ) → q < 4 → IsWithin 65535 (slice_index_or luma q [])) → AreLists 4 64 luma
quarters_are luma sizes within = (
  sizes.0,
  recursion_from_All (AreLevels 64) luma (λ q d below.
      let quarter : slice_index_or luma q [] ≡ slice_index_or luma q d = get_or_default luma q [] d below in
      (All-from_recursion (λ quarter. length quarter ≡ 64) luma sizes.1 q d below, small_levels (slice_index_or luma q d) (subst (IsWithin 65535) quarter (within q (omega (arith, below, sizes.0)))))),
)

-- ---- all levels of a macroblock: DC, luma, chroma DC and chroma AC

abbrev pub Levels : Type 0
Levels = List ℤ × (List (List ℤ) × (List (List ℤ) × List (List (List ℤ))))

abbrev pub AreChroma : List (List ℤ) × List (List (List ℤ)) → Type 0
AreChroma v = BothAre (AreLists 2 4) (λ dc ac. AreMany (AreLists 4 15) 2 ac) v

abbrev pub AreAll : Levels → Type 0
AreAll v = BothAre (AreLevels 16) (λ dc w. BothAre (AreLists 4 64) (λ luma x. AreChroma x) w) v

chroma_searched : Searches AreChroma
chroma_searched =
    pairs_searched (AreLists 2 4) (λ dc ac. AreMany (AreLists 4 15) 2 ac) (level_lists_searched 2 4)
    (λ dc. many_searched (AreLists 4 15) (level_lists_searched 4 15) 2)

pub all_searched : Searches AreAll
all_searched =
    pairs_searched (AreLevels 16) (λ dc w. BothAre (AreLists 4 64) (λ luma x. AreChroma x) w) (levels_searched 16)
    (λ dc. pairs_searched (AreLists 4 64) (λ luma x. AreChroma x) (level_lists_searched 4 64) (λ luma. chroma_searched))

-- the lists of levels of a residual
pub all_are : (s : Bool) (p : Pattern) (bound : ℕ) (mb : Mb) → IsResidual s p bound mb → AreAll (mb.dc, (mb.luma, (mb.chroma_dc, mb.chroma_ac)))
all_are s p bound mb is =
    let ac : (blocks : List (List ℤ)) → AreChromaBlocks (has_chroma_ac p) bound blocks → AreLists 4 15 blocks = λ blocks are. turns_are (IsChromaBlock (has_chroma_ac p) bound) counted (AreLevels 15) (λ counts x h. list_is (has_chroma_ac p) 15 bound x h) 4 [] blocks are in (
      list_is s 16 bound mb.dc is.dc,
      (
        quarters_are mb.luma is.sizes.luma (luma_in_range mb is.sizes (small_residual s p bound mb is).luma),
        (
          (is.sizes.chroma_dc.0, two_all (AreLevels 4) [] mb.chroma_dc is.sizes.chroma_dc.0 (list_is (has_chroma_dc p) 4 bound (dc_of 0 mb) is.cb_dc) (list_is (has_chroma_dc p) 4 bound (dc_of 1 mb) is.cr_dc)),
          (is.sizes.chroma_ac.0, two_all (AreLists 4 15) [] mb.chroma_ac is.sizes.chroma_ac.0 (ac (ac_of 0 mb) is.cb_ac) (ac (ac_of 1 mb) is.cr_ac)),
        ),
      ),
    )
