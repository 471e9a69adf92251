-- Tests of each list of some.
use Rattle.std.proofs.Common.{◌≡◌, ℕ, zero, suc, ◌-◌, ◌<◌, ◌≤◌, ℤ, Bool, true, false, List, [], ◌∷◌, length, take, drop, get_or, refl, sym, subst, arith}
use Rattle.std.specs.List.{AllByRecursion, list_any}
use Rattle.std.proofs.lemmas.Bool.{or_right}
use Rattle.std.proofs.lemmas.List.{take-append-drop}
use Rattle.bit_texts.specs.Texts.{AreTurns}
use Rattle.cavlc_residual.specs.Coefficients.{magnitude}
use Rattle.cavlc_residual.proofs.BlockLemmas.{all_append, small_zeros}
use Rattle.h264_types.specs.declared.macroblock.Mb.{Mb}
use Rattle.h264_types.specs.declared.macroblock.Pattern.{Pattern}
use Rattle.h264_types.proofs.Lists.{two_all}
use Rattle.cavlc_mb_residual.specs.Residual.{IsList, IsSixteen, counted, is_coded, IsLumaBlock, IsChromaBlock}
use Rattle.cavlc_mb_residual.specs.LumaBlocks.{luma_blocks}
use Rattle.cavlc_mb_residual.specs.MacroblockResidual.{max_of, dc_of, ac_of, has_chroma_dc, has_chroma_ac, IsResidual, AreSmallLevels, HasSmallLevels}

pub any_none : (test : List ℤ → Bool) (xs : List (List ℤ)) → ((m : ℕ) → m < length xs → test (get_or xs m []) ≡ false) → list_any test xs ≡ false
any_none test [] h = refl
any_none test (x ∷ xs) h = rw (h 0 (omega arith)) (any_none test xs (λ m below. h (suc m) (omega arith)))

pub any_some : (test : List ℤ → Bool) (xs : List (List ℤ)) (i : ℕ) → i < length xs → test (get_or xs i []) ≡ true → list_any test xs ≡ true
any_some test [] i h e = absurd (omega arith)
any_some test (x ∷ xs) zero h e = rw e refl
any_some test (x ∷ xs) (suc i) h e = or_right (test x) (list_any test xs) (any_some test xs i (omega arith) e)

pub all_get : (P : List ℤ → Type 0) (xs : List (List ℤ)) (i : ℕ) → AllByRecursion P xs → i < length xs → P (get_or xs i [])
all_get P [] i all h = absurd (omega arith)
all_get P (x ∷ xs) zero all h = all.0
all_get P (x ∷ xs) (suc i) all h = all_get P xs i all.1 (omega arith)

-- ---- the levels of a macroblock are in range

small_list : (coded : Bool) (max bound : ℕ) (levels : List ℤ) → IsList coded max bound levels → AreSmallLevels levels
small_list true max bound levels is = is.small
small_list false max bound levels is = subst AreSmallLevels (sym is) (small_zeros max)

small_sixteen : (coded : Bool) (max bound : ℕ) (block : List ℤ) → IsSixteen coded max bound block → AreSmallLevels block
small_sixteen coded max bound block is =
    subst AreSmallLevels (take-append-drop max block)
    (all_append (λ l. magnitude l ≤ 65535) (take max block) (drop max block) (small_list coded max bound (take max block) is.levels) (subst AreSmallLevels (sym is.others) (small_zeros (16 - max))))

pub each_turn : {S A : Type 0} (Is : S → A → Type 0) (next : S → A → S) (P : A → Type 0) → ((s : S) (x : A) → Is s x → P x) → (n : ℕ) (s : S) (xs : List A) → AreTurns Is next n s xs → AllByRecursion P xs
unfolding AreTurns
each_turn Is next P all zero s [] are = tt
each_turn Is next P all zero s (x ∷ xs) are = absurd are
each_turn Is next P all (suc n) s [] are = absurd are
each_turn Is next P all (suc n) s (x ∷ xs) are = (all s x are.0, each_turn Is next P all n (next s x) xs are.1)

pub small_residual : (s : Bool) (p : Pattern) (bound : ℕ) (mb : Mb) → IsResidual s p bound mb → HasSmallLevels mb
small_residual s p bound mb is = record {
  dc = small_list s 16 bound mb.dc is.dc;
  luma = each_turn (IsLumaBlock p.luma (max_of s) bound) counted AreSmallLevels (λ counts x h. small_sixteen (is_coded p.luma counts) (max_of s) bound x h) 16 [] (luma_blocks mb) is.luma;
  chroma_dc = two_all AreSmallLevels [] mb.chroma_dc is.sizes.chroma_dc.0 (small_list (has_chroma_dc p) 4 bound (dc_of 0 mb) is.cb_dc) (small_list (has_chroma_dc p) 4 bound (dc_of 1 mb) is.cr_dc);
  cb_ac = each_turn (IsChromaBlock (has_chroma_ac p) bound) counted AreSmallLevels (λ counts x h. small_list (has_chroma_ac p) 15 bound x h) 4 [] (ac_of 0 mb) is.cb_ac;
  cr_ac = each_turn (IsChromaBlock (has_chroma_ac p) bound) counted AreSmallLevels (λ counts x h. small_list (has_chroma_ac p) 15 bound x h) 4 [] (ac_of 1 mb) is.cr_ac;
}
