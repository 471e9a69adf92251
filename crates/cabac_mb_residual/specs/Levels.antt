-- The levels of a macroblock: those that have bins, and those of its first lists.
use Rattle.std.specs.Prelude.{◌≡◌, ℕ, ◌+◌, ◌-◌, ◌*◌, ◌<◌, true, ℤ, pos, List, [], ◌∷◌, ◌++◌, take, replicate}
use Rattle.h264_types.specs.Macroblock.{quarter_of}
use Rattle.h264_types.specs.Valid.{IsLumaCoded, IsChromaCoded}
use Rattle.h264_types.specs.declared.macroblock.Mb.{Mb}
use Rattle.cabac_contexts.specs.Terms.{has_luma, chroma_dc_of, chroma_ac_of}

-- The levels are in range, and 0 where they aren't sent. There are no bins for 64 levels that are all 0.
pub record IsResidual (mb : Mb) : Type 0 where
  pub luma : IsLumaCoded mb
  pub chroma : IsChromaCoded mb
  pub some : (q : ℕ) → q < 4 → mb.t8 ≡ true → has_luma mb q ≡ true → quarter_of mb q ≡ replicate 64 (pos 0) → ⊥

-- a macroblock whose levels are all 0
abbrev pub without_levels : Mb → Mb
without_levels mb = record mb {
  dc = replicate 16 (pos 0);
  luma = replicate 4 (replicate 64 (pos 0));
  chroma_dc = replicate 2 (replicate 4 (pos 0));
  chroma_ac = replicate 2 (replicate 4 (replicate 15 (pos 0)));
}

-- the first k of so many levels, and 0 for the others
abbrev pub first : ℕ → ℕ → List ℤ → List ℤ
first max k levels = take k levels ++ replicate (max - k) (pos 0)

abbrev pub two : {A : Type 0} → (ℕ → A) → List A
two f = f 0 ∷ f 1 ∷ []

abbrev pub four : {A : Type 0} → (ℕ → A) → List A
four f = f 0 ∷ f 1 ∷ f 2 ∷ f 3 ∷ []

-- A macroblock that has only its first levels of each kind: so many of the luma DC levels, of the luma levels, of the
-- chroma DC levels, and of the chroma AC levels.
unfoldable pub so_far : ℕ → ℕ → ℕ → ℕ → Mb → Mb
so_far dc luma chroma_dc chroma_ac mb = record mb {
  dc = first 16 dc mb.dc;
  luma = four (λ q. first 64 (luma - 64 * q) (quarter_of mb q));
  chroma_dc = two (λ comp. first 4 (chroma_dc - 4 * comp) (chroma_dc_of mb comp));
  chroma_ac = two (λ comp. four (λ n. first 15 (chroma_ac - 15 * (4 * comp + n)) (chroma_ac_of mb comp n)));
}
