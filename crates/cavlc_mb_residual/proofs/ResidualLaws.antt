-- No text of a list or a block begins another one; what blocks count.
use Rattle.std.proofs.Common.{◌≡◌, ◌⊎◌, ℕ, zero, suc, ◌+◌, ◌-◌, ◌<◌, ◌≤◌, ◌++◌, ℤ, pos, Bool, true, false, List, [], ◌∷◌, length, take, drop, refl, ap, sym, subst, ◌∙◌, arith, inl, inr, cond, get_or, Option, Some, None}
use Rattle.std.specs.Prelude.{filter, replicate, IfSome}
use Rattle.std.specs.Option.{option_map}
use Rattle.std.proofs.lemmas.List.{take-append-drop, length-replicate}
use Rattle.bit_texts.specs.Texts.{Reads, Completes, AreTurns, IsPrefixFree}
use Rattle.bit_texts.proofs.Turns.{Completes-start, AreTurns-drop, IsPrefixFree-turns}
use Rattle.bit_texts.proofs.Reading.{IsPrefixFree-when}
use Rattle.cavlc_residual.specs.Block.{IsShape, IsBlock, block_text, is_nonzero, total_coeff}
use Rattle.cavlc_residual.proofs.BlockLemmas.{IsPrefixFree-block, size_of_shape, size-small}
use Rattle.cavlc_mb_residual.specs.declared.counts.Sides.{Sides}
use Rattle.cavlc_mb_residual.specs.Residual.{counted, IsList, list_text, IsSixteen, is_coded, IsLumaBlock, luma_block_text, AreLumaBlocks, luma_text, IsChromaBlock, chroma_block_text, AreChromaBlocks, chroma_text}
use Rattle.cavlc_mb_residual.specs.MacroblockResidual.{max_of}

pub IsPrefixFree-list : (coded : Bool) (nc : ℤ) (max bound : ℕ) → IsShape nc max → bound ≤ 20 → IsPrefixFree (IsList coded max bound) (list_text coded nc)
IsPrefixFree-list coded nc max bound shape within = IsPrefixFree-when coded (replicate max (pos 0)) (IsBlock max bound) (block_text nc) (IsPrefixFree-block nc max bound shape within)

pub IsPrefixFree-sixteen : (coded : Bool) (nc : ℤ) (max bound : ℕ) → IsShape nc max → bound ≤ 20 → IsPrefixFree (IsSixteen coded max bound) (λ block. list_text coded nc (take max block))
IsPrefixFree-sixteen coded nc max bound shape within v w x y p q e =
    let front = IsPrefixFree-list coded nc max bound shape within (take max v) (take max w) x y p.levels q.levels e in
    sym (take-append-drop max v) ∙ ap (λ t. t ++ drop max v) front ∙ ap (λ t. take max w ++ t) (p.others ∙ sym q.others) ∙ take-append-drop max w

pub IsPrefixFree-luma : (sides : Sides) (luma max bound : ℕ) → (max ≡ 15) ⊎ (max ≡ 16) → bound ≤ 20 → (counts : List ℕ) → IsPrefixFree (IsLumaBlock luma max bound counts) (luma_block_text sides luma max counts)
IsPrefixFree-luma sides luma max bound size within counts = IsPrefixFree-sixteen (is_coded luma counts) _ max bound size within

pub IsPrefixFree-chroma : (sides : Sides) (coded : Bool) (bound : ℕ) → bound ≤ 20 → (counts : List ℕ) → IsPrefixFree (IsChromaBlock coded bound counts) (chroma_block_text sides coded counts)
IsPrefixFree-chroma sides coded bound within counts = IsPrefixFree-list coded _ 15 bound (inl refl) within

pub max_shape : (is_16x16 : Bool) → (max_of is_16x16 ≡ 15) ⊎ (max_of is_16x16 ≡ 16)
max_shape true = inl refl
max_shape false = inr refl

pub IsPrefixFree-luma_blocks : (sides : Sides) (luma max bound : ℕ) → (max ≡ 15) ⊎ (max ≡ 16) → bound ≤ 20 → IsPrefixFree (AreLumaBlocks luma max bound) (luma_text sides luma max)
IsPrefixFree-luma_blocks sides luma max bound size within = IsPrefixFree-turns (IsLumaBlock luma max bound) (luma_block_text sides luma max) counted (IsPrefixFree-luma sides luma max bound size within) 16 []

pub IsPrefixFree-chroma_blocks : (sides : Sides) (coded : Bool) (bound : ℕ) → bound ≤ 20 → IsPrefixFree (AreChromaBlocks coded bound) (chroma_text sides coded)
IsPrefixFree-chroma_blocks sides coded bound within = IsPrefixFree-turns (IsChromaBlock coded bound) (chroma_block_text sides coded) counted (IsPrefixFree-chroma sides coded bound within) 4 []

-- ---- counts

filter-zeros : (n : ℕ) → filter is_nonzero (replicate n (pos 0)) ≡ []
filter-zeros zero = refl
filter-zeros (suc n) = filter-zeros n

pub total_coeff-most : (levels : List ℤ) → total_coeff levels ≤ length levels
total_coeff-most [] = omega arith
total_coeff-most (l ∷ ls) = more (is_nonzero l) (total_coeff-most ls)
  where
    more : (b : Bool) → total_coeff ls ≤ length ls → length (cond b (l ∷ filter is_nonzero ls) (filter is_nonzero ls)) ≤ suc (length ls)
    more true h = omega arith
    more false h = omega arith

pub small_total : (total max bound : ℕ) (coded : Bool) (nc : ℤ) (levels : List ℤ) → IsShape nc max → IsList coded max bound levels → total ≡ total_coeff levels → total ≤ 16
small_total total max bound coded nc levels shape is e =
    omega (arith, e, total_coeff-most levels, size coded is, size-small max (size_of_shape nc max shape))
  where
    size : (coded : Bool) → IsList coded max bound levels → length levels ≡ max
    size true is = is.size
    size false is = ap length is ∙ length-replicate max (pos 0)

pub most_read : (r : Option ℕ) (max bound : ℕ) (nc shape_nc : ℤ) (levels : List ℤ) (left rest : List Bool) → IsShape shape_nc max → Reads (IsBlock max bound) (block_text nc) left (option_map (λ (_ : ℕ). levels) r) rest → IfSome r (λ total. total ≡ total_coeff levels) → IfSome r (λ total. total ≤ 16)
most_read None max bound nc shape_nc levels left rest shape reads e = e
most_read (Some total) max bound nc shape_nc levels left rest shape reads e = small_total total max bound true shape_nc levels shape reads.0 e

-- ---- blocks one after another

pub blocks_start : (Is : List ℕ → List ℤ → Type 0) (text : List ℕ → List ℤ → List Bool) (n : ℕ) (whole : List Bool) (counts : List ℕ) (done : List (List ℤ)) → counts ≡ [] → done ≡ [] → Completes Is text counted n [] whole n counts whole done
blocks_start Is text n whole counts done none nothing = rw (none, nothing) (Completes-start Is text counted n [] whole)

-- block i is in its range, and so are those behind it
pub block_next : (Is : List ℕ → List ℤ → Type 0) (xs : List (List ℤ)) (count i : ℕ) (s : List ℕ) (x : List ℤ) → length xs ≡ count → i < count → x ≡ get_or xs i [] → AreTurns Is counted (count - i) s (drop i xs) → Is s x
block_next Is xs count i s x size below e are =
    let P : ℕ → Type 0 = λ k. AreTurns Is counted (k - i) s (drop i xs) in
    subst (Is s) (sym e) (AreTurns-drop Is counted s xs i [] (omega (arith, size)) (subst P (sym size) are)).0

pub blocks_next : (Is : List ℕ → List ℤ → Type 0) (xs : List (List ℤ)) (count i : ℕ) (s t : List ℕ) (x : List ℤ) → length xs ≡ count → i < count → x ≡ get_or xs i [] → t ≡ counted s x → AreTurns Is counted (count - i) s (drop i xs) → AreTurns Is counted (count - (i + 1)) t (drop (i + 1) xs)
blocks_next Is xs count i s t x size below e next are =
    let P : ℕ → Type 0 = λ k. AreTurns Is counted (k - i) s (drop i xs) in
    let Q : ℕ → Type 0 = λ k. AreTurns Is counted (k - (i + 1)) t (drop (i + 1) xs) in
    let R : List ℕ → Type 0 = λ u. AreTurns Is counted (length xs - (i + 1)) u (drop (i + 1) xs) in
    subst Q size (subst R (sym (next ∙ ap (counted s) e)) (AreTurns-drop Is counted s xs i [] (omega (arith, size)) (subst P (sym size) are)).1)
