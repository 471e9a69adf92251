-- Lists that aren't sent: their levels are 0, and they have no text.
use Rattle.std.proofs.Common.{◌≡◌, ◌⊎◌, ℕ, zero, suc, ◌-◌, ◌/◌, ◌%◌, ◌^◌, ◌==◌, ◌++◌, ℤ, pos, Bool, true, false, List, [], ◌∷◌, length, take, drop, refl, ap, sym, subst, ◌∙◌, arith, inl, inr, ◌≤◌, cond, Result}
use Rattle.std.specs.Prelude.{replicate, filter}
use Rattle.bit_texts.specs.Texts.{Appended, Appends, AreTurns, turns_text}
use Rattle.bit_texts.specs.Bits.{bit}
use Rattle.std.proofs.lemmas.List.{append-nil, take-append-drop}
use Rattle.cavlc_residual.specs.Block.{is_nonzero, total_coeff, block_text}
use Rattle.h264_types.specs.declared.macroblock.Mb.{Mb}
use Rattle.cavlc_mb_residual.specs.declared.counts.Sides.{Sides}
use Rattle.cavlc_mb_residual.specs.LumaBlocks.{sixteen, luma_blocks}
use Rattle.cavlc_mb_residual.specs.Residual.{counted, list_text, IsSixteen, is_coded, IsLumaBlock, luma_block_text, AreLumaBlocks, luma_text, IsChromaBlock, chroma_block_text, AreChromaBlocks, chroma_text}
use Rattle.mb_neighbours.specs.declared.place.At.TheVariants.{Luma4}
use Rattle.cavlc_mb_residual.specs.Counts.{nC}

-- ---- one after another

turns_without_text : {S A : Type 0} (text : S → A → List Bool) (next : S → A → S) → ((s : S) (x : A) → text s x ≡ []) → (s : S) (xs : List A) → turns_text text next s xs ≡ []
unfolding turns_text
turns_without_text text next none s [] = refl
turns_without_text text next none s (x ∷ xs) = ap (λ t. t ++ turns_text text next (next s x) xs) (none s x) ∙ turns_without_text text next none (next s x) xs

turns_of_one : {S A : Type 0} (Is : S → A → Type 0) (next : S → A → S) (x : A) → ((s : S) → Is s x) → (n : ℕ) (s : S) → AreTurns Is next n s (replicate n x)
unfolding AreTurns
turns_of_one Is next x is zero s = tt
turns_of_one Is next x is (suc n) s = (is s, turns_of_one Is next x is n (next s x))

-- ---- luma

bit-none : (n : ℕ) → bit 0 n ≡ false
bit-none n = let none : 0 / 2 ^ n ≡ 0 = omega arith in ap (λ k. k % 2 == 1) none

-- what the code finds of the block behind `counts`
pub unsent : (luma n : ℕ) (counts : List ℕ) (coded : Bool) → n ≡ length counts → coded ≡ bit luma (n / 4) → coded ≡ false → is_coded luma counts ≡ false
unsent luma n counts coded place e none = ap (λ k. bit luma (k / 4)) (sym place) ∙ (sym e ∙ none)

sixteen_none : (max bound : ℕ) → (max ≡ 15) ⊎ (max ≡ 16) → IsSixteen false max bound (replicate 16 (pos 0))
sixteen_none max bound (inl e) = let P : ℕ → Type 0 = λ m. IsSixteen false m bound (replicate 16 (pos 0)) in subst P (sym e) record { levels = refl; others = refl }
sixteen_none max bound (inr e) = let P : ℕ → Type 0 = λ m. IsSixteen false m bound (replicate 16 (pos 0)) in subst P (sym e) record { levels = refl; others = refl }

pub luma_block_unsent : (luma max bound : ℕ) (counts : List ℕ) → (max ≡ 15) ⊎ (max ≡ 16) → is_coded luma counts ≡ false → IsLumaBlock luma max bound counts (replicate 16 (pos 0))
luma_block_unsent luma max bound counts size e =
    let P : Bool → Type 0 = λ b. IsSixteen b max bound (replicate 16 (pos 0)) in subst P (sym e) (sixteen_none max bound size)

pub luma_block_text-unsent : (sides : Sides) (luma max : ℕ) (counts : List ℕ) (block : List ℤ) → is_coded luma counts ≡ false → luma_block_text sides luma max counts block ≡ []
luma_block_text-unsent sides luma max counts block e = ap (λ b. list_text b (pos (nC sides counts (Luma4 (length counts)))) (take max block)) e

-- a block that isn't sent counts nothing
pub counted-unsent : (luma max bound : ℕ) (counts more : List ℕ) (block : List ℤ) → (max ≡ 15) ⊎ (max ≡ 16) → is_coded luma counts ≡ false → IsLumaBlock luma max bound counts block → more ≡ counts ++ 0 ∷ [] → more ≡ counted counts block
counted-unsent luma max bound counts more block size e is pushed =
    let P : Bool → Type 0 = λ b. IsSixteen b max bound block in
    let none : IsSixteen false max bound block = subst P e is in
    let front : take max block ≡ replicate max (pos 0) = none.levels in
    let whole : block ≡ replicate max (pos 0) ++ replicate (16 - max) (pos 0) = sym (take-append-drop max block) ∙ (ap (λ t. t ++ drop max block) front ∙ ap (λ t. replicate max (pos 0) ++ t) none.others) in
    let zeros : block ≡ replicate 16 (pos 0) = whole ∙ joined size in
    pushed ∙ ap (λ n. counts ++ n ∷ []) (sym (ap total_coeff zeros))
  where
    joined : (max ≡ 15) ⊎ (max ≡ 16) → ◌≡◌ {A = List ℤ} (replicate max (pos 0) ++ replicate (16 - max) (pos 0)) (replicate 16 (pos 0))
    joined (inl h) = rw h refl
    joined (inr h) = rw h refl

pub luma_text-none : (sides : Sides) (max : ℕ) (blocks : List (List ℤ)) → luma_text sides 0 max blocks ≡ []
luma_text-none sides max blocks =
    turns_without_text (luma_block_text sides 0 max) counted (λ s x. luma_block_text-unsent sides 0 max s x (bit-none (length s / 4))) [] blocks

pub luma_none : (max bound : ℕ) → (max ≡ 15) ⊎ (max ≡ 16) → AreLumaBlocks 0 max bound (replicate 16 (replicate 16 (pos 0)))
luma_none max bound size =
    turns_of_one (IsLumaBlock 0 max bound) counted (replicate 16 (pos 0)) (λ s. luma_block_unsent 0 max bound s size (bit-none (length s / 4))) 16 []

pub luma_blocks-none : (mb : Mb) → luma_blocks (record mb { luma = replicate 4 (replicate 64 (pos 0)) }) ≡ replicate 16 (replicate 16 (pos 0))
unfolding sixteen
luma_blocks-none mb = by mb.t8 where
  by : (t8 : Bool) → luma_blocks (record mb { luma = replicate 4 (replicate 64 (pos 0)); t8 = t8 }) ≡ replicate 16 (replicate 16 (pos 0))
  by true = refl
  by false = refl

pub luma_none_read : (sides : Sides) (luma max bound : ℕ) (mb : Mb) (bits : List Bool) → luma ≡ 0 → (max ≡ 15) ⊎ (max ≡ 16)
    → (let new = record mb { luma = replicate 4 (replicate 64 (pos 0)) } in AreLumaBlocks luma max bound (luma_blocks new) × (bits ≡ luma_text sides luma max (luma_blocks new) ++ bits))
luma_none_read sides luma max bound mb bits e size =
    let new : Mb = record mb { luma = replicate 4 (replicate 64 (pos 0)) } in
    let P : ℕ → Type 0 = λ n. AreLumaBlocks n max bound (luma_blocks new) × (bits ≡ luma_text sides n max (luma_blocks new) ++ bits) in
    let Q : List (List ℤ) → Type 0 = λ blocks. AreLumaBlocks 0 max bound blocks in
    subst P (sym e) (subst Q (sym (luma_blocks-none mb)) (luma_none max bound size), sym (ap (λ t. t ++ bits) (luma_text-none sides max (luma_blocks new))))

pub luma_none_written : (sides : Sides) (luma max : ℕ) (blocks : List (List ℤ)) (bits : List Bool) → luma ≡ 0 → Appended bits bits (luma_text sides luma max blocks)
luma_none_written sides luma max blocks bits e =
    let P : ℕ → Type 0 = λ n. Appended bits bits (luma_text sides n max blocks) in
    subst P (sym e) record { is = sym (ap (λ t. bits ++ t) (luma_text-none sides max blocks) ∙ append-nil bits) }

pub luma_block_written : (sides : Sides) (luma max : ℕ) (counts : List ℕ) (block : List ℤ) (bits : List Bool) → is_coded luma counts ≡ false → Appended bits bits (luma_block_text sides luma max counts block)
luma_block_written sides luma max counts block bits e =
    record { is = sym (ap (λ t. bits ++ t) (luma_block_text-unsent sides luma max counts block e) ∙ append-nil bits) }

pub luma_block_read : (sides : Sides) (luma max bound : ℕ) (counts : List ℕ) (block : List ℤ) (bits : List Bool) → (max ≡ 15) ⊎ (max ≡ 16) → is_coded luma counts ≡ false → block ≡ replicate 16 (pos 0)
    → IsLumaBlock luma max bound counts block × (bits ≡ luma_block_text sides luma max counts block ++ bits)
luma_block_read sides luma max bound counts block bits size e zeros =
    let P : List ℤ → Type 0 = λ b. IsLumaBlock luma max bound counts b in
    (subst P (sym zeros) (luma_block_unsent luma max bound counts size e), sym (ap (λ t. t ++ bits) (luma_block_text-unsent sides luma max counts block e)))

pub counted-none : (counts more : List ℕ) (block : List ℤ) → block ≡ replicate 16 (pos 0) → more ≡ counts ++ 0 ∷ [] → more ≡ counted counts block
counted-none counts more block zeros e = e ∙ ap (λ n. counts ++ n ∷ []) (sym (ap total_coeff zeros))

-- ---- chroma

pub chroma_text-none : (sides : Sides) (blocks : List (List ℤ)) → chroma_text sides false blocks ≡ []
chroma_text-none sides blocks = turns_without_text (chroma_block_text sides false) counted (λ s x. refl) [] blocks

pub chroma_none : (bound : ℕ) → AreChromaBlocks false bound (replicate 4 (replicate 15 (pos 0)))
chroma_none bound = turns_of_one (IsChromaBlock false bound) counted (replicate 15 (pos 0)) (λ s. refl) 4 []

pub chroma_none_read : (sides : Sides) (coded : Bool) (bound : ℕ) (bits : List Bool) → coded ≡ false
    → (let new = replicate 4 (replicate 15 (pos 0)) in AreChromaBlocks coded bound new × (bits ≡ chroma_text sides coded new ++ bits))
chroma_none_read sides coded bound bits e =
    let new : List (List ℤ) = replicate 4 (replicate 15 (pos 0)) in
    let P : Bool → Type 0 = λ b. AreChromaBlocks b bound new × (bits ≡ chroma_text sides b new ++ bits) in
    subst P (sym e) (chroma_none bound, sym (ap (λ t. t ++ bits) (chroma_text-none sides new)))

pub chroma_none_written : (sides : Sides) (coded : Bool) (blocks : List (List ℤ)) (bits : List Bool) → coded ≡ false → Appended bits bits (chroma_text sides coded blocks)
chroma_none_written sides coded blocks bits e =
    let P : Bool → Type 0 = λ b. Appended bits bits (chroma_text sides b blocks) in
    subst P (sym e) record { is = sym (ap (λ t. bits ++ t) (chroma_text-none sides blocks) ∙ append-nil bits) }

-- ---- lists that are sent without levels

pub empty_written : {T E : Type 0} (coded : Bool) (m nc : ℤ) (levels : List ℤ) (old new : List Bool) (r : Result T E) → coded ≡ true → m ≡ nc → Appends old new (block_text m levels) r → Appends old new (list_text coded nc levels) r
empty_written coded m nc levels old new r e same written =
    let P : Bool → Type 0 = λ b. Appends old new (list_text b nc levels) r in
    let Q : ℤ → Type 0 = λ n. Appends old new (block_text n levels) r in
    subst P (sym e) (subst Q same written)

count_of : (xs ys : List ℤ) → total_coeff xs ≤ total_coeff (xs ++ ys)
count_of [] ys = omega arith
count_of (x ∷ xs) ys = by (is_nonzero x) (count_of xs ys)
  where
    by : (b : Bool) → total_coeff xs ≤ total_coeff (xs ++ ys) → length (cond b (x ∷ filter is_nonzero xs) (filter is_nonzero xs)) ≤ length (cond b (x ∷ filter is_nonzero (xs ++ ys)) (filter is_nonzero (xs ++ ys)))
    by true h = omega (arith, h)
    by false h = h

pub none_in_front : (n : ℕ) (xs : List ℤ) (total : ℕ) → total ≡ total_coeff xs → total ≡ 0 → total_coeff (take n xs) ≡ 0
none_in_front n xs total e none = omega (arith, e, none, ap total_coeff (take-append-drop n xs), count_of (take n xs) (drop n xs))
