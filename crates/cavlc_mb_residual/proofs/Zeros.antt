-- Lists of which all levels are 0 count none, nor do their parts.
use Rattle.std.proofs.Common.{◌≡◌, ℕ, zero, suc, ◌+◌, ◌*◌, ◌/◌, ◌%◌, ◌<◌, ℤ, pos, Bool, true, false, cond, List, [], ◌∷◌, length, take, drop, get_or, refl, sym, ap, subst, ◌∙◌, arith, length-append}
use Rattle.std.specs.Prelude.{All, filter, replicate, slice_index_or, ◌==◌}
use Rattle.std.specs.Int.{bit_at}
use Rattle.std.proofs.lemmas.Bool.{false≢true}
use Rattle.std.proofs.lemmas.List.{take-append-drop}
use Rattle.std.proofs.lemmas.List.Elements.{filter-append, All-head, All-tail}
use Rattle.h264_types.specs.declared.macroblock.Mb.{Mb}
use Rattle.h264_types.specs.Macroblock.{quarter_of, luma_block, block_of, pattern_of}
use Rattle.h264_types.specs.Valid.{IsWithin, luma_bound, IsCoded}
use Rattle.h264_types.proofs.Zeros.{zero_levels}
use Rattle.cavlc_mb_residual.specs.Counts.{chroma_block}
use Rattle.cavlc_residual.specs.Block.{is_nonzero, total_coeff}
use Rattle.cavlc_residual.proofs.ScanLemmas.{zero_is}
use Rattle.cavlc_mb_residual.specs.LumaBlocks.{sixteen, every_fourth, sent_block}

-- each of them is 0
pub zero_at : (xs : List ℤ) → total_coeff xs ≡ 0 → (k : ℕ) → get_or xs k (pos 0) ≡ pos 0
zero_at [] e k = refl
zero_at (x ∷ xs) e k = by (is_nonzero x) refl (λ h j. zero_at xs h j) k
  where
    by : (b : Bool) → is_nonzero x ≡ b → (total_coeff xs ≡ 0 → (j : ℕ) → get_or xs j (pos 0) ≡ pos 0) → (i : ℕ) → get_or (x ∷ xs) i (pos 0) ≡ pos 0
    by true is others i = absurd (omega (arith, sym (ap (λ c. length (cond c (x ∷ filter is_nonzero xs) (filter is_nonzero xs))) is) ∙ e))
    by false is others zero = zero_is x is
    by false is others (suc i) = others (sym (ap (λ c. length (cond c (x ∷ filter is_nonzero xs) (filter is_nonzero xs))) is) ∙ e) i

parts : (n : ℕ) (xs : List ℤ) → total_coeff xs ≡ total_coeff (take n xs) + total_coeff (drop n xs)
parts n xs = ap total_coeff (sym (take-append-drop n xs)) ∙ (ap length (filter-append is_nonzero (take n xs) (drop n xs)) ∙ length-append (filter is_nonzero (take n xs)) (filter is_nonzero (drop n xs)))

pub front_none : (n : ℕ) (xs : List ℤ) → total_coeff xs ≡ 0 → total_coeff (take n xs) ≡ 0
front_none n xs e = omega (arith, e, parts n xs)

block_none : (xs : List ℤ) (k : ℕ) → total_coeff xs ≡ 0 → total_coeff (block_of xs k) ≡ 0
block_none xs k e = omega (arith, e, parts (16 * k) xs, parts 16 (drop (16 * k) xs))

sixteen_none : (f : ℕ → ℤ) → ((k : ℕ) → f k ≡ pos 0) → total_coeff (sixteen f) ≡ 0
unfolding sixteen
sixteen_none f h = rw (h 0, h 1, h 2, h 3, h 4, h 5, h 6, h 7, h 8, h 9, h 10, h 11, h 12, h 13, h 14, h 15) refl

-- the lists that are sent of a quarter without levels
pub none_sent : (mb : Mb) (q k : ℕ) → k < 4 → total_coeff (quarter_of mb q) ≡ 0 → total_coeff (sent_block mb (4 * q + k)) ≡ 0
none_sent mb q k h e = by mb.t8
  where
    place : (4 * q + k) / 4 ≡ q
    place = omega arith

    by : (b : Bool) → total_coeff (cond b (every_fourth (quarter_of mb ((4 * q + k) / 4)) ((4 * q + k) % 4)) (luma_block mb (4 * q + k))) ≡ 0
    by true = ap (λ m. total_coeff (every_fourth (quarter_of mb m) ((4 * q + k) % 4))) place ∙ sixteen_none (λ j. slice_index_or (quarter_of mb q) (4 * j + (4 * q + k) % 4) (pos 0)) (λ j. zero_at (quarter_of mb q) e (4 * j + (4 * q + k) % 4))
    by false = ap (λ m. total_coeff (block_of (quarter_of mb m) ((4 * q + k) % 4))) place ∙ block_none (quarter_of mb q) ((4 * q + k) % 4) e

-- ---- the levels that a pattern doesn't send

zeros_none : (n : ℕ) → total_coeff (replicate n (pos 0)) ≡ 0
zeros_none zero = refl
zeros_none (suc n) = zeros_none n

none_within : (xs : List ℤ) → IsWithin 0 xs → total_coeff xs ≡ 0
none_within xs h = ap total_coeff (zero_levels (length xs) 0 xs refl refl h) ∙ zeros_none (length xs)

lists_none : (xs : List (List ℤ)) → All (IsWithin 0) xs → (n : ℕ) → total_coeff (get_or xs n []) ≡ 0
lists_none [] h n = refl
lists_none (x ∷ xs) h zero = none_within x (All-head (IsWithin 0) x xs h)
lists_none (x ∷ xs) h (suc n) = lists_none xs (All-tail (IsWithin 0) x xs h) n

quarter_none : (mb : Mb) → IsCoded mb → (q : ℕ) → q < 4 → (bit_at (pattern_of mb).luma q == 1) ≡ false → total_coeff (quarter_of mb q) ≡ 0
quarter_none mb coded q below e =
    let bound : luma_bound mb q ≡ 0 = ap (λ b. cond b 65535 0) e in
    none_within (quarter_of mb q) (subst (λ n. IsWithin n (quarter_of mb q)) bound (coded.luma.quarters q below).levels)

-- the quarters whose bits are 0
pub unsent_quarters : (mb : Mb) (s t u v : Bool) → IsCoded mb → s ≡ (bit_at (pattern_of mb).luma 0 == 1) → t ≡ (bit_at (pattern_of mb).luma 1 == 1) → u ≡ (bit_at (pattern_of mb).luma 2 == 1) → v ≡ (bit_at (pattern_of mb).luma 3 == 1)
    → (q : ℕ) → get_or (s ∷ t ∷ u ∷ v ∷ []) q true ≡ false → total_coeff (quarter_of mb q) ≡ 0
unsent_quarters mb s t u v coded a b c d zero e = quarter_none mb coded 0 (omega arith) (sym a ∙ e)
unsent_quarters mb s t u v coded a b c d (suc zero) e = quarter_none mb coded 1 (omega arith) (sym b ∙ e)
unsent_quarters mb s t u v coded a b c d (suc (suc zero)) e = quarter_none mb coded 2 (omega arith) (sym c ∙ e)
unsent_quarters mb s t u v coded a b c d (suc (suc (suc zero))) e = quarter_none mb coded 3 (omega arith) (sym d ∙ e)
unsent_quarters mb s t u v coded a b c d (suc (suc (suc (suc q)))) e = absurd (false≢true (sym e))

-- the AC blocks
pub unsent_cb : (mb : Mb) (s : Bool) → IsCoded mb → s ≡ ((pattern_of mb).chroma == 2) → s ≡ false → (n : ℕ) → total_coeff (chroma_block mb 0 n) ≡ 0
unsent_cb mb s coded a e n = lists_none (slice_index_or mb.chroma_ac 0 []) (subst (λ k. All (IsWithin k) (slice_index_or mb.chroma_ac 0 [])) (ap (λ b. cond b 65535 0) (sym a ∙ e)) coded.chroma.cb_ac) n

pub unsent_cr : (mb : Mb) (s : Bool) → IsCoded mb → s ≡ ((pattern_of mb).chroma == 2) → s ≡ false → (n : ℕ) → total_coeff (chroma_block mb 1 n) ≡ 0
unsent_cr mb s coded a e n = lists_none (slice_index_or mb.chroma_ac 1 []) (subst (λ k. All (IsWithin k) (slice_index_or mb.chroma_ac 1 [])) (ap (λ b. cond b 65535 0) (sym a ∙ e)) coded.chroma.cr_ac) n
