-- The residuals that have a text are the valid ones.
use Rattle.std.proofs.Common.{◌≡◌, ◌↔◌, ℕ, zero, suc, ◌+◌, ◌-◌, ◌*◌, ◌/◌, ◌%◌, ◌<◌, ◌≤◌, ℤ, pos, negsuc, Bool, true, false, List, [], ◌∷◌, ◌++◌, length, take, drop, get_or, filter, reverse, replicate, refl, sym, ap, subst, ◌∙◌, arith, length-append}
use Rattle.std.specs.Prelude.{All, if◌then◌else◌, ◌||◌, unsigned_abs}
use Rattle.std.specs.List.{AllByRecursion, list_any}
use Rattle.std.proofs.lemmas.List.{get_or_default, append-nil, reverse-append, take-append-drop, length-take-le, length-drop, drop_all, get_or-drop}
use Rattle.std.proofs.lemmas.List.Elements.{All-take, All-drop, All-append, All-head, All-tail, All-from_recursion, recursion_from_All}
use Rattle.bit_texts.specs.Bits.{bit}
use Rattle.bit_texts.specs.Texts.{AreTurns}
use Rattle.cavlc_residual.specs.Coefficients.{magnitude}
use Rattle.cavlc_residual.specs.Block.{is_nonzero, total_coeff, levels_above, is_beyond}
use Rattle.cavlc_residual.proofs.BlockLemmas.{never_beyond}
use Rattle.cavlc_residual.proofs.ScanLemmas.{reverse-zeros, filter-zeros}
use Rattle.h264_types.specs.Kind.{is_i_16x16}
use Rattle.h264_types.specs.Macroblock.{quarter_of, pattern_of}
use Rattle.h264_types.specs.Valid.{IsWithin, chroma_dc_bound, IsQuarterCoded, IsLumaCoded, IsChromaCoded}
use Rattle.h264_types.specs.declared.macroblock.Mb.{Mb}
use Rattle.h264_types.specs.declared.macroblock.Pattern.{Pattern}
use Rattle.cavlc_mb_residual.specs.LumaBlocks.{every_fourth, sent_block, luma_blocks}
use Rattle.cavlc_mb_residual.specs.Residual.{IsList, IsSixteen, counted, is_coded, IsLumaBlock, AreLumaBlocks, IsChromaBlock, AreChromaBlocks}
use Rattle.h264_types.specs.Sizes.{HasSizes}
use Rattle.cavlc_mb_residual.specs.MacroblockResidual.{IsResidual, AreSmallLevels, max_of, dc_of, ac_of, has_chroma_dc, has_chroma_ac, is_beyond_mb}
use Rattle.cavlc_mb_residual.proofs.Firsts.{length-sixteen, get_or-sixteen}
use Rattle.cavlc_mb_residual.proofs.Quarters.{list_in, list_of, place_in, list_below, place_below, length-list, level_of_turn, at_block, in_list, quarter_size, list_at}
use Rattle.h264_types.proofs.Lists.{two_all}
use Rattle.h264_types.proofs.Zeros.{zero_levels, zero_lists, zeros_within}
use Rattle.cavlc_mb_residual.proofs.BeyondLaws.{any_none, all_get, each_turn}

-- ---- zeros need no level_prefix

not_beyond-zeros : (bound n : ℕ) → is_beyond bound (replicate n (pos 0)) ≡ false
not_beyond-zeros bound n =
    ap (λ t. levels_above bound (filter is_nonzero t)) (reverse-zeros n ∙ sym (append-nil (replicate n (pos 0)))) ∙ ap (levels_above bound) (filter-zeros n [])

beyond-zeros : (bound n : ℕ) (xs : List ℤ) → is_beyond bound (xs ++ replicate n (pos 0)) ≡ is_beyond bound xs
beyond-zeros bound n xs =
    ap (λ t. levels_above bound (filter is_nonzero t)) (reverse-append xs (replicate n (pos 0)) ∙ ap (λ t. t ++ reverse xs) (reverse-zeros n)) ∙ ap (levels_above bound) (filter-zeros n (reverse xs))

-- the places behind a list are 0
beyond-front : (bound max n : ℕ) (block : List ℤ) → drop max block ≡ replicate n (pos 0) → is_beyond bound (take max block) ≡ is_beyond bound block
beyond-front bound max n block e =
    sym (beyond-zeros bound n (take max block)) ∙ ap (λ t. is_beyond bound (take max block ++ t)) (sym e) ∙ ap (is_beyond bound) (take-append-drop max block)

-- ---- lists of levels and their bounds

abbrev pub level_bound : Bool → ℕ
level_bound coded = if coded then 65535 else 0

same_magnitude : (v : ℤ) → unsigned_abs v ≡ magnitude v
same_magnitude (pos n) = refl
same_magnitude (negsuc n) = refl

pub small_levels : (xs : List ℤ) → IsWithin 65535 xs → AllByRecursion (λ l. magnitude l ≤ 65535) xs
small_levels xs h = recursion_from_All (λ l. magnitude l ≤ 65535) xs (λ k d below. omega (arith, h k d below, same_magnitude (get_or xs k d)))

pub levels_within : (xs : List ℤ) → AllByRecursion (λ l. magnitude l ≤ 65535) xs → IsWithin 65535 xs
levels_within xs h k d below =
    let small = All-from_recursion (λ l. magnitude l ≤ 65535) xs h k d below in omega (arith, small, same_magnitude (get_or xs k d))

to_list : (coded : Bool) (max : ℕ) (xs : List ℤ) → length xs ≡ max → IsWithin (level_bound coded) xs → IsList coded max 20 xs
to_list true max xs e h = record { size = e; small = small_levels xs h; within = never_beyond xs (small_levels xs h) }
to_list false max xs e h = zero_levels max 0 xs refl e h

from_list : (coded : Bool) (max bound : ℕ) (xs : List ℤ) → IsList coded max bound xs → IsWithin (level_bound coded) xs
from_list true max bound xs is = levels_within xs is.small
from_list false max bound xs is = subst (IsWithin 0) (sym is) (zeros_within 0 max)

list_not_beyond : (coded : Bool) (max bound : ℕ) (xs : List ℤ) → IsList coded max bound xs → is_beyond bound xs ≡ false
list_not_beyond true max bound xs is = is.within
list_not_beyond false max bound xs is = ap (is_beyond bound) is ∙ not_beyond-zeros bound max

list_within : (coded : Bool) (max bound : ℕ) (xs : List ℤ) → IsList coded max 20 xs → is_beyond bound xs ≡ false → IsList coded max bound xs
list_within true max bound xs is none = record { size = is.size; small = is.small; within = none }
list_within false max bound xs is none = is

-- ---- so many values, and each of them

pub turns_of : {S A : Type 0} (Is : S → A → Type 0) (next : S → A → S) (P : A → Type 0) → ((s : S) (x : A) → P x → Is s x) → (n : ℕ) (s : S) (xs : List A) → length xs ≡ n → All P xs → AreTurns Is next n s xs
unfolding AreTurns
turns_of Is next P each zero s [] e all = tt
turns_of Is next P each zero s (x ∷ xs) e all = absurd (omega (arith, e))
turns_of Is next P each (suc n) s [] e all = absurd (omega (arith, e))
turns_of Is next P each (suc n) s (x ∷ xs) e all = (each s x (All-head P x xs all), turns_of Is next P each n (next s x) xs (omega (arith, e)) (All-tail P x xs all))

turns_with : {S A : Type 0} (Is Is' : S → A → Type 0) (next : S → A → S) (P : A → Type 0) → ((s : S) (x : A) → Is s x → P x → Is' s x) → (n : ℕ) (s : S) (xs : List A) → AreTurns Is next n s xs → AllByRecursion P xs → AreTurns Is' next n s xs
unfolding AreTurns
turns_with Is Is' next P each zero s [] are all = tt
turns_with Is Is' next P each zero s (x ∷ xs) are all = absurd are
turns_with Is Is' next P each (suc n) s [] are all = absurd are
turns_with Is Is' next P each (suc n) s (x ∷ xs) are all = (each s x are.0 all.0, turns_with Is Is' next P each n (next s x) xs are.1 all.1)

length-counted : (counts : List ℕ) (x : List ℤ) → length (counted counts x) ≡ suc (length counts)
length-counted counts x = length-append counts (total_coeff x ∷ []) ∙ omega arith

-- the state tells the place
at_turn : (P : ℕ → List ℤ → Type 0) (n : ℕ) (counts : List ℕ) (xs : List (List ℤ)) → AreTurns (λ (c : List ℕ) x. P (length c) x) counted n counts xs → (i : ℕ) → i < n → P (length counts + i) (get_or xs i [])
unfolding AreTurns
at_turn P zero counts xs are i h = absurd (omega arith)
at_turn P (suc n) counts [] are i h = absurd are
at_turn P (suc n) counts (x ∷ xs) are zero h = subst (λ k. P k x) (omega arith) are.0
at_turn P (suc n) counts (x ∷ xs) are (suc i) h =
    subst (λ k. P k (get_or xs i [])) (omega (arith, length-counted counts x)) (at_turn P n (counted counts x) xs are.1 i (omega arith))

turns_at : (P : ℕ → List ℤ → Type 0) (n : ℕ) (counts : List ℕ) (xs : List (List ℤ)) → length xs ≡ n → ((i : ℕ) → i < n → P (length counts + i) (get_or xs i [])) → AreTurns (λ (c : List ℕ) x. P (length c) x) counted n counts xs
unfolding AreTurns
turns_at P zero counts [] e all = tt
turns_at P zero counts (x ∷ xs) e all = absurd (omega (arith, e))
turns_at P (suc n) counts [] e all = absurd (omega (arith, e))
turns_at P (suc n) counts (x ∷ xs) e all = (
  subst (λ k. P k x) (omega arith) (all 0 (omega arith)),
  turns_at P n (counted counts x) xs (omega (arith, e)) (λ i below.
      subst (λ k. P k (get_or xs i [])) (omega (arith, length-counted counts x)) (all (suc i) (omega arith))),
)

at_each : (P : ℕ → List ℤ → Type 0) (n : ℕ) (xs : List (List ℤ)) → AreTurns (λ (c : List ℕ) x. P (length c) x) counted n [] xs → (i : ℕ) → i < n → P i (get_or xs i [])
at_each P n xs are i h = subst (λ k. P k (get_or xs i [])) (omega arith) (at_turn P n [] xs are i h)

turns_each : (P : ℕ → List ℤ → Type 0) (n : ℕ) (xs : List (List ℤ)) → length xs ≡ n → ((i : ℕ) → i < n → P i (get_or xs i [])) → AreTurns (λ (c : List ℕ) x. P (length c) x) counted n [] xs
turns_each P n xs e all = turns_at P n [] xs e (λ i h. subst (λ k. P k (get_or xs i [])) (omega arith) (all i h))

-- ---- the quarters of the luma levels, and their lists

quarter_within : (t8 : Bool) (bound : ℕ) (xs : List ℤ) → length xs ≡ 64 → ((k : ℕ) → k < 4 → IsWithin bound (list_in t8 xs k)) → IsWithin bound xs
quarter_within t8 bound xs e lists i d below =
    let inside : i < 64 = omega (arith, below, e) in
    let k = list_below t8 i inside in
    subst (λ v. unsigned_abs v ≤ bound) (in_list t8 xs i inside ∙ get_or_default xs i (pos 0) d below)
    (lists (list_of t8 i) k (place_in t8 i) (pos 0) (omega (arith, length-list t8 xs (list_of t8 i) e k, place_below t8 i inside)))

list_within_quarter : (t8 : Bool) (bound : ℕ) (xs : List ℤ) (k : ℕ) → length xs ≡ 64 → k < 4 → IsWithin bound xs → IsWithin bound (list_in t8 xs k)
list_within_quarter true bound xs k e lt h = λ i d below.
    let inside : i < 16 = omega (arith, below, length-list true xs k e lt) in
    subst (λ v. unsigned_abs v ≤ bound) (sym (level_of_turn xs k i inside) ∙ get_or_default (every_fourth xs k) i (pos 0) d below) (h (4 * i + k) (pos 0) (omega (arith, inside, lt, e)))
list_within_quarter false bound xs k e lt h = All-take (λ value. unsigned_abs value ≤ bound) 16 (drop (16 * k) xs) (All-drop (λ value. unsigned_abs value ≤ bound) (16 * k) xs h)

-- ---- one luma block, from its quarter and back

to_sixteen : (coded is_16x16 : Bool) (block : List ℤ) → length block ≡ 16 → IsWithin (level_bound coded) block → unsigned_abs (get_or block 15 (pos 0)) ≤ (if is_16x16 then 0 else 65535) → IsSixteen coded (max_of is_16x16) 20 block
to_sixteen coded true block e h last = record {
  levels = to_list coded 15 (take 15 block) (length-take-le 15 block (omega (arith, e))) (All-take (λ value. unsigned_abs value ≤ level_bound coded) 15 block h);
  others = zero_levels 1 0 (drop 15 block) refl (omega (arith, length-drop 15 block, e)) (at (drop 15 block) (omega (arith, length-drop 15 block, e)) (get_or-drop 15 block 0 (pos 0)));
}
  where
    at : (xs : List ℤ) → length xs ≡ 1 → get_or xs 0 (pos 0) ≡ get_or block 15 (pos 0) → IsWithin 0 xs
    at xs one same zero d below = rw (get_or_default xs 0 d (pos 0) below, same) last
    at xs one same (suc k) d below = absurd (omega (arith, one, below))
to_sixteen coded false block e h last = record {
  levels = to_list coded 16 (take 16 block) (length-take-le 16 block (omega (arith, e))) (All-take (λ value. unsigned_abs value ≤ level_bound coded) 16 block h);
  others = drop_all 16 block (omega (arith, e));
}

from_sixteen : (coded : Bool) (max bound : ℕ) (block : List ℤ) → IsSixteen coded max bound block → IsWithin (level_bound coded) block
from_sixteen coded max bound block is =
    subst (IsWithin (level_bound coded)) (take-append-drop max block)
    (All-append (λ value. unsigned_abs value ≤ level_bound coded) (take max block) (drop max block) (from_list coded max bound (take max block) is.levels)
    (subst (IsWithin (level_bound coded)) (sym is.others) (zeros_within (level_bound coded) (16 - max))))

pub level_bound-most : (coded : Bool) → level_bound coded ≤ 65535
level_bound-most true = omega arith
level_bound-most false = omega arith

last_place : (coded is_16x16 : Bool) (bound : ℕ) (block : List ℤ) → length block ≡ 16 → IsSixteen coded (max_of is_16x16) bound block → unsigned_abs (get_or block 15 (pos 0)) ≤ (if is_16x16 then 0 else 65535)
last_place coded true bound block e is =
    let last : get_or block 15 (pos 0) ≡ pos 0 = sym (get_or-drop 15 block 0 (pos 0)) ∙ ap (λ xs. get_or xs 0 (pos 0)) is.others in rw last (omega arith)
last_place coded false bound block e is =
    let within = from_sixteen coded 16 bound block is 15 (pos 0) (omega (arith, e)) in omega (arith, within, level_bound-most coded)

sixteen_not_beyond : (coded : Bool) (max bound : ℕ) (block : List ℤ) → IsSixteen coded max bound block → is_beyond bound block ≡ false
sixteen_not_beyond coded max bound block is =
    sym (beyond-front bound max (16 - max) block is.others) ∙ list_not_beyond coded max bound (take max block) is.levels

sixteen_within : (coded : Bool) (max bound : ℕ) (block : List ℤ) → IsSixteen coded max 20 block → is_beyond bound block ≡ false → IsSixteen coded max bound block
sixteen_within coded max bound block is none = record {
  levels = list_within coded max bound (take max block) is.levels (beyond-front bound max (16 - max) block is.others ∙ none);
  others = is.others;
}

-- ---- all luma blocks

abbrev IsPlace : ℕ → Bool → ℕ → ℕ → List ℤ → Type 0
IsPlace luma is_16x16 bound n block = IsSixteen (bit luma (n / 4)) (max_of is_16x16) bound block

-- the last place of a list: that of a block, where I_16x16 sends nothing, or one of the 8x8 transform
to_last : (t8 coded is_16x16 : Bool) (xs : List ℤ) (k : ℕ) → length xs ≡ 64 → k < 4 → (t8 ≡ true → is_16x16 ≡ false) → IsWithin (level_bound coded) xs
    → unsigned_abs (get_or xs (16 * k + 15) (pos 0)) ≤ (if is_16x16 then 0 else 65535) → unsigned_abs (get_or (list_in t8 xs k) 15 (pos 0)) ≤ (if is_16x16 then 0 else 65535)
to_last false coded is_16x16 xs k e lt only within last = rw (at_block xs k 15 (pos 0) (omega arith)) last
to_last true coded is_16x16 xs k e lt only within last =
    let every = list_within_quarter true (level_bound coded) xs k e lt within 15 (pos 0) (omega (arith, length-list true xs k e lt)) in
    rw (only refl) (omega (arith, every, level_bound-most coded))

from_last : (t8 coded is_16x16 : Bool) (xs : List ℤ) (k : ℕ) → length xs ≡ 64 → k < 4 → (t8 ≡ true → is_16x16 ≡ false) → IsWithin (level_bound coded) xs
    → unsigned_abs (get_or (list_in t8 xs k) 15 (pos 0)) ≤ (if is_16x16 then 0 else 65535) → unsigned_abs (get_or xs (16 * k + 15) (pos 0)) ≤ (if is_16x16 then 0 else 65535)
from_last false coded is_16x16 xs k e lt only within last = rw (← (at_block xs k 15 (pos 0) (omega arith))) last
from_last true coded is_16x16 xs k e lt only within last =
    let every = within (16 * k + 15) (pos 0) (omega (arith, e, lt)) in
    rw (only refl) (omega (arith, every, level_bound-most coded))

-- I_16x16 has no 8x8 transform
abbrev pub HasTransform : Mb → Type 0
HasTransform mb = mb.t8 ≡ true → is_i_16x16 mb.kind ≡ false

to_luma : (mb : Mb) → HasSizes mb → HasTransform mb → ((q : ℕ) → q < 4 → IsQuarterCoded mb q) → AreLumaBlocks (pattern_of mb).luma (max_of (is_i_16x16 mb.kind)) 20 (luma_blocks mb)
to_luma mb sizes only quarters =
    turns_each (IsPlace (pattern_of mb).luma (is_i_16x16 mb.kind) 20) 16 (luma_blocks mb) (length-sixteen (sent_block mb)) (λ n below.
    let row : n / 4 < 4 = omega (arith, below) in
    let place : n % 4 < 4 = omega arith in
    let coded = bit (pattern_of mb).luma (n / 4) in
    let levels = quarter_of mb (n / 4) in
    let size = quarter_size mb (n / 4) row sizes in
    let quarter = quarters (n / 4) row in
    subst (IsPlace (pattern_of mb).luma (is_i_16x16 mb.kind) 20 n) (sym (get_or-sixteen (sent_block mb) n [] below))
    (to_sixteen coded (is_i_16x16 mb.kind) (list_in mb.t8 levels (n % 4)) (length-list mb.t8 levels (n % 4) size place) (list_within_quarter mb.t8 (level_bound coded) levels (n % 4) size place quarter.levels)
    (to_last mb.t8 coded (is_i_16x16 mb.kind) levels (n % 4) size place only quarter.levels (quarter.last (n % 4) place))))

-- list k of quarter q
luma_list : (mb : Mb) (is_16x16 : Bool) (luma bound : ℕ) → AreLumaBlocks luma (max_of is_16x16) bound (luma_blocks mb) → (q k : ℕ) → q < 4 → k < 4 → IsSixteen (bit luma q) (max_of is_16x16) bound (list_in mb.t8 (quarter_of mb q) k)
luma_list mb is_16x16 luma bound are q k row place =
    let n : ℕ = 4 * q + k in
    let inside : n < 16 = omega arith in
    let same : n / 4 ≡ q = omega arith in
    let here : IsPlace luma is_16x16 bound n (get_or (luma_blocks mb) n []) = at_each (IsPlace luma is_16x16 bound) 16 (luma_blocks mb) are n inside in
    subst (IsSixteen (bit luma q) (max_of is_16x16) bound) (sym (list_at mb q k row place)) (subst (λ r. IsSixteen (bit luma r) (max_of is_16x16) bound (get_or (luma_blocks mb) n [])) same here)

from_luma : (mb : Mb) (bound : ℕ) → HasSizes mb → HasTransform mb → AreLumaBlocks (pattern_of mb).luma (max_of (is_i_16x16 mb.kind)) bound (luma_blocks mb) → (q : ℕ) → q < 4 → IsQuarterCoded mb q
from_luma mb bound sizes only are q row =
    let size = quarter_size mb q row sizes in
    let coded = bit (pattern_of mb).luma q in
    let levels = quarter_of mb q in
    let list = luma_list mb (is_i_16x16 mb.kind) (pattern_of mb).luma bound are q in
    let within : IsWithin (level_bound coded) levels =
    quarter_within mb.t8 (level_bound coded) levels size (λ k place. from_sixteen coded (max_of (is_i_16x16 mb.kind)) bound (list_in mb.t8 levels k) (list k row place)) in
    record {
      levels = within;
      last = λ k place.
          from_last mb.t8 coded (is_i_16x16 mb.kind) levels k size place only within
          (last_place coded (is_i_16x16 mb.kind) bound (list_in mb.t8 levels k) (length-list mb.t8 levels k size place) (list k row place));
    }

-- the levels of a luma whose lists are in range
pub luma_in_range : (mb : Mb) → HasSizes mb → AllByRecursion AreSmallLevels (luma_blocks mb) → (q : ℕ) → q < 4 → IsWithin 65535 (quarter_of mb q)
luma_in_range mb sizes small q row =
    quarter_within mb.t8 65535 (quarter_of mb q) (quarter_size mb q row sizes) (λ k place.
    let inside : 4 * q + k < length (luma_blocks mb) = omega (arith, row, place, length-sixteen (sent_block mb)) in
    subst (IsWithin 65535) (sym (list_at mb q k row place)) (levels_within (get_or (luma_blocks mb) (4 * q + k) []) (all_get AreSmallLevels (luma_blocks mb) (4 * q + k) small inside)))

-- ---- chroma, and the whole residual

to_chroma : (coded : Bool) (blocks : List (List ℤ)) → length blocks ≡ 4 → All (λ block. length block ≡ 15) blocks → All (IsWithin (level_bound coded)) blocks → AreChromaBlocks coded 20 blocks
to_chroma coded blocks e sizes within =
    turns_of (IsChromaBlock coded 20) counted (IsList coded 15 20) (λ s x is. is) 4 [] blocks e (λ k d below. to_list coded 15 (get_or blocks k d) (sizes k d below) (within k d below))

to_dc : (coded : Bool) (lists : List (List ℤ)) (x : ℕ) → x < 2 → length lists ≡ 2 → AllByRecursion (λ list. length list ≡ 4) lists → All (IsWithin (level_bound coded)) lists → IsList coded 4 20 (get_or lists x [])
to_dc coded lists x h two sizes within =
    let inside : x < length lists = omega (arith, two) in
    to_list coded 4 (get_or lists x []) (All-from_recursion (λ list. length list ≡ 4) lists sizes x [] inside) (within x [] inside)

to_ac : (mb : Mb) (coded : Bool) (x : ℕ) → x < 2 → HasSizes mb → All (IsWithin (level_bound coded)) (ac_of x mb) → AreChromaBlocks coded 20 (ac_of x mb)
to_ac mb coded x h sizes within =
    let size = All-from_recursion (λ (blocks : List (List ℤ)). (length blocks ≡ 4) × AllByRecursion (λ block. length block ≡ 15) blocks) mb.chroma_ac sizes.chroma_ac.1 x [] (omega (arith, sizes.chroma_ac.0)) in
    to_chroma coded (ac_of x mb) size.0 (All-from_recursion (λ block. length block ≡ 15) (ac_of x mb) size.1) within

pub to_residual : (mb : Mb) → HasSizes mb → HasTransform mb → IsLumaCoded mb → IsChromaCoded mb → IsResidual (is_i_16x16 mb.kind) (pattern_of mb) 20 mb
to_residual mb sizes only luma chroma = record {
  dc = to_list (is_i_16x16 mb.kind) 16 mb.dc sizes.dc luma.dc;
  luma = to_luma mb sizes only luma.quarters;
  cb_dc = to_dc (has_chroma_dc (pattern_of mb)) mb.chroma_dc 0 (omega arith) sizes.chroma_dc.0 sizes.chroma_dc.1 chroma.dc;
  cr_dc = to_dc (has_chroma_dc (pattern_of mb)) mb.chroma_dc 1 (omega arith) sizes.chroma_dc.0 sizes.chroma_dc.1 chroma.dc;
  cb_ac = to_ac mb (has_chroma_ac (pattern_of mb)) 0 (omega arith) sizes chroma.cb_ac;
  cr_ac = to_ac mb (has_chroma_ac (pattern_of mb)) 1 (omega arith) sizes chroma.cr_ac;
  sizes = sizes;
}

from_chroma : (coded : Bool) (bound : ℕ) (blocks : List (List ℤ)) → AreChromaBlocks coded bound blocks → All (IsWithin (level_bound coded)) blocks
from_chroma coded bound blocks are =
    All-from_recursion (IsWithin (level_bound coded)) blocks (each_turn (IsChromaBlock coded bound) counted (IsWithin (level_bound coded)) (λ s x is. from_list coded 15 bound x is) 4 [] blocks are)

pub from_residual : (mb : Mb) (bound : ℕ) → HasTransform mb → IsResidual (is_i_16x16 mb.kind) (pattern_of mb) bound mb → IsLumaCoded mb × IsChromaCoded mb
from_residual mb bound only is = (
  record {
    dc = from_list (is_i_16x16 mb.kind) 16 bound mb.dc is.dc;
    quarters = from_luma mb bound is.sizes only is.luma;
  },
  record {
    dc = All-from_recursion (IsWithin (chroma_dc_bound mb)) mb.chroma_dc (two_all (IsWithin (chroma_dc_bound mb)) [] mb.chroma_dc is.sizes.chroma_dc.0
        (from_list (has_chroma_dc (pattern_of mb)) 4 bound (dc_of 0 mb) is.cb_dc) (from_list (has_chroma_dc (pattern_of mb)) 4 bound (dc_of 1 mb) is.cr_dc));
    cb_ac = from_chroma (has_chroma_ac (pattern_of mb)) bound (ac_of 0 mb) is.cb_ac;
    cr_ac = from_chroma (has_chroma_ac (pattern_of mb)) bound (ac_of 1 mb) is.cr_ac;
  },
)

-- ---- level_prefix above the bound

pub none_or : (a b : Bool) → a ≡ false → b ≡ false → (a || b) ≡ false
none_or false b e f = f
none_or true b e f = e

pub not_first : (a b : Bool) → (a || b) ≡ false → a ≡ false
not_first false b e = refl
not_first true b e = e

pub not_second : (a b : Bool) → (a || b) ≡ false → b ≡ false
not_second false b e = e
not_second true b e = absurd (cc)

none_of : (test : List ℤ → Bool) (xs : List (List ℤ)) → AllByRecursion (λ x. test x ≡ false) xs → list_any test xs ≡ false
none_of test [] all = refl
none_of test (x ∷ xs) all = none_or (test x) (list_any test xs) all.0 (none_of test xs all.1)

each_none : (test : List ℤ → Bool) (xs : List (List ℤ)) → list_any test xs ≡ false → AllByRecursion (λ x. test x ≡ false) xs
each_none test [] e = tt
each_none test (x ∷ xs) e = (not_first (test x) (list_any test xs) e, each_none test xs (not_second (test x) (list_any test xs) e))

chroma_not_beyond : (coded : Bool) (bound : ℕ) (blocks : List (List ℤ)) → AreChromaBlocks coded bound blocks → list_any (is_beyond bound) blocks ≡ false
chroma_not_beyond coded bound blocks are =
    none_of (is_beyond bound) blocks (each_turn (IsChromaBlock coded bound) counted (λ x. is_beyond bound x ≡ false) (λ s x is. list_not_beyond coded 15 bound x is) 4 [] blocks are)

luma_not_beyond : (luma max bound : ℕ) (blocks : List (List ℤ)) → AreLumaBlocks luma max bound blocks → list_any (is_beyond bound) blocks ≡ false
luma_not_beyond luma max bound blocks are =
    none_of (is_beyond bound) blocks (each_turn (IsLumaBlock luma max bound) counted (λ x. is_beyond bound x ≡ false) (λ s x is. sixteen_not_beyond (is_coded luma s) max bound x is) 16 [] blocks are)

pub residual_not_beyond : (is_16x16 : Bool) (p : Pattern) (bound : ℕ) (mb : Mb) → IsResidual is_16x16 p bound mb → is_beyond_mb bound mb ≡ false
residual_not_beyond is_16x16 p bound mb is =
    let dcs = two_all (λ x. is_beyond bound x ≡ false) [] mb.chroma_dc is.sizes.chroma_dc.0 (list_not_beyond (has_chroma_dc p) 4 bound (dc_of 0 mb) is.cb_dc) (list_not_beyond (has_chroma_dc p) 4 bound (dc_of 1 mb) is.cr_dc) in
    none_or _ _ (list_not_beyond is_16x16 16 bound mb.dc is.dc)
    (none_or _ _ (luma_not_beyond p.luma (max_of is_16x16) bound (luma_blocks mb) is.luma)
    (none_or _ _ (none_of (is_beyond bound) mb.chroma_dc dcs)
    (none_or _ _ (chroma_not_beyond (has_chroma_ac p) bound (ac_of 0 mb) is.cb_ac) (chroma_not_beyond (has_chroma_ac p) bound (ac_of 1 mb) is.cr_ac))))

chroma_within : (coded : Bool) (bound : ℕ) (blocks : List (List ℤ)) → AreChromaBlocks coded 20 blocks → list_any (is_beyond bound) blocks ≡ false → AreChromaBlocks coded bound blocks
chroma_within coded bound blocks are none =
    turns_with (IsChromaBlock coded 20) (IsChromaBlock coded bound) counted (λ x. is_beyond bound x ≡ false) (λ s x is e. list_within coded 15 bound x is e) 4 [] blocks are (each_none (is_beyond bound) blocks none)

luma_within : (luma max bound : ℕ) (blocks : List (List ℤ)) → AreLumaBlocks luma max 20 blocks → list_any (is_beyond bound) blocks ≡ false → AreLumaBlocks luma max bound blocks
luma_within luma max bound blocks are none =
    turns_with (IsLumaBlock luma max 20) (IsLumaBlock luma max bound) counted (λ x. is_beyond bound x ≡ false) (λ s x is e. sixteen_within (is_coded luma s) max bound x is e) 16 [] blocks are (each_none (is_beyond bound) blocks none)

pub residual_within : (is_16x16 : Bool) (p : Pattern) (bound : ℕ) (mb : Mb) → IsResidual is_16x16 p 20 mb → is_beyond_mb bound mb ≡ false → IsResidual is_16x16 p bound mb
residual_within is_16x16 p bound mb is none =
    let behind_dc = not_second (is_beyond bound mb.dc) _ none in
    let behind_luma = not_second (list_any (is_beyond bound) (luma_blocks mb)) _ behind_dc in
    let behind_dcs = not_second (list_any (is_beyond bound) mb.chroma_dc) _ behind_luma in
    let dcs = All-from_recursion (λ x. is_beyond bound x ≡ false) mb.chroma_dc (each_none (is_beyond bound) mb.chroma_dc (not_first (list_any (is_beyond bound) mb.chroma_dc) _ behind_luma)) in
    record {
      dc = list_within is_16x16 16 bound mb.dc is.dc (not_first (is_beyond bound mb.dc) _ none);
      luma = luma_within p.luma (max_of is_16x16) bound (luma_blocks mb) is.luma (not_first (list_any (is_beyond bound) (luma_blocks mb)) _ behind_dc);
      cb_dc = list_within (has_chroma_dc p) 4 bound (dc_of 0 mb) is.cb_dc (dcs 0 [] (omega (arith, is.sizes.chroma_dc.0)));
      cr_dc = list_within (has_chroma_dc p) 4 bound (dc_of 1 mb) is.cr_dc (dcs 1 [] (omega (arith, is.sizes.chroma_dc.0)));
      cb_ac = chroma_within (has_chroma_ac p) bound (ac_of 0 mb) is.cb_ac (not_first (list_any (is_beyond bound) (ac_of 0 mb)) _ behind_dcs);
      cr_ac = chroma_within (has_chroma_ac p) bound (ac_of 1 mb) is.cr_ac (not_second (list_any (is_beyond bound) (ac_of 0 mb)) _ behind_dcs);
      sizes = is.sizes;
    }

-- ---- luma levels that are 0

pub no_luma : (mb : Mb) → HasSizes mb → ((q : ℕ) → q < 4 → IsWithin 0 (quarter_of mb q)) → mb.luma ≡ replicate 4 (replicate 64 (pos 0))
no_luma mb sizes none =
    zero_lists 4 64 0 mb.luma refl sizes.luma.0 sizes.luma.1 (λ q d below.
    subst (IsWithin 0) (get_or_default mb.luma q [] d below) (none q (omega (arith, below, sizes.luma.0))))

none_within : (xs : List ℤ) → IsWithin 0 xs → (bound : ℕ) → is_beyond bound xs ≡ false
none_within xs h bound = ap (is_beyond bound) (zero_levels (length xs) 0 xs refl refl h) ∙ not_beyond-zeros bound (length xs)

no_luma_beyond : (bound : ℕ) (mb : Mb) → HasSizes mb → ((q : ℕ) → q < 4 → IsWithin 0 (quarter_of mb q)) → list_any (is_beyond bound) (luma_blocks mb) ≡ false
no_luma_beyond bound mb sizes none =
    any_none (is_beyond bound) (luma_blocks mb) (λ n below.
    let inside : n < 16 = omega (arith, below, length-sixteen (sent_block mb)) in
    let row : n / 4 < 4 = omega (arith, inside) in
    ap (is_beyond bound) (get_or-sixteen (sent_block mb) n [] inside)
    ∙ none_within (list_in mb.t8 (quarter_of mb (n / 4)) (n % 4)) (list_within_quarter mb.t8 0 (quarter_of mb (n / 4)) (n % 4) (quarter_size mb (n / 4) row sizes) (omega arith) (none (n / 4) row)) bound)

plain_sizes : (mb : Mb) → HasSizes mb → HasSizes (record mb { t8 = false })
plain_sizes mb sizes = record {
  modes = sizes.modes;
  subs = sizes.subs;
  refs = sizes.refs;
  mvd = sizes.mvd;
  dc = sizes.dc;
  luma = sizes.luma;
  chroma_dc = sizes.chroma_dc;
  chroma_ac = sizes.chroma_ac;
  pcm = sizes.pcm;
}

-- then the transform doesn't tell whether some level is beyond the bound
pub beyond_normal : (bound : ℕ) (mb : Mb) → HasSizes mb → ((q : ℕ) → q < 4 → IsWithin 0 (quarter_of mb q)) → is_beyond_mb bound mb ≡ is_beyond_mb bound (record mb { t8 = false })
beyond_normal bound mb sizes none =
    ap (λ b. is_beyond bound mb.dc || (b || (list_any (is_beyond bound) mb.chroma_dc || (list_any (is_beyond bound) (ac_of 0 mb) || list_any (is_beyond bound) (ac_of 1 mb)))))
    (no_luma_beyond bound mb sizes none ∙ sym (no_luma_beyond bound (record mb { t8 = false }) (plain_sizes mb sizes) none))

pub beyond_any_pattern : (bound : ℕ) (mb : Mb) (p : Pattern) → is_beyond_mb bound (record mb { pattern = p }) ≡ is_beyond_mb bound mb
beyond_any_pattern bound mb p = refl

-- ---- the law

pub valid_residual : (bound : ℕ) (mb : Mb) → HasSizes mb → HasTransform mb → is_beyond_mb bound mb ≡ false → (IsLumaCoded mb × IsChromaCoded mb) ↔ IsResidual (is_i_16x16 mb.kind) (pattern_of mb) bound mb
valid_residual bound mb sizes only none = (
  λ h. residual_within (is_i_16x16 mb.kind) (pattern_of mb) bound mb (to_residual mb sizes only h.0 h.1) none,
  λ is. from_residual mb bound only is,
)
