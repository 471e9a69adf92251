-- What stands around a macroblock: told by the list before it, and found by what is kept of that.
use Rattle.std.proofs.Common.{◌≡◌, ℕ, zero, suc, ◌+◌, ◌*◌, ◌/◌, ◌%◌, ◌<◌, ◌≤◌, Bool, true, false, not, cond, ◌&&◌, ◌==◌, nat_lt, List, [], ◌∷◌, ◌++◌, length, take, drop, get_or, Option, Some, None, refl, sym, ap, subst, ◌∙◌, arith}
use Rattle.std.specs.Prelude.{ℤ, pos, min, filter, slice_get, slice_index_or}
use Rattle.std.specs.Option.{IfSome, option_map, option_map_or}
use Rattle.std.proofs.lemmas.Bool.{false≢true}
use Rattle.std.proofs.lemmas.Option.{same_Some, none-some}
use Rattle.h264_types.specs.Kind.{is_i_pcm}
use Rattle.h264_types.specs.LastRows.{LastRows, AreRows, StandsAt, IsRecent}
use Rattle.h264_types.specs.Macroblock.{luma_block}
use Rattle.h264_types.specs.Slice.{IsInPicture, left_number, above_number, field_at}
use Rattle.h264_types.specs.declared.macroblock.Mb.{Mb}
use Rattle.h264_types.specs.declared.slice_shape.SliceShape.{SliceShape}
use Rattle.h264_types.proofs.SliceLaws.{left_number-before, above_number-before}
use Rattle.mb_neighbours.specs.declared.place.At.{At}
use Rattle.mb_neighbours.specs.declared.place.At.TheVariants.{Whole}
use Rattle.mb_neighbours.specs.declared.place.Spot.{Spot}
use Rattle.mb_neighbours.specs.Place.{x_of, y_of, size_of}
use Rattle.mb_neighbours.specs.Near.{spot, left_of, above_of}
use Rattle.mb_neighbours.proofs.NearLaws.{left_of-append, above_of-append, cond-is, option_map-is, half_of_left, half_above, above_bottom}
use Rattle.mb_neighbours.proofs.Recent.{left_of-recent, above_of-recent}
use Rattle.cavlc_residual.specs.Block.{is_nonzero, total_coeff}
use Rattle.cavlc_mb_residual.specs.LumaBlocks.{four, every_fourth, sent_block}
use Rattle.cavlc_mb_residual.specs.declared.counts.Counts.{Counts}
use Rattle.cavlc_mb_residual.specs.declared.counts.Sides.{Sides}
use Rattle.cavlc_mb_residual.specs.declared.pairs.Component.{Component}
use Rattle.cavlc_mb_residual.specs.declared.pairs.Component.TheVariants.{Luma, Cb, Cr}
use Rattle.cavlc_mb_residual.specs.Counts.{luma_count, chroma_count, chroma_block, counts_of, count_at, count_of, blocks_of, counts_in, side, sides_in, luma_column, luma_row, chroma_column, chroma_row, around_of, around_from, counts_at}
use Rattle.cavlc_mb_residual.proofs.Firsts.{length-sixteen, get_or-sixteen}
use Rattle.cavlc_mb_residual.proofs.CountLaws.{same_four, get_or-four, luma_edge, chroma_edge, same_around, around_is}

-- ---- beside a macroblock stand earlier ones

early_mb : (at : ℕ) (place : At) (k x y : ℕ) (found : Spot) → k < at → spot place k x y ≡ found → found.mb < at
early_mb at place k x y found less is = subst (λ (s : Spot). s.mb < at) is less

no_column : {P : Type 0} (x : ℕ) → x ≡ 0 → nat_lt 0 x ≡ true → P
no_column x edge inside = let out : nat_lt 0 x ≡ false = rw edge refl in absurd (false≢true (sym out ∙ inside))

left_early : (shape : SliceShape) (ms : List Mb) (at : ℕ) (field : Bool) (place : At) (found : Spot) → x_of place ≡ 0 → left_of shape ms at field place ≡ Some found → found.mb < at
left_early shape ms at field place found edge =
    cond-is (nat_lt 0 (x_of place)) _ _ found (λ own is. no_column (x_of place) edge own)
    (cond-is shape.mbaff _ _ found
    (λ mbaff. option_map-is _ (left_number shape.width (shape.first / 2) (at / 2)) found (λ left is here.
    let before = left_number-before shape.width (shape.first / 2) (at / 2) left is in
    let half = half_of_left field (field_at ms (2 * left)) (at % 2) (y_of place) (size_of place) (omega arith) in
    early_mb at place _ _ _ found (omega (arith, before, half)) here))
    (option_map-is _ (left_number shape.width shape.first at) found (λ left is here.
    early_mb at place _ _ _ found (omega (arith, left_number-before shape.width shape.first at left is)) here)))

above_early : (shape : SliceShape) (ms : List Mb) (at : ℕ) (field : Bool) (place : At) (found : Spot) → 0 < shape.width → y_of place ≡ 0 → above_of shape ms at field place ≡ Some found → found.mb < at
above_early shape ms at field place found wide edge =
    cond-is (nat_lt 0 (y_of place)) _ _ found (λ own is. no_column (y_of place) edge own)
    (cond-is shape.mbaff _ _ found
    (λ mbaff. cond-is (not field && at % 2 == 1) _ _ found
    (λ lower is. early_mb at place _ _ _ found (above_bottom field at lower) (same_Some _ _ is))
    (option_map-is _ (above_number shape.width (at / 2)) found (λ above is here.
    let before = above_number-before shape.width (at / 2) above is in
    let half = half_above field (field_at ms (2 * above)) (at % 2) (omega arith) in
    early_mb at place _ _ _ found (omega (arith, wide, before, half)) here)))
    (option_map-is _ (above_number shape.width at) found (λ above is here.
    early_mb at place _ _ _ found (omega (arith, wide, above_number-before shape.width at above is)) here)))

-- ---- the list before is enough

get_front : (before rest : List Mb) (k : ℕ) → k < length before → slice_get (before ++ rest) k ≡ slice_get before k
get_front [] rest k h = absurd (omega (arith, h))
get_front (x ∷ xs) rest zero h = refl
get_front (x ∷ xs) rest (suc k) h = get_front xs rest k (omega (arith, h))

count-append : (count : Mb → ℕ → ℕ) (before rest : List Mb) (found : Option Spot) → ((s : Spot) → found ≡ Some s → s.mb < length before)
    → option_map_or (count_at count (before ++ rest)) found 0 ≡ option_map_or (count_at count before) found 0
count-append count before rest None early = refl
count-append count before rest (Some s) early = ap (λ o. option_map_or (λ (mb : Mb). count mb s.block) o 0) (get_front before rest s.mb (early s refl))

same_side : (count count' : Spot → ℕ) (find find' : At → Option Spot) (place : ℕ → At) → find Whole ≡ find' Whole
    → ((k : ℕ) → k < 4 → option_map_or count (find (place k)) 0 ≡ option_map_or count' (find' (place k)) 0) → side count find place ≡ side count' find' place
same_side count count' find find' place whole each =
    ap (λ o. option_map (λ (_ : Spot). four (λ k. option_map_or count (find (place k)) 0)) o) whole ∙ by (find' Whole)
  where
    all : four (λ k. option_map_or count (find (place k)) 0) ≡ four (λ k. option_map_or count' (find' (place k)) 0)
    all = same_four (λ k. option_map_or count (find (place k)) 0) (λ k. option_map_or count' (find' (place k)) 0) (each 0 (omega arith)) (each 1 (omega arith)) (each 2 (omega arith)) (each 3 (omega arith))

    by : (o : Option Spot) → option_map (λ (_ : Spot). four (λ k. option_map_or count (find (place k)) 0)) o ≡ option_map (λ (_ : Spot). four (λ k. option_map_or count' (find' (place k)) 0)) o
    by None = refl
    by (Some s) = ap Some all

sides-append : (shape : SliceShape) (before rest : List Mb) (field : Bool) (count : Mb → ℕ → ℕ) (column row : ℕ → At) → 0 < shape.width
    → ((i : ℕ) → i < 4 → (x_of (column i) ≡ 0) × (y_of (row i) ≡ 0))
    → sides_in count shape (before ++ rest) (length before) field column row ≡ sides_in count shape before (length before) field column row
sides-append shape before rest field count column row wide edge =
    let S : Option (List ℕ) → Option (List ℕ) → Sides = λ a b. record { left = a; above = b } in
    let at : ℕ = length before in
    let all : List Mb = before ++ rest in
    ap (λ o. S o (side (count_at count all) (above_of shape all at field) row))
    (same_side (count_at count all) (count_at count before) (left_of shape all at field) (left_of shape before at field) column (left_of-append shape before rest at field Whole (λ mbaff. omega arith))
    (λ k h. ap (λ o. option_map_or (count_at count all) o 0) (left_of-append shape before rest at field (column k) (λ mbaff. omega arith))
    ∙ count-append count before rest (left_of shape before at field (column k)) (λ s is. left_early shape before at field (column k) s (edge k h).0 is)))
    ∙ ap (λ o. S (side (count_at count before) (left_of shape before at field) column) o)
    (same_side (count_at count all) (count_at count before) (above_of shape all at field) (above_of shape before at field) row (above_of-append shape before rest at field Whole wide (λ mbaff. omega arith))
    (λ k h. ap (λ o. option_map_or (count_at count all) o 0) (above_of-append shape before rest at field (row k) wide (λ mbaff. omega arith))
    ∙ count-append count before rest (above_of shape before at field (row k)) (λ s is. above_early shape before at field (row k) s wide (edge k h).1 is)))

pub around_of-append : (shape : SliceShape) (before rest : List Mb) (field : Bool) → 0 < shape.width → around_of shape (before ++ rest) (length before) field ≡ around_of shape before (length before) field
around_of-append shape before rest field wide =
    same_around _ _ _ _ _ _
    (sides-append shape before rest field luma_count luma_column luma_row wide luma_edge)
    (sides-append shape before rest field (chroma_count 0) chroma_column chroma_row wide chroma_edge)
    (sides-append shape before rest field (chroma_count 1) chroma_column chroma_row wide chroma_edge)

-- ---- no block counts more than 16

total_most : (xs : List ℤ) → total_coeff xs ≤ length xs
total_most [] = omega arith
total_most (x ∷ xs) = by (is_nonzero x) (total_most xs)
  where
    by : (b : Bool) → total_coeff xs ≤ length xs → length (cond b (x ∷ filter is_nonzero xs) (filter is_nonzero xs)) ≤ length (x ∷ xs)
    by true less = omega (arith, less)
    by false less = omega (arith, less)

take_most : {A : Type 0} (n : ℕ) (xs : List A) → length (take n xs) ≤ n
take_most zero xs = omega arith
take_most (suc n) [] = omega arith
take_most (suc n) (x ∷ xs) = omega (arith, take_most n xs)

luma_most : (mb : Mb) (n : ℕ) → luma_count mb n ≤ 16
luma_most mb n = by (is_i_pcm mb.kind)
  where
    sent : (b : Bool) → total_coeff (cond b (every_fourth (slice_index_or mb.luma (n / 4) []) (n % 4)) (luma_block mb n)) ≤ 16
    sent true = omega (arith, total_most (every_fourth (slice_index_or mb.luma (n / 4) []) (n % 4)), length-sixteen (λ k. slice_index_or (slice_index_or mb.luma (n / 4) []) (4 * k + n % 4) (pos 0)))
    sent false = omega (arith, total_most (luma_block mb n), take_most 16 (drop (16 * (n % 4)) (slice_index_or mb.luma (n / 4) [])))

    by : (b : Bool) → cond b 16 (total_coeff (sent_block mb n)) ≤ 16
    by true = omega arith
    by false = sent mb.t8

chroma_most : (comp : ℕ) (mb : Mb) (n : ℕ) → chroma_count comp mb n ≤ 16
chroma_most comp mb n = by (is_i_pcm mb.kind)
  where
    by : (b : Bool) → cond b 16 (total_coeff (take 15 (chroma_block mb comp n))) ≤ 16
    by true = omega arith
    by false = omega (arith, total_most (take 15 (chroma_block mb comp n)), take_most 15 (chroma_block mb comp n))

at_most : (c k : ℕ) → c ≡ k → k ≤ 16 → min c 16 ≡ k
at_most c k e h = grind arith

-- ---- what is kept of a macroblock tells what its blocks count

kept_count : (component : Component) (mb : Mb) (block : ℕ) → block < blocks_of component → min (get_or (counts_in component (counts_of mb)) block 0) 16 ≡ count_of component mb block
kept_count Luma mb block h = at_most _ _ (get_or-sixteen (luma_count mb) block 0 h) (luma_most mb block)
kept_count Cb mb block h = at_most _ _ (get_or-four (chroma_count 0 mb) block h) (chroma_most 0 mb block)
kept_count Cr mb block h = at_most _ _ (get_or-four (chroma_count 1 mb) block h) (chroma_most 1 mb block)

pub count_of_kept : (component : Component) (o : Option Mb) (kept : Counts) (block result : ℕ) → Some kept ≡ option_map counts_of o → block < blocks_of component
    → result ≡ min (slice_index_or (counts_in component kept) block 0) 16 → result ≡ option_map_or (λ (mb : Mb). count_of component mb block) o 0
count_of_kept component None kept block result is h e = absurd (none-some _ (sym is))
count_of_kept component (Some mb) kept block result is h e =
    e ∙ ap (λ c. min (get_or (counts_in component c) block 0) 16) (same_Some _ _ is) ∙ kept_count component mb block h

-- ---- around the next macroblock

module _ (shape : SliceShape) (rows : LastRows Counts) (mbs : List Mb) (picture : IsInPicture shape rows.count) (are : AreRows counts_of shape rows mbs) where
  pub stands_next : StandsAt counts_of shape rows mbs rows.count
  stands_next = record { picture = picture; are = are; before = (λ mbaff. omega arith, λ mbaff. omega arith); behind = (λ mbaff. omega arith, λ mbaff. omega arith) }

  all_recent : (o found : Option Spot) → found ≡ o → ((s : Spot) → o ≡ Some s → IsRecent rows s.mb) → IfSome found (λ s. IsRecent rows s.mb)
  all_recent o None e each = tt
  all_recent o (Some s) e each = each s (sym e)

  pub recent_left : (field : Bool) (place : At) (found : Option Spot) → found ≡ left_of shape mbs rows.count field place → IfSome found (λ s. IsRecent rows s.mb)
  recent_left field place found is = all_recent (left_of shape mbs rows.count field place) found is (λ s at. left_of-recent counts_of shape rows mbs rows.count field place s stands_next at)

  pub recent_above : (field : Bool) (place : At) (found : Option Spot) → found ≡ above_of shape mbs rows.count field place → IfSome found (λ s. IsRecent rows s.mb)
  recent_above field place found is = all_recent (above_of shape mbs rows.count field place) found is (λ s at. above_of-recent counts_of shape rows mbs rows.count field place s stands_next at)

  pub left_told : (count : Spot → ℕ) (at : ℕ) (field : Bool) (place column : At) (found : Option Spot) (result : ℕ) → at ≡ rows.count → place ≡ column
      → (StandsAt counts_of shape rows mbs at → found ≡ left_of shape mbs at field place) → (IfSome found (λ s. IsRecent rows s.mb) → result ≡ option_map_or count found 0)
      → result ≡ option_map_or count (left_of shape mbs (length mbs) field column) 0
  left_told count at field place column found result here is value counted =
      let found_is : found ≡ left_of shape mbs rows.count field place = value (subst (λ n. StandsAt counts_of shape rows mbs n) (sym here) stands_next) ∙ ap (λ n. left_of shape mbs n field place) here in
      counted (recent_left field place found found_is)
      ∙ ap (λ o. option_map_or count o 0) (found_is ∙ ap (λ n. left_of shape mbs n field place) are.counted ∙ ap (left_of shape mbs (length mbs) field) is)

  pub above_told : (count : Spot → ℕ) (at : ℕ) (field : Bool) (place row : At) (found : Option Spot) (result : ℕ) → at ≡ rows.count → place ≡ row
      → (StandsAt counts_of shape rows mbs at → found ≡ above_of shape mbs at field place) → (IfSome found (λ s. IsRecent rows s.mb) → result ≡ option_map_or count found 0)
      → result ≡ option_map_or count (above_of shape mbs (length mbs) field row) 0
  above_told count at field place row found result here is value counted =
      let found_is : found ≡ above_of shape mbs rows.count field place = value (subst (λ n. StandsAt counts_of shape rows mbs n) (sym here) stands_next) ∙ ap (λ n. above_of shape mbs n field place) here in
      counted (recent_above field place found found_is)
      ∙ ap (λ o. option_map_or count o 0) (found_is ∙ ap (λ n. above_of shape mbs n field place) are.counted ∙ ap (above_of shape mbs (length mbs) field) is)

-- outside MBAFF
pub around_by_rows : (shape : SliceShape) (rows : LastRows Counts) (done : List Mb) (field : Bool) (left above : Option Counts) → shape.mbaff ≡ false → 0 < shape.width → AreRows counts_of shape rows done
    → left ≡ counts_at done (left_number shape.width shape.first (length done)) → above ≡ counts_at done (above_number shape.width (length done))
    → around_from left above ≡ around_of shape done (length done) field
around_by_rows shape rows done field left above mbaff some are e f =
    ap (λ l. around_from l above) e ∙ ap (around_from (counts_at done (left_number shape.width shape.first (length done)))) f ∙ sym (around_is shape done (length done) field mbaff some (omega arith))
