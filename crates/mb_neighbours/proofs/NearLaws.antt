-- Neighbours are found among what stands before, and by it alone.
use Rattle.std.proofs.Common.{◌≡◌, ℕ, ◌+◌, ◌-◌, ◌*◌, ◌/◌, ◌%◌, ◌<◌, ◌≤◌, Bool, true, false, not, ◌&&◌, ◌==◌, nat_lt, cond, Option, Some, None, List, ◌++◌, length, refl, ap, subst, arith}
use Rattle.std.specs.Bool.{IsTrue}
use Rattle.std.specs.Option.{option_map}
use Rattle.h264_types.specs.declared.macroblock.Mb.{Mb}
use Rattle.h264_types.specs.declared.slice_shape.SliceShape.{SliceShape}
use Rattle.h264_types.specs.Slice.{left_number, above_number, field_at}
use Rattle.h264_types.proofs.SliceLaws.{field_at-append, left_number-before, above_number-before}
use Rattle.mb_neighbours.specs.declared.place.At.{At}
use Rattle.mb_neighbours.specs.declared.place.Spot.{Spot}
use Rattle.std.proofs.lemmas.Bool.Decides.{nat_tests}
use Rattle.std.proofs.lemmas.Option.{same_Some, none-some}
use Rattle.mb_neighbours.specs.declared.place.At.TheVariants.{Whole, Luma4, Luma8, Chroma4}
use Rattle.mb_neighbours.specs.Place.{IsPlace, number_of, covering, x_of, y_of, size_of}
use Rattle.mb_neighbours.specs.Pair.{left_half, left_row, above_half}
use Rattle.mb_neighbours.specs.Near.{spot, lowest, left_in_rows, left_in_pairs, left_of, above_in_rows, above_in_pairs, above_of, HasPairsBefore, IsBefore}

option_map-same :
    (f g : ℕ → Spot) (found : Option ℕ) → ((k : ℕ) → found ≡ Some k → f k ≡ g k) → option_map f found ≡ option_map g found
option_map-same f g (Some k) same = ap (λ s. Some s) (same k refl)
option_map-same f g None same = refl

cond-same :
    (test : Bool) (one other rest : Option Spot) → (IsTrue test → one ≡ other) → cond test one rest ≡ cond test other rest
cond-same true one other rest same = same refl
cond-same false one other rest same = refl

left_in_pairs-append :
    (shape : SliceShape) (done rest : List Mb) (at : ℕ) (field : Bool) (place : At)
    → at ≤ length done + at % 2
    → left_in_pairs shape (done ++ rest) at field place ≡ left_in_pairs shape done at field place
left_in_pairs-append shape done rest at field place before =
    option_map-same _ _ (left_number shape.width (shape.first / 2) (at / 2)) (λ left is.
    let known : 2 * left < length done = omega (arith, left_number-before shape.width (shape.first / 2) (at / 2) left is) in
    ap (λ flag. spot place
    (2 * left + left_half field flag (at % 2) (y_of place) (size_of place))
    (size_of place - 1)
    (left_row field flag (at % 2) (y_of place) (size_of place)))
    (field_at-append done rest (2 * left) known))

above_in_pairs-append :
    (shape : SliceShape) (done rest : List Mb) (at : ℕ) (field : Bool) (place : At)
    → 0 < shape.width → at ≤ length done + at % 2
    → above_in_pairs shape (done ++ rest) at field place ≡ above_in_pairs shape done at field place
above_in_pairs-append shape done rest at field place wide before =
    ap (λ o. cond (not field && at % 2 == 1) (Some (lowest place (at - 1))) o)
    (option_map-same _ _ (above_number shape.width (at / 2)) (λ above is.
    let known : 2 * above < length done = omega (arith, above_number-before shape.width (at / 2) above is) in
    ap (λ flag. lowest place (2 * above + above_half field flag (at % 2)))
    (field_at-append done rest (2 * above) known)))

pub left_of-append :
    (shape : SliceShape) (done rest : List Mb) (at : ℕ) (field : Bool) (place : At)
    → HasPairsBefore shape done at
    → left_of shape (done ++ rest) at field place ≡ left_of shape done at field place
left_of-append shape done rest at field place before =
    ap (λ o. cond (nat_lt 0 (x_of place)) (Some (spot place at (x_of place - 1) (y_of place))) o)
    (cond-same shape.mbaff _ _ (left_in_rows shape at place) (λ mbaff. left_in_pairs-append shape done rest at field place (before mbaff)))

pub above_of-append :
    (shape : SliceShape) (done rest : List Mb) (at : ℕ) (field : Bool) (place : At)
    → 0 < shape.width → HasPairsBefore shape done at
    → above_of shape (done ++ rest) at field place ≡ above_of shape done at field place
above_of-append shape done rest at field place wide before =
    ap (λ o. cond (nat_lt 0 (y_of place)) (Some (spot place at (x_of place) (y_of place - 1))) o)
    (cond-same shape.mbaff _ _ (above_in_rows shape at place) (λ mbaff. above_in_pairs-append shape done rest at field place wide (before mbaff)))

pub cond-is :
    {P : Type 0} (test : Bool) (one other : Option Spot) (found : Spot)
    → (IsTrue test → one ≡ Some found → P) → (other ≡ Some found → P) → cond test one other ≡ Some found → P
cond-is true one other found first second is = first refl is
cond-is false one other found first second is = second is

pub option_map-is :
    {P : Type 0} (f : ℕ → Spot) (number : Option ℕ) (found : Spot)
    → ((k : ℕ) → number ≡ Some k → f k ≡ found → P) → option_map f number ≡ Some found → P
option_map-is f (Some k) found here is = here k refl (same_Some _ _ is)
option_map-is f None found here is = absurd (none-some _ is)

left_block-before : (place : At) → IsPlace place → IsTrue (nat_lt 0 (x_of place)) → covering place (x_of place - 1) (y_of place) < number_of place
left_block-before Whole inside beside = grind (arith, nat_tests)
left_block-before (Luma4 n) inside beside = grind (arith, nat_tests)
left_block-before (Luma8 q) inside beside = grind (arith, nat_tests)
left_block-before (Chroma4 n) inside beside = grind (arith, nat_tests)

above_block-before : (place : At) → IsPlace place → IsTrue (nat_lt 0 (y_of place)) → covering place (x_of place) (y_of place - 1) < number_of place
above_block-before Whole inside beside = grind (arith, nat_tests)
above_block-before (Luma4 n) inside beside = grind (arith, nat_tests)
above_block-before (Luma8 q) inside beside = grind (arith, nat_tests)
above_block-before (Chroma4 n) inside beside = grind (arith, nat_tests)

earlier_mb :
    (at : ℕ) (place : At) (k x y : ℕ) (found : Spot) → k < at → spot place k x y ≡ found → IsBefore found at place
earlier_mb at place k x y found less is =
    subst (λ s. IsBefore s at place) is (omega (arith, less), λ same. absurd (omega (arith, less, same)))

own_block :
    (at : ℕ) (place : At) (x y : ℕ) (found : Spot)
    → covering place x y < number_of place → Some (spot place at x y) ≡ Some found → IsBefore found at place
own_block at place x y found less is =
    subst (λ s. IsBefore s at place) (same_Some _ _ is) (omega arith, λ same. less)

pub half_of_left :
    (field left_field : Bool) (bottom y height : ℕ) → bottom < 2 → left_half field left_field bottom y height < 2
half_of_left field left_field bottom y height low = grind (arith, nat_tests)

pub half_above : (field above_field : Bool) (bottom : ℕ) → bottom < 2 → above_half field above_field bottom < 2
half_above field above_field bottom low = grind (arith, nat_tests)

pub above_bottom : (field : Bool) (at : ℕ) → IsTrue (not field && at % 2 == 1) → at - 1 < at
above_bottom field at lower = grind (arith, nat_tests)

in_left_pair :
    (shape : SliceShape) (mbs : List Mb) (at : ℕ) (field : Bool) (place : At) (found : Spot)
    → left_in_pairs shape mbs at field place ≡ Some found → IsBefore found at place
in_left_pair shape mbs at field place found =
    option_map-is _ (left_number shape.width (shape.first / 2) (at / 2)) found (λ left is here.
    let before = left_number-before shape.width (shape.first / 2) (at / 2) left is in
    let half = half_of_left field (field_at mbs (2 * left)) (at % 2) (y_of place) (size_of place) (omega arith) in
    earlier_mb at place _ _ _ found (omega (arith, before, half)) here)

in_pair_above :
    (shape : SliceShape) (mbs : List Mb) (at : ℕ) (field : Bool) (place : At) (found : Spot)
    → 0 < shape.width → above_in_pairs shape mbs at field place ≡ Some found → IsBefore found at place
in_pair_above shape mbs at field place found wide =
    cond-is (not field && at % 2 == 1) _ _ found
    (λ lower is. earlier_mb at place _ _ _ found (above_bottom field at lower) (same_Some _ _ is))
    (option_map-is _ (above_number shape.width (at / 2)) found (λ above is here.
    let before = above_number-before shape.width (at / 2) above is in
    let half = half_above field (field_at mbs (2 * above)) (at % 2) (omega arith) in
    earlier_mb at place _ _ _ found (omega (arith, wide, before, half)) here))

pub left_of-before :
    (shape : SliceShape) (mbs : List Mb) (at : ℕ) (field : Bool) (place : At) (found : Spot)
    → IsPlace place → left_of shape mbs at field place ≡ Some found → IsBefore found at place
left_of-before shape mbs at field place found inside =
    cond-is (nat_lt 0 (x_of place)) _ _ found
    (λ own. own_block at place _ _ found (left_block-before place inside own))
    (cond-is shape.mbaff _ _ found (λ mbaff. in_left_pair shape mbs at field place found)
    (option_map-is _ (left_number shape.width shape.first at) found (λ left is here.
    earlier_mb at place _ _ _ found (omega (arith, left_number-before shape.width shape.first at left is)) here)))

pub above_of-before :
    (shape : SliceShape) (mbs : List Mb) (at : ℕ) (field : Bool) (place : At) (found : Spot)
    → 0 < shape.width → IsPlace place → above_of shape mbs at field place ≡ Some found → IsBefore found at place
above_of-before shape mbs at field place found wide inside =
    cond-is (nat_lt 0 (y_of place)) _ _ found
    (λ own. own_block at place _ _ found (above_block-before place inside own))
    (cond-is shape.mbaff _ _ found (λ mbaff. in_pair_above shape mbs at field place found wide)
    (option_map-is _ (above_number shape.width at) found (λ above is here.
    earlier_mb at place _ _ _ found (omega (arith, wide, above_number-before shape.width at above is)) here)))
