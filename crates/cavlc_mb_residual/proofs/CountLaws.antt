-- nC in a list of macroblocks is nC from what stands around a macroblock and the counts of its own blocks before.
use Rattle.std.proofs.Common.{◌≡◌, ℕ, zero, suc, ◌+◌, ◌-◌, ◌*◌, ◌/◌, ◌%◌, ◌<◌, ◌≤◌, eqb, Bool, true, false, cond, not, ◌&&◌, ◌==◌, nat_lt, List, [], ◌∷◌, length, get_or, take, Option, Some, None, refl, sym, ap, subst, ◌∙◌, arith}
use Rattle.std.specs.Prelude.{slice_get, slice_index_or, ◌||◌}
use Rattle.std.specs.Option.{option_map, option_map_or}
use Rattle.std.proofs.lemmas.List.{get_or-take}
use Rattle.std.proofs.lemmas.Bool.{eqb-true, ltb-true, ltb-false, false≢true}
use Rattle.code_tables.proofs.CodeTables.{all_below-at}
use Rattle.h264_types.specs.Slice.{left_number, above_number, field_at}
use Rattle.h264_types.specs.declared.macroblock.Mb.{Mb}
use Rattle.h264_types.specs.declared.slice_shape.SliceShape.{SliceShape}
use Rattle.mb_neighbours.specs.declared.place.At.{At}
use Rattle.mb_neighbours.specs.declared.place.At.TheVariants.{Whole, Luma4, Chroma4}
use Rattle.mb_neighbours.specs.declared.place.Spot.{Spot}
use Rattle.mb_neighbours.specs.Place.{x_of, y_of, size_of, covering}
use Rattle.mb_neighbours.specs.Near.{spot, lowest, left_in_rows, left_in_pair, left_in_pairs, left_of, above_in_rows, above_in_pair, above_in_pairs, above_of}
use Rattle.cavlc_mb_residual.specs.LumaBlocks.{four, sixteen}
use Rattle.cavlc_mb_residual.specs.declared.counts.Sides.{Sides}
use Rattle.cavlc_mb_residual.specs.Counts.{luma_count, chroma_count, mean, count_at, list_nC, luma_nC, chroma_nC, left_count, above_count, nC, side, sides_in, luma_column, luma_row, chroma_column, chroma_row, around_of, counts_of, beside, around_from, counts_at}
use Rattle.cavlc_mb_residual.specs.declared.counts.Around.{Around}
use Rattle.cavlc_mb_residual.specs.declared.counts.Counts.{Counts}
use Rattle.h264_types.proofs.SliceLaws.{left_number-before, above_number-before}
use Rattle.cavlc_mb_residual.proofs.Firsts.{get_or-sixteen}

-- ---- places at the sides: one source tells which macroblock is there, whatever the place

-- a place at the left side is found from the number of the macroblock or pair there
left_source : SliceShape → ℕ → Option ℕ
left_source shape at = cond shape.mbaff (left_number shape.width (shape.first / 2) (at / 2)) (left_number shape.width shape.first at)

left_spot : SliceShape → List Mb → ℕ → Bool → At → ℕ → Spot
left_spot shape ms at field place k = cond shape.mbaff (left_in_pair ms k (at % 2) field place) (spot place k (size_of place - 1) (y_of place))

left_found : (shape : SliceShape) (ms : List Mb) (at : ℕ) (field : Bool) (place : At) → x_of place ≡ 0 → left_of shape ms at field place ≡ option_map (left_spot shape ms at field place) (left_source shape at)
unfolding left_source left_spot
left_found shape ms at field place e =
    let edge : nat_lt 0 (x_of place) ≡ false = rw e refl in
    ap (λ b. cond b (Some (spot place at (x_of place - 1) (y_of place))) (cond shape.mbaff (left_in_pairs shape ms at field place) (left_in_rows shape at place))) edge ∙ by shape.mbaff
  where
    by : (b : Bool) → cond b (left_in_pairs shape ms at field place) (left_in_rows shape at place)
        ≡ option_map (λ k. cond b (left_in_pair ms k (at % 2) field place) (spot place k (size_of place - 1) (y_of place))) (cond b (left_number shape.width (shape.first / 2) (at / 2)) (left_number shape.width shape.first at))
    by true = refl
    by false = refl

above_source : SliceShape → ℕ → Bool → Option ℕ
above_source shape at field = cond shape.mbaff (cond (not field && at % 2 == 1) (Some (at - 1)) (above_number shape.width (at / 2))) (above_number shape.width at)

above_spot : SliceShape → List Mb → ℕ → Bool → At → ℕ → Spot
above_spot shape ms at field place k = cond shape.mbaff (cond (not field && at % 2 == 1) (lowest place k) (above_in_pair ms k (at % 2) field place)) (lowest place k)

above_found : (shape : SliceShape) (ms : List Mb) (at : ℕ) (field : Bool) (place : At) → y_of place ≡ 0 → above_of shape ms at field place ≡ option_map (above_spot shape ms at field place) (above_source shape at field)
unfolding above_source above_spot
above_found shape ms at field place e =
    let edge : nat_lt 0 (y_of place) ≡ false = rw e refl in
    ap (λ b. cond b (Some (spot place at (x_of place) (y_of place - 1))) (cond shape.mbaff (above_in_pairs shape ms at field place) (above_in_rows shape at place))) edge ∙ by shape.mbaff (not field && at % 2 == 1)
  where
    by : (b own : Bool) → cond b (cond own (Some (lowest place (at - 1))) (option_map (λ above. above_in_pair ms above (at % 2) field place) (above_number shape.width (at / 2)))) (above_in_rows shape at place)
        ≡ option_map (λ k. cond b (cond own (lowest place k) (above_in_pair ms k (at % 2) field place)) (lowest place k)) (cond b (cond own (Some (at - 1)) (above_number shape.width (at / 2))) (above_number shape.width at))
    by true true = refl
    by true false = refl
    by false own = refl

-- where places are found from one source, a side tells what is found at each
side_tells : (count : Spot → ℕ) (find : At → Option Spot) (spot_of : At → ℕ → Spot) (source : Option ℕ) (column : ℕ → At) (k : ℕ) (place : At)
    → find (column k) ≡ option_map (spot_of (column k)) source → find Whole ≡ option_map (spot_of Whole) source → k < 4 → column k ≡ place
    → option_map count (find place) ≡ option_map (λ row. slice_index_or row k 0) (side count find column)
side_tells count find spot_of source column k place each whole below e =
    ap (λ p. option_map count (find p)) (sym e) ∙ ap (option_map count) each ∙ from source
    ∙ ap (λ o. option_map (λ row. slice_index_or row k 0) (option_map (λ (_ : Spot). four (λ i. option_map_or count (find (column i)) 0)) o)) (sym whole)
  where
    each_count : (o : Option ℕ) (i : ℕ) (n : ℕ) → o ≡ Some n → find (column i) ≡ option_map (spot_of (column i)) o → option_map_or count (find (column i)) 0 ≡ count (spot_of (column i) n)
    each_count o i n is found = ap (λ f. option_map_or count f 0) (found ∙ ap (option_map (spot_of (column i))) is)

    at : (n : ℕ) (f : ℕ → ℕ) (i : ℕ) → i < 4 → get_or (four f) i 0 ≡ f i
    at n f zero h = refl
    at n f (suc zero) h = refl
    at n f (suc (suc zero)) h = refl
    at n f (suc (suc (suc zero))) h = refl
    at n f (suc (suc (suc (suc i)))) h = absurd (omega arith)

    by : (o : Option ℕ) → source ≡ o → option_map count (option_map (spot_of (column k)) o)
        ≡ option_map (λ row. slice_index_or row k 0) (option_map (λ (_ : Spot). four (λ i. option_map_or count (find (column i)) 0)) (option_map (spot_of Whole) o))
    by None is = refl
    by (Some n) is = ap Some (sym (at n (λ i. option_map_or count (find (column i)) 0) k below ∙ each_count source k n is each))

    from : (o : Option ℕ) → option_map count (option_map (spot_of (column k)) source)
        ≡ option_map (λ row. slice_index_or row k 0) (option_map (λ (_ : Spot). four (λ i. option_map_or count (find (column i)) 0)) (option_map (spot_of Whole) source))
    from o = subst (λ (x : Option ℕ). option_map count (option_map (spot_of (column k)) x) ≡ option_map (λ row. slice_index_or row k 0) (option_map (λ (_ : Spot). four (λ i. option_map_or count (find (column i)) 0)) (option_map (spot_of Whole) x))) refl (by source refl)

-- ---- nC of any block

own_left : (shape : SliceShape) (ms : List Mb) (at : ℕ) (field : Bool) (place : At) → nat_lt 0 (x_of place) ≡ true → left_of shape ms at field place ≡ Some (spot place at (x_of place - 1) (y_of place))
own_left shape ms at field place e = ap (λ b. cond b (Some (spot place at (x_of place - 1) (y_of place))) (cond shape.mbaff (left_in_pairs shape ms at field place) (left_in_rows shape at place))) e

own_above : (shape : SliceShape) (ms : List Mb) (at : ℕ) (field : Bool) (place : At) → nat_lt 0 (y_of place) ≡ true → above_of shape ms at field place ≡ Some (spot place at (x_of place) (y_of place - 1))
own_above shape ms at field place e = ap (λ b. cond b (Some (spot place at (x_of place) (y_of place - 1))) (cond shape.mbaff (above_in_pairs shape ms at field place) (above_in_rows shape at place))) e

-- what is known of a place: its neighbours inside count what the list of counts says, and those outside are at its side
record Stands (count : Mb → ℕ → ℕ) (mb : Mb) (own : List ℕ) (place : At) (column row : ℕ → At) : Type 0 where
  pub left : nat_lt 0 (x_of place) ≡ true → get_or own (covering place (x_of place - 1) (y_of place)) 0 ≡ count mb (covering place (x_of place - 1) (y_of place))
  pub above : nat_lt 0 (y_of place) ≡ true → get_or own (covering place (x_of place) (y_of place - 1)) 0 ≡ count mb (covering place (x_of place) (y_of place - 1))
  pub column_is : nat_lt 0 (x_of place) ≡ false → column (y_of place / 4) ≡ place
  pub row_is : nat_lt 0 (y_of place) ≡ false → row (x_of place / 4) ≡ place
  pub inside : (x_of place / 4 < 4) × (y_of place / 4 < 4)

zero_of : (n : ℕ) → nat_lt 0 n ≡ false → n ≡ 0
zero_of n e = omega (arith, ltb-false 0 n e)

general : (shape : SliceShape) (ms : List Mb) (at : ℕ) (mb : Mb) (count : Mb → ℕ → ℕ) (place : At) (own : List ℕ) (column row : ℕ → At)
    → slice_get ms at ≡ Some mb → Stands count mb own place column row → list_nC count shape ms at place ≡ nC (sides_in count shape ms at (field_at ms at) column row) own place
unfolding nC
general shape ms at mb count place own column row is stands =
    let field : Bool = field_at ms at in
    ap (λ o. mean o (option_map (count_at count ms) (above_of shape ms at field place))) (left (nat_lt 0 (x_of place)) refl)
    ∙ ap (λ o. mean (left_count (sides_in count shape ms at (field_at ms at) column row) own place) o) (above (nat_lt 0 (y_of place)) refl)
  where
    left : (b : Bool) → nat_lt 0 (x_of place) ≡ b → option_map (count_at count ms) (left_of shape ms at (field_at ms at) place) ≡ left_count (sides_in count shape ms at (field_at ms at) column row) own place
    left true e =
        ap (option_map (count_at count ms)) (own_left shape ms at (field_at ms at) place e)
        ∙ ap (λ o. Some (option_map_or (λ (m : Mb). count m (covering place (x_of place - 1) (y_of place))) o 0)) is
        ∙ ap Some (sym (stands.left e))
        ∙ ap (λ b. cond b (Some (slice_index_or own (covering place (x_of place - 1) (y_of place)) 0)) (option_map (λ xs. slice_index_or xs (y_of place / 4) 0) (sides_in count shape ms at (field_at ms at) column row).left)) (sym e)
    left false e =
        side_tells (count_at count ms) (left_of shape ms at (field_at ms at)) (left_spot shape ms at (field_at ms at)) (left_source shape at) column (y_of place / 4) place
        (ap (left_of shape ms at (field_at ms at)) (stands.column_is e) ∙ left_found shape ms at (field_at ms at) place (zero_of (x_of place) e) ∙ ap (λ p. option_map (left_spot shape ms at (field_at ms at) p) (left_source shape at)) (sym (stands.column_is e)))
        (left_found shape ms at (field_at ms at) Whole refl) stands.inside.1 (stands.column_is e)
        ∙ ap (λ b. cond b (Some (slice_index_or own (covering place (x_of place - 1) (y_of place)) 0)) (option_map (λ xs. slice_index_or xs (y_of place / 4) 0) (sides_in count shape ms at (field_at ms at) column row).left)) (sym e)

    above : (b : Bool) → nat_lt 0 (y_of place) ≡ b → option_map (count_at count ms) (above_of shape ms at (field_at ms at) place) ≡ above_count (sides_in count shape ms at (field_at ms at) column row) own place
    above true e =
        ap (option_map (count_at count ms)) (own_above shape ms at (field_at ms at) place e)
        ∙ ap (λ o. Some (option_map_or (λ (m : Mb). count m (covering place (x_of place) (y_of place - 1))) o 0)) is
        ∙ ap Some (sym (stands.above e))
        ∙ ap (λ b. cond b (Some (slice_index_or own (covering place (x_of place) (y_of place - 1)) 0)) (option_map (λ xs. slice_index_or xs (x_of place / 4) 0) (sides_in count shape ms at (field_at ms at) column row).above)) (sym e)
    above false e =
        side_tells (count_at count ms) (above_of shape ms at (field_at ms at)) (above_spot shape ms at (field_at ms at)) (above_source shape at (field_at ms at)) row (x_of place / 4) place
        (ap (above_of shape ms at (field_at ms at)) (stands.row_is e) ∙ above_found shape ms at (field_at ms at) place (zero_of (y_of place) e) ∙ ap (λ p. option_map (above_spot shape ms at (field_at ms at) p) (above_source shape at (field_at ms at))) (sym (stands.row_is e)))
        (above_found shape ms at (field_at ms at) Whole refl) stands.inside.0 (stands.row_is e)
        ∙ ap (λ b. cond b (Some (slice_index_or own (covering place (x_of place) (y_of place - 1)) 0)) (option_map (λ xs. slice_index_or xs (x_of place / 4) 0) (sides_in count shape ms at (field_at ms at) column row).above)) (sym e)

-- ---- the places of a macroblock, by one test of all of them

or_else : (b : Bool) (x n : ℕ) → (b || eqb x n) ≡ true → b ≡ false → x ≡ n
or_else true x n h e = absurd (false≢true (sym e))
or_else false x n h e = eqb-true x n h

or_below : (b : Bool) (x n : ℕ) → (not b || nat_lt x n) ≡ true → b ≡ true → x < n
or_below true x n h e = ltb-true x n h
or_below false x n h e = absurd (false≢true e)

luma_stands : (mb : Mb) (n : ℕ) → n < 16 → Stands luma_count mb (take n (sixteen (luma_count mb))) (Luma4 n) luma_column luma_row
luma_stands mb n h = record {
  left = λ e.
      let i : ℕ = covering (Luma4 n) (x_of (Luma4 n) - 1) (y_of (Luma4 n)) in
      let below : i < n = or_below _ i n (all_below-at (λ k. not (nat_lt 0 (x_of (Luma4 k))) || nat_lt (covering (Luma4 k) (x_of (Luma4 k) - 1) (y_of (Luma4 k))) k) 16 n refl h) e in
      get_or-take n (sixteen (luma_count mb)) i 0 below ∙ get_or-sixteen (luma_count mb) i 0 (omega arith);
  above = λ e.
      let i : ℕ = covering (Luma4 n) (x_of (Luma4 n)) (y_of (Luma4 n) - 1) in
      let below : i < n = or_below _ i n (all_below-at (λ k. not (nat_lt 0 (y_of (Luma4 k))) || nat_lt (covering (Luma4 k) (x_of (Luma4 k)) (y_of (Luma4 k) - 1)) k) 16 n refl h) e in
      get_or-take n (sixteen (luma_count mb)) i 0 below ∙ get_or-sixteen (luma_count mb) i 0 (omega arith);
  column_is = λ e. ap Luma4 (or_else _ _ n (all_below-at (λ k. nat_lt 0 (x_of (Luma4 k)) || eqb (covering (Luma4 0) 0 (4 * (y_of (Luma4 k) / 4))) k) 16 n refl h) e);
  row_is = λ e. ap Luma4 (or_else _ _ n (all_below-at (λ k. nat_lt 0 (y_of (Luma4 k)) || eqb (covering (Luma4 0) (4 * (x_of (Luma4 k) / 4)) 0) k) 16 n refl h) e);
  inside = (ltb-true _ 4 (all_below-at (λ k. nat_lt (x_of (Luma4 k) / 4) 4) 16 n refl h), ltb-true _ 4 (all_below-at (λ k. nat_lt (y_of (Luma4 k) / 4) 4) 16 n refl h));
}

pub get_or-four : (f : ℕ → ℕ) (i : ℕ) → i < 4 → get_or (four f) i 0 ≡ f i
get_or-four f zero h = refl
get_or-four f (suc zero) h = refl
get_or-four f (suc (suc zero)) h = refl
get_or-four f (suc (suc (suc zero))) h = refl
get_or-four f (suc (suc (suc (suc i)))) h = absurd (omega arith)

chroma_stands : (comp : ℕ) (mb : Mb) (n : ℕ) → n < 4 → Stands (chroma_count comp) mb (take n (four (chroma_count comp mb))) (Chroma4 n) chroma_column chroma_row
chroma_stands comp mb n h = record {
  left = λ e.
      let i : ℕ = covering (Chroma4 n) (x_of (Chroma4 n) - 1) (y_of (Chroma4 n)) in
      let below : i < n = or_below _ i n (all_below-at (λ k. not (nat_lt 0 (x_of (Chroma4 k))) || nat_lt (covering (Chroma4 k) (x_of (Chroma4 k) - 1) (y_of (Chroma4 k))) k) 4 n refl h) e in
      get_or-take n (four (chroma_count comp mb)) i 0 below ∙ get_or-four (chroma_count comp mb) i (omega arith);
  above = λ e.
      let i : ℕ = covering (Chroma4 n) (x_of (Chroma4 n)) (y_of (Chroma4 n) - 1) in
      let below : i < n = or_below _ i n (all_below-at (λ k. not (nat_lt 0 (y_of (Chroma4 k))) || nat_lt (covering (Chroma4 k) (x_of (Chroma4 k)) (y_of (Chroma4 k) - 1)) k) 4 n refl h) e in
      get_or-take n (four (chroma_count comp mb)) i 0 below ∙ get_or-four (chroma_count comp mb) i (omega arith);
  column_is = λ e. ap Chroma4 (or_else _ _ n (all_below-at (λ k. nat_lt 0 (x_of (Chroma4 k)) || eqb (2 * (y_of (Chroma4 k) / 4 % 2)) k) 4 n refl h) e);
  row_is = λ e. ap Chroma4 (or_else _ _ n (all_below-at (λ k. nat_lt 0 (y_of (Chroma4 k)) || eqb (x_of (Chroma4 k) / 4 % 2) k) 4 n refl h) e);
  inside = (ltb-true _ 4 (all_below-at (λ k. nat_lt (x_of (Chroma4 k) / 4) 4) 4 n refl h), ltb-true _ 4 (all_below-at (λ k. nat_lt (y_of (Chroma4 k) / 4) 4) 4 n refl h));
}

pub luma_nC-around : (shape : SliceShape) (ms : List Mb) (at : ℕ) (mb : Mb) (n : ℕ) → slice_get ms at ≡ Some mb → n < 16 → luma_nC shape ms at n ≡ nC (around_of shape ms at (field_at ms at)).luma (take n (counts_of mb).luma) (Luma4 n)
luma_nC-around shape ms at mb n is below = general shape ms at mb luma_count (Luma4 n) (take n (sixteen (luma_count mb))) luma_column luma_row is (luma_stands mb n below)

pub cb_nC-around : (shape : SliceShape) (ms : List Mb) (at : ℕ) (mb : Mb) (n : ℕ) → slice_get ms at ≡ Some mb → n < 4 → chroma_nC shape ms at 0 n ≡ nC (around_of shape ms at (field_at ms at)).cb (take n (counts_of mb).cb) (Chroma4 n)
cb_nC-around shape ms at mb n is below = general shape ms at mb (chroma_count 0) (Chroma4 n) (take n (four (chroma_count 0 mb))) chroma_column chroma_row is (chroma_stands 0 mb n below)

pub cr_nC-around : (shape : SliceShape) (ms : List Mb) (at : ℕ) (mb : Mb) (n : ℕ) → slice_get ms at ≡ Some mb → n < 4 → chroma_nC shape ms at 1 n ≡ nC (around_of shape ms at (field_at ms at)).cr (take n (counts_of mb).cr) (Chroma4 n)
cr_nC-around shape ms at mb n is below = general shape ms at mb (chroma_count 1) (Chroma4 n) (take n (four (chroma_count 1 mb))) chroma_column chroma_row is (chroma_stands 1 mb n below)

-- ---- outside MBAFF, from what the macroblocks to the left and above count

pub same_four : (f g : ℕ → ℕ) → f 0 ≡ g 0 → f 1 ≡ g 1 → f 2 ≡ g 2 → f 3 ≡ g 3 → four f ≡ four g
same_four f g e0 e1 e2 e3 = rw (e0, e1, e2, e3) refl

some_there : (ms : List Mb) (k : ℕ) → k < length ms → (m : Mb) × (slice_get ms k ≡ Some m)
some_there [] k h = absurd (omega arith)
some_there (m ∷ ms) zero h = (m, refl)
some_there (m ∷ ms) (suc k) h = some_there ms k (omega arith)

-- the four places of a side, in the macroblock there
record AtSide (count : Mb → ℕ → ℕ) (counts : Counts → List ℕ) (places : ℕ → At) (block : At → ℕ) (last : ℕ → ℕ) : Type 0 where
  pub each : (m : Mb) (i : ℕ) → i < 4 → count m (block (places i)) ≡ get_or (counts (counts_of m)) (last i) 0

side_from : (count : Mb → ℕ → ℕ) (counts : Counts → List ℕ) (places : ℕ → At) (block : At → ℕ) (last : ℕ → ℕ) → AtSide count counts places block last
    → (ms : List Mb) (find : At → Option Spot) (spot_of : At → ℕ → Spot) (source : Option ℕ)
    → ((place : At) (k : ℕ) → (spot_of place k).mb ≡ k) → ((place : At) (k : ℕ) → (spot_of place k).block ≡ block place)
    → ((i : ℕ) → i < 4 → find (places i) ≡ option_map (spot_of (places i)) source) → find Whole ≡ option_map (spot_of Whole) source
    → ((k : ℕ) → source ≡ Some k → k < length ms)
    → side (count_at count ms) find places ≡ option_map (λ (c : Counts). four (λ i. slice_index_or (counts c) (last i) 0)) (counts_at ms source)
side_from count counts places block last there ms find spot_of source mb_is block_is each whole inside =
    ap (λ o. option_map (λ (_ : Spot). four (λ i. option_map_or (count_at count ms) (find (places i)) 0)) o) whole ∙ by source refl
  where
    one : (k : ℕ) (m : Mb) (i : ℕ) → i < 4 → source ≡ Some k → slice_get ms k ≡ Some m → option_map_or (count_at count ms) (find (places i)) 0 ≡ get_or (counts (counts_of m)) (last i) 0
    one k m i h is at =
        ap (λ o. option_map_or (count_at count ms) o 0) (each i h ∙ ap (option_map (spot_of (places i))) is)
        ∙ ap (λ n. option_map_or (λ (x : Mb). count x (spot_of (places i) k).block) (slice_get ms n) 0) (mb_is (places i) k)
        ∙ ap (λ o. option_map_or (λ (x : Mb). count x (spot_of (places i) k).block) o 0) at
        ∙ ap (count m) (block_is (places i) k) ∙ there.each m i h

    by : (o : Option ℕ) → source ≡ o → option_map (λ (_ : Spot). four (λ i. option_map_or (count_at count ms) (find (places i)) 0)) (option_map (spot_of Whole) o)
        ≡ option_map (λ (c : Counts). four (λ i. slice_index_or (counts c) (last i) 0)) (counts_at ms o)
    by None is = refl
    by (Some k) is =
        let found = some_there ms k (inside k is) in
        ap Some (same_four (λ i. option_map_or (count_at count ms) (find (places i)) 0) (λ i. get_or (counts (counts_of found.0)) (last i) 0)
        (one k found.0 0 (omega arith) is found.1) (one k found.0 1 (omega arith) is found.1) (one k found.0 2 (omega arith) is found.1) (one k found.0 3 (omega arith) is found.1))
        ∙ ap (λ o. option_map (λ (c : Counts). four (λ i. slice_index_or (counts c) (last i) 0)) (option_map counts_of o)) (sym found.1)

last_block : At → ℕ
last_block place = covering place (size_of place - 1) (y_of place)

lowest_block : At → ℕ
lowest_block place = covering place (x_of place) (size_of place - 1)

luma_left : AtSide luma_count (λ c. c.luma) luma_column last_block (λ k. covering (Luma4 0) 15 (4 * k))
unfolding sixteen last_block
luma_left = record { each = at }
  where
    at : (m : Mb) (i : ℕ) → i < 4 → luma_count m (last_block (luma_column i)) ≡ get_or (counts_of m).luma (covering (Luma4 0) 15 (4 * i)) 0
    at m zero h = refl
    at m (suc zero) h = refl
    at m (suc (suc zero)) h = refl
    at m (suc (suc (suc zero))) h = refl
    at m (suc (suc (suc (suc i)))) h = absurd (omega arith)

luma_above : AtSide luma_count (λ c. c.luma) luma_row lowest_block (λ k. covering (Luma4 0) (4 * k) 15)
unfolding sixteen lowest_block
luma_above = record { each = at }
  where
    at : (m : Mb) (i : ℕ) → i < 4 → luma_count m (lowest_block (luma_row i)) ≡ get_or (counts_of m).luma (covering (Luma4 0) (4 * i) 15) 0
    at m zero h = refl
    at m (suc zero) h = refl
    at m (suc (suc zero)) h = refl
    at m (suc (suc (suc zero))) h = refl
    at m (suc (suc (suc (suc i)))) h = absurd (omega arith)

chroma_left : (comp : ℕ) (counts : Counts → List ℕ) → ((m : Mb) → counts (counts_of m) ≡ four (chroma_count comp m)) → AtSide (chroma_count comp) counts chroma_column last_block (λ k. 1 + 2 * (k % 2))
unfolding last_block
chroma_left comp counts is = record { each = λ m i h. at m i h ∙ ap (λ xs. get_or xs (1 + 2 * (i % 2)) 0) (sym (is m)) }
  where
    at : (m : Mb) (i : ℕ) → i < 4 → chroma_count comp m (last_block (chroma_column i)) ≡ get_or (four (chroma_count comp m)) (1 + 2 * (i % 2)) 0
    at m zero h = refl
    at m (suc zero) h = refl
    at m (suc (suc zero)) h = refl
    at m (suc (suc (suc zero))) h = refl
    at m (suc (suc (suc (suc i)))) h = absurd (omega arith)

chroma_above : (comp : ℕ) (counts : Counts → List ℕ) → ((m : Mb) → counts (counts_of m) ≡ four (chroma_count comp m)) → AtSide (chroma_count comp) counts chroma_row lowest_block (λ k. 2 + k % 2)
unfolding lowest_block
chroma_above comp counts is = record { each = λ m i h. at m i h ∙ ap (λ xs. get_or xs (2 + i % 2) 0) (sym (is m)) }
  where
    at : (m : Mb) (i : ℕ) → i < 4 → chroma_count comp m (lowest_block (chroma_row i)) ≡ get_or (four (chroma_count comp m)) (2 + i % 2) 0
    at m zero h = refl
    at m (suc zero) h = refl
    at m (suc (suc zero)) h = refl
    at m (suc (suc (suc zero))) h = refl
    at m (suc (suc (suc (suc i)))) h = absurd (omega arith)

rows_left : (shape : SliceShape) (ms : List Mb) (at : ℕ) (field : Bool) (place : At) → shape.mbaff ≡ false → x_of place ≡ 0
    → left_of shape ms at field place ≡ option_map (λ k. spot place k (size_of place - 1) (y_of place)) (left_number shape.width shape.first at)
rows_left shape ms at field place e x =
    let edge : nat_lt 0 (x_of place) ≡ false = rw x refl in
    ap (λ b. cond b (Some (spot place at (x_of place - 1) (y_of place))) (cond shape.mbaff (left_in_pairs shape ms at field place) (left_in_rows shape at place))) edge
    ∙ ap (λ b. cond b (left_in_pairs shape ms at field place) (left_in_rows shape at place)) e

rows_above : (shape : SliceShape) (ms : List Mb) (at : ℕ) (field : Bool) (place : At) → shape.mbaff ≡ false → y_of place ≡ 0
    → above_of shape ms at field place ≡ option_map (λ k. lowest place k) (above_number shape.width at)
rows_above shape ms at field place e y =
    let edge : nat_lt 0 (y_of place) ≡ false = rw y refl in
    ap (λ b. cond b (Some (spot place at (x_of place) (y_of place - 1))) (cond shape.mbaff (above_in_pairs shape ms at field place) (above_in_rows shape at place))) edge
    ∙ ap (λ b. cond b (above_in_pairs shape ms at field place) (above_in_rows shape at place)) e

sides_from : (shape : SliceShape) (ms : List Mb) (at : ℕ) (field : Bool) (count : Mb → ℕ → ℕ) (counts : Counts → List ℕ) (column row : ℕ → At) (last_column last_row : ℕ → ℕ)
    → shape.mbaff ≡ false → 0 < shape.width → at ≤ length ms → AtSide count counts column last_block last_column → AtSide count counts row lowest_block last_row
    → ((i : ℕ) → i < 4 → x_of (column i) ≡ 0) → ((i : ℕ) → i < 4 → y_of (row i) ≡ 0)
    → sides_in count shape ms at field column row ≡ beside (counts_at ms (left_number shape.width shape.first at)) (counts_at ms (above_number shape.width at)) counts last_column last_row
unfolding last_block lowest_block
sides_from shape ms at field count counts column row last_column last_row frame wide inside left above x y =
    let S : Option (List ℕ) → Option (List ℕ) → Sides = λ a b. record { left = a; above = b } in
    let l = side_from count counts column last_block last_column left ms (left_of shape ms at field) (λ place k. spot place k (size_of place - 1) (y_of place)) (left_number shape.width shape.first at)
    (λ place k. refl) (λ place k. refl) (λ i h. rows_left shape ms at field (column i) frame (x i h)) (rows_left shape ms at field Whole frame refl)
    (λ k is. omega (arith, inside, left_number-before shape.width shape.first at k is)) in
    let a = side_from count counts row lowest_block last_row above ms (above_of shape ms at field) (λ place k. lowest place k) (above_number shape.width at)
    (λ place k. refl) (λ place k. refl) (λ i h. rows_above shape ms at field (row i) frame (y i h)) (rows_above shape ms at field Whole frame refl)
    (λ k is. omega (arith, inside, wide, above_number-before shape.width at k is)) in
    ap (λ o. S o (side (count_at count ms) (above_of shape ms at field) row)) l ∙ ap (λ o. S (option_map (λ (c : Counts). four (λ k. slice_index_or (counts c) (last_column k) 0)) (counts_at ms (left_number shape.width shape.first at))) o) a

pub luma_edge : (i : ℕ) → i < 4 → (x_of (luma_column i) ≡ 0) × (y_of (luma_row i) ≡ 0)
luma_edge zero h = (refl, refl)
luma_edge (suc zero) h = (refl, refl)
luma_edge (suc (suc zero)) h = (refl, refl)
luma_edge (suc (suc (suc zero))) h = (refl, refl)
luma_edge (suc (suc (suc (suc i)))) h = absurd (omega arith)

pub chroma_edge : (i : ℕ) → i < 4 → (x_of (chroma_column i) ≡ 0) × (y_of (chroma_row i) ≡ 0)
chroma_edge zero h = (refl, refl)
chroma_edge (suc zero) h = (refl, refl)
chroma_edge (suc (suc zero)) h = (refl, refl)
chroma_edge (suc (suc (suc zero))) h = (refl, refl)
chroma_edge (suc (suc (suc (suc i)))) h = absurd (omega arith)

pub same_around : (a a' b b' c c' : Sides) → a ≡ a' → b ≡ b' → c ≡ c' → ◌≡◌ {A = Around} (record { luma = a; cb = b; cr = c }) (record { luma = a'; cb = b'; cr = c' })
same_around a a' b b' c c' e f g = cc

pub around_is : (shape : SliceShape) (ms : List Mb) (at : ℕ) (field : Bool) → shape.mbaff ≡ false → 0 < shape.width → at ≤ length ms
    → around_of shape ms at field ≡ around_from (counts_at ms (left_number shape.width shape.first at)) (counts_at ms (above_number shape.width at))
around_is shape ms at field frame wide inside =
    let l = sides_from shape ms at field luma_count (λ c. c.luma) luma_column luma_row _ _ frame wide inside luma_left luma_above (λ i h. (luma_edge i h).0) (λ i h. (luma_edge i h).1) in
    let b = sides_from shape ms at field (chroma_count 0) (λ c. c.cb) chroma_column chroma_row _ _ frame wide inside (chroma_left 0 (λ c. c.cb) (λ m. refl)) (chroma_above 0 (λ c. c.cb) (λ m. refl)) (λ i h. (chroma_edge i h).0) (λ i h. (chroma_edge i h).1) in
    let r = sides_from shape ms at field (chroma_count 1) (λ c. c.cr) chroma_column chroma_row _ _ frame wide inside (chroma_left 1 (λ c. c.cr) (λ m. refl)) (chroma_above 1 (λ c. c.cr) (λ m. refl)) (λ i h. (chroma_edge i h).0) (λ i h. (chroma_edge i h).1) in
    same_around _ _ _ _ _ _ l b r
