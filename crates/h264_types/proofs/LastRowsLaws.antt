-- What is kept of the last two rows tells what stands around the next macroblock.
use Rattle.std.proofs.Common.{◌≡◌, ◌⊎◌, ℕ, zero, suc, ◌+◌, ◌-◌, ◌*◌, ◌/◌, ◌%◌, ◌<◌, ◌≤◌, Bool, true, false, List, [], ◌∷◌, ◌++◌, length, drop, map, inl, inr, Option, Some, None, refl, sym, ap, subst, ◌∙◌, length-drop, arith}
use Rattle.std.specs.Prelude.{slice_get, ◌==◌, nat_lt, min, if◌then◌else◌, All, IfSome}
use Rattle.std.specs.Option.{option_map}
use Rattle.std.proofs.Math.Nat.{add-mod_right, mod-add-mod}
use Rattle.std.proofs.lemmas.Bool.{cases_lt}
use Rattle.std.proofs.lemmas.Bool.Decides.{nat_tests}
use Rattle.std.proofs.lemmas.List.{drop-append-le, drop-drop, drop-map, length-map, length_push, map_push}
use Rattle.std.proofs.lemmas.List.Elements.{All-drop, All-head, All-push, All-tail}
use Rattle.std.proofs.lemmas.Option.{slice_get-map, slice_get_past}
use Rattle.circular_buffer.specs.Buffer.{keep_last, last_item}
use Rattle.h264_types.specs.LastRows.{LastRows, AreRows, StandsAt, IsHeld, IsRecent, kept_at, two_rows, unit_of}
use Rattle.h264_types.specs.Slice.{earlier, left_number, above_number}
use Rattle.h264_types.proofs.ShapeLaws.{wide}
use Rattle.h264_types.proofs.SliceLaws.{earlier-before, left_number-before, above_number-before}
use Rattle.h264_types.specs.declared.macroblock.Mb.{Mb}
use Rattle.h264_types.specs.declared.slice_shape.SliceShape.{SliceShape}

-- ---- columns

column_behind_is : (n w : ℕ) → (n % w + 1) % w ≡ (n + 1) % w
column_behind_is n w = mod-add-mod n w 1

-- the column before that of n + 1
column_before_is : (n w : ℕ) → 0 < w → ((n + 1) % w + (w - 1)) % w ≡ n % w
column_before_is n w some =
    let e : n + 1 + (w - 1) ≡ n + w = omega (arith, some) in
    mod-add-mod (n + 1) w (w - 1) ∙ ap (λ k. k % w) e ∙ add-mod_right n w

pub column_of_last : (start number next width column result : ℕ) → 0 < width → next ≡ number + 1 → column ≡ (start + next) % width → result ≡ (column + (width - 1)) % width → result ≡ (start + number) % width
column_of_last start number next width column result some last e is =
    let there : start + next ≡ start + number + 1 = omega (arith, last) in
    is ∙ ap (λ c. (c + (width - 1)) % width) (e ∙ ap (λ n. n % width) there) ∙ column_before_is (start + number) width some

-- one macroblock more, which ends a pair in MBAFF
pub column_push : (first count width column behind : ℕ) (mbaff : Bool)
    → column ≡ (unit_of mbaff first + unit_of mbaff count) % width
    → (mbaff ≡ false) ⊎ ((count + 1) % 2 ≡ 0)
    → behind ≡ (column + 1) % width
    → behind ≡ (unit_of mbaff first + unit_of mbaff (count + 1)) % width
column_push first count width column behind mbaff e ends is =
    let next : unit_of mbaff first + unit_of mbaff count + 1 ≡ unit_of mbaff first + unit_of mbaff (count + 1) = by mbaff ends in
    is ∙ ap (λ c. (c + 1) % width) e ∙ column_behind_is (unit_of mbaff first + unit_of mbaff count) width ∙ ap (λ n. n % width) next
  where
    by : (mbaff : Bool) → (mbaff ≡ false) ⊎ ((count + 1) % 2 ≡ 0) → unit_of mbaff first + unit_of mbaff count + 1 ≡ unit_of mbaff first + unit_of mbaff (count + 1)
    by false ends = omega arith
    by true (inr even) = omega (arith, even)
    by true (inl frames) = grind arith

-- ---- what is kept

module _ {X : Type 0} where
  slice_get-drop : (n k : ℕ) (xs : List X) → slice_get (drop n xs) k ≡ slice_get xs (n + k)
  slice_get-drop zero k xs = let e : k ≡ 0 + k = omega arith in ap (slice_get xs) e
  slice_get-drop (suc n) k [] = refl
  slice_get-drop (suc n) k (x ∷ xs) =
      let e : suc (n + k) ≡ suc n + k = omega arith in
      slice_get-drop n k xs ∙ ap (slice_get (x ∷ xs)) e

  -- of what was kept, and one more
  pub keep_last-push : (n : ℕ) (xs : List X) (x : X) → keep_last n (keep_last n xs ++ x ∷ []) ≡ keep_last n (xs ++ x ∷ [])
  keep_last-push n xs x = by (cases_lt (length xs) n)
    where
      d : ℕ
      d = length xs - n

      within : d ≤ length xs
      within = omega arith

      by : (length xs < n) ⊎ (n ≤ length xs) → keep_last n (keep_last n xs ++ x ∷ []) ≡ keep_last n (xs ++ x ∷ [])
      by (inl few) = let all : length xs - n ≡ 0 = omega (arith, few) in ap (λ d. keep_last n (drop d xs ++ x ∷ [])) all
      by (inr many) =
          let once : length (drop d xs ++ x ∷ []) - n ≡ 1 = omega (arith, length_push (drop d xs) x, length-drop d xs, many) in
          let more : d + 1 ≡ length (xs ++ x ∷ []) - n = omega (arith, length_push xs x, many) in
          ap (λ k. drop k (drop d xs ++ x ∷ [])) once
          ∙ ap (drop 1) (sym (drop-append-le d xs (x ∷ []) within))
          ∙ drop-drop 1 d (xs ++ x ∷ [])
          ∙ ap (λ k. drop k (xs ++ x ∷ [])) more

  pub length-keep_last : (n : ℕ) (xs : List X) → length (keep_last n xs) ≡ min (length xs) n
  length-keep_last n xs = grind (arith, length-drop (length xs - n) xs)

  -- what holds of all that is kept
  pub all_kept : (P : X → Type 0) (n : ℕ) (xs kept : List X) (x : X) → kept ≡ keep_last n (xs ++ x ∷ []) → P x → All P xs → All P kept
  all_kept P n xs kept x e is all = subst (All P) (sym e) (All-drop P (length (xs ++ x ∷ []) - n) (xs ++ x ∷ []) (All-push P xs x all is))

  of_each : (P : X → Type 0) (xs : List X) (i : ℕ) → All P xs → IfSome (slice_get xs i) P
  of_each P [] i all = tt
  of_each P (x ∷ xs) zero all = All-head P x xs all
  of_each P (x ∷ xs) (suc i) all = of_each P xs i (All-tail P x xs all)

  pub all_at : (P : X → Type 0) (xs : List X) (i : ℕ) (o : Option X) → o ≡ slice_get xs i → All P xs → IfSome o P
  all_at P xs i o e all = subst (λ o. IfSome o P) (sym e) (of_each P xs i all)

  pub all_at_back : (P : X → Type 0) (xs : List X) (k : ℕ) (o : Option X)
      → o ≡ (if nat_lt k (length xs) then slice_get xs (length xs - k - 1) else None) → All P xs → IfSome o P
  all_at_back P xs k o e all = by (nat_lt k (length xs)) o e
    where
      by : (b : Bool) (o : Option X) → o ≡ (if b then slice_get xs (length xs - k - 1) else None) → IfSome o P
      by true o e = all_at P xs (length xs - k - 1) o e all
      by false o e = subst (λ o. IfSome o P) (sym e) tt

module _ {X Y : Type 0} where
  pub keep_last-map : (f : X → Y) (n : ℕ) (xs : List X) → keep_last n (map f xs) ≡ map f (keep_last n xs)
  keep_last-map f n xs = ap (λ k. drop (k - n) (map f xs)) (length-map xs f) ∙ drop-map f (length xs - n) xs

abbrev room : SliceShape → ℕ
room shape = two_rows shape.width shape.mbaff

module _ {K : Type 0} (of : Mb → K) (shape : SliceShape) (rows : LastRows K) (mbs : List Mb) (are : AreRows of shape rows mbs) where
  same_room : two_rows rows.width rows.mbaff ≡ room shape
  same_room = ap (λ width. two_rows width rows.mbaff) are.width ∙ ap (two_rows shape.width) are.mbaff

  pub rows_push : (mb : Mb) (after : LastRows K)
      → after ≡ record rows { count = rows.count + 1; last = keep_last (two_rows rows.width rows.mbaff) (rows.last ++ of mb ∷ []) }
      → AreRows of shape after (mbs ++ mb ∷ [])
  rows_push mb after e = rw e (record {
    width = are.width;
    height = are.height;
    first = are.first;
    mbaff = are.mbaff;
    counted = omega (arith, are.counted, length_push mbs mb);
    last =
        ap (λ n. keep_last n (rows.last ++ of mb ∷ [])) same_room
        ∙ ap (λ xs. keep_last (room shape) (xs ++ of mb ∷ [])) are.last
        ∙ ap (keep_last (room shape)) (sym (map_push of (keep_last (room shape) mbs) mb))
        ∙ keep_last-map of (room shape) (keep_last (room shape) mbs ++ mb ∷ [])
        ∙ ap (map of) (keep_last-push (room shape) mbs mb);
  })

  size_is : length rows.last ≡ min (length mbs) (room shape)
  size_is = ap length are.last ∙ length-map (keep_last (room shape) mbs) of ∙ length-keep_last (room shape) mbs

  -- the place of a macroblock
  pub rows_at : (number place : ℕ) → IsRecent rows number → place + rows.count ≡ number + length rows.last
      → slice_get rows.last place ≡ option_map of (slice_get mbs number)
  rows_at number place recent e =
      let near : length mbs ≤ number + room shape = omega (arith, recent, are.counted, same_room) in
      let there : length mbs - room shape + place ≡ number = grind (arith, size_is, are.counted) in
      ap (λ xs. slice_get xs place) are.last
      ∙ slice_get-map of (keep_last (room shape) mbs) place
      ∙ ap (option_map of) (slice_get-drop (length mbs - room shape) place mbs ∙ ap (slice_get mbs) there)

  -- ---- what stands around the next macroblock, outside MBAFF

  frame_room : shape.mbaff ≡ false → room shape ≡ 2 * shape.width
  frame_room mbaff = ap (two_rows shape.width) mbaff

  pub rows_left : shape.mbaff ≡ false → 1 ≤ shape.width → 0 < (shape.first + rows.count) % shape.width
      → last_item rows.last ≡ kept_at of mbs (left_number shape.width shape.first (length mbs))
  rows_left mbaff wide edge = by (cases_lt 0 (length mbs))
    where
      edge_of_list : 0 < (shape.first + length mbs) % shape.width
      edge_of_list = subst (λ n. 0 < (shape.first + n) % shape.width) are.counted edge

      inner : ((shape.first + length mbs) % shape.width == 0) ≡ false
      inner = grind (arith, nat_tests, edge_of_list)

      by : (0 < length mbs) ⊎ (length mbs ≤ 0) → last_item rows.last ≡ kept_at of mbs (left_number shape.width shape.first (length mbs))
      by (inl begun) =
          let far : nat_lt (length mbs) 1 ≡ false = grind (arith, nat_tests) in
          let number : left_number shape.width shape.first (length mbs) ≡ Some (length mbs - 1) = rw (inner, far) refl in
          let some : 0 < length rows.last = grind (arith, size_is, frame_room mbaff) in
          rows_at (length mbs - 1) (length rows.last - 1)
          (omega (arith, are.counted, same_room, frame_room mbaff, wide))
          (omega (arith, some, are.counted, begun))
          ∙ ap (kept_at of mbs) (sym number)
      by (inr first) =
          let near : nat_lt (length mbs) 1 ≡ true = grind (arith, nat_tests) in
          let number : left_number shape.width shape.first (length mbs) ≡ None = rw (inner, near) refl in
          let none : length rows.last ≤ length rows.last - 1 = grind (arith, size_is) in
          slice_get_past rows.last (length rows.last - 1) none ∙ ap (kept_at of mbs) (sym number)

  pub rows_above : shape.mbaff ≡ false → 1 ≤ shape.width → (x : Option K)
      → x ≡ (if nat_lt (shape.width - 1) (length rows.last) then slice_get rows.last (length rows.last - (shape.width - 1) - 1) else None)
      → x ≡ kept_at of mbs (above_number shape.width (length mbs))
  rows_above mbaff wide x e = by (cases_lt (length mbs) shape.width)
    where
      by : (length mbs < shape.width) ⊎ (shape.width ≤ length mbs) → x ≡ kept_at of mbs (above_number shape.width (length mbs))
      by (inl near) =
          let number : above_number shape.width (length mbs) ≡ None = let test : nat_lt (length mbs) shape.width ≡ true = grind (arith, nat_tests) in rw test refl in
          let none : nat_lt (shape.width - 1) (length rows.last) ≡ false = grind (arith, nat_tests, size_is) in
          e ∙ ap (λ t. if t then slice_get rows.last (length rows.last - (shape.width - 1) - 1) else None) none ∙ ap (kept_at of mbs) (sym number)
      by (inr far) =
          let number : above_number shape.width (length mbs) ≡ Some (length mbs - shape.width) = let test : nat_lt (length mbs) shape.width ≡ false = grind (arith, nat_tests) in rw test refl in
          let row : shape.width ≤ length rows.last = grind (arith, size_is, frame_room mbaff) in
          let some : nat_lt (shape.width - 1) (length rows.last) ≡ true = grind (arith, nat_tests) in
          e ∙ ap (λ t. if t then slice_get rows.last (length rows.last - (shape.width - 1) - 1) else None) some
          ∙ rows_at (length mbs - shape.width) (length rows.last - (shape.width - 1) - 1)
          (omega (arith, are.counted, same_room, frame_room mbaff, far))
          (omega (arith, row, are.counted, far, wide))
          ∙ ap (kept_at of mbs) (sym number)

-- ---- what is held

module _ {K : Type 0} (of : Mb → K) (shape : SliceShape) (rows : LastRows K) (mbs : List Mb) (at number : ℕ) (stands : StandsAt of shape rows mbs at) where
  some_width : 1 ≤ rows.width
  some_width = omega (arith, wide shape at stands.picture, stands.are.width)

  pub held_in_rows : shape.mbaff ≡ false
      → (earlier at 1 ≡ Some number) ⊎ (left_number shape.width shape.first at ≡ Some number) ⊎ (above_number shape.width at ≡ Some number)
      → IsHeld rows number
  held_in_rows mbaff found = omega (arith, near found, stands.before.0 mbaff, stands.behind.0 mbaff, some_width, stands.are.width, frames)
    where
      frames : two_rows rows.width rows.mbaff ≡ 2 * rows.width
      frames = ap (two_rows rows.width) (stands.are.mbaff ∙ mbaff)

      near : (earlier at 1 ≡ Some number) ⊎ (left_number shape.width shape.first at ≡ Some number) ⊎ (above_number shape.width at ≡ Some number)
          → (number + 1 ≤ at) × (at ≤ number + rows.width)
      near (inl e) = omega (arith, earlier-before at 1 number e, some_width)
      near (inr (inl e)) = omega (arith, left_number-before shape.width shape.first at number e, some_width)
      near (inr (inr e)) = omega (arith, above_number-before shape.width at number e, some_width, stands.are.width)

  pub held_in_pairs : shape.mbaff ≡ true
      → (left_number shape.width (shape.first / 2) (at / 2) ≡ Some (number / 2)) ⊎ (above_number shape.width (at / 2) ≡ Some (number / 2))
      → IsHeld rows number
  held_in_pairs mbaff found = omega (arith, near found, stands.before.1 mbaff, stands.behind.1 mbaff, some_width, pairs)
    where
      pairs : two_rows rows.width rows.mbaff ≡ 4 * rows.width
      pairs = ap (two_rows rows.width) (stands.are.mbaff ∙ mbaff)

      near : (left_number shape.width (shape.first / 2) (at / 2) ≡ Some (number / 2)) ⊎ (above_number shape.width (at / 2) ≡ Some (number / 2))
          → (number / 2 + 1 ≤ at / 2) × (at / 2 ≤ number / 2 + rows.width)
      near (inl e) = omega (arith, left_number-before shape.width (shape.first / 2) (at / 2) (number / 2) e, some_width)
      near (inr e) = omega (arith, above_number-before shape.width (at / 2) (number / 2) e, some_width, stands.are.width)
