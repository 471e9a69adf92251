-- Neighbours are at hand: held by the last two rows, or of the macroblock's own pair, or it itself.
use Rattle.std.proofs.Common.{◌≡◌, ◌⊎◌, ℕ, ◌+◌, ◌-◌, ◌*◌, ◌/◌, ◌%◌, ◌<◌, ◌≤◌, Bool, true, false, not, ◌&&◌, ◌==◌, nat_lt, cond, inl, inr, Some, List, refl, ap, sym, subst, ◌∙◌, arith}
use Rattle.std.specs.Bool.{IsTrue}
use Rattle.std.proofs.lemmas.Bool.{cases_lt}
use Rattle.std.proofs.lemmas.Bool.Decides.{nat_tests}
use Rattle.std.proofs.lemmas.Option.{same_Some}
use Rattle.h264_types.specs.declared.macroblock.Mb.{Mb}
use Rattle.h264_types.specs.declared.slice_shape.SliceShape.{SliceShape}
use Rattle.h264_types.specs.LastRows.{LastRows, StandsAt, IsRecent, IsAtHand, two_rows}
use Rattle.h264_types.specs.Slice.{earlier, left_number, above_number, field_at}
use Rattle.h264_types.proofs.LastRowsLaws.{held_in_rows, held_in_pairs}
use Rattle.h264_types.proofs.ShapeLaws.{wide}
use Rattle.h264_types.proofs.SliceLaws.{earlier-before}
use Rattle.mb_neighbours.specs.declared.place.At.{At}
use Rattle.mb_neighbours.specs.declared.place.Spot.{Spot}
use Rattle.mb_neighbours.specs.Place.{x_of, y_of, size_of}
use Rattle.mb_neighbours.specs.Near.{spot, left_in_rows, left_in_pairs, left_of, above_in_rows, above_in_pairs, above_of}
use Rattle.mb_neighbours.proofs.NearLaws.{cond-is, option_map-is, half_of_left, half_above}

flag_cases : (mbaff : Bool) → (mbaff ≡ false) ⊎ (mbaff ≡ true)
flag_cases false = inl refl
flag_cases true = inr refl

module _ {K : Type 0} (of : Mb → K) (shape : SliceShape) (rows : LastRows K) (mbs : List Mb) (at : ℕ) where
  -- two rows are two macroblocks at least, and in MBAFF four
  room : StandsAt of shape rows mbs at → (2 ≤ two_rows rows.width rows.mbaff) × (shape.mbaff ≡ true → 4 ≤ two_rows rows.width rows.mbaff)
  room stands =
      let some : 1 ≤ rows.width = omega (arith, wide shape at stands.picture, stands.are.width) in
      (by some rows.mbaff, λ mbaff. pairs some (ap (two_rows rows.width) (stands.are.mbaff ∙ mbaff)))
    where
      by : 1 ≤ rows.width → (mbaff : Bool) → 2 ≤ two_rows rows.width mbaff
      by some true = omega (arith, some)
      by some false = omega (arith, some)

      pairs : 1 ≤ rows.width → two_rows rows.width rows.mbaff ≡ 4 * rows.width → 4 ≤ two_rows rows.width rows.mbaff
      pairs some e = omega (arith, some, e)

  -- `at` itself, and the macroblock before it
  close : (number : ℕ) → StandsAt of shape rows mbs at → at ≤ number + 1 → IsRecent rows number
  close number stands near = by (flag_cases shape.mbaff)
    where
      by : (shape.mbaff ≡ false) ⊎ (shape.mbaff ≡ true) → IsRecent rows number
      by (inl mbaff) = omega (arith, stands.behind.0 mbaff, (room stands).0, near)
      by (inr mbaff) = omega (arith, stands.behind.1 mbaff, (room stands).1 mbaff, near)

  -- what is at hand isn't before the last two rows
  recent : (number : ℕ) → StandsAt of shape rows mbs at → IsAtHand shape rows at number → IsRecent rows number
  recent number stands (inl same) = close number stands (omega (arith, same))
  recent number stands (inr (inl pair)) = close number stands (omega (arith, pair.1))
  recent number stands (inr (inr held)) = held.1

  pub before-at_hand : (number : ℕ) → StandsAt of shape rows mbs at → earlier at 1 ≡ Some number → IsAtHand shape rows at number
  before-at_hand number stands is = by (flag_cases shape.mbaff)
    where
      next : number + 1 ≡ at
      next = earlier-before at 1 number is

      in_pairs : shape.mbaff ≡ true → (number / 2 < at / 2) ⊎ (at / 2 ≤ number / 2) → IsAtHand shape rows at number
      in_pairs mbaff (inl less) = inr (inr (omega (arith, stands.before.1 mbaff, less), close number stands (omega (arith, next))))
      in_pairs mbaff (inr same) = inr (inl (mbaff, omega (arith, next, same)))

      by : (shape.mbaff ≡ false) ⊎ (shape.mbaff ≡ true) → IsAtHand shape rows at number
      by (inl mbaff) = inr (inr (held_in_rows of shape rows mbs at number stands mbaff (inl is)))
      by (inr mbaff) = in_pairs mbaff (cases_lt (number / 2) (at / 2))

  module _ (field : Bool) (place : At) (found : Spot) where
    itself : (x y : ℕ) → Some (spot place at x y) ≡ Some found → IsAtHand shape rows at found.mb
    itself x y is = subst (λ s. IsAtHand shape rows at s.mb) (same_Some _ _ is) (inl refl)

    own_top : IsTrue (not field && at % 2 == 1) → (at - 1) / 2 ≡ at / 2
    own_top lower = grind (arith, nat_tests)

    of_pair : (pair half : ℕ) → half < 2 → (2 * pair + half) / 2 ≡ pair
    of_pair pair half low = omega (arith, low)

    left_in_rows-at_hand : StandsAt of shape rows mbs at → shape.mbaff ≡ false → left_in_rows shape at place ≡ Some found → IsAtHand shape rows at found.mb
    left_in_rows-at_hand stands mbaff =
        option_map-is _ (left_number shape.width shape.first at) found (λ k is here.
        subst (λ s. IsAtHand shape rows at s.mb) here (inr (inr (held_in_rows of shape rows mbs at k stands mbaff (inr (inl is))))))

    left_in_pairs-at_hand : StandsAt of shape rows mbs at → shape.mbaff ≡ true → left_in_pairs shape mbs at field place ≡ Some found → IsAtHand shape rows at found.mb
    left_in_pairs-at_hand stands mbaff =
        option_map-is _ (left_number shape.width (shape.first / 2) (at / 2)) found (λ k is here.
        let half = half_of_left field (field_at mbs (2 * k)) (at % 2) (y_of place) (size_of place) (omega arith) in
        subst (λ s. IsAtHand shape rows at s.mb) here (inr (inr (held_in_pairs of shape rows mbs at _ stands mbaff (inl (is ∙ ap (λ n. Some n) (sym (of_pair k _ half))))))))

    pub left_of-at_hand : StandsAt of shape rows mbs at → left_of shape mbs at field place ≡ Some found → IsAtHand shape rows at found.mb
    left_of-at_hand stands =
        cond-is (nat_lt 0 (x_of place)) _ _ found
        (λ own. itself (x_of place - 1) (y_of place))
        (by (flag_cases shape.mbaff))
      where
        by : (shape.mbaff ≡ false) ⊎ (shape.mbaff ≡ true) → cond shape.mbaff (left_in_pairs shape mbs at field place) (left_in_rows shape at place) ≡ Some found → IsAtHand shape rows at found.mb
        by (inl mbaff) is = left_in_rows-at_hand stands mbaff (ap (λ m. cond m (left_in_pairs shape mbs at field place) (left_in_rows shape at place)) (sym mbaff) ∙ is)
        by (inr mbaff) is = left_in_pairs-at_hand stands mbaff (ap (λ m. cond m (left_in_pairs shape mbs at field place) (left_in_rows shape at place)) (sym mbaff) ∙ is)

    pub left_of-recent : StandsAt of shape rows mbs at → left_of shape mbs at field place ≡ Some found → IsRecent rows found.mb
    left_of-recent stands is = recent found.mb stands (left_of-at_hand stands is)

    above_in_rows-at_hand : StandsAt of shape rows mbs at → shape.mbaff ≡ false → above_in_rows shape at place ≡ Some found → IsAtHand shape rows at found.mb
    above_in_rows-at_hand stands mbaff =
        option_map-is _ (above_number shape.width at) found (λ k is here.
        subst (λ s. IsAtHand shape rows at s.mb) here (inr (inr (held_in_rows of shape rows mbs at k stands mbaff (inr (inr is))))))

    above_in_pairs-at_hand : StandsAt of shape rows mbs at → shape.mbaff ≡ true → above_in_pairs shape mbs at field place ≡ Some found → IsAtHand shape rows at found.mb
    above_in_pairs-at_hand stands mbaff =
        cond-is (not field && at % 2 == 1) _ _ found
        (λ lower is. subst (λ s. IsAtHand shape rows at s.mb) (same_Some _ _ is) (inr (inl (mbaff, own_top lower))))
        (option_map-is _ (above_number shape.width (at / 2)) found (λ k is here.
        let half = half_above field (field_at mbs (2 * k)) (at % 2) (omega arith) in
        subst (λ s. IsAtHand shape rows at s.mb) here (inr (inr (held_in_pairs of shape rows mbs at _ stands mbaff (inr (is ∙ ap (λ n. Some n) (sym (of_pair k _ half)))))))))

    pub above_of-at_hand : StandsAt of shape rows mbs at → above_of shape mbs at field place ≡ Some found → IsAtHand shape rows at found.mb
    above_of-at_hand stands =
        cond-is (nat_lt 0 (y_of place)) _ _ found
        (λ own. itself (x_of place) (y_of place - 1))
        (by (flag_cases shape.mbaff))
      where
        by : (shape.mbaff ≡ false) ⊎ (shape.mbaff ≡ true) → cond shape.mbaff (above_in_pairs shape mbs at field place) (above_in_rows shape at place) ≡ Some found → IsAtHand shape rows at found.mb
        by (inl mbaff) is = above_in_rows-at_hand stands mbaff (ap (λ m. cond m (above_in_pairs shape mbs at field place) (above_in_rows shape at place)) (sym mbaff) ∙ is)
        by (inr mbaff) is = above_in_pairs-at_hand stands mbaff (ap (λ m. cond m (above_in_pairs shape mbs at field place) (above_in_rows shape at place)) (sym mbaff) ∙ is)

    pub above_of-recent : StandsAt of shape rows mbs at → above_of shape mbs at field place ≡ Some found → IsRecent rows found.mb
    above_of-recent stands is = recent found.mb stands (above_of-at_hand stands is)
