-- What the magnitudes of neighbouring vector differences rest on.
use Rattle.std.proofs.Common.{◌≡◌, ℕ, ◌+◌, ◌<◌, Bool, true, false, cond, eqb, List, Option, Some, None, refl}
use Rattle.std.specs.List.{slice_get}
use Rattle.std.specs.Option.{option_map_or}
use Rattle.std.proofs.lemmas.Bool.{eqb-true}
use Rattle.h264_types.specs.declared.macroblock.Mb.{Mb}
use Rattle.h264_types.specs.declared.slice_shape.SliceShape.{SliceShape}
use Rattle.mb_neighbours.specs.Near.{left_of, above_of, IsBefore}
use Rattle.mb_neighbours.specs.declared.place.At.TheVariants.{Luma4}
use Rattle.mb_neighbours.specs.declared.place.Spot.{Spot}
use Rattle.mb_neighbours.proofs.NearLaws.{left_of-before, above_of-before}
use Rattle.cabac_contexts.specs.Terms.{magnitude_of, magnitude_at, magnitudes}

module _ (shape : SliceShape) (done : List Mb) (at : ℕ) (field : Bool) (list axis block : ℕ) where
  pub magnitudes-is : (mb : Mb) (a b : Option Spot) (x y : ℕ) → a ≡ left_of shape done at field (Luma4 block) → b ≡ above_of shape done at field (Luma4 block)
      → x ≡ magnitude_at list axis field done at mb a → y ≡ magnitude_at list axis field done at mb b → x + y ≡ magnitudes shape done at field mb list block axis
  magnitudes-is mb a b x y left above first second = rw (first, second, left, above) refl

  -- ---- of the current macroblock, on the blocks before alone

  module _ (mb other : Mb) (same : (n : ℕ) → n < block → magnitude_of list axis field mb n ≡ magnitude_of list axis field other n) where
    same_at : (found : Option Spot) → ((spot : Spot) → found ≡ Some spot → IsBefore spot at (Luma4 block)) → magnitude_at list axis field done at mb found ≡ magnitude_at list axis field done at other found
    same_at None before = refl
    same_at (Some spot) before = by (eqb spot.mb at) refl
      where
        by : (b : Bool) → eqb spot.mb at ≡ b
            → option_map_or (λ found. magnitude_of list axis field found spot.block) (cond b (Some mb) (slice_get done spot.mb)) 0
            ≡ option_map_or (λ found. magnitude_of list axis field found spot.block) (cond b (Some other) (slice_get done spot.mb)) 0
        by true e = same spot.block ((before spot refl).1 (eqb-true spot.mb at e))
        by false e = refl

    pub same_magnitudes : 0 < shape.width → block < 16 → magnitudes shape done at field mb list block axis ≡ magnitudes shape done at field other list block axis
    same_magnitudes wide below =
        let a = same_at (left_of shape done at field (Luma4 block)) (λ spot e. left_of-before shape done at field (Luma4 block) spot below e) in
        let b = same_at (above_of shape done at field (Luma4 block)) (λ spot e. above_of-before shape done at field (Luma4 block) spot wide below e) in
        rw (a, b) refl
