-- The shape that a reader or a writer keeps is one of a slice.
use Rattle.std.proofs.Common.{◌≡◌, ◌⊎◌, inl, inr, ℕ, true, false, ap, eq-eqb, arith}
use Rattle.std.specs.Prelude.{◌==◌, ◌||◌}
use Rattle.std.proofs.lemmas.Bool.Decides.{eqb_tells, nat_tests}
use Rattle.h264_types.specs.SliceShape.{IsSliceShape}
use Rattle.h264_types.specs.declared.slice_shape.SliceShape.{SliceShape}
use Rattle.cavlc_syntax.specs.Kept.{KeepsShape}

one_of : (n : ℕ) → (n == 77 || n == 100) ≡ true → (n ≡ 77) ⊎ (n ≡ 100)
one_of n e =
    elim (eqb_tells n 77) [
      | inl main ↦ inl main.1
      | inr other ↦ elim (eqb_tells n 100) [ inl high ↦ inr high.1 | inr none ↦ let a : (n == 77) ≡ false = other.0 in let b : (n == 100) ≡ false = none.0 in absurd cc ]
    ]

is_one : (n : ℕ) → (n ≡ 77) ⊎ (n ≡ 100) → (n == 77 || n == 100) ≡ true
is_one n (inl main) = ap (λ b. b || n == 100) (eq-eqb n 77 main)
is_one n (inr high) = grind (arith, nat_tests)

pub shape_is : (shape : SliceShape) → KeepsShape shape → IsSliceShape shape
shape_is shape k = record {
  some = k.some;
  width = k.width;
  size = k.size;
  pairs = k.pairs;
  profile = one_of shape.profile k.profile;
  qp = k.qp;
  column = k.column;
  l0 = k.l0;
  l1 = k.l1;
}

pub shape_kept : (shape : SliceShape) → IsSliceShape shape → KeepsShape shape
shape_kept shape is = record {
  some = is.some;
  width = is.width;
  size = is.size;
  pairs = is.pairs;
  profile = is_one shape.profile is.profile;
  qp = is.qp;
  column = is.column;
  l0 = is.l0;
  l1 = is.l1;
}
