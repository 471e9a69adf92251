-- What mb_skip_flag and mb_type say.
use Rattle.std.proofs.Common.{◌≡◌, ℕ, ◌-◌, Bool, true, false, cond, List, refl, arith}
use Rattle.std.specs.Prelude.{nat_lt, not, ◌&&◌}
use Rattle.std.proofs.lemmas.Bool.{and_parts}
use Rattle.std.proofs.lemmas.Bool.Decides.{nat_tests}
use Rattle.binarisation.specs.BinString.{◌>>=◌, HasOneString}
use Rattle.binarisation.specs.Codes.{up_to_two}
use Rattle.binarisation.specs.MacroblockType.{two_bits, three_bits, intra_parts, intra, intra_from, type_b_last, type_b_more}
use Rattle.binarisation.proofs.OneString.{value_one}
use Rattle.binarisation.proofs.ElementStrings.{flag_one, type_i_one, type_p_one, type_b_one}
use Rattle.h264_types.specs.Kind.{is_skip}
use Rattle.h264_types.specs.Valid.{is_kind_in}
use Rattle.h264_types.specs.declared.macroblock.Mb.{Mb}
use Rattle.h264_types.specs.declared.macroblock.MbKind.{MbKind}
use Rattle.h264_types.specs.declared.macroblock.MbKind.TheVariants.{Intra, P, B}
use Rattle.h264_types.specs.declared.slice_shape.SliceKind.{SliceKind}
use Rattle.h264_types.specs.declared.slice_shape.SliceKind.TheVariants as slices
use Rattle.h264_types.specs.declared.slice_shape.SliceShape.{SliceShape}
use Rattle.cabac_macroblock.specs.MbType.{skip_in, skip_flag, kind_of, type_in, type_number, mb_type}
use Rattle.cabac_macroblock.proofs.Kept.{Keeps, keeps_put_of}
use Rattle.cabac_macroblock.proofs.OneStrings.{put_one}
use Rattle.cabac_macroblock.proofs.Values.{all_kept}

-- ---- mb_skip_flag

skip_in_one : (slice : SliceKind) (inc : ℕ) → HasOneString (skip_in slice inc)
skip_in_one slices.I inc = value_one false
skip_in_one slices.P inc = flag_one _
skip_in_one slices.B inc = flag_one _

pub skip_one : (shape : SliceShape) (done : List Mb) (at : ℕ) (field : Bool) → HasOneString (skip_flag shape done at field)
unfolding skip_flag
skip_one shape done at field = skip_in_one shape.kind _

-- ---- mb_type

-- no type has two numbers
pub same_number : (slice : SliceKind) (m n : ℕ) → kind_of slice m ≡ kind_of slice n → m ≡ n
same_number slices.I m n e = let is : Intra m ≡ Intra n = e in cc
same_number slices.P m n e = by (nat_lt m 5) (nat_lt n 5) refl refl e
  where
    by : (a b : Bool) → nat_lt m 5 ≡ a → nat_lt n 5 ≡ b → cond a (P m) (Intra (m - 5)) ≡ cond b (P n) (Intra (n - 5)) → m ≡ n
    by true true f g h = cc
    by true false f g h = absurd cc
    by false true f g h = absurd cc
    by false false f g h = let same : m - 5 ≡ n - 5 = cc in grind (arith, nat_tests)
same_number slices.B m n e = by (nat_lt m 23) (nat_lt n 23) refl refl e
  where
    by : (a b : Bool) → nat_lt m 23 ≡ a → nat_lt n 23 ≡ b → cond a (B m) (Intra (m - 23)) ≡ cond b (B n) (Intra (n - 23)) → m ≡ n
    by true true f g h = cc
    by true false f g h = absurd cc
    by false true f g h = absurd cc
    by false false f g h = let same : m - 23 ≡ n - 23 = cc in grind (arith, nat_tests)

type_in_one : (slice : SliceKind) (a b : ℕ) → HasOneString (type_in slice a b)
type_in_one slices.I a b = type_i_one a
type_in_one slices.P a b = type_p_one
type_in_one slices.B a b = type_b_one b

pub type_one : (shape : SliceShape) (done : List Mb) (at : ℕ) (field : Bool) → HasOneString (mb_type shape done at field)
unfolding mb_type type_number
type_one shape done at field = put_one (type_in shape.kind _ _) (kind_of shape.kind) (type_in_one shape.kind _ _) (same_number shape.kind)

-- a type that the slice sends
abbrev pub IsType : SliceShape → MbKind → Type 0
IsType shape kind = (is_kind_in shape.kind kind ≡ true) × (is_skip kind ≡ false)

is_sent : SliceKind → ℕ → Bool
is_sent slice number = is_kind_in slice (kind_of slice number) && not (is_skip (kind_of slice number))

number_range : (slice : SliceKind) (a b : ℕ) → Keeps (λ n. is_sent slice n ≡ true) (type_in slice a b)
unfolding ◌>>=◌ up_to_two two_bits three_bits intra_parts intra intra_from type_b_last type_b_more is_sent
number_range slices.I a b = all_kept (is_sent slices.I) (type_in slices.I a b) refl
number_range slices.P a b = all_kept (is_sent slices.P) (type_in slices.P a b) refl
number_range slices.B a b = all_kept (is_sent slices.B) (type_in slices.B a b) refl

pub type_range : (shape : SliceShape) (done : List Mb) (at : ℕ) (field : Bool) → Keeps (IsType shape) (mb_type shape done at field)
unfolding mb_type type_number is_sent
type_range shape done at field =
    keeps_put_of (λ n. is_sent shape.kind n ≡ true) (IsType shape) (type_in shape.kind _ _) (kind_of shape.kind) (number_range shape.kind _ _)
    (λ n sent.
    let parts = and_parts (is_kind_in shape.kind (kind_of shape.kind n)) (not (is_skip (kind_of shape.kind n))) sent in
    (parts.0, unset (is_skip (kind_of shape.kind n)) parts.1))
  where
    unset : (b : Bool) → not b ≡ true → b ≡ false
    unset true e = absurd cc
    unset false e = refl
