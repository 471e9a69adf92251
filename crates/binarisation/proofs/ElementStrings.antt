-- Each element's values have one string of bins each.
use Rattle.std.proofs.Common.{ℕ, ◌+◌, unsigned_abs, [], ◌∷◌, refl}
use Rattle.std.specs.Int.{from_bool}
use Rattle.exp_golomb.specs.Code.{place_of}
use Rattle.binarisation.specs.BinString.{◌>>=◌, HasOneString}
use Rattle.binarisation.specs.Codes.{flag, up_to_two, ones, unary, ueg, signed}
use Rattle.binarisation.specs.Elements.{mode, chroma_mode, ref_idx, qp_delta, mvd, end_of_slice}
use Rattle.binarisation.specs.MacroblockType.{two_bits, three_bits, intra_parts, intra, type_i, intra_from, type_p, type_b_last, type_b_more, type_b, sub_p, sub_b_more, sub_b}
use Rattle.binarisation.proofs.OneString.{differ_one, then_one, ueg_one, signed_one, signed-back}

pub flag_one : (ctx : ℕ) → HasOneString (flag ctx)
flag_one ctx = differ_one from_bool (flag ctx) refl

pub end_of_slice_one : HasOneString end_of_slice
end_of_slice_one = differ_one from_bool end_of_slice refl

pub mode_one : HasOneString mode
mode_one = differ_one (λ n. n) mode refl

pub chroma_mode_one : (inc : ℕ) → HasOneString (chroma_mode inc)
unfolding ones unary
chroma_mode_one inc = differ_one (λ n. n) (chroma_mode inc) refl

pub ref_idx_one : (inc : ℕ) → HasOneString (ref_idx inc)
unfolding ◌>>=◌ ones unary
ref_idx_one inc = differ_one (λ n. n) (ref_idx inc) refl

pub qp_delta_one : (inc : ℕ) → HasOneString (qp_delta inc)
unfolding ◌>>=◌ ones unary
qp_delta_one inc = differ_one place_of (qp_delta inc) refl

pub mvd_one : (ctx inc : ℕ) → HasOneString (mvd ctx inc)
mvd_one ctx inc =
    then_one (ueg ((ctx + inc) ∷ (ctx + 3) ∷ (ctx + 4) ∷ (ctx + 5) ∷ (ctx + 6) ∷ []) 9 3 12) (signed 32767) unsigned_abs (ueg_one _ 9 3 12) (signed_one 32767)
    (λ first second magnitude value h g. signed-back 32767 magnitude second value g)

pub up_to_two_one : (first second : ℕ) → HasOneString (up_to_two first second)
unfolding up_to_two
up_to_two_one first second = differ_one (λ n. n) (up_to_two first second) refl

pub type_i_one : (inc : ℕ) → HasOneString (type_i inc)
unfolding ◌>>=◌ up_to_two two_bits intra_parts intra
type_i_one inc = differ_one (λ n. n) (type_i inc) refl

pub type_p_one : HasOneString type_p
unfolding ◌>>=◌ up_to_two two_bits intra_parts intra intra_from
type_p_one = differ_one (λ n. n) type_p refl

pub type_b_one : (inc : ℕ) → HasOneString (type_b inc)
unfolding ◌>>=◌ up_to_two two_bits three_bits intra_parts intra intra_from type_b_last type_b_more
type_b_one inc = differ_one (λ n. n) (type_b inc) refl

pub sub_p_one : HasOneString sub_p
sub_p_one = differ_one (λ n. n) sub_p refl

pub sub_b_one : HasOneString sub_b
unfolding two_bits sub_b_more
sub_b_one = differ_one (λ n. n) sub_b refl
