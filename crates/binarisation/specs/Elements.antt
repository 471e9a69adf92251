-- The bin strings of the syntax elements other than types (Tables 9-34 and 9-39), with their contexts.
use Rattle.std.specs.Prelude.{ℕ, ◌+◌, ◌*◌, ℤ, ◌==◌, ◌||◌, nat_lt, Bool, [], ◌∷◌, Option, Some, None, if◌then◌else◌}
use Rattle.std.specs.Int.{from_bool}
use Rattle.exp_golomb.specs.Element.{value_at}
use Rattle.cabac_engine.specs.Bins.{in_context, at_end}
use Rattle.binarisation.specs.BinString.{BinString, Value, Next, ◌>>=◌, only}
use Rattle.binarisation.specs.Codes.{flag, unary, up_to_two, ueg, signed}

-- mb_skip_flag in P and B slices, mb_field_decoding_flag, transform_size_8x8_flag
abbrev pub skip_p : ℕ → BinString Bool
skip_p inc = flag (11 + inc)

abbrev pub skip_b : ℕ → BinString Bool
skip_b inc = flag (24 + inc)

abbrev pub field : ℕ → BinString Bool
field inc = flag (70 + inc)

abbrev pub t8 : ℕ → BinString Bool
t8 inc = flag (399 + inc)

-- end_of_slice_flag
abbrev pub end_of_slice : BinString Bool
end_of_slice = Next at_end Value

-- prev_intra4x4_pred_mode_flag, and rem_intra4x4_pred_mode, the lowest bit first
abbrev pub mode_flag : BinString Bool
mode_flag = flag 68

abbrev pub mode : BinString ℕ
mode = Next (in_context 69) (λ a. Next (in_context 69) (λ b. Next (in_context 69) (λ c. Value (from_bool a + 2 * from_bool b + 4 * from_bool c))))

-- intra_chroma_pred_mode
abbrev pub chroma_mode : ℕ → BinString ℕ
chroma_mode inc = unary ((64 + inc) ∷ 67 ∷ 67 ∷ 67 ∷ 67 ∷ []) 3

-- ref_idx: 0 to 31, each by as many ones
abbrev pub index_of : ℕ → Option ℕ
index_of count = if nat_lt count 32 then Some count else None

abbrev pub ref_idx : ℕ → BinString ℕ
ref_idx inc = unary ((54 + inc) ∷ 58 ∷ 59 ∷ 59 ∷ 59 ∷ []) 32 >>= (λ count. only (index_of count))

-- the number of ones that stand for mb_qp_delta is its place among 0, 1, -1, 2, -2 and so on (9.1.1); those of 26 and
-- beyond -26 are of no value in range
abbrev pub delta : ℕ → Option ℤ
delta place = if place == 51 || place == 53 then None else Some (value_at place)

abbrev pub qp_delta : ℕ → BinString ℤ
qp_delta inc = unary ((60 + inc) ∷ 62 ∷ 63 ∷ 63 ∷ 63 ∷ []) 53 >>= (λ place. only (delta place))

-- mvd_l0 and mvd_l1, -32767 to 32767, in the contexts from a first one on
abbrev pub mvd : ℕ → ℕ → BinString ℤ
mvd ctx inc = ueg ((ctx + inc) ∷ (ctx + 3) ∷ (ctx + 4) ∷ (ctx + 5) ∷ (ctx + 6) ∷ []) 9 3 12 >>= signed 32767

-- a bit of the luma of coded_block_pattern, and its chroma
abbrev pub pattern_luma : ℕ → BinString Bool
pattern_luma inc = flag (73 + inc)

abbrev pub pattern_chroma : ℕ → ℕ → BinString ℕ
pattern_chroma first second = up_to_two (77 + first) (81 + second)
