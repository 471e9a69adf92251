-- The increments of ctxIdx that rest on macroblocks before (9.3.3.1.1). The arguments are those of condTermFlagA and
-- condTermFlagB.
--
-- An element that a macroblock doesn't send is 0 in it (h264_types, IsMacroblock): a skipped macroblock and I_PCM have no
-- mb_qp_delta, and one without transform_size_8x8_flag has none set. So the definitions of these two ask for the value alone
-- where the standard also asks whether it was sent.
use Rattle.std.specs.Prelude.{◌≡◌, ℕ, ◌+◌, ◌-◌, ◌*◌, ◌<◌, ◌==◌, nat_lt, Bool, false, not, if◌then◌else◌, pos, List, slice_get}
use Rattle.std.specs.Int.{from_bool}
use Rattle.std.specs.Option.{option_map_or}
use Rattle.std.specs.Ordering.{int_eq}
use Rattle.h264_types.specs.Kind.{is_intra}
use Rattle.h264_types.specs.declared.macroblock.Mb.{Mb}
use Rattle.h264_types.specs.declared.slice_shape.SliceShape.{SliceShape}
use Rattle.mb_neighbours.specs.declared.place.At.{At}
use Rattle.mb_neighbours.specs.declared.place.At.TheVariants.{Whole, Luma4, Luma8, Chroma4}
use Rattle.cabac_contexts.specs.declared.term.Term.{Term}
use Rattle.cabac_contexts.specs.declared.term.Term.TheVariants.{OtherType, ChromaMode, Transform8, NoLuma, Chroma, ChromaAc, LumaDcFlag, LumaFlag, ChromaDcFlag, ChromaAcFlag, NotSkipped, NotDirect, Reference}
use Rattle.cabac_contexts.specs.Terms.{flag_a, flag_b, magnitudes}

-- condTermFlagA + condTermFlagB
abbrev pub sum : Bool → Bool → ℕ
sum a b = from_bool a + from_bool b

-- condTermFlagA + 2 * condTermFlagB
abbrev pub weighted : Bool → Bool → ℕ
weighted a b = from_bool a + 2 * from_bool b

abbrev pub sum_of : Term → SliceShape → List Mb → ℕ → Bool → Mb → ℕ
sum_of term shape done at field mb = sum (flag_a false term shape done at field mb Whole) (flag_b false term shape done at field mb Whole)

abbrev pub weighted_of : Bool → Term → SliceShape → List Mb → ℕ → Bool → Mb → At → ℕ
weighted_of missing term shape done at field mb place =
    weighted (flag_a missing term shape done at field mb place) (flag_b missing term shape done at field mb place)

-- mb_skip_flag (9.3.3.1.1.1): a neighbour that isn't available counts as skipped, so the top of a pair may be missing where
-- it is skipped
abbrev pub skip : SliceShape → List Mb → ℕ → Bool → Mb → ℕ
skip = sum_of NotSkipped

-- mb_type in I slices, its first bin (9.3.3.1.1.3)
abbrev pub type_i : SliceShape → List Mb → ℕ → Bool → Mb → ℕ
type_i = sum_of OtherType

-- mb_type in B slices, its first bin (9.3.3.1.1.3)
abbrev pub type_b : SliceShape → List Mb → ℕ → Bool → Mb → ℕ
type_b = sum_of NotDirect

-- ref_idx_l0 or ref_idx_l1 of the partition that begins with this quarter, its first bin (9.3.3.1.1.6)
abbrev pub ref_idx : SliceShape → List Mb → ℕ → Bool → Mb → ℕ → ℕ → ℕ
ref_idx shape done at field mb list quarter = weighted_of false (Reference list field) shape done at field mb (Luma8 quarter)

-- a component of mvd_l0 or mvd_l1, x for axis 0 and y for axis 1, of the part that begins with this 4x4 block, its first bin
-- (9.3.3.1.1.7)
abbrev pub mvd : SliceShape → List Mb → ℕ → Bool → Mb → ℕ → ℕ → ℕ → ℕ
mvd shape done at field mb list block axis = by_size (magnitudes shape done at field mb list block axis) where
  by_size : ℕ → ℕ
  by_size sum = if nat_lt sum 3 then 0 else if nat_lt 32 sum then 2 else 1

-- intra_chroma_pred_mode, its first bin (9.3.3.1.1.8)
abbrev pub chroma_mode : SliceShape → List Mb → ℕ → Bool → Mb → ℕ
chroma_mode = sum_of ChromaMode

-- transform_size_8x8_flag (9.3.3.1.1.10)
abbrev pub t8 : SliceShape → List Mb → ℕ → Bool → Mb → ℕ
t8 = sum_of Transform8

-- mb_qp_delta, its first bin: whether the macroblock before in decoding order sent one other than 0 (9.3.3.1.1.5)
abbrev pub qp_delta : List Mb → ℕ → ℕ
qp_delta done at =
    if at == 0 then 0 else option_map_or (λ (mb : Mb). from_bool (not (int_eq mb.qp_delta (pos 0)))) (slice_get done (at - 1)) 0

-- coded_block_pattern, the bin of a luma quarter (9.3.3.1.1.4)
abbrev pub luma : SliceShape → List Mb → ℕ → Bool → Mb → ℕ → ℕ
luma shape done at field mb quarter = weighted_of false NoLuma shape done at field mb (Luma8 quarter)

-- coded_block_pattern, the first or the second bin of chroma (9.3.3.1.1.4)
abbrev pub chroma : SliceShape → List Mb → ℕ → Bool → Mb → Bool → ℕ
chroma shape done at field mb second = weighted_of false (if second then ChromaAc else Chroma) shape done at field mb Whole

-- where the block of a ctxBlockCat from 0 to 4 stands, and what its neighbours are asked
abbrev pub place_of : ℕ → ℕ → At
place_of cat block =
    if cat == 0 then Whole else if cat == 3 then Whole else if cat == 4 then Chroma4 block else Luma4 block

abbrev pub flag_of : ℕ → ℕ → Term
flag_of cat comp =
    if cat == 0 then LumaDcFlag else if cat == 3 then ChromaDcFlag comp else if cat == 4 then ChromaAcFlag comp else LumaFlag

-- a block of this ctxBlockCat, in this chroma component, has this number
pub record IsBlock (cat comp block : ℕ) : Type 0 where
  pub category : cat < 5
  pub component : comp < 2
  pub within : block < 16
  pub chroma_ac : cat ≡ 4 → block < 4

-- coded_block_flag (9.3.3.1.1.9): a neighbour that isn't available counts as coded for intra macroblocks alone
abbrev pub coded_block : SliceShape → List Mb → ℕ → Bool → Mb → ℕ → ℕ → ℕ → ℕ
coded_block shape done at field mb cat comp block = weighted_of (is_intra mb.kind) (flag_of cat comp) shape done at field mb (place_of cat block)
