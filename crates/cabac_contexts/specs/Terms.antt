-- condTermFlagA and condTermFlagB (9.3.3.1.1): what the macroblocks and blocks to the left and above say of a bin's context.
-- `done` is the list of the slice's macroblocks, at least those before number `at`, which is `mb`, as far as it was read.
use Rattle.std.specs.Prelude.{ℕ, ◌+◌, ◌*◌, ◌/◌, ◌<◌, ◌≤◌, ◌==◌, nat_lt, Bool, true, false, not, ◌&&◌, ◌||◌, if◌then◌else◌, ℤ, pos, unsigned_abs, List, [], length, slice_get, slice_index_or, Option, Some, None}
use Rattle.std.specs.Int.{bit_at}
use Rattle.std.specs.List.{list_any}
use Rattle.std.specs.Option.{option_map_or}
use Rattle.std.specs.Ordering.{int_eq}
use Rattle.h264_types.specs.LastRows.{LastRows, StandsAt}
use Rattle.h264_types.specs.Kind.{is_intra, is_i_nxn, is_i_16x16, is_i_pcm, is_skip}
use Rattle.h264_types.specs.Macroblock.{luma_block, pattern_of}
use Rattle.h264_types.specs.Valid.{list_is_used, ref_at, mvd_of}
use Rattle.h264_types.specs.declared.macroblock.Mb.{Mb}
use Rattle.h264_types.specs.declared.macroblock.MbKind.{MbKind}
use Rattle.h264_types.specs.declared.macroblock.MbKind.TheVariants as kinds
use Rattle.h264_types.specs.declared.slice_shape.SliceShape.{SliceShape}
use Rattle.mb_neighbours.specs.Near.{left_of, above_of}
use Rattle.mb_neighbours.specs.declared.place.At.{At}
use Rattle.mb_neighbours.specs.declared.place.At.TheVariants.{Luma4}
use Rattle.mb_neighbours.specs.declared.place.Spot.{Spot}
use Rattle.cabac_contexts.specs.declared.term.Term.{Term}
use Rattle.cabac_contexts.specs.declared.term.Term.TheVariants.{OtherType, ChromaMode, Transform8, NoLuma, Chroma, ChromaAc, LumaDcFlag, LumaFlag, ChromaDcFlag, ChromaAcFlag, NotSkipped, NotDirect, Reference}

-- Macroblock `at` of the slice may be read or written behind `mbs`, of which these are the last two rows: all before it are
-- done, in MBAFF the top of its pair too where it is the bottom.
abbrev pub IsReadAt : SliceShape → LastRows Mb → List Mb → ℕ → Type 0
IsReadAt shape rows mbs at = StandsAt (λ mb. mb) shape rows mbs at × (at ≤ length mbs)

-- the pattern has a bit for a luma quarter
abbrev pub has_luma : Mb → ℕ → Bool
has_luma mb quarter = bit_at (pattern_of mb).luma quarter == 1

abbrev pub has_level : List ℤ → Bool
has_level levels = list_any (λ level. not (int_eq level (pos 0))) levels

abbrev pub chroma_dc_of : Mb → ℕ → List ℤ
chroma_dc_of mb component = slice_index_or mb.chroma_dc component []

abbrev pub chroma_ac_of : Mb → ℕ → ℕ → List ℤ
chroma_ac_of mb component block = slice_index_or (slice_index_or mb.chroma_ac component []) block []

abbrev pub is_direct_16x16 : MbKind → Bool
is_direct_16x16 (kinds.B n) = n == 0
is_direct_16x16 kinds.Skip = false
is_direct_16x16 (kinds.Intra n) = false
is_direct_16x16 (kinds.P n) = false

-- The greatest reference index of a neighbour that counts as 0 (refIdxZeroFlagN): 1 beside a frame macroblock in a field
-- macroblock, whose references are those of a frame twice. The first flag is that of the current macroblock's pair; both are
-- false outside MBAFF.
abbrev pub zero_ref : Bool → Bool → ℕ
zero_ref field of_field = if not field && of_field then 1 else 0

-- what a macroblock, or a block of it, says
abbrev pub term_of : Term → Mb → ℕ → Bool
term_of OtherType mb block = not (is_i_nxn mb.kind)
term_of ChromaMode mb block = is_intra mb.kind && not (is_i_pcm mb.kind) && not (mb.chroma_mode == 0)
term_of Transform8 mb block = mb.t8
term_of NoLuma mb quarter = not (is_i_pcm mb.kind) && (is_skip mb.kind || not (has_luma mb quarter))
term_of Chroma mb block = is_i_pcm mb.kind || (not (is_skip mb.kind) && not ((pattern_of mb).chroma == 0))
term_of ChromaAc mb block = is_i_pcm mb.kind || (not (is_skip mb.kind) && (pattern_of mb).chroma == 2)
term_of NotSkipped mb block = not (is_skip mb.kind)
term_of NotDirect mb block = not (is_skip mb.kind || is_direct_16x16 mb.kind)
-- a quarter that sends no index of the list, as an intra, a skipped or a direct one, has none that counts
term_of (Reference list field) mb quarter = list_is_used mb list quarter && nat_lt (zero_ref field mb.field) (ref_at mb list quarter)
-- coded_block_flag: I_PCM counts as coded, and a luma block of the 8x8 transform with its quarter's bit
term_of LumaDcFlag mb block = is_i_pcm mb.kind || (is_i_16x16 mb.kind && has_level mb.dc)
term_of LumaFlag mb block = is_i_pcm mb.kind || (has_luma mb (block / 4) && (mb.t8 || has_level (luma_block mb block)))
term_of (ChromaDcFlag component) mb block = is_i_pcm mb.kind || (not ((pattern_of mb).chroma == 0) && has_level (chroma_dc_of mb component))
term_of (ChromaAcFlag component) mb block = is_i_pcm mb.kind || ((pattern_of mb).chroma == 2 && has_level (chroma_ac_of mb component block))

-- how many blocks of a macroblock have an answer of their own
abbrev pub blocks_of : Term → ℕ
blocks_of NoLuma = 4
blocks_of LumaFlag = 16
blocks_of (ChromaAcFlag component) = 4
blocks_of (Reference list field) = 4
blocks_of _ = 1

-- the chroma component, or the list, is 0 or 1
abbrev pub HasComponent : Term → Type 0
HasComponent (ChromaDcFlag component) = component < 2
HasComponent (ChromaAcFlag component) = component < 2
HasComponent (Reference list field) = list < 2
HasComponent _ = Unit {0}

-- macroblock k of the slice
abbrev pub macroblock_at : List Mb → ℕ → Mb → ℕ → Option Mb
macroblock_at done at mb k = if k == at then Some mb else slice_get done k

-- the term of a neighbour, `missing` where it isn't available
abbrev pub flag_at : Bool → Term → List Mb → ℕ → Mb → Option Spot → Bool
flag_at missing term done at mb None = missing
flag_at missing term done at mb (Some spot) = option_map_or (λ found. term_of term found spot.block) (macroblock_at done at mb spot.mb) missing

-- condTermFlagA and condTermFlagB of a place of the current macroblock, whose pair flag is `field`
abbrev pub flag_a : Bool → Term → SliceShape → List Mb → ℕ → Bool → Mb → At → Bool
flag_a missing term shape done at field mb place = flag_at missing term done at mb (left_of shape done at field place)

abbrev pub flag_b : Bool → Term → SliceShape → List Mb → ℕ → Bool → Mb → At → Bool
flag_b missing term shape done at field mb place = flag_at missing term done at mb (above_of shape done at field place)

-- ---- absMvdComp (9.3.3.1.1.7)

-- A vertical component, axis 1, in the units of the current macroblock: the rows of a frame beside a field macroblock, those
-- of a field beside a frame macroblock. The first flag is that of the current macroblock's pair; both are false outside MBAFF.
abbrev pub in_units : Bool → Bool → ℕ → ℕ → ℕ
in_units false true axis magnitude = if axis == 1 then magnitude * 2 else magnitude
in_units true false axis magnitude = if axis == 1 then magnitude / 2 else magnitude
in_units true true axis magnitude = magnitude
in_units false false axis magnitude = magnitude

-- absMvdCompN of a 4x4 block: 0 where its part sends no vector of the list, as an intra, a skipped or a direct one
abbrev pub magnitude_of : ℕ → ℕ → Bool → Mb → ℕ → ℕ
magnitude_of list axis field mb block =
    if list_is_used mb list (block / 4)
    then in_units field mb.field axis (unsigned_abs (slice_index_or (mvd_of mb list block) axis (pos 0)))
    else 0

-- absMvdCompN of a neighbour, 0 where it isn't available
abbrev pub magnitude_at : ℕ → ℕ → Bool → List Mb → ℕ → Mb → Option Spot → ℕ
magnitude_at list axis field done at mb None = 0
magnitude_at list axis field done at mb (Some spot) = option_map_or (λ found. magnitude_of list axis field found spot.block) (macroblock_at done at mb spot.mb) 0

-- absMvdComp: of the blocks to the left of and above the first block of a part
abbrev pub magnitudes : SliceShape → List Mb → ℕ → Bool → Mb → ℕ → ℕ → ℕ → ℕ
magnitudes shape done at field mb list block axis =
    magnitude_at list axis field done at mb (left_of shape done at field (Luma4 block))
    + magnitude_at list axis field done at mb (above_of shape done at field (Luma4 block))
