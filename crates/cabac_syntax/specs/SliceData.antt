-- The data of slices outside MBAFF in CABAC (ITU-T H.264, 7.3.4, 7.3.5, 9.3.1.2), and the lists of macroblocks that have data.
use Rattle.std.specs.Prelude.{◌≡◌, ℕ, ◌*◌, ◌-◌, ◌%◌, Bool, true, false, List, [], ◌∷◌, ◌++◌, length, map, replicate, if◌then◌else◌, All}
use Rattle.bit_texts.specs.Bits.{bits_of, EndsInOne}
use Rattle.binarisation.specs.BinString.{Spells}
use Rattle.cabac_contexts.specs.Coders.{SegmentBits}
use Rattle.cabac_contexts.specs.Initial.{starting_states}
use Rattle.cabac_contexts.specs.States.{state_of}
use Rattle.cabac_engine.specs.Bins.{Slot, at_end}
use Rattle.cabac_macroblock.specs.MacroblockLayer.{macroblock, without_samples}
use Rattle.cabac_mb_residual.specs.Levels.{IsResidual}
use Rattle.pcm_samples.specs.Alignment.{alignment}
use Rattle.h264_types.specs.Kind.{is_i_pcm}
use Rattle.h264_types.specs.SliceShape.{IsSliceShape}
use Rattle.h264_types.specs.Valid.{IsSlice}
use Rattle.h264_types.specs.declared.macroblock.Mb.{Mb}
use Rattle.h264_types.specs.declared.slice_shape.SliceShape.{SliceShape}
use Rattle.init_table.specs.declared.table.InitTable.{InitTable}

-- the slices that are read and written: those outside MBAFF
pub record IsBuilt (shape : SliceShape) : Type 0 where
  pub mbaff : shape.mbaff ≡ false

pub record IsBuiltShape (shape : SliceShape) : Type 0 where
  pub is_shape : IsSliceShape shape
  pub built : IsBuilt shape

-- The lists of macroblocks that have data. There are no bins for the type P_8x8ref0, nor for 64 levels of the 8x8 transform that
-- are all 0.
pub record HasData (shape : SliceShape) (mbs : List Mb) : Type 0 where
  pub built : IsBuilt shape
  pub slice : IsSlice shape mbs
  pub residuals : All IsResidual mbs
  pub ref0 : All (λ mb. mb.ref0 ≡ false) mbs

-- ---- what is coded, in its order

abbrev pub Bin : Type 0
Bin = Slot × Bool

-- a bin, or the samples of an I_PCM macroblock, which stand between two segments of bins
pub data Piece : Type 0 where
  coded : Bin → Piece
  sampled : List ℕ → Piece

abbrev pub samples_of : Mb → List Piece
samples_of mb = if is_i_pcm mb.kind then sampled mb.pcm ∷ [] else []

-- end_of_slice_flag behind macroblocks that others follow: 0, where there is one
abbrev pub flag_behind : List Mb → List Piece
flag_behind [] = []
flag_behind (mb ∷ mbs) = coded (at_end, false) ∷ []

-- the pieces begin with those of the macroblock behind `before`, on which its bins rest: its bins, and its samples
abbrev pub Begins : SliceShape → List Mb → Mb → List Piece → List Piece → Type 0
Begins shape before mb rest pieces =
    (bins : List Bin) × Spells (macroblock shape before (length before) false) bins (without_samples mb) × (pieces ≡ map coded bins ++ (samples_of mb ++ rest))

-- The pieces of macroblocks behind `before`, to the end of the slice: end_of_slice_flag stands behind each macroblock, and is 1
-- behind the last one.
unfoldable pub ArePieces : SliceShape → List Mb → List Mb → List Piece → Type 0
ArePieces shape before [] pieces = pieces ≡ coded (at_end, true) ∷ []
ArePieces shape before (mb ∷ mbs) pieces =
    (first : List Piece) × (rest : List Piece) × (pieces ≡ flag_behind before ++ first) × Begins shape before mb rest first × ArePieces shape (before ++ mb ∷ []) mbs rest

-- ---- the bits of what is coded

-- The bits of pieces from the start of a segment on, which is at a byte boundary, where the bins `current` of this segment stand
-- before the pieces, and those of the segments before it, `earlier`, moved the states. A segment ends before samples, and at the
-- end of the slice, where the last bit of its code is rbsp_stop_one_bit and cabac_zero_words may follow. In normal form none
-- follows, and the last bit of each code is a 1.
unfoldable pub Codes : Bool → (ℕ → ℕ × Bool) → List Bin → List Bin → List Piece → List Bool → Type 0
Codes normal start earlier current [] bits =
    (code : List Bool) × (words : ℕ) × SegmentBits (state_of start earlier) current code × EndsInOne code × (normal ≡ true → words ≡ 0)
    × (bits ≡ code ++ (alignment (length code) ++ replicate (16 * words) false))
Codes normal start earlier current (coded bin ∷ pieces) bits = Codes normal start earlier (current ++ bin ∷ []) pieces bits
Codes normal start earlier current (sampled samples ∷ pieces) bits =
    (code : List Bool) × (rest : List Bool) × SegmentBits (state_of start earlier) current code × (normal ≡ true → EndsInOne code)
    × (bits ≡ code ++ (alignment (length code) ++ (bits_of samples ++ rest))) × Codes normal start (earlier ++ current) [] pieces rest

-- cabac_alignment_one_bit: one bits up to the byte boundary, with `pos` bits of the slice before them
abbrev pub ones : ℕ → List Bool
ones pos = replicate ((8 - pos % 8) % 8) true

-- slice_data and the bits behind it, with `pos` bits before them, where these are the states of the contexts at the start
abbrev pub AreDataFrom : Bool → (ℕ → ℕ × Bool) → SliceShape → ℕ → List Mb → List Bool → Type 0
AreDataFrom normal start shape pos mbs bits =
    (pieces : List Piece) × (body : List Bool) × ArePieces shape [] mbs pieces × (bits ≡ ones pos ++ body) × Codes normal start [] [] pieces body

-- the states of the contexts at the start of the slice, by the table of initial pairs
abbrev pub first_states : InitTable → SliceShape → ℕ → ℕ × Bool
first_states init shape = starting_states init shape.qp shape.column

-- what is read as slice data, and what is written: the normal form of it
abbrev pub IsData : InitTable → SliceShape → ℕ → List Mb → List Bool → Type 0
IsData init shape = AreDataFrom false (first_states init shape) shape

abbrev pub IsNormalData : InitTable → SliceShape → ℕ → List Mb → List Bool → Type 0
IsNormalData init shape = AreDataFrom true (first_states init shape) shape
