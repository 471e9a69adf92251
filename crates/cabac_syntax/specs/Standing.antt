-- What a reader of slice data stands for: all bits behind the slice's header, and the macroblocks given so far.
use Rattle.std.specs.Prelude.{◌≡◌, ℕ, ◌*◌, ◌%◌, ◌<◌, Bool, true, false, List, [], ◌∷◌, ◌++◌, length, replicate}
use Rattle.bit_texts.specs.Bits.{bits_of}
use Rattle.cabac_contexts.specs.Coders.{InCoding, HasGiven}
use Rattle.cabac_contexts.specs.States.{HasStates, state_of}
use Rattle.cabac_macroblock.specs.MacroblockLayer.{without_samples}
use Rattle.init_table.specs.declared.table.InitTable.{InitTable}
use Rattle.pcm_samples.specs.Alignment.{alignment}
use Rattle.pcm_samples.specs.Samples.{AreSamples}
use Rattle.h264_types.specs.Kind.{is_i_pcm}
use Rattle.h264_types.specs.LastRows.{LastRows, AreRows}
use Rattle.h264_types.specs.declared.macroblock.Mb.{Mb}
use Rattle.h264_types.specs.declared.slice_shape.SliceShape.{SliceShape}
use Rattle.cabac_syntax.specs.declared.reader.Phase.{Phase}
use Rattle.cabac_syntax.specs.declared.reader.Phase.TheVariants as phases
use Rattle.cabac_syntax.specs.SliceData.{Bin, Piece, IsBuiltShape, HasData, AreDataFrom, ArePieces, Begins, Codes, samples_of, first_states}

-- Of the lists with these bits, exactly those remain that have, by `Is`, pieces to come whose codes are the bits of this segment,
-- from its start on, behind the bins that were given.
pub record Knows (start : ℕ → ℕ × Bool) (shape : SliceShape) (pos : ℕ) (all : List Bool) (Is : List Mb → List Piece → Type 0) (d : InCoding) : Type 0 where
  pub before : List Bool
  pub here : List Bool
  pub earlier : List Bin
  pub current : List Bin
  pub given : HasGiven here (state_of start earlier) current d
  pub aligned : length before % 8 ≡ 0
  pub kept : d.decoder.taken ++ d.decoder.left ≡ before ++ here
  pub only : (mbs : List Mb) → HasData shape mbs → AreDataFrom false start shape pos mbs all → (pieces : List Piece) × Is mbs pieces × Codes false start earlier current pieces here
  pub these : (mbs : List Mb) (pieces : List Piece) → Is mbs pieces → Codes false start earlier current pieces here → AreDataFrom false start shape pos mbs all

-- the pieces to come are those of the macroblocks behind `done`, where there are some with end_of_slice_flag before them
abbrev pub GoesOn : SliceShape → List Mb → List Mb → List Piece → Type 0
GoesOn shape done mbs pieces = (tail : List Mb) × (mbs ≡ done ++ tail) × ArePieces shape done tail pieces

-- a macroblock is to come
abbrev pub IsNext : SliceShape → List Mb → List Mb → List Piece → Type 0
IsNext shape done mbs pieces =
    (mb : Mb) × (tail : List Mb) × (rest : List Piece) × (mbs ≡ done ++ mb ∷ tail) × Begins shape done mb rest pieces × ArePieces shape (done ++ mb ∷ []) tail rest

-- the bins of a macroblock were given, which is this one but for its samples
abbrev pub IsBehind : SliceShape → List Mb → Mb → List Mb → List Piece → Type 0
IsBehind shape done given mbs pieces =
    (mb : Mb) × (tail : List Mb) × (rest : List Piece) × (mbs ≡ done ++ mb ∷ tail) × (without_samples mb ≡ given) × (pieces ≡ samples_of mb ++ rest) × ArePieces shape (done ++ mb ∷ []) tail rest

-- no macroblock and no bin is to come
abbrev pub IsEnd : List Mb → List Mb → List Piece → Type 0
IsEnd done mbs pieces = (mbs ≡ done) × (pieces ≡ [])

-- zero bits up to the byte boundary, with `pos` bits before them, and cabac_zero_words
abbrev pub IsTail : ℕ → List Bool → Type 0
IsTail pos bits = (words : ℕ) × (bits ≡ alignment pos ++ replicate (16 * words) false)

-- the samples of an I_PCM macroblock, behind zero bits up to the byte boundary, with `pos` bits before them
abbrev pub HasSamples : ℕ → List ℕ → List Bool → List Bool → Type 0
HasSamples pos samples rest bits = bits ≡ alignment pos ++ (bits_of samples ++ rest)

-- cabac_zero_words, and nothing else
abbrev pub AreWords : List Bool → Type 0
AreWords bits = (words : ℕ) × (bits ≡ replicate (16 * words) false)

-- behind the bins of a macroblock its samples were put into it, where it is I_PCM
abbrev pub IsSampled : Mb → Mb → Type 0
IsSampled old new =
    (is_i_pcm old.kind ≡ false → new ≡ old) × (is_i_pcm old.kind ≡ true → AreSamples new.pcm × (new ≡ record old { pcm = new.pcm }))

-- ---- the reader

-- `done` was given of a slice of this shape: what a reader keeps is its shape and the last macroblocks, and of the bits it
-- knows what `Place` says.
pub record Stands (kept : SliceShape) (rows : LastRows Mb) (shape : SliceShape) (done : List Mb) (Place : Type 0) : Type 0 where
  pub of : kept ≡ shape
  pub built : IsBuiltShape shape
  pub rows_are : AreRows (λ mb. mb) shape rows done
  pub given : 0 < length done → HasData shape done
  pub place : Place

-- in each phase
abbrev pub StandsIn : {B : Type 0} → (B → List Bool) → (B → List Bool) → Phase B → (ℕ → ℕ × Bool) → SliceShape → ℕ → List Bool → List Mb → Type 0
StandsIn taken left (phases.Fresh contexts bits) start shape pos all done = (done ≡ []) × HasStates start contexts × (pos ≡ length (taken bits)) × (all ≡ left bits)
StandsIn taken left (phases.Running coder) start shape pos all done = (0 < length done) × Knows start shape pos all (GoesOn shape done) coder
StandsIn taken left (phases.Ended bits) start shape pos all done = ⊥
StandsIn taken left phases.Over start shape pos all done = ⊥

abbrev pub StandsFor : {B : Type 0} → (B → List Bool) → (B → List Bool) → InitTable → SliceShape → LastRows Mb → Phase B → SliceShape → ℕ → List Bool → List Mb → Type 0
StandsFor taken left init kept rows phase shape pos all done = Stands kept rows shape done (StandsIn taken left phase (first_states init shape) shape pos all done)

-- the bits that are left in the source
abbrev pub left_in : {B : Type 0} → (B → List Bool) → Phase B → List Bool
left_in left (phases.Fresh contexts bits) = left bits
left_in left (phases.Running coder) = coder.decoder.left
left_in left (phases.Ended bits) = left bits
left_in left phases.Over = []
