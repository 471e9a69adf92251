-- What a writer of slice data stands for: the bits before the slice data, and the macroblocks put so far.
use Rattle.std.specs.Prelude.{◌≡◌, ℕ, ◌%◌, Bool, true, List, [], ◌∷◌, ◌++◌, length}
use Rattle.cabac_contexts.specs.Coders.{OutCoding, HasTaken}
use Rattle.cabac_contexts.specs.States.{HasStates, state_of}
use Rattle.h264_types.specs.LastRows.{LastRows}
use Rattle.h264_types.specs.declared.macroblock.Mb.{Mb}
use Rattle.h264_types.specs.declared.slice_shape.SliceShape.{SliceShape}
use Rattle.init_table.specs.declared.table.InitTable.{InitTable}
use Rattle.cabac_syntax.specs.SliceData.{Bin, Piece, AreDataFrom, Codes, samples_of, first_states}
use Rattle.cabac_syntax.specs.Standing.{Stands, GoesOn}
use Rattle.cabac_syntax.specs.declared.writer.Phase.{Phase}
use Rattle.cabac_syntax.specs.declared.writer.Phase.TheVariants as phases

-- Behind the bits `before` the slice data of every list were begun that has, by `Is`, pieces to come: they are what stands in
-- the sink before this segment, and from its start on the codes of those pieces behind the bins that were taken.
pub record Wrote (start : ℕ → ℕ × Bool) (shape : SliceShape) (before : List Bool) (Is : List Mb → List Piece → Type 0) (e : OutCoding) : Type 0 where
  pub sunk : List Bool
  pub earlier : List Bin
  pub current : List Bin
  pub taken : HasTaken sunk (state_of start earlier) current e
  pub aligned : length sunk % 8 ≡ 0
  pub these : (mbs : List Mb) (pieces : List Piece) (here : List Bool) → Is mbs pieces → Codes true start earlier current pieces here
      → (text : List Bool) × AreDataFrom true start shape (length before) mbs text × (before ++ text ≡ sunk ++ here)

-- the bins of a macroblock were put: its samples are to come, if it has some, and what follows it
abbrev pub IsPut : SliceShape → List Mb → Mb → List Mb → List Piece → Type 0
IsPut shape done mb mbs pieces = (rest : List Piece) × (pieces ≡ samples_of mb ++ rest) × GoesOn shape (done ++ mb ∷ []) mbs rest

-- in each phase
abbrev pub WritesIn : {B : Type 0} → (B → List Bool) → Phase B → (ℕ → ℕ × Bool) → SliceShape → List Bool → List Mb → Type 0
WritesIn bits (phases.Fresh contexts sink) start shape before done = (done ≡ []) × HasStates start contexts × (before ≡ bits sink)
WritesIn bits (phases.Running coder) start shape before done = Wrote start shape before (GoesOn shape done) coder
WritesIn bits phases.Over start shape before done = ⊥

abbrev pub WritesFor : {B : Type 0} → (B → List Bool) → InitTable → SliceShape → LastRows Mb → Phase B → SliceShape → List Bool → List Mb → Type 0
WritesFor bits init kept rows phase shape before done = Stands kept rows shape done (WritesIn bits phase (first_states init shape) shape before done)
