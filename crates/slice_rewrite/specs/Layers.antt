-- Slice data by their entropy layer.
use Rattle.std.specs.Prelude.{ℕ, Bool, List, if◌then◌else◌}
use Rattle.cabac_syntax.specs.SliceData as cabac
use Rattle.cavlc_syntax.specs.SliceText as cavlc
use Rattle.h264_types.specs.declared.layer.Layer.{Layer}
use Rattle.h264_types.specs.declared.layer.Layer.TheVariants.{Cavlc, Cabac}
use Rattle.h264_types.specs.declared.macroblock.Mb.{Mb}
use Rattle.h264_types.specs.declared.slice_shape.SliceShape.{SliceShape}
use Rattle.header_parts.specs.ActiveSets.{Active}
use Rattle.init_table.specs.declared.table.InitTable.{InitTable}
use Rattle.slice_data.specs.Reading.{NoList}

-- the layer of a slice under these sets (7.4.2.2)
abbrev pub layer_of : Active → Layer
layer_of active = if active.pps.entropy_coding_mode_flag then Cabac else Cavlc

-- the lists of macroblocks that have data in a layer
abbrev pub HasDataIn : Layer → SliceShape → List Mb → Type 0
HasDataIn Cavlc = cavlc.HasText
HasDataIn Cabac = cabac.HasData

-- the bits are the data of a list, with so many bits of the slice before them
abbrev pub IsDataIn : Layer → InitTable → SliceShape → ℕ → List Mb → List Bool → Type 0
IsDataIn Cavlc init = cavlc.IsText
IsDataIn Cabac init = cabac.IsData init

-- they are those that are written of it: in CAVLC there is one form
abbrev pub IsNormalDataIn : Layer → InitTable → SliceShape → ℕ → List Mb → List Bool → Type 0
IsNormalDataIn Cavlc init = cavlc.IsText
IsNormalDataIn Cabac init = cabac.IsNormalData init

-- they are those of no list
abbrev pub NoDataIn : Layer → InitTable → SliceShape → ℕ → List Bool → Type 0
NoDataIn layer init = NoList (HasDataIn layer) (IsDataIn layer init)

-- the shapes of slices whose data are read and written: in CABAC not yet those of MBAFF frames
abbrev pub IsBuiltIn : Layer → SliceShape → Type 0
IsBuiltIn Cavlc shape = Unit {0}
IsBuiltIn Cabac shape = cabac.IsBuilt shape
