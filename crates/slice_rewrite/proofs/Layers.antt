-- What holds of slice data in each entropy layer.
use Rattle.std.proofs.Common.{◌≡◌, ◌⊎◌, ℕ, ◌+◌, ◌%◌, ◌<◌, Bool, true, false, List, ◌∷◌, ◌++◌, length, replicate, sym, ap, ◌∙◌}
use Rattle.cabac_syntax.specs.SliceData as cabac
use Rattle.cabac_syntax.specs.SliceData.{first_states}
use Rattle.cabac_syntax.proofs.Decided.{decided as cabac_decided}
use Rattle.cabac_syntax.proofs.DataLaws.{normal_data, one_normal, data_fill, data_stop}
use Rattle.cabac_syntax.proofs.OneList.{one_list_of}
use Rattle.cavlc_syntax.proofs.Decided.{decided}
use Rattle.cavlc_syntax.proofs.Texts as texts
use Rattle.h264_types.specs.SliceShape.{IsSliceShape}
use Rattle.h264_types.specs.Valid.{IsSlice}
use Rattle.h264_types.specs.declared.layer.Layer.{Layer}
use Rattle.h264_types.specs.declared.layer.Layer.TheVariants.{Cavlc, Cabac}
use Rattle.h264_types.specs.declared.macroblock.Mb.{Mb}
use Rattle.h264_types.specs.declared.slice_shape.SliceShape.{SliceShape}
use Rattle.init_table.specs.declared.table.InitTable.{InitTable}
use Rattle.slice_rewrite.specs.Layers.{HasDataIn, IsDataIn, IsNormalDataIn, NoDataIn, IsBuiltIn}

-- a shape of a slice whose data are read and written
pub record IsBuiltShapeIn (layer : Layer) (shape : SliceShape) : Type 0 where
  pub is_shape : IsSliceShape shape
  pub built : IsBuiltIn layer shape

pub cabac_shape : (shape : SliceShape) → IsBuiltShapeIn Cabac shape → cabac.IsBuiltShape shape
cabac_shape shape is = record { is_shape = is.is_shape; built = is.built }

pub slice_in_layer : (layer : Layer) (shape : SliceShape) (mbs : List Mb) → HasDataIn layer shape mbs → IsSlice shape mbs
slice_in_layer Cavlc shape mbs has = has.slice
slice_in_layer Cabac shape mbs has = has.slice

-- no bits are the data of two lists
pub one_list_in : (layer : Layer) (init : InitTable) (shape : SliceShape) (pos : ℕ) (first second : List Mb) (bits : List Bool) → HasDataIn layer shape first → HasDataIn layer shape second
    → IsDataIn layer init shape pos first bits → IsDataIn layer init shape pos second bits → first ≡ second
one_list_in Cavlc init shape pos first second bits has has' is is' = texts.one_list shape pos first second has has' (sym is ∙ is')
one_list_in Cabac init shape pos first second bits has has' is is' = one_list_of (first_states init shape) shape pos first second bits has has' is is'

-- what is written is read as data of the same list
pub normal_data_in : (layer : Layer) (init : InitTable) (shape : SliceShape) (pos : ℕ) (mbs : List Mb) (bits : List Bool) → IsNormalDataIn layer init shape pos mbs bits → IsDataIn layer init shape pos mbs bits
normal_data_in Cavlc init shape pos mbs bits is = is
normal_data_in Cabac init shape pos mbs bits is = normal_data (first_states init shape) shape pos mbs bits is

pub one_normal_in : (layer : Layer) (init : InitTable) (shape : SliceShape) (pos : ℕ) (mbs : List Mb) (first second : List Bool) → IsNormalDataIn layer init shape pos mbs first → IsNormalDataIn layer init shape pos mbs second → first ≡ second
one_normal_in Cavlc init shape pos mbs first second is is' = is ∙ sym is'
one_normal_in Cabac init shape pos mbs first second is is' = one_normal (first_states init shape) shape pos mbs first second is is'

-- what is written fills bytes
pub fills_in : (layer : Layer) (init : InitTable) (shape : SliceShape) (pos : ℕ) (mbs : List Mb) (bits : List Bool) → IsNormalDataIn layer init shape pos mbs bits → (pos + length bits) % 8 ≡ 0
fills_in Cavlc init shape pos mbs bits is = ap (λ x. (pos + length x) % 8) is ∙ texts.slice_fills shape pos mbs
fills_in Cabac init shape pos mbs bits is = data_fill false (first_states init shape) shape pos mbs bits (normal_data (first_states init shape) shape pos mbs bits is)

abbrev pub EndsInStop : List Bool → Type 0
EndsInStop bits = (front : List Bool) × (zeros : ℕ) × (zeros < 8) × (bits ≡ front ++ true ∷ replicate zeros false)

-- and ends in the stop bit
pub stops_in : (layer : Layer) (init : InitTable) (shape : SliceShape) (pos : ℕ) (mbs : List Mb) (bits : List Bool) → IsNormalDataIn layer init shape pos mbs bits → EndsInStop bits
stops_in Cavlc init shape pos mbs bits is = let e = texts.slice_stops shape pos mbs in (e.0, e.1, e.2, is ∙ e.3)
stops_in Cabac init shape pos mbs bits is = data_stop (first_states init shape) shape pos mbs bits is

pub built_shape_in : (layer : Layer) (shape : SliceShape) → IsSliceShape shape → IsBuiltIn layer shape → IsBuiltShapeIn layer shape
built_shape_in layer shape is built = record { is_shape = is; built = built }

-- bits are the data of a list, or of none
abbrev pub DecidedIn : Layer → InitTable → SliceShape → ℕ → List Bool → Type 0
DecidedIn layer init shape pos bits = ((mbs : List Mb) × HasDataIn layer shape mbs × IsDataIn layer init shape pos mbs bits) ⊎ NoDataIn layer init shape pos bits

pub decided_in : (layer : Layer) (init : InitTable) (shape : SliceShape) (pos : ℕ) (bits : List Bool) → IsBuiltShapeIn layer shape → DecidedIn layer init shape pos bits
decided_in Cavlc init shape pos bits is = decided shape pos bits is.is_shape
decided_in Cabac init shape pos bits is = cabac_decided (first_states init shape) shape pos bits (cabac_shape shape is)
