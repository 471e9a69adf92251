-- What a writer of slice data stands for, in any entropy layer.
use Rattle.std.specs.Prelude.{◌≡◌, Bool, true, false, List, [], ◌∷◌, ◌++◌, Result, Ok, Err}
use Rattle.h264_types.specs.Valid.{IsSlice}
use Rattle.h264_types.specs.declared.layer.Layer.{Layer}
use Rattle.h264_types.specs.declared.macroblock.Mb.{Mb}
use Rattle.h264_types.specs.declared.slice_shape.SliceShape.{SliceShape}
use Rattle.init_table.specs.declared.table.InitTable.{InitTable}
use Rattle.slice_data.specs.WrittenForm.{written_mb}
use Rattle.slice_data.specs.declared.fault.PutFault.{PutFault}
use Rattle.slice_data.specs.declared.fault.PutFault.TheVariants.{Beyond, Memory}

-- these begin the macroblocks of a slice
abbrev pub BeginsSlice : SliceShape → List Mb → Type 0
BeginsSlice shape front = (tail : List Mb) × IsSlice shape (front ++ tail)

-- the macroblock has the form in which the layer writes it, and with those put before begins the macroblocks of a slice
abbrev pub MayPut : {W : Type 0} → Layer → (InitTable → W → SliceShape → List Bool → List Mb → Type 0) → W → Mb → Type 0
MayPut to Writes writer mb =
    (mb ≡ written_mb to mb)
    × ((init : InitTable) × (shape : SliceShape) × (before : List Bool) × (done : List Mb) × Writes init writer shape before done × BeginsSlice shape (done ++ mb ∷ []))

-- What `put` says of a macroblock behind those put before: it was put; or it has a level that can't be said in the layer, and
-- was not; or there is no memory.
abbrev pub PutGives : {W : Type 0} → (SliceShape → Mb → Bool) → (W → SliceShape → List Bool → List Mb → Type 0) → W → SliceShape → List Bool → List Mb → Mb → Result (Unit {0}) PutFault → Type 0
PutGives is_beyond Writes new shape before done mb (Ok x) = (is_beyond shape mb ≡ false) × Writes new shape before (done ++ mb ∷ [])
PutGives is_beyond Writes new shape before done mb (Err Beyond) = (is_beyond shape mb ≡ true) × Writes new shape before done
PutGives is_beyond Writes new shape before done mb (Err Memory) = Unit {0}
