-- What a reader of slice data stands for and gives, in any entropy layer: of the layer `HasData` says which lists of
-- macroblocks have slice data, and `IsData` which bits are those of a list, with so many bits of the slice before them.
use Rattle.std.specs.Prelude.{◌≡◌, ℕ, Bool, true, false, List, [], ◌∷◌, ◌++◌, Result, Ok, Err}
use Rattle.h264_types.specs.declared.macroblock.Mb.{Mb}
use Rattle.h264_types.specs.declared.slice_shape.SliceShape.{SliceShape}
use Rattle.slice_data.specs.declared.fault.SliceFault.{SliceFault}
use Rattle.slice_data.specs.declared.fault.SliceFault.TheVariants.{NoReading}
use Rattle.slice_data.specs.declared.reader.Step.{Step}
use Rattle.slice_data.specs.declared.reader.Step.TheVariants.{Mb as Next, End}

module _ (HasData : SliceShape → List Mb → Type 0) (IsData : SliceShape → ℕ → List Mb → List Bool → Type 0) where
  -- no list has these bits as its data
  abbrev pub NoList : SliceShape → ℕ → List Bool → Type 0
  NoList shape pos bits = (mbs : List Mb) → HasData shape mbs → IsData shape pos mbs bits → ⊥

  -- The macroblocks given begin a list that has data, whatever the bits, and begin every such list with these bits.
  pub record AreGiven (shape : SliceShape) (pos : ℕ) (all : List Bool) (done : List Mb) : Type 0 where
    pub begins : (tail : List Mb) × HasData shape (done ++ tail)
    pub only : (mbs : List Mb) → HasData shape mbs → IsData shape pos mbs all → (tail : List Mb) × (mbs ≡ done ++ tail)

  -- what a reader says, where it stood for `done`: the next macroblock, the end of the slice, or that the bits are those of none
  abbrev pub NextGives : {R : Type 0} → (R → SliceShape → ℕ → List Bool → List Mb → Type 0) → (R → List Bool) → R → SliceShape → ℕ → List Bool → List Mb → Result Step SliceFault → Type 0
  NextGives Stands left reader shape pos all done (Ok (Next mb)) = Stands reader shape pos all (done ++ mb ∷ []) × AreGiven shape pos all (done ++ mb ∷ [])
  NextGives Stands left reader shape pos all done (Ok End) = HasData shape done × IsData shape pos done all × (left reader ≡ [])
  NextGives Stands left reader shape pos all done (Err NoReading) = NoList shape pos all

-- what `next` answers where `next_into` filled a macroblock, or didn't
abbrev pub step_of : Mb → Result Bool SliceFault → Result Step SliceFault
step_of mb (Ok true) = Ok (Next mb)
step_of mb (Ok false) = Ok End
step_of mb (Err fault) = Err fault
