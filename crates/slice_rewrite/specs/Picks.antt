-- The number that is written as cabac_init_idc of a slice (ITU-T H.264, 7.4.3), and what becomes of the pick that says it.
use Rattle.std.specs.Prelude.{◌≡◌, ℕ, ◌<◌, Bool, true, false, List, length, Some, slice_get}
use Rattle.h264_types.specs.declared.layer.Layer.{Layer}
use Rattle.init_table.specs.declared.table.InitTable.{InitTable}
use Rattle.param_sets.specs.PpsCodes.{pps_in}
use Rattle.param_sets.specs.Sets.{SetMaps}
use Rattle.slice_header.specs.SliceHeader.{has_init}
use Rattle.slice_rewrite.specs.Items.{Slice}
use Rattle.slice_rewrite.specs.Options.{whole_run}
use Rattle.slice_rewrite.specs.SliceForms.{IsSliceForm}
use Rattle.slice_rewrite.specs.Written.{slice_under, IsSliceUnit}
use Rattle.slice_rewrite.specs.declared.pick.Tries.{Tries}
use Rattle.slice_rewrite.specs.declared.pick.Tries.TheVariants.{One, All}

-- whether cabac_init_idc stands in a slice as it is written for a layer: in P and B slices in CABAC (7.3.3)
abbrev pub stands_in : Layer → Slice → Bool
stands_in to s = has_init (pps_in to s.header.pic_parameter_set_id s.active.pps) s.header.slice_type

-- how many bytes the unit of a slice has under each of the three numbers: header byte and emulation prevention bytes are
-- counted, the start code isn't
pub record AreLengths (to : Layer) (init : InitTable) (number : ℕ) (s : Slice) (lengths : List ℕ) : Type 0 where
  pub three : length lengths ≡ 3
  pub of_each : (k : ℕ) → k < 3 → (unit : List ℕ) × IsSliceUnit init (slice_under to number k s) unit × (slice_get lengths k ≡ Some (length unit))

module _ {P : Type 0} (tried : P → Tries) (step : P → List ℕ → ℕ → P → Type 0) (to : Layer) (init : InitTable) (number : ℕ) where
  -- a pick of one number isn't asked, and stays; a pick of all is asked once, about a slice alone in which the number stands
  abbrev pub PicksBy : Tries → Bool → Slice → ℕ → P → P → Type 0
  PicksBy (One k) stands s idc old new = new ≡ old
  PicksBy All true s idc old new = (lengths : List ℕ) × AreLengths to init number s lengths × step old lengths idc new
  PicksBy All false s idc old new = new ≡ old

  -- of this slice this number is written, by the pick before it, and the other one stands behind it
  abbrev pub Picks : Slice → ℕ → P → P → Type 0
  Picks s idc old new = PicksBy (tried old) (stands_in to s) s idc old new

  -- the bits are those of a slice that can be written, and this payload is written for it, under a number of the pick
  pub record IsPickedForm (sets : SetMaps) (header : ℕ) (bits : List Bool) (old : P) (payload : List ℕ) (macroblocks : ℕ) (new : P) : Type 0 where
    pub form : IsSliceForm (whole_run to init (tried old)) number sets header bits payload macroblocks
    pub picks : Picks form.slice form.idc old new

  -- the same under the number that the pick chose by the lengths of the three units
  pub record IsChosen (sets : SetMaps) (header : ℕ) (bits : List Bool) (old : P) (payload : List ℕ) (macroblocks : ℕ) (new : P) : Type 0 where
    pub idc : ℕ
    pub form : IsSliceForm (whole_run to init (One idc)) number sets header bits payload macroblocks
    pub lengths : List ℕ
    pub are : AreLengths to init number form.slice lengths
    pub step_is : step old lengths idc new
