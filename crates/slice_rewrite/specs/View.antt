-- What two streams say when they say the same: all but how their slices are coded, the promises of their sequence
-- parameter sets about that, and their picture parameter sets, but for what the slices hold of them, without numbers.
use Rattle.std.specs.Prelude.{◌≡◌, ℕ, ℤ, pos, Bool, true, false, List, [], ◌∷◌, map, Option, None}
use Rattle.h264_types.specs.Qp.{next_qp}
use Rattle.h264_types.specs.Units.{Splits}
use Rattle.h264_types.specs.declared.layer.Layer.{Layer}
use Rattle.h264_types.specs.declared.layer.Layer.TheVariants.{Cavlc}
use Rattle.h264_types.specs.declared.macroblock.Mb.{Mb}
use Rattle.init_table.specs.declared.table.InitTable.{InitTable}
use Rattle.param_sets.specs.PpsCodes.{mode_flag_of, pps_in}
use Rattle.param_sets.specs.SpsCodes.{without_constraints}
use Rattle.param_sets.specs.declared.pps.Pps.{Pps}
use Rattle.param_sets.specs.declared.sps.Sps.{Sps}
use Rattle.pattern_fix.specs.NormalPattern.{normal}
use Rattle.slice_header.specs.Shape.{shape_of}
use Rattle.header_parts.specs.declared.header.Header.{Header}
use Rattle.slice_rewrite.specs.Items.{Slice, Item, Carried, TheSps, ThePps, TheSlice, AreItems}
use Rattle.slice_rewrite.specs.Options.{Options}
use Rattle.slice_rewrite.specs.Periods.{is_in_range}
use Rattle.slice_rewrite.specs.Verdict.{stop_of}

-- each macroblock with its quantiser QPY in the place of mb_qp_delta (7-37), behind a macroblock of this QPY; P_8x8ref0
-- is P_8x8 with four reference indices 0
abbrev pub with_qp : ℤ → List Mb → List (ℤ × Mb)
with_qp qp [] = []
with_qp qp (mb ∷ mbs) = let next = next_qp qp mb.qp_delta in (next, record mb { qp_delta = pos 0; ref0 = false }) ∷ with_qp next mbs

-- a slice, with the contents of its sets, and its macroblocks with the patterns that both layers can say (7.3.5)
pub record SliceView : Type 0 where
  pub header : Header
  pub sps : Sps
  pub pps : Pps
  pub mbs : List (ℤ × Mb)

abbrev pub slice_view : Slice → SliceView
slice_view s = record {
  header = record s.header { pic_parameter_set_id = 0; cabac_init_idc = 0 };
  sps = without_constraints s.active.sps;
  pps = pps_in Cavlc 0 s.active.pps;
  mbs = with_qp (pos (shape_of s.active s.header).qp) (map normal s.mbs);
}

pub data ViewItem : Type 0 where
  CarriedView : List ℕ → ViewItem
  SpsView : ℕ → Sps → ViewItem
  TheSliceView : SliceView → ViewItem

-- the carried units, the sequence parameter sets and the slices, in order
abbrev pub view : List Item → List ViewItem
view [] = []
view (Carried unit ∷ items) = CarriedView unit ∷ view items
view (TheSps header sps ∷ items) = SpsView header (without_constraints sps) ∷ view items
view (ThePps header pps ∷ items) = view items
view (TheSlice s ∷ items) = TheSliceView (slice_view s) ∷ view items

-- ## Whole streams

-- these bytes are read as these items, for this layer and with this table of initial pairs
abbrev pub Reads : Layer → InitTable → List ℕ → List Item → Type 0
Reads to init b items = (units : List (List ℕ)) × Splits b units None × AreItems to init [] units items

-- each item can be written behind those before it, of which the last one comes first: no stop stands
abbrev pub CanBeWritten : Options → List Item → List Item → Type 0
CanBeWritten o before [] = Unit {0}
CanBeWritten o before (i ∷ items) = (stop_of o before i ≡ None) × CanBeWritten o (i ∷ before) items

-- a slice that is recoded is in this layer
abbrev pub IsInLayer : Bool → Layer → Slice → Type 0
IsInLayer true to s = s.active.pps.entropy_coding_mode_flag ≡ mode_flag_of to
IsInLayer false to s = Unit {0}

-- each slice of the range, without one each slice, is in this layer, behind those items, of which the last one comes first
abbrev pub AreInLayer : Layer → Option (ℕ × ℕ) → List Item → List Item → Type 0
AreInLayer to range before [] = Unit {0}
AreInLayer to range before (TheSlice s ∷ items) = IsInLayer (is_in_range range before s) to s × AreInLayer to range (TheSlice s ∷ before) items
AreInLayer to range before (i ∷ items) = AreInLayer to range (i ∷ before) items

-- of each slice among these items, in order, whether it is one of the range, behind those items, of which the last one comes first
abbrev pub are_in_range : Option (ℕ × ℕ) → List Item → List Item → List Bool
are_in_range range before [] = []
are_in_range range before (TheSlice s ∷ items) = is_in_range range before s ∷ are_in_range range (TheSlice s ∷ before) items
are_in_range range before (i ∷ items) = are_in_range range (i ∷ before) items

-- Recoded for the layer, the stream of these items gives bytes that have a reading, with every slice of the range in the layer,
-- and they say the same. The slices of the range are those that were so in the stream.
pub record SaysTheSame (o : Options) (items : List Item) (bytes : List ℕ) : Type 0 where
  pub back : List Item
  pub reads : Reads o.to o.init bytes back
  pub layer : AreInLayer o.to o.range [] back
  pub periods : are_in_range o.range [] back ≡ are_in_range o.range [] items
  pub same : view back ≡ view items
