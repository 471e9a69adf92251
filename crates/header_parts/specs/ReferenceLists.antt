-- The modifications of the reference picture lists, and the prediction weights of the active references (ITU-T H.264,
-- 7.3.3, 7.3.3.1 and 7.3.3.2).
use Rattle.std.specs.Prelude.{◌≡◌, ℕ, ◌==◌, Bool, true, false, not, ◌&&◌, ◌||◌, List, [], ◌∷◌, Option, Some, None, if◌then◌else◌}
use Rattle.bit_texts.specs.Texts.{when_text, IsWhen}
use Rattle.exp_golomb.specs.Syntax.{Syntax, Done, ◌>>=◌, when, joined}
use Rattle.param_sets.specs.declared.pps.Pps.{Pps}
use Rattle.ref_pic_lists.specs.PredWeightTable.{pred_weight_table, weights_text, WeightsFit}
use Rattle.ref_pic_lists.specs.RefPicListModification.{ref_pic_list_modification, modification_text, ModificationFits}
use Rattle.ref_pic_lists.specs.declared.modification.ListModification.{ListModification}
use Rattle.ref_pic_lists.specs.declared.weights.WeightTable.{WeightTable}
use Rattle.header_parts.specs.Refusal.{Refusal}
use Rattle.header_parts.specs.References.{active_l0, active_l1}
use Rattle.header_parts.specs.SliceTypes.{is_i, is_p, is_b}
use Rattle.header_parts.specs.declared.parts.ActiveReferences.{ActiveReferences}
use Rattle.header_parts.specs.declared.parts.ReferenceLists.{ReferenceLists}

-- where no flag stands
abbrev pub no_modification : ListModification
no_modification = record { flag = false; operations = [] }

abbrev pub modification_when : Bool → Syntax Refusal ListModification
modification_when present = when present no_modification ref_pic_list_modification

-- explicit weighted prediction; weighted_bipred_idc 2 derives the weights of B slices
abbrev pub has_weights : Pps → ℕ → Bool
has_weights pps slice_type = (is_p slice_type && pps.weighted_pred_flag) || (is_b slice_type && (pps.weighted_bipred_idc == 1))

-- the references of list 1 that have weights
abbrev pub weighted_l1 : Pps → ℕ → ActiveReferences → Option ℕ
weighted_l1 pps slice_type r = if is_b slice_type then Some (active_l1 pps slice_type r) else None

unfoldable pub weights_when : Bool → ℕ → Option ℕ → Syntax Refusal (Option WeightTable)
weights_when present l0 l1 = if present then pred_weight_table l0 l1 >>= (λ table. Done (Some table)) else Done None

unfoldable pub reference_lists : Pps → ℕ → ActiveReferences → Syntax Refusal ReferenceLists
reference_lists pps slice_type r = do
  modification_l0 ← modification_when (not (is_i slice_type))
  modification_l1 ← modification_when (is_b slice_type)
  pred_weight_table ← weights_when (has_weights pps slice_type) (active_l0 pps slice_type r) (weighted_l1 pps slice_type r)
  Done (record { modification_l0 = modification_l0; modification_l1 = modification_l1; pred_weight_table = pred_weight_table })

abbrev pub table_text : Option WeightTable → List Bool
table_text None = []
table_text (Some table) = weights_text table

abbrev pub lists_text : ℕ → ReferenceLists → List Bool
lists_text slice_type l = joined (
    when_text (not (is_i slice_type)) modification_text l.modification_l0
    ∷ when_text (is_b slice_type) modification_text l.modification_l1
    ∷ table_text l.pred_weight_table
    ∷ [])

-- a table stands under a condition, with a weight for each of so many references
abbrev pub TableFits : Bool → ℕ → Option ℕ → Option WeightTable → Type 0
TableFits true l0 l1 None = ⊥
TableFits true l0 l1 (Some table) = WeightsFit l0 l1 table
TableFits false l0 l1 table = table ≡ None

pub record ListsFit (pps : Pps) (slice_type : ℕ) (r : ActiveReferences) (l : ReferenceLists) : Type 0 where
  pub modification_l0 : IsWhen (not (is_i slice_type)) no_modification ModificationFits l.modification_l0
  pub modification_l1 : IsWhen (is_b slice_type) no_modification ModificationFits l.modification_l1
  pub pred_weight_table : TableFits (has_weights pps slice_type) (active_l0 pps slice_type r) (weighted_l1 pps slice_type r) l.pred_weight_table
