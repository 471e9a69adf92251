-- The active references of a slice: direct_spatial_mv_pred_flag up to num_ref_idx_l1_active_minus1 (ITU-T H.264, 7.3.3
-- and 7.4.3).
use Rattle.std.specs.Prelude.{◌≡◌, ℕ, ◌+◌, nat_le, Bool, true, false, not, ◌&&◌, List, [], ◌∷◌, if◌then◌else◌}
use Rattle.exp_golomb.specs.Code.{Flag, Ue}
use Rattle.exp_golomb.specs.Syntax.{Syntax, Done, ◌>>=◌, in_range, joined}
use Rattle.param_sets.specs.declared.pps.Pps.{Pps}
use Rattle.header_parts.specs.Refusal.{Refusal}
use Rattle.header_parts.specs.SliceTypes.{is_i, is_b}
use Rattle.header_parts.specs.When.{element_when, code_when, IsInWhen}
use Rattle.header_parts.specs.declared.parts.ActiveReferences.{ActiveReferences}

-- the number in force of a list: as it is sent, else the default of the picture parameter set
abbrev pub in_force : Bool → ℕ → ℕ → ℕ
in_force num_ref_idx_active_override_flag sent_minus1 default_minus1 = (if num_ref_idx_active_override_flag then sent_minus1 else default_minus1) + 1

-- I slices have no list, and P slices no list 1
abbrev pub active_l0 : Pps → ℕ → ActiveReferences → ℕ
active_l0 pps slice_type r =
    if is_i slice_type then 0 else in_force r.num_ref_idx_active_override_flag r.num_ref_idx_l0_active_minus1 pps.num_ref_idx_l0_default_active_minus1

abbrev pub active_l1 : Pps → ℕ → ActiveReferences → ℕ
active_l1 pps slice_type r =
    if is_b slice_type then in_force r.num_ref_idx_active_override_flag r.num_ref_idx_l1_active_minus1 pps.num_ref_idx_l1_default_active_minus1 else 0

-- at most 16 in a frame, and 32 in a field
abbrev pub most_active : Bool → ℕ
most_active field_pic_flag = if field_pic_flag then 32 else 16

abbrev pub are_few : Pps → ℕ → Bool → ActiveReferences → Bool
are_few pps slice_type field_pic_flag r =
    nat_le (active_l0 pps slice_type r) (most_active field_pic_flag) && nat_le (active_l1 pps slice_type r) (most_active field_pic_flag)

unfoldable pub active_references : Pps → ℕ → Bool → Syntax Refusal ActiveReferences
active_references pps slice_type field_pic_flag = do
  direct_spatial_mv_pred_flag ← element_when (is_b slice_type) Flag false
  num_ref_idx_active_override_flag ← element_when (not (is_i slice_type)) Flag false
  num_ref_idx_l0_active_minus1 ← element_when num_ref_idx_active_override_flag (Ue 31) 0
  num_ref_idx_l1_active_minus1 ← element_when (num_ref_idx_active_override_flag && is_b slice_type) (Ue 31) 0
  few ← in_range (are_few pps slice_type field_pic_flag (record {
    direct_spatial_mv_pred_flag = direct_spatial_mv_pred_flag;
    num_ref_idx_active_override_flag = num_ref_idx_active_override_flag;
    num_ref_idx_l0_active_minus1 = num_ref_idx_l0_active_minus1;
    num_ref_idx_l1_active_minus1 = num_ref_idx_l1_active_minus1;
  }))
  Done (record {
    direct_spatial_mv_pred_flag = direct_spatial_mv_pred_flag;
    num_ref_idx_active_override_flag = num_ref_idx_active_override_flag;
    num_ref_idx_l0_active_minus1 = num_ref_idx_l0_active_minus1;
    num_ref_idx_l1_active_minus1 = num_ref_idx_l1_active_minus1;
  })

abbrev pub references_text : ℕ → ActiveReferences → List Bool
references_text slice_type r = joined (
    code_when (is_b slice_type) Flag r.direct_spatial_mv_pred_flag
    ∷ code_when (not (is_i slice_type)) Flag r.num_ref_idx_active_override_flag
    ∷ code_when r.num_ref_idx_active_override_flag (Ue 31) r.num_ref_idx_l0_active_minus1
    ∷ code_when (r.num_ref_idx_active_override_flag && is_b slice_type) (Ue 31) r.num_ref_idx_l1_active_minus1
    ∷ [])

pub record ReferencesFit (pps : Pps) (slice_type : ℕ) (field_pic_flag : Bool) (r : ActiveReferences) : Type 0 where
  pub direct_spatial_mv_pred_flag : IsInWhen (is_b slice_type) Flag false r.direct_spatial_mv_pred_flag
  pub num_ref_idx_active_override_flag : IsInWhen (not (is_i slice_type)) Flag false r.num_ref_idx_active_override_flag
  pub num_ref_idx_l0_active_minus1 : IsInWhen r.num_ref_idx_active_override_flag (Ue 31) 0 r.num_ref_idx_l0_active_minus1
  pub num_ref_idx_l1_active_minus1 : IsInWhen (r.num_ref_idx_active_override_flag && is_b slice_type) (Ue 31) 0 r.num_ref_idx_l1_active_minus1
  pub few : are_few pps slice_type field_pic_flag r ≡ true
