-- The codes of a picture parameter set, in their order, and the ranges of its fields (ITU-T H.264, 7.3.2.2 and 7.4.2.2).
use Rattle.std.specs.Prelude.{◌≡◌, pos, negsuc, ◌≤◌, ◌≤ℤ◌, ℕ, ◌==◌, Bool, true, false, not, ◌&&◌, MatchBool, List, [], ◌∷◌, ◌++◌, if◌then◌else◌}
use Rattle.bit_texts.specs.Bits.{binary}
use Rattle.exp_golomb.specs.Code.{ue, se}
use Rattle.exp_golomb.specs.Syntax.{joined}
use Rattle.h264_types.specs.declared.layer.Layer.{Layer}
use Rattle.h264_types.specs.declared.layer.Layer.TheVariants.{Cavlc, Cabac}
use Rattle.param_sets.specs.ScalingLists.{scaling_lists_text, ScalingMatrixFits}
use Rattle.param_sets.specs.TrailingBits.{payload_text}
use Rattle.param_sets.specs.declared.pps.Pps.{Pps}

-- ---- codes

abbrev pub pps_head_text : Pps → List Bool
pps_head_text pps = joined (
    ue pps.pic_parameter_set_id
    ∷ ue pps.seq_parameter_set_id
    ∷ (pps.entropy_coding_mode_flag ∷ [])
    ∷ (pps.bottom_field_pic_order_in_frame_present_flag ∷ [])
    ∷ ue pps.num_slice_groups_minus1
    ∷ ue pps.num_ref_idx_l0_default_active_minus1
    ∷ ue pps.num_ref_idx_l1_default_active_minus1
    ∷ (pps.weighted_pred_flag ∷ [])
    ∷ binary 2 pps.weighted_bipred_idc
    ∷ se pps.pic_init_qp_minus26
    ∷ se pps.pic_init_qs_minus26
    ∷ se pps.chroma_qp_index_offset
    ∷ (pps.deblocking_filter_control_present_flag ∷ [])
    ∷ (pps.constrained_intra_pred_flag ∷ [])
    ∷ (pps.redundant_pic_cnt_present_flag ∷ [])
    ∷ [])

abbrev pub pps_tail_text : Pps → List Bool
pps_tail_text pps = joined (
    (pps.transform_8x8_mode_flag ∷ [])
    ∷ (pps.pic_scaling_matrix_present_flag ∷ [])
    ∷ scaling_lists_text pps.scaling_lists
    ∷ se pps.second_chroma_qp_index_offset
    ∷ [])

unfoldable pub pps_fields_text : Pps → List Bool
pps_fields_text pps = pps_head_text pps ++ (if pps.tail then pps_tail_text pps else [])

-- the payload
abbrev pub pps_text : Pps → List Bool
pps_text pps = payload_text (pps_fields_text pps)

-- ---- ranges

pub record PpsHeadFits (pps : Pps) : Type 0 where
  pub pic_parameter_set_id : pps.pic_parameter_set_id ≤ 255
  pub seq_parameter_set_id : pps.seq_parameter_set_id ≤ 31
  pub num_slice_groups_minus1 : pps.num_slice_groups_minus1 ≤ 4294967294
  pub num_ref_idx_l0_default_active_minus1 : pps.num_ref_idx_l0_default_active_minus1 ≤ 31
  pub num_ref_idx_l1_default_active_minus1 : pps.num_ref_idx_l1_default_active_minus1 ≤ 31
  pub weighted_bipred_idc : pps.weighted_bipred_idc ≤ 2
  pub pic_init_qp_minus26 : (negsuc 25 ≤ℤ pps.pic_init_qp_minus26) × (pps.pic_init_qp_minus26 ≤ℤ pos 25)
  pub pic_init_qs_minus26 : (negsuc 25 ≤ℤ pps.pic_init_qs_minus26) × (pps.pic_init_qs_minus26 ≤ℤ pos 25)
  pub chroma_qp_index_offset : (negsuc 11 ≤ℤ pps.chroma_qp_index_offset) × (pps.chroma_qp_index_offset ≤ℤ pos 12)

-- how many lists the scaling matrix of a tail has
abbrev pub pps_list_count : Pps → ℕ
pps_list_count pps = if pps.transform_8x8_mode_flag then 8 else 6

pub record PpsTailFits (pps : Pps) : Type 0 where
  pub scaling_lists : ScalingMatrixFits pps.pic_scaling_matrix_present_flag (pps_list_count pps) pps.scaling_lists
  pub second_chroma_qp_index_offset : (negsuc 11 ≤ℤ pps.second_chroma_qp_index_offset) × (pps.second_chroma_qp_index_offset ≤ℤ pos 12)

-- the elements of a tail that is absent
pub record PpsTailAbsent (pps : Pps) : Type 0 where
  pub transform_8x8_mode_flag : pps.transform_8x8_mode_flag ≡ false
  pub pic_scaling_matrix_present_flag : pps.pic_scaling_matrix_present_flag ≡ false
  pub scaling_lists : pps.scaling_lists ≡ []
  pub second_chroma_qp_index_offset : pps.second_chroma_qp_index_offset ≡ pos 0

-- the fields are in range, each list is as long as its codes say, and absent elements are 0, false or empty
pub record PpsFits (pps : Pps) : Type 0 where
  pub head : PpsHeadFits pps
  pub tail : MatchBool pps.tail (PpsTailFits pps) (PpsTailAbsent pps)

abbrev pub pps_in_profile : Pps → Bool
pps_in_profile pps = (pps.num_slice_groups_minus1 == 0) && not pps.redundant_pic_cnt_present_flag

-- a set in range, and inside the profile
pub record IsPps (pps : Pps) : Type 0 where
  pub fits : PpsFits pps
  pub in_profile : pps_in_profile pps ≡ true

-- ---- the same set for another layer, under another number

abbrev pub mode_flag_of : Layer → Bool
mode_flag_of Cavlc = false
mode_flag_of Cabac = true

abbrev pub pps_in : Layer → ℕ → Pps → Pps
pps_in layer number pps = record pps { pic_parameter_set_id = number; entropy_coding_mode_flag = mode_flag_of layer }
