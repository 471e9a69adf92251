-- The codes of a sequence parameter set, in their order, and the ranges of its fields (ITU-T H.264, 7.3.2.1.1 and
-- 7.4.2.1.1).
use Rattle.std.specs.Prelude.{◌≡◌, ℤ, pos, negsuc, ◌≤◌, ◌<◌, ◌≤ℤ◌, ◌==◌, Bool, true, false, not, ◌&&◌, ◌||◌, MatchBool, List, [], ◌∷◌, ◌++◌, length, if◌then◌else◌}
use Rattle.std.specs.List.{flat_map, AllByRecursion}
use Rattle.bit_texts.specs.Bits.{binary}
use Rattle.exp_golomb.specs.Code.{ue, se}
use Rattle.exp_golomb.specs.Syntax.{joined}
use Rattle.param_sets.specs.ScalingLists.{scaling_lists_text, ScalingMatrixFits}
use Rattle.param_sets.specs.SequenceParameterSet.{is_above_limits}
use Rattle.param_sets.specs.TrailingBits.{payload_text}
use Rattle.param_sets.specs.declared.sps.Sps.{Sps}

-- ---- codes

abbrev pub sps_head_text : Sps → List Bool
sps_head_text sps = joined (
    binary 8 sps.profile_idc
    ∷ (sps.constraint_set0_flag ∷ [])
    ∷ (sps.constraint_set1_flag ∷ [])
    ∷ (sps.constraint_set2_flag ∷ [])
    ∷ (sps.constraint_set3_flag ∷ [])
    ∷ (sps.constraint_set4_flag ∷ [])
    ∷ (sps.constraint_set5_flag ∷ [])
    ∷ binary 2 sps.reserved_zero_2bits
    ∷ binary 8 sps.level_idc
    ∷ ue sps.seq_parameter_set_id
    ∷ [])

-- of profile 100 alone
abbrev pub sps_high_text : Sps → List Bool
sps_high_text sps = joined (
    ue sps.chroma_format_idc
    ∷ ue sps.bit_depth_luma_minus8
    ∷ ue sps.bit_depth_chroma_minus8
    ∷ (sps.qpprime_y_zero_transform_bypass_flag ∷ [])
    ∷ (sps.seq_scaling_matrix_present_flag ∷ [])
    ∷ scaling_lists_text sps.scaling_lists
    ∷ [])

-- of pic_order_cnt_type 1 alone
abbrev pub sps_cycle_text : Sps → List Bool
sps_cycle_text sps = joined (
    (sps.delta_pic_order_always_zero_flag ∷ [])
    ∷ se sps.offset_for_non_ref_pic
    ∷ se sps.offset_for_top_to_bottom_field
    ∷ ue sps.num_ref_frames_in_pic_order_cnt_cycle
    ∷ flat_map se sps.offset_for_ref_frame
    ∷ [])

-- by pic_order_cnt_type
abbrev pub sps_count_text : Sps → List Bool
sps_count_text sps =
    if sps.pic_order_cnt_type == 0 then ue sps.log2_max_pic_order_cnt_lsb_minus4 else if sps.pic_order_cnt_type == 1 then sps_cycle_text sps else []

abbrev pub sps_order_text : Sps → List Bool
sps_order_text sps = joined (ue sps.log2_max_frame_num_minus4 ∷ ue sps.pic_order_cnt_type ∷ sps_count_text sps ∷ [])

abbrev pub sps_size_text : Sps → List Bool
sps_size_text sps = joined (
    ue sps.max_num_ref_frames
    ∷ (sps.gaps_in_frame_num_value_allowed_flag ∷ [])
    ∷ ue sps.pic_width_in_mbs_minus1
    ∷ ue sps.pic_height_in_map_units_minus1
    ∷ (sps.frame_mbs_only_flag ∷ [])
    ∷ (if not sps.frame_mbs_only_flag then sps.mb_adaptive_frame_field_flag ∷ [] else [])
    ∷ (sps.direct_8x8_inference_flag ∷ [])
    ∷ [])

abbrev pub sps_profile_text : Sps → List Bool
sps_profile_text sps = sps_head_text sps ++ (if sps.profile_idc == 100 then sps_high_text sps else [])

unfoldable pub sps_fields_text : Sps → List Bool
sps_fields_text sps = joined (
    sps_profile_text sps
    ∷ sps_order_text sps
    ∷ sps_size_text sps
    ∷ sps.rest
    ∷ [])

-- the payload
abbrev pub sps_text : Sps → List Bool
sps_text sps = payload_text (sps_fields_text sps)

-- ---- ranges

-- the range of se(v)
abbrev pub IsOffset : ℤ → Type 0
IsOffset offset = (negsuc 2147483646 ≤ℤ offset) × (offset ≤ℤ pos 2147483647)

pub record SpsHeadFits (sps : Sps) : Type 0 where
  pub profile_idc : sps.profile_idc < 256
  pub reserved_zero_2bits : sps.reserved_zero_2bits < 4
  pub level_idc : sps.level_idc < 256
  pub seq_parameter_set_id : sps.seq_parameter_set_id ≤ 31

pub record SpsHighFits (sps : Sps) : Type 0 where
  pub chroma_format_idc : sps.chroma_format_idc ≤ 4294967294
  pub bit_depth_luma_minus8 : sps.bit_depth_luma_minus8 ≤ 4294967294
  pub bit_depth_chroma_minus8 : sps.bit_depth_chroma_minus8 ≤ 4294967294
  pub scaling_lists : ScalingMatrixFits sps.seq_scaling_matrix_present_flag 8 sps.scaling_lists

-- the elements of profile 100, where they are absent
pub record SpsHighAbsent (sps : Sps) : Type 0 where
  pub chroma_format_idc : sps.chroma_format_idc ≡ 0
  pub bit_depth_luma_minus8 : sps.bit_depth_luma_minus8 ≡ 0
  pub bit_depth_chroma_minus8 : sps.bit_depth_chroma_minus8 ≡ 0
  pub qpprime_y_zero_transform_bypass_flag : sps.qpprime_y_zero_transform_bypass_flag ≡ false
  pub seq_scaling_matrix_present_flag : sps.seq_scaling_matrix_present_flag ≡ false
  pub scaling_lists : sps.scaling_lists ≡ []

pub record SpsCycleFits (sps : Sps) : Type 0 where
  pub offset_for_non_ref_pic : IsOffset sps.offset_for_non_ref_pic
  pub offset_for_top_to_bottom_field : IsOffset sps.offset_for_top_to_bottom_field
  pub num_ref_frames_in_pic_order_cnt_cycle : sps.num_ref_frames_in_pic_order_cnt_cycle ≤ 255
  pub count : length sps.offset_for_ref_frame ≡ sps.num_ref_frames_in_pic_order_cnt_cycle
  pub offset_for_ref_frame : AllByRecursion IsOffset sps.offset_for_ref_frame

-- the elements of pic_order_cnt_type 1, where they are absent
pub record SpsCycleAbsent (sps : Sps) : Type 0 where
  pub delta_pic_order_always_zero_flag : sps.delta_pic_order_always_zero_flag ≡ false
  pub offset_for_non_ref_pic : sps.offset_for_non_ref_pic ≡ pos 0
  pub offset_for_top_to_bottom_field : sps.offset_for_top_to_bottom_field ≡ pos 0
  pub num_ref_frames_in_pic_order_cnt_cycle : sps.num_ref_frames_in_pic_order_cnt_cycle ≡ 0
  pub offset_for_ref_frame : sps.offset_for_ref_frame ≡ []

pub record SpsOrderFits (sps : Sps) : Type 0 where
  pub log2_max_frame_num_minus4 : sps.log2_max_frame_num_minus4 ≤ 12
  pub pic_order_cnt_type : sps.pic_order_cnt_type ≤ 2
  pub lsb : MatchBool (sps.pic_order_cnt_type == 0) (sps.log2_max_pic_order_cnt_lsb_minus4 ≤ 12) (sps.log2_max_pic_order_cnt_lsb_minus4 ≡ 0)
  pub cycle : MatchBool (sps.pic_order_cnt_type == 1) (SpsCycleFits sps) (SpsCycleAbsent sps)

pub record SpsSizeFits (sps : Sps) : Type 0 where
  pub max_num_ref_frames : sps.max_num_ref_frames ≤ 4294967294
  pub pic_width_in_mbs_minus1 : sps.pic_width_in_mbs_minus1 ≤ 4294967294
  pub pic_height_in_map_units_minus1 : sps.pic_height_in_map_units_minus1 ≤ 4294967294
  pub mb_adaptive_frame_field_flag : sps.frame_mbs_only_flag ≡ true → sps.mb_adaptive_frame_field_flag ≡ false

-- the fields are in range, each list is as long as its count or its codes say, and absent elements are 0, false or empty
pub record SpsFits (sps : Sps) : Type 0 where
  pub head : SpsHeadFits sps
  pub high : MatchBool (sps.profile_idc == 100) (SpsHighFits sps) (SpsHighAbsent sps)
  pub order : SpsOrderFits sps
  pub size : SpsSizeFits sps

-- Main, or High with 4:2:0 samples of 8 bits and no bypass
abbrev pub sps_in_profile : Sps → Bool
sps_in_profile sps =
    (sps.profile_idc == 77)
    || ((sps.profile_idc == 100) && (sps.chroma_format_idc == 1) && (sps.bit_depth_luma_minus8 == 0) && (sps.bit_depth_chroma_minus8 == 0)
    && not sps.qpprime_y_zero_transform_bypass_flag)

-- a set in range, inside the profile and the limits
pub record IsSps (sps : Sps) : Type 0 where
  pub fits : SpsFits sps
  pub in_profile : sps_in_profile sps ≡ true
  pub within_limits : is_above_limits sps ≡ false

-- ---- the same set without the constraint flags that a change of the layer may break

abbrev pub without_constraints : Sps → Sps
without_constraints sps = record sps { constraint_set0_flag = false; constraint_set2_flag = false }
