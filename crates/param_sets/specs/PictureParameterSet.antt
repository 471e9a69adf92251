-- The picture parameter set (ITU-T H.264, 7.3.2.2).
use Rattle.std.specs.Prelude.{pos, negsuc, Bool, true, false, not, ◌==◌, nat_le, List, [], Result, Ok, Err, if◌then◌else◌}
use Rattle.exp_golomb.specs.Syntax.{Syntax, Done, More, Outcome, Found, Refused, Spells, ◌>>=◌, flag, u, ue, se, in_range, refused_where}
use Rattle.param_sets.specs.Refusal.{Refusal, OutsideProfile}
use Rattle.param_sets.specs.ScalingLists.{scaling_matrix}
use Rattle.param_sets.specs.TrailingBits.{rbsp_trailing_bits}
use Rattle.param_sets.specs.declared.fault.SetFault.{SetFault}
use Rattle.param_sets.specs.declared.fault.SetFault.TheVariants.{NoReading, Profile, Limit, Memory}
use Rattle.param_sets.specs.declared.pps.Pps.{Pps}

-- the elements up to redundant_pic_cnt_present_flag; the others are absent
unfoldable pub pps_head : Syntax Refusal Pps
pps_head = do
  pic_parameter_set_id ← ue 255
  seq_parameter_set_id ← ue 31
  entropy_coding_mode_flag ← flag
  bottom_field_pic_order_in_frame_present_flag ← flag
  num_slice_groups_minus1 ← ue 4294967294
  one_group ← refused_where (not (num_slice_groups_minus1 == 0)) OutsideProfile
  num_ref_idx_l0_default_active_minus1 ← ue 31
  num_ref_idx_l1_default_active_minus1 ← ue 31
  weighted_pred_flag ← flag
  weighted_bipred_idc ← u 2
  known_idc ← in_range (nat_le weighted_bipred_idc 2)
  pic_init_qp_minus26 ← se (negsuc 25) (pos 25)
  pic_init_qs_minus26 ← se (negsuc 25) (pos 25)
  chroma_qp_index_offset ← se (negsuc 11) (pos 12)
  deblocking_filter_control_present_flag ← flag
  constrained_intra_pred_flag ← flag
  redundant_pic_cnt_present_flag ← flag
  no_redundant_pictures ← refused_where redundant_pic_cnt_present_flag OutsideProfile
  Done (record {
    pic_parameter_set_id = pic_parameter_set_id;
    seq_parameter_set_id = seq_parameter_set_id;
    entropy_coding_mode_flag = entropy_coding_mode_flag;
    bottom_field_pic_order_in_frame_present_flag = bottom_field_pic_order_in_frame_present_flag;
    num_slice_groups_minus1 = num_slice_groups_minus1;
    num_ref_idx_l0_default_active_minus1 = num_ref_idx_l0_default_active_minus1;
    num_ref_idx_l1_default_active_minus1 = num_ref_idx_l1_default_active_minus1;
    weighted_pred_flag = weighted_pred_flag;
    weighted_bipred_idc = weighted_bipred_idc;
    pic_init_qp_minus26 = pic_init_qp_minus26;
    pic_init_qs_minus26 = pic_init_qs_minus26;
    chroma_qp_index_offset = chroma_qp_index_offset;
    deblocking_filter_control_present_flag = deblocking_filter_control_present_flag;
    constrained_intra_pred_flag = constrained_intra_pred_flag;
    redundant_pic_cnt_present_flag = redundant_pic_cnt_present_flag;
    tail = false;
    transform_8x8_mode_flag = false;
    pic_scaling_matrix_present_flag = false;
    scaling_lists = [];
    second_chroma_qp_index_offset = pos 0;
  })

-- what follows them where more_rbsp_data( ): two more lists are of 8x8 blocks, where these are in use
unfoldable pub pps_tail : Pps → Syntax Refusal Pps
pps_tail pps = do
  transform_8x8_mode_flag ← flag
  pic_scaling_matrix_present_flag ← flag
  scaling_lists ← scaling_matrix pic_scaling_matrix_present_flag (if transform_8x8_mode_flag then 8 else 6)
  second_chroma_qp_index_offset ← se (negsuc 11) (pos 12)
  Done (record pps {
    tail = true;
    transform_8x8_mode_flag = transform_8x8_mode_flag;
    pic_scaling_matrix_present_flag = pic_scaling_matrix_present_flag;
    scaling_lists = scaling_lists;
    second_chroma_qp_index_offset = second_chroma_qp_index_offset;
  })

-- all elements
unfoldable pub pps_fields : Syntax Refusal Pps
pps_fields = do
  head ← pps_head
  More (λ more. if more then pps_tail head else Done head)

-- pic_parameter_set_rbsp( )
unfoldable pub pic_parameter_set : Syntax Refusal Pps
pic_parameter_set = do
  pps ← pps_fields
  ends ← rbsp_trailing_bits
  Done pps

-- these bits are the text of a set inside the profile
abbrev pub PpsText : Pps → List Bool → Type 0
PpsText pps bits = Spells pic_parameter_set bits (Found pps [])

-- they are the text of fields, up to one that is refused so
abbrev pub IsRefusedPps : Refusal → List Bool → Type 0
IsRefusedPps cause bits = Spells pic_parameter_set bits (Refused cause)

-- what a reader answers of these bits; NoReading says that they are neither a set's text nor fields up to one that is refused
abbrev pub ReadsPps : Result Pps SetFault → List Bool → Type 0
ReadsPps (Ok pps) bits = PpsText pps bits
ReadsPps (Err NoReading) bits = (outcome : Outcome Refusal Pps) → ¬ Spells pic_parameter_set bits outcome
ReadsPps (Err Profile) bits = IsRefusedPps OutsideProfile bits
ReadsPps (Err Limit) bits = ⊥
ReadsPps (Err Memory) bits = Unit {0}
