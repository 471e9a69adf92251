-- The sequence parameter set (ITU-T H.264, 7.3.2.1.1), up to direct_8x8_inference_flag; what follows is kept unread.
use Rattle.std.specs.Prelude.{ℕ, ℤ, ◌+◌, ◌*◌, ◌==◌, nat_lt, pos, negsuc, Bool, false, not, ◌||◌, List, [], Result, Ok, Err, if◌then◌else◌}
use Rattle.exp_golomb.specs.Syntax.{Syntax, Done, Outcome, Found, Refused, Spells, ◌>>=◌, flag, u, ue, se, when, series, refused_where}
use Rattle.param_sets.specs.Refusal.{Refusal, OutsideProfile, AboveLimit}
use Rattle.param_sets.specs.ScalingLists.{scaling_matrix}
use Rattle.param_sets.specs.TrailingBits.{unread_bits}
use Rattle.param_sets.specs.declared.fault.SetFault.{SetFault}
use Rattle.param_sets.specs.declared.fault.SetFault.TheVariants.{NoReading, Profile, Limit, Memory}
use Rattle.param_sets.specs.declared.sps.Sps.{Sps}

-- Main and High
abbrev pub is_profile : ℕ → Bool
is_profile profile_idc = (profile_idc == 77) || (profile_idc == 100)

-- the elements up to seq_parameter_set_id; the others are absent
unfoldable pub sps_head : Syntax Refusal Sps
sps_head = do
  profile_idc ← u 8
  known_profile ← refused_where (not (is_profile profile_idc)) OutsideProfile
  constraint_set0_flag ← flag
  constraint_set1_flag ← flag
  constraint_set2_flag ← flag
  constraint_set3_flag ← flag
  constraint_set4_flag ← flag
  constraint_set5_flag ← flag
  reserved_zero_2bits ← u 2
  level_idc ← u 8
  seq_parameter_set_id ← ue 31
  Done (record {
    profile_idc = profile_idc;
    constraint_set0_flag = constraint_set0_flag;
    constraint_set1_flag = constraint_set1_flag;
    constraint_set2_flag = constraint_set2_flag;
    constraint_set3_flag = constraint_set3_flag;
    constraint_set4_flag = constraint_set4_flag;
    constraint_set5_flag = constraint_set5_flag;
    reserved_zero_2bits = reserved_zero_2bits;
    level_idc = level_idc;
    seq_parameter_set_id = seq_parameter_set_id;
    chroma_format_idc = 0;
    bit_depth_luma_minus8 = 0;
    bit_depth_chroma_minus8 = 0;
    qpprime_y_zero_transform_bypass_flag = false;
    seq_scaling_matrix_present_flag = false;
    scaling_lists = [];
    log2_max_frame_num_minus4 = 0;
    pic_order_cnt_type = 0;
    log2_max_pic_order_cnt_lsb_minus4 = 0;
    delta_pic_order_always_zero_flag = false;
    offset_for_non_ref_pic = pos 0;
    offset_for_top_to_bottom_field = pos 0;
    num_ref_frames_in_pic_order_cnt_cycle = 0;
    offset_for_ref_frame = [];
    max_num_ref_frames = 0;
    gaps_in_frame_num_value_allowed_flag = false;
    pic_width_in_mbs_minus1 = 0;
    pic_height_in_map_units_minus1 = 0;
    frame_mbs_only_flag = false;
    mb_adaptive_frame_field_flag = false;
    direct_8x8_inference_flag = false;
    rest = [];
  })

-- the elements that profile 100 has behind them; the place of a refusal is that of its element
unfoldable pub sps_high : Sps → Syntax Refusal Sps
sps_high sps = do
  chroma_format_idc ← ue 4294967294
  is_420 ← refused_where (not (chroma_format_idc == 1)) OutsideProfile
  bit_depth_luma_minus8 ← ue 4294967294
  luma_of_8_bits ← refused_where (not (bit_depth_luma_minus8 == 0)) OutsideProfile
  bit_depth_chroma_minus8 ← ue 4294967294
  chroma_of_8_bits ← refused_where (not (bit_depth_chroma_minus8 == 0)) OutsideProfile
  qpprime_y_zero_transform_bypass_flag ← flag
  no_bypass ← refused_where qpprime_y_zero_transform_bypass_flag OutsideProfile
  seq_scaling_matrix_present_flag ← flag
  scaling_lists ← scaling_matrix seq_scaling_matrix_present_flag 8
  Done (record sps {
    chroma_format_idc = chroma_format_idc;
    bit_depth_luma_minus8 = bit_depth_luma_minus8;
    bit_depth_chroma_minus8 = bit_depth_chroma_minus8;
    qpprime_y_zero_transform_bypass_flag = qpprime_y_zero_transform_bypass_flag;
    seq_scaling_matrix_present_flag = seq_scaling_matrix_present_flag;
    scaling_lists = scaling_lists;
  })

-- picture order count of type 0
unfoldable pub sps_order_lsb : Sps → Syntax Refusal Sps
sps_order_lsb sps = do
  log2_max_pic_order_cnt_lsb_minus4 ← ue 12
  Done (record sps { log2_max_pic_order_cnt_lsb_minus4 = log2_max_pic_order_cnt_lsb_minus4 })

unfoldable pub sps_profile : Syntax Refusal Sps
sps_profile = do
  head ← sps_head
  when (head.profile_idc == 100) head (sps_high head)

-- the offset of a reference frame
abbrev pub offset_for_ref_frame : Syntax Refusal ℤ
offset_for_ref_frame = se (negsuc 2147483646) (pos 2147483647)

-- so many of them
unfoldable pub offsets : ℕ → Syntax Refusal (List ℤ)
offsets count = series count 0 (λ place. offset_for_ref_frame)

-- picture order count of type 1
unfoldable pub sps_order_cycle : Sps → Syntax Refusal Sps
sps_order_cycle sps = do
  delta_pic_order_always_zero_flag ← flag
  offset_for_non_ref_pic ← se (negsuc 2147483646) (pos 2147483647)
  offset_for_top_to_bottom_field ← se (negsuc 2147483646) (pos 2147483647)
  num_ref_frames_in_pic_order_cnt_cycle ← ue 255
  offset_for_ref_frames ← offsets num_ref_frames_in_pic_order_cnt_cycle
  Done (record sps {
    delta_pic_order_always_zero_flag = delta_pic_order_always_zero_flag;
    offset_for_non_ref_pic = offset_for_non_ref_pic;
    offset_for_top_to_bottom_field = offset_for_top_to_bottom_field;
    num_ref_frames_in_pic_order_cnt_cycle = num_ref_frames_in_pic_order_cnt_cycle;
    offset_for_ref_frame = offset_for_ref_frames;
  })

unfoldable pub sps_order_of : ℕ → Sps → Syntax Refusal Sps
sps_order_of pic_order_cnt_type sps =
    if pic_order_cnt_type == 0 then sps_order_lsb sps else if pic_order_cnt_type == 1 then sps_order_cycle sps else Done sps

-- frame numbers and picture order
unfoldable pub sps_order : Sps → Syntax Refusal Sps
sps_order sps = do
  log2_max_frame_num_minus4 ← ue 12
  pic_order_cnt_type ← ue 2
  sps_order_of pic_order_cnt_type (record sps { log2_max_frame_num_minus4 = log2_max_frame_num_minus4; pic_order_cnt_type = pic_order_cnt_type })

-- reference frames and the size of the picture
unfoldable pub sps_size : Sps → Syntax Refusal Sps
sps_size sps = do
  max_num_ref_frames ← ue 4294967294
  gaps_in_frame_num_value_allowed_flag ← flag
  pic_width_in_mbs_minus1 ← ue 4294967294
  pic_height_in_map_units_minus1 ← ue 4294967294
  frame_mbs_only_flag ← flag
  mb_adaptive_frame_field_flag ← when (not frame_mbs_only_flag) false flag
  direct_8x8_inference_flag ← flag
  Done (record sps {
    max_num_ref_frames = max_num_ref_frames;
    gaps_in_frame_num_value_allowed_flag = gaps_in_frame_num_value_allowed_flag;
    pic_width_in_mbs_minus1 = pic_width_in_mbs_minus1;
    pic_height_in_map_units_minus1 = pic_height_in_map_units_minus1;
    frame_mbs_only_flag = frame_mbs_only_flag;
    mb_adaptive_frame_field_flag = mb_adaptive_frame_field_flag;
    direct_8x8_inference_flag = direct_8x8_inference_flag;
  })

-- all elements that are read
unfoldable pub sps_fields : Syntax Refusal Sps
sps_fields = do
  with_profile ← sps_profile
  with_order ← sps_order with_profile
  sps_size with_order

-- in macroblocks
abbrev pub width_of : Sps → ℕ
width_of sps = sps.pic_width_in_mbs_minus1 + 1

-- of a frame, in macroblocks
abbrev pub height_of : Sps → ℕ
height_of sps = (if sps.frame_mbs_only_flag then 1 else 2) * (sps.pic_height_in_map_units_minus1 + 1)

-- no level has a wider picture, or a frame of more macroblocks (A.3.1)
abbrev pub is_above_limits : Sps → Bool
is_above_limits sps = nat_lt 1055 (width_of sps) || nat_lt 139264 (width_of sps * height_of sps)

-- seq_parameter_set_rbsp( )
unfoldable pub seq_parameter_set : Syntax Refusal Sps
seq_parameter_set = do
  sps ← sps_fields
  rest ← unread_bits
  within_limits ← refused_where (is_above_limits sps) AboveLimit
  Done (record sps { rest = rest })

-- these bits are the text of a set inside the profile and the limits
abbrev pub SpsText : Sps → List Bool → Type 0
SpsText sps bits = Spells seq_parameter_set bits (Found sps [])

-- they are the text of fields, up to one that is refused so
abbrev pub IsRefusedSps : Refusal → List Bool → Type 0
IsRefusedSps cause bits = Spells seq_parameter_set bits (Refused cause)

-- what a reader answers of these bits; NoReading says that they are neither a set's text nor fields up to one that is refused
abbrev pub ReadsSps : Result Sps SetFault → List Bool → Type 0
ReadsSps (Ok sps) bits = SpsText sps bits
ReadsSps (Err NoReading) bits = (outcome : Outcome Refusal Sps) → ¬ Spells seq_parameter_set bits outcome
ReadsSps (Err Profile) bits = IsRefusedSps OutsideProfile bits
ReadsSps (Err Limit) bits = IsRefusedSps AboveLimit bits
ReadsSps (Err Memory) bits = Unit {0}
