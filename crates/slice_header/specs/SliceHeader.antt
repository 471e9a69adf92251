-- The slice header (ITU-T H.264, 7.3.3), of I, P and B slices. colour_plane_id, redundant_pic_cnt and
-- slice_group_change_cycle never stand: sets that would have them are outside the profile.
use Rattle.std.specs.Prelude.{ℕ, ◌==◌, Bool, not, ◌&&◌, Option, Some, None}
use Rattle.exp_golomb.specs.Code.{Ue}
use Rattle.exp_golomb.specs.Syntax.{Syntax, Done, Refuse, ◌>>=◌, ue, refused_where}
use Rattle.header_parts.specs.ActiveSets.{Active}
use Rattle.header_parts.specs.Picture.{picture_number, picture_order}
use Rattle.header_parts.specs.QuantisationAndFilter.{slice_qp, deblocking}
use Rattle.header_parts.specs.ReferenceLists.{reference_lists}
use Rattle.header_parts.specs.References.{active_references}
use Rattle.header_parts.specs.Refusal.{Refusal, OutsideProfile, NoPps, NoSps}
use Rattle.header_parts.specs.RefPicMarking.{dec_ref_pic_marking}
use Rattle.header_parts.specs.SliceTypes.{is_i, is_switching}
use Rattle.header_parts.specs.When.{element_when}
use Rattle.header_parts.specs.declared.header.Header.{Header}
use Rattle.param_sets.specs.Sets.{SetMaps, find_pps, find_sps}
use Rattle.param_sets.specs.declared.pps.Pps.{Pps}

-- ---- the sets that a slice names (7.4.1.2.1)

abbrev pub known : {A : Type 0} → Option A → Refusal → Syntax Refusal A
known None missing = Refuse missing
known (Some set) missing = Done set

-- blocks of 8x8 are no part of Main
abbrev pub breaks_main : Active → Bool
breaks_main active = active.pps.transform_8x8_mode_flag && (active.sps.profile_idc == 77)

unfoldable pub active_sets : SetMaps → ℕ → Syntax Refusal Active
active_sets sets pic_parameter_set_id = do
  pps ← known (find_pps pic_parameter_set_id sets) (NoPps pic_parameter_set_id)
  sps ← known (find_sps pps.seq_parameter_set_id sets) (NoSps pps.seq_parameter_set_id)
  allowed ← refused_where (breaks_main (record { sps = sps; pps = pps })) OutsideProfile
  Done (record { sps = sps; pps = pps })

pub record Start : Type 0 where
  pub first_mb_in_slice : ℕ
  pub slice_type : ℕ
  pub pic_parameter_set_id : ℕ
  pub active : Active

-- the elements up to pic_parameter_set_id; no picture has more than 139264 macroblocks
unfoldable pub slice_start : SetMaps → Syntax Refusal Start
slice_start sets = do
  first_mb_in_slice ← ue 139263
  slice_type ← ue 9
  in_scope ← refused_where (is_switching slice_type) OutsideProfile
  pic_parameter_set_id ← ue 255
  active ← active_sets sets pic_parameter_set_id
  Done (record { first_mb_in_slice = first_mb_in_slice; slice_type = slice_type; pic_parameter_set_id = pic_parameter_set_id; active = active })

-- ---- the header

-- cabac_init_idc stands in P and B slices in CABAC
abbrev pub has_init : Pps → ℕ → Bool
has_init pps slice_type = pps.entropy_coding_mode_flag && not (is_i slice_type)

-- what follows the start
unfoldable pub after_start : ℕ → Start → Syntax Refusal Header
after_start nal start = do
  picture ← picture_number start.active.sps nal
  order ← picture_order start.active picture.field_pic_flag
  references ← active_references start.active.pps start.slice_type picture.field_pic_flag
  lists ← reference_lists start.active.pps start.slice_type references
  marking ← dec_ref_pic_marking nal
  cabac_init_idc ← element_when (has_init start.active.pps start.slice_type) (Ue 2) 0
  slice_qp_delta ← slice_qp start.active.pps
  filter ← deblocking start.active.pps.deblocking_filter_control_present_flag
  Done (record {
    nal = nal;
    first_mb_in_slice = start.first_mb_in_slice;
    slice_type = start.slice_type;
    pic_parameter_set_id = start.pic_parameter_set_id;
    frame_num = picture.frame_num;
    field_pic_flag = picture.field_pic_flag;
    bottom_field_flag = picture.bottom_field_flag;
    idr_pic_id = picture.idr_pic_id;
    pic_order_cnt_lsb = order.pic_order_cnt_lsb;
    delta_pic_order_cnt_bottom = order.delta_pic_order_cnt_bottom;
    delta_pic_order_cnt = order.delta_pic_order_cnt;
    direct_spatial_mv_pred_flag = references.direct_spatial_mv_pred_flag;
    num_ref_idx_active_override_flag = references.num_ref_idx_active_override_flag;
    num_ref_idx_l0_active_minus1 = references.num_ref_idx_l0_active_minus1;
    num_ref_idx_l1_active_minus1 = references.num_ref_idx_l1_active_minus1;
    modification_l0 = lists.modification_l0;
    modification_l1 = lists.modification_l1;
    pred_weight_table = lists.pred_weight_table;
    no_output_of_prior_pics_flag = marking.no_output_of_prior_pics_flag;
    long_term_reference_flag = marking.long_term_reference_flag;
    adaptive_ref_pic_marking_mode_flag = marking.adaptive_ref_pic_marking_mode_flag;
    memory_management_control_operation = marking.operations;
    cabac_init_idc = cabac_init_idc;
    slice_qp_delta = slice_qp_delta;
    disable_deblocking_filter_idc = filter.disable_deblocking_filter_idc;
    slice_alpha_c0_offset_div2 = filter.slice_alpha_c0_offset_div2;
    slice_beta_offset_div2 = filter.slice_beta_offset_div2;
  })

-- slice_header( ), behind this header byte of a unit
unfoldable pub slice_header : SetMaps → ℕ → Syntax Refusal Header
slice_header sets nal = do
  start ← slice_start sets
  after_start nal start
