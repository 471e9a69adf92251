use Rattle.std.proofs.Common.{◌≡◌, refl, rules, w32, to_z, of_z}
use Rattle.std.proofs.lemmas.Int.{to_z-of_z}
use Rattle.param_sets.specs.Refusal.{pps_says}
use Rattle.param_sets.specs.PictureParameterSet.{pps_head}
use Rattle.param_sets.proofs.Straight.{absent, done, ends, goes_beyond, passes, passes_at, reads, refused, refused_at, stays_within}
use Rattle.param_sets.proofs.read_pps_text.read_head.Goals as goal

pub returns-in_err-pic_parameter_set_id : goal.returns-in_err-pic_parameter_set_id
unfolding pps_head
returns-in_err-pic_parameter_set_id g c =
    absent pps_says _ _ _ c.from_residual.ensures.1 c.in_err-pic_parameter_set_id.ensures.0 refl
    (ends c.in_err-pic_parameter_set_id.ensures.1)

pub returns-in_err-seq_parameter_set_id : goal.returns-in_err-seq_parameter_set_id
unfolding pps_head
returns-in_err-seq_parameter_set_id g c =
    absent pps_says _ _ _ c.from_residual-in_err-seq_parameter_set_id.ensures.1 c.in_err-seq_parameter_set_id.ensures.0 refl
    (reads c.in_ok-pic_parameter_set_id.ensures
    (ends c.in_err-seq_parameter_set_id.ensures.1))

pub returns-in_err-entropy_coding_mode_flag : goal.returns-in_err-entropy_coding_mode_flag
unfolding pps_head
returns-in_err-entropy_coding_mode_flag g c =
    absent pps_says _ _ _ c.from_residual-in_err-entropy_coding_mode_flag.ensures.1 c.in_err-entropy_coding_mode_flag.ensures.0 refl
    (reads c.in_ok-pic_parameter_set_id.ensures
    (reads c.in_ok-seq_parameter_set_id.ensures
    (ends c.in_err-entropy_coding_mode_flag.ensures.1)))

pub returns-in_err-bottom_field_pic_order_in_frame_present_flag : goal.returns-in_err-bottom_field_pic_order_in_frame_present_flag
unfolding pps_head
returns-in_err-bottom_field_pic_order_in_frame_present_flag g c =
    absent pps_says _ _ _ c.from_residual-in_err-bottom_field_pic_order_in_frame_present_flag.ensures.1 c.in_err-bottom_field_pic_order_in_frame_present_flag.ensures.0 refl
    (reads c.in_ok-pic_parameter_set_id.ensures
    (reads c.in_ok-seq_parameter_set_id.ensures
    (reads c.in_ok-entropy_coding_mode_flag.ensures
    (ends c.in_err-bottom_field_pic_order_in_frame_present_flag.ensures.1))))

pub returns-in_err-num_slice_groups_minus1 : goal.returns-in_err-num_slice_groups_minus1
unfolding pps_head
returns-in_err-num_slice_groups_minus1 g c =
    absent pps_says _ _ _ c.from_residual-in_err-num_slice_groups_minus1.ensures.1 c.in_err-num_slice_groups_minus1.ensures.0 refl
    (reads c.in_ok-pic_parameter_set_id.ensures
    (reads c.in_ok-seq_parameter_set_id.ensures
    (reads c.in_ok-entropy_coding_mode_flag.ensures
    (reads c.in_ok-bottom_field_pic_order_in_frame_present_flag.ensures
    (ends c.in_err-num_slice_groups_minus1.ensures.1)))))

pub returns-then-num_slice_groups_minus1-ne0 : goal.returns-then-num_slice_groups_minus1-ne0
unfolding pps_head
returns-then-num_slice_groups_minus1-ne0 g c =
    (reads c.in_ok-pic_parameter_set_id.ensures
    (reads c.in_ok-seq_parameter_set_id.ensures
    (reads c.in_ok-entropy_coding_mode_flag.ensures
    (reads c.in_ok-bottom_field_pic_order_in_frame_present_flag.ensures
    (reads c.in_ok-num_slice_groups_minus1.ensures
    (refused_at _ _ c.if-num_slice_groups_minus1-ne0.true)))))).is

pub returns-in_err-num_ref_idx_l0_default_active_minus1 : goal.returns-in_err-num_ref_idx_l0_default_active_minus1
unfolding pps_head
returns-in_err-num_ref_idx_l0_default_active_minus1 g c =
    absent pps_says _ _ _ c.from_residual-in_err-num_ref_idx_l0_default_active_minus1.ensures.1 c.in_err-num_ref_idx_l0_default_active_minus1.ensures.0 refl
    (reads c.in_ok-pic_parameter_set_id.ensures
    (reads c.in_ok-seq_parameter_set_id.ensures
    (reads c.in_ok-entropy_coding_mode_flag.ensures
    (reads c.in_ok-bottom_field_pic_order_in_frame_present_flag.ensures
    (reads c.in_ok-num_slice_groups_minus1.ensures
    (passes_at _ _ c.if-num_slice_groups_minus1-ne0.false
    (ends c.in_err-num_ref_idx_l0_default_active_minus1.ensures.1)))))))

pub returns-in_err-num_ref_idx_l1_default_active_minus1 : goal.returns-in_err-num_ref_idx_l1_default_active_minus1
unfolding pps_head
returns-in_err-num_ref_idx_l1_default_active_minus1 g c =
    absent pps_says _ _ _ c.from_residual-in_err-num_ref_idx_l1_default_active_minus1.ensures.1 c.in_err-num_ref_idx_l1_default_active_minus1.ensures.0 refl
    (reads c.in_ok-pic_parameter_set_id.ensures
    (reads c.in_ok-seq_parameter_set_id.ensures
    (reads c.in_ok-entropy_coding_mode_flag.ensures
    (reads c.in_ok-bottom_field_pic_order_in_frame_present_flag.ensures
    (reads c.in_ok-num_slice_groups_minus1.ensures
    (passes_at _ _ c.if-num_slice_groups_minus1-ne0.false
    (reads c.in_ok-num_ref_idx_l0_default_active_minus1.ensures
    (ends c.in_err-num_ref_idx_l1_default_active_minus1.ensures.1))))))))

pub returns-in_err-weighted_pred_flag : goal.returns-in_err-weighted_pred_flag
unfolding pps_head
returns-in_err-weighted_pred_flag g c =
    absent pps_says _ _ _ c.from_residual-in_err-weighted_pred_flag.ensures.1 c.in_err-weighted_pred_flag.ensures.0 refl
    (reads c.in_ok-pic_parameter_set_id.ensures
    (reads c.in_ok-seq_parameter_set_id.ensures
    (reads c.in_ok-entropy_coding_mode_flag.ensures
    (reads c.in_ok-bottom_field_pic_order_in_frame_present_flag.ensures
    (reads c.in_ok-num_slice_groups_minus1.ensures
    (passes_at _ _ c.if-num_slice_groups_minus1-ne0.false
    (reads c.in_ok-num_ref_idx_l0_default_active_minus1.ensures
    (reads c.in_ok-num_ref_idx_l1_default_active_minus1.ensures
    (ends c.in_err-weighted_pred_flag.ensures.1)))))))))

pub returns-in_err-weighted_bipred_idc : goal.returns-in_err-weighted_bipred_idc
unfolding pps_head
returns-in_err-weighted_bipred_idc g c =
    absent pps_says _ _ _ c.from_residual-in_err-weighted_bipred_idc.ensures.1 c.in_err-weighted_bipred_idc.ensures.0 refl
    (reads c.in_ok-pic_parameter_set_id.ensures
    (reads c.in_ok-seq_parameter_set_id.ensures
    (reads c.in_ok-entropy_coding_mode_flag.ensures
    (reads c.in_ok-bottom_field_pic_order_in_frame_present_flag.ensures
    (reads c.in_ok-num_slice_groups_minus1.ensures
    (passes_at _ _ c.if-num_slice_groups_minus1-ne0.false
    (reads c.in_ok-num_ref_idx_l0_default_active_minus1.ensures
    (reads c.in_ok-num_ref_idx_l1_default_active_minus1.ensures
    (reads c.in_ok-weighted_pred_flag.ensures
    (ends c.in_err-weighted_bipred_idc.ensures.1))))))))))

pub returns-then-weighted_bipred_idc-gt2 : goal.returns-then-weighted_bipred_idc-gt2
unfolding pps_head
returns-then-weighted_bipred_idc-gt2 g c =
    (reads c.in_ok-pic_parameter_set_id.ensures
    (reads c.in_ok-seq_parameter_set_id.ensures
    (reads c.in_ok-entropy_coding_mode_flag.ensures
    (reads c.in_ok-bottom_field_pic_order_in_frame_present_flag.ensures
    (reads c.in_ok-num_slice_groups_minus1.ensures
    (passes_at _ _ c.if-num_slice_groups_minus1-ne0.false
    (reads c.in_ok-num_ref_idx_l0_default_active_minus1.ensures
    (reads c.in_ok-num_ref_idx_l1_default_active_minus1.ensures
    (reads c.in_ok-weighted_pred_flag.ensures
    (reads c.in_ok-weighted_bipred_idc.ensures
    (goes_beyond _ c.if-weighted_bipred_idc-gt2.true))))))))))).is

pub returns-in_err-pic_init_qp_minus26 : goal.returns-in_err-pic_init_qp_minus26
unfolding pps_head
returns-in_err-pic_init_qp_minus26 g c =
    absent pps_says _ _ _ c.from_residual-in_err-pic_init_qp_minus26.ensures.1 c.in_err-pic_init_qp_minus26.ensures.0 refl
    (reads c.in_ok-pic_parameter_set_id.ensures
    (reads c.in_ok-seq_parameter_set_id.ensures
    (reads c.in_ok-entropy_coding_mode_flag.ensures
    (reads c.in_ok-bottom_field_pic_order_in_frame_present_flag.ensures
    (reads c.in_ok-num_slice_groups_minus1.ensures
    (passes_at _ _ c.if-num_slice_groups_minus1-ne0.false
    (reads c.in_ok-num_ref_idx_l0_default_active_minus1.ensures
    (reads c.in_ok-num_ref_idx_l1_default_active_minus1.ensures
    (reads c.in_ok-weighted_pred_flag.ensures
    (reads c.in_ok-weighted_bipred_idc.ensures
    (stays_within _ c.if-weighted_bipred_idc-gt2.false
    (ends c.in_err-pic_init_qp_minus26.ensures.1))))))))))))

pub returns-in_err-pic_init_qs_minus26 : goal.returns-in_err-pic_init_qs_minus26
unfolding pps_head
returns-in_err-pic_init_qs_minus26 g c =
    absent pps_says _ _ _ c.from_residual-in_err-pic_init_qs_minus26.ensures.1 c.in_err-pic_init_qs_minus26.ensures.0 refl
    (reads c.in_ok-pic_parameter_set_id.ensures
    (reads c.in_ok-seq_parameter_set_id.ensures
    (reads c.in_ok-entropy_coding_mode_flag.ensures
    (reads c.in_ok-bottom_field_pic_order_in_frame_present_flag.ensures
    (reads c.in_ok-num_slice_groups_minus1.ensures
    (passes_at _ _ c.if-num_slice_groups_minus1-ne0.false
    (reads c.in_ok-num_ref_idx_l0_default_active_minus1.ensures
    (reads c.in_ok-num_ref_idx_l1_default_active_minus1.ensures
    (reads c.in_ok-weighted_pred_flag.ensures
    (reads c.in_ok-weighted_bipred_idc.ensures
    (stays_within _ c.if-weighted_bipred_idc-gt2.false
    (reads c.in_ok-pic_init_qp_minus26.ensures
    (ends c.in_err-pic_init_qs_minus26.ensures.1)))))))))))))

pub returns-in_err-chroma_qp_index_offset : goal.returns-in_err-chroma_qp_index_offset
unfolding pps_head
returns-in_err-chroma_qp_index_offset g c =
    absent pps_says _ _ _ c.from_residual-in_err-chroma_qp_index_offset.ensures.1 c.in_err-chroma_qp_index_offset.ensures.0 refl
    (reads c.in_ok-pic_parameter_set_id.ensures
    (reads c.in_ok-seq_parameter_set_id.ensures
    (reads c.in_ok-entropy_coding_mode_flag.ensures
    (reads c.in_ok-bottom_field_pic_order_in_frame_present_flag.ensures
    (reads c.in_ok-num_slice_groups_minus1.ensures
    (passes_at _ _ c.if-num_slice_groups_minus1-ne0.false
    (reads c.in_ok-num_ref_idx_l0_default_active_minus1.ensures
    (reads c.in_ok-num_ref_idx_l1_default_active_minus1.ensures
    (reads c.in_ok-weighted_pred_flag.ensures
    (reads c.in_ok-weighted_bipred_idc.ensures
    (stays_within _ c.if-weighted_bipred_idc-gt2.false
    (reads c.in_ok-pic_init_qp_minus26.ensures
    (reads c.in_ok-pic_init_qs_minus26.ensures
    (ends c.in_err-chroma_qp_index_offset.ensures.1))))))))))))))

pub returns-in_err-deblocking_filter_control_present_flag : goal.returns-in_err-deblocking_filter_control_present_flag
unfolding pps_head
returns-in_err-deblocking_filter_control_present_flag g c =
    absent pps_says _ _ _ c.from_residual-in_err-deblocking_filter_control_present_flag.ensures.1 c.in_err-deblocking_filter_control_present_flag.ensures.0 refl
    (reads c.in_ok-pic_parameter_set_id.ensures
    (reads c.in_ok-seq_parameter_set_id.ensures
    (reads c.in_ok-entropy_coding_mode_flag.ensures
    (reads c.in_ok-bottom_field_pic_order_in_frame_present_flag.ensures
    (reads c.in_ok-num_slice_groups_minus1.ensures
    (passes_at _ _ c.if-num_slice_groups_minus1-ne0.false
    (reads c.in_ok-num_ref_idx_l0_default_active_minus1.ensures
    (reads c.in_ok-num_ref_idx_l1_default_active_minus1.ensures
    (reads c.in_ok-weighted_pred_flag.ensures
    (reads c.in_ok-weighted_bipred_idc.ensures
    (stays_within _ c.if-weighted_bipred_idc-gt2.false
    (reads c.in_ok-pic_init_qp_minus26.ensures
    (reads c.in_ok-pic_init_qs_minus26.ensures
    (reads c.in_ok-chroma_qp_index_offset.ensures
    (ends c.in_err-deblocking_filter_control_present_flag.ensures.1)))))))))))))))

pub returns-in_err-constrained_intra_pred_flag : goal.returns-in_err-constrained_intra_pred_flag
unfolding pps_head
returns-in_err-constrained_intra_pred_flag g c =
    absent pps_says _ _ _ c.from_residual-in_err-constrained_intra_pred_flag.ensures.1 c.in_err-constrained_intra_pred_flag.ensures.0 refl
    (reads c.in_ok-pic_parameter_set_id.ensures
    (reads c.in_ok-seq_parameter_set_id.ensures
    (reads c.in_ok-entropy_coding_mode_flag.ensures
    (reads c.in_ok-bottom_field_pic_order_in_frame_present_flag.ensures
    (reads c.in_ok-num_slice_groups_minus1.ensures
    (passes_at _ _ c.if-num_slice_groups_minus1-ne0.false
    (reads c.in_ok-num_ref_idx_l0_default_active_minus1.ensures
    (reads c.in_ok-num_ref_idx_l1_default_active_minus1.ensures
    (reads c.in_ok-weighted_pred_flag.ensures
    (reads c.in_ok-weighted_bipred_idc.ensures
    (stays_within _ c.if-weighted_bipred_idc-gt2.false
    (reads c.in_ok-pic_init_qp_minus26.ensures
    (reads c.in_ok-pic_init_qs_minus26.ensures
    (reads c.in_ok-chroma_qp_index_offset.ensures
    (reads c.in_ok-deblocking_filter_control_present_flag.ensures
    (ends c.in_err-constrained_intra_pred_flag.ensures.1))))))))))))))))

pub returns-in_err-redundant_pic_cnt_present_flag : goal.returns-in_err-redundant_pic_cnt_present_flag
unfolding pps_head
returns-in_err-redundant_pic_cnt_present_flag g c =
    absent pps_says _ _ _ c.from_residual-in_err-redundant_pic_cnt_present_flag.ensures.1 c.in_err-redundant_pic_cnt_present_flag.ensures.0 refl
    (reads c.in_ok-pic_parameter_set_id.ensures
    (reads c.in_ok-seq_parameter_set_id.ensures
    (reads c.in_ok-entropy_coding_mode_flag.ensures
    (reads c.in_ok-bottom_field_pic_order_in_frame_present_flag.ensures
    (reads c.in_ok-num_slice_groups_minus1.ensures
    (passes_at _ _ c.if-num_slice_groups_minus1-ne0.false
    (reads c.in_ok-num_ref_idx_l0_default_active_minus1.ensures
    (reads c.in_ok-num_ref_idx_l1_default_active_minus1.ensures
    (reads c.in_ok-weighted_pred_flag.ensures
    (reads c.in_ok-weighted_bipred_idc.ensures
    (stays_within _ c.if-weighted_bipred_idc-gt2.false
    (reads c.in_ok-pic_init_qp_minus26.ensures
    (reads c.in_ok-pic_init_qs_minus26.ensures
    (reads c.in_ok-chroma_qp_index_offset.ensures
    (reads c.in_ok-deblocking_filter_control_present_flag.ensures
    (reads c.in_ok-constrained_intra_pred_flag.ensures
    (ends c.in_err-redundant_pic_cnt_present_flag.ensures.1)))))))))))))))))

pub returns-then-redundant_pic_cnt_present_flag : goal.returns-then-redundant_pic_cnt_present_flag
unfolding pps_head
returns-then-redundant_pic_cnt_present_flag g c =
    (reads c.in_ok-pic_parameter_set_id.ensures
    (reads c.in_ok-seq_parameter_set_id.ensures
    (reads c.in_ok-entropy_coding_mode_flag.ensures
    (reads c.in_ok-bottom_field_pic_order_in_frame_present_flag.ensures
    (reads c.in_ok-num_slice_groups_minus1.ensures
    (passes_at _ _ c.if-num_slice_groups_minus1-ne0.false
    (reads c.in_ok-num_ref_idx_l0_default_active_minus1.ensures
    (reads c.in_ok-num_ref_idx_l1_default_active_minus1.ensures
    (reads c.in_ok-weighted_pred_flag.ensures
    (reads c.in_ok-weighted_bipred_idc.ensures
    (stays_within _ c.if-weighted_bipred_idc-gt2.false
    (reads c.in_ok-pic_init_qp_minus26.ensures
    (reads c.in_ok-pic_init_qs_minus26.ensures
    (reads c.in_ok-chroma_qp_index_offset.ensures
    (reads c.in_ok-deblocking_filter_control_present_flag.ensures
    (reads c.in_ok-constrained_intra_pred_flag.ensures
    (reads c.in_ok-redundant_pic_cnt_present_flag.ensures
    (refused _ _ c.if-redundant_pic_cnt_present_flag.true)))))))))))))))))).is

pub returns : goal.returns
unfolding pps_head
returns g c =
    let first : to_z w32 (of_z w32 c.in_ok-pic_init_qp_minus26.pic_init_qp_minus26) ≡ c.in_ok-pic_init_qp_minus26.pic_init_qp_minus26 = to_z-of_z w32 c.in_ok-pic_init_qp_minus26.pic_init_qp_minus26 (search rules) in
    let second : to_z w32 (of_z w32 c.in_ok-pic_init_qs_minus26.pic_init_qs_minus26) ≡ c.in_ok-pic_init_qs_minus26.pic_init_qs_minus26 = to_z-of_z w32 c.in_ok-pic_init_qs_minus26.pic_init_qs_minus26 (search rules) in
    let third : to_z w32 (of_z w32 c.in_ok-chroma_qp_index_offset.chroma_qp_index_offset) ≡ c.in_ok-chroma_qp_index_offset.chroma_qp_index_offset = to_z-of_z w32 c.in_ok-chroma_qp_index_offset.chroma_qp_index_offset (search rules) in
    rw (first, second, third, c.empty.ensures) (
    (reads c.in_ok-pic_parameter_set_id.ensures
    (reads c.in_ok-seq_parameter_set_id.ensures
    (reads c.in_ok-entropy_coding_mode_flag.ensures
    (reads c.in_ok-bottom_field_pic_order_in_frame_present_flag.ensures
    (reads c.in_ok-num_slice_groups_minus1.ensures
    (passes_at _ _ c.if-num_slice_groups_minus1-ne0.false
    (reads c.in_ok-num_ref_idx_l0_default_active_minus1.ensures
    (reads c.in_ok-num_ref_idx_l1_default_active_minus1.ensures
    (reads c.in_ok-weighted_pred_flag.ensures
    (reads c.in_ok-weighted_bipred_idc.ensures
    (stays_within _ c.if-weighted_bipred_idc-gt2.false
    (reads c.in_ok-pic_init_qp_minus26.ensures
    (reads c.in_ok-pic_init_qs_minus26.ensures
    (reads c.in_ok-chroma_qp_index_offset.ensures
    (reads c.in_ok-deblocking_filter_control_present_flag.ensures
    (reads c.in_ok-constrained_intra_pred_flag.ensures
    (reads c.in_ok-redundant_pic_cnt_present_flag.ensures
    (passes _ _ c.if-redundant_pic_cnt_present_flag.false
    done)))))))))))))))))).is)
