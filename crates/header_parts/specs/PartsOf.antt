-- The parts of a slice header.
use Rattle.header_parts.specs.declared.header.Header.{Header}
use Rattle.header_parts.specs.declared.parts.PictureNumber.{PictureNumber}
use Rattle.header_parts.specs.declared.parts.PictureOrder.{PictureOrder}
use Rattle.header_parts.specs.declared.parts.ActiveReferences.{ActiveReferences}
use Rattle.header_parts.specs.declared.parts.ReferenceLists.{ReferenceLists}
use Rattle.header_parts.specs.declared.parts.Marking.{Marking}
use Rattle.header_parts.specs.declared.parts.Deblocking.{Deblocking}

abbrev pub picture_of : Header → PictureNumber
picture_of h = record { frame_num = h.frame_num; field_pic_flag = h.field_pic_flag; bottom_field_flag = h.bottom_field_flag; idr_pic_id = h.idr_pic_id }

abbrev pub order_of : Header → PictureOrder
order_of h = record { pic_order_cnt_lsb = h.pic_order_cnt_lsb; delta_pic_order_cnt_bottom = h.delta_pic_order_cnt_bottom; delta_pic_order_cnt = h.delta_pic_order_cnt }

abbrev pub references_of : Header → ActiveReferences
references_of h =
    record {
      direct_spatial_mv_pred_flag = h.direct_spatial_mv_pred_flag;
      num_ref_idx_active_override_flag = h.num_ref_idx_active_override_flag;
      num_ref_idx_l0_active_minus1 = h.num_ref_idx_l0_active_minus1;
      num_ref_idx_l1_active_minus1 = h.num_ref_idx_l1_active_minus1;
    }

abbrev pub lists_of : Header → ReferenceLists
lists_of h = record { modification_l0 = h.modification_l0; modification_l1 = h.modification_l1; pred_weight_table = h.pred_weight_table }

abbrev pub marking_of : Header → Marking
marking_of h =
    record {
      no_output_of_prior_pics_flag = h.no_output_of_prior_pics_flag;
      long_term_reference_flag = h.long_term_reference_flag;
      adaptive_ref_pic_marking_mode_flag = h.adaptive_ref_pic_marking_mode_flag;
      operations = h.memory_management_control_operation;
    }

abbrev pub filter_of : Header → Deblocking
filter_of h = record { disable_deblocking_filter_idc = h.disable_deblocking_filter_idc; slice_alpha_c0_offset_div2 = h.slice_alpha_c0_offset_div2; slice_beta_offset_div2 = h.slice_beta_offset_div2 }
