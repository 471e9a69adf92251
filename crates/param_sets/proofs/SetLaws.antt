-- The laws of the texts of sets.
use Rattle.std.proofs.Common.{◌≡◌, ℕ, ◌<◌, eqb, Bool, List, [], length, Result, Ok, Err, refl, sym, subst, ◌∙◌, arith}
use Rattle.std.specs.Prelude.{IfOk}
use Rattle.bit_texts.specs.Bits.{more_data}
use Rattle.h264_types.specs.declared.layer.Layer.{Layer}
use Rattle.exp_golomb.specs.Syntax.{Syntax, Done, Never, Refuse, Element, More, Bounded, Outcome, NoText, Spells, outcome_of, Answers}
use Rattle.exp_golomb.proofs.Syntaxes.{one_outcome, outcome_of-spelled, spelled}
use Rattle.param_sets.specs.Refusal.{Refusal, sps_says, pps_says}
use Rattle.param_sets.specs.SequenceParameterSet.{seq_parameter_set, SpsText, IsRefusedSps, ReadsSps}
use Rattle.param_sets.specs.PictureParameterSet.{pic_parameter_set, PpsText, IsRefusedPps, ReadsPps}
use Rattle.param_sets.specs.SpsCodes.{IsSps, without_constraints}
use Rattle.param_sets.specs.PpsCodes.{IsPps, pps_in}
use Rattle.param_sets.specs.declared.sps.Sps.{Sps}
use Rattle.param_sets.specs.declared.pps.Pps.{Pps}
use Rattle.param_sets.proofs.Spelled.{same_found}
use Rattle.param_sets.specs.declared.fault.SetFault.{SetFault}
use Rattle.param_sets.specs.declared.fault.SetFault.TheVariants.{NoReading, Profile, Limit, Memory}
use Rattle.param_sets.proofs.SpsFound.{either, text_of_read as sps_text_of_read}
use Rattle.param_sets.proofs.PpsTexts.{text_of_read as pps_text_of_read}

pub one_sps : (bits : List Bool) (first second : Sps) → SpsText first bits → SpsText second bits → first ≡ second
one_sps bits first second h k = (same_found first second _ _ _ refl (one_outcome seq_parameter_set bits _ _ h k)).0

pub one_pps : (bits : List Bool) (first second : Pps) → PpsText first bits → PpsText second bits → first ≡ second
one_pps bits first second h k = (same_found first second _ _ _ refl (one_outcome pic_parameter_set bits _ _ h k)).0

pub refused_sps : (bits : List Bool) (cause : Refusal) (sps : Sps) → IsRefusedSps cause bits → SpsText sps bits → ⊥
refused_sps bits cause sps h k = let same = one_outcome seq_parameter_set bits _ _ h k in cc

pub refused_pps : (bits : List Bool) (cause : Refusal) (pps : Pps) → IsRefusedPps cause bits → PpsText pps bits → ⊥
refused_pps bits cause pps h k = let same = one_outcome pic_parameter_set bits _ _ h k in cc

-- no range rests on the constraint flags
pub sps_unconstrained : (sps : Sps) → IsSps sps → IsSps (without_constraints sps)
sps_unconstrained sps h =
    let head = h.fits.head in
    let order = h.fits.order in
    let size = h.fits.size in
    record {
      fits = record {
        head = record { profile_idc = head.profile_idc; reserved_zero_2bits = head.reserved_zero_2bits; level_idc = head.level_idc; seq_parameter_set_id = head.seq_parameter_set_id };
        high = either (eqb sps.profile_idc 100)
            (λ h. record { chroma_format_idc = h.chroma_format_idc; bit_depth_luma_minus8 = h.bit_depth_luma_minus8; bit_depth_chroma_minus8 = h.bit_depth_chroma_minus8; scaling_lists = h.scaling_lists })
            (λ h. record {
              chroma_format_idc = h.chroma_format_idc;
              bit_depth_luma_minus8 = h.bit_depth_luma_minus8;
              bit_depth_chroma_minus8 = h.bit_depth_chroma_minus8;
              qpprime_y_zero_transform_bypass_flag = h.qpprime_y_zero_transform_bypass_flag;
              seq_scaling_matrix_present_flag = h.seq_scaling_matrix_present_flag;
              scaling_lists = h.scaling_lists;
            }) h.fits.high;
        order = record {
          log2_max_frame_num_minus4 = order.log2_max_frame_num_minus4;
          pic_order_cnt_type = order.pic_order_cnt_type;
          lsb = order.lsb;
          cycle = either (eqb sps.pic_order_cnt_type 1)
              (λ h. record { offset_for_non_ref_pic = h.offset_for_non_ref_pic; offset_for_top_to_bottom_field = h.offset_for_top_to_bottom_field; num_ref_frames_in_pic_order_cnt_cycle = h.num_ref_frames_in_pic_order_cnt_cycle; count = h.count; offset_for_ref_frame = h.offset_for_ref_frame })
              (λ h. record {
                delta_pic_order_always_zero_flag = h.delta_pic_order_always_zero_flag;
                offset_for_non_ref_pic = h.offset_for_non_ref_pic;
                offset_for_top_to_bottom_field = h.offset_for_top_to_bottom_field;
                num_ref_frames_in_pic_order_cnt_cycle = h.num_ref_frames_in_pic_order_cnt_cycle;
                offset_for_ref_frame = h.offset_for_ref_frame;
              }) order.cycle;
        };
        size = record { max_num_ref_frames = size.max_num_ref_frames; pic_width_in_mbs_minus1 = size.pic_width_in_mbs_minus1; pic_height_in_map_units_minus1 = size.pic_height_in_map_units_minus1; mb_adaptive_frame_field_flag = size.mb_adaptive_frame_field_flag };
      };
      in_profile = h.in_profile;
      within_limits = h.within_limits;
    }

-- nor on the layer, nor another one on the number
pub pps_moved : (pps : Pps) (layer : Layer) (number : ℕ) → number < 256 → IsPps pps → IsPps (pps_in layer number pps)
pps_moved pps layer number small h =
    let head = h.fits.head in
    record {
      fits = record {
        head = record {
          pic_parameter_set_id = omega arith;
          seq_parameter_set_id = head.seq_parameter_set_id;
          num_slice_groups_minus1 = head.num_slice_groups_minus1;
          num_ref_idx_l0_default_active_minus1 = head.num_ref_idx_l0_default_active_minus1;
          num_ref_idx_l1_default_active_minus1 = head.num_ref_idx_l1_default_active_minus1;
          weighted_bipred_idc = head.weighted_bipred_idc;
          pic_init_qp_minus26 = head.pic_init_qp_minus26;
          pic_init_qs_minus26 = head.pic_init_qs_minus26;
          chroma_qp_index_offset = head.chroma_qp_index_offset;
        };
        tail = either pps.tail
            (λ h. record { scaling_lists = h.scaling_lists; second_chroma_qp_index_offset = h.second_chroma_qp_index_offset })
            (λ h. record { transform_8x8_mode_flag = h.transform_8x8_mode_flag; pic_scaling_matrix_present_flag = h.pic_scaling_matrix_present_flag; scaling_lists = h.scaling_lists; second_chroma_qp_index_offset = h.second_chroma_qp_index_offset }) h.fits.tail;
      };
      in_profile = h.in_profile;
    }

-- ---- what a reader answers

not_spelled : {E A : Type 0} (syntax : Syntax E A) (bits : List Bool) → Spells syntax bits NoText → ⊥
not_spelled (Done value) bits h = cc
not_spelled Never bits h = h
not_spelled (Refuse cause) bits h = cc
not_spelled (Element kind rest) bits (value, after, in_range, text, others) = not_spelled (rest value) after others
not_spelled (More rest) bits h = not_spelled (rest (more_data bits)) bits h
not_spelled (Bounded rest) bits h = not_spelled (rest (length bits)) bits h

pub nothing_spelled : {E A : Type 0} (syntax : Syntax E A) (bits : List Bool) → outcome_of syntax bits ≡ NoText → (outcome : Outcome E A) → Spells syntax bits outcome → ⊥
nothing_spelled syntax bits h outcome k = not_spelled syntax bits (subst (λ o. Spells syntax bits o) (sym (outcome_of-spelled syntax bits outcome k) ∙ h) k)

pub sps_reads : (result : Result Sps SetFault) (bits : List Bool) → Answers sps_says (λ x. x) result [] (outcome_of seq_parameter_set bits) → ReadsSps result bits
sps_reads (Ok sps) bits h = spelled seq_parameter_set bits _ h (λ k. cc)
sps_reads (Err NoReading) bits h = nothing_spelled seq_parameter_set bits h
sps_reads (Err Profile) bits h = spelled seq_parameter_set bits _ h (λ k. cc)
sps_reads (Err Limit) bits h = spelled seq_parameter_set bits _ h (λ k. cc)
sps_reads (Err Memory) bits h = tt

pub sps_in_range : (result : Result Sps SetFault) (bits : List Bool) → Answers sps_says (λ x. x) result [] (outcome_of seq_parameter_set bits) → IfOk result (λ sps. IsSps sps)
sps_in_range (Ok sps) bits h = (sps_text_of_read sps bits (spelled seq_parameter_set bits _ h (λ k. cc))).0
sps_in_range (Err fault) bits h = tt

pub pps_reads : (result : Result Pps SetFault) (bits : List Bool) → Answers pps_says (λ x. x) result [] (outcome_of pic_parameter_set bits) → ReadsPps result bits
pps_reads (Ok pps) bits h = spelled pic_parameter_set bits _ h (λ k. cc)
pps_reads (Err NoReading) bits h = nothing_spelled pic_parameter_set bits h
pps_reads (Err Profile) bits h = spelled pic_parameter_set bits _ h (λ k. cc)
pps_reads (Err Limit) bits h = h
pps_reads (Err Memory) bits h = tt

pub pps_in_range : (result : Result Pps SetFault) (bits : List Bool) → Answers pps_says (λ x. x) result [] (outcome_of pic_parameter_set bits) → IfOk result (λ pps. IsPps pps)
pps_in_range (Ok pps) bits h = (pps_text_of_read pps bits (spelled pic_parameter_set bits _ h (λ k. cc))).0
pps_in_range (Err fault) bits h = tt
