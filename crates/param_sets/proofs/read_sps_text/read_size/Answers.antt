use Rattle.std.proofs.Common.{refl}
use Rattle.param_sets.specs.Refusal.{sps_says}
use Rattle.param_sets.specs.SequenceParameterSet.{sps_size}
use Rattle.param_sets.proofs.Straight.{absent, done, ends, here, part_fails, part_reads, reads}
use Rattle.param_sets.proofs.read_sps_text.read_size.Goals as goal

pub returns-in_err-max_num_ref_frames : goal.returns-in_err-max_num_ref_frames
unfolding sps_size
returns-in_err-max_num_ref_frames g c =
    absent sps_says _ _ _ c.from_residual.ensures.1 c.in_err-max_num_ref_frames.ensures.0 refl
    (ends c.in_err-max_num_ref_frames.ensures.1)

pub returns-in_err-gaps_in_frame_num_value_allowed_flag : goal.returns-in_err-gaps_in_frame_num_value_allowed_flag
unfolding sps_size
returns-in_err-gaps_in_frame_num_value_allowed_flag g c =
    absent sps_says _ _ _ c.from_residual-in_err-gaps_in_frame_num_value_allowed_flag.ensures.1 c.in_err-gaps_in_frame_num_value_allowed_flag.ensures.0 refl
    (reads c.in_ok-max_num_ref_frames.ensures
    (ends c.in_err-gaps_in_frame_num_value_allowed_flag.ensures.1))

pub returns-in_err-pic_width_in_mbs_minus1 : goal.returns-in_err-pic_width_in_mbs_minus1
unfolding sps_size
returns-in_err-pic_width_in_mbs_minus1 g c =
    absent sps_says _ _ _ c.from_residual-in_err-pic_width_in_mbs_minus1.ensures.1 c.in_err-pic_width_in_mbs_minus1.ensures.0 refl
    (reads c.in_ok-max_num_ref_frames.ensures
    (reads c.in_ok-gaps_in_frame_num_value_allowed_flag.ensures
    (ends c.in_err-pic_width_in_mbs_minus1.ensures.1)))

pub returns-in_err-pic_height_in_map_units_minus1 : goal.returns-in_err-pic_height_in_map_units_minus1
unfolding sps_size
returns-in_err-pic_height_in_map_units_minus1 g c =
    absent sps_says _ _ _ c.from_residual-in_err-pic_height_in_map_units_minus1.ensures.1 c.in_err-pic_height_in_map_units_minus1.ensures.0 refl
    (reads c.in_ok-max_num_ref_frames.ensures
    (reads c.in_ok-gaps_in_frame_num_value_allowed_flag.ensures
    (reads c.in_ok-pic_width_in_mbs_minus1.ensures
    (ends c.in_err-pic_height_in_map_units_minus1.ensures.1))))

pub returns-in_err-frame_mbs_only_flag : goal.returns-in_err-frame_mbs_only_flag
unfolding sps_size
returns-in_err-frame_mbs_only_flag g c =
    absent sps_says _ _ _ c.from_residual-in_err-frame_mbs_only_flag.ensures.1 c.in_err-frame_mbs_only_flag.ensures.0 refl
    (reads c.in_ok-max_num_ref_frames.ensures
    (reads c.in_ok-gaps_in_frame_num_value_allowed_flag.ensures
    (reads c.in_ok-pic_width_in_mbs_minus1.ensures
    (reads c.in_ok-pic_height_in_map_units_minus1.ensures
    (ends c.in_err-frame_mbs_only_flag.ensures.1)))))

pub returns-in_err-mb_adaptive_frame_field_flag : goal.returns-in_err-mb_adaptive_frame_field_flag
unfolding sps_size
returns-in_err-mb_adaptive_frame_field_flag g c =
    part_fails _ _ _ _ _ _ _ c.from_residual-in_err-mb_adaptive_frame_field_flag.ensures.1 c.in_err-mb_adaptive_frame_field_flag.ensures
    (reads c.in_ok-max_num_ref_frames.ensures
    (reads c.in_ok-gaps_in_frame_num_value_allowed_flag.ensures
    (reads c.in_ok-pic_width_in_mbs_minus1.ensures
    (reads c.in_ok-pic_height_in_map_units_minus1.ensures
    (reads c.in_ok-frame_mbs_only_flag.ensures
    here)))))

pub returns-in_err-direct_8x8_inference_flag : goal.returns-in_err-direct_8x8_inference_flag
unfolding sps_size
returns-in_err-direct_8x8_inference_flag g c =
    absent sps_says _ _ _ c.from_residual-in_err-direct_8x8_inference_flag.ensures.1 c.in_err-direct_8x8_inference_flag.ensures.0 refl
    (reads c.in_ok-max_num_ref_frames.ensures
    (reads c.in_ok-gaps_in_frame_num_value_allowed_flag.ensures
    (reads c.in_ok-pic_width_in_mbs_minus1.ensures
    (reads c.in_ok-pic_height_in_map_units_minus1.ensures
    (reads c.in_ok-frame_mbs_only_flag.ensures
    (part_reads _ _ _ c.in_ok-mb_adaptive_frame_field_flag.ensures
    (ends c.in_err-direct_8x8_inference_flag.ensures.1)))))))

pub returns : goal.returns
unfolding sps_size
returns g c =
    (reads c.in_ok-max_num_ref_frames.ensures
    (reads c.in_ok-gaps_in_frame_num_value_allowed_flag.ensures
    (reads c.in_ok-pic_width_in_mbs_minus1.ensures
    (reads c.in_ok-pic_height_in_map_units_minus1.ensures
    (reads c.in_ok-frame_mbs_only_flag.ensures
    (part_reads _ _ _ c.in_ok-mb_adaptive_frame_field_flag.ensures
    (reads c.in_ok-direct_8x8_inference_flag.ensures
    done))))))).is
