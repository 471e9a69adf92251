use Rattle.std.proofs.Common.{◌≡◌, refl, rules, w32, to_z, of_z}
use Rattle.std.proofs.lemmas.Int.{to_z-of_z}
use Rattle.param_sets.specs.Refusal.{sps_says}
use Rattle.param_sets.specs.SequenceParameterSet.{sps_order_cycle}
use Rattle.param_sets.proofs.Straight.{absent, done, ends, here, part_fails, part_reads, reads}
use Rattle.param_sets.proofs.read_sps_text.read_order_cycle.Goals as goal

pub returns-in_err-delta_pic_order_always_zero_flag : goal.returns-in_err-delta_pic_order_always_zero_flag
unfolding sps_order_cycle
returns-in_err-delta_pic_order_always_zero_flag g c =
    absent sps_says _ _ _ c.from_residual.ensures.1 c.in_err-delta_pic_order_always_zero_flag.ensures.0 refl
    (ends c.in_err-delta_pic_order_always_zero_flag.ensures.1)

pub returns-in_err-offset_for_non_ref_pic : goal.returns-in_err-offset_for_non_ref_pic
unfolding sps_order_cycle
returns-in_err-offset_for_non_ref_pic g c =
    absent sps_says _ _ _ c.from_residual-in_err-offset_for_non_ref_pic.ensures.1 c.in_err-offset_for_non_ref_pic.ensures.0 refl
    (reads c.in_ok-delta_pic_order_always_zero_flag.ensures
    (ends c.in_err-offset_for_non_ref_pic.ensures.1))

pub returns-in_err-offset_for_top_to_bottom_field : goal.returns-in_err-offset_for_top_to_bottom_field
unfolding sps_order_cycle
returns-in_err-offset_for_top_to_bottom_field g c =
    absent sps_says _ _ _ c.from_residual-in_err-offset_for_top_to_bottom_field.ensures.1 c.in_err-offset_for_top_to_bottom_field.ensures.0 refl
    (reads c.in_ok-delta_pic_order_always_zero_flag.ensures
    (reads c.in_ok-offset_for_non_ref_pic.ensures
    (ends c.in_err-offset_for_top_to_bottom_field.ensures.1)))

pub returns-in_err-num_ref_frames_in_pic_order_cnt_cycle : goal.returns-in_err-num_ref_frames_in_pic_order_cnt_cycle
unfolding sps_order_cycle
returns-in_err-num_ref_frames_in_pic_order_cnt_cycle g c =
    absent sps_says _ _ _ c.from_residual-in_err-num_ref_frames_in_pic_order_cnt_cycle.ensures.1 c.in_err-num_ref_frames_in_pic_order_cnt_cycle.ensures.0 refl
    (reads c.in_ok-delta_pic_order_always_zero_flag.ensures
    (reads c.in_ok-offset_for_non_ref_pic.ensures
    (reads c.in_ok-offset_for_top_to_bottom_field.ensures
    (ends c.in_err-num_ref_frames_in_pic_order_cnt_cycle.ensures.1))))

pub returns-in_err-offset_for_ref_frame : goal.returns-in_err-offset_for_ref_frame
unfolding sps_order_cycle
returns-in_err-offset_for_ref_frame g c =
    part_fails _ _ _ _ _ _ _ c.from_residual-in_err-offset_for_ref_frame.ensures.1 c.in_err-offset_for_ref_frame.ensures
    (reads c.in_ok-delta_pic_order_always_zero_flag.ensures
    (reads c.in_ok-offset_for_non_ref_pic.ensures
    (reads c.in_ok-offset_for_top_to_bottom_field.ensures
    (reads c.in_ok-num_ref_frames_in_pic_order_cnt_cycle.ensures
    here))))

pub returns : goal.returns
unfolding sps_order_cycle
returns g c =
    let first : to_z w32 (of_z w32 c.in_ok-offset_for_non_ref_pic.offset_for_non_ref_pic) ≡ c.in_ok-offset_for_non_ref_pic.offset_for_non_ref_pic = to_z-of_z w32 c.in_ok-offset_for_non_ref_pic.offset_for_non_ref_pic (search rules) in
    let second : to_z w32 (of_z w32 c.in_ok-offset_for_top_to_bottom_field.offset_for_top_to_bottom_field) ≡ c.in_ok-offset_for_top_to_bottom_field.offset_for_top_to_bottom_field = to_z-of_z w32 c.in_ok-offset_for_top_to_bottom_field.offset_for_top_to_bottom_field (search rules) in
    rw (first, second) (
    (reads c.in_ok-delta_pic_order_always_zero_flag.ensures
    (reads c.in_ok-offset_for_non_ref_pic.ensures
    (reads c.in_ok-offset_for_top_to_bottom_field.ensures
    (reads c.in_ok-num_ref_frames_in_pic_order_cnt_cycle.ensures
    (part_reads _ _ _ c.in_ok-offset_for_ref_frame.ensures
    done))))).is)
