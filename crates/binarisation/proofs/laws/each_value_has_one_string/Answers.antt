use Rattle.std.proofs.Common.{◌+◌}
use Rattle.binarisation.proofs.ElementStrings.{flag_one, end_of_slice_one, mode_one, chroma_mode_one, ref_idx_one, qp_delta_one, mvd_one, up_to_two_one, type_i_one, type_p_one, type_b_one, sub_p_one, sub_b_one}
use Rattle.binarisation.proofs.laws.each_value_has_one_string.Goals as goal

pub returns-clause-skip_p : goal.returns-clause-skip_p
returns-clause-skip_p c = λ inc. flag_one (11 + inc)

pub returns-clause-skip_b : goal.returns-clause-skip_b
returns-clause-skip_b c = λ inc. flag_one (24 + inc)

pub returns-clause-field : goal.returns-clause-field
returns-clause-field c = λ inc. flag_one (70 + inc)

pub returns-clause-t8 : goal.returns-clause-t8
returns-clause-t8 c = λ inc. flag_one (399 + inc)

pub returns-clause-end_of_slice : goal.returns-clause-end_of_slice
returns-clause-end_of_slice c = end_of_slice_one

pub returns-clause-type_i : goal.returns-clause-type_i
returns-clause-type_i c = λ inc. type_i_one inc

pub returns-clause-type_p : goal.returns-clause-type_p
returns-clause-type_p c = type_p_one

pub returns-clause-type_b : goal.returns-clause-type_b
returns-clause-type_b c = λ inc. type_b_one inc

pub returns-clause-sub_p : goal.returns-clause-sub_p
returns-clause-sub_p c = sub_p_one

pub returns-clause-sub_b : goal.returns-clause-sub_b
returns-clause-sub_b c = sub_b_one

pub returns-clause-mode_flag : goal.returns-clause-mode_flag
returns-clause-mode_flag c = flag_one 68

pub returns-clause-mode : goal.returns-clause-mode
returns-clause-mode c = mode_one

pub returns-clause-chroma_mode : goal.returns-clause-chroma_mode
returns-clause-chroma_mode c = λ inc. chroma_mode_one inc

pub returns-clause-ref_idx : goal.returns-clause-ref_idx
returns-clause-ref_idx c = λ inc. ref_idx_one inc

pub returns-clause-qp_delta : goal.returns-clause-qp_delta
returns-clause-qp_delta c = λ inc. qp_delta_one inc

pub returns-clause-mvd_x : goal.returns-clause-mvd_x
returns-clause-mvd_x c = λ inc. mvd_one 40 inc

pub returns-clause-mvd_y : goal.returns-clause-mvd_y
returns-clause-mvd_y c = λ inc. mvd_one 47 inc

pub returns-clause-pattern_luma : goal.returns-clause-pattern_luma
returns-clause-pattern_luma c = λ inc. flag_one (73 + inc)

pub returns-clause-pattern_chroma : goal.returns-clause-pattern_chroma
returns-clause-pattern_chroma c = λ first second. up_to_two_one (77 + first) (81 + second)
