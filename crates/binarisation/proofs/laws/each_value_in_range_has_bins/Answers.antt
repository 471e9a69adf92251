use Rattle.std.proofs.Common.{◌+◌}
use Rattle.binarisation.specs.Elements.{mode, chroma_mode, ref_idx, qp_delta, mvd, pattern_chroma}
use Rattle.binarisation.specs.MacroblockType.{sub_p, sub_b}
use Rattle.binarisation.proofs.HasBins.{type_i_spelled, type_p_spelled, type_b_spelled, sub_p_has, sub_b_has, mode_has, chroma_mode_has, ref_idx_has, qp_delta_has, mvd_has, up_to_two_has, spelled_by}
use Rattle.binarisation.proofs.laws.each_value_in_range_has_bins.Goals as goal

pub returns-clause-type_i : goal.returns-clause-type_i
returns-clause-type_i c = type_i_spelled

pub returns-clause-type_p : goal.returns-clause-type_p
returns-clause-type_p c = type_p_spelled

pub returns-clause-type_b : goal.returns-clause-type_b
returns-clause-type_b c = type_b_spelled

pub returns-clause-sub_p : goal.returns-clause-sub_p
returns-clause-sub_p c = λ number h. spelled_by sub_p number _ (sub_p_has number h)

pub returns-clause-sub_b : goal.returns-clause-sub_b
returns-clause-sub_b c = λ number h. spelled_by sub_b number _ (sub_b_has number h)

pub returns-clause-mode : goal.returns-clause-mode
returns-clause-mode c = λ value h. spelled_by mode value _ (mode_has value h)

pub returns-clause-chroma_mode : goal.returns-clause-chroma_mode
returns-clause-chroma_mode c = λ inc value h. spelled_by (chroma_mode inc) value _ (chroma_mode_has inc value h)

pub returns-clause-ref_idx : goal.returns-clause-ref_idx
returns-clause-ref_idx c = λ inc value h. spelled_by (ref_idx inc) value _ (ref_idx_has inc value h)

pub returns-clause-qp_delta : goal.returns-clause-qp_delta
returns-clause-qp_delta c = λ inc value low high. spelled_by (qp_delta inc) value _ (qp_delta_has inc value low high)

pub returns-clause-mvd_x : goal.returns-clause-mvd_x
returns-clause-mvd_x c = λ inc value h. spelled_by (mvd 40 inc) value _ (mvd_has 40 inc value h)

pub returns-clause-mvd_y : goal.returns-clause-mvd_y
returns-clause-mvd_y c = λ inc value h. spelled_by (mvd 47 inc) value _ (mvd_has 47 inc value h)

pub returns-clause-pattern_chroma : goal.returns-clause-pattern_chroma
returns-clause-pattern_chroma c = λ first second value h. spelled_by (pattern_chroma first second) value _ (up_to_two_has (77 + first) (81 + second) value h)
