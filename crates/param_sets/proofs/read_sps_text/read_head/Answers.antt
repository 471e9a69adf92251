use Rattle.std.proofs.Common.{refl, sym, ap, ◌∙◌}
use Rattle.std.specs.Prelude.{not}
use Rattle.param_sets.specs.Refusal.{sps_says}
use Rattle.param_sets.specs.SequenceParameterSet.{sps_head}
use Rattle.param_sets.proofs.Straight.{absent, done, ends, passes, reads, refused}
use Rattle.param_sets.proofs.read_sps_text.read_head.Goals as goal

pub returns-in_err-profile_idc : goal.returns-in_err-profile_idc
unfolding sps_head
returns-in_err-profile_idc g c =
    absent sps_says _ _ _ c.from_residual.ensures.1 c.in_err-profile_idc.ensures.0 refl
    (ends c.in_err-profile_idc.ensures.1)

pub returns-then-not-known : goal.returns-then-not-known
unfolding sps_head
returns-then-not-known g c =
    (reads c.in_ok-profile_idc.ensures
    (refused _ _ (ap not (sym c.is_known_profile-known.ensures ∙ c.if-not-known.true)))).is

pub returns-in_err-constraint_set0_flag : goal.returns-in_err-constraint_set0_flag
unfolding sps_head
returns-in_err-constraint_set0_flag g c =
    absent sps_says _ _ _ c.from_residual-in_err-constraint_set0_flag.ensures.1 c.in_err-constraint_set0_flag.ensures.0 refl
    (reads c.in_ok-profile_idc.ensures
    (passes _ _ (ap not (sym c.is_known_profile-known.ensures ∙ c.if-not-known.false))
    (ends c.in_err-constraint_set0_flag.ensures.1)))

pub returns-in_err-constraint_set1_flag : goal.returns-in_err-constraint_set1_flag
unfolding sps_head
returns-in_err-constraint_set1_flag g c =
    absent sps_says _ _ _ c.from_residual-in_err-constraint_set1_flag.ensures.1 c.in_err-constraint_set1_flag.ensures.0 refl
    (reads c.in_ok-profile_idc.ensures
    (passes _ _ (ap not (sym c.is_known_profile-known.ensures ∙ c.if-not-known.false))
    (reads c.in_ok-constraint_set0_flag.ensures
    (ends c.in_err-constraint_set1_flag.ensures.1))))

pub returns-in_err-constraint_set2_flag : goal.returns-in_err-constraint_set2_flag
unfolding sps_head
returns-in_err-constraint_set2_flag g c =
    absent sps_says _ _ _ c.from_residual-in_err-constraint_set2_flag.ensures.1 c.in_err-constraint_set2_flag.ensures.0 refl
    (reads c.in_ok-profile_idc.ensures
    (passes _ _ (ap not (sym c.is_known_profile-known.ensures ∙ c.if-not-known.false))
    (reads c.in_ok-constraint_set0_flag.ensures
    (reads c.in_ok-constraint_set1_flag.ensures
    (ends c.in_err-constraint_set2_flag.ensures.1)))))

pub returns-in_err-constraint_set3_flag : goal.returns-in_err-constraint_set3_flag
unfolding sps_head
returns-in_err-constraint_set3_flag g c =
    absent sps_says _ _ _ c.from_residual-in_err-constraint_set3_flag.ensures.1 c.in_err-constraint_set3_flag.ensures.0 refl
    (reads c.in_ok-profile_idc.ensures
    (passes _ _ (ap not (sym c.is_known_profile-known.ensures ∙ c.if-not-known.false))
    (reads c.in_ok-constraint_set0_flag.ensures
    (reads c.in_ok-constraint_set1_flag.ensures
    (reads c.in_ok-constraint_set2_flag.ensures
    (ends c.in_err-constraint_set3_flag.ensures.1))))))

pub returns-in_err-constraint_set4_flag : goal.returns-in_err-constraint_set4_flag
unfolding sps_head
returns-in_err-constraint_set4_flag g c =
    absent sps_says _ _ _ c.from_residual-in_err-constraint_set4_flag.ensures.1 c.in_err-constraint_set4_flag.ensures.0 refl
    (reads c.in_ok-profile_idc.ensures
    (passes _ _ (ap not (sym c.is_known_profile-known.ensures ∙ c.if-not-known.false))
    (reads c.in_ok-constraint_set0_flag.ensures
    (reads c.in_ok-constraint_set1_flag.ensures
    (reads c.in_ok-constraint_set2_flag.ensures
    (reads c.in_ok-constraint_set3_flag.ensures
    (ends c.in_err-constraint_set4_flag.ensures.1)))))))

pub returns-in_err-constraint_set5_flag : goal.returns-in_err-constraint_set5_flag
unfolding sps_head
returns-in_err-constraint_set5_flag g c =
    absent sps_says _ _ _ c.from_residual-in_err-constraint_set5_flag.ensures.1 c.in_err-constraint_set5_flag.ensures.0 refl
    (reads c.in_ok-profile_idc.ensures
    (passes _ _ (ap not (sym c.is_known_profile-known.ensures ∙ c.if-not-known.false))
    (reads c.in_ok-constraint_set0_flag.ensures
    (reads c.in_ok-constraint_set1_flag.ensures
    (reads c.in_ok-constraint_set2_flag.ensures
    (reads c.in_ok-constraint_set3_flag.ensures
    (reads c.in_ok-constraint_set4_flag.ensures
    (ends c.in_err-constraint_set5_flag.ensures.1))))))))

pub returns-in_err-reserved_zero_2bits : goal.returns-in_err-reserved_zero_2bits
unfolding sps_head
returns-in_err-reserved_zero_2bits g c =
    absent sps_says _ _ _ c.from_residual-in_err-reserved_zero_2bits.ensures.1 c.in_err-reserved_zero_2bits.ensures.0 refl
    (reads c.in_ok-profile_idc.ensures
    (passes _ _ (ap not (sym c.is_known_profile-known.ensures ∙ c.if-not-known.false))
    (reads c.in_ok-constraint_set0_flag.ensures
    (reads c.in_ok-constraint_set1_flag.ensures
    (reads c.in_ok-constraint_set2_flag.ensures
    (reads c.in_ok-constraint_set3_flag.ensures
    (reads c.in_ok-constraint_set4_flag.ensures
    (reads c.in_ok-constraint_set5_flag.ensures
    (ends c.in_err-reserved_zero_2bits.ensures.1)))))))))

pub returns-in_err-level_idc : goal.returns-in_err-level_idc
unfolding sps_head
returns-in_err-level_idc g c =
    absent sps_says _ _ _ c.from_residual-in_err-level_idc.ensures.1 c.in_err-level_idc.ensures.0 refl
    (reads c.in_ok-profile_idc.ensures
    (passes _ _ (ap not (sym c.is_known_profile-known.ensures ∙ c.if-not-known.false))
    (reads c.in_ok-constraint_set0_flag.ensures
    (reads c.in_ok-constraint_set1_flag.ensures
    (reads c.in_ok-constraint_set2_flag.ensures
    (reads c.in_ok-constraint_set3_flag.ensures
    (reads c.in_ok-constraint_set4_flag.ensures
    (reads c.in_ok-constraint_set5_flag.ensures
    (reads c.in_ok-reserved_zero_2bits.ensures
    (ends c.in_err-level_idc.ensures.1))))))))))

pub returns-in_err-seq_parameter_set_id : goal.returns-in_err-seq_parameter_set_id
unfolding sps_head
returns-in_err-seq_parameter_set_id g c =
    absent sps_says _ _ _ c.from_residual-in_err-seq_parameter_set_id.ensures.1 c.in_err-seq_parameter_set_id.ensures.0 refl
    (reads c.in_ok-profile_idc.ensures
    (passes _ _ (ap not (sym c.is_known_profile-known.ensures ∙ c.if-not-known.false))
    (reads c.in_ok-constraint_set0_flag.ensures
    (reads c.in_ok-constraint_set1_flag.ensures
    (reads c.in_ok-constraint_set2_flag.ensures
    (reads c.in_ok-constraint_set3_flag.ensures
    (reads c.in_ok-constraint_set4_flag.ensures
    (reads c.in_ok-constraint_set5_flag.ensures
    (reads c.in_ok-reserved_zero_2bits.ensures
    (reads c.in_ok-level_idc.ensures
    (ends c.in_err-seq_parameter_set_id.ensures.1)))))))))))

pub returns : goal.returns
unfolding sps_head
returns g c =
    rw (c.empty.ensures, c.empty-2.ensures, c.empty-3.ensures) (
    (reads c.in_ok-profile_idc.ensures
    (passes _ _ (ap not (sym c.is_known_profile-known.ensures ∙ c.if-not-known.false))
    (reads c.in_ok-constraint_set0_flag.ensures
    (reads c.in_ok-constraint_set1_flag.ensures
    (reads c.in_ok-constraint_set2_flag.ensures
    (reads c.in_ok-constraint_set3_flag.ensures
    (reads c.in_ok-constraint_set4_flag.ensures
    (reads c.in_ok-constraint_set5_flag.ensures
    (reads c.in_ok-reserved_zero_2bits.ensures
    (reads c.in_ok-level_idc.ensures
    (reads c.in_ok-seq_parameter_set_id.ensures
    done))))))))))).is)
