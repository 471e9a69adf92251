use Rattle.bit_texts.proofs.Writing.{Appended-then, Appended-last}
use Rattle.param_sets.proofs.ScalingTexts.{matrix_has_codes}
use Rattle.param_sets.proofs.write_sps_text.write_high.Goals as goal

pub write_scaling_lists-requires : goal.write_scaling_lists-requires
write_scaling_lists-requires g c = rw c.as_slice.ensures (matrix_has_codes _ _ _ c.requires.scaling_lists)

pub returns : goal.returns
returns g c =
    Appended-then c.in_ok-write_ue.ensures
    (Appended-then c.in_ok-write_ue-2.ensures
    (Appended-then c.in_ok-write_ue-3.ensures
    (Appended-then c.in_ok-put.ensures.ok
    (Appended-then c.in_ok-put-2.ensures.ok
    (Appended-last (rw c.as_slice.ensures at c.in_ok-write_scaling_lists.ensures))))))
