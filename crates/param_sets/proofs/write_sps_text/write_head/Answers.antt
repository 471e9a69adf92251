use Rattle.bit_texts.proofs.Writing.{Appended-then, Appended-last}
use Rattle.param_sets.proofs.write_sps_text.write_head.Goals as goal

pub returns : goal.returns
returns g c =
    Appended-then c.in_ok-write_u.ensures
    (Appended-then c.in_ok-put.ensures.ok
    (Appended-then c.in_ok-put-2.ensures.ok
    (Appended-then c.in_ok-put-3.ensures.ok
    (Appended-then c.in_ok-put-4.ensures.ok
    (Appended-then c.in_ok-put-5.ensures.ok
    (Appended-then c.in_ok-put-6.ensures.ok
    (Appended-then c.in_ok-write_u-2.ensures
    (Appended-then c.in_ok-write_u-3.ensures
    (Appended-last c.in_ok-write_ue.ensures)))))))))
