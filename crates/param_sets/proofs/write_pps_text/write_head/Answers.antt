use Rattle.std.proofs.Common.{◌≡◌, rules, w32, to_z, of_z}
use Rattle.std.proofs.lemmas.Int.{to_z-of_z}
use Rattle.bit_texts.proofs.Writing.{Appended-then, Appended-last}
use Rattle.param_sets.proofs.write_pps_text.write_head.Goals as goal

pub returns : goal.returns
returns g c =
    let pps = c.args.pps.now in
    let qp : to_z w32 (of_z w32 pps.pic_init_qp_minus26) ≡ pps.pic_init_qp_minus26 = to_z-of_z w32 pps.pic_init_qp_minus26 (search rules) in
    let qs : to_z w32 (of_z w32 pps.pic_init_qs_minus26) ≡ pps.pic_init_qs_minus26 = to_z-of_z w32 pps.pic_init_qs_minus26 (search rules) in
    let offset : to_z w32 (of_z w32 pps.chroma_qp_index_offset) ≡ pps.chroma_qp_index_offset = to_z-of_z w32 pps.chroma_qp_index_offset (search rules) in
    let number = rw c.from.ensures at c.in_ok-write_ue.ensures in
    let mode = rw c.is_cabac.ensures at c.in_ok-put.ensures.ok in
    Appended-then number
    (Appended-then c.in_ok-write_ue-2.ensures
    (Appended-then mode
    (Appended-then c.in_ok-put-2.ensures.ok
    (Appended-then c.in_ok-write_ue-3.ensures
    (Appended-then c.in_ok-write_ue-4.ensures
    (Appended-then c.in_ok-write_ue-5.ensures
    (Appended-then c.in_ok-put-3.ensures.ok
    (Appended-then c.in_ok-write_u.ensures
    (Appended-then (rw qp at c.in_ok-write_se.ensures)
    (Appended-then (rw qs at c.in_ok-write_se-2.ensures)
    (Appended-then (rw offset at c.in_ok-write_se-3.ensures)
    (Appended-then c.in_ok-put-4.ensures.ok
    (Appended-then c.in_ok-put-5.ensures.ok
    (Appended-last c.in_ok-put-6.ensures.ok))))))))))))))
