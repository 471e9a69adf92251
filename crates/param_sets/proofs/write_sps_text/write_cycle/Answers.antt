use Rattle.std.proofs.Common.{◌≡◌, rules, w32, to_z, of_z}
use Rattle.std.proofs.lemmas.Int.{to_z-of_z}
use Rattle.bit_texts.proofs.Writing.{Appended-then, Appended-last}
use Rattle.param_sets.proofs.write_sps_text.write_cycle.Goals as goal

pub returns : goal.returns
returns g c =
    let sps = c.args.sps.now in
    let first : to_z w32 (of_z w32 sps.offset_for_non_ref_pic) ≡ sps.offset_for_non_ref_pic = to_z-of_z w32 sps.offset_for_non_ref_pic (search rules) in
    let second : to_z w32 (of_z w32 sps.offset_for_top_to_bottom_field) ≡ sps.offset_for_top_to_bottom_field = to_z-of_z w32 sps.offset_for_top_to_bottom_field (search rules) in
    Appended-then c.in_ok-put.ensures.ok
    (Appended-then (rw first at c.in_ok-write_se.ensures)
    (Appended-then (rw second at c.in_ok-write_se-2.ensures)
    (Appended-then c.in_ok-write_ue.ensures
    (Appended-last (rw c.as_slice.ensures at c.in_ok-write_values.ensures)))))
