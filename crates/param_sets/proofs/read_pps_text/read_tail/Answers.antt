use Rattle.std.proofs.Common.{◌≡◌, ◌∙◌, refl, rules, w32, to_z, of_z}
use Rattle.std.proofs.lemmas.Int.{to_z-of_z}
use Rattle.exp_golomb.proofs.Syntaxes.{outcome_of_then}
use Rattle.exp_golomb.specs.Syntax.{outcome_of}
use Rattle.param_sets.specs.PictureParameterSet.{pps_tail}
use Rattle.param_sets.proofs.read_pps_text.read_tail.Goals as goal
use Rattle.param_sets.proofs.read_pps_text.read_tail.Goals.{then-transform_8x8_mode_flag, else-transform_8x8_mode_flag}
use Rattle.std.specs.Prelude.{if◌then◌else◌}

pub returns : goal.returns
unfolding outcome_of pps_tail
returns g c =
    let last = c.in_ok-second_chroma_qp_index_offset.second_chroma_qp_index_offset in
    let second : to_z w32 (of_z w32 last) ≡ last = to_z-of_z w32 last (search rules) in
    let count : c.if-transform_8x8_mode_flag.count ≡ (if c.in_ok-transform_8x8_mode_flag.transform_8x8_mode_flag then 8 else 6) =
    elim c.if-transform_8x8_mode_flag.branch [
      | then-transform_8x8_mode_flag w ↦ w.count-is ∙ rw w.if-transform_8x8_mode_flag.true refl
      | else-transform_8x8_mode_flag w ↦ w.count-is ∙ rw w.if-transform_8x8_mode_flag.false refl
    ] in
    rw (second, c.in_ok-transform_8x8_mode_flag.ensures, c.in_ok-pic_scaling_matrix_present_flag.ensures, outcome_of_then, ← count, c.in_ok-scaling_lists.ensures, c.in_ok-second_chroma_qp_index_offset.ensures) refl
