use Rattle.std.proofs.Common.{◌≡◌, refl, rules, w32, to_z, of_z}
use Rattle.std.proofs.lemmas.Int.{to_z-of_z}
use Rattle.exp_golomb.proofs.Syntaxes.{outcome_of_then}
use Rattle.exp_golomb.specs.Syntax.{outcome_of}
use Rattle.slice_header.specs.SliceHeader.{after_start}
use Rattle.slice_header.proofs.read_header_text.read_after_start.Goals as goal

pub returns-clause-answers : goal.returns-clause-answers
unfolding outcome_of after_start
returns-clause-answers g c =
    let bottom = c.in_ok-order.order.delta_pic_order_cnt_bottom in
    let delta = c.in_ok-slice_qp_delta.slice_qp_delta in
    let alpha = c.in_ok-filter.filter.slice_alpha_c0_offset_div2 in
    let beta = c.in_ok-filter.filter.slice_beta_offset_div2 in
    let first : to_z w32 (of_z w32 bottom) ≡ bottom = to_z-of_z w32 bottom (search rules) in
    let second : to_z w32 (of_z w32 delta) ≡ delta = to_z-of_z w32 delta (search rules) in
    let third : to_z w32 (of_z w32 alpha) ≡ alpha = to_z-of_z w32 alpha (search rules) in
    let fourth : to_z w32 (of_z w32 beta) ≡ beta = to_z-of_z w32 beta (search rules) in
    let init = rw c.has_cabac_init-has_init.ensures at c.in_ok-cabac_init_idc.ensures.answers in
    rw (
      first,
      second,
      third,
      fourth,
      outcome_of_then,
      c.in_ok-picture.ensures.answers,
      outcome_of_then,
      c.in_ok-order.ensures.answers,
      outcome_of_then,
      c.in_ok-references.ensures.answers,
      outcome_of_then,
      c.in_ok-lists.ensures.answers,
      outcome_of_then,
      c.in_ok-marking.ensures.answers,
      outcome_of_then,
      init,
      outcome_of_then,
      c.in_ok-slice_qp_delta.ensures.answers,
      outcome_of_then,
      c.in_ok-filter.ensures.answers,
    ) refl
