use Rattle.std.proofs.Common.{arith}
use Rattle.exp_golomb.specs.Code.{Ue}
use Rattle.exp_golomb.proofs.Fronts.{front_takes}
use Rattle.param_sets.proofs.Spelled.{ue_most}
use Rattle.header_parts.proofs.read_element.number.Goals as goal

pub overflow_cast-result : goal.overflow_cast-result
overflow_cast-result g c =
    let value = c.in_ok-value.value in
    let most = ue_most 255 value (front_takes (Ue 255) _ value _ c.in_ok-value.ensures.reads).0 in
    omega (arith, most)
