use Rattle.std.proofs.Common.{arith}
use Rattle.cavlc_residual.proofs.GapLemmas.{length-falling, zeros_are}
use Rattle.cavlc_residual.proofs.writing.count_zeros.Goals as goal

pub overflow_cast-result : goal.overflow_cast-result
overflow_cast-result c = omega (arith, length-falling 16 c.args.places.now c.requires)

pub overflow_sub-result-in-Some : goal.overflow_sub-result-in-Some
overflow_sub-result-in-Some c =
    let first = c.in-Some.ensures.item in
    omega (arith, first.1, zeros_are 16 c.args.places.now c.requires first.3.0)
