use Rattle.std.proofs.Common.{arith}
use Rattle.cavlc_residual.proofs.Pieces.{Appends-front}
use Rattle.cavlc_residual.proofs.WriteLemmas.{element_is, coefficients-turn, coefficients-stop}
use Rattle.cavlc_residual.proofs.writing.write_coefficients.Goals as goal

pub returns-in_err-write_coefficient : goal.returns-in_err-write_coefficient
returns-in_err-write_coefficient g c =
    let known = c.loop-i.invariant in
    Appends-front _ _ _ _ c.from_residual.ensures.0
    (coefficients-stop c.loop-i.suffix_length c.loop-i.extra c.loop-i.i c.args.levels.now _ _ _ _ _ (omega arith)
    (element_is c.loop-i.suffix_length c.loop-i.extra c.loop-i.i c.args.levels.now (omega arith) known.levels) known.wrote c.in_err-write_coefficient.ensures)

pub loop-i-preserved : goal.loop-i-preserved
loop-i-preserved g c =
    let known = c.loop-i.invariant in
    let turn = coefficients-turn c.loop-i.suffix_length c.loop-i.extra c.loop-i.i c.suffix_length_after-suffix_length.result c.args.levels.now _ _ _ _ _ (omega arith)
    (element_is c.loop-i.suffix_length c.loop-i.extra c.loop-i.i c.args.levels.now (omega arith) known.levels) c.suffix_length_after-suffix_length.ensures.next known.levels known.wrote c.in_ok-write_coefficient.ensures in
    record { small = omega arith; levels = turn.0; wrote = turn.1 }
