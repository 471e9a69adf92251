-- A slice as it was read is its unit, whose macroblocks are counted.
use Rattle.std.proofs.lemmas.Result.{err_from_is_err_and}
use Rattle.stream_recoder.proofs.unit_form.read_form.Goals as goal

pub returns-in_err-macroblocks-clause-err : goal.returns-in_err-macroblocks-clause-err
returns-in_err-macroblocks-clause-err c = λ to sets header bits r.
    let p = err_from_is_err_and c.from_residual.result c.from_residual.ensures.1 in
    rw (p.1, p.2) (c.in_err-macroblocks.ensures.err to sets header bits r)
