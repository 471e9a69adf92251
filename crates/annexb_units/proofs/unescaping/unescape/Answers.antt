use Rattle.std.proofs.Common.{arith, drop}
use Rattle.std.proofs.lemmas.Result.{err_from_is_err_and}
use Rattle.annexb_units.proofs.Zeros.{read_turn, read_bad, read_end}
use Rattle.annexb_units.proofs.unescaping.unescape.Goals as goal

pub returns-in_err-done-clause-err : goal.returns-in_err-done-clause-err
returns-in_err-done-clause-err c =
    let exit = err_from_is_err_and c.from_residual-in_err-done.result c.from_residual-in_err-done.ensures.1 in
    rw (exit.1, exit.2) (λ is. read_bad (drop 1 c.args.unit.now) c.loop-zero.payload.items c.loop-zero.rest.now c.in-Some.zero c.loop-zero.invariant (omega (arith, c.in-Some.ensures.0.high)) c.in-Some.ensures.0.before
    (c.in_err-done.ensures.bad is))

pub loop-zero-preserved : goal.loop-zero-preserved
loop-zero-preserved c =
    read_turn (drop 1 c.args.unit.now) c.loop-zero.payload.items _ _ c.loop-zero.rest.now c.in-Some.zero c.in_ok-done.done c.loop-zero.invariant (omega (arith, c.in-Some.ensures.0.high)) c.in-Some.ensures.0.before
    c.in_ok-append.ensures.ok c.in_ok-done.ensures.taken

pub returns-clause-ok : goal.returns-clause-ok
returns-clause-ok c = read_end (drop 1 c.args.unit.now) c.loop-zero.payload.items _ c.loop-zero.rest.now c.loop-zero.invariant c.in_default.ensures c.in_ok-append-2.ensures.ok
