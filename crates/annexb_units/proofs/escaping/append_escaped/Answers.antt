use Rattle.std.proofs.Common.{arith}
use Rattle.annexb_units.proofs.Zeros.{escape_turn, escape_end}
use Rattle.annexb_units.proofs.escaping.append_escaped.Goals as goal

pub loop-zero-preserved : goal.loop-zero-preserved
loop-zero-preserved c =
    escape_turn _ c.loop-zero.out.items _ _ c.loop-zero.rest.now c.in-Some.zero c.in_ok-done.done c.loop-zero.invariant (omega (arith, c.in-Some.ensures.0.high)) c.in-Some.ensures.0.before
    c.in_ok-extend_from_slice.ensures.items c.in_ok-done.ensures.appended

pub returns : goal.returns
returns c = escape_end _ c.loop-zero.out.items _ c.loop-zero.rest.now c.extend_from_slice-2.result c.loop-zero.invariant c.in_default.ensures c.extend_from_slice-2.ensures.items
