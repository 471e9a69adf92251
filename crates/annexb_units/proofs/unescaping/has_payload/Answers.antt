use Rattle.std.proofs.Common.{[], ◌∷◌, ◌∙◌, arith, drop, sym}
use Rattle.std.specs.Prelude.{is_some}
use Rattle.exp_golomb.specs.EmulationPrevention.{payload_of}
use Rattle.annexb_units.proofs.Zeros.{some_turn, some_none, some_end}
use Rattle.annexb_units.proofs.unescaping.has_payload.Goals as goal

pub loop-zero-preserved-in-Some-Alone : goal.loop-zero-preserved-in-Some-Alone
loop-zero-preserved-in-Some-Alone c =
    some_turn c.loop-zero.rest.now (0 ∷ []) c.in-Some.zero 1 (is_some (payload_of (drop 1 c.args.unit.now))) c.loop-zero.invariant (omega (arith, c.in-Some.ensures.0.high)) c.in-Some.ensures.0.before (rw c.in-Some-Alone.field-0-is at c.in-Some-Alone.ensures)

pub loop-zero-preserved : goal.loop-zero-preserved
loop-zero-preserved c =
    some_turn c.loop-zero.rest.now (0 ∷ 0 ∷ []) c.in-Some.zero 3 (is_some (payload_of (drop 1 c.args.unit.now))) c.loop-zero.invariant (omega (arith, c.in-Some.ensures.0.high)) c.in-Some.ensures.0.before (rw c.in-Some-Escaped.field-0-is at c.in-Some-Escaped.ensures).1

pub returns-in-None : goal.returns-in-None
returns-in-None c =
    some_none c.loop-zero.rest.now c.in-Some.zero (is_some (payload_of (drop 1 c.args.unit.now))) c.loop-zero.invariant (omega (arith, c.in-Some.ensures.0.high)) c.in-Some.ensures.0.before c.in-None.ensures

pub returns : goal.returns
returns c = sym (some_end c.loop-zero.rest.now c.in_default.ensures) ∙ c.loop-zero.invariant
