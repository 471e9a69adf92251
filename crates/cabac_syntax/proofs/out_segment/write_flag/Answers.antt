use Rattle.std.proofs.Common.{◌∙◌, sym, arith}
use Rattle.cabac_syntax.proofs.WroteLaws.{wrote_none, flag_taken}
use Rattle.cabac_syntax.proofs.out_segment.write_flag.Goals as goal

pub returns-then-count-eq0-clause-wrote : goal.returns-then-count-eq0-clause-wrote
returns-then-count-eq0-clause-wrote g c = λ start shape before done count w. wrote_none start shape before done c.args.coder.now (sym count ∙ c.if-count-eq0.true) w

pub returns-clause-wrote : goal.returns-clause-wrote
returns-clause-wrote g c = λ start shape before done count w.
    flag_taken start shape before done c.args.coder.now c.end.new.self c.end.result (omega (arith, count, c.if-count-eq0.false)) w c.end.ensures.step
