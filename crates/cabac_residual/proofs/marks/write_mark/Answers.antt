use Rattle.binarisation.proofs.Strings.{on_ok}
use Rattle.cabac_residual.proofs.Blocks.{writes_mark}
use Rattle.cabac_residual.proofs.marks.write_mark.Goals as goal

pub returns-clause-writes : goal.returns-clause-writes
returns-clause-writes g c = on_ok c.bin-2.result
    (λ step. writes_mark g.S.BinSink.step c.args.cat c.args.field c.args.place _ _ _ _ _ _ _ c.significance_context.ensures.context c.if-not-is_significant.false c.last_context.ensures.context c.in_ok-bin.ensures.step step) c.bin-2.ensures.step
