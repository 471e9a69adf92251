use Rattle.binarisation.proofs.Strings.{on_ok}
use Rattle.cabac_residual.proofs.Blocks.{block_5, writes_flagged, writes_uncoded}
use Rattle.cabac_residual.proofs.block.write_levels.Goals as goal

pub returns-in_default-clause-writes : goal.returns-in_default-clause-writes
returns-in_default-clause-writes g c = on_ok c.bin.result
    (λ step. writes_uncoded g.S.BinSink.step c.args.cat c.args.field c.args.flag_inc _ _ _ _ _ (λ e. c.requires.some e c.in_default.ensures.none) c.flag_context.ensures.context c.in_default.ensures.none step) c.bin.ensures.step

pub returns-then-cat-eq5-clause-writes : goal.returns-then-cat-eq5-clause-writes
returns-then-cat-eq5-clause-writes g c = rw (block_5 c.args.cat c.args.field c.args.flag_inc _ c.if-cat-eq5.true) c.write_coded.ensures.writes

pub returns-clause-writes : goal.returns-clause-writes
returns-clause-writes g c = on_ok c.write_coded-2.result
    (λ written. writes_flagged g.S.BinSink.step c.args.cat c.args.field c.args.flag_inc _ _ _ _ _ _ c.if-cat-eq5.false c.flag_context-2.ensures.context c.in_ok-bin.ensures.step written) c.write_coded-2.ensures.writes
