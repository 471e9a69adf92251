use Rattle.std.proofs.Common.{ap}
use Rattle.std.specs.Option.{option_map}
use Rattle.cabac_residual.proofs.Blocks.{block_5, reads_flagged, reads_uncoded, reads_no_flag, unread}
use Rattle.cabac_residual.proofs.block.read_levels.Goals as goal

pub returns-then-cat-eq5-clause-reads : goal.returns-then-cat-eq5-clause-reads
returns-then-cat-eq5-clause-reads g c = rw (block_5 c.args.cat c.args.field c.args.flag_inc _ c.if-cat-eq5.true) c.read_coded.ensures.reads

pub returns-in_err-bin-clause-reads : goal.returns-in_err-bin-clause-reads
returns-in_err-bin-clause-reads g c =
    unread _ _ _ _ _ (ap (option_map _) c.from_residual.ensures)
    (reads_no_flag g.S.BinSource.step c.args.cat c.args.field c.args.flag_inc _ _ _ _ c.if-cat-eq5.false c.flag_context.ensures.context c.in_err-bin.ensures.step)

pub returns-then-branch-clause-reads : goal.returns-then-branch-clause-reads
returns-then-branch-clause-reads g c =
    reads_flagged g.S.BinSource.step c.args.cat c.args.field c.args.flag_inc _ _ _ _ _ _ _ c.if-cat-eq5.false c.flag_context.ensures.context c.if-branch.true c.in_ok-bin.ensures.step c.read_coded-then-branch.ensures.reads

pub returns-clause-reads : goal.returns-clause-reads
returns-clause-reads g c =
    reads_uncoded g.S.BinSource.step c.args.cat c.args.field c.args.flag_inc _ _ _ _ _ _ c.if-cat-eq5.false c.flag_context.ensures.context c.if-branch.false c.clear.ensures c.in_ok-bin.ensures.step
