use Rattle.std.proofs.Common.{ap}
use Rattle.std.specs.Option.{option_map}
use Rattle.cabac_macroblock.proofs.Puts.{unread}
use Rattle.cabac_macroblock.proofs.PatternSteps.{reads_luma_bit, reads_no_luma_bit, shifted, unset_bit}
use Rattle.cabac_macroblock.proofs.pattern.read_luma_bit.Goals as goal

pub returns-in_err-read_pattern_luma-clause-reads : goal.returns-in_err-read_pattern_luma-clause-reads
returns-in_err-read_pattern_luma-clause-reads g c mbs stands =
    unread _ _ _ _ _ (ap (option_map _) c.from_residual.ensures)
    (reads_no_luma_bit g.S.BinSource.step c.args.shape.now mbs c.args.at c.args.quarter c.args.mb.now _ _ _ (c.ctx_inc_luma-inc.ensures.value mbs stands) c.in_err-read_pattern_luma.ensures.reads)

pub returns-then-branch-clause-reads : goal.returns-then-branch-clause-reads
returns-then-branch-clause-reads g c mbs stands =
    reads_luma_bit g.S.BinSource.step c.args.shape.now mbs c.args.at c.args.quarter c.args.mb.now _ _ _ _ _ (c.ctx_inc_luma-inc.ensures.value mbs stands)
    (shifted c.args.mb.now c.args.quarter c.in_ok-read_pattern_luma.field-0 c.requires.quarter c.if-branch.true) c.in_ok-read_pattern_luma.ensures.reads

pub returns-else-branch-clause-reads : goal.returns-else-branch-clause-reads
returns-else-branch-clause-reads g c mbs stands =
    reads_luma_bit g.S.BinSource.step c.args.shape.now mbs c.args.at c.args.quarter c.args.mb.now _ _ _ _ _ (c.ctx_inc_luma-inc.ensures.value mbs stands)
    (unset_bit c.args.mb.now c.args.quarter c.in_ok-read_pattern_luma.field-0 c.if-branch.false) c.in_ok-read_pattern_luma.ensures.reads
