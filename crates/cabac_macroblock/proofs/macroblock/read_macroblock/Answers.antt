use Rattle.std.proofs.Common.{ap}
use Rattle.std.specs.Option.{option_map}
use Rattle.h264_types.specs.declared.macroblock.Mb.{Mb}
use Rattle.cabac_macroblock.proofs.Puts.{unread}
use Rattle.cabac_macroblock.proofs.TypeSteps.{reads_no_flag, reads_skipped, reads_unskipped}
use Rattle.cabac_macroblock.proofs.macroblock.read_macroblock.Goals as goal

pub returns-in_err-read_skip-clause-reads : goal.returns-in_err-read_skip-clause-reads
returns-in_err-read_skip-clause-reads g c mbs stands =
    unread _ _ _ _ _ (ap (option_map _) c.from_residual.ensures) (reads_no_flag g.S.BinSource.step c.args.shape.now mbs c.args.at c.args.field _ _ (c.in_err-read_skip.ensures.reads mbs stands.0))

pub returns-then-branch-clause-reads : goal.returns-then-branch-clause-reads
returns-then-branch-clause-reads g c mbs stands =
    reads_skipped g.S.BinSource.step c.args.shape.now mbs c.args.at c.args.field _ _ _ _ c.if-branch.true (ap (λ (m : Mb). record m { field = c.args.field }) c.without_elements.ensures) (c.in_ok-read_skip.ensures.reads mbs stands.0)

pub returns-clause-reads : goal.returns-clause-reads
returns-clause-reads g c mbs stands =
    reads_unskipped g.S.BinSource.step c.args.shape.now mbs c.args.at c.args.field _ _ _ _ _ c.if-branch.false (c.in_ok-read_skip.ensures.reads mbs stands.0) (c.read_layer.ensures.reads mbs stands)
