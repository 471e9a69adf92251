use Rattle.cabac_macroblock.proofs.Puts.{unread}
use Rattle.cabac_macroblock.proofs.TypeSteps.{reads_type, reads_no_type}
use Rattle.cabac_macroblock.proofs.mb_type.read_type.Goals as goal

pub returns-in_err-number-clause-reads : goal.returns-in_err-number-clause-reads
returns-in_err-number-clause-reads g c mbs stands =
    unread _ _ _ _ _ c.from_residual.ensures (reads_no_type g.S.BinSource.step c.args.shape.now mbs c.args.at c.args.mb.now.field _ _ (c.in_err-number.ensures.reads mbs stands))

pub returns-clause-reads : goal.returns-clause-reads
returns-clause-reads g c mbs stands =
    reads_type g.S.BinSource.step c.args.shape.now mbs c.args.at c.args.mb.now.field c.in_ok-number.number c.kind_of.result _ _ c.kind_of.ensures (c.in_ok-number.ensures.reads mbs stands)
