use Rattle.binarisation.proofs.Strings.{on_ok}
use Rattle.cabac_residual.proofs.Blocks.{writes_coded}
use Rattle.cabac_residual.proofs.block.write_coded.Goals as goal

pub returns-clause-writes : goal.returns-clause-writes
returns-clause-writes g c = on_ok c.write_marked.result
    (λ written. writes_coded g.S.BinSink.step c.args.cat c.args.field c.args.levels.now _ _ _ _ c.requires.behind c.in_ok-write_marks.ensures.writes written) c.write_marked.ensures.writes
