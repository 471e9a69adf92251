use Rattle.binarisation.specs.Codes.{ueg_behind, ueg}
use Rattle.binarisation.proofs.Strings.{reads_then, reads_none}
use Rattle.binarisation.proofs.ueg.read_ueg.Goals as goal

pub returns-in_err-count-clause-reads : goal.returns-in_err-count-clause-reads
unfolding ueg
returns-in_err-count-clause-reads g c = rw c.from_residual.ensures
    (reads_none g.S.BinSource.step _ (ueg_behind c.args.prefix c.args.order c.args.most) _ _ c.in_err-count.ensures.reads)

pub returns-clause-reads : goal.returns-clause-reads
unfolding ueg
returns-clause-reads g c =
    reads_then g.S.BinSource.step _ (ueg_behind c.args.prefix c.args.order c.args.most) c.in_ok-count.count _ _ _ _ c.in_ok-count.ensures.reads c.read_ueg_behind.ensures.reads
