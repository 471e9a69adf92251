use Rattle.std.proofs.Common.{arith}
use Rattle.cabac_inter.proofs.Puts.{unread}
use Rattle.cabac_inter.proofs.RefSteps.{reads_sent, reads_beyond, reads_unsent}
use Rattle.cabac_inter.proofs.refs.read_sent_ref.Goals as goal

pub returns-in_err-index-clause-reads : goal.returns-in_err-index-clause-reads
returns-in_err-index-clause-reads g c mbs stands =
    unread _ _ _ _ _ c.from_residual.ensures
    (reads_unsent c.args.shape.now mbs c.args.at c.args.list c.args.q c.args.mb.now _ _ g.S.BinSource.step _ (c.ctx_inc_ref.ensures.value mbs stands) c.in_err-index.ensures.reads)

pub returns-then-from-greatest_ref-clause-reads : goal.returns-then-from-greatest_ref-clause-reads
returns-then-from-greatest_ref-clause-reads g c mbs stands =
    reads_beyond c.args.shape.now mbs c.args.at c.args.list c.args.q c.args.mb.now _ _ g.S.BinSource.step _ (c.ctx_inc_ref.ensures.value mbs stands) c.in_ok-index.index (omega (arith, c.if-from-greatest_ref.true, c.from.ensures, c.greatest_ref.ensures)) c.in_ok-index.ensures.reads

pub returns-clause-reads : goal.returns-clause-reads
returns-clause-reads g c mbs stands =
    reads_sent c.args.shape.now mbs c.args.at c.args.list c.args.q c.args.mb.now _ _ g.S.BinSource.step _ (c.ctx_inc_ref.ensures.value mbs stands) c.in_ok-index.index (omega (arith, c.if-from-greatest_ref.false, c.from.ensures, c.greatest_ref.ensures)) c.in_ok-index.ensures.reads
