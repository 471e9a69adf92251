use Rattle.std.proofs.Common.{ap}
use Rattle.std.specs.Option.{option_map}
use Rattle.cabac_inter.proofs.Puts.{unread}
use Rattle.cabac_inter.proofs.Whole.{reads_all, stops_at_subs, stops_at_refs, stops_at_more_refs, stops_at_mvds}
use Rattle.cabac_inter.proofs.inter.read_inter_prediction.Goals as goal

pub returns-in_err-read_subs-clause-reads : goal.returns-in_err-read_subs-clause-reads
returns-in_err-read_subs-clause-reads g c mbs stands =
    unread _ _ _ _ _ (ap (option_map _) c.from_residual.ensures)
    (stops_at_subs g.S.BinSource.step c.args.shape.now mbs c.args.at c.args.mb.now _ _ c.in_err-read_subs.ensures.reads)

pub returns-in_err-read_refs-clause-reads : goal.returns-in_err-read_refs-clause-reads
returns-in_err-read_refs-clause-reads g c mbs stands =
    unread _ _ _ _ _ (ap (option_map _) c.from_residual-in_err-read_refs.ensures)
    (stops_at_refs g.S.BinSource.step c.args.shape.now mbs c.args.at c.args.mb.now _ _ c.read_subs.new.mb _ c.in_ok-read_subs.ensures.reads (c.in_err-read_refs.ensures.reads mbs stands))

pub returns-in_err-read_refs-2-clause-reads : goal.returns-in_err-read_refs-2-clause-reads
returns-in_err-read_refs-2-clause-reads g c mbs stands =
    unread _ _ _ _ _ (ap (option_map _) c.from_residual-in_err-read_refs-2.ensures)
    (stops_at_more_refs g.S.BinSource.step c.args.shape.now mbs c.args.at c.args.mb.now _ _ c.read_subs.new.mb _ c.in_ok-read_subs.ensures.reads c.read_refs.new.mb _ (c.in_ok-read_refs.ensures.reads mbs stands)
    (c.in_err-read_refs-2.ensures.reads mbs stands))

pub returns-in_err-read_mvds-clause-reads : goal.returns-in_err-read_mvds-clause-reads
returns-in_err-read_mvds-clause-reads g c mbs stands =
    unread _ _ _ _ _ (ap (option_map _) c.from_residual-in_err-read_mvds.ensures)
    (stops_at_mvds g.S.BinSource.step c.args.shape.now mbs c.args.at c.args.mb.now _ _ c.read_subs.new.mb _ c.in_ok-read_subs.ensures.reads c.read_refs.new.mb _ (c.in_ok-read_refs.ensures.reads mbs stands)
    c.read_refs-2.new.mb _ (c.in_ok-read_refs-2.ensures.reads mbs stands) (c.in_err-read_mvds.ensures.reads mbs stands))

pub returns-clause-reads : goal.returns-clause-reads
returns-clause-reads g c mbs stands =
    reads_all g.S.BinSource.step c.args.shape.now mbs c.args.at c.args.mb.now _ _ c.read_subs.new.mb _ c.in_ok-read_subs.ensures.reads c.read_refs.new.mb _ (c.in_ok-read_refs.ensures.reads mbs stands)
    c.read_refs-2.new.mb _ (c.in_ok-read_refs-2.ensures.reads mbs stands) c.read_mvds.new.mb _ _ (c.in_ok-read_mvds.ensures.reads mbs stands) (c.read_mvds-2.ensures.reads mbs stands)
