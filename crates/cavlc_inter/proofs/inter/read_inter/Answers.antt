use Rattle.std.proofs.Common.{None, ap, arith}
use Rattle.std.specs.Option.{option_map}
use Rattle.bit_texts.proofs.Reading.{Reads-None}
use Rattle.cavlc_inter.proofs.InterChain.{after_subs, after_refs0, after_refs1, no_subs, no_refs0, no_refs1, no_mvds0, inter_is_read, last_is_read, made_by_rows}
use Rattle.cavlc_inter.proofs.inter.read_inter.Goals as goal

pub returns-in_err-read_subs_if-clause-reads : goal.returns-in_err-read_subs_if-clause-reads
returns-in_err-read_subs_if-clause-reads g c =
    Reads-None _ _ _ _ _ (ap (option_map _) c.from_residual.ensures)
    (inter_is_read c.args.kind c.args.ref0 c.args.active c.args.mb.now c.greatest_ref-greatest0.result c.greatest_ref-greatest1.result c.greatest_ref-greatest0.ensures c.greatest_ref-greatest1.ensures (g.B.BitSource.left c.args.bits.now) None (g.B.BitSource.left c.read_subs_if.new.bits)
    (no_subs c.args.kind c.greatest_ref-greatest0.result c.greatest_ref-greatest1.result (g.B.BitSource.left c.args.bits.now) (g.B.BitSource.left c.read_subs_if.new.bits) c.in_err-read_subs_if.ensures.reads))

pub returns-in_err-read_refs-clause-reads : goal.returns-in_err-read_refs-clause-reads
returns-in_err-read_refs-clause-reads g c =
    Reads-None _ _ _ _ _ (ap (option_map _) c.from_residual-in_err-read_refs.ensures)
    (inter_is_read c.args.kind c.args.ref0 c.args.active c.args.mb.now c.greatest_ref-greatest0.result c.greatest_ref-greatest1.result c.greatest_ref-greatest0.ensures c.greatest_ref-greatest1.ensures (g.B.BitSource.left c.args.bits.now) None (g.B.BitSource.left c.read_refs.new.bits)
    (after_subs c.args.kind c.greatest_ref-greatest0.result c.greatest_ref-greatest1.result c.read_subs_if.new.subs (g.B.BitSource.left c.args.bits.now) (g.B.BitSource.left c.read_subs_if.new.bits) c.in_ok-read_subs_if.ensures.reads None (g.B.BitSource.left c.read_refs.new.bits)
    (no_refs0 c.args.kind c.greatest_ref-greatest0.result c.greatest_ref-greatest1.result c.read_subs_if.new.subs (g.B.BitSource.left c.read_subs_if.new.bits) (g.B.BitSource.left c.read_refs.new.bits) c.in_err-read_refs.ensures.reads)))

pub returns-in_err-read_refs-2-clause-reads : goal.returns-in_err-read_refs-2-clause-reads
returns-in_err-read_refs-2-clause-reads g c =
    Reads-None _ _ _ _ _ (ap (option_map _) c.from_residual-in_err-read_refs-2.ensures)
    (inter_is_read c.args.kind c.args.ref0 c.args.active c.args.mb.now c.greatest_ref-greatest0.result c.greatest_ref-greatest1.result c.greatest_ref-greatest0.ensures c.greatest_ref-greatest1.ensures (g.B.BitSource.left c.args.bits.now) None (g.B.BitSource.left c.read_refs-2.new.bits)
    (after_subs c.args.kind c.greatest_ref-greatest0.result c.greatest_ref-greatest1.result c.read_subs_if.new.subs (g.B.BitSource.left c.args.bits.now) (g.B.BitSource.left c.read_subs_if.new.bits) c.in_ok-read_subs_if.ensures.reads None (g.B.BitSource.left c.read_refs-2.new.bits)
    (after_refs0 c.args.kind c.greatest_ref-greatest0.result c.greatest_ref-greatest1.result c.read_subs_if.new.subs (omega (arith, c.greatest_ref-greatest0.type_inv)) c.read_refs.new.refs (g.B.BitSource.left c.read_subs_if.new.bits) (g.B.BitSource.left c.read_refs.new.bits) c.in_ok-read_refs.ensures.reads None (g.B.BitSource.left c.read_refs-2.new.bits)
    (no_refs1 c.args.kind c.greatest_ref-greatest1.result c.read_subs_if.new.subs (g.B.BitSource.left c.read_refs.new.bits) (g.B.BitSource.left c.read_refs-2.new.bits) c.in_err-read_refs-2.ensures.reads))))

pub returns-in_err-read_mvds-clause-reads : goal.returns-in_err-read_mvds-clause-reads
returns-in_err-read_mvds-clause-reads g c =
    Reads-None _ _ _ _ _ (ap (option_map _) c.from_residual-in_err-read_mvds.ensures)
    (inter_is_read c.args.kind c.args.ref0 c.args.active c.args.mb.now c.greatest_ref-greatest0.result c.greatest_ref-greatest1.result c.greatest_ref-greatest0.ensures c.greatest_ref-greatest1.ensures (g.B.BitSource.left c.args.bits.now) None (g.B.BitSource.left c.read_mvds.new.bits)
    (after_subs c.args.kind c.greatest_ref-greatest0.result c.greatest_ref-greatest1.result c.read_subs_if.new.subs (g.B.BitSource.left c.args.bits.now) (g.B.BitSource.left c.read_subs_if.new.bits) c.in_ok-read_subs_if.ensures.reads None (g.B.BitSource.left c.read_mvds.new.bits)
    (after_refs0 c.args.kind c.greatest_ref-greatest0.result c.greatest_ref-greatest1.result c.read_subs_if.new.subs (omega (arith, c.greatest_ref-greatest0.type_inv)) c.read_refs.new.refs (g.B.BitSource.left c.read_subs_if.new.bits) (g.B.BitSource.left c.read_refs.new.bits) c.in_ok-read_refs.ensures.reads None (g.B.BitSource.left c.read_mvds.new.bits)
    (after_refs1 c.args.kind c.greatest_ref-greatest1.result c.read_subs_if.new.subs (omega (arith, c.greatest_ref-greatest1.type_inv)) c.read_refs-2.new.refs (g.B.BitSource.left c.read_refs.new.bits) (g.B.BitSource.left c.read_refs-2.new.bits) c.in_ok-read_refs-2.ensures.reads None (g.B.BitSource.left c.read_mvds.new.bits)
    (no_mvds0 c.args.kind c.read_subs_if.new.subs (g.B.BitSource.left c.read_refs-2.new.bits) (g.B.BitSource.left c.read_mvds.new.bits) c.in_err-read_mvds.ensures.reads)))))

pub returns-clause-reads : goal.returns-clause-reads
returns-clause-reads g c =
    let old = c.args.mb.now in
    last_is_read c.args.kind c.args.ref0 c.args.active old _ c.greatest_ref-greatest0.result c.greatest_ref-greatest1.result c.greatest_ref-greatest0.ensures c.greatest_ref-greatest1.ensures (omega (arith, c.greatest_ref-greatest0.type_inv)) (omega (arith, c.greatest_ref-greatest1.type_inv))
    c.read_subs_if.new.subs c.read_refs.new.refs c.read_refs-2.new.refs c.read_mvds.new.vectors c.read_mvds-2.new.vectors (g.B.BitSource.left c.args.bits.now) (g.B.BitSource.left c.read_subs_if.new.bits) (g.B.BitSource.left c.read_refs.new.bits) (g.B.BitSource.left c.read_refs-2.new.bits) (g.B.BitSource.left c.read_mvds.new.bits)
    c.in_ok-read_subs_if.ensures.reads c.in_ok-read_refs.ensures.reads c.in_ok-read_refs-2.ensures.reads c.in_ok-read_mvds.ensures.reads
    (made_by_rows old c.read_subs_if.new.subs c.read_refs.new.refs c.read_refs-2.new.refs c.read_mvds.new.vectors c.read_mvds-2.new.vectors c.has_sizes.ensures.refs.0 c.has_sizes.ensures.mvd.0)
    c.read_mvds-2.result (g.B.BitSource.left c.read_mvds-2.new.bits) c.read_mvds-2.ensures.reads
