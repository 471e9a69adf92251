use Rattle.std.proofs.Common.{[], get_or, ap, sym, ◌∙◌, arith}
use Rattle.cabac_inter.proofs.RefSteps.{reads_later, reads_no_ref, reads_ref}
use Rattle.cabac_inter.proofs.refs.read_ref.Goals as goal

pub returns-then-first-q-clause-reads : goal.returns-then-first-q-clause-reads
returns-then-first-q-clause-reads g c mbs stands =
    let mb = c.args.mb.now in
    reads_later c.args.shape.now mbs c.args.at c.args.list c.args.q mb c.args.s.now c.args.s.now g.S.BinSource.step c.first_quarter-first.result c.first_quarter-first.ensures.value _ c.if-first-q.true
    (ap (λ x. get_or (get_or mb.refs x []) c.from-then-first-q.result 0) c.from.ensures ∙ ap (λ k. get_or (get_or mb.refs c.args.list []) k 0) c.from-then-first-q.ensures)

pub returns-then-not-has_ref-clause-reads : goal.returns-then-not-has_ref-clause-reads
returns-then-not-has_ref-clause-reads g c mbs stands =
    reads_no_ref c.args.shape.now mbs c.args.at c.args.list c.args.q c.args.mb.now c.args.s.now c.args.s.now g.S.BinSource.step c.first_quarter-first.result c.first_quarter-first.ensures.value (omega (arith, c.if-first-q.false))
    (sym c.has_ref.ensures ∙ c.if-not-has_ref.true)

pub returns-clause-reads : goal.returns-clause-reads
returns-clause-reads g c mbs stands =
    reads_ref c.args.shape.now mbs c.args.at c.args.list c.args.q c.args.mb.now c.args.s.now _ g.S.BinSource.step c.first_quarter-first.result c.first_quarter-first.ensures.value _ (omega (arith, c.if-first-q.false))
    (sym c.has_ref.ensures ∙ c.if-not-has_ref.false) (c.read_sent_ref.ensures.reads mbs stands)
