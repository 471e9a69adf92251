use Rattle.std.proofs.Common.{[], get_or, ap, sym, refl, ◌∙◌, arith}
use Rattle.cabac_inter.proofs.VectorSteps.{reads_later, reads_none_of, reads_mvd}
use Rattle.cabac_inter.proofs.vectors.read_mvd.Goals as goal

pub returns-then-first-n-clause-reads : goal.returns-then-first-n-clause-reads
returns-then-first-n-clause-reads g c mbs stands =
    let mb = c.args.mb.now in
    reads_later c.args.shape.now mbs c.args.at c.args.list c.args.n mb c.args.s.now c.args.s.now g.S.BinSource.step c.first_block-first.result c.first_block-first.ensures.value _ c.if-first-n.true
    (ap (λ x. get_or (get_or mb.mvd x []) c.from-then-first-n.result []) c.from.ensures ∙ ap (λ k. get_or (get_or mb.mvd c.args.list []) k []) c.from-then-first-n.ensures)

pub returns-then-not-uses-clause-reads : goal.returns-then-not-uses-clause-reads
returns-then-not-uses-clause-reads g c mbs stands =
    reads_none_of c.args.shape.now mbs c.args.at c.args.list c.args.n c.args.mb.now c.args.s.now c.args.s.now g.S.BinSource.step c.first_block-first.result c.first_block-first.ensures.value _ refl (omega (arith, c.if-first-n.false))
    (sym c.uses.ensures ∙ c.if-not-uses.true)

pub returns-clause-reads : goal.returns-clause-reads
returns-clause-reads g c mbs stands =
    reads_mvd c.args.shape.now mbs c.args.at c.args.list c.args.n c.args.mb.now c.args.s.now _ g.S.BinSource.step c.first_block-first.result c.first_block-first.ensures.value _ (omega (arith, c.if-first-n.false))
    (sym c.uses.ensures ∙ c.if-not-uses.false) (c.read_sent_mvd.ensures.reads mbs stands)
