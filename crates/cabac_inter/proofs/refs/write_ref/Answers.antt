use Rattle.std.proofs.Common.{[], get_or, ap, subst, sym, ◌∙◌, arith}
use Rattle.binarisation.specs.BinString.{Writes}
use Rattle.binarisation.specs.Elements as syntax
use Rattle.binarisation.proofs.Strings.{on_ok}
use Rattle.cabac_inter.proofs.RefSteps.{writes_later, writes_no_ref, writes_ref}
use Rattle.cabac_inter.proofs.refs.write_ref.Goals.{then-first_quarter-q-via-then-first_quarter-q, then-first_quarter-q-via-else-first_quarter-q+then-not-has_ref}
use Rattle.cabac_inter.proofs.refs.write_ref.Goals as goal

pub returns-then-first_quarter-q-clause-writes : goal.returns-then-first_quarter-q-clause-writes
returns-then-first_quarter-q-clause-writes g c mbs stands =
    let first = c.first_quarter in
    elim c.then-first_quarter-q.branch [
      | then-first_quarter-q-via-then-first_quarter-q w ↦
          writes_later g.S.BinSink.step c.args.shape.now mbs c.args.at c.args.list c.args.q c.args.mb.now c.args.s.now first.result first.ensures.value c.requires.sent c.requires.q w.if-first_quarter-q.true
      | then-first_quarter-q-via-else-first_quarter-q+then-not-has_ref w ↦
          writes_no_ref g.S.BinSink.step c.args.shape.now mbs c.args.at c.args.list c.args.q c.args.mb.now c.args.s.now first.result first.ensures.value c.requires.sent c.requires.q
          (omega (arith, w.if-first_quarter-q.false)) (sym w.has_ref.ensures ∙ w.if-not-has_ref.true)
    ]

pub returns-clause-writes : goal.returns-clause-writes
returns-clause-writes g c mbs stands =
    let mb = c.args.mb.now in
    let same = ap (λ x. get_or (get_or mb.refs x []) c.from-2.result 0) c.from.ensures ∙ ap (λ k. get_or (get_or mb.refs c.args.list []) k 0) c.from-2.ensures in
    on_ok c.write_ref_idx.result
    (λ written. writes_ref g.S.BinSink.step c.args.shape.now mbs c.args.at c.args.list c.args.q mb c.args.s.now c.first_quarter.result c.first_quarter.ensures.value c.requires.sent c.requires.q
    c.ctx_inc_ref-inc.result c.write_ref_idx.new.s (c.ctx_inc_ref-inc.ensures.value mbs stands) (omega (arith, c.if-first_quarter-q.false)) (sym c.has_ref.ensures ∙ c.if-not-has_ref.false)
    (subst (λ i. Writes g.S.BinSink.step (syntax.ref_idx c.ctx_inc_ref-inc.result) i c.args.s.now c.write_ref_idx.new.s) same written)) c.write_ref_idx.ensures.writes
