use Rattle.std.proofs.Common.{sym, ◌∙◌, arith}
use Rattle.binarisation.proofs.Strings.{on_ok}
use Rattle.h264_types.proofs.Lists.{lists_of}
use Rattle.cabac_inter.proofs.VectorSteps.{writes_later, writes_none, writes_mvd, is_vector}
use Rattle.cabac_inter.proofs.vectors.write_mvd.Goals.{then-first_block-n-via-then-first_block-n, then-first_block-n-via-else-first_block-n+then-not-uses}
use Rattle.cabac_inter.proofs.vectors.write_mvd.Goals as goal

pub returns-then-first_block-n-clause-writes : goal.returns-then-first_block-n-clause-writes
returns-then-first_block-n-clause-writes g c mbs stands =
    let first = c.first_block in
    elim c.then-first_block-n.branch [
      | then-first_block-n-via-then-first_block-n w ↦
          writes_later g.S.BinSink.step c.args.shape.now mbs c.args.at c.args.list c.args.n c.args.mb.now c.args.s.now first.result first.ensures.value c.requires.sent c.requires.n w.if-first_block-n.true
      | then-first_block-n-via-else-first_block-n+then-not-uses w ↦
          writes_none g.S.BinSink.step c.args.shape.now mbs c.args.at c.args.list c.args.n c.args.mb.now c.args.s.now first.result first.ensures.value c.requires.sent c.requires.n
          ((lists_of c.args.mb.now c.requires.sizes).vectors c.args.list c.args.n c.requires.list c.requires.n)
          (omega (arith, w.if-first_block-n.false)) (sym w.uses.ensures ∙ w.if-not-uses.true)
    ]

pub write_sent_mvd-requires-clause-vector : goal.write_sent_mvd-requires-clause-vector
write_sent_mvd-requires-clause-vector g c =
    let mb = c.args.mb.now in
    is_vector c.args.shape.now mb c.args.list c.args.n ((lists_of mb c.requires.sizes).vectors c.args.list c.args.n c.requires.list c.requires.n) c.requires.sent c.requires.n (sym c.uses.ensures ∙ c.if-not-uses.false)

pub returns-clause-writes : goal.returns-clause-writes
returns-clause-writes g c mbs stands = on_ok c.write_sent_mvd.result
    (λ written. writes_mvd g.S.BinSink.step c.args.shape.now mbs c.args.at c.args.list c.args.n c.args.mb.now c.args.s.now c.first_block.result c.first_block.ensures.value c.requires.sent c.requires.n
    c.write_sent_mvd.new.s (omega (arith, c.if-first_block-n.false)) (sym c.uses.ensures ∙ c.if-not-uses.false) written) (c.write_sent_mvd.ensures.writes mbs stands)
