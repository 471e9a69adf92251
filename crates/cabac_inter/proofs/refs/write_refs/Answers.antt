use Rattle.std.proofs.Common.{◌≡◌, ◌+◌, arith}
use Rattle.h264_types.proofs.Lists.{lists_of}
use Rattle.cavlc_inter.specs.InterPrediction.{refs_of}
use Rattle.cabac_inter.specs.InterPrediction.{ref_at, with_refs}
use Rattle.cabac_inter.proofs.Puts.{writes_each, writes_each_end}
use Rattle.cabac_inter.proofs.RefSteps.{first_refs, begins_writing, writes_ref_at, all_refs}
use Rattle.cabac_inter.proofs.refs.write_refs.Goals as goal

pub loop-q-init : goal.loop-q-init
loop-q-init g c = record {
  going = c.requires.going;
  writes = λ mbs base stands begun. begins_writing g.S.BinSink.step c.args.shape.now mbs c.args.at c.args.list c.args.mb.now base _ c.requires.list begun (lists_of c.args.mb.now c.requires.sizes);
}

pub loop-q-preserved : goal.loop-q-preserved
loop-q-preserved g c =
    let shape = c.args.shape.now in
    let mb = c.args.mb.now in
    let list = c.args.list in
    let q = c.loop-q.q in
    record {
      going = c.in_ok-write_ref.ensures.going;
      writes = λ mbs base stands begun value t h.
          c.loop-q.invariant.writes mbs base stands begun value t
          (writes_each (ref_at shape mbs c.args.at list) 4 q (first_refs list q mb base) c.loop-q.s g.S.BinSink.step (first_refs list (q + 1) mb base) value c.write_ref.new.s t c.loop-q-test.true
          (writes_ref_at g.S.BinSink.step shape mbs c.args.at list mb base c.loop-q.s c.requires.list begun (lists_of mb c.requires.sizes) q c.write_ref.new.s c.requires.picture c.loop-q-test.true
          (c.in_ok-write_ref.ensures.writes mbs stands)) h);
    }

pub returns-clause-writes : goal.returns-clause-writes
returns-clause-writes g c mbs base stands begun =
    let mb = c.args.mb.now in
    let list = c.args.list in
    let end : c.loop-q.q ≡ 4 = omega (arith, c.loop-q-test.false, c.loop-q.auto.q-end) in
    c.loop-q.invariant.writes mbs base stands begun _ _
    (writes_each_end (ref_at c.args.shape.now mbs c.args.at list) 4 c.loop-q.q (first_refs list c.loop-q.q mb base) c.loop-q.s g.S.BinSink.step (with_refs list base (refs_of list mb)) end
    (all_refs g.S.BinSink.step c.args.shape.now mbs c.args.at list mb base c.loop-q.s c.requires.list begun (lists_of mb c.requires.sizes) c.loop-q.q end))
