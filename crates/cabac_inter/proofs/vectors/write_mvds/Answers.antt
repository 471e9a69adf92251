use Rattle.std.proofs.Common.{◌≡◌, ◌+◌, arith}
use Rattle.h264_types.proofs.Lists.{lists_of}
use Rattle.cavlc_inter.specs.InterPrediction.{mvds_of}
use Rattle.cabac_inter.specs.InterPrediction.{mvd_at, with_mvds}
use Rattle.cabac_inter.proofs.Puts.{writes_each, writes_each_end}
use Rattle.cabac_inter.proofs.VectorSteps.{first_mvds, begins_writing, writes_mvd_at, all_mvds}
use Rattle.cabac_inter.proofs.vectors.write_mvds.Goals as goal

pub loop-n-init : goal.loop-n-init
loop-n-init g c = record {
  going = c.requires.going;
  writes = λ mbs base stands begun. begins_writing g.S.BinSink.step c.args.shape.now mbs c.args.at c.args.list c.args.mb.now base _ c.requires.list begun (lists_of c.args.mb.now c.requires.sizes);
}

pub loop-n-preserved : goal.loop-n-preserved
loop-n-preserved g c =
    let shape = c.args.shape.now in
    let mb = c.args.mb.now in
    let list = c.args.list in
    let n = c.loop-n.n in
    record {
      going = c.in_ok-write_mvd.ensures.going;
      writes = λ mbs base stands begun value t h.
          c.loop-n.invariant.writes mbs base stands begun value t
          (writes_each (mvd_at shape mbs c.args.at list) 16 n (first_mvds list n mb base) c.loop-n.s g.S.BinSink.step (first_mvds list (n + 1) mb base) value c.write_mvd.new.s t c.loop-n-test.true
          (writes_mvd_at g.S.BinSink.step shape mbs c.args.at list mb base c.loop-n.s c.requires.list begun (lists_of mb c.requires.sizes) n c.write_mvd.new.s c.requires.picture c.loop-n-test.true
          (c.in_ok-write_mvd.ensures.writes mbs stands)) h);
    }

pub returns-clause-writes : goal.returns-clause-writes
returns-clause-writes g c mbs base stands begun =
    let mb = c.args.mb.now in
    let list = c.args.list in
    let end : c.loop-n.n ≡ 16 = omega (arith, c.loop-n-test.false, c.loop-n.auto.n-end) in
    c.loop-n.invariant.writes mbs base stands begun _ _
    (writes_each_end (mvd_at c.args.shape.now mbs c.args.at list) 16 c.loop-n.n (first_mvds list c.loop-n.n mb base) c.loop-n.s g.S.BinSink.step (with_mvds list base (mvds_of list mb)) end
    (all_mvds g.S.BinSink.step c.args.shape.now mbs c.args.at list mb base c.loop-n.s c.requires.list begun (lists_of mb c.requires.sizes) c.loop-n.n end))
