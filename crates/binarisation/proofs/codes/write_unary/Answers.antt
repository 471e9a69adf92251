use Rattle.std.proofs.Common.{◌≡◌, arith}
use Rattle.binarisation.proofs.CodeSteps.{ones_all, writes_one, writes_zero, writes_most}
use Rattle.binarisation.proofs.codes.write_unary.Goals as goal

pub loop-place-init : goal.loop-place-init
loop-place-init g c = record {
  going = c.requires.going;
  writes = λ value t h. rw (ones_all c.args.contexts.now c.args.most) at h;
}

pub loop-place-preserved : goal.loop-place-preserved
loop-place-preserved g c = record {
  going = c.in_ok-bin.ensures.going;
  writes = λ value t h. c.loop-place.invariant.writes value t
      (writes_one g.S.BinSink.step c.args.contexts.now c.loop-place.place c.args.most _ value _ _ t (omega arith) (omega arith) c.in_ok-bin.ensures.step h);
}

pub returns-in_ok-bin-2-clause-writes : goal.returns-in_ok-bin-2-clause-writes
returns-in_ok-bin-2-clause-writes g c =
    let e : c.loop-place.place ≡ c.args.count = omega arith in
    c.loop-place.invariant.writes _ _ (rw e (writes_zero g.S.BinSink.step c.args.contexts.now c.args.count c.args.most _ _ _ (omega arith) (omega arith) c.in_ok-bin-2.ensures.step))

pub returns-else-count-most-clause-writes : goal.returns-else-count-most-clause-writes
returns-else-count-most-clause-writes g c =
    let e : c.loop-place.place ≡ c.args.most = omega arith in
    let f : c.args.count ≡ c.args.most = omega arith in
    c.loop-place.invariant.writes _ _ (rw (f, e) (writes_most g.S.BinSink.step c.args.contexts.now c.args.most c.loop-place.s))
