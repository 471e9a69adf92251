use Rattle.std.proofs.Common.{◌≡◌, arith}
use Rattle.binarisation.proofs.CodeSteps.{ones_all, reads_one, reads_zero, reads_no_one, reads_most}
use Rattle.binarisation.proofs.codes.read_unary.Goals as goal

pub loop-count-init : goal.loop-count-init
loop-count-init g c = record {
  going = c.requires.going;
  reads = λ result t h. rw (ones_all c.args.contexts.now c.args.most) at h;
}

pub loop-count-preserved : goal.loop-count-preserved
loop-count-preserved g c = record {
  going = c.in_ok-bin.ensures.over;
  reads = λ result t h. c.loop-count.invariant.reads result t
      (reads_one g.S.BinSource.step c.args.contexts.now c.loop-count.count c.args.most _ result _ _ t (omega arith) (omega arith) (rw c.if-not-branch.false at c.in_ok-bin.ensures.step) h);
}

pub returns-in_err-bin-clause-reads : goal.returns-in_err-bin-clause-reads
returns-in_err-bin-clause-reads g c = rw c.from_residual.ensures
    (c.loop-count.invariant.reads _ _ (reads_no_one g.S.BinSource.step c.args.contexts.now c.loop-count.count c.args.most _ _ _ (omega arith) (omega arith) c.in_err-bin.ensures.step))

pub returns-then-not-branch-clause-reads : goal.returns-then-not-branch-clause-reads
returns-then-not-branch-clause-reads g c =
    c.loop-count.invariant.reads _ _ (reads_zero g.S.BinSource.step c.args.contexts.now c.loop-count.count c.args.most _ _ _ (omega arith) (omega arith) (rw c.if-not-branch.true at c.in_ok-bin.ensures.step))

pub returns-clause-reads : goal.returns-clause-reads
returns-clause-reads g c =
    let e : c.loop-count.count ≡ c.args.most = omega arith in
    c.loop-count.invariant.reads _ _ (rw e (reads_most g.S.BinSource.step c.args.contexts.now c.args.most c.loop-count.s))
