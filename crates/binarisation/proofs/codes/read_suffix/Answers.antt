use Rattle.std.proofs.Common.{◌≡◌, ◌+◌, ◌^◌, ◌≤◌, zero-add, arith}
use Rattle.bit_texts.proofs.Numbers.{pow_next, pow_most}
use Rattle.binarisation.proofs.CodeSteps.{suffix-start, reads_suffix_one, reads_suffix_low, reads_suffix_no_low, reads_no_suffix, reads_suffix_end}
use Rattle.binarisation.proofs.codes.read_suffix.Goals as goal

pub loop-k-init : goal.loop-k-init
loop-k-init g c = record {
  going = c.requires.going;
  base = zero-add _;
  reads = λ result t h. rw (suffix-start c.args.order c.args.most) at h;
}

pub loop-k-preserved : goal.loop-k-preserved
loop-k-preserved g c = record {
  going = c.in_ok-one.ensures.over;
  base = let next = pow_next c.loop-k.k in omega (arith, c.loop-k.invariant.base, c.power_of_two-base.ensures);
  reads = λ result t h. c.loop-k.invariant.reads result t
      (reads_suffix_one g.S.BinSource.step c.loop-k.base c.args.order c.loop-k.k c.args.most _ result _ _ t (omega arith) c.power_of_two-base.ensures (rw c.if-not-one.false at c.in_ok-one.ensures.step) h);
}

pub returns-in_err-one-clause-reads : goal.returns-in_err-one-clause-reads
returns-in_err-one-clause-reads g c = rw c.from_residual.ensures
    (c.loop-k.invariant.reads _ _ (reads_no_suffix g.S.BinSource.step c.loop-k.base c.args.order c.loop-k.k c.args.most _ _ (omega arith) c.in_err-one.ensures.step))

pub returns-in_err-low-clause-reads : goal.returns-in_err-low-clause-reads
returns-in_err-low-clause-reads g c = rw c.from_residual-in_err-low.ensures
    (c.loop-k.invariant.reads _ _ (reads_suffix_no_low g.S.BinSource.step c.loop-k.base c.args.order c.loop-k.k c.args.most _ _ _ (omega arith) (rw c.if-not-one.true at c.in_ok-one.ensures.step) c.in_err-low.ensures.reads))

pub returns-then-not-one-clause-reads : goal.returns-then-not-one-clause-reads
returns-then-not-one-clause-reads g c =
    c.loop-k.invariant.reads _ _ (reads_suffix_low g.S.BinSource.step c.loop-k.base c.args.order c.loop-k.k c.args.most c.in_ok-low.low _ _ _ (omega arith) (rw c.if-not-one.true at c.in_ok-one.ensures.step) c.in_ok-low.ensures.reads)

pub returns-then-not-one-clause-small : goal.returns-then-not-one-clause-small
returns-then-not-one-clause-small g c =
    let next = pow_next c.loop-k.k in
    let most : 2 ^ (c.loop-k.k + 1) ≤ 2 ^ (c.args.order + c.args.most) = pow_most (c.loop-k.k + 1) (c.args.order + c.args.most) (omega arith) in
    omega (arith, c.loop-k.invariant.base, c.in_ok-low.ensures.small)

pub returns-clause-reads : goal.returns-clause-reads
returns-clause-reads g c =
    let e : c.args.order + c.args.most ≡ c.loop-k.k = omega arith in
    let end = reads_suffix_end g.S.BinSource.step c.loop-k.base c.loop-k.k c.loop-k.s in
    c.loop-k.invariant.reads _ _ (rw e end)
