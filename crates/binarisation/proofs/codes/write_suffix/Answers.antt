use Rattle.std.proofs.Common.{zero-add, arith}
use Rattle.bit_texts.proofs.Numbers.{pow_next}
use Rattle.binarisation.proofs.CodeSteps.{suffix-start, writes_suffix_one, writes_suffix_low}
use Rattle.binarisation.proofs.Strings.{on_ok}
use Rattle.binarisation.proofs.codes.write_suffix.Goals as goal

pub loop-k-init : goal.loop-k-init
loop-k-init g c = record {
  going = c.requires.going;
  base = zero-add _;
  most = omega arith;
  writes = λ value t h. rw (suffix-start c.args.order c.args.most) at h;
}

pub loop-k-preserved : goal.loop-k-preserved
loop-k-preserved g c = record {
  going = c.in_ok-bypass-2.ensures.going;
  base = let next = pow_next c.loop-k.k in omega (arith, c.loop-k.invariant.base, c.power_of_two-base.ensures);
  most = omega arith;
  writes = λ value t h. c.loop-k.invariant.writes value t
      (writes_suffix_one g.S.BinSink.step c.loop-k.base c.args.order c.loop-k.k c.args.most _ value _ _ t (omega arith) c.power_of_two-base.ensures c.in_ok-bypass-2.ensures.step h);
}

pub returns-then-value-base-clause-writes : goal.returns-then-value-base-clause-writes
returns-then-value-base-clause-writes g c = on_ok c.write_low_bits.result
    (λ written. c.loop-k.invariant.writes _ _ (writes_suffix_low g.S.BinSink.step c.loop-k.base c.args.order c.loop-k.k c.args.most c.args.value _ _ _ (omega arith) c.loop-k.invariant.most c.in_ok-bypass.ensures.step written)) c.write_low_bits.ensures.writes
