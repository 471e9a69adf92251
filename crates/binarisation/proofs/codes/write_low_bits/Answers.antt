use Rattle.std.proofs.Common.{◌≡◌, arith}
use Rattle.binarisation.proofs.CodeSteps.{writes_low_bit, writes_low_start, writes_low_end}
use Rattle.binarisation.proofs.codes.write_low_bits.Goals as goal

pub loop-i-preserved : goal.loop-i-preserved
loop-i-preserved g c = record {
  going = c.in_ok-bypass.ensures.going;
  writes = λ value t h. c.loop-i.invariant.writes value t (writes_low_bit g.S.BinSink.step c.args.value c.loop-i.i c.args.n value _ _ t (omega arith) c.in_ok-bypass.ensures.step h);
}

pub returns-clause-writes : goal.returns-clause-writes
returns-clause-writes g c =
    let e : c.loop-i.i ≡ c.args.n = omega arith in
    writes_low_start g.S.BinSink.step c.args.value c.args.n _ _ c.requires.value (c.loop-i.invariant.writes _ _ (rw e (writes_low_end g.S.BinSink.step c.args.value c.args.n c.loop-i.s)))
