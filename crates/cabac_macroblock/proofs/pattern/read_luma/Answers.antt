use Rattle.std.proofs.Common.{ap, refl, arith}
use Rattle.std.specs.Option.{option_map}
use Rattle.cabac_macroblock.specs.CodedBlockPattern.{luma_bit}
use Rattle.cabac_macroblock.proofs.Puts.{unread, reads_each, reads_each_none, reads_each_end}
use Rattle.cabac_macroblock.proofs.PatternSteps.{luma_bits-each, same_luma_part}
use Rattle.cabac_macroblock.proofs.pattern.read_luma.Goals as goal

pub loop-quarter-init : goal.loop-quarter-init
loop-quarter-init g c = record {
  going = c.requires.going;
  bits = omega (arith, c.requires.none);
  others = refl;
  reads = λ mbs stands result t h. rw (luma_bits-each c.args.shape.now mbs c.args.at c.args.mb.now) h;
}

pub returns-in_err-read_luma_bit-clause-reads : goal.returns-in_err-read_luma_bit-clause-reads
returns-in_err-read_luma_bit-clause-reads g c mbs stands =
    unread _ _ _ _ _ (ap (option_map _) c.from_residual.ensures)
    (c.loop-quarter.invariant.reads mbs stands _ _ (reads_each_none g.S.BinSource.step (luma_bit c.args.shape.now mbs c.args.at) 4 c.loop-quarter.quarter c.loop-quarter.mb _ _ c.loop-quarter-test.true (c.in_err-read_luma_bit.ensures.reads mbs stands)))

pub loop-quarter-preserved : goal.loop-quarter-preserved
loop-quarter-preserved g c = record {
  going = c.in_ok-read_luma_bit.ensures.going;
  bits = c.in_ok-read_luma_bit.ensures.bits;
  others = same_luma_part c.args.mb.now c.loop-quarter.mb c.read_luma_bit.new.mb c.loop-quarter.invariant.others c.in_ok-read_luma_bit.ensures.others;
  reads = λ mbs stands result t h.
      c.loop-quarter.invariant.reads mbs stands result t
      (reads_each g.S.BinSource.step (luma_bit c.args.shape.now mbs c.args.at) 4 c.loop-quarter.quarter c.loop-quarter.mb c.read_luma_bit.new.mb result _ _ t c.loop-quarter-test.true (c.in_ok-read_luma_bit.ensures.reads mbs stands) h);
}

pub returns-clause-reads : goal.returns-clause-reads
returns-clause-reads g c mbs stands =
    c.loop-quarter.invariant.reads mbs stands _ _ (reads_each_end g.S.BinSource.step (luma_bit c.args.shape.now mbs c.args.at) 4 c.loop-quarter.quarter c.loop-quarter.mb _ (omega (arith, c.loop-quarter-test.false, c.loop-quarter.auto.quarter-end)))
