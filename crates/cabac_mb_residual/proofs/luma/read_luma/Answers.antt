use Rattle.std.proofs.Common.{◌+◌, ◌-◌, refl, ◌∙◌, arith}
use Rattle.cabac_mb_residual.specs.MacroblockResidual.{quarter}
use Rattle.binarisation.proofs.Each.{reads_next, reads_no_next, reads_end}
use Rattle.cabac_mb_residual.proofs.luma.read_luma.Goals as goal

pub loop-quarter-init : goal.loop-quarter-init
loop-quarter-init g c = record {
  going = c.requires.going;
  kind = refl;
  reads = λ mbs stands result t h. h;
}

pub loop-quarter-preserved : goal.loop-quarter-preserved
loop-quarter-preserved g c = record {
  going = c.in_ok-read_quarter.ensures.going;
  kind = c.in_ok-read_quarter.ensures.kind ∙ c.loop-quarter.invariant.kind;
  reads = λ mbs stands result t h. c.loop-quarter.invariant.reads mbs stands result t
      (reads_next g.S.BinSource.step (quarter c.args.shape.now mbs c.args.at) (4 - c.loop-quarter.quarter) (4 - (c.loop-quarter.quarter + 1)) c.loop-quarter.quarter (c.loop-quarter.quarter + 1) c.loop-quarter.mb _ result _ _ t (omega arith) (omega arith) (c.in_ok-read_quarter.ensures.reads mbs stands) h);
}

pub returns-in_err-read_quarter-clause-reads : goal.returns-in_err-read_quarter-clause-reads
returns-in_err-read_quarter-clause-reads g c mbs stands =
    c.loop-quarter.invariant.reads mbs stands _ _ (reads_no_next g.S.BinSource.step (quarter c.args.shape.now mbs c.args.at) (4 - c.loop-quarter.quarter) (4 - (c.loop-quarter.quarter + 1)) c.loop-quarter.quarter (c.loop-quarter.quarter + 1) c.loop-quarter.mb _ _ _ _ (omega arith) (omega arith) c.from_residual.ensures (c.in_err-read_quarter.ensures.reads mbs stands))

pub returns-clause-reads : goal.returns-clause-reads
returns-clause-reads g c mbs stands =
    c.loop-quarter.invariant.reads mbs stands _ _ (reads_end g.S.BinSource.step (quarter c.args.shape.now mbs c.args.at) (4 - c.loop-quarter.quarter) c.loop-quarter.quarter c.loop-quarter.mb _ (omega arith))
