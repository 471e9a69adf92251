use Rattle.std.proofs.Common.{◌≡◌, ◌+◌, ◌-◌, ◌*◌, refl, arith}
use Rattle.cabac_mb_residual.specs.MacroblockResidual.{quarter}
use Rattle.cabac_mb_residual.specs.Levels.{so_far}
use Rattle.binarisation.proofs.Each.{writes_next, writes_end}
use Rattle.cabac_mb_residual.proofs.luma.write_luma.Goals as goal

pub loop-quarter-init : goal.loop-quarter-init
loop-quarter-init g c = record {
  going = c.requires.going;
  writes = λ mbs stands value t h. h;
}

pub loop-quarter-preserved : goal.loop-quarter-preserved
loop-quarter-preserved g c =
    record {
      going = c.in_ok-write_quarter.ensures.going;
      writes = λ mbs stands value t h. c.loop-quarter.invariant.writes mbs stands value t
          (writes_next g.S.BinSink.step (quarter c.args.shape.now mbs c.args.at) (4 - c.loop-quarter.quarter) (4 - (c.loop-quarter.quarter + 1)) c.loop-quarter.quarter (c.loop-quarter.quarter + 1) (so_far 16 (64 * c.loop-quarter.quarter) 0 0 c.args.mb.now) (so_far 16 (64 * (c.loop-quarter.quarter + 1)) 0 0 c.args.mb.now) value _ _ t (omega arith) refl (c.in_ok-write_quarter.ensures.writes mbs stands) h);
    }

pub returns-clause-writes : goal.returns-clause-writes
returns-clause-writes g c mbs stands =
    let end : 256 ≡ 64 * c.loop-quarter.quarter = omega arith in
    (c.loop-quarter.invariant.writes mbs stands _ _ (rw end (writes_end g.S.BinSink.step (quarter c.args.shape.now mbs c.args.at) (4 - c.loop-quarter.quarter) c.loop-quarter.quarter (so_far 16 (64 * c.loop-quarter.quarter) 0 0 c.args.mb.now) _ (omega arith))))
