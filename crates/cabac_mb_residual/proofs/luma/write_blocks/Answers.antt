use Rattle.std.proofs.Common.{◌≡◌, ◌+◌, ◌-◌, ◌*◌, refl, arith}
use Rattle.cabac_mb_residual.specs.MacroblockResidual.{luma4}
use Rattle.cabac_mb_residual.specs.Levels.{so_far}
use Rattle.binarisation.proofs.Each.{writes_next, writes_end}
use Rattle.cabac_mb_residual.proofs.luma.write_blocks.Goals as goal

pub loop-k-init : goal.loop-k-init
loop-k-init g c = record {
  going = c.requires.going;
  writes = λ mbs stands value t h. let start : 4 * c.args.quarter + 0 ≡ 4 * c.args.quarter = omega arith in
      let same : 16 * (4 * c.args.quarter + 0) ≡ 64 * c.args.quarter = omega arith in
      rw (same, start) at h;
}

pub loop-k-preserved : goal.loop-k-preserved
loop-k-preserved g c =
    let next : 4 * c.args.quarter + (c.loop-k.k + 1) ≡ 4 * c.args.quarter + c.loop-k.k + 1 = omega arith in
    record {
      going = c.in_ok-write_luma4.ensures.going;
      writes = λ mbs stands value t h. c.loop-k.invariant.writes mbs stands value t
          (writes_next g.S.BinSink.step (luma4 c.args.shape.now mbs c.args.at) (4 - c.loop-k.k) (4 - (c.loop-k.k + 1)) (4 * c.args.quarter + c.loop-k.k) ((4 * c.args.quarter + c.loop-k.k) + 1) (so_far 16 (16 * (4 * c.args.quarter + c.loop-k.k)) 0 0 c.args.mb.now) (so_far 16 (16 * (4 * c.args.quarter + c.loop-k.k + 1)) 0 0 c.args.mb.now) value _ _ t (omega arith) refl (c.in_ok-write_luma4.ensures.writes mbs stands) (rw next at h));
    }

pub returns-clause-writes : goal.returns-clause-writes
returns-clause-writes g c mbs stands =
    let end : 64 * (c.args.quarter + 1) ≡ 16 * (4 * c.args.quarter + c.loop-k.k) = omega arith in
    (c.loop-k.invariant.writes mbs stands _ _ (rw end (writes_end g.S.BinSink.step (luma4 c.args.shape.now mbs c.args.at) (4 - c.loop-k.k) (4 * c.args.quarter + c.loop-k.k) (so_far 16 (16 * (4 * c.args.quarter + c.loop-k.k)) 0 0 c.args.mb.now) _ (omega arith))))
