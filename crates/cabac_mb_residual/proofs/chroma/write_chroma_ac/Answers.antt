use Rattle.std.proofs.Common.{◌≡◌, ◌+◌, ◌-◌, ◌*◌, refl, arith}
use Rattle.cabac_mb_residual.specs.MacroblockResidual.{chroma_ac}
use Rattle.cabac_mb_residual.specs.Levels.{so_far}
use Rattle.binarisation.proofs.Each.{writes_next, writes_end}
use Rattle.cabac_mb_residual.proofs.chroma.write_chroma_ac.Goals as goal

pub loop-comp-init : goal.loop-comp-init
loop-comp-init g c = record {
  going = c.requires.going;
  writes = λ mbs stands value t h. h;
}

pub loop-comp-preserved : goal.loop-comp-preserved
loop-comp-preserved g c =
    record {
      going = c.in_ok-write_ac_of.ensures.going;
      writes = λ mbs stands value t h. c.loop-comp.invariant.writes mbs stands value t
          (writes_next g.S.BinSink.step (chroma_ac c.args.shape.now mbs c.args.at) (2 - c.loop-comp.comp) (2 - (c.loop-comp.comp + 1)) c.loop-comp.comp (c.loop-comp.comp + 1) (so_far 16 256 8 (60 * c.loop-comp.comp) c.args.mb.now) (so_far 16 256 8 (60 * (c.loop-comp.comp + 1)) c.args.mb.now) value _ _ t (omega arith) refl (c.in_ok-write_ac_of.ensures.writes mbs stands) h);
    }

pub returns-clause-writes : goal.returns-clause-writes
returns-clause-writes g c mbs stands =
    let end : 120 ≡ 60 * c.loop-comp.comp = omega arith in
    (c.loop-comp.invariant.writes mbs stands _ _ (rw end (writes_end g.S.BinSink.step (chroma_ac c.args.shape.now mbs c.args.at) (2 - c.loop-comp.comp) c.loop-comp.comp (so_far 16 256 8 (60 * c.loop-comp.comp) c.args.mb.now) _ (omega arith))))
