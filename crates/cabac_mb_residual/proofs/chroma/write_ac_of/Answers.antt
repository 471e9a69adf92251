use Rattle.std.proofs.Common.{◌≡◌, ◌+◌, ◌-◌, ◌*◌, refl, arith}
use Rattle.cabac_mb_residual.specs.MacroblockResidual.{chroma_block}
use Rattle.cabac_mb_residual.specs.Levels.{so_far}
use Rattle.binarisation.proofs.Each.{writes_next, writes_end}
use Rattle.cabac_mb_residual.proofs.Lists.{is_chroma, no_chroma}
use Rattle.cabac_mb_residual.proofs.Written.{writes_chroma_blocks, writes_no_chroma_ac}
use Rattle.cabac_mb_residual.proofs.chroma.write_ac_of.Goals as goal

pub returns-then-coded_pattern-ne2-clause-writes : goal.returns-then-coded_pattern-ne2-clause-writes
returns-then-coded_pattern-ne2-clause-writes g c mbs stands =
    let none = no_chroma c.args.mb.now c.coded_pattern.result 2 c.coded_pattern.ensures c.if-coded_pattern-ne2.true in
    writes_no_chroma_ac g.S.BinSink.step c.args.shape.now mbs c.args.at c.args.comp c.args.mb.now _ c.requires.sizes c.requires.residual c.requires.comp none

pub loop-n-init : goal.loop-n-init
loop-n-init g c = record {
  going = c.requires.going;
  writes = λ mbs stands value t h. let same : 60 * c.args.comp + 15 * 0 ≡ 60 * c.args.comp = omega arith in rw same at h;
}

pub loop-n-preserved : goal.loop-n-preserved
loop-n-preserved g c =
    record {
      going = c.in_ok-write_block.ensures.going;
      writes = λ mbs stands value t h. c.loop-n.invariant.writes mbs stands value t
          (writes_next g.S.BinSink.step (chroma_block c.args.shape.now mbs c.args.at c.args.comp) (4 - c.loop-n.n) (4 - (c.loop-n.n + 1)) c.loop-n.n (c.loop-n.n + 1) (so_far 16 256 8 (60 * c.args.comp + 15 * c.loop-n.n) c.args.mb.now) (so_far 16 256 8 (60 * c.args.comp + 15 * (c.loop-n.n + 1)) c.args.mb.now) value _ _ t (omega arith) refl (c.in_ok-write_block.ensures.writes mbs stands) h);
    }

pub returns-clause-writes : goal.returns-clause-writes
returns-clause-writes g c mbs stands =
    let end : 60 * (c.args.comp + 1) ≡ 60 * c.args.comp + 15 * c.loop-n.n = omega arith in
    let some = is_chroma c.args.mb.now c.coded_pattern.result 2 c.coded_pattern.ensures c.if-coded_pattern-ne2.false in
    writes_chroma_blocks g.S.BinSink.step c.args.shape.now mbs c.args.at c.args.comp c.args.mb.now _ _ some (c.loop-n.invariant.writes mbs stands _ _ (rw end (writes_end g.S.BinSink.step (chroma_block c.args.shape.now mbs c.args.at c.args.comp) (4 - c.loop-n.n) c.loop-n.n (so_far 16 256 8 (60 * c.args.comp + 15 * c.loop-n.n) c.args.mb.now) _ (omega arith))))
