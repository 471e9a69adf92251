use Rattle.std.proofs.Common.{◌≡◌, ◌+◌, ◌-◌, ◌*◌, refl, ◌∙◌, arith}
use Rattle.cabac_mb_residual.specs.MacroblockResidual.{luma4}
use Rattle.binarisation.proofs.Each.{reads_next, reads_no_next, reads_end}
use Rattle.cabac_mb_residual.proofs.luma.read_blocks.Goals as goal

pub loop-k-init : goal.loop-k-init
loop-k-init g c = record {
  going = c.requires.going;
  kind = refl;
  reads = λ mbs stands result t h. let start : 4 * c.args.quarter + 0 ≡ 4 * c.args.quarter = omega arith in rw start at h;
}

pub loop-k-preserved : goal.loop-k-preserved
loop-k-preserved g c = record {
  going = c.in_ok-read_luma4.ensures.going;
  kind = c.in_ok-read_luma4.ensures.kind ∙ c.loop-k.invariant.kind;
  reads = λ mbs stands result t h. c.loop-k.invariant.reads mbs stands result t
      (reads_next g.S.BinSource.step (luma4 c.args.shape.now mbs c.args.at) (4 - c.loop-k.k) (4 - (c.loop-k.k + 1)) (4 * c.args.quarter + c.loop-k.k) (4 * c.args.quarter + (c.loop-k.k + 1)) c.loop-k.mb _ result _ _ t (omega arith) (omega arith) (c.in_ok-read_luma4.ensures.reads mbs stands) h);
}

pub returns-in_err-read_luma4-clause-reads : goal.returns-in_err-read_luma4-clause-reads
returns-in_err-read_luma4-clause-reads g c mbs stands =
    c.loop-k.invariant.reads mbs stands _ _ (reads_no_next g.S.BinSource.step (luma4 c.args.shape.now mbs c.args.at) (4 - c.loop-k.k) (4 - (c.loop-k.k + 1)) (4 * c.args.quarter + c.loop-k.k) (4 * c.args.quarter + (c.loop-k.k + 1)) c.loop-k.mb _ _ _ _ (omega arith) (omega arith) c.from_residual.ensures (c.in_err-read_luma4.ensures.reads mbs stands))

pub returns-clause-reads : goal.returns-clause-reads
returns-clause-reads g c mbs stands =
    c.loop-k.invariant.reads mbs stands _ _ (reads_end g.S.BinSource.step (luma4 c.args.shape.now mbs c.args.at) (4 - c.loop-k.k) (4 * c.args.quarter + c.loop-k.k) c.loop-k.mb _ (omega arith))
