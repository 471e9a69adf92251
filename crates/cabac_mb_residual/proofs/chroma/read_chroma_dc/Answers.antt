use Rattle.std.proofs.Common.{◌+◌, ◌-◌, refl, ◌∙◌, arith}
use Rattle.cabac_mb_residual.specs.MacroblockResidual.{chroma_dc}
use Rattle.binarisation.proofs.Each.{reads_next, reads_no_next, reads_end}
use Rattle.cabac_mb_residual.proofs.chroma.read_chroma_dc.Goals as goal

pub loop-comp-init : goal.loop-comp-init
loop-comp-init g c = record {
  going = c.requires.going;
  kind = refl;
  reads = λ mbs stands result t h. h;
}

pub loop-comp-preserved : goal.loop-comp-preserved
loop-comp-preserved g c = record {
  going = c.in_ok-read_dc_of.ensures.going;
  kind = c.in_ok-read_dc_of.ensures.kind ∙ c.loop-comp.invariant.kind;
  reads = λ mbs stands result t h. c.loop-comp.invariant.reads mbs stands result t
      (reads_next g.S.BinSource.step (chroma_dc c.args.shape.now mbs c.args.at) (2 - c.loop-comp.comp) (2 - (c.loop-comp.comp + 1)) c.loop-comp.comp (c.loop-comp.comp + 1) c.loop-comp.mb _ result _ _ t (omega arith) (omega arith) (c.in_ok-read_dc_of.ensures.reads mbs stands) h);
}

pub returns-in_err-read_dc_of-clause-reads : goal.returns-in_err-read_dc_of-clause-reads
returns-in_err-read_dc_of-clause-reads g c mbs stands =
    c.loop-comp.invariant.reads mbs stands _ _ (reads_no_next g.S.BinSource.step (chroma_dc c.args.shape.now mbs c.args.at) (2 - c.loop-comp.comp) (2 - (c.loop-comp.comp + 1)) c.loop-comp.comp (c.loop-comp.comp + 1) c.loop-comp.mb _ _ _ _ (omega arith) (omega arith) c.from_residual.ensures (c.in_err-read_dc_of.ensures.reads mbs stands))

pub returns-clause-reads : goal.returns-clause-reads
returns-clause-reads g c mbs stands =
    c.loop-comp.invariant.reads mbs stands _ _ (reads_end g.S.BinSource.step (chroma_dc c.args.shape.now mbs c.args.at) (2 - c.loop-comp.comp) c.loop-comp.comp c.loop-comp.mb _ (omega arith))
