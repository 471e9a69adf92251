use Rattle.std.proofs.Common.{◌+◌, ◌-◌, refl, ◌∙◌, arith}
use Rattle.cabac_mb_residual.specs.MacroblockResidual.{chroma_block}
use Rattle.binarisation.proofs.Each.{reads_next, reads_no_next, reads_end}
use Rattle.cabac_mb_residual.proofs.Lists.{chroma_ac-none, chroma_ac-blocks, is_chroma, no_chroma}
use Rattle.cabac_mb_residual.proofs.chroma.read_ac_of.Goals as goal

pub returns-then-coded_pattern-ne2-clause-reads : goal.returns-then-coded_pattern-ne2-clause-reads
returns-then-coded_pattern-ne2-clause-reads g c mbs stands =
    let none = no_chroma c.args.mb.now c.coded_pattern.result 2 c.coded_pattern.ensures c.if-coded_pattern-ne2.true in
    rw (chroma_ac-none c.args.shape.now mbs c.args.at c.args.comp c.args.mb.now none) (refl, refl)

pub loop-n-init : goal.loop-n-init
loop-n-init g c = record {
  going = c.requires.going;
  kind = refl;
  reads = λ mbs stands result t h. h;
}

pub loop-n-preserved : goal.loop-n-preserved
loop-n-preserved g c = record {
  going = c.in_ok-read_block.ensures.going;
  kind = c.in_ok-read_block.ensures.kind ∙ c.loop-n.invariant.kind;
  reads = λ mbs stands result t h. c.loop-n.invariant.reads mbs stands result t
      (reads_next g.S.BinSource.step (chroma_block c.args.shape.now mbs c.args.at c.args.comp) (4 - c.loop-n.n) (4 - (c.loop-n.n + 1)) c.loop-n.n (c.loop-n.n + 1) c.loop-n.mb _ result _ _ t (omega arith) (omega arith) (c.in_ok-read_block.ensures.reads mbs stands) h);
}

pub returns-in_err-read_block-clause-reads : goal.returns-in_err-read_block-clause-reads
returns-in_err-read_block-clause-reads g c mbs stands =
    let some = is_chroma c.args.mb.now c.coded_pattern.result 2 c.coded_pattern.ensures c.if-coded_pattern-ne2.false in
    rw (chroma_ac-blocks c.args.shape.now mbs c.args.at c.args.comp c.args.mb.now some)
    (c.loop-n.invariant.reads mbs stands _ _ (reads_no_next g.S.BinSource.step (chroma_block c.args.shape.now mbs c.args.at c.args.comp) (4 - c.loop-n.n) (4 - (c.loop-n.n + 1)) c.loop-n.n (c.loop-n.n + 1) c.loop-n.mb _ _ _ _ (omega arith) (omega arith) c.from_residual.ensures (c.in_err-read_block.ensures.reads mbs stands)))

pub returns-clause-reads : goal.returns-clause-reads
returns-clause-reads g c mbs stands =
    let some = is_chroma c.args.mb.now c.coded_pattern.result 2 c.coded_pattern.ensures c.if-coded_pattern-ne2.false in
    rw (chroma_ac-blocks c.args.shape.now mbs c.args.at c.args.comp c.args.mb.now some)
    (c.loop-n.invariant.reads mbs stands _ _ (reads_end g.S.BinSource.step (chroma_block c.args.shape.now mbs c.args.at c.args.comp) (4 - c.loop-n.n) c.loop-n.n c.loop-n.mb _ (omega arith)))
