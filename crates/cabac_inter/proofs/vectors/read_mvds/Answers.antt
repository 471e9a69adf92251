use Rattle.std.proofs.Common.{[], get_or, slice_set, ap, refl, arith}
use Rattle.std.specs.Option.{option_map}
use Rattle.h264_types.specs.declared.macroblock.Mb.{Mb}
use Rattle.cabac_inter.specs.InterPrediction.{mvd_at}
use Rattle.cabac_inter.proofs.Puts.{unread, reads_each, reads_each_none, reads_each_end}
use Rattle.cabac_inter.proofs.VectorSteps.{begins_mvds, reads_mvd_at, reads_no_mvd_at}
use Rattle.cabac_inter.proofs.vectors.read_mvds.Goals as goal

pub loop-n-init : goal.loop-n-init
loop-n-init g c = record {
  going = c.requires.going;
  others = refl;
  reads = λ mbs stands. begins_mvds g.S.BinSource.step c.args.shape.now mbs c.args.at c.args.list c.args.mb.now _;
}

pub returns-in_err-vector-clause-reads : goal.returns-in_err-vector-clause-reads
returns-in_err-vector-clause-reads g c mbs stands =
    let shape = c.args.shape.now in
    unread _ _ _ _ _ (ap (option_map _) c.from_residual.ensures)
    (c.loop-n.invariant.reads mbs stands _ _ (reads_each_none (mvd_at shape mbs c.args.at c.args.list) 16 c.loop-n.n c.loop-n.mb c.loop-n.s g.S.BinSource.step c.read_mvd.new.s c.loop-n-test.true
    (reads_no_mvd_at shape mbs c.args.at c.args.list c.loop-n.n c.loop-n.mb c.loop-n.s c.read_mvd.new.s g.S.BinSource.step (c.in_err-vector.ensures.reads mbs stands))))

pub loop-n-preserved : goal.loop-n-preserved
loop-n-preserved g c =
    let shape = c.args.shape.now in
    let mb = c.loop-n.mb in
    let mvd = slice_set mb.mvd c.from.result (slice_set (get_or mb.mvd c.from.result []) c.from-in-loop-n.result c.in_ok-vector.vector) in
    record {
      going = c.in_ok-vector.ensures.going;
      others = ap (λ (m : Mb). record m { mvd = mvd }) c.loop-n.invariant.others;
      reads = λ mbs stands result t h.
          c.loop-n.invariant.reads mbs stands result t
          (reads_each (mvd_at shape mbs c.args.at c.args.list) 16 c.loop-n.n mb c.loop-n.s g.S.BinSource.step (record mb { mvd = mvd }) result c.read_mvd.new.s t c.loop-n-test.true
          (reads_mvd_at shape mbs c.args.at c.args.list c.loop-n.n mb c.loop-n.s c.read_mvd.new.s g.S.BinSource.step c.in_ok-vector.vector (record mb { mvd = mvd })
          (rw (c.from.ensures, c.from-in-loop-n.ensures) refl) (c.in_ok-vector.ensures.reads mbs stands)) h);
    }

pub returns-clause-reads : goal.returns-clause-reads
returns-clause-reads g c mbs stands =
    c.loop-n.invariant.reads mbs stands _ _ (reads_each_end (mvd_at c.args.shape.now mbs c.args.at c.args.list) 16 c.loop-n.n c.loop-n.mb c.loop-n.s g.S.BinSource.step (omega (arith, c.loop-n-test.false, c.loop-n.auto.n-end)))
