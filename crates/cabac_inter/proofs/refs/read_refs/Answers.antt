use Rattle.std.proofs.Common.{[], get_or, slice_set, ap, refl, arith}
use Rattle.std.specs.Option.{option_map}
use Rattle.h264_types.specs.declared.macroblock.Mb.{Mb}
use Rattle.cabac_inter.specs.InterPrediction.{ref_at}
use Rattle.cabac_inter.proofs.Puts.{unread, reads_each, reads_each_none, reads_each_end}
use Rattle.cabac_inter.proofs.RefSteps.{begins_refs, reads_ref_at, reads_no_ref_at}
use Rattle.cabac_inter.proofs.refs.read_refs.Goals as goal

pub loop-q-init : goal.loop-q-init
loop-q-init g c = record {
  going = c.requires.going;
  others = refl;
  reads = λ mbs stands. begins_refs g.S.BinSource.step c.args.shape.now mbs c.args.at c.args.list c.args.mb.now _;
}

pub returns-in_err-index-clause-reads : goal.returns-in_err-index-clause-reads
returns-in_err-index-clause-reads g c mbs stands =
    let shape = c.args.shape.now in
    unread _ _ _ _ _ (ap (option_map _) c.from_residual.ensures)
    (c.loop-q.invariant.reads mbs stands _ _ (reads_each_none (ref_at shape mbs c.args.at c.args.list) 4 c.loop-q.q c.loop-q.mb c.loop-q.s g.S.BinSource.step c.read_ref.new.s c.loop-q-test.true
    (reads_no_ref_at shape mbs c.args.at c.args.list c.loop-q.q c.loop-q.mb c.loop-q.s c.read_ref.new.s g.S.BinSource.step (c.in_err-index.ensures.reads mbs stands))))

pub loop-q-preserved : goal.loop-q-preserved
loop-q-preserved g c =
    let shape = c.args.shape.now in
    let mb = c.loop-q.mb in
    let refs = slice_set mb.refs c.from.result (slice_set (get_or mb.refs c.from.result []) c.from-in-loop-q.result c.in_ok-index.index) in
    record {
      going = c.in_ok-index.ensures.going;
      others = ap (λ (m : Mb). record m { refs = refs }) c.loop-q.invariant.others;
      reads = λ mbs stands result t h.
          c.loop-q.invariant.reads mbs stands result t
          (reads_each (ref_at shape mbs c.args.at c.args.list) 4 c.loop-q.q mb c.loop-q.s g.S.BinSource.step (record mb { refs = refs }) result c.read_ref.new.s t c.loop-q-test.true
          (reads_ref_at shape mbs c.args.at c.args.list c.loop-q.q mb c.loop-q.s c.read_ref.new.s g.S.BinSource.step c.in_ok-index.index (record mb { refs = refs })
          (rw (c.from.ensures, c.from-in-loop-q.ensures) refl) (c.in_ok-index.ensures.reads mbs stands)) h);
    }

pub returns-clause-reads : goal.returns-clause-reads
returns-clause-reads g c mbs stands =
    c.loop-q.invariant.reads mbs stands _ _ (reads_each_end (ref_at c.args.shape.now mbs c.args.at c.args.list) 4 c.loop-q.q c.loop-q.mb c.loop-q.s g.S.BinSource.step (omega (arith, c.loop-q-test.false, c.loop-q.auto.q-end)))
