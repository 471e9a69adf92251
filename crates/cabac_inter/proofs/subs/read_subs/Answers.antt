use Rattle.std.proofs.Common.{slice_set, ap, sym, refl, ◌∙◌, arith}
use Rattle.std.specs.Option.{option_map}
use Rattle.h264_types.specs.declared.macroblock.Mb.{Mb}
use Rattle.cabac_inter.specs.InterPrediction.{sub_at}
use Rattle.cabac_inter.proofs.Puts.{unread, reads_each, reads_each_none, reads_each_end}
use Rattle.cabac_inter.proofs.SubSteps.{subs_sent, subs_unsent, reads_sub_at, reads_no_sub_at}
use Rattle.cabac_inter.proofs.subs.read_subs.Goals as goal

pub returns-then-not-has_sub_macroblocks-clause-reads : goal.returns-then-not-has_sub_macroblocks-clause-reads
returns-then-not-has_sub_macroblocks-clause-reads g c = rw (subs_unsent c.args.mb.now (sym c.has_sub_macroblocks.ensures ∙ c.if-not-has_sub_macroblocks.true)) (refl, refl)

pub loop-q-init : goal.loop-q-init
loop-q-init g c = record {
  going = c.requires.going;
  others = refl;
  reads = λ result t h. rw (subs_sent c.args.mb.now (sym c.has_sub_macroblocks.ensures ∙ c.if-not-has_sub_macroblocks.false)) h;
}

pub returns-in_err-mb-clause-reads : goal.returns-in_err-mb-clause-reads
returns-in_err-mb-clause-reads g c =
    unread _ _ _ _ _ (ap (option_map _) c.from_residual.ensures)
    (c.loop-q.invariant.reads _ _ (reads_each_none sub_at 4 c.loop-q.q c.loop-q.mb c.loop-q.s g.S.BinSource.step c.read_sub.new.s c.loop-q-test.true
    (reads_no_sub_at c.loop-q.q c.loop-q.mb c.loop-q.s c.read_sub.new.s g.S.BinSource.step c.in_err-mb.ensures.reads)))

pub loop-q-preserved : goal.loop-q-preserved
loop-q-preserved g c =
    let mb = c.loop-q.mb in
    let subs = slice_set mb.subs c.loop-q.q c.in_ok-mb.field-0 in
    record {
      going = c.in_ok-mb.ensures.going;
      others = ap (λ (m : Mb). record m { subs = subs }) c.loop-q.invariant.others;
      reads = λ result t h.
          c.loop-q.invariant.reads result t
          (reads_each sub_at 4 c.loop-q.q mb c.loop-q.s g.S.BinSource.step (record mb { subs = subs }) result c.read_sub.new.s t c.loop-q-test.true
          (reads_sub_at c.loop-q.q mb c.loop-q.s c.read_sub.new.s g.S.BinSource.step c.in_ok-mb.field-0 c.in_ok-mb.ensures.reads) h);
    }

pub returns-clause-reads : goal.returns-clause-reads
returns-clause-reads g c =
    c.loop-q.invariant.reads _ _ (reads_each_end sub_at 4 c.loop-q.q c.loop-q.mb c.loop-q.s g.S.BinSource.step (omega (arith, c.loop-q-test.false, c.loop-q.auto.q-end)))
