use Rattle.std.proofs.Common.{◌≡◌, ◌+◌, sym, refl, ◌∙◌, arith}
use Rattle.cabac_inter.specs.InterPrediction.{sub_at}
use Rattle.cabac_inter.specs.Stages.{typed, with_subs}
use Rattle.cabac_inter.proofs.Puts.{writes_each, writes_each_end}
use Rattle.cabac_inter.proofs.SubSteps.{subs_sent, subs_unsent, first_subs, writes_sub_at, all_subs, no_subs}
use Rattle.cabac_inter.proofs.subs.write_subs.Goals as goal

pub returns-then-not-has_sub_macroblocks-clause-writes : goal.returns-then-not-has_sub_macroblocks-clause-writes
returns-then-not-has_sub_macroblocks-clause-writes g c =
    let mb = c.args.mb.now in
    let unsent = sym c.has_sub_macroblocks.ensures ∙ c.if-not-has_sub_macroblocks.true in
    rw (subs_unsent (typed mb) unsent) (no_subs mb c.requires.sizes unsent c.requires.subs, refl)

pub loop-q-init : goal.loop-q-init
loop-q-init g c = record {
  going = c.requires.going;
  writes = λ value t h. rw (subs_sent (typed c.args.mb.now) (sym c.has_sub_macroblocks.ensures ∙ c.if-not-has_sub_macroblocks.false)) h;
}

pub loop-q-preserved : goal.loop-q-preserved
loop-q-preserved g c =
    let mb = c.args.mb.now in
    let q = c.loop-q.q in
    record {
      going = c.in_ok-write_sub.ensures.going;
      writes = λ value t h.
          c.loop-q.invariant.writes value t
          (writes_each sub_at 4 q (first_subs q mb) c.loop-q.s g.S.BinSink.step (first_subs (q + 1) mb) value c.write_sub.new.s t c.loop-q-test.true
          (writes_sub_at g.S.BinSink.step q mb c.loop-q.s c.write_sub.new.s c.requires.sizes c.loop-q-test.true c.in_ok-write_sub.ensures.writes) h);
    }

pub returns-clause-writes : goal.returns-clause-writes
returns-clause-writes g c =
    let mb = c.args.mb.now in
    let end : c.loop-q.q ≡ 4 = omega (arith, c.loop-q-test.false, c.loop-q.auto.q-end) in
    c.loop-q.invariant.writes _ _ (writes_each_end sub_at 4 c.loop-q.q (first_subs c.loop-q.q mb) c.loop-q.s g.S.BinSink.step (with_subs mb) end (all_subs c.loop-q.q mb c.requires.sizes end))
