use Rattle.std.proofs.Common.{◌≡◌, ◌<◌, ◌≤◌, ◌+◌, sym, refl, ◌∙◌, arith}
use Rattle.h264_types.proofs.KindLaws.{mode_count-most}
use Rattle.cabac_macroblock.specs.IntraPrediction.{mode_at}
use Rattle.cabac_macroblock.specs.Stages.{before_modes, before_chroma_mode}
use Rattle.cabac_macroblock.proofs.Puts.{writes_each, writes_each_end}
use Rattle.cabac_macroblock.proofs.PredictionSteps.{begins_writing, with_first, writes_mode_at, all_first, no_first, modes_unsent}
use Rattle.h264_types.specs.Sent.{mode_count}
use Rattle.cabac_macroblock.proofs.prediction.write_modes.Goals as goal

pub loop-k-init : goal.loop-k-init
loop-k-init g c = record {
  going = c.requires.going;
  most = omega arith;
  writes = begins_writing g.S.BinSink.step c.args.mb.now _ (sym c.is_i_nxn.ensures ∙ c.if-is_i_nxn.true);
}

pub loop-k-preserved : goal.loop-k-preserved
loop-k-preserved g c =
    let mb = c.args.mb.now in
    let inside : c.loop-k.k < mode_count mb.t8 = omega (arith, c.loop-k-test.true, c.mode_count-k-end.ensures) in
    record {
      going = c.in_ok-write_any_mode.ensures.going;
      most = omega (arith, inside);
      writes = λ value t h.
          c.loop-k.invariant.writes value t
          (writes_each g.S.BinSink.step mode_at (mode_count mb.t8) c.loop-k.k (with_first c.loop-k.k mb) (with_first (c.loop-k.k + 1) mb) value _ _ t inside
          (writes_mode_at g.S.BinSink.step c.loop-k.k mb _ _ c.requires.sizes.modes (omega (arith, inside, mode_count-most mb.t8)) c.in_ok-write_any_mode.ensures.writes) h);
    }

pub returns-after-loop-k-clause-writes : goal.returns-after-loop-k-clause-writes
returns-after-loop-k-clause-writes g c =
    let mb = c.args.mb.now in
    let end : c.loop-k.k ≡ mode_count mb.t8 = omega (arith, c.loop-k-test.false, c.mode_count-k-end.ensures, c.loop-k.invariant.most) in
    let most : c.loop-k.k ≤ 16 = omega (arith, end, mode_count-most mb.t8) in
    c.loop-k.invariant.writes _ _ (writes_each_end g.S.BinSink.step mode_at (mode_count mb.t8) c.loop-k.k (with_first c.loop-k.k mb) (before_chroma_mode mb) _ end
    (all_first mb c.loop-k.k most c.requires.sizes.modes (sym c.is_i_nxn.ensures ∙ c.if-is_i_nxn.true) end c.requires.modes))

pub returns-else-is_i_nxn-clause-writes : goal.returns-else-is_i_nxn-clause-writes
returns-else-is_i_nxn-clause-writes g c =
    let mb = c.args.mb.now in
    let unsent = sym c.is_i_nxn.ensures ∙ c.if-is_i_nxn.false in
    rw (modes_unsent (before_modes mb) unsent) (no_first mb c.requires.sizes.modes unsent c.requires.modes, refl)
