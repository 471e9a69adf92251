use Rattle.std.proofs.Common.{◌≡◌, ◌+◌, ap, refl, ◌∙◌, arith}
use Rattle.cabac_macroblock.specs.CodedBlockPattern.{luma_bit}
use Rattle.cabac_macroblock.specs.Stages.{before_chroma_pattern}
use Rattle.cabac_macroblock.proofs.Puts.{writes_each, writes_each_end}
use Rattle.cabac_macroblock.proofs.PatternSteps.{begins_luma, with_quarters, writes_luma_bit, ends_luma, luma_any_size}
use Rattle.cabac_macroblock.proofs.pattern.write_luma.Goals as goal

pub loop-quarter-init : goal.loop-quarter-init
loop-quarter-init g c = record {
  going = c.requires.going;
  writes = λ mbs t8 stands. begins_luma g.S.BinSink.step c.args.shape.now mbs c.args.at (record c.args.mb.now { t8 = t8 }) _;
}

pub loop-quarter-preserved : goal.loop-quarter-preserved
loop-quarter-preserved g c =
    let quarter = c.loop-quarter.quarter in
    record {
      going = c.in_ok-write_pattern_luma.ensures.going;
      writes = λ mbs t8 stands value t h.
          let mb = record c.args.mb.now { t8 = t8 } in
          c.loop-quarter.invariant.writes mbs t8 stands value t
          (writes_each g.S.BinSink.step (luma_bit c.args.shape.now mbs c.args.at) 4 quarter (with_quarters quarter mb) (with_quarters (quarter + 1) mb) value _ _ t c.loop-quarter-test.true
          (writes_luma_bit g.S.BinSink.step c.args.shape.now mbs c.args.at quarter mb _ _ _ _ c.requires.picture c.loop-quarter-test.true c.requires.sent
          (c.ctx_inc_luma-inc.ensures.value mbs stands ∙ luma_any_size c.args.shape.now mbs c.args.at quarter c.args.mb.now t8 c.requires.picture c.loop-quarter-test.true) refl c.in_ok-write_pattern_luma.ensures.writes) h);
    }

pub returns-clause-writes : goal.returns-clause-writes
returns-clause-writes g c mbs t8 stands =
    let mb = record c.args.mb.now { t8 = t8 } in
    let end : c.loop-quarter.quarter ≡ 4 = omega (arith, c.loop-quarter-test.false, c.loop-quarter.auto.quarter-end) in
    c.loop-quarter.invariant.writes mbs t8 stands _ _ (writes_each_end g.S.BinSink.step (luma_bit c.args.shape.now mbs c.args.at) 4 c.loop-quarter.quarter (with_quarters c.loop-quarter.quarter mb) (before_chroma_pattern mb) _ end
    (ap (λ n. with_quarters n mb) end ∙ ends_luma mb c.requires.luma))
