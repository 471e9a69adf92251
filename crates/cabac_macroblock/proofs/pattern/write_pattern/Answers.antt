use Rattle.std.proofs.Common.{sym, refl, ap, ◌∙◌}
use Rattle.binarisation.proofs.Strings.{writes_then, on_ok}
use Rattle.h264_types.specs.declared.macroblock.Mb.{Mb}
use Rattle.cabac_macroblock.specs.CodedBlockPattern.{luma_bits, chroma_pattern}
use Rattle.cabac_macroblock.specs.Stages.{before_pattern, before_chroma_pattern, before_qp_delta}
use Rattle.cabac_macroblock.proofs.PatternSteps.{pattern_sent, pattern_unsent, no_pattern}
use Rattle.cabac_macroblock.proofs.pattern.write_pattern.Goals as goal

pub returns-then-not-sends_pattern-clause-writes : goal.returns-then-not-sends_pattern-clause-writes
returns-then-not-sends_pattern-clause-writes g c mbs t8 stands =
    let mb = c.args.mb.now in
    let unsent = sym c.sends_pattern.ensures ∙ c.if-not-sends_pattern.true in
    rw (pattern_unsent c.args.shape.now mbs c.args.at (before_pattern (record mb { t8 = t8 })) unsent) (ap (λ (m : Mb). record m { t8 = t8 }) (no_pattern mb unsent c.requires.pattern), refl)

pub returns-clause-writes : goal.returns-clause-writes
returns-clause-writes g c mbs t8 stands =
    let shape = c.args.shape.now in
    let mb = record c.args.mb.now { t8 = t8 } in
    let sent = sym c.sends_pattern.ensures ∙ c.if-not-sends_pattern.false in
    on_ok c.write_chroma.result
    (λ written. rw (pattern_sent shape mbs c.args.at (before_pattern mb) sent) (writes_then g.S.BinSink.step (luma_bits shape mbs c.args.at (before_pattern mb)) (chroma_pattern shape mbs c.args.at) (before_chroma_pattern mb) (before_qp_delta mb) _ _ _
    (c.in_ok-write_luma.ensures.writes mbs t8 stands) written)) (c.write_chroma.ensures.writes mbs t8 stands)
