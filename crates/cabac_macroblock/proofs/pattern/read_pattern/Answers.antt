use Rattle.std.proofs.Common.{ap, sym, refl, ◌∙◌}
use Rattle.std.specs.Option.{option_map}
use Rattle.binarisation.proofs.Strings.{reads_then, reads_none}
use Rattle.cabac_macroblock.specs.CodedBlockPattern.{luma_bits, chroma_pattern}
use Rattle.cabac_macroblock.proofs.Puts.{unread}
use Rattle.cabac_macroblock.proofs.PatternSteps.{pattern_sent, pattern_unsent}
use Rattle.cabac_macroblock.proofs.pattern.read_pattern.Goals as goal

pub returns-in_err-read_luma-clause-reads : goal.returns-in_err-read_luma-clause-reads
returns-in_err-read_luma-clause-reads g c mbs stands =
    let shape = c.args.shape.now in
    let sent = sym c.sends_pattern.ensures ∙ c.if-sends_pattern.true in
    unread _ _ _ _ _ (ap (option_map _) c.from_residual.ensures)
    (rw (pattern_sent shape mbs c.args.at c.args.mb.now sent) (reads_none g.S.BinSource.step (luma_bits shape mbs c.args.at c.args.mb.now) (chroma_pattern shape mbs c.args.at) _ _ (c.in_err-read_luma.ensures.reads mbs stands)))

pub returns-in_err-read_chroma-clause-reads : goal.returns-in_err-read_chroma-clause-reads
returns-in_err-read_chroma-clause-reads g c mbs stands =
    let shape = c.args.shape.now in
    let sent = sym c.sends_pattern.ensures ∙ c.if-sends_pattern.true in
    unread _ _ _ _ _ (ap (option_map _) c.from_residual-in_err-read_chroma.ensures)
    (rw (pattern_sent shape mbs c.args.at c.args.mb.now sent) (reads_then g.S.BinSource.step (luma_bits shape mbs c.args.at c.args.mb.now) (chroma_pattern shape mbs c.args.at) c.read_luma.new.mb _ _ _ _ (c.in_ok-read_luma.ensures.reads mbs stands) (c.in_err-read_chroma.ensures.reads mbs stands)))

pub returns-in_ok-read_chroma-clause-reads : goal.returns-in_ok-read_chroma-clause-reads
returns-in_ok-read_chroma-clause-reads g c mbs stands =
    let shape = c.args.shape.now in
    let sent = sym c.sends_pattern.ensures ∙ c.if-sends_pattern.true in
    rw (pattern_sent shape mbs c.args.at c.args.mb.now sent) (reads_then g.S.BinSource.step (luma_bits shape mbs c.args.at c.args.mb.now) (chroma_pattern shape mbs c.args.at) c.read_luma.new.mb _ _ _ _ (c.in_ok-read_luma.ensures.reads mbs stands) (c.in_ok-read_chroma.ensures.reads mbs stands))

pub returns-else-sends_pattern-clause-reads : goal.returns-else-sends_pattern-clause-reads
returns-else-sends_pattern-clause-reads g c mbs stands = rw (pattern_unsent c.args.shape.now mbs c.args.at c.args.mb.now (sym c.sends_pattern.ensures ∙ c.if-sends_pattern.false)) (refl, refl)
