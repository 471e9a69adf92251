use Rattle.std.proofs.Common.{sym, refl, ◌∙◌}
use Rattle.cabac_macroblock.proofs.CodingSteps.{elements_pcm, elements_intra, elements_inter}
use Rattle.cabac_macroblock.proofs.macroblock.read_elements.Goals as goal

pub returns-then-is_i_pcm-clause-reads : goal.returns-then-is_i_pcm-clause-reads
returns-then-is_i_pcm-clause-reads g c mbs stands = rw (elements_pcm c.args.shape.now mbs c.args.at c.args.mb.now (sym c.is_i_pcm.ensures ∙ c.if-is_i_pcm.true)) (refl, refl)

pub returns-then-is_intra-clause-reads : goal.returns-then-is_intra-clause-reads
returns-then-is_intra-clause-reads g c mbs stands =
    rw (elements_intra c.args.shape.now mbs c.args.at c.args.mb.now (sym c.is_i_pcm.ensures ∙ c.if-is_i_pcm.false) (sym c.is_intra.ensures ∙ c.if-is_intra.true)) (c.read_intra_elements.ensures.reads mbs stands)

pub returns-else-is_intra-clause-reads : goal.returns-else-is_intra-clause-reads
returns-else-is_intra-clause-reads g c mbs stands =
    rw (elements_inter c.args.shape.now mbs c.args.at c.args.mb.now (sym c.is_i_pcm.ensures ∙ c.if-is_i_pcm.false) (sym c.is_intra.ensures ∙ c.if-is_intra.false)) (c.read_inter_elements.ensures.reads mbs stands)
