use Rattle.std.proofs.Common.{false, ◌∙◌}
use Rattle.binarisation.proofs.Strings.{on_ok}
use Rattle.cabac_contexts.specs.declared.term.Term.TheVariants.{Chroma, ChromaAc}
use Rattle.cabac_macroblock.proofs.PatternSteps.{writes_chroma}
use Rattle.cabac_macroblock.proofs.WholeIncrements.{same_whole}
use Rattle.cabac_macroblock.proofs.pattern.write_chroma.Goals as goal

pub returns-clause-writes : goal.returns-clause-writes
returns-clause-writes g c mbs t8 stands =
    let shape = c.args.shape.now in
    let mb = c.args.mb.now in
    let sized = record mb { t8 = t8 } in
    on_ok c.write_pattern_chroma.result
    (λ written. writes_chroma g.S.BinSink.step shape mbs c.args.at sized _ _ _ _ c.requires.picture
    (c.ctx_inc_chroma-first.ensures.value mbs stands ∙ same_whole false Chroma shape mbs c.args.at mb.field mb sized c.requires.picture)
    (c.ctx_inc_chroma-second.ensures.value mbs stands ∙ same_whole false ChromaAc shape mbs c.args.at mb.field mb sized c.requires.picture) written) c.write_pattern_chroma.ensures.writes
