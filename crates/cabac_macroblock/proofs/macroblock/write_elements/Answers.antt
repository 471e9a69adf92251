use Rattle.std.proofs.Common.{sym, refl, ◌∙◌}
use Rattle.binarisation.proofs.Strings.{on_ok}
use Rattle.cabac_macroblock.specs.MacroblockLayer.{intra_elements, inter_elements, without_samples}
use Rattle.cabac_macroblock.specs.MbType.{of_kind}
use Rattle.cabac_macroblock.proofs.CodingSteps.{elements_pcm, elements_intra, elements_inter}
use Rattle.cabac_macroblock.proofs.TypeSteps.{writes_same}
use Rattle.cabac_macroblock.proofs.Absent.{no_samples, pcm_alone}
use Rattle.cabac_macroblock.proofs.macroblock.write_elements.Goals as goal

pub returns-then-is_i_pcm-clause-writes : goal.returns-then-is_i_pcm-clause-writes
returns-then-is_i_pcm-clause-writes g c mbs stands =
    let mb = c.args.mb.now in
    let pcm = sym c.is_i_pcm.ensures ∙ c.if-is_i_pcm.true in
    rw (elements_pcm c.args.shape.now mbs c.args.at (of_kind mb.field mb.kind) pcm) (pcm_alone c.args.shape.now mb pcm c.requires.ref0 c.requires.valid, refl)

pub returns-then-is_intra-clause-writes : goal.returns-then-is_intra-clause-writes
returns-then-is_intra-clause-writes g c mbs stands =
    let shape = c.args.shape.now in
    let mb = c.args.mb.now in
    let other = sym c.is_i_pcm.ensures ∙ c.if-is_i_pcm.false in
    let intra = sym c.is_intra.ensures ∙ c.if-is_intra.true in
    on_ok c.write_intra_elements.result
    (λ written. rw (elements_intra shape mbs c.args.at (of_kind mb.field mb.kind) other intra)
    (writes_same g.S.BinSink.step (intra_elements shape mbs c.args.at) (of_kind mb.field mb.kind) (of_kind mb.field mb.kind) mb (without_samples mb) _ _ refl (no_samples shape mb other c.requires.valid) written)) (c.write_intra_elements.ensures.writes mbs stands)

pub returns-else-is_intra-clause-writes : goal.returns-else-is_intra-clause-writes
returns-else-is_intra-clause-writes g c mbs stands =
    let shape = c.args.shape.now in
    let mb = c.args.mb.now in
    let other = sym c.is_i_pcm.ensures ∙ c.if-is_i_pcm.false in
    let inter = sym c.is_intra.ensures ∙ c.if-is_intra.false in
    on_ok c.write_inter_elements.result
    (λ written. rw (elements_inter shape mbs c.args.at (of_kind mb.field mb.kind) other inter)
    (writes_same g.S.BinSink.step (inter_elements shape mbs c.args.at) (of_kind mb.field mb.kind) (of_kind mb.field mb.kind) mb (without_samples mb) _ _ refl (no_samples shape mb other c.requires.valid) written)) (c.write_inter_elements.ensures.writes mbs stands)
