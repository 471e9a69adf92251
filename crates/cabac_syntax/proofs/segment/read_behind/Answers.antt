use Rattle.std.proofs.Common.{sym, subst, ◌∙◌, length}
use Rattle.std.proofs.lemmas.Bool.{ltb-true}
use Rattle.cabac_syntax.specs.Standing.{HasSamples}
use Rattle.cabac_syntax.proofs.MacroblockLaws.{know_plain}
use Rattle.cabac_syntax.proofs.EndLaws.{no_samples, gone_on}
use Rattle.cabac_syntax.proofs.segment.read_behind.Goals as goal

pub returns-then-not-is_i_pcm-clause-knows : goal.returns-then-not-is_i_pcm-clause-knows
returns-then-not-is_i_pcm-clause-knows g c = λ start shape pos all done k none.
    know_plain start shape pos all done c.args.mb.now c.args.coder k (sym c.is_i_pcm.ensures ∙ c.if-not-is_i_pcm.true) none

pub returns-in_err-read_pcm-clause-knows : goal.returns-in_err-read_pcm-clause-knows
returns-in_err-read_pcm-clause-knows g c = λ start shape pos all done k none.
    let pcm = sym c.is_i_pcm.ensures ∙ c.if-not-is_i_pcm.false in
    rw c.from_residual.ensures
    (no_samples start shape pos all done c.args.mb.now c.args.coder k (ltb-true _ _ (c.requires ∙ pcm)) pcm
    (λ xs rest are has. c.in_err-read_pcm.ensures.samples xs rest are
    (subst (λ t. HasSamples (length t) xs rest (g.B.BitSource.left c.into_parts-contexts.result.1)) (sym c.into_parts-contexts.ensures.taken) (subst (HasSamples (length c.args.coder.decoder.taken) xs rest) (sym c.into_parts-contexts.ensures.left) has))))

pub returns-clause-knows : goal.returns-clause-knows
returns-clause-knows g c = λ start shape pos all done k none.
    let pcm = sym c.is_i_pcm.ensures ∙ c.if-not-is_i_pcm.false in
    let read = c.in_ok-read_pcm.ensures.samples in
    let taken = g.B.BitSource.taken c.read_pcm.new.bits in
    let left = g.B.BitSource.left c.read_pcm.new.bits in
    gone_on start shape pos all done c.args.mb.now c.args.coder c.read_pcm.new.samples taken left c.into_parts-contexts.result.0 c.start_segment.result k (ltb-true _ _ (c.requires ∙ pcm)) pcm none read.0
    (subst (HasSamples (length c.args.coder.decoder.taken) c.read_pcm.new.samples left) c.into_parts-contexts.ensures.left
    (subst (λ t. HasSamples (length t) c.read_pcm.new.samples left (g.B.BitSource.left c.into_parts-contexts.result.1)) c.into_parts-contexts.ensures.taken read.1))
    c.in_ok-read_pcm.ensures.aligned c.into_parts-contexts.ensures.cells
    (record { given = c.start_segment.ensures.given; kept = c.start_segment.ensures.kept; none = c.start_segment.ensures.none })
