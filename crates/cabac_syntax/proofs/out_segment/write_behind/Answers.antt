use Rattle.std.proofs.Common.{sym, subst, ◌∙◌}
use Rattle.cabac_contexts.specs.States.{HasStates, state_of}
use Rattle.cabac_syntax.proofs.WroteLaws.{wrote_plain, wrote_samples, put_behind}
use Rattle.cabac_syntax.proofs.out_segment.write_behind.Goals as goal

pub returns-then-not-is_i_pcm-clause-wrote : goal.returns-then-not-is_i_pcm-clause-wrote
returns-then-not-is_i_pcm-clause-wrote g c = λ start shape before done size w.
    wrote_plain start shape before done c.args.mb.now c.args.coder (sym c.is_i_pcm.ensures ∙ c.if-not-is_i_pcm.true) w

pub returns-clause-wrote : goal.returns-clause-wrote
returns-clause-wrote g c = λ start shape before done size w.
    let bits = g.B.BitSink.bits in
    let closed = bits c.in_ok-contexts.bits in
    wrote_samples start shape before done c.args.mb.now c.args.coder c.start_segment.result closed (bits c.write_samples.new.bits) w (sym c.is_i_pcm.ensures ∙ c.if-not-is_i_pcm.false)
    (c.in_ok-contexts.ensures.code w.sunk (state_of start w.earlier) w.current w.taken)
    (put_behind closed (bits c.write_alignment.new.bits) (bits c.write_samples.new.bits) _ _ c.in_ok-write_alignment.ensures c.in_ok-write_samples.ensures)
    size (λ states h. c.start_segment.ensures.none states (subst (HasStates states) (sym c.in_ok-contexts.ensures.cells) h))
