use Rattle.std.proofs.Common.{ap, ◌∙◌}
use Rattle.cabac_contexts.specs.Terms.{flag_at}
use Rattle.cabac_contexts.proofs.Neighbours.{recent_left, recent_above}
use Rattle.cabac_contexts.proofs.term.flags.Goals as goal

pub returns-clause-a : goal.returns-clause-a
returns-clause-a c mbs stands =
    let value = c.left-a.ensures.value mbs stands in
    c.flag.ensures c.args.shape.now mbs stands.are (recent_left c.args.shape.now c.args.done.now mbs c.args.at c.args.field c.args.place c.left-a.result stands value)
    ∙ ap (flag_at c.args.missing c.args.term mbs c.args.at c.args.mb.now) value

pub returns-clause-b : goal.returns-clause-b
returns-clause-b c mbs stands =
    let value = c.above-b.ensures.value mbs stands in
    c.flag-2.ensures c.args.shape.now mbs stands.are (recent_above c.args.shape.now c.args.done.now mbs c.args.at c.args.field c.args.place c.above-b.result stands value)
    ∙ ap (flag_at c.args.missing c.args.term mbs c.args.at c.args.mb.now) value
