use Rattle.std.proofs.Common.{map}
use Rattle.std.specs.Prelude.{string_bytes}
use Rattle.recode_run.specs.Words.{words_of}
use Rattle.recode_run.proofs.Headline.{is_headline}
use Rattle.recode_run.proofs.Told.{is_told, is_exact, is_prompt}
use Rattle.recode_run.proofs.run.run_within.Goals as goal

pub returns-clause-ends : goal.returns-clause-ends
returns-clause-ends g c =
    let left = g.S.Source.left in
    let held = g.K.Sink.held in
    let k = c.recode_asked-status in
    (k.result, k.new.account, k.ensures.ran, c.write_report.ensures.line)

pub returns-clause-told : goal.returns-clause-told
returns-clause-told g c =
    let left = g.S.Source.left in
    let held = g.K.Sink.held in
    let k = c.recode_asked-status in
    let asked = words_of (map (λ word. string_bytes word) c.args.words.now) in
    is_told asked c.args.bound (left c.args.src.now) (left k.new.src) (held c.args.out.now) (held k.new.out) (g.E.Sink.held c.args.report.now) (g.E.Sink.held c.write_report.new.report) c.write_report.result (returns-clause-ends g c)

pub returns-clause-exact : goal.returns-clause-exact
returns-clause-exact g c =
    let left = g.S.Source.left in
    let held = g.K.Sink.held in
    let k = c.recode_asked-status in
    let asked = words_of (map (λ word. string_bytes word) c.args.words.now) in
    is_exact asked c.args.bound (left c.args.src.now) (left k.new.src) (held c.args.out.now) (held k.new.out) c.write_report.result (returns-clause-told g c)

pub returns-clause-prompt : goal.returns-clause-prompt
returns-clause-prompt g c =
    let left = g.S.Source.left in
    let held = g.K.Sink.held in
    let k = c.recode_asked-status in
    let asked = words_of (map (λ word. string_bytes word) c.args.words.now) in
    is_prompt asked c.args.bound (left c.args.src.now) (left k.new.src) (held c.args.out.now) (held k.new.out) (g.E.Sink.held c.args.report.now) (g.E.Sink.held c.write_report.new.report) c.write_report.result (returns-clause-ends g c)

pub returns-clause-headline : goal.returns-clause-headline
returns-clause-headline g c =
    let left = g.S.Source.left in
    let held = g.K.Sink.held in
    let k = c.recode_asked-status in
    let asked = words_of (map (λ word. string_bytes word) c.args.words.now) in
    is_headline asked c.args.bound (left c.args.src.now) (left k.new.src) (held c.args.out.now) (held k.new.out) c.write_report.result (returns-clause-told g c) (returns-clause-exact g c)
