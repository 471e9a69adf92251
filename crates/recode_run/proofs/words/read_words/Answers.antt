use Rattle.std.proofs.Common.{◌≡◌, ◌∙◌, ap, sym, subst, map, string_bytes, List, true, rules}
use Rattle.std.specs.Prelude.{Result}
use Rattle.std.specs.Str.{bytes_eq}
use Rattle.std.proofs.Common.{codes}
use Rattle.clap.specs.Faults.{is_simple_and_free}
use Rattle.clap.specs.Simple.{app_of}
use Rattle.clap.specs.Walk.{Text}
use Rattle.recode_run.specs.Words.{Reads, words_of}
use Rattle.recode_run.specs.declared.words.Asked.{Asked}
use Rattle.recode_run.specs.declared.words.WordsFault.{WordsFault}
use Rattle.recode_run.proofs.Parsing.{is_free_app, first-word, parsed-asks, reads-asked, refused-reads}
use Rattle.recode_run.proofs.words.read_words.Goals as goal

pub returns-in-Ok-try_get_matches_from-clause-value : goal.returns-in-Ok-try_get_matches_from-clause-value
returns-in-Ok-try_get_matches_from-clause-value c =
    let ws : List Text = map (λ word. string_bytes word) c.args.words.now in
    let parsed = c.in-Ok-try_get_matches_from.ensures in
    let named : bytes_eq (string_bytes c.command-item.result) (codes "recode") ≡ true = search rules in
    let first = first-word (λ word. string_bytes word) c.args.words.now c.command-item.result (search rules) c.command-item.is named in
    let asks = parsed-asks (app_of c.in-Ok.command) ws c.in-Ok-try_get_matches_from.matches c.in-Ok.ensures first.0 first.1
    (parsed.kinds (ap is_simple_and_free c.in-Ok.ensures ∙ is_free_app)) parsed.matches in
    let P : Result Asked WordsFault → Type 0 = Reads (words_of ws) in
    subst P (sym c.ok_or.ensures.value) (reads-asked (words_of ws) c.asked_by.result (c.asked_by.ensures.value ∙ sym asks))

pub returns-in-Err-clause-value : goal.returns-in-Err-clause-value
returns-in-Err-clause-value c =
    refused-reads (app_of c.in-Ok.command) (map (λ word. string_bytes word) c.args.words.now) c.in-Err.error c.refusal.result c.in-Ok.ensures
    (c.in-Err.ensures.kinds (ap is_simple_and_free c.in-Ok.ensures ∙ is_free_app)) c.refusal.ensures
