use Rattle.std.proofs.Common.{rules, ◌≡◌, ◌∙◌, ap₂, codes}
use Rattle.std.proofs.lemmas.Result.{IfOk-weaker}
use Rattle.clap.specs.Walk.{rule_of}
use Rattle.clap.specs.Simple.{with_rule}
use Rattle.recode_run.specs.Words.{option_rule, required_rule}
use Rattle.recode_run.proofs.words.recode_command.Goals as goal

pub returns : goal.returns
returns c =
    let to_is : rule_of c.required.result ≡ required_rule (codes "to") = search rules in
    let table_is : rule_of c.required-2.result ≡ required_rule (codes "table") = search rules in
    let init_is : rule_of c.option-3.result ≡ option_rule (codes "init") = search rules in
    let first_is : rule_of c.option-4.result ≡ option_rule (codes "first") = search rules in
    let last_is : rule_of c.option-5.result ≡ option_rule (codes "last") = search rules in
    let with_to = c.in_ok-arg.ensures.shape (search rules) ∙ ap₂ with_rule c.new.ensures.app to_is in
    let with_table = c.in_ok-arg-2.ensures.shape (search rules) ∙ ap₂ with_rule with_to table_is in
    let with_init = c.in_ok-arg-3.ensures.shape (search rules) ∙ ap₂ with_rule with_table init_is in
    let with_first = c.in_ok-arg-4.ensures.shape (search rules) ∙ ap₂ with_rule with_init first_is in
    IfOk-weaker c.arg-5.result _ _ (λ command h. h.shape (search rules) ∙ ap₂ with_rule with_first last_is) c.arg-5.ensures
