use Rattle.std.proofs.Common.{◌-◌, length, drop, sym, ◌∙◌, arith}
use Rattle.std.proofs.lemmas.List.{take_all, length-drop}
use Rattle.init_table.proofs.WordsOfTexts.{words-first, words-none}
use Rattle.init_table.proofs.words.first_word.Goals as goal

pub returns-in_err-start : goal.returns-in_err-start
returns-in_err-start c = rw c.from_residual.ensures (words-none c.args.text.now (sym c.first_other.ensures ∙ c.in_err-start.was))

pub returns-in-Some : goal.returns-in-Some
returns-in-Some c =
    let all = take_all (length c.args.text.now - c.in_ok-start.start) (drop c.in_ok-start.start c.args.text.now) (omega (arith, length-drop c.in_ok-start.start c.args.text.now)) in
    let h = words-first c.args.text.now c.in_ok-start.start (sym c.first_other.ensures ∙ c.in_ok-start.was) _ all _ (sym c.first_blank.ensures ∙ c.in-Some.is) in
    rw c.split_at.ensures.front (rw c.split_at.ensures.back h)

pub returns-in-None : goal.returns-in-None
returns-in-None c =
    let all = take_all (length c.args.text.now - c.in_ok-start.start) (drop c.in_ok-start.start c.args.text.now) (omega (arith, length-drop c.in_ok-start.start c.args.text.now)) in
    words-first c.args.text.now c.in_ok-start.start (sym c.first_other.ensures ∙ c.in_ok-start.was) _ all _ (sym c.first_blank.ensures ∙ c.in-None.is)
