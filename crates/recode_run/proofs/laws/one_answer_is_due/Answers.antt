use Rattle.recode_run.proofs.Due.{due-some, due-once}
use Rattle.recode_run.proofs.laws.one_answer_is_due.Goals as goal

pub returns : goal.returns
returns c = record { some = due-some; once = due-once }
