use Rattle.pattern_fix.proofs.NormalLaws.{normal-normal, emptied-normal}
use Rattle.pattern_fix.proofs.laws.normal_stays.Goals as goal

pub returns-clause-form : goal.returns-clause-form
returns-clause-form c = normal-normal

pub returns-clause-refusal : goal.returns-clause-refusal
returns-clause-refusal c = emptied-normal
