use Rattle.std.proofs.Common.{refl}
use Rattle.pattern_fix.proofs.NormalLaws.{normal-without_t8}
use Rattle.pattern_fix.proofs.laws.other_elements_stay.Goals as goal

pub returns-clause-others : goal.returns-clause-others
returns-clause-others c = λ mb. refl

pub returns-clause-without_t8 : goal.returns-clause-without_t8
returns-clause-without_t8 c = normal-without_t8
