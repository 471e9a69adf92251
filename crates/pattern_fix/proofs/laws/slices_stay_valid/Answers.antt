use Rattle.pattern_fix.proofs.SliceLaws.{slice-normal, qp-normal}
use Rattle.pattern_fix.proofs.laws.slices_stay_valid.Goals as goal

pub returns-clause-valid : goal.returns-clause-valid
returns-clause-valid c = slice-normal

pub returns-clause-qp : goal.returns-clause-qp
returns-clause-qp c = qp-normal
