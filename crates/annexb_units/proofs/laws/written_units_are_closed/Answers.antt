use Rattle.annexb_units.proofs.Closed.{IsClosed-unit, EndsNonzero-unit}
use Rattle.annexb_units.proofs.laws.written_units_are_closed.Goals as goal

pub returns-clause-closed : goal.returns-clause-closed
returns-clause-closed c = IsClosed-unit

pub returns-clause-nonzero : goal.returns-clause-nonzero
returns-clause-nonzero c = EndsNonzero-unit
