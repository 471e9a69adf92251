use Rattle.slice_header.proofs.HeaderLaws.{shape_fits, references_fit}
use Rattle.slice_header.proofs.laws.shape_is_in_range.Goals as goal

pub returns-clause-limits : goal.returns-clause-limits
returns-clause-limits c = shape_fits

pub returns-clause-refs : goal.returns-clause-refs
returns-clause-refs c = references_fit
