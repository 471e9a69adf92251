use Rattle.slice_header.proofs.HeaderLaws.{in_range_unconstrained, same_text}
use Rattle.slice_header.proofs.laws.header_without_constraints.Goals as goal

pub returns-clause-in_range : goal.returns-clause-in_range
returns-clause-in_range c = in_range_unconstrained

pub returns-clause-text : goal.returns-clause-text
returns-clause-text c = same_text
