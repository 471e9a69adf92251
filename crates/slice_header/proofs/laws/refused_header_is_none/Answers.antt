use Rattle.slice_header.proofs.HeaderLaws.{refused_header}
use Rattle.slice_header.proofs.laws.refused_header_is_none.Goals as goal

pub returns : goal.returns
returns c = refused_header
