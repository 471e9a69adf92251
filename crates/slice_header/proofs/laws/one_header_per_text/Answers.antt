use Rattle.slice_header.proofs.HeaderLaws.{one_header}
use Rattle.slice_header.proofs.laws.one_header_per_text.Goals as goal

pub returns : goal.returns
returns c = one_header
