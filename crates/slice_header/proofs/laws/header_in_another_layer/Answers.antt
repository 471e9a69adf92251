use Rattle.slice_header.proofs.HeaderLaws.{moved}
use Rattle.slice_header.proofs.laws.header_in_another_layer.Goals as goal

pub returns : goal.returns
returns c = moved
