use Rattle.slice_header.proofs.HeaderFound.{header_again}
use Rattle.slice_header.proofs.laws.header_is_read_from_its_text.Goals as goal

pub returns : goal.returns
returns c = header_again
