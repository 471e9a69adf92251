use Rattle.slice_header.proofs.HeaderLaws.{written_one}
use Rattle.slice_header.proofs.laws.header_text_is_the_written_one.Goals as goal

pub returns : goal.returns
returns c = written_one
