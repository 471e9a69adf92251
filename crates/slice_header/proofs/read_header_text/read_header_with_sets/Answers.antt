use Rattle.slice_header.proofs.HeaderFound.{reads}
use Rattle.slice_header.proofs.read_header_text.read_header_with_sets.Goals as goal

pub returns-clause-reads : goal.returns-clause-reads
returns-clause-reads g c = reads c.args.sets.now c.args.header c.read_whole.result _ _ c.read_whole.ensures.answers
