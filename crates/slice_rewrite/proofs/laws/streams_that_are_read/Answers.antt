use Rattle.slice_rewrite.proofs.Headline.{reads-recoded, recodes-read, recodes-writable}
use Rattle.slice_rewrite.proofs.laws.streams_that_are_read.Goals as goal

pub returns : goal.returns
returns c = record { read = reads-recoded; recoded = recodes-read; stopless = recodes-writable }
