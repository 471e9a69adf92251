use Rattle.slice_rewrite.proofs.Headline.{says-the-same}
use Rattle.slice_rewrite.proofs.laws.written_bytes_say_the_same.Goals as goal

pub returns : goal.returns
returns c = says-the-same
