use Rattle.slice_rewrite.proofs.Normal.{emptied_is}
use Rattle.slice_rewrite.proofs.laws.a_test_of_emptied_macroblocks.Goals as goal

pub returns : goal.returns
returns c = emptied_is
