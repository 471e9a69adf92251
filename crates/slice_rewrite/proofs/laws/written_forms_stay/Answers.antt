use Rattle.slice_rewrite.proofs.Headline.{slice-stays}
use Rattle.slice_rewrite.proofs.Normal.{written-written}
use Rattle.slice_rewrite.proofs.laws.written_forms_stay.Goals as goal

pub returns : goal.returns
returns c = record { slice = slice-stays; macroblock = written-written }
