use Rattle.binarisation.proofs.CodeSteps.{fits}
use Rattle.binarisation.proofs.codes.power_of_two.Goals as goal

pub returns : goal.returns
returns c = fits c.args.k c.requires
