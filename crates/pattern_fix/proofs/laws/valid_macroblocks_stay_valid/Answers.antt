use Rattle.pattern_fix.proofs.ValidLaws.{valid-normal}
use Rattle.pattern_fix.proofs.laws.valid_macroblocks_stay_valid.Goals as goal

pub returns : goal.returns
returns c = valid-normal
