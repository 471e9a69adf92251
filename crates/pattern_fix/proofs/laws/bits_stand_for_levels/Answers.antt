use Rattle.pattern_fix.proofs.NormalLaws.{bit_at-normal_luma, normal-level, normal_luma-above}
use Rattle.pattern_fix.proofs.laws.bits_stand_for_levels.Goals as goal

pub returns-clause-block : goal.returns-clause-block
returns-clause-block c = bit_at-normal_luma

pub returns-clause-level : goal.returns-clause-level
returns-clause-level c = normal-level

pub returns-clause-above : goal.returns-clause-above
returns-clause-above c = normal_luma-above
