use Rattle.std.proofs.Common.{◌≡◌, take}
use Rattle.cabac_contexts.specs.Terms.{has_level}
use Rattle.cabac_contexts.proofs.term.has_level.Given as goal

abbrev pub invariant-loop-level : goal.invariant-loop-level
invariant-loop-level l = l.any ≡ has_level (take l.level-index l.levels)
