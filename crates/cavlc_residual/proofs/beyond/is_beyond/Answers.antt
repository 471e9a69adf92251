use Rattle.std.proofs.Common.{take, ap, ◌∙◌}
use Rattle.cavlc_residual.proofs.WriteLemmas.{found_known}
use Rattle.cavlc_residual.proofs.beyond.is_beyond.Goals as goal

pub levels_above-requires-clause-nonzero : goal.levels_above-requires-clause-nonzero
levels_above-requires-clause-nonzero c = (found_known c.args.levels.now _ (ap (λ n. take n c.separate-parts.result.levels) c.from.ensures ∙ c.separate-parts.ensures.levels) c.requires.small).0

pub levels_above-requires-clause-small : goal.levels_above-requires-clause-small
levels_above-requires-clause-small c = (found_known c.args.levels.now _ (ap (λ n. take n c.separate-parts.result.levels) c.from.ensures ∙ c.separate-parts.ensures.levels) c.requires.small).1
