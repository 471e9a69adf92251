use Rattle.std.proofs.Common.{set, ap, ◌∙◌}
use Rattle.cabac_contexts.specs.States.{state_in}
use Rattle.cabac_contexts.proofs.Steps.{map-set}
use Rattle.cabac_contexts.proofs.contexts.Contexts.set_cell.Goals as goal

pub returns : goal.returns
returns c = rw c.from.ensures (map-set state_in c.self.inside.cells c.args.ctx c.args.cell ∙ ap (λ cells. set cells c.args.ctx (state_in c.args.cell)) c.self.view_is)
