use Rattle.cavlc_residual.proofs.WindowLemmas.{nothing_stands}
use Rattle.cavlc_residual.proofs.words.write_code.Goals as goal

pub returns-in-None : goal.returns-in-None
returns-in-None g c = nothing_stands c.args.table.now c.args.place _ _ c.code.ensures c.in-None.is
