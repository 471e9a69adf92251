use Rattle.std.proofs.Common.{◌∙◌, ap, arith, length-set}
use Rattle.init_table.specs.InitTable.{pair_of}
use Rattle.cabac_contexts.specs.Initial.{start_of}
use Rattle.cabac_contexts.specs.States.{state_in}
use Rattle.cabac_contexts.proofs.Steps.{cells-more}
use Rattle.cabac_contexts.proofs.contexts.Contexts.start.Goals as goal

pub loop-ctx-preserved : goal.loop-ctx-preserved
loop-ctx-preserved c =
    let size = c.loop-ctx.invariant.0 in
    let more = cells-more state_in (λ ctx. start_of (pair_of c.args.init.now ctx c.args.column) c.args.qp) c.loop-ctx.cells c.loop-ctx.ctx c.start_cell.result
    (omega (arith, size, c.loop-ctx-test.true)) (c.start_cell.ensures ∙ ap (λ pair. start_of pair c.args.qp) c.pair.ensures) c.loop-ctx.invariant.1 in
    (length-set c.loop-ctx.cells c.from.result c.start_cell.result ∙ size, rw c.from.ensures more)

pub returns : goal.returns
returns c = λ ctx h. c.loop-ctx.invariant.1 ctx (omega (arith, h, c.loop-ctx-test.false))
