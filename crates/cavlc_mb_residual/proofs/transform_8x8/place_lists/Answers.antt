use Rattle.cavlc_mb_residual.proofs.Quarters.{lists_placed}
use Rattle.cavlc_mb_residual.proofs.transform_8x8.place_lists.Goals as goal

pub returns-then-mb-clause-lists : goal.returns-then-mb-clause-lists
returns-then-mb-clause-lists c =
    lists_placed c.args.mb.now c.take_turns.result c.take_turns-then-mb.result c.take_turns-then-mb-2.result c.take_turns-then-mb-3.result c.if-mb.true
    (record { levels = c.take_turns.ensures.levels; size = c.take_turns.ensures.size }) (record { levels = c.take_turns-then-mb.ensures.levels; size = c.take_turns-then-mb.ensures.size })
    (record { levels = c.take_turns-then-mb-2.ensures.levels; size = c.take_turns-then-mb-2.ensures.size }) (record { levels = c.take_turns-then-mb-3.ensures.levels; size = c.take_turns-then-mb-3.ensures.size })
