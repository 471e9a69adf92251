use Rattle.std.proofs.Common.{refl, rules, to_z-of_z}
use Rattle.init_table.proofs.Pairs.{number-same, number-others}
use Rattle.init_table.proofs.table.InitTable.set_number.Goals as goal

pub returns-clause-same : goal.returns-clause-same
returns-clause-same c =
    let value = to_z-of_z c.ranges.value in
    rw c.with_number.ensures.row (rw value (number-same _ c.args.place c.args.value _ c.requires (search rules) c.with_number.ensures.width refl))

pub returns-clause-others : goal.returns-clause-others
returns-clause-others c =
    let value = to_z-of_z c.ranges.value in
    rw c.with_number.ensures.row (rw value (number-others _ c.args.place c.args.value _ c.requires (search rules) c.with_number.ensures.width refl))
