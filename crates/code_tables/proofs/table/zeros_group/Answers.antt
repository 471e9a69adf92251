use Rattle.std.proofs.Common.{refl}
use Rattle.code_tables.proofs.Groups.{zeros_and_three}
use Rattle.code_tables.proofs.table.zeros_group.Goals as goal

pub returns-clause-begins : goal.returns-clause-begins
returns-clause-begins c = zeros_and_three c.args.window _ c.min-zeros.result c.ranges.window.fits c.min-zeros.ensures refl
