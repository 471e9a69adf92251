use Rattle.std.proofs.Common.{arith}
use Rattle.std.proofs.lemmas.Grind.{common_steps}
use Rattle.std.proofs.lemmas.Bool.Decides.{nat_tests}
use Rattle.code_tables.specs.TotalZeros.{total_zeros_list}
use Rattle.code_tables.proofs.Tables.{IsCodeTable-total_zeros_rows, IsCodeTable-total_zeros_dc_rows, Locates-total_zeros, Locates-total_zeros_dc, total_zeros_same, total_zeros_dc_same}
use Rattle.code_tables.proofs.zeros.total_zeros_table.Goals as goal

pub new-requires-clause-table : goal.new-requires-clause-table
new-requires-clause-table c = IsCodeTable-total_zeros_rows _ _ (omega arith) (omega arith)

pub new-requires-clause-places : goal.new-requires-clause-places
new-requires-clause-places c = Locates-total_zeros _ _ (omega arith) (omega arith)

pub new-requires-else-max-gt4-clause-table : goal.new-requires-else-max-gt4-clause-table
new-requires-else-max-gt4-clause-table c = IsCodeTable-total_zeros_dc_rows _ _ (omega arith) (omega arith)

pub new-requires-else-max-gt4-clause-places : goal.new-requires-else-max-gt4-clause-places
new-requires-else-max-gt4-clause-places c = Locates-total_zeros_dc _ _ (omega arith) (omega arith)

pub returns-then-max-gt4 : goal.returns-then-max-gt4
unfolding total_zeros_list
returns-then-max-gt4 c =
    let same = total_zeros_same c.from-row.result c.from-end.result (omega arith) (omega arith) in
    grind (arith, common_steps, nat_tests, same)

pub returns-else-max-gt4 : goal.returns-else-max-gt4
unfolding total_zeros_list
returns-else-max-gt4 c =
    let same = total_zeros_dc_same c.from-row.result c.from-end.result (omega arith) (omega arith) in
    grind (arith, common_steps, nat_tests, same)
