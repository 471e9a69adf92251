use Rattle.std.proofs.lemmas.Grind.{common_steps}
use Rattle.std.proofs.lemmas.Bool.Decides.{nat_tests}
use Rattle.code_tables.specs.RunBefore.{run_before_list}
use Rattle.code_tables.proofs.Tables.{IsCodeTable-run_before_rows, Locates-run_before, run_before_same}
use Rattle.std.proofs.Common.{◌+◌, arith}
use Rattle.code_tables.proofs.runs.run_before_table.Goals as goal

pub new-requires-clause-table : goal.new-requires-clause-table
new-requires-clause-table c = IsCodeTable-run_before_rows c.args.zeros_left _ _ (omega arith) (omega arith)

pub new-requires-clause-places : goal.new-requires-clause-places
new-requires-clause-places c = Locates-run_before c.args.zeros_left _ _ (omega arith) (omega arith)

pub returns : goal.returns
unfolding run_before_list
returns c =
    let same = run_before_same c.args.zeros_left c.from-row.result (c.from-end.result + 1) (omega arith) (omega arith) in
    grind (arith, common_steps, nat_tests, same)
