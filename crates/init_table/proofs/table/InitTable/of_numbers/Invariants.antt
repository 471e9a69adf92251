use Rattle.init_table.proofs.Reading.{HasRead}
use Rattle.init_table.proofs.table.InitTable.of_numbers.Given as goal

abbrev pub invariant-loop-place : goal.invariant-loop-place
invariant-loop-place l = HasRead l.text l.table.pairs l.rest l.place
