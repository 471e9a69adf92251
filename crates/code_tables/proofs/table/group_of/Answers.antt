use Rattle.code_tables.proofs.Groups.{six_bits}
use Rattle.code_tables.proofs.table.group_of.Goals as goal

pub returns-in-OfSixBits-clause-begins : goal.returns-in-OfSixBits-clause-begins
returns-in-OfSixBits-clause-begins c = rw c.in-OfSixBits.is (six_bits c.args.window)
