use Rattle.code_tables.proofs.Tables.{IsCodeTable-0, IsCodeTable-2, IsCodeTable-4, IsCodeTable-8, IsCodeTable-DC, Locates-0, Locates-2, Locates-4, Locates-8, Locates-DC}
use Rattle.code_tables.proofs.tokens.coeff_token_table.Goals as goal

pub new-requires-clause-table : goal.new-requires-clause-table
new-requires-clause-table c = IsCodeTable-DC

pub new-requires-clause-places : goal.new-requires-clause-places
new-requires-clause-places c = Locates-DC

pub new-requires-then-nc-lt2-clause-table : goal.new-requires-then-nc-lt2-clause-table
new-requires-then-nc-lt2-clause-table c = IsCodeTable-0

pub new-requires-then-nc-lt2-clause-places : goal.new-requires-then-nc-lt2-clause-places
new-requires-then-nc-lt2-clause-places c = Locates-0

pub new-requires-then-nc-lt4-clause-table : goal.new-requires-then-nc-lt4-clause-table
new-requires-then-nc-lt4-clause-table c = IsCodeTable-2

pub new-requires-then-nc-lt4-clause-places : goal.new-requires-then-nc-lt4-clause-places
new-requires-then-nc-lt4-clause-places c = Locates-2

pub new-requires-then-nc-lt8-clause-table : goal.new-requires-then-nc-lt8-clause-table
new-requires-then-nc-lt8-clause-table c = IsCodeTable-4

pub new-requires-then-nc-lt8-clause-places : goal.new-requires-then-nc-lt8-clause-places
new-requires-then-nc-lt8-clause-places c = Locates-4

pub new-requires-else-nc-lt8-clause-table : goal.new-requires-else-nc-lt8-clause-table
new-requires-else-nc-lt8-clause-table c = IsCodeTable-8

pub new-requires-else-nc-lt8-clause-places : goal.new-requires-else-nc-lt8-clause-places
new-requires-else-nc-lt8-clause-places c = Locates-8
