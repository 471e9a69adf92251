use Rattle.std.proofs.Common.{inl, rules}
use Rattle.init_table.proofs.table.InitTable.of.Goals as goal

pub returns-then-says_flat : goal.returns-then-says_flat
returns-then-says_flat c = record {
  pairs = inl (search rules, c.flat.ensures);
  contexts = search rules;
  columns = c.flat.result.columns;
}
