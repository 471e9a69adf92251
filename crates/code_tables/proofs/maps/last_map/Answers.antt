use Rattle.std.proofs.Common.{arith}
use Rattle.code_tables.proofs.MapsOfBlocks.{last_entry, last_in_range}
use Rattle.code_tables.proofs.maps.last_map.Goals as goal

pub returns-clause-entry : goal.returns-clause-entry
returns-clause-entry c = last_entry c.args.place c.from.result c.from.ensures (omega arith)

pub returns-clause-in_range : goal.returns-clause-in_range
returns-clause-in_range c = last_in_range c.args.place c.from.result c.from.ensures (omega arith)
