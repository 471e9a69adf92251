use Rattle.std.proofs.Common.{true, false, arith}
use Rattle.code_tables.proofs.MapsOfBlocks.{entry, in_range}
use Rattle.code_tables.proofs.maps.sig_map.Goals as goal

pub returns-then-field-clause-entry : goal.returns-then-field-clause-entry
returns-then-field-clause-entry c = rw c.if-field.true (entry true c.args.place c.from.result c.from.ensures (omega arith))

pub returns-then-field-clause-in_range : goal.returns-then-field-clause-in_range
returns-then-field-clause-in_range c = in_range true c.args.place c.from.result c.from.ensures (omega arith)

pub returns-else-field-clause-entry : goal.returns-else-field-clause-entry
returns-else-field-clause-entry c = rw c.if-field.false (entry false c.args.place c.from-else-field.result c.from-else-field.ensures (omega arith))

pub returns-else-field-clause-in_range : goal.returns-else-field-clause-in_range
returns-else-field-clause-in_range c = in_range false c.args.place c.from-else-field.result c.from-else-field.ensures (omega arith)
