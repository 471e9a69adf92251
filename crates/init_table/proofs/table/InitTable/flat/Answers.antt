use Rattle.std.proofs.Common.{length, ap}
use Rattle.std.proofs.lemmas.List.{get_or-replicate}
use Rattle.init_table.proofs.Reading.{flat_pair}
use Rattle.init_table.proofs.table.InitTable.flat.Goals as goal

pub invariant_of-result : goal.invariant_of-result
invariant_of-result c = record { columns = λ k d below. ap length (get_or-replicate 460 k _ d below) }

pub returns : goal.returns
returns c = λ ctx column h k. flat_pair 460 ctx column _ h k
