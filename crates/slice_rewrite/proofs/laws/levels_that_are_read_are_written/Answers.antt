use Rattle.slice_rewrite.proofs.Stops.{stops_without_levels}
use Rattle.slice_rewrite.proofs.laws.levels_that_are_read_are_written.Goals as goal

pub returns : goal.returns
returns c = stops_without_levels
