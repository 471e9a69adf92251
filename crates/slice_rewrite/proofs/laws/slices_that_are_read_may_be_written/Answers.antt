use Rattle.slice_rewrite.proofs.SliceForms.{under_read, may_be_written}
use Rattle.slice_rewrite.proofs.laws.slices_that_are_read_may_be_written.Goals as goal

pub returns : goal.returns
returns c = record { same = may_be_written; others = under_read }
