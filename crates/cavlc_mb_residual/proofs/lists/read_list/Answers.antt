use Rattle.std.proofs.Common.{length}
use Rattle.cavlc_mb_residual.proofs.ResidualLaws.{most_read}
use Rattle.cavlc_mb_residual.proofs.lists.read_list.Goals as goal

pub returns-then-coded-clause-most : goal.returns-then-coded-clause-most
returns-then-coded-clause-most g c =
    most_read c.read_onto_zeros.result (length c.args.levels.now) c.args.bound _ c.args.nc _ _ _ c.requires.shape c.read_onto_zeros.ensures.reads c.read_onto_zeros.ensures.total
