use Rattle.std.proofs.Common.{◌≡◌, length}
use Rattle.std.specs.List.{AllWithin}
use Rattle.h264_types.proofs.sizes.have_sizes.Given as goal

abbrev pub invariant-loop-list : goal.invariant-loop-list
invariant-loop-list g l = AllWithin (λ list. length list ≡ g.row.N) l.lists 0 l.list-index
