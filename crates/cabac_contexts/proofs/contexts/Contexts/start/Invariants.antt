use Rattle.std.proofs.Common.{◌≡◌, ℕ, ◌<◌, length, map, Some}
use Rattle.std.specs.List.{slice_get}
use Rattle.init_table.specs.InitTable.{pair_of}
use Rattle.cabac_contexts.specs.Initial.{start_of}
use Rattle.cabac_contexts.specs.States.{state_in}
use Rattle.cabac_contexts.proofs.contexts.Contexts.start.Given as goal

abbrev pub invariant-loop-ctx : goal.invariant-loop-ctx
invariant-loop-ctx l = (length l.cells ≡ 460) × ((ctx : ℕ) → ctx < l.ctx → slice_get (map state_in l.cells) ctx ≡ Some (start_of (pair_of l.init ctx l.column) l.qp))
