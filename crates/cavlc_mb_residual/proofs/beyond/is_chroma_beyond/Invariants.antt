use Rattle.std.proofs.Common.{◌≡◌, ◌<◌, ℕ, [], false, get_or}
use Rattle.cavlc_residual.specs.Block.{is_beyond}
use Rattle.cavlc_mb_residual.proofs.beyond.is_chroma_beyond.Given as goal

abbrev pub invariant-loop-levels : goal.invariant-loop-levels
invariant-loop-levels l = (m : ℕ) → m < l.levels-index → is_beyond l.bound (get_or l.blocks m []) ≡ false
