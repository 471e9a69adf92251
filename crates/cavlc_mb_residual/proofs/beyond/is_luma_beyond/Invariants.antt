use Rattle.std.proofs.Common.{◌≡◌, ◌<◌, ℕ, [], false, get_or}
use Rattle.cavlc_residual.specs.Block.{is_beyond}
use Rattle.cavlc_mb_residual.specs.LumaBlocks.{luma_blocks}
use Rattle.cavlc_mb_residual.proofs.beyond.is_luma_beyond.Given as goal

abbrev pub invariant-loop-n : goal.invariant-loop-n
invariant-loop-n l = (m : ℕ) → m < l.n → is_beyond l.bound (get_or (luma_blocks l.mb) m []) ≡ false
