use Rattle.std.proofs.Common.{sym, ◌∙◌, below_more, arith}
use Rattle.cavlc_residual.specs.Block.{is_beyond}
use Rattle.cavlc_mb_residual.proofs.BeyondLaws.{any_none}
use Rattle.cavlc_mb_residual.proofs.beyond.is_chroma_dc_beyond.Goals as goal

pub returns : goal.returns
returns c = sym (any_none (is_beyond c.args.bound) c.args.lists.now (λ m below. c.loop-levels.invariant m (omega (arith, below, c.loop-levels-test.false))))

pub loop-levels-preserved : goal.loop-levels-preserved
loop-levels-preserved c = below_more _ _ c.loop-levels.invariant (sym c.is_beyond.ensures ∙ c.if-is_beyond.false)
