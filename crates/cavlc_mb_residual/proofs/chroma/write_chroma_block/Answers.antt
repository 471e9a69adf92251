use Rattle.cavlc_mb_residual.proofs.Firsts.{AreSmall-push}
use Rattle.cavlc_mb_residual.proofs.chroma.write_chroma_block.Goals as goal

pub returns-clause-small : goal.returns-clause-small
returns-clause-small g c =
    AreSmall-push c.args.counts.now.items _ _ c.push.ensures.items c.requires.small c.count_levels-total.ensures.most
