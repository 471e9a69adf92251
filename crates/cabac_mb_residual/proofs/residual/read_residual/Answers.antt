use Rattle.std.proofs.Common.{ap}
use Rattle.std.specs.Option.{option_map}
use Rattle.cabac_residual.proofs.Blocks.{unread}
use Rattle.binarisation.proofs.Strings.{reads_then, reads_none}
use Rattle.cabac_mb_residual.specs.MacroblockResidual.{residual}
use Rattle.cabac_mb_residual.proofs.residual.read_residual.Goals as goal

pub returns-in_err-read_luma_dc-clause-reads : goal.returns-in_err-read_luma_dc-clause-reads
unfolding residual
returns-in_err-read_luma_dc-clause-reads g c mbs stands =
    unread _ _ _ _ _ (ap (option_map _) c.from_residual.ensures)
    (reads_none _ _ _ _ _ (reads_none _ _ _ _ _ (reads_none _ _ _ _ _ (c.in_err-read_luma_dc.ensures.reads mbs stands))))

pub returns-in_err-read_luma-clause-reads : goal.returns-in_err-read_luma-clause-reads
unfolding residual
returns-in_err-read_luma-clause-reads g c mbs stands =
    unread _ _ _ _ _ (ap (option_map _) c.from_residual-in_err-read_luma.ensures)
    (reads_none _ _ _ _ _ (reads_none _ _ _ _ _ (reads_then _ _ _ _ _ _ _ _ (c.in_ok-read_luma_dc.ensures.reads mbs stands) (c.in_err-read_luma.ensures.reads mbs stands))))

pub returns-in_err-read_chroma_dc-clause-reads : goal.returns-in_err-read_chroma_dc-clause-reads
unfolding residual
returns-in_err-read_chroma_dc-clause-reads g c mbs stands =
    unread _ _ _ _ _ (ap (option_map _) c.from_residual-in_err-read_chroma_dc.ensures)
    (reads_none _ _ _ _ _ (reads_then _ _ _ _ _ _ _ _ (reads_then _ _ _ _ _ _ _ _ (c.in_ok-read_luma_dc.ensures.reads mbs stands) (c.in_ok-read_luma.ensures.reads mbs stands)) (c.in_err-read_chroma_dc.ensures.reads mbs stands)))

pub returns-clause-reads : goal.returns-clause-reads
unfolding residual
returns-clause-reads g c mbs stands =
    reads_then _ _ _ _ _ _ _ _ (reads_then _ _ _ _ _ _ _ _ (reads_then _ _ _ _ _ _ _ _ (c.in_ok-read_luma_dc.ensures.reads mbs stands) (c.in_ok-read_luma.ensures.reads mbs stands)) (c.in_ok-read_chroma_dc.ensures.reads mbs stands)) (c.read_chroma_ac.ensures.reads mbs stands)
