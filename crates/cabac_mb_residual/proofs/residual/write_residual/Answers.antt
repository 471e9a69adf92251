use Rattle.binarisation.proofs.Strings.{on_ok}
use Rattle.cabac_mb_residual.proofs.Written.{writes_residual}
use Rattle.cabac_mb_residual.proofs.residual.write_residual.Goals as goal

pub returns-clause-writes : goal.returns-clause-writes
returns-clause-writes g c mbs stands = on_ok c.write_chroma_ac.result
    (λ written. writes_residual g.S.BinSink.step c.args.shape.now mbs c.args.at c.args.mb.now _ _ _ _ _ c.has_sizes.ensures (c.in_ok-write_luma_dc.ensures.writes mbs stands) (c.in_ok-write_luma.ensures.writes mbs stands) (c.in_ok-write_chroma_dc.ensures.writes mbs stands) written) (c.write_chroma_ac.ensures.writes mbs stands)
