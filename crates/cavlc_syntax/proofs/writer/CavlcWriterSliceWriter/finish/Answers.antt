use Rattle.std.proofs.Common.{refl}
use Rattle.cavlc_syntax.proofs.Put.{put_end}
use Rattle.cavlc_syntax.proofs.writer.CavlcWriterSliceWriter.finish.Goals as goal

pub returns : goal.returns
returns g c init shape before done w = (_, refl, put_end _ _ _ _ _ _ shape before done w c.in_ok-write_last_run.ensures c.in_ok-write_end.ensures)
