use Rattle.cavlc_syntax.proofs.writer.CavlcWriterSliceWriter.put.Goals as goal

pub put-requires : goal.put-requires
put-requires g c = let r = c.requires.1 in (r.1, r.2, r.3, r.4, r.5)

pub returns : goal.returns
returns g c init = c.put.ensures.gives
