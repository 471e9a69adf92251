-- The data are written in the layer that is named.
use Rattle.h264_types.specs.declared.layer.Layer.TheVariants.{Cabac}
use Rattle.slice_rewrite.proofs.Layers.{cabac_shape}
use Rattle.slice_rewrite.proofs.SliceForms.{built_as}
use Rattle.slice_rewrite.proofs.writing.write_in.Goals as goal

pub start-requires : goal.start-requires
start-requires c = c.requires.shape

pub start-requires-in-Cabac : goal.start-requires-in-Cabac
start-requires-in-Cabac c = cabac_shape c.args.shape (built_as c.args.to Cabac c.args.shape c.in-Cabac.is c.requires.shape c.requires.built)

pub returns-in_ok-start-in-Cavlc-clause-ok : goal.returns-in_ok-start-in-Cavlc-clause-ok
returns-in_ok-start-in-Cavlc-clause-ok c = rw c.in-Cavlc.is (c.write_data.ensures.ok c.args.init.now c.args.out c.in_ok-start-in-Cavlc.ensures.writes)
