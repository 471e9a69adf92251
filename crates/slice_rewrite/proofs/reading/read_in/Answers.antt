-- The data of the layer that is named are read.
use Rattle.std.proofs.Common.{length}
use Rattle.h264_types.specs.declared.layer.Layer.TheVariants.{Cabac}
use Rattle.slice_rewrite.proofs.Layers.{cabac_shape}
use Rattle.slice_rewrite.proofs.SliceForms.{built_as}
use Rattle.slice_rewrite.proofs.reading.read_in.Goals as goal

pub start-requires : goal.start-requires
start-requires c = c.requires.shape

pub start-requires-in-Cabac : goal.start-requires-in-Cabac
start-requires-in-Cabac c = cabac_shape c.args.shape (built_as c.args.layer Cabac c.args.shape c.in-Cabac.is c.requires.shape c.requires.built)

pub read_data-requires-in-Cabac-clause-reads : goal.read_data-requires-in-Cabac-clause-reads
read_data-requires-in-Cabac-clause-reads c = (c.args.init.now, length c.args.bits.taken, c.args.bits.left, c.in_ok-start-in-Cabac.ensures)

pub returns-in_ok-start-in-Cavlc-clause-ok : goal.returns-in_ok-start-in-Cavlc-clause-ok
returns-in_ok-start-in-Cavlc-clause-ok c = rw c.in-Cavlc.is (c.read_data.ensures.ok c.args.init.now (length c.args.bits.taken) c.args.bits.left c.in_ok-start-in-Cavlc.ensures.stands)

pub returns-in_ok-start-in-Cavlc-clause-err : goal.returns-in_ok-start-in-Cavlc-clause-err
returns-in_ok-start-in-Cavlc-clause-err c = rw c.in-Cavlc.is (c.read_data.ensures.err c.args.init.now (length c.args.bits.taken) c.args.bits.left c.in_ok-start-in-Cavlc.ensures.stands)

pub returns-in_ok-start-in-Cabac-clause-ok : goal.returns-in_ok-start-in-Cabac-clause-ok
returns-in_ok-start-in-Cabac-clause-ok c = rw c.in-Cabac.is (c.read_data-in-Cabac.ensures.ok c.args.init.now (length c.args.bits.taken) c.args.bits.left c.in_ok-start-in-Cabac.ensures)

pub returns-in_ok-start-in-Cabac-clause-err : goal.returns-in_ok-start-in-Cabac-clause-err
returns-in_ok-start-in-Cabac-clause-err c = rw c.in-Cabac.is (c.read_data-in-Cabac.ensures.err c.args.init.now (length c.args.bits.taken) c.args.bits.left c.in_ok-start-in-Cabac.ensures)
