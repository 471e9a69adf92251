-- A slice is its header, and the macroblocks whose data stand behind it.
use Rattle.std.proofs.lemmas.Result.{err_from_is_err_and}
use Rattle.bit_texts.specs.Bits.{bits_of}
use Rattle.h264_types.specs.declared.layer.Layer.TheVariants.{Cavlc}
use Rattle.slice_rewrite.proofs.SliceForms.{shape_built, slice_read, not_read}
use Rattle.slice_rewrite.proofs.reading.read_slice.Goals as goal

pub read_in-requires-clause-shape : goal.read_in-requires-clause-shape
read_in-requires-clause-shape c = (shape_built Cavlc c.args.sets.now c.args.header (bits_of c.args.payload.now) c.in_ok-opened.opened c.in_ok-opened.ensures.ok).is_shape

pub read_in-requires-clause-built : goal.read_in-requires-clause-built
read_in-requires-clause-built c = rw c.layer.ensures ((shape_built Cavlc c.args.sets.now c.args.header (bits_of c.args.payload.now) c.in_ok-opened.opened c.in_ok-opened.ensures.ok).built)

pub returns-clause-ok : goal.returns-clause-ok
returns-clause-ok c =
    let read = rw c.layer.ensures at c.in_ok-mbs.ensures.ok in
    slice_read c.args.init.now c.args.sets.now c.args.header (bits_of c.args.payload.now) c.in_ok-opened.opened c.in_ok-mbs.mbs.items c.in_ok-opened.ensures.ok read.0 read.1

pub returns-in_err-mbs-clause-err : goal.returns-in_err-mbs-clause-err
returns-in_err-mbs-clause-err c =
    let p = err_from_is_err_and c.from_residual-in_err-mbs.result c.from_residual-in_err-mbs.ensures.1 in
    let none = rw c.layer.ensures at c.in_err-mbs.ensures.err in
    rw (p.1, p.2) (not_read Cavlc c.args.init.now c.args.sets.now c.args.header (bits_of c.args.payload.now) c.in_ok-opened.opened c.in_err-mbs.field-0.0 c.in_ok-opened.ensures.ok none)

pub returns-in_err-opened-clause-err : goal.returns-in_err-opened-clause-err
returns-in_err-opened-clause-err c =
    let p = err_from_is_err_and c.from_residual.result c.from_residual.ensures.1 in
    rw (p.1, p.2) (c.in_err-opened.ensures.err c.args.init.now)
