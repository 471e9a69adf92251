-- The header is written, and the data behind it, in the shape of the header that is written.
use Rattle.std.proofs.Common.{map, refl}
use Rattle.std.proofs.lemmas.Result.{err_from_is_err_and}
use Rattle.slice_data.specs.WrittenForm.{written_mb}
use Rattle.slice_rewrite.specs.SliceForms.{sets_in}
use Rattle.slice_rewrite.specs.declared.pick.Tries.TheVariants.{One}
use Rattle.slice_rewrite.proofs.SliceForms.{shape_built, shape_of_both, shape_written, data_fills, copied, not_copied}
use Rattle.slice_rewrite.proofs.opening.OpenSlice.write_anew.Goals as goal

pub copy_to-requires-clause-column : goal.copy_to-requires-clause-column
copy_to-requires-clause-column c = c.written_shape-shape.ensures.other (shape_built c.args.to c.requires.opened.0 c.requires.opened.1 c.requires.opened.2 c.args.self.now c.requires.opened.3).is_shape

pub copy_to-requires-clause-shape : goal.copy_to-requires-clause-shape
copy_to-requires-clause-shape c =
    let is = (shape_built c.args.to c.requires.opened.0 c.requires.opened.1 c.requires.opened.2 c.args.self.now c.requires.opened.3).is_shape in
    shape_of_both c.args.self.now.shape c.written_shape-shape.result (c.written_shape-shape.ensures.other is) is

pub copy_to-requires-clause-built : goal.copy_to-requires-clause-built
copy_to-requires-clause-built c =
    let self = c.args.self.now in
    let r = c.requires.opened.3 in
    shape_written c.args.to c.args.number c.args.idc c.requires.opened.0 c.requires.opened.1 c.requires.opened.2 self c.written_shape-shape.result r (c.written_shape-shape.ensures.written (sets_in self) self.header c.args.number r.shape)

pub into_bytes-requires : goal.into_bytes-requires
into_bytes-requires c =
    let k = c.in_ok-out.ensures.ok in
    data_fills c.args.to c.args.init.now c.written_shape-shape.result c.write_header_under.new.out c.in_ok-out.out k.text (map (written_mb c.args.to) k.mbs) k.is_text k.written

pub returns-clause-ok : goal.returns-clause-ok
returns-clause-ok c sets header bits r =
    let self = c.args.self.now in
    copied c.args.to c.args.init.now (One c.args.idc) c.args.number c.args.idc sets header bits self c.written_shape-shape.result c.new-out.result c.write_header_under.new.out c.in_ok-out.out c.into_bytes.result.items c.in_ok-out.macroblocks
    (c.requires.idc, refl) r (c.written_shape-shape.ensures.written (sets_in self) self.header c.args.number r.shape) c.new-out.ensures c.in_ok-write_header_under.ensures c.in_ok-out.ensures.ok c.into_bytes.ensures

pub returns-in_err-out-clause-err : goal.returns-in_err-out-clause-err
returns-in_err-out-clause-err c sets header bits r =
    let p = err_from_is_err_and c.from_residual-in_err-out.result c.from_residual-in_err-out.ensures.1 in
    rw (p.1, p.2) (not_copied c.args.to c.args.init.now sets header bits c.args.self.now c.in_err-out.field-0.0 r c.in_err-out.ensures.err)
