-- The header is written, and the data behind it, in the shape of the header that is written.
use Rattle.std.proofs.Common.{List, map, subst}
use Rattle.std.proofs.lemmas.Result.{err_from_is_err_and}
use Rattle.bit_texts.specs.Texts.{Appended}
use Rattle.h264_types.specs.declared.macroblock.Mb.{Mb}
use Rattle.header_parts.specs.ActiveSets.{Active, active_view}
use Rattle.slice_data.specs.WrittenForm.{written_mb}
use Rattle.slice_header.specs.HeaderCodes.{active_in, header_in, header_text}
use Rattle.slice_rewrite.specs.Layers.{IsNormalDataIn}
use Rattle.slice_rewrite.specs.SliceForms.{IsDataWritten, IsNoDataWritten}
use Rattle.slice_rewrite.proofs.SliceForms.{under_named, written_under, may_write, data_fills, slice_put, slice_not_put}
use Rattle.slice_rewrite.proofs.writing.write_slice.Goals as goal

pub write_in-requires-clause-built : goal.write_in-requires-clause-built
write_in-requires-clause-built c =
    let sets = c.args.sets.now in
    let h = c.args.slice.now.header in
    let how = c.args.how in
    let active = c.requires.slice.0 in
    let u = c.requires.slice.1 in
    let is = written_under how.to how.number how.idc sets h (active_view c.sets_of-active.result) c.shape_under.result c.written_shape-shape.result c.sets_of-active.ensures.names c.shape_under.ensures c.written_shape-shape.ensures.written active u.names in
    (may_write how.to how.number how.idc sets active h c.args.slice.now.mbs.items c.written_shape-shape.result c.requires.idc u is).built

pub write_in-requires-clause-mbs : goal.write_in-requires-clause-mbs
write_in-requires-clause-mbs c =
    let sets = c.args.sets.now in
    let h = c.args.slice.now.header in
    let how = c.args.how in
    let active = c.requires.slice.0 in
    let u = c.requires.slice.1 in
    let is = written_under how.to how.number how.idc sets h (active_view c.sets_of-active.result) c.shape_under.result c.written_shape-shape.result c.sets_of-active.ensures.names c.shape_under.ensures c.written_shape-shape.ensures.written active u.names in
    rw c.deref.ensures.value ((may_write how.to how.number how.idc sets active h c.args.slice.now.mbs.items c.written_shape-shape.result c.requires.idc u is).slice)

pub into_bytes-requires : goal.into_bytes-requires
into_bytes-requires c =
    let d = c.in_ok-out.ensures.ok in
    data_fills c.args.how.to c.args.init.now c.written_shape-shape.result c.write_header_under.new.out c.in_ok-out.out d.text (map (written_mb c.args.how.to) c.deref.result.now) d.is_text d.written

pub returns-clause-ok : goal.returns-clause-ok
returns-clause-ok c active u =
    let sets = c.args.sets.now in
    let h = c.args.slice.now.header in
    let how = c.args.how in
    let found = active_view c.sets_of-active.result in
    let names = c.sets_of-active.ensures.names in
    let out = c.write_header_under.new.out in
    let is = written_under how.to how.number how.idc sets h found c.shape_under.result c.written_shape-shape.result names c.shape_under.ensures c.written_shape-shape.ensures.written active u.names in
    let PutsHeader : Active → Type 0 = λ a. Appended c.new-out.result out (header_text (active_in how.to how.number a) (header_in how.to how.number how.idc h)) in
    let D : List Mb → Type 0 = λ mbs. IsDataWritten (IsNormalDataIn how.to c.args.init.now) how.to c.written_shape-shape.result mbs out c.in_ok-out.out in
    slice_put how.to c.args.init.now how.number how.idc active h c.args.slice.now.mbs.items c.written_shape-shape.result c.new-out.result out c.in_ok-out.out c.into_bytes.result.items
    c.requires.idc is c.new-out.ensures (under_named PutsHeader sets h.pic_parameter_set_id found names c.in_ok-write_header_under.ensures active u.names) (subst D c.deref.ensures.value c.in_ok-out.ensures.ok) c.into_bytes.ensures

pub returns-in_err-out-clause-err : goal.returns-in_err-out-clause-err
returns-in_err-out-clause-err c =
    let sets = c.args.sets.now in
    let h = c.args.slice.now.header in
    let how = c.args.how in
    let p = err_from_is_err_and c.from_residual-in_err-out.result c.from_residual-in_err-out.ensures.1 in
    let E : List Mb → Type 0 = λ mbs. IsNoDataWritten how.to c.written_shape-shape.result mbs c.in_err-out.field-0.0 in
    rw (p.1, p.2) (λ active u. slice_not_put how.to how.number how.idc active h c.args.slice.now.mbs.items c.written_shape-shape.result c.in_err-out.field-0.0 c.requires.idc
    (written_under how.to how.number how.idc sets h (active_view c.sets_of-active.result) c.shape_under.result c.written_shape-shape.result c.sets_of-active.ensures.names c.shape_under.ensures c.written_shape-shape.ensures.written active u.names)
    (subst E c.deref.ensures.value c.in_err-out.ensures.err))
