-- The data are read in the slice's layer.
use Rattle.std.proofs.Common.{length, sym, ◌∙◌}
use Rattle.std.specs.Prelude.{IfOk, IfErr, IfSome}
use Rattle.exp_golomb.specs.Bitstream.{Bitstream}
use Rattle.h264_types.specs.declared.layer.Layer.{Layer}
use Rattle.h264_types.specs.declared.layer.Layer.TheVariants.{Cabac}
use Rattle.slice_rewrite.specs.Layers.{HasDataIn, IsDataIn, layer_of}
use Rattle.slice_rewrite.specs.SliceForms.{IsNoDataRead, sets_in}
use Rattle.slice_rewrite.specs.Standing.{AreDataAsWritten}
use Rattle.slice_rewrite.proofs.Layers.{cabac_shape}
use Rattle.slice_rewrite.proofs.SliceForms.{built_as, shape_built, subst2}
use Rattle.slice_rewrite.proofs.opening.OpenSlice.count_as_written.Goals as goal

pub start-requires : goal.start-requires
start-requires c =
    let self = c.args.self.now in
    let o = c.requires.opened in
    (shape_built c.args.to o.0 o.1 o.2 self o.3).is_shape

pub start-requires-in-Cabac : goal.start-requires-in-Cabac
start-requires-in-Cabac c =
    let self = c.args.self.now in
    let o = c.requires.opened in
    let is = shape_built c.args.to o.0 o.1 o.2 self o.3 in
    cabac_shape self.shape (built_as (layer_of (sets_in self)) Cabac self.shape (sym c.layer.ensures ∙ c.in-Cabac.is) is.is_shape is.built)

pub count_in-requires-in-Cabac-clause-reads : goal.count_in-requires-in-Cabac-clause-reads
count_in-requires-in-Cabac-clause-reads c = (c.args.init.now, length c.again-bits.result.taken, c.again-bits.result.left, c.in_ok-reader-in-Cabac.ensures)

pub returns-in_ok-reader-in-Cavlc-clause-ok : goal.returns-in_ok-reader-in-Cavlc-clause-ok
returns-in_ok-reader-in-Cavlc-clause-ok c =
    let self = c.args.self.now in
    let P : Layer → Bitstream → Type 0 = λ layer bits. IfOk c.count_in.result (λ found. IfSome found (AreDataAsWritten (HasDataIn layer) (IsDataIn layer c.args.init.now) c.args.to self.shape (length bits.taken) bits.left)) in
    subst2 P (sym c.in-Cavlc.is ∙ c.layer.ensures) c.again-bits.ensures (c.count_in.ensures.ok c.args.init.now (length c.again-bits.result.taken) c.again-bits.result.left c.in_ok-reader-in-Cavlc.ensures.stands)

pub returns-in_ok-reader-in-Cavlc-clause-err : goal.returns-in_ok-reader-in-Cavlc-clause-err
returns-in_ok-reader-in-Cavlc-clause-err c =
    let self = c.args.self.now in
    let P : Layer → Bitstream → Type 0 = λ layer bits. IfErr c.count_in.result (IsNoDataRead (HasDataIn layer) (IsDataIn layer c.args.init.now) self.shape (length bits.taken) bits.left) in
    subst2 P (sym c.in-Cavlc.is ∙ c.layer.ensures) c.again-bits.ensures (c.count_in.ensures.err c.args.init.now (length c.again-bits.result.taken) c.again-bits.result.left c.in_ok-reader-in-Cavlc.ensures.stands)

pub returns-in_ok-reader-in-Cabac-clause-ok : goal.returns-in_ok-reader-in-Cabac-clause-ok
returns-in_ok-reader-in-Cabac-clause-ok c =
    let self = c.args.self.now in
    let P : Layer → Bitstream → Type 0 = λ layer bits. IfOk c.count_in-in-Cabac.result (λ found. IfSome found (AreDataAsWritten (HasDataIn layer) (IsDataIn layer c.args.init.now) c.args.to self.shape (length bits.taken) bits.left)) in
    subst2 P (sym c.in-Cabac.is ∙ c.layer.ensures) c.again-bits.ensures (c.count_in-in-Cabac.ensures.ok c.args.init.now (length c.again-bits.result.taken) c.again-bits.result.left c.in_ok-reader-in-Cabac.ensures)

pub returns-in_ok-reader-in-Cabac-clause-err : goal.returns-in_ok-reader-in-Cabac-clause-err
returns-in_ok-reader-in-Cabac-clause-err c =
    let self = c.args.self.now in
    let P : Layer → Bitstream → Type 0 = λ layer bits. IfErr c.count_in-in-Cabac.result (IsNoDataRead (HasDataIn layer) (IsDataIn layer c.args.init.now) self.shape (length bits.taken) bits.left) in
    subst2 P (sym c.in-Cabac.is ∙ c.layer.ensures) c.again-bits.ensures (c.count_in-in-Cabac.ensures.err c.args.init.now (length c.again-bits.result.taken) c.again-bits.result.left c.in_ok-reader-in-Cabac.ensures)
