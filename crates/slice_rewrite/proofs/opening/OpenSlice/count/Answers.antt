-- The data are read in the slice's layer.
use Rattle.std.proofs.Common.{length, sym, ◌∙◌}
use Rattle.std.specs.Prelude.{IfOk, IfErr}
use Rattle.exp_golomb.specs.Bitstream.{Bitstream}
use Rattle.h264_types.specs.declared.layer.Layer.{Layer}
use Rattle.h264_types.specs.declared.layer.Layer.TheVariants.{Cabac}
use Rattle.slice_rewrite.specs.Layers.{HasDataIn, IsDataIn, layer_of}
use Rattle.slice_rewrite.specs.SliceForms.{AreDataCounted, IsNoDataRead, sets_in}
use Rattle.slice_rewrite.proofs.Layers.{cabac_shape}
use Rattle.slice_rewrite.proofs.SliceForms.{built_as, counted, not_counted, shape_built, subst2}
use Rattle.slice_rewrite.proofs.opening.OpenSlice.count.Goals as goal

pub start-requires : goal.start-requires
start-requires c =
    let self = c.args.self.now in
    let o = c.requires in
    (shape_built o.0 o.1 o.2 o.3 self o.4).is_shape

pub start-requires-in-Cabac : goal.start-requires-in-Cabac
start-requires-in-Cabac c =
    let self = c.args.self.now in
    let o = c.requires in
    let is = shape_built o.0 o.1 o.2 o.3 self o.4 in
    cabac_shape self.shape (built_as (layer_of (sets_in self)) Cabac self.shape (sym c.layer.ensures ∙ c.in-Cabac.is) is.is_shape is.built)

pub count_data-requires-in-Cabac-clause-reads : goal.count_data-requires-in-Cabac-clause-reads
count_data-requires-in-Cabac-clause-reads c = (c.args.init.now, length c.again-bits.result.taken, c.again-bits.result.left, c.in_ok-reader-in-Cabac.ensures)

pub returns-in_ok-reader-in-Cavlc-clause-ok : goal.returns-in_ok-reader-in-Cavlc-clause-ok
returns-in_ok-reader-in-Cavlc-clause-ok c to sets header bits r =
    let self = c.args.self.now in
    let P : Layer → Bitstream → Type 0 = λ layer b. IfOk c.count_data.result (AreDataCounted (HasDataIn layer) (IsDataIn layer c.args.init.now) self.shape (length b.taken) b.left) in
    counted to c.args.init.now sets header bits self c.count_data.result r
    (subst2 P (sym c.in-Cavlc.is ∙ c.layer.ensures) c.again-bits.ensures (c.count_data.ensures.ok c.args.init.now (length c.again-bits.result.taken) c.again-bits.result.left c.in_ok-reader-in-Cavlc.ensures.stands))

pub returns-in_ok-reader-in-Cavlc-clause-err : goal.returns-in_ok-reader-in-Cavlc-clause-err
returns-in_ok-reader-in-Cavlc-clause-err c to sets header bits r =
    let self = c.args.self.now in
    let P : Layer → Bitstream → Type 0 = λ layer b. IfErr c.count_data.result (IsNoDataRead (HasDataIn layer) (IsDataIn layer c.args.init.now) self.shape (length b.taken) b.left) in
    not_counted to c.args.init.now sets header bits self c.count_data.result r
    (subst2 P (sym c.in-Cavlc.is ∙ c.layer.ensures) c.again-bits.ensures (c.count_data.ensures.err c.args.init.now (length c.again-bits.result.taken) c.again-bits.result.left c.in_ok-reader-in-Cavlc.ensures.stands))

pub returns-in_ok-reader-in-Cabac-clause-ok : goal.returns-in_ok-reader-in-Cabac-clause-ok
returns-in_ok-reader-in-Cabac-clause-ok c to sets header bits r =
    let self = c.args.self.now in
    let P : Layer → Bitstream → Type 0 = λ layer b. IfOk c.count_data-in-Cabac.result (AreDataCounted (HasDataIn layer) (IsDataIn layer c.args.init.now) self.shape (length b.taken) b.left) in
    counted to c.args.init.now sets header bits self c.count_data-in-Cabac.result r
    (subst2 P (sym c.in-Cabac.is ∙ c.layer.ensures) c.again-bits.ensures (c.count_data-in-Cabac.ensures.ok c.args.init.now (length c.again-bits.result.taken) c.again-bits.result.left c.in_ok-reader-in-Cabac.ensures))

pub returns-in_ok-reader-in-Cabac-clause-err : goal.returns-in_ok-reader-in-Cabac-clause-err
returns-in_ok-reader-in-Cabac-clause-err c to sets header bits r =
    let self = c.args.self.now in
    let P : Layer → Bitstream → Type 0 = λ layer b. IfErr c.count_data-in-Cabac.result (IsNoDataRead (HasDataIn layer) (IsDataIn layer c.args.init.now) self.shape (length b.taken) b.left) in
    not_counted to c.args.init.now sets header bits self c.count_data-in-Cabac.result r
    (subst2 P (sym c.in-Cabac.is ∙ c.layer.ensures) c.again-bits.ensures (c.count_data-in-Cabac.ensures.err c.args.init.now (length c.again-bits.result.taken) c.again-bits.result.left c.in_ok-reader-in-Cabac.ensures))
