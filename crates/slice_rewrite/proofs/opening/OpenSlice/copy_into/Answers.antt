-- The data of the slice's layer are copied.
use Rattle.std.proofs.Common.{length, sym, ◌∙◌}
use Rattle.std.specs.Prelude.{IfOk, IfErr}
use Rattle.h264_types.specs.declared.layer.Layer.{Layer}
use Rattle.h264_types.specs.declared.layer.Layer.TheVariants.{Cabac}
use Rattle.slice_rewrite.specs.Layers.{layer_of}
use Rattle.slice_rewrite.specs.SliceForms.{IsCopyIn, IsNoCopyIn, sets_in}
use Rattle.slice_rewrite.proofs.Layers.{cabac_shape}
use Rattle.slice_rewrite.proofs.SliceForms.{built_as, shape_built, subst2}
use Rattle.exp_golomb.specs.Bitstream.{Bitstream}
use Rattle.slice_rewrite.proofs.opening.OpenSlice.copy_into.Goals as goal

pub start-requires : goal.start-requires
start-requires g c =
    let self = c.args.self.now in
    let o = c.requires.opened in
    (shape_built o.0 o.1 o.2 o.3 self o.4).is_shape

pub start-requires-in-Cabac : goal.start-requires-in-Cabac
start-requires-in-Cabac g c =
    let self = c.args.self.now in
    let o = c.requires.opened in
    let is = shape_built o.0 o.1 o.2 o.3 self o.4 in
    cabac_shape self.shape (built_as (layer_of (sets_in self)) Cabac self.shape (sym c.layer.ensures ∙ c.in-Cabac.is) is.is_shape is.built)

pub copy_data-requires-clause-stand : goal.copy_data-requires-clause-stand
copy_data-requires-clause-stand g c =
    let w = c.requires.writes in
    (c.args.init.now, w.0, length c.again-bits.result.taken, c.again-bits.result.left, w.1, w.2, c.in_ok-reader-in-Cavlc.ensures.stands, w.3)

pub copy_data-requires-in-Cabac-clause-stand : goal.copy_data-requires-in-Cabac-clause-stand
copy_data-requires-in-Cabac-clause-stand g c =
    let w = c.requires.writes in
    (c.args.init.now, w.0, length c.again-bits.result.taken, c.again-bits.result.left, w.1, w.2, c.in_ok-reader-in-Cabac.ensures, w.3)

pub returns-in_ok-reader-in-Cavlc-clause-ok : goal.returns-in_ok-reader-in-Cavlc-clause-ok
returns-in_ok-reader-in-Cavlc-clause-ok g c shape before other wrote =
    let self = c.args.self.now in
    let W = g.W.SliceWriter in
    let P : Layer → Bitstream → Type 0 = λ layer bits. IfOk c.copy_data.result (λ copy. IsCopyIn layer c.args.init.now (W.is_data c.args.init.now) W.LAYER self.shape shape (length bits.taken) bits.left before (g.W.Sink.BitSink.bits copy.0) copy.1) in
    subst2 P (sym c.in-Cavlc.is ∙ c.layer.ensures) c.again-bits.ensures (c.copy_data.ensures.ok c.args.init.now shape (length c.again-bits.result.taken) c.again-bits.result.left before other c.in_ok-reader-in-Cavlc.ensures.stands wrote)

pub returns-in_ok-reader-in-Cavlc-clause-err : goal.returns-in_ok-reader-in-Cavlc-clause-err
returns-in_ok-reader-in-Cavlc-clause-err g c =
    let self = c.args.self.now in
    let P : Layer → Bitstream → Type 0 = λ layer bits. IfErr c.copy_data.result (IsNoCopyIn layer c.args.init.now g.W.SliceWriter.LAYER self.shape (length bits.taken) bits.left) in
    subst2 P (sym c.in-Cavlc.is ∙ c.layer.ensures) c.again-bits.ensures (c.copy_data.ensures.err c.args.init.now (length c.again-bits.result.taken) c.again-bits.result.left c.in_ok-reader-in-Cavlc.ensures.stands)

pub returns-in_ok-reader-in-Cabac-clause-ok : goal.returns-in_ok-reader-in-Cabac-clause-ok
returns-in_ok-reader-in-Cabac-clause-ok g c shape before other wrote =
    let self = c.args.self.now in
    let W = g.W.SliceWriter in
    let P : Layer → Bitstream → Type 0 = λ layer bits. IfOk c.copy_data-in-Cabac.result (λ copy. IsCopyIn layer c.args.init.now (W.is_data c.args.init.now) W.LAYER self.shape shape (length bits.taken) bits.left before (g.W.Sink.BitSink.bits copy.0) copy.1) in
    subst2 P (sym c.in-Cabac.is ∙ c.layer.ensures) c.again-bits.ensures (c.copy_data-in-Cabac.ensures.ok c.args.init.now shape (length c.again-bits.result.taken) c.again-bits.result.left before other c.in_ok-reader-in-Cabac.ensures wrote)

pub returns-in_ok-reader-in-Cabac-clause-err : goal.returns-in_ok-reader-in-Cabac-clause-err
returns-in_ok-reader-in-Cabac-clause-err g c =
    let self = c.args.self.now in
    let P : Layer → Bitstream → Type 0 = λ layer bits. IfErr c.copy_data-in-Cabac.result (IsNoCopyIn layer c.args.init.now g.W.SliceWriter.LAYER self.shape (length bits.taken) bits.left) in
    subst2 P (sym c.in-Cabac.is ∙ c.layer.ensures) c.again-bits.ensures (c.copy_data-in-Cabac.ensures.err c.args.init.now (length c.again-bits.result.taken) c.again-bits.result.left c.in_ok-reader-in-Cabac.ensures)
