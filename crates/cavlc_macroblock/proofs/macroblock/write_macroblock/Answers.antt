use Rattle.std.proofs.Common.{length, ap, sym, ◌∙◌, length-append}
use Rattle.bit_texts.proofs.Writing.{Appends-stop, Appends-then, Appends-same}
use Rattle.cavlc_macroblock.specs.Macroblock.{macroblock_text}
use Rattle.cavlc_macroblock.specs.MbType.{type_text}
use Rattle.cavlc_macroblock.proofs.Layers.{sent_layer, written_pcm, written_layer}
use Rattle.cavlc_macroblock.proofs.macroblock.write_macroblock.Goals as goal

pub write_layer-requires-clause-layer : goal.write_layer-requires-clause-layer
write_layer-requires-clause-layer g c = sent_layer c.args.shape.now c.args.mb.now.field 20 c.args.mb.now (sym c.if-is_i_pcm.ensures) c.requires.sent

pub returns-in_err-write_type : goal.returns-in_err-write_type
unfolding macroblock_text
returns-in_err-write_type g c = let put = c.in_err-write_type.ensures in Appends-stop _ _ _ _ put.0 _ c.from_residual.ensures.0 put.1

pub returns-then-is_i_pcm : goal.returns-then-is_i_pcm
unfolding macroblock_text
returns-then-is_i_pcm g c =
    let old = g.B.BitSink.bits c.args.bits.now in
    let mb = c.args.mb.now in
    let far = ap length c.in_ok-write_type.ensures.is ∙ length-append old (type_text c.args.shape.now.kind mb) in
    Appends-then _ _ _ _ _ _ c.in_ok-write_type.ensures (Appends-same _ _ _ _ _ (written_pcm c.args.shape.now c.args.around.now _ _ mb far c.if-is_i_pcm.ensures) c.write_pcm.ensures)

pub returns-else-is_i_pcm : goal.returns-else-is_i_pcm
unfolding macroblock_text
returns-else-is_i_pcm g c =
    let mb = c.args.mb.now in
    Appends-then _ _ _ _ _ _ c.in_ok-write_type.ensures (Appends-same _ _ _ _ _ (written_layer c.args.shape.now c.args.around.now _ mb c.if-is_i_pcm.ensures) c.write_layer.ensures)
