use Rattle.bit_texts.proofs.Writing.{Appends-then, Appends-stop}
use Rattle.cavlc_macroblock.specs.MacroblockLayer.{layer_text}
use Rattle.cavlc_macroblock.proofs.LayerChain.{coding_of_layer}
use Rattle.cavlc_macroblock.proofs.layer.write_layer.Goals as goal

pub write_coding-requires-clause-sent : goal.write_coding-requires-clause-sent
write_coding-requires-clause-sent g c = coding_of_layer c.args.shape.now c.args.mb.now.field 20 c.args.mb.now c.requires.layer

pub returns-in_err-write_prediction : goal.returns-in_err-write_prediction
unfolding layer_text
returns-in_err-write_prediction g c = Appends-stop _ _ _ _ _ _ c.from_residual.ensures.0 c.in_err-write_prediction.ensures.1

pub returns : goal.returns
unfolding layer_text
returns g c = Appends-then _ _ _ _ _ _ c.in_ok-write_prediction.ensures c.write_coding.ensures
