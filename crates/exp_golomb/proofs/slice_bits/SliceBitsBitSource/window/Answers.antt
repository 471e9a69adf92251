use Rattle.std.proofs.Common.{ap, ◌∙◌}
use Rattle.bit_texts.specs.Bits.{number, first}
use Rattle.exp_golomb.proofs.Places.{left_behind}
use Rattle.exp_golomb.proofs.slice_bits.SliceBitsBitSource.window.Goals as goal

pub returns : goal.returns
returns c = c.window_of.ensures ∙ ap (λ t. number (first 64 t)) (left_behind c.self.inside.place c.self.inside.used c.self.inside.bytes.now c.args.self.now c.self.view_is)
