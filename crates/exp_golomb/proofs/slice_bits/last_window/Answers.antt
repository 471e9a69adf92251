use Rattle.std.proofs.Common.{◌∙◌, arith}
use Rattle.exp_golomb.proofs.Places.{window_at}
use Rattle.exp_golomb.proofs.slice_bits.last_window.Goals as goal

pub returns : goal.returns
returns c = c.shifted_window.ensures ∙ window_at c.args.used c.eight_bytes-high.result c.byte_at-next.result c.args.left.now c.requires c.eight_bytes-high.ensures c.byte_at-next.ensures (omega (arith, c.type_inv.left 8))
