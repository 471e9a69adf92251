use Rattle.std.proofs.Common.{◌∙◌, refl, arith}
use Rattle.exp_golomb.proofs.Places.{window_at, eight_at_once}
use Rattle.exp_golomb.proofs.slice_bits.window_of.Goals as goal

pub returns-in-len9-up : goal.returns-in-len9-up
returns-in-len9-up c =
    let high = c.from_be_bytes-high.ensures ∙ eight_at_once c.args.left.now (λ i. omega (arith, c.type_inv.left i)) in
    c.shifted_window.ensures ∙ window_at c.args.used _ _ c.args.left.now c.requires high refl (omega (arith, c.type_inv.left 8))
