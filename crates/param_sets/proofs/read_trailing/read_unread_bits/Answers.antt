use Rattle.std.proofs.Common.{◌≡◌}
use Rattle.param_sets.proofs.Trailing.{all_read, unread_again, unread_without}
use Rattle.param_sets.proofs.read_trailing.read_unread_bits.Goals as goal

pub returns-then-not-drop_trailing_bits : goal.returns-then-not-drop_trailing_bits
returns-then-not-drop_trailing_bits g c =
    let left = g.B.BitSource.left in
    let whole : c.loop-bit.all.items ≡ left c.args.bits.now = all_read _ (left c.loop-bit.bits) _ c.loop-bit.invariant c.in_default.ensures.front in
    rw (← whole) (unread_without _ c.if-not-drop_trailing_bits.ensures)

pub returns : goal.returns
returns g c =
    let left = g.B.BitSource.left in
    let whole : c.loop-bit.all.items ≡ left c.args.bits.now = all_read _ (left c.loop-bit.bits) _ c.loop-bit.invariant c.in_default.ensures.front in
    rw (← whole, c.new.ensures) (unread_again c.loop-bit.all.items c.drop_trailing_bits.new.bits.items c.if-not-drop_trailing_bits.ensures)
