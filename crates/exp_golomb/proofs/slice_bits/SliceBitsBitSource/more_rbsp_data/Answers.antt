use Rattle.std.proofs.Common.{take, drop, length, ◌≡◌, ◌-◌, ◌*◌, ◌%◌, ◌^◌, false, eqb, ap, get_or, refl, arith}
use Rattle.std.proofs.lemmas.Bool.Decides.{nat_tests}
use Rattle.std.proofs.lemmas.Nat.{one_shl}
use Rattle.bit_texts.specs.Bits.{more_data}
use Rattle.bit_texts.proofs.Bytes.{more_data-front}
use Rattle.exp_golomb.proofs.Places.{left_behind, none_left, none_behind}
use Rattle.exp_golomb.proofs.slice_bits.SliceBitsBitSource.more_rbsp_data.Goals as goal

pub returns-then-others-ne0 : goal.returns-then-others-ne0
returns-then-others-ne0 c =
    let k = c.self.inside.used in
    let bytes = take (length c.self.inside.bytes.now - c.self.inside.place) (drop c.self.inside.place c.self.inside.bytes.now) in
    let left = ap more_data (left_behind c.self.inside.place k c.self.inside.bytes.now c.args.self.now c.self.view_is) in
    let mask : (1 * 2 ^ (7 - k)) % 256 ≡ 2 ^ (7 - k) = one_shl (7 - k) 8 (omega arith) in
    let others = rw mask at c.if-others-ne0.true in
    let some : eqb (get_or bytes 0 0 % 2 ^ (7 - k)) 0 ≡ false = grind (arith, nat_tests) in
    rw (← left, more_data-front k bytes c.self.invariant.0 c.in-len1-up.len_at_least, mask, some) refl

pub returns-else-others-ne0 : goal.returns-else-others-ne0
returns-else-others-ne0 c =
    let k = c.self.inside.used in
    let bytes = take (length c.self.inside.bytes.now - c.self.inside.place) (drop c.self.inside.place c.self.inside.bytes.now) in
    let left = ap more_data (left_behind c.self.inside.place k c.self.inside.bytes.now c.args.self.now c.self.view_is) in
    let mask : (1 * 2 ^ (7 - k)) % 256 ≡ 2 ^ (7 - k) = one_shl (7 - k) 8 (omega arith) in
    let others = rw mask at c.if-others-ne0.false in
    rw (← left, more_data-front k bytes c.self.invariant.0 c.in-len1-up.len_at_least, others, c.any_one.ensures) refl

pub returns-in_default : goal.returns-in_default
returns-in_default c =
    let none = none_left c.self.inside.place c.self.inside.used c.self.inside.bytes.now c.args.self.now c.self.view_is (none_behind c.self.inside.place c.self.inside.bytes.now c.in_default.len_below (omega (arith, c.self.invariant))) in
    rw none refl
