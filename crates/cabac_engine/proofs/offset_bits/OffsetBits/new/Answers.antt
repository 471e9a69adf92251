use Rattle.std.proofs.Common.{arith}
use Rattle.bit_texts.proofs.Numbers.{number-nil}
use Rattle.cabac_engine.proofs.offset_bits.OffsetBits.new.Goals as goal

pub invariant_of-result : goal.invariant_of-result
invariant_of-result g c = (omega arith, omega arith, omega arith, omega (arith, c.from.ensures, c.requires), omega (arith, number-nil))
