use Rattle.init_table.proofs.Digits.{AreRead}
use Rattle.init_table.proofs.numbers.magnitude.Given as goal

abbrev pub invariant-loop-byte : goal.invariant-loop-byte
invariant-loop-byte l = AreRead l.digits l.byte-index l.value
