use Rattle.std.proofs.Common.{◌≡◌, ◌<◌, ◌^◌, map, take}
use Rattle.bit_texts.specs.Bits.{binary}
use Rattle.cavlc_residual.specs.Coefficients.{is_minus}
use Rattle.cavlc_residual.proofs.writing.signs_of.Given as goal

abbrev pub invariant-loop-i : goal.invariant-loop-i
invariant-loop-i l = record {
  bits : binary l.i l.signs ≡ map is_minus (take l.i l.ones);
  fits : l.signs < 2 ^ l.i;
}
