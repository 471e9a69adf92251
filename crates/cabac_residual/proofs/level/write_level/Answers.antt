use Rattle.std.proofs.Common.{◌≡◌, ◌+◌, ◌-◌, ℕ, unsigned_abs, w32, arith}
use Rattle.std.proofs.lemmas.Int.{to_z-of_z}
use Rattle.binarisation.specs.Codes.{signed}
use Rattle.binarisation.proofs.Numbers.{signed_of-back}
use Rattle.binarisation.proofs.Strings.{writes_then, on_ok}
use Rattle.cabac_residual.specs.Block.{level}
use Rattle.cabac_residual.proofs.level.write_level.Goals as goal

pub returns-clause-writes : goal.returns-clause-writes
unfolding level
returns-clause-writes g c =
    let is = to_z-of_z w32 c.args.value c.ranges.value in
    let absolute = rw is at c.unsigned_abs-magnitude.ensures.value in
    let sign = rw (absolute, is, signed_of-back c.args.value) at c.write_signed.ensures.writes in
    let whole : unsigned_abs c.args.value - 1 + 1 ≡ unsigned_abs c.args.value = omega arith in
    on_ok c.write_signed.result
    (λ written. writes_then g.S.BinSink.step _ (λ (less : ℕ). signed 65535 (less + 1)) (unsigned_abs c.args.value - 1) c.args.value _ _ _
    (rw (c.level_contexts.ensures.contexts, absolute) at c.in_ok-write_ueg.ensures.writes) (rw whole written)) sign
