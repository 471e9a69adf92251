use Rattle.std.proofs.Common.{unsigned_abs, w32}
use Rattle.std.proofs.lemmas.Int.{to_z-of_z}
use Rattle.binarisation.specs.Codes.{signed}
use Rattle.binarisation.proofs.Numbers.{signed_of-back}
use Rattle.binarisation.proofs.Strings.{writes_then, on_ok}
use Rattle.binarisation.proofs.vectors.write_mvd.Goals as goal

pub returns-clause-writes : goal.returns-clause-writes
returns-clause-writes g c =
    let is = to_z-of_z w32 c.args.value c.ranges.value in
    let absolute = rw is at c.unsigned_abs-magnitude.ensures.value in
    let back = signed_of-back c.args.value in
    let sign = rw (absolute, is, back) at c.write_signed.ensures.writes in
    on_ok c.write_signed.result
    (λ written. writes_then g.S.BinSink.step _ (signed 32767) (unsigned_abs c.args.value) c.args.value _ _ _ (rw (c.from.ensures, absolute) at c.in_ok-write_ueg.ensures.writes) written) sign
