use Rattle.std.proofs.Common.{◌≡◌, ◌<◌, unsigned_abs, w32, arith}
use Rattle.std.proofs.lemmas.Int.{to_z-of_z}
use Rattle.binarisation.proofs.Strings.{on_ok}
use Rattle.cabac_residual.proofs.Blocks.{writes_zero, writes_level}
use Rattle.cabac_residual.proofs.level.write_level_at.Goals as goal

pub returns-then-unsigned_abs-eq0-clause-writes : goal.returns-then-unsigned_abs-eq0-clause-writes
returns-then-unsigned_abs-eq0-clause-writes g c =
    let is = to_z-of_z w32 c.args.value c.ranges.value in
    let absolute = rw is at c.unsigned_abs.ensures.value in
    let zero : unsigned_abs c.args.value ≡ 0 = omega (arith, absolute, c.if-unsigned_abs-eq0.true) in
    writes_zero g.S.BinSink.step c.args.cat c.args.counts c.args.value _ zero

pub returns-clause-writes : goal.returns-clause-writes
returns-clause-writes g c =
    let is = to_z-of_z w32 c.args.value c.ranges.value in
    let absolute = rw is at c.unsigned_abs.ensures.value in
    let some : 0 < unsigned_abs c.args.value = omega (arith, absolute, c.if-unsigned_abs-eq0.false) in
    let written = rw is at c.write_level.ensures.writes in
    on_ok c.write_level.result (λ written. writes_level g.S.BinSink.step c.args.cat c.args.counts c.args.value _ _ some written) written
