use Rattle.std.proofs.Common.{refl, arith}
use Rattle.cavlc_mb_residual.proofs.Zeros.{none_sent}
use Rattle.cavlc_mb_residual.proofs.counts.quarter_counts.Goals as goal

pub returns-then-not-some-clause-value : goal.returns-then-not-some-clause-value
returns-then-not-some-clause-value c =
    let mb = c.args.mb.now in
    let none = c.requires.none c.if-not-some.true in
    rw (none_sent mb c.args.q 0 (omega arith) none, none_sent mb c.args.q 1 (omega arith) none, none_sent mb c.args.q 2 (omega arith) none, none_sent mb c.args.q 3 (omega arith) none) refl
