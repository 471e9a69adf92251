use Rattle.std.proofs.Common.{◌≡◌, ◌+◌, ap, sum, arith}
use Rattle.std.proofs.lemmas.List.Sums.{sum_by_push}
use Rattle.cabac_engine.proofs.Carries.{released}
use Rattle.cabac_engine.proofs.pending_bits.release.Goals as goal

pub loop-count-preserved : goal.loop-count-preserved
loop-count-preserved g c =
    let rest = c.pop.new.self.items in
    let total : c.in-Some.count + sum rest ≡ sum c.loop-count.outstanding.items = let e = ap sum c.in-Some.ensures.items in omega (arith, e, sum_by_push (λ x. x) rest c.in-Some.count) in
    released (g.B.BitSink.bits c.loop-count.sink) _ _ c.in-Some.count (sum rest) (sum c.loop-count.outstanding.items) c.args.bit c.in_ok-put_times.ensures total c.loop-count.invariant
