use Rattle.std.proofs.Common.{ℕ, refl, arith}
use Rattle.exp_golomb.specs.Code.{ue}
use Rattle.bit_texts.proofs.Turns.{Wrote-turn, Wrote-turn_stop, Wrote-turns_end}
use Rattle.bit_texts.proofs.Writing.{Appends-Err}
use Rattle.cavlc_inter.proofs.subs.write_subs.Goals as goal

pub returns-in_err-write_ue : goal.returns-in_err-write_ue
returns-in_err-write_ue g c =
    Appends-Err _ _ _ _ _ c.from_residual.ensures.0
    (Wrote-turn_stop (λ (s : ℕ) sub. ue sub) (λ (s sub : ℕ). s) 0 c.args.subs.now c.loop-sub.sub-index 0 c.from.result _ _ _ _ _ (omega (arith, c.loop-sub-test.true, c.told-subs)) c.from.ensures c.loop-sub.invariant c.in_err-write_ue.ensures.1)

pub loop-sub-preserved : goal.loop-sub-preserved
loop-sub-preserved g c =
    Wrote-turn (λ (s : ℕ) sub. ue sub) (λ (s sub : ℕ). s) 0 0 c.args.subs.now c.loop-sub.sub-index 0 c.from.result _ _ _ _ (omega (arith, c.loop-sub-test.true, c.told-subs)) c.from.ensures refl c.loop-sub.invariant c.in_ok-write_ue.ensures

pub returns : goal.returns
returns g c =
    Wrote-turns_end (λ (s : ℕ) sub. ue sub) (λ (s sub : ℕ). s) 0 c.args.subs.now c.loop-sub.sub-index _ _ _ (omega (arith, c.loop-sub-test.false, c.told-subs)) c.loop-sub.invariant
