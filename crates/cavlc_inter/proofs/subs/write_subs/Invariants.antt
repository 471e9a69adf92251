use Rattle.std.proofs.Common.{ℕ, drop}
use Rattle.bit_texts.specs.Texts.{Wrote, turns_text}
use Rattle.exp_golomb.specs.Code.{ue}
use Rattle.cavlc_inter.specs.InterPrediction.{subs_text}
use Rattle.cavlc_inter.proofs.subs.write_subs.Given as goal

abbrev pub invariant-loop-sub : goal.invariant-loop-sub
invariant-loop-sub g l = Wrote (g.B.BitSink.bits l.initial.bits) (g.B.BitSink.bits l.bits) (subs_text l.subs) (turns_text (λ (s : ℕ) sub. ue sub) (λ (s sub : ℕ). s) 0 (drop l.sub-index l.subs))
