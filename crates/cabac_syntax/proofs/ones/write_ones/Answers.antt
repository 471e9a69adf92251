use Rattle.bit_texts.proofs.Writing.{Wrote-next}
use Rattle.pcm_samples.proofs.AlignmentLaws.{not_aligned}
use Rattle.cabac_syntax.proofs.WroteLaws.{ones_put}
use Rattle.cabac_syntax.proofs.ones.write_ones.Goals as goal

pub loop-bits-preserved : goal.loop-bits-preserved
loop-bits-preserved g c =
    let bits = g.B.BitSink.bits in
    Wrote-next _ (bits c.loop-bits.bits) (bits c.put.new.self) _ _ _ _ (ones_put _ _ (not_aligned _ c.loop-bits-test.ensures) c.in_ok-put.ensures.ok) c.loop-bits.invariant c.in_ok-put.ensures.ok
