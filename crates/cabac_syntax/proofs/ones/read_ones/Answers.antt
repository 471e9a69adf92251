use Rattle.pcm_samples.proofs.AlignmentLaws.{not_aligned}
use Rattle.cabac_syntax.proofs.Filling.{filled_on, filled_back, not_filled}
use Rattle.cabac_syntax.proofs.ones.read_ones.Goals as goal

pub returns-then-not-branch-clause-ones : goal.returns-then-not-branch-clause-ones
returns-then-not-branch-clause-ones g c = λ rest f.
    not_filled _ _ _ _ rest (not_aligned _ c.loop-bits-test.ensures) (rw c.if-not-branch.true at c.in_ok-read_flag.ensures.reads) c.in_ok-read_flag.ensures.kept (c.loop-bits.invariant.on rest f)

pub loop-bits-preserved : goal.loop-bits-preserved
loop-bits-preserved g c = record {
  on = λ rest f. filled_on _ _ _ _ rest (not_aligned _ c.loop-bits-test.ensures) (rw c.if-not-branch.false at c.in_ok-read_flag.ensures.reads) c.in_ok-read_flag.ensures.kept (c.loop-bits.invariant.on rest f);
  back = λ rest f. c.loop-bits.invariant.back rest (filled_back _ _ _ _ rest (not_aligned _ c.loop-bits-test.ensures) (rw c.if-not-branch.false at c.in_ok-read_flag.ensures.reads) c.in_ok-read_flag.ensures.kept f);
}
