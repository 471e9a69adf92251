use Rattle.std.proofs.Common.{◌∙◌, sym, refl}
use Rattle.pcm_samples.proofs.AlignmentLaws.{not_aligned, aligned_cut, aligned_by_one, aligned_later, aligned_here}
use Rattle.pcm_samples.proofs.alignment.read_alignment.Goals as goal

pub returns-in_err-read_flag : goal.returns-in_err-read_flag
returns-in_err-read_flag g c =
    rw c.from_residual.ensures (sym c.loop-bits.invariant ∙ aligned_cut _ (not_aligned _ c.loop-bits-test.ensures) c.in_err-read_flag.ensures.element)

pub returns-then-branch : goal.returns-then-branch
returns-then-branch g c =
    sym c.loop-bits.invariant ∙ aligned_by_one _ _ (not_aligned _ c.loop-bits-test.ensures) (rw c.if-branch.true at c.in_ok-read_flag.ensures.element)

pub loop-bits-preserved : goal.loop-bits-preserved
loop-bits-preserved g c =
    sym (aligned_later _ _ (not_aligned _ c.loop-bits-test.ensures) (rw c.if-branch.false at c.in_ok-read_flag.ensures.element)) ∙ c.loop-bits.invariant

pub returns : goal.returns
returns g c = sym c.loop-bits.invariant ∙ aligned_here _ (c.loop-bits-test.ensures.0 refl)
