use Rattle.std.proofs.Common.{◌≡◌, ◌∙◌, ◌*◌, ◌+◌, ◌-◌, take, drop, ap, arith}
use Rattle.pcm_samples.proofs.SampleBytes.{eight_number}
use Rattle.pcm_samples.proofs.samples.eight_samples.Goals as goal

pub returns : goal.returns
returns c =
    let size : 8 * c.args.i + 8 - 8 * c.args.i ≡ 8 = omega arith in
    eight_number c.args.samples.now c.copy_from_slice.new.self c.args.i c.from_be_bytes.result c.fits-samples (c.copy_from_slice.ensures.after ∙ ap (λ n. take n (drop (8 * c.args.i) c.args.samples.now)) size) c.copy_from_slice.ensures.len c.from_be_bytes.ensures
