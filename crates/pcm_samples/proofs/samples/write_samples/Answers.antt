use Rattle.std.proofs.Common.{◌*◌, ◌+◌, arith}
use Rattle.bit_texts.proofs.Writing.{Wrote-next, Wrote-stop, Appends-Err}
use Rattle.pcm_samples.proofs.SampleBytes.{samples_from}
use Rattle.pcm_samples.proofs.samples.write_samples.Goals as goal

pub loop-i-preserved : goal.loop-i-preserved
loop-i-preserved g c =
    let bits = g.B.BitSink.bits in
    Wrote-next _ (bits c.loop-i.bits) (bits c.put_bits.new.self) _ _ _ _ (samples_from c.args.samples.now c.loop-i.i (8 * (c.loop-i.i + 1)) c.eight_samples.result (omega arith) c.eight_samples.ensures) c.loop-i.invariant c.in_ok-put_bits.ensures

pub returns-in_err-put_bits : goal.returns-in_err-put_bits
returns-in_err-put_bits g c =
    let bits = g.B.BitSink.bits in
    let put = c.in_err-put_bits.ensures in
    Appends-Err _ _ _ _ _ c.from_residual.ensures.0
    (Wrote-stop _ (bits c.loop-i.bits) (bits c.put_bits.new.self) _ _ _ _ put.0 (samples_from c.args.samples.now c.loop-i.i (8 * (c.loop-i.i + 1)) c.eight_samples.result (omega arith) c.eight_samples.ensures) c.loop-i.invariant put.1)
