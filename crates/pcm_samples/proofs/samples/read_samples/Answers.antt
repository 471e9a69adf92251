use Rattle.std.proofs.Common.{◌≡◌, ◌∙◌, ℕ, ◌*◌, ◌+◌, ◌-◌, ◌≤◌, ◌++◌, drop, List, sym, ap, arith, take, length, length-append, length-drop}
use borrow.Rule.Slice.PartMut.{put_mid, post_of}
use Rattle.std.proofs.lemmas.List.{length-take-le}
use Rattle.std.specs.Int.{bytes_high_first}
use Rattle.bit_texts.specs.Bits.{bits_of}
use Rattle.std.proofs.lemmas.Slice.{take-put_mid}
use Rattle.std.proofs.lemmas.List.Elements.{All-append, All-same}
use Rattle.pcm_samples.proofs.SampleBytes.{samples_cut, samples_next, window_bits, high_first-most}
use Rattle.pcm_samples.proofs.samples.read_samples.Goals as goal

pub returns-then-not-skip-clause-reads : goal.returns-then-not-skip-clause-reads
returns-then-not-skip-clause-reads g c v more are e =
    samples_cut _ _ more c.loop-i.samples v c.loop-i.i c.loop-i.invariant.count c.loop-i-test.true c.loop-i.invariant.text c.if-not-skip.ensures.skipped.0 are e

same_count : (a k : ℕ) (xs ys : List ℕ) → a + k ≤ length xs → length ys ≡ k → length (put_mid a k xs ys) ≡ length xs
same_count a k xs ys h e =
    omega (arith, e, length-append (take a xs) (ys ++ post_of a k xs), length-append ys (post_of a k xs), length-take-le a xs (omega arith), length-drop k (drop a xs), length-drop a xs)

pub loop-i-preserved : goal.loop-i-preserved
loop-i-preserved g c =
    let at : ℕ = 8 * c.loop-i.i in
    let k : ℕ = 8 * c.loop-i.i + 8 - 8 * c.loop-i.i in
    let old = c.loop-i.samples in
    let eight = c.copy_from_slice.new.self in
    let left = g.B.BitSource.left in
    let kept = c.loop-i.invariant in
    let is : eight ≡ bytes_high_first 8 c.window.result = c.copy_from_slice.ensures.after ∙ c.to_be_bytes-eight.ensures in
    let size : length eight ≡ 8 = ap length is in
    let within : at ≤ length old = omega (arith, kept.count, c.loop-i-test.true) in
    let now : take (8 * (c.loop-i.i + 1)) (put_mid at k old eight) ≡ take at old ++ eight = take-put_mid at k old eight (8 * (c.loop-i.i + 1)) (omega (arith, size)) within in
    let read = window_bits c.window.result (left c.loop-i.bits) (left c.skip.new.self) c.window.ensures c.if-not-skip.ensures.skipped.0 c.if-not-skip.ensures.skipped.1 in
    record {
      count = same_count at k old eight (omega (arith, kept.count, c.loop-i-test.true)) (omega (arith, size)) ∙ kept.count;
      bytes = All-same (λ sample. sample ≤ 255) _ _ now (All-append (λ sample. sample ≤ 255) (take at old) eight kept.bytes (All-same (λ sample. sample ≤ 255) _ _ is (high_first-most 8 c.window.result)));
      text = samples_next _ (left c.loop-i.bits) (left c.skip.new.self) (take at old) eight _ kept.text (read ∙ ap (λ xs. bits_of xs ++ left c.skip.new.self) (sym is)) now;
      kept = c.skip.ensures.kept ∙ kept.kept;
    }
