use Rattle.std.proofs.Common.{◌≡◌, ◌+◌, ◌^◌, ◌≤◌, arith}
use Rattle.bit_texts.proofs.Numbers.{pow_most}
use Rattle.binarisation.proofs.CodeSteps.{reads_low_bit, reads_no_low_bit, reads_low_end, below}
use Rattle.binarisation.proofs.codes.read_low_bits.Goals as goal

pub loop-i-preserved : goal.loop-i-preserved
loop-i-preserved g c = record {
  going = c.in_ok-one.ensures.over;
  small = below c.loop-i.value c.loop-i._i _ c.in_ok-one.one c.loop-i.invariant.small c.from.ensures;
  reads = λ result t h. c.loop-i.invariant.reads result t (reads_low_bit g.S.BinSource.step c.loop-i.value c.loop-i._i c.args.n _ c.in_ok-one.one result _ _ t (omega arith) c.from.ensures c.in_ok-one.ensures.step h);
}

pub overflow_mul-value : goal.overflow_mul-value
overflow_mul-value g c =
    let most : 2 ^ c.loop-i._i ≤ 2 ^ 16 = pow_most c.loop-i._i 16 (omega arith) in
    omega (arith, c.loop-i.invariant.small)

pub overflow_add-value : goal.overflow_add-value
overflow_add-value g c =
    let most : 2 ^ (c.loop-i._i + 1) ≤ 2 ^ 16 = pow_most (c.loop-i._i + 1) 16 (omega arith) in
    let small = below c.loop-i.value c.loop-i._i c.from.result c.in_ok-one.one c.loop-i.invariant.small c.from.ensures in
    omega arith

pub returns-in_err-one-clause-reads : goal.returns-in_err-one-clause-reads
returns-in_err-one-clause-reads g c = rw c.from_residual.ensures
    (c.loop-i.invariant.reads _ _ (reads_no_low_bit g.S.BinSource.step c.loop-i.value c.loop-i._i c.args.n _ _ (omega arith) c.in_err-one.ensures.step))

pub returns-clause-reads : goal.returns-clause-reads
returns-clause-reads g c =
    let e : c.loop-i._i ≡ c.args.n = omega arith in
    c.loop-i.invariant.reads _ _ (rw e (reads_low_end g.S.BinSource.step c.loop-i.value c.args.n c.loop-i.s))
