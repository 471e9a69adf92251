use Rattle.std.proofs.Common.{◌≡◌, ◌∙◌, sym, arith, append_assoc}
use Rattle.std.proofs.lemmas.List.{append-nil}
use Rattle.param_sets.proofs.Trailing.{no_trailing, no_trailing_in_zeros, none_popped, one_more_zero}
use Rattle.param_sets.proofs.read_trailing.drop_trailing_bits.Goals as goal

pub loop-zeros-init : goal.loop-zeros-init
loop-zeros-init c = sym (append-nil c.args.bits.now.items)

pub returns-in-Some-true : goal.returns-in-Some-true
returns-in-Some-true c =
    let popped = rw c.in-Some-true.field-0-test at c.in-Some-true.ensures.items in
    (c.loop-zeros._zeros, c.loop-zeros-test.true, c.loop-zeros.invariant ∙ rw popped (append_assoc c.pop.new.self.items _ _))

pub returns-in-None : goal.returns-in-None
returns-in-None c = λ rest ends.
    let none = none_popped c.loop-zeros.bits.items (λ some. c.in-None.ensures.variant.1 (omega (arith, c.loop-zeros.bits.ok))) in
    no_trailing_in_zeros _ rest c.loop-zeros._zeros (rw none at c.loop-zeros.invariant) ends

pub loop-zeros-preserved : goal.loop-zeros-preserved
loop-zeros-preserved c =
    let popped = rw c.in-Some-false.field-0-test at c.in-Some-false.ensures.items in
    one_more_zero _ _ c.pop.new.self.items c.loop-zeros._zeros c.loop-zeros.invariant popped

pub returns : goal.returns
returns c = λ rest ends.
    let all : c.loop-zeros._zeros ≡ 8 = omega arith in
    no_trailing _ c.loop-zeros.bits.items rest (rw all at c.loop-zeros.invariant) ends
