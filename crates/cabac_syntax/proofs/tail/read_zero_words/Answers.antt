use Rattle.cabac_syntax.proofs.Filling.{words_one, words_short, words_less, words_more}
use Rattle.cabac_syntax.proofs.tail.read_zero_words.Goals as goal

pub returns-then-first : goal.returns-then-first
returns-then-first g c = λ w. words_one _ (g.B.BitSource.left c.bit.new.self) (rw c.if-first.true at c.in-Some.ensures.bit) (c.loop-first.invariant.on w)

pub returns-in_err-others : goal.returns-in_err-others
returns-in_err-others g c =
    rw c.from_residual.ensures
    (λ w. words_short _ (g.B.BitSource.left c.bit.new.self) (rw c.if-first.false at c.in-Some.ensures.bit) c.in_err-others.ensures.reads (c.loop-first.invariant.on w))

pub returns-then-others-ne0 : goal.returns-then-others-ne0
returns-then-others-ne0 g c = λ w.
    let read = c.in_ok-others.ensures.reads in
    c.if-others-ne0.true (words_less _ (g.B.BitSource.left c.bit.new.self) (g.B.BitSource.left c.read_u.new.b) c.in_ok-others.others (rw c.if-first.false at c.in-Some.ensures.bit) read.0 read.1 (c.loop-first.invariant.on w)).0

pub loop-first-preserved : goal.loop-first-preserved
loop-first-preserved g c =
    let read = c.in_ok-others.ensures.reads in
    let bit = rw c.if-first.false at c.in-Some.ensures.bit in
    record {
      on = λ w. (words_less _ (g.B.BitSource.left c.bit.new.self) (g.B.BitSource.left c.read_u.new.b) c.in_ok-others.others bit read.0 read.1 (c.loop-first.invariant.on w)).1;
      back = λ w. c.loop-first.invariant.back (words_more _ (g.B.BitSource.left c.bit.new.self) (g.B.BitSource.left c.read_u.new.b) c.in_ok-others.others bit read.1 c.if-others-ne0.false w);
    }
