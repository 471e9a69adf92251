use Rattle.std.proofs.Common.{length, sym, ◌∙◌}
use Rattle.bit_texts.proofs.LastBit.{EndsInOne-from_last_bit}
use Rattle.cabac_syntax.proofs.Filling.{tail_none, tail_in, tail_of}
use Rattle.cabac_syntax.proofs.tail.read_tail.Goals as goal

pub returns-in_default : goal.returns-in_default
returns-in_default g c = λ one. tail_none (length (g.B.BitSource.taken c.args.bits.now)) (g.B.BitSource.left c.args.bits.now) c.in_default.ensures

pub returns-in-Some-read_zero_words : goal.returns-in-Some-read_zero_words
returns-in-Some-read_zero_words g c =
    let words = c.in-Some-read_zero_words.ensures in (
      EndsInOne-from_last_bit (g.B.BitSource.taken c.args.bits.now) (sym c.last_taken.ensures ∙ c.if-not-last_taken.false),
      tail_in (length (g.B.BitSource.taken c.args.bits.now)) (length (g.B.BitSource.taken c.read_alignment.new.bits)) (g.B.BitSource.left c.args.bits.now) (g.B.BitSource.left c.read_alignment.new.bits) c.in-Some.ensures words.0,
      words.1,
    )

pub returns-in-None : goal.returns-in-None
returns-in-None g c = λ one tail.
    c.in-None.ensures
    (tail_of (length (g.B.BitSource.taken c.args.bits.now)) (length (g.B.BitSource.taken c.read_alignment.new.bits)) (g.B.BitSource.left c.args.bits.now) (g.B.BitSource.left c.read_alignment.new.bits) c.in-Some.ensures tail)
