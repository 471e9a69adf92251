use Rattle.cabac_syntax.proofs.WroteLaws.{wrote_first}
use Rattle.cabac_syntax.proofs.out_segment.write_first.Goals as goal

pub returns-clause-wrote : goal.returns-clause-wrote
returns-clause-wrote g c = λ start shape states.
    let bits = g.B.BitSink.bits in
    wrote_first start shape (bits c.args.bits) (bits c.write_ones.new.bits) c.start_segment.result c.in_ok-write_ones.ensures (c.start_segment.ensures.none start states)
