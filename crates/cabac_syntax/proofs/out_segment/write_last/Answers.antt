use Rattle.cabac_contexts.specs.States.{state_of}
use Rattle.cabac_syntax.proofs.WroteLaws.{wrote_end, wrote_all}
use Rattle.cabac_syntax.proofs.out_segment.write_last.Goals as goal

pub returns : goal.returns
returns g c = λ start shape before done w.
    let bits = g.B.BitSink.bits in
    let ended = wrote_end start shape before done c.args.coder c.end.new.self w c.in_ok-end.ensures.step in
    wrote_all start shape before done c.end.new.self (bits c.in_ok-bits.bits) (bits c.write_alignment.new.bits) ended (c.in_ok-bits.ensures.code ended.sunk (state_of start ended.earlier) ended.current ended.taken) c.in_ok-write_alignment.ensures
