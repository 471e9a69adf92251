use Rattle.bit_texts.proofs.Writing.{Appends-none, Appends-then, Appends-same}
use Rattle.std.proofs.Common.{sym}
use Rattle.cavlc_syntax.proofs.Ends.{stop_parts}
use Rattle.cavlc_syntax.proofs.end.write_end.Goals as goal

pub returns-in_err-put : goal.returns-in_err-put
returns-in_err-put g c = Appends-none _ _ _ _ c.from_residual.ensures.0 c.in_err-put.ensures.err

pub returns : goal.returns
returns g c =
    let bits = g.B.BitSink.bits in
    Appends-same _ _ _ _ _ (sym (stop_parts (bits c.args.bits.now) (bits c.put.new.self) c.in_ok-put.ensures.ok)) (Appends-then _ _ _ _ _ _ c.in_ok-put.ensures.ok c.write_alignment.ensures)
