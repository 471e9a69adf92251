use Rattle.cavlc_macroblock.proofs.ElementLaws.{pattern_is_read, no_pattern_is_read}
use Rattle.bit_texts.proofs.Reading.{Reads-None}
use Rattle.cavlc_macroblock.proofs.pattern.read_pattern.Goals as goal

pub returns-clause-reads : goal.returns-clause-reads
returns-clause-reads g c =
    pattern_is_read c.args.is_nxn c.in_ok-place.place c.pattern_of.result _ _ c.in_ok-place.ensures.reads.0 c.in_ok-place.ensures.reads.1 c.pattern_of.ensures

pub returns-in_err-place-clause-reads : goal.returns-in_err-place-clause-reads
returns-in_err-place-clause-reads g c =
    Reads-None _ _ _ _ _ c.from_residual.ensures (no_pattern_is_read c.args.is_nxn _ (g.B.BitSource.left c.read_ue.new.b) c.in_err-place.ensures.reads)
