use Rattle.param_sets.proofs.TrailingWritten.{payload_written}
use Rattle.param_sets.proofs.write_pps_text.write_pps.Goals as goal

pub returns : goal.returns
returns c = payload_written c.new-out.ensures c.in_ok-write_fields.ensures c.in_ok-write_trailing_bits.ensures c.into_bytes.ensures
