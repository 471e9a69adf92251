use Rattle.std.proofs.Common.{◌∙◌, ap}
use Rattle.bit_texts.specs.Bits.{bits_of}
use Rattle.param_sets.specs.PpsCodes.{pps_in, pps_text}
use Rattle.param_sets.proofs.TrailingWritten.{payload_ends}
use Rattle.slice_rewrite.proofs.Picked.{has_escape}
use Rattle.stream_recoder.proofs.unit_form.pps_unit.Goals as goal

pub payload_unit-requires : goal.payload_unit-requires
payload_unit-requires c = has_escape c.as_slice.result.now (pps_text (pps_in c.args.to c.args.number c.args.pps.now)) (payload_ends _) (ap bits_of c.as_slice.ensures.value ∙ c.in_ok-payload.ensures)
