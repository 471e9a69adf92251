use Rattle.std.proofs.Common.{◌∙◌, ap}
use Rattle.bit_texts.specs.Bits.{bits_of}
use Rattle.param_sets.specs.SpsCodes.{sps_text, without_constraints}
use Rattle.param_sets.proofs.TrailingWritten.{payload_ends}
use Rattle.slice_rewrite.proofs.Picked.{has_escape}
use Rattle.stream_recoder.proofs.unit_form.sps_unit.Goals as goal

pub payload_unit-requires : goal.payload_unit-requires
payload_unit-requires c = has_escape c.as_slice.result.now (sps_text (without_constraints c.args.sps)) (payload_ends _) (ap bits_of c.as_slice.ensures.value ∙ c.in_ok-payload.ensures ∙ ap sps_text c.constrained-written.ensures)
