use Rattle.h264_types.proofs.SliceLaws.{inferred_field-append}
use Rattle.mbaff_infer.proofs.laws.the_pairs_before_are_enough.Goals as goal

pub returns : goal.returns
returns c = inferred_field-append
