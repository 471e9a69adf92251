use Rattle.h264_types.proofs.Lists.{lists_of}
use Rattle.cavlc_inter.proofs.InterValid.{to_inter, from_inter}
use Rattle.cavlc_inter.proofs.laws.valid_predictions_have_a_text.Goals as goal

pub returns : goal.returns
returns c = λ shape mb sizes ref0. (to_inter shape mb (lists_of mb sizes) ref0, from_inter shape mb)
