use Rattle.std.proofs.Common.{[]}
use Rattle.bit_texts.specs.Bits.{bits_of}
use Rattle.exp_golomb.specs.Syntax.{outcome_of, Answers}
use Rattle.param_sets.specs.Refusal.{pps_says}
use Rattle.param_sets.specs.PictureParameterSet.{pic_parameter_set}
use Rattle.param_sets.proofs.SetLaws.{pps_reads, pps_in_range}
use Rattle.param_sets.proofs.read_pps_text.read_pps.Goals as goal

pub returns-clause-reads : goal.returns-clause-reads
returns-clause-reads c =
    let exact : Answers pps_says (λ x. x) c.read_whole.result [] (outcome_of pic_parameter_set (bits_of c.args.payload.now)) = rw (← c.new-bits.ensures.left) c.read_whole.ensures in
    pps_reads c.read_whole.result _ exact

pub returns-clause-in_range : goal.returns-clause-in_range
returns-clause-in_range c =
    let exact : Answers pps_says (λ x. x) c.read_whole.result [] (outcome_of pic_parameter_set (bits_of c.args.payload.now)) = rw (← c.new-bits.ensures.left) c.read_whole.ensures in
    pps_in_range c.read_whole.result _ exact
