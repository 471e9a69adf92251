use Rattle.std.proofs.Common.{[]}
use Rattle.bit_texts.specs.Bits.{bits_of}
use Rattle.exp_golomb.specs.Syntax.{outcome_of, Answers}
use Rattle.param_sets.specs.Refusal.{sps_says}
use Rattle.param_sets.specs.SequenceParameterSet.{seq_parameter_set}
use Rattle.param_sets.proofs.SetLaws.{sps_reads, sps_in_range}
use Rattle.param_sets.proofs.read_sps_text.read_sps.Goals as goal

pub returns-clause-reads : goal.returns-clause-reads
returns-clause-reads c =
    let exact : Answers sps_says (λ x. x) c.read_whole.result [] (outcome_of seq_parameter_set (bits_of c.args.payload.now)) = rw (← c.new-bits.ensures.left) c.read_whole.ensures in
    sps_reads c.read_whole.result _ exact

pub returns-clause-in_range : goal.returns-clause-in_range
returns-clause-in_range c =
    let exact : Answers sps_says (λ x. x) c.read_whole.result [] (outcome_of seq_parameter_set (bits_of c.args.payload.now)) = rw (← c.new-bits.ensures.left) c.read_whole.ensures in
    sps_in_range c.read_whole.result _ exact
