use Rattle.header_parts.specs.declared.fault.HeaderFault.TheVariants.{NoReading}
use Rattle.header_parts.proofs.Loops.{element_most}
use Rattle.header_parts.proofs.read_element.ue_when.Goals as goal

pub returns-clause-most : goal.returns-clause-most
returns-clause-most g c = element_most NoReading c.args.max c.ue.result _ _ c.ue.ensures.reads
