use Rattle.bit_texts.proofs.Writing.{Appends-all_or_none}
use Rattle.header_parts.proofs.write_element.write_flag.Goals as goal

pub returns : goal.returns
returns g c = Appends-all_or_none _ _ _ c.put.result c.put.ensures.ok c.put.ensures.err
