use Rattle.bit_texts.proofs.Writing.{Appends-all_or_none}
use Rattle.cavlc_macroblock.proofs.transform_size.write_t8_if.Goals as goal

pub returns-then-sent : goal.returns-then-sent
returns-then-sent g c = rw c.if-sent.true (Appends-all_or_none _ _ _ _ c.put.ensures.ok c.put.ensures.err)
