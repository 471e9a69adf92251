use Rattle.bit_texts.proofs.Writing.{Appends-all_or_none}
use Rattle.exp_golomb.proofs.bit_vec.BitVecBitSink.put_bits.Goals as goal

pub returns : goal.returns
returns c = Appends-all_or_none _ _ _ c.append.result c.append.ensures.ok c.append.ensures.err
