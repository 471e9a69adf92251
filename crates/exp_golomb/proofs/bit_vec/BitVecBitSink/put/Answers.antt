use Rattle.exp_golomb.proofs.BitVecs.{bit_fits, one_bit}
use Rattle.exp_golomb.proofs.bit_vec.BitVecBitSink.put.Goals as goal

pub append-requires-clause-fits : goal.append-requires-clause-fits
append-requires-clause-fits c = bit_fits c.args.bit c.from.result c.from.ensures

pub returns-clause-ok : goal.returns-clause-ok
returns-clause-ok c = one_bit _ _ c.args.bit _ c.append.result c.from.ensures c.append.ensures.ok
