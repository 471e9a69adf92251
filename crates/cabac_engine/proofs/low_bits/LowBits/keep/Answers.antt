use Rattle.std.proofs.lemmas.Result.{on_ok_weaker}
use Rattle.cabac_engine.proofs.Registers.{upper_fits, upper_settled, number_of-upper, room_kept}
use Rattle.cabac_engine.proofs.low_bits.LowBits.keep.Goals as goal

pub append-requires-clause-carry : goal.append-requires-clause-carry
append-requires-clause-carry g c = upper_fits _ c.args.gathered c.args.register c.requires.room

pub append-requires-clause-settled : goal.append-requires-clause-settled
append-requires-clause-settled g c = upper_settled _ c.args.gathered c.args.register c.requires.room

pub returns-clause-number : goal.returns-clause-number
returns-clause-number g c = on_ok_weaker c.append.result (number_of-upper _ _ c.args.gathered c.args.register) c.append.ensures.bits

pub returns-clause-room : goal.returns-clause-room
returns-clause-room g c = on_ok_weaker c.append.result (λ ones range fits room. room_kept _ _ c.args.gathered c.args.register range fits room ones) c.append.ensures.settled
