use Rattle.std.proofs.Common.{arith}
use Rattle.cabac_interval.proofs.Rows.{trans_within}
use Rattle.cabac_interval.proofs.tables.trans_lps.Goals as goal

pub returns-clause-state : goal.returns-clause-state
returns-clause-state c = omega (arith, trans_within c.args.p c.requires)
