use Rattle.cabac_interval.proofs.Rows.{lps_bounds, lps_rest}
use Rattle.cabac_interval.proofs.tables.range_lps.Goals as goal

pub returns-clause-low : goal.returns-clause-low
returns-clause-low c = (lps_bounds c.args.p c.args.quarter c.requires.state c.requires.quarter).0

pub returns-clause-high : goal.returns-clause-high
returns-clause-high c = (lps_bounds c.args.p c.args.quarter c.requires.state c.requires.quarter).1

pub returns-clause-rest : goal.returns-clause-rest
returns-clause-rest c = lps_rest c.args.p c.args.quarter c.requires.state c.requires.quarter
