use Rattle.std.proofs.Common.{ap, arith}
use Rattle.annexb_units.specs.Parts.{Parts}
use Rattle.annexb_units.specs.Splitter.{parts}
use Rattle.annexb_units.proofs.Steps.{goes_on, by_run, good-inside}
use Rattle.annexb_units.proofs.splitter.Splitter.keep_run.Goals as goal

pub returns-in-Ok-clause-ok : goal.returns-in-Ok-clause-ok
returns-in-Ok-clause-ok c =
    let s = c.args.self.now in
    let within = c.requires.within in
    goes_on s _ c.args.run.now
    (by_run (parts s) _ c.args.run.now within.0 within.1 (omega (arith, within.2, s.unit.ok.0)) c.requires.nonzero (ap (λ v. let p : Parts = record (parts s) { unit = v } in p) c.in-Ok.ensures.items))
    (good-inside s.state within.0) s.few_zeros
