use Rattle.std.proofs.Common.{◌≡◌, ◌∙◌, ◌+◌, ◌==◌, ap, sym, arith}
use Rattle.std.specs.List.{list_any}
use Rattle.unit_io.proofs.CountOfFailures.{failures-≤, failures-<, failures_rise}
use Rattle.unit_io.proofs.failing.Failing.next.Goals as goal

pub returns-clause-later : goal.returns-clause-later
returns-clause-later c = failures-≤ c.args.self.now.numbers.items c.args.self.now.calls (c.args.self.now.calls + 1) (omega arith)

pub returns-clause-fails : goal.returns-clause-fails
returns-clause-fails c =
    let call = c.args.self.now.calls in
    let numbers = c.args.self.now.numbers.items in
    let value : c.contains.result ≡ list_any (λ f. f == call) numbers = c.contains.ensures.value ∙ ap (list_any (λ f. f == call)) c.deref.ensures.value in
    (λ yes. failures-< numbers call (sym value ∙ yes), λ more. value ∙ failures_rise numbers call more)
