use Rattle.std.proofs.Common.{arith}
use Rattle.code_tables.proofs.PatternCodes.{pattern_small, intra_found, inter_found}
use Rattle.code_tables.proofs.patterns.code_of_pattern.Goals as goal
use Rattle.code_tables.proofs.patterns.code_of_pattern.Goals.{then-pattern-gt15-via-then-pattern-gt15, then-pattern-gt15-via-else-pattern-gt15+then-pattern-gt2}

pub returns-then-pattern-gt15-clause-none : goal.returns-then-pattern-gt15-clause-none
returns-then-pattern-gt15-clause-none c = λ place e.
    let small = pattern_small c.args.intra place c.args.pattern e in
    elim c.then-pattern-gt15.branch [
      | then-pattern-gt15-via-then-pattern-gt15 w ↦ omega (arith, small.0, w.if-pattern-gt15.true)
      | then-pattern-gt15-via-else-pattern-gt15+then-pattern-gt2 w ↦ omega (arith, small.1, w.if-pattern-gt2.true)
    ]

pub returns-then-intra-clause-found : goal.returns-then-intra-clause-found
returns-then-intra-clause-found c = rw c.if-intra.true (intra_found c.args.pattern.luma c.args.pattern.chroma _ c.if-pattern-gt15.false c.if-pattern-gt2.false c.from-number.ensures)

pub returns-else-intra-clause-found : goal.returns-else-intra-clause-found
returns-else-intra-clause-found c = rw c.if-intra.false (inter_found c.args.pattern.luma c.args.pattern.chroma _ c.if-pattern-gt15.false c.if-pattern-gt2.false c.from-number.ensures)
