use Rattle.std.proofs.Common.{List, sym, subst, arith}
use Rattle.code_tables.specs.Codes.{Code, IsCodeTable}
use Rattle.code_tables.proofs.Tables.{IsCodeTable-run_before}
use Rattle.cavlc_residual.proofs.RunLemmas.{run_none, run_read}
use Rattle.cavlc_residual.proofs.runs.read_run.Goals as goal

pub returns-then-left-eq0-clause-reads : goal.returns-then-left-eq0-clause-reads
returns-then-left-eq0-clause-reads g c = run_none c.args.left _ c.if-left-eq0.true

pub read_code-requires : goal.read_code-requires
read_code-requires g c =
    let P : List Code → Type 0 = λ cs. IsCodeTable cs in
    subst P (sym c.run_before_table.ensures) (IsCodeTable-run_before c.args.left)

pub returns-clause-reads : goal.returns-clause-reads
returns-clause-reads g c = run_read c.args.left _ _ _ _ c.run_before_table.ensures (omega arith) (omega arith) c.read_code.ensures.reads
