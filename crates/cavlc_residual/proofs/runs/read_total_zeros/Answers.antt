use Rattle.std.proofs.Common.{List, sym, subst, arith, inl, inr}
use Rattle.code_tables.specs.Codes.{Code, IsCodeTable}
use Rattle.code_tables.proofs.Tables.{IsCodeTable-total_zeros}
use Rattle.cavlc_residual.proofs.RunLemmas.{zeros_none, zeros_read}
use Rattle.cavlc_residual.proofs.runs.read_total_zeros.Goals as goal
use Rattle.cavlc_residual.proofs.runs.read_total_zeros.Goals.{then-total-eq0-via-then-total-eq0, then-total-eq0-via-else-total-eq0+then-total-max}

pub returns-then-total-eq0-clause-reads : goal.returns-then-total-eq0-clause-reads
returns-then-total-eq0-clause-reads g c = zeros_none c.args.max c.args.total _ (elim c.then-total-eq0.branch [ then-total-eq0-via-then-total-eq0 w ↦ inl w.if-total-eq0.true | then-total-eq0-via-else-total-eq0+then-total-max w ↦ inr w.if-total-max.true ]) (omega arith)

pub read_code-requires : goal.read_code-requires
read_code-requires g c =
    let P : List Code → Type 0 = λ cs. IsCodeTable cs in
    subst P (sym c.total_zeros_table.ensures) (IsCodeTable-total_zeros c.args.max c.args.total)

pub returns-clause-reads : goal.returns-clause-reads
returns-clause-reads g c = zeros_read c.args.max c.args.total _ _ _ _ c.total_zeros_table.ensures c.requires.size (omega arith) (omega arith) c.read_code.ensures.reads
