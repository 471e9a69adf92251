use Rattle.std.proofs.Common.{List, sym, subst}
use Rattle.code_tables.specs.Codes.{Code, IsCodeTable}
use Rattle.code_tables.proofs.Tables.{IsCodeTable-run_before}
use Rattle.cavlc_residual.proofs.runs.write_run.Goals as goal

pub write_code-requires : goal.write_code-requires
write_code-requires g c =
    let P : List Code → Type 0 = λ cs. IsCodeTable cs in
    subst P (sym c.run_before_table.ensures) (IsCodeTable-run_before c.args.left)
