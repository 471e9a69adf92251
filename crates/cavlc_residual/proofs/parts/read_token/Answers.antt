use Rattle.std.proofs.Common.{List, sym, ap, ◌∙◌, w8, subst, arith}
use Rattle.std.proofs.lemmas.Int.{to_z-of_z}
use Rattle.code_tables.specs.CoeffToken.{coeff_token_list}
use Rattle.code_tables.specs.Codes.{Code, IsCodeTable}
use Rattle.code_tables.proofs.Tables.{IsCodeTable-coeff_token}
use Rattle.cavlc_residual.proofs.PartLemmas.{token_too_large}
use Rattle.cavlc_residual.proofs.parts.read_token.Goals as goal

pub read_code-requires : goal.read_code-requires
read_code-requires g c =
    let P : List Code → Type 0 = λ cs. IsCodeTable cs in
    subst P (sym (c.coeff_token_table.ensures ∙ ap coeff_token_list (to_z-of_z w8 c.args.nc c.ranges.nc))) (IsCodeTable-coeff_token c.args.nc)

pub returns-then-total-max-clause-reads : goal.returns-then-total-max-clause-reads
returns-then-total-max-clause-reads g c =
    token_too_large c.args.nc c.args.max c.in_ok-place.place _ _ _ (c.coeff_token_table.ensures ∙ ap coeff_token_list (to_z-of_z w8 c.args.nc c.ranges.nc)) (omega arith) c.in_ok-place.ensures.reads
