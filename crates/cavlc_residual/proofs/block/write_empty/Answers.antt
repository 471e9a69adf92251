use Rattle.std.proofs.Common.{List, sym, ap, subst, ◌∙◌, w8}
use Rattle.std.proofs.lemmas.Int.{to_z-of_z}
use Rattle.code_tables.specs.Codes.{Code, IsCodeTable, word_at}
use Rattle.code_tables.specs.CoeffToken.{coeff_token_list}
use Rattle.bit_texts.proofs.Writing.{Appends-same}
use Rattle.code_tables.proofs.Tables.{IsCodeTable-coeff_token}
use Rattle.cavlc_residual.proofs.WriteLemmas.{empty_text}
use Rattle.cavlc_residual.proofs.block.write_empty.Goals as goal

pub write_code-requires : goal.write_code-requires
write_code-requires g c =
    let P : List Code → Type 0 = λ cs. IsCodeTable cs in
    subst P (sym c.coeff_token_table.ensures) (IsCodeTable-coeff_token _)

pub returns : goal.returns
returns g c =
    Appends-same _ _ _ _ _ (ap (λ cs. word_at cs 0) (c.coeff_token_table.ensures ∙ ap coeff_token_list (to_z-of_z w8 c.args.nc c.ranges.nc)) ∙ empty_text c.args.nc c.args.levels.now c.requires) c.write_code.ensures
