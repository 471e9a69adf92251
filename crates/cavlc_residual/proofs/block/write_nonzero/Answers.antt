use Rattle.std.proofs.Common.{◌∙◌, sym, refl, ap, take, drop, length, List, subst, w8}
use Rattle.std.proofs.lemmas.Int.{to_z-of_z}
use Rattle.code_tables.specs.Codes.{Code, IsCodeTable}
use Rattle.code_tables.proofs.Tables.{IsCodeTable-coeff_token}
use Rattle.cavlc_residual.proofs.WriteLemmas.{token_word, signs_are, two_texts, levels_stopped, levels_written}
use Rattle.cavlc_residual.proofs.block.write_nonzero.Goals as goal

pub write_code_and-requires-clause-table : goal.write_code_and-requires-clause-table
write_code_and-requires-clause-table g c =
    let P : List Code → Type 0 = λ cs. IsCodeTable cs in
    subst P (sym c.coeff_token_table.ensures) (IsCodeTable-coeff_token _)

pub returns-in_err-write_code_and : goal.returns-in_err-write_code_and
returns-in_err-write_code_and g c =
    let ones = c.count_ones-ones.ensures in
    let token = token_word _ c.args.nc _ (length c.args.levels.now) c.count_ones-ones.result _ c.args.levels.now c.coeff_token_table.ensures (to_z-of_z w8 c.args.nc c.ranges.nc) refl ones c.from-2.ensures in
    let signs = signs_are _ c.count_ones-ones.result c.signs_of.result _ c.split_at.ensures.front_len c.from.ensures c.signs_of.ensures.bits in
    levels_stopped _ _ c.args.levels.now _ c.count_ones-ones.result _ _ _ ones (c.split_at.ensures.front ∙ ap (λ n. take n c.args.levels.now) c.from.ensures)
    (two_texts _ _ _ _ token signs) c.in_err-write_code_and.ensures c.from_residual.ensures.0

pub returns : goal.returns
returns g c =
    let ones = c.count_ones-ones.ensures in
    let token = token_word _ c.args.nc _ (length c.args.levels.now) c.count_ones-ones.result _ c.args.levels.now c.coeff_token_table.ensures (to_z-of_z w8 c.args.nc c.ranges.nc) refl ones c.from-2.ensures in
    let signs = signs_are _ c.count_ones-ones.result c.signs_of.result _ c.split_at.ensures.front_len c.from.ensures c.signs_of.ensures.bits in
    levels_written _ _ c.args.levels.now _ _ c.count_ones-ones.result c.suffix_length_first.result c.extra_first.result _ _ _ _ ones
    (c.split_at.ensures.front ∙ ap (λ n. take n c.args.levels.now) c.from.ensures) (c.split_at.ensures.back ∙ ap (λ n. drop n c.args.levels.now) c.from.ensures)
    c.suffix_length_first.ensures.value c.extra_first.ensures.value
    (two_texts _ _ _ _ token signs) c.in_ok-write_code_and.ensures c.write_coefficients.ensures
