use Rattle.std.proofs.Common.{ℤ, List, refl, arith, sym, subst, ◌∙◌, ◌+◌, ◌*◌, ◌++◌, length, w8}
use Rattle.std.proofs.lemmas.Int.{to_z-of_z}
use Rattle.bit_texts.specs.Texts.{Appended}
use Rattle.code_tables.specs.Codes.{Code, IsCodeTable, word_at}
use Rattle.code_tables.specs.CoeffToken.{coeff_token_list}
use Rattle.code_tables.proofs.Tables.{IsCodeTable-total_zeros}
use Rattle.cavlc_residual.proofs.Pieces.{AppendsFront}
use Rattle.cavlc_residual.specs.Block.{trailing_ones, levels_text}
use Rattle.cavlc_residual.specs.Places.{gaps}
use Rattle.cavlc_residual.proofs.GapLemmas.{length-falling}
use Rattle.cavlc_residual.proofs.WriteLemmas.{zeros_word, parts_end_at_levels, parts_end_at_zeros, parts_written}
use Rattle.cavlc_residual.proofs.block.write_parts.Goals as goal

pub write_code-requires : goal.write_code-requires
write_code-requires g c =
    let P : List Code → Type 0 = λ cs. IsCodeTable cs in
    subst P (sym c.total_zeros_table-table.ensures) (IsCodeTable-total_zeros _ _)

pub returns-in_err-write_nonzero : goal.returns-in_err-write_nonzero
returns-in_err-write_nonzero g c =
    let P : ℤ → Type 0 = λ m. AppendsFront (g.B.BitSink.bits c.args.b.now) (g.B.BitSink.bits c.write_nonzero.new.b) (word_at (coeff_token_list m) (4 * length c.args.levels.now + trailing_ones c.args.levels.now) ++ levels_text c.args.levels.now) in
    parts_end_at_levels c.args.nc c.args.max c.args.levels.now (gaps c.args.places.now) _ _ _ (subst P (to_z-of_z w8 c.args.nc c.ranges.nc) c.in_err-write_nonzero.ensures) c.from_residual.ensures.0

pub returns-in_err-write_code : goal.returns-in_err-write_code
returns-in_err-write_code g c =
    let P : ℤ → Type 0 = λ m. Appended (g.B.BitSink.bits c.args.b.now) (g.B.BitSink.bits c.write_nonzero.new.b) (word_at (coeff_token_list m) (4 * length c.args.levels.now + trailing_ones c.args.levels.now) ++ levels_text c.args.levels.now) in
    parts_end_at_zeros c.args.nc c.args.max c.args.levels.now (gaps c.args.places.now) _ _ _ _ _ (subst P (to_z-of_z w8 c.args.nc c.ranges.nc) c.in_ok-write_nonzero.ensures)
    (zeros_word c.args.max _ _ _ c.args.levels.now (gaps c.args.places.now) c.total_zeros_table-table.ensures refl (c.from.ensures ∙ c.count_zeros-zeros.ensures))
    c.in_err-write_code.ensures c.from_residual-in_err-write_code.ensures.0

pub returns : goal.returns
returns g c =
    let P : ℤ → Type 0 = λ m. Appended (g.B.BitSink.bits c.args.b.now) (g.B.BitSink.bits c.write_nonzero.new.b) (word_at (coeff_token_list m) (4 * length c.args.levels.now + trailing_ones c.args.levels.now) ++ levels_text c.args.levels.now) in
    parts_written c.args.nc c.args.max c.count_zeros-zeros.result c.args.levels.now (gaps c.args.places.now) _ _ _ _ _ _ (subst P (to_z-of_z w8 c.args.nc c.ranges.nc) c.in_ok-write_nonzero.ensures)
    (zeros_word c.args.max _ _ _ c.args.levels.now (gaps c.args.places.now) c.total_zeros_table-table.ensures refl (c.from.ensures ∙ c.count_zeros-zeros.ensures))
    c.in_ok-write_code.ensures c.count_zeros-zeros.ensures c.write_runs.ensures

pub write_nonzero-requires-clause-few : goal.write_nonzero-requires-clause-few
write_nonzero-requires-clause-few g c = omega (arith, c.requires.pairs, length-falling 16 c.args.places.now c.requires.falling)

pub overflow_cast-levels : goal.overflow_cast-levels
overflow_cast-levels g c = omega (arith, c.requires.pairs, length-falling 16 c.args.places.now c.requires.falling)
