use Rattle.std.proofs.Common.{ℕ, ◌≤◌, w32, sym, subst}
use Rattle.std.proofs.lemmas.Int.{to_z-of_z}
use Rattle.cavlc_residual.specs.Level.{level_word}
use Rattle.cavlc_residual.proofs.CoefficientLemmas.{coefficient_code, coefficient_written}
use Rattle.cavlc_residual.proofs.coefficients.write_coefficient.Goals as goal

pub write_level-requires-clause-within : goal.write_level-requires-clause-within
write_level-requires-clause-within g c =
    let P : ℕ → Type 0 = λ i. (level_word c.args.suffix_length i).0 ≤ 20 in
    subst P (sym (coefficient_code c.from.result c.args.extra c.level_code_of.result c.args.level _ c.level_code_of.ensures (to_z-of_z w32 c.args.level c.ranges.level) c.from.ensures)) c.requires.level.within

pub returns : goal.returns
returns g c =
    coefficient_written c.args.suffix_length c.args.extra _ c.args.level _ _ _
    (coefficient_code c.from.result c.args.extra c.level_code_of.result c.args.level _ c.level_code_of.ensures (to_z-of_z w32 c.args.level c.ranges.level) c.from.ensures) c.write_level.ensures
