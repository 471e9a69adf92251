use Rattle.std.proofs.Common.{◌≡◌, ℤ, ◌++◌, sym, subst, rules, arith, to_z, of_z, w32}
use Rattle.std.proofs.lemmas.Int.{to_z-of_z}
use Rattle.bit_texts.proofs.Reading.{Reads-None}
use Rattle.cavlc_residual.specs.Coefficients.{coefficient_text, IsCoefficient}
use Rattle.cavlc_residual.proofs.CoefficientLemmas.{no_coefficient, coefficient_too_large, coefficient_read}
use Rattle.cavlc_residual.proofs.coefficients.read_coefficient.Goals as goal

pub returns-in_err-prefix-clause-reads : goal.returns-in_err-prefix-clause-reads
returns-in_err-prefix-clause-reads g c =
    Reads-None _ _ _ _ _ c.from_residual.ensures
    (no_coefficient c.args.suffix_length c.args.extra c.args.bound _ (g.B.BitSource.left c.read_level.new.b) (omega arith) (omega arith) c.in_err-prefix.ensures.reads)

pub returns-then-code-gt-MAX_CODE-clause-reads : goal.returns-then-code-gt-MAX_CODE-clause-reads
returns-then-code-gt-MAX_CODE-clause-reads g c =
    coefficient_too_large c.args.suffix_length c.args.extra c.args.bound c.in_ok-prefix.prefix c.in_ok-prefix.suffix _ _ (omega arith) (omega arith) c.in_ok-prefix.ensures.reads (omega arith)

pub returns-clause-reads : goal.returns-clause-reads
returns-clause-reads g c =
    let l = c.level_value.result in
    let same : to_z w32 (of_z w32 l) ≡ l = to_z-of_z w32 l (search rules) in
    let P : ℤ → Type 0 = λ m. IsCoefficient c.args.suffix_length c.args.extra c.args.bound m × (g.B.BitSource.left c.args.b.now ≡ coefficient_text c.args.suffix_length c.args.extra m ++ g.B.BitSource.left c.read_level.new.b) in
    subst P (sym same)
    (coefficient_read c.args.suffix_length c.args.extra c.args.bound c.in_ok-prefix.prefix c.in_ok-prefix.suffix _ _ l (omega arith) (omega arith) c.in_ok-prefix.ensures.reads (search rules) c.level_value.ensures.nonzero c.level_value.ensures.small)
