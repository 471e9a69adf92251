use Rattle.std.proofs.Common.{ap}
use Rattle.std.specs.Option.{option_map}
use Rattle.bit_texts.proofs.Reading.{Reads-None}
use Rattle.cavlc_residual.proofs.PartLemmas.{levels_appended, all_ones_read, no_levels}
use Rattle.cavlc_residual.proofs.parts.read_nonzero.Goals as goal

pub returns-in_err-read_ones-clause-reads : goal.returns-in_err-read_ones-clause-reads
returns-in_err-read_ones-clause-reads g c =
    Reads-None _ _ _ _ _ (ap (option_map _) c.from_residual.ensures)
    (no_levels (c.args.total, c.args.ones) c.args.bound _ (g.B.BitSource.left c.read_ones.new.b) c.in_err-read_ones.ensures.reads)

pub returns-clause-reads : goal.returns-clause-reads
returns-clause-reads g c =
    levels_appended c.args.total c.args.ones c.args.bound c.suffix_length_first-suffix_length.result c.extra_first.result _ c.requires.ones c.requires.ones_small _ _ _ _ c.read_coefficients.ensures.before c.in_ok-read_ones.ensures.reads c.suffix_length_first-suffix_length.ensures.value c.extra_first.ensures.value c.read_coefficients.result _ c.read_coefficients.ensures.reads

pub returns-then-total-ones-clause-reads : goal.returns-then-total-ones-clause-reads
returns-then-total-ones-clause-reads g c =
    all_ones_read c.args.total c.args.ones c.args.bound c.requires.ones c.requires.ones_small _ _ _ c.if-total-ones.true c.in_ok-read_ones.ensures.reads
