use Rattle.std.proofs.Common.{ℤ, length, Some, None, ap, refl, w8, arith}
use Rattle.std.specs.Option.{option_map}
use Rattle.std.proofs.lemmas.Int.{to_z-of_z}
use Rattle.bit_texts.proofs.Reading.{Reads-None}
use Rattle.cavlc_residual.proofs.BlockLemmas.{token_entry, token_of, size_of_shape, size-small, ends_at_token, ends_at_levels, ends_at_zeros, none_is_read, placed_is_read, placed_total, total_of_none}
use Rattle.cavlc_residual.proofs.block.read_onto_zeros.Goals as goal

pub returns-in_err-total-clause-reads : goal.returns-in_err-total-clause-reads
returns-in_err-total-clause-reads g c =
    Reads-None _ _ _ _ _ (ap (option_map _) c.from_residual.ensures)
    (ends_at_token _ c.args.nc (length c.args.levels.now) c.args.bound _ (g.B.BitSource.left c.read_token.new.b) (to_z-of_z w8 c.args.nc c.ranges.nc) c.requires.shape c.in_err-total.ensures.reads)

pub read_nonzero-requires-clause-ones : goal.read_nonzero-requires-clause-ones
read_nonzero-requires-clause-ones g c =
    let token = token_of _ c.args.nc (length c.args.levels.now) (c.in_ok-total.total, c.in_ok-total.ones) _ _ (to_z-of_z w8 c.args.nc c.ranges.nc) c.in_ok-total.ensures.reads in
    (token_entry c.args.nc (length c.args.levels.now) c.in_ok-total.total c.in_ok-total.ones c.requires.shape token.0.0 token.0.1).0 token.0.2

pub read_nonzero-requires-clause-few : goal.read_nonzero-requires-clause-few
read_nonzero-requires-clause-few g c = omega (arith, c.in_ok-total.ensures.reads.0.0, size-small (length c.args.levels.now) (size_of_shape c.args.nc (length c.args.levels.now) c.requires.shape))

pub returns-in_err-read_nonzero-clause-reads : goal.returns-in_err-read_nonzero-clause-reads
returns-in_err-read_nonzero-clause-reads g c =
    Reads-None _ _ _ _ _ (ap (option_map _) c.from_residual-in_err-read_nonzero.ensures)
    (ends_at_levels _ c.args.nc (length c.args.levels.now) c.args.bound (c.in_ok-total.total, c.in_ok-total.ones) _ _ (g.B.BitSource.left c.read_nonzero.new.b) (to_z-of_z w8 c.args.nc c.ranges.nc) c.requires.shape c.in_ok-total.ensures.reads c.in_err-read_nonzero.ensures.reads)

pub read_total_zeros-requires-clause-size : goal.read_total_zeros-requires-clause-size
read_total_zeros-requires-clause-size g c = size_of_shape c.args.nc (length c.args.levels.now) c.requires.shape

pub returns-in_err-zeros-clause-reads : goal.returns-in_err-zeros-clause-reads
returns-in_err-zeros-clause-reads g c =
    Reads-None _ _ _ _ _ (ap (option_map _) c.from_residual-in_err-zeros.ensures)
    (ends_at_zeros _ c.args.nc (length c.args.levels.now) c.args.bound c.in_ok-total.total c.in_ok-total.ones c.read_nonzero.new.levels.items _ _ _ (g.B.BitSource.left c.read_total_zeros.new.b) (to_z-of_z w8 c.args.nc c.ranges.nc) c.requires.shape c.requires.within c.in_ok-total.ensures.reads c.in_ok-read_nonzero.ensures.reads c.in_err-zeros.ensures.reads)

pub read_runs-requires-clause-some : goal.read_runs-requires-clause-some
read_runs-requires-clause-some g c = omega (arith, ap (length {A = ℤ}) c.as_slice.ensures.value, c.in_ok-read_nonzero.ensures.reads.0.count, c.if-total-eq0.false)

pub read_runs-requires-clause-fits : goal.read_runs-requires-clause-fits
read_runs-requires-clause-fits g c = omega (arith, ap (length {A = ℤ}) c.as_slice.ensures.value, c.in_ok-read_nonzero.ensures.reads.0.count, c.in_ok-zeros.ensures.reads.0.0)

pub read_runs-requires-clause-small : goal.read_runs-requires-clause-small
read_runs-requires-clause-small g c = omega (arith, size-small (length c.args.levels.now) (size_of_shape c.args.nc (length c.args.levels.now) c.requires.shape))

pub returns-in_err-read_runs-clause-reads : goal.returns-in_err-read_runs-clause-reads
returns-in_err-read_runs-clause-reads g c =
    Reads-None _ _ _ _ _ (ap (option_map _) c.from_residual-in_err-read_runs.ensures)
    (placed_is_read _ c.args.nc (length c.args.levels.now) c.args.bound c.in_ok-total.total c.in_ok-total.ones c.in_ok-zeros.zeros _ c.read_nonzero.new.levels.items _ _ _ _ _ (to_z-of_z w8 c.args.nc c.ranges.nc) c.requires.shape c.requires.within c.in_ok-total.ensures.reads c.in_ok-read_nonzero.ensures.reads c.in_ok-zeros.ensures.reads c.as_slice.ensures.value refl None (g.B.BitSource.left c.read_runs.new.b) c.in_err-read_runs.ensures.reads)

pub returns-clause-reads : goal.returns-clause-reads
returns-clause-reads g c =
    placed_is_read _ c.args.nc (length c.args.levels.now) c.args.bound c.in_ok-total.total c.in_ok-total.ones c.in_ok-zeros.zeros _ c.read_nonzero.new.levels.items _ _ _ _ _ (to_z-of_z w8 c.args.nc c.ranges.nc) c.requires.shape c.requires.within c.in_ok-total.ensures.reads c.in_ok-read_nonzero.ensures.reads c.in_ok-zeros.ensures.reads c.as_slice.ensures.value refl (Some c.read_runs.new.block) _ c.in_ok-read_runs.ensures.reads

pub returns-clause-total : goal.returns-clause-total
returns-clause-total g c =
    placed_total c.in_ok-total.total c.in_ok-total.ones c.args.bound c.in_ok-zeros.zeros _ c.read_nonzero.new.levels.items _ _ _ _ c.in_ok-read_nonzero.ensures.reads.0 c.as_slice.ensures.value c.in_ok-read_runs.ensures.reads

pub returns-then-total-eq0-clause-reads : goal.returns-then-total-eq0-clause-reads
returns-then-total-eq0-clause-reads g c =
    none_is_read _ c.args.nc (length c.args.levels.now) c.args.bound c.in_ok-total.total c.in_ok-total.ones _ _ _ (to_z-of_z w8 c.args.nc c.ranges.nc) c.requires.shape c.requires.within c.if-total-eq0.true c.in_ok-total.ensures.reads c.requires.clear

pub returns-then-total-eq0-clause-total : goal.returns-then-total-eq0-clause-total
returns-then-total-eq0-clause-total g c = total_of_none (length c.args.levels.now) _ c.requires.clear
