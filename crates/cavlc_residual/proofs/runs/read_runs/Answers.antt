use Rattle.std.proofs.Common.{◌+◌, ◌-◌, ◌∙◌, pos, length, get_or, slice_set, to_z, of_z, w32, refl, ap, arith, rules}
use Rattle.std.proofs.lemmas.Int.{to_z-of_z}
use Rattle.std.specs.Option.{option_map}
use Rattle.cavlc_residual.proofs.PlaceLemmas.{RunsPlaced-start, RunsPlaced-next, RunsPlaced-stop, RunsPlaced-end, ReadsPlaced-None}
use Rattle.cavlc_residual.proofs.runs.read_runs.Goals as goal

pub loop-i-init : goal.loop-i-init
loop-i-init g c = record {
  placed = RunsPlaced-start c.args.levels.now c.args.zeros _ _ _ c.requires.fits c.requires.clear;
  kept = refl;
}

pub returns-in_err-run-clause-reads : goal.returns-in_err-run-clause-reads
returns-in_err-run-clause-reads g c =
    ReadsPlaced-None c.args.levels.now c.args.zeros _ _ _ _ (ap (option_map _) c.from_residual.ensures)
    (RunsPlaced-stop c.args.levels.now c.args.zeros _ c.loop-i.i c.loop-i.left _ _ (g.B.BitSource.left c.read_run.new.b) (g.B.BitSource.left c.read_run.new.b) c.loop-i.block c.loop-i-test.true c.loop-i.invariant.placed c.in_err-run.ensures.reads)

pub loop-i-preserved : goal.loop-i-preserved
loop-i-preserved g c = record {
  placed = RunsPlaced-next c.args.levels.now c.args.zeros _ c.loop-i.i c.loop-i.left c.in_ok-run.run' _ _ _ _ _ c.loop-i.block _ c.loop-i-test.true (omega (arith, c.requires.fits, c.requires.small)) c.loop-i.invariant.placed c.in_ok-run.ensures.reads
      (to_z-of_z w32 (get_or c.args.levels.now c.loop-i.i (pos 0)) (search rules)) (ap (λ n. length c.args.levels.now - 1 - c.loop-i.i + n) c.from.ensures) refl;
  kept = c.in_ok-run.ensures.kept ∙ c.loop-i.invariant.kept;
}

pub returns-clause-reads : goal.returns-clause-reads
returns-clause-reads g c =
    RunsPlaced-end c.args.levels.now c.args.zeros _ c.loop-i.i c.loop-i.left _ _ _ c.loop-i.block _ (omega arith) c.loop-i.invariant.placed
    (to_z-of_z w32 (get_or c.args.levels.now (length c.args.levels.now - 1) (pos 0)) (search rules) ∙ ap (λ n. get_or c.args.levels.now n (pos 0)) (omega arith))
    (ap (λ n. slice_set c.loop-i.block n (to_z w32 (of_z w32 (get_or c.args.levels.now (length c.args.levels.now - 1) (pos 0))))) c.from-2.ensures)
