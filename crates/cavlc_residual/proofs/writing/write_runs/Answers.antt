use Rattle.std.proofs.Common.{◌+◌, ◌-◌, subst, ℕ, arith}
use Rattle.code_tables.specs.Codes.{word_at}
use Rattle.code_tables.specs.RunBefore.{run_before_list}
use Rattle.cavlc_residual.proofs.Pieces.{AppendsFront, Appends-front}
use Rattle.cavlc_residual.specs.Places.{gaps}
use Rattle.cavlc_residual.proofs.GapLemmas.{falls_at, gap_at, length-gaps}
use Rattle.cavlc_residual.proofs.WriteLemmas.{gaps-turn, run_fits, runs-none, runs-stop, runs-end}
use Rattle.cavlc_residual.proofs.writing.write_runs.Goals as goal

pub returns-then-left-eq0 : goal.returns-then-left-eq0
returns-then-left-eq0 g c = runs-none c.loop-i.left (c.loop-i.i - 1) (gaps c.args.places.now) _ _ _ c.if-left-eq0.true c.loop-i.invariant.wrote

pub overflow_sub-run-in-loop-i : goal.overflow_sub-run-in-loop-i
overflow_sub-run-in-loop-i g c = omega (arith, falls_at 16 (c.loop-i.i - 1) c.loop-i.i c.args.places.now c.requires.falling (omega (arith, c.loop-i.auto.i)) c.loop-i-test.true)

pub overflow_sub-run-in-loop-i-2 : goal.overflow_sub-run-in-loop-i-2
overflow_sub-run-in-loop-i-2 g c = omega (arith, falls_at 16 (c.loop-i.i - 1) c.loop-i.i c.args.places.now c.requires.falling (omega (arith, c.loop-i.auto.i)) c.loop-i-test.true)

pub returns-in_err-write_run : goal.returns-in_err-write_run
returns-in_err-write_run g c =
    let ps = c.args.places.now in
    let i = c.loop-i.i in
    let run = gap_at i ps (omega (arith, c.loop-i.auto.i)) c.loop-i-test.true in
    let P : ℕ → Type 0 = λ n. AppendsFront (g.B.BitSink.bits c.loop-i.b) (g.B.BitSink.bits c.write_run.new.b) (word_at (run_before_list c.loop-i.left) n) in
    Appends-front _ _ _ _ c.from_residual.ensures.0
    (runs-stop c.loop-i.left (i - 1) (gaps ps) _ _ _ _ (omega (arith, c.loop-i.auto.i, c.loop-i-test.true, length-gaps ps)) c.loop-i.invariant.wrote (subst P run c.in_err-write_run.ensures))

pub overflow_sub-left : goal.overflow_sub-left
overflow_sub-left g c =
    let ps = c.args.places.now in
    let i = c.loop-i.i in
    let run = gap_at i ps (omega (arith, c.loop-i.auto.i)) c.loop-i-test.true in
    omega (arith, run, run_fits c.loop-i.left (i - 1) (gaps ps) (omega (arith, c.loop-i.auto.i, c.loop-i-test.true, length-gaps ps)) c.loop-i.invariant.fits)

pub loop-i-preserved : goal.loop-i-preserved
loop-i-preserved g c =
    let ps = c.args.places.now in
    let i = c.loop-i.i in
    let run = gap_at i ps (omega (arith, c.loop-i.auto.i)) c.loop-i-test.true in
    let turn = gaps-turn c.loop-i.left i (i + 1 - 1) _ ps _ _ _ _ (omega (arith, c.loop-i.auto.i)) c.loop-i-test.true (omega arith) run c.loop-i.invariant.fits c.loop-i.invariant.wrote c.in_ok-write_run.ensures in
    record { fits = turn.0; wrote = turn.1 }

pub returns : goal.returns
returns g c = runs-end c.loop-i.left (c.loop-i.i - 1) (gaps c.args.places.now) _ _ _ (omega (arith, c.loop-i-test.false, c.loop-i.auto.i, length-gaps c.args.places.now)) c.loop-i.invariant.wrote
