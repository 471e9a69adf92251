use Rattle.std.proofs.Common.{◌≡◌, ◌-◌, pos, get_or, length, to_z, of_z, w32, rules, arith}
use Rattle.std.proofs.lemmas.Int.{to_z-of_z}
use Rattle.cabac_residual.proofs.Blocks.{write_mark_at, write_last_mark, write_inferred, marks_of-none}
use Rattle.cabac_residual.proofs.marks.write_marks.Goals as goal

pub loop-place-init : goal.loop-place-init
loop-place-init g c =
    let start : length c.args.levels.now - 1 - 0 ≡ length c.args.levels.now - 1 = omega arith in
    record {
      going = c.requires.going;
      writes = λ value t h. rw (marks_of-none c.args.levels.now, start) at h;
    }

pub loop-place-preserved : goal.loop-place-preserved
loop-place-preserved g c =
    let same : to_z w32 (of_z w32 (get_or c.args.levels.now c.loop-place.place (pos 0))) ≡ get_or c.args.levels.now c.loop-place.place (pos 0) = to_z-of_z w32 (get_or c.args.levels.now c.loop-place.place (pos 0)) (search rules) in
    let significant = rw same at c.is_nonzero-is_significant.ensures in
    record {
      going = c.in_ok-write_mark.ensures.going;
      writes = λ value t h. c.loop-place.invariant.writes value t
          (write_mark_at g.S.BinSink.step c.args.cat c.args.field c.args.levels.now c.loop-place.place (length c.args.levels.now - 1) _ value _ _ t (omega arith) significant c.in_ok-write_mark.ensures.writes h);
    }

pub returns-in_ok-write_mark-2-clause-writes : goal.returns-in_ok-write_mark-2-clause-writes
returns-in_ok-write_mark-2-clause-writes g c =
    let e : c.loop-place.place ≡ c.args.last = omega arith in
    c.loop-place.invariant.writes _ _ (rw e (write_last_mark g.S.BinSink.step c.args.cat c.args.field c.args.levels.now c.args.last (length c.args.levels.now - 1) _ _ (omega arith) c.requires.level c.in_ok-write_mark-2.ensures.writes))

pub returns-else-last-levels-clause-writes : goal.returns-else-last-levels-clause-writes
returns-else-last-levels-clause-writes g c =
    let e : c.loop-place.place ≡ c.args.last = omega arith in
    c.loop-place.invariant.writes _ _ (rw e (write_inferred g.S.BinSink.step c.args.cat c.args.field c.args.levels.now c.args.last (length c.args.levels.now - 1) c.loop-place.s (omega arith) c.requires.level))
