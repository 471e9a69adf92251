use Rattle.std.proofs.Common.{◌≡◌, ◌-◌, pos, get_or, to_z, of_z, w32, refl, rules, arith}
use Rattle.std.proofs.lemmas.Int.{to_z-of_z}
use Rattle.cabac_residual.proofs.Blocks.{write_down, writes_levels_end, marks_of-none, after-few}
use Rattle.cabac_residual.proofs.block.write_marked.Goals as goal

pub loop-at-preserved : goal.loop-at-preserved
loop-at-preserved g c =
    let same : to_z w32 (of_z w32 (get_or c.args.levels.now (c.loop-at.at - 1) (pos 0))) ≡ get_or c.args.levels.now (c.loop-at.at - 1) (pos 0) = to_z-of_z w32 (get_or c.args.levels.now (c.loop-at.at - 1) (pos 0)) (search rules) in
    let next = rw same at c.after-counts.ensures in
    record {
      going = c.in_ok-write_level_at.ensures.going;
      place = omega arith;
      few = let most = after-few c.loop-at.counts (get_or c.args.levels.now (c.loop-at.at - 1) (pos 0)) c.after-counts.result next in omega arith;
      writes = λ value t h. c.loop-at.invariant.writes value t
          (write_down g.S.BinSink.step c.args.cat c.loop-at.counts c.after-counts.result c.args.levels.now (c.loop-at.at - 1) c.loop-at.at (get_or c.args.levels.now (c.loop-at.at - 1) (pos 0)) value _ _ t (omega arith) (omega arith) refl next (rw same at c.in_ok-write_level_at.ensures.writes) h);
    }

pub returns-clause-writes : goal.returns-clause-writes
returns-clause-writes g c =
    let e : c.loop-at.at ≡ 0 = omega arith in
    c.loop-at.invariant.writes _ _ (rw (e, marks_of-none c.args.levels.now) (writes_levels_end g.S.BinSink.step c.args.cat c.loop-at.counts c.args.levels.now c.loop-at.s))
