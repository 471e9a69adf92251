use Rattle.std.proofs.Common.{◌≡◌, ◌+◌, ◌-◌, true, false, reverse, refl, arith}
use Rattle.cabac_residual.proofs.Blocks.{mark_zero, mark_one, mark_cut, mark_none, reads_mark, reads_last, reads_no_mark, reads_inferred, reverse-push}
use Rattle.cabac_residual.proofs.Places.{marks-insignificant, marks-significant, marks-none, AreBelow-none, AreBelow-on, AreBelow-more, behind_last-on}
use Rattle.cabac_residual.proofs.marks.read_places.Goals as goal

pub loop-place-init : goal.loop-place-init
loop-place-init g c =
    let start : c.args.max - 1 - 0 ≡ c.args.max - 1 = omega arith in
    record {
      going = c.requires.going;
      count = rw c.new-places.ensures omega arith;
      below = rw c.new-places.ensures (AreBelow-none 0);
      reads = λ result t h. rw (c.new-places.ensures, marks-none, start) at h;
    }

pub bin-requires-clause-going : goal.bin-requires-clause-going
bin-requires-clause-going g c = c.loop-place.invariant.going

pub returns-in_err-is_significant-clause-reads : goal.returns-in_err-is_significant-clause-reads
returns-in_err-is_significant-clause-reads g c = rw c.from_residual.ensures
    (c.loop-place.invariant.reads _ _ (reads_no_mark g.S.BinSource.step c.args.cat c.args.field _ c.loop-place.place (c.args.max - 1) _ _ (omega arith)
    (mark_none g.S.BinSource.step c.args.cat c.args.field c.loop-place.place _ _ _ c.significance_context.ensures.context c.in_err-is_significant.ensures.step)))

pub loop-place-preserved-then-not-is_significant : goal.loop-place-preserved-then-not-is_significant
loop-place-preserved-then-not-is_significant g c = record {
  going = c.in_ok-is_significant.ensures.over;
  count = omega (arith, c.loop-place.invariant.count);
  below = AreBelow-more c.loop-place.place (c.loop-place.place + 1) _ (omega arith) c.loop-place.invariant.below;
  reads = λ result t h.
      c.loop-place.invariant.reads result t
      (reads_mark g.S.BinSource.step c.args.cat c.args.field _ c.loop-place.place (c.args.max - 1) false false result _ _ t (omega arith) refl
      (mark_zero g.S.BinSource.step c.args.cat c.args.field c.loop-place.place _ _ _ _ c.significance_context.ensures.context c.if-not-is_significant.true c.in_ok-is_significant.ensures.step)
      (rw (marks-insignificant c.loop-place.place (reverse c.loop-place.places.items) c.loop-place.invariant.below) at h));
}

pub push-requires : goal.push-requires
push-requires g c = omega (arith, c.loop-place.invariant.count)

pub returns-in_err-is_last-clause-reads : goal.returns-in_err-is_last-clause-reads
returns-in_err-is_last-clause-reads g c = rw c.from_residual-in_err-is_last.ensures
    (c.loop-place.invariant.reads _ _ (reads_no_mark g.S.BinSource.step c.args.cat c.args.field _ c.loop-place.place (c.args.max - 1) _ _ (omega arith)
    (mark_cut g.S.BinSource.step c.args.cat c.args.field c.loop-place.place _ _ _ _ _ _ _ c.significance_context.ensures.context c.if-not-is_significant.false c.last_context.ensures.context c.in_ok-is_significant.ensures.step c.in_err-is_last.ensures.step refl)))

pub returns-then-is_last-clause-reads : goal.returns-then-is_last-clause-reads
returns-then-is_last-clause-reads g c =
    let before = reverse c.loop-place.places.items in
    rw (c.push.ensures.items, reverse-push c.loop-place.places.items c.loop-place.place, behind_last-on c.loop-place.place before, marks-significant c.loop-place.place before)
    (c.loop-place.invariant.reads _ _ (reads_last g.S.BinSource.step c.args.cat c.args.field _ c.loop-place.place (c.args.max - 1) true _ _ _ (omega arith) c.if-is_last.true
    (mark_one g.S.BinSource.step c.args.cat c.args.field c.loop-place.place _ _ _ _ _ _ _ c.significance_context.ensures.context c.if-not-is_significant.false c.last_context.ensures.context c.in_ok-is_significant.ensures.step c.in_ok-is_last.ensures.step)))

pub returns-then-is_last-clause-below : goal.returns-then-is_last-clause-below
returns-then-is_last-clause-below g c =
    rw (c.push.ensures.items, reverse-push c.loop-place.places.items c.loop-place.place)
    (AreBelow-more (c.loop-place.place + 1) c.args.max _ (omega arith) (AreBelow-on c.loop-place.place _ c.loop-place.invariant.below))

pub loop-place-preserved : goal.loop-place-preserved
loop-place-preserved g c =
    let before = reverse c.loop-place.places.items in
    record {
      going = c.in_ok-is_last.ensures.over;
      count = omega (arith, c.push.ensures.len, c.loop-place.invariant.count);
      below = rw (c.push.ensures.items, reverse-push c.loop-place.places.items c.loop-place.place) (AreBelow-on c.loop-place.place _ c.loop-place.invariant.below);
      reads = λ result t h.
          let pushed = rw (c.push.ensures.items, reverse-push c.loop-place.places.items c.loop-place.place, marks-significant c.loop-place.place before) at h in
          c.loop-place.invariant.reads result t
          (reads_mark g.S.BinSource.step c.args.cat c.args.field _ c.loop-place.place (c.args.max - 1) true _ result _ _ t (omega arith) c.if-is_last.false
          (mark_one g.S.BinSource.step c.args.cat c.args.field c.loop-place.place _ _ _ _ _ _ _ c.significance_context.ensures.context c.if-not-is_significant.false c.last_context.ensures.context c.in_ok-is_significant.ensures.step c.in_ok-is_last.ensures.step)
          pushed);
    }

pub push-requires-2 : goal.push-requires-2
push-requires-2 g c = omega (arith, c.loop-place.invariant.count)

pub returns-clause-reads : goal.returns-clause-reads
returns-clause-reads g c =
    let before = reverse c.loop-place.places.items in
    let e : c.args.max - 1 ≡ c.loop-place.place = omega arith in
    let inferred = reads_inferred g.S.BinSource.step c.args.cat c.args.field _ c.loop-place.place c.loop-place.s in
    rw (c.push-2.ensures.items, reverse-push c.loop-place.places.items (c.args.max - 1), behind_last-on (c.args.max - 1) before, marks-significant (c.args.max - 1) before)
    (c.loop-place.invariant.reads _ _ (rw e inferred))

pub returns-clause-going : goal.returns-clause-going
returns-clause-going g c = c.loop-place.invariant.going

pub returns-clause-below : goal.returns-clause-below
returns-clause-below g c =
    let e : c.args.max - 1 ≡ c.loop-place.place = omega arith in
    let below = AreBelow-more c.loop-place.place (c.args.max - 1) (reverse c.loop-place.places.items) (omega arith) c.loop-place.invariant.below in
    rw (c.push-2.ensures.items, reverse-push c.loop-place.places.items (c.args.max - 1))
    (AreBelow-more (c.args.max - 1 + 1) c.args.max _ (omega arith) (AreBelow-on (c.args.max - 1) _ below))
