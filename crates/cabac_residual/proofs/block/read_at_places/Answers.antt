use Rattle.std.proofs.Common.{◌≡◌, ◌-◌, ◌<◌, ℕ, length, reverse, to_z, of_z, w32, get_or, ap, ◌∙◌, rules, arith}
use Rattle.std.specs.Option.{option_map}
use Rattle.std.proofs.lemmas.Int.{to_z-of_z}
use Rattle.std.proofs.lemmas.List.{get_or_past, get_or_default}
use Rattle.std.proofs.Math.Seq.{take-length}
use Rattle.cabac_residual.specs.Block.{behind_last}
use Rattle.cabac_residual.proofs.Blocks.{after-few, unread}
use Rattle.cabac_residual.proofs.Places.{read_down, read_down_none, clear_next, clear_first, places_end}
use Rattle.cabac_residual.proofs.block.read_at_places.Goals as goal

pub loop-at-init : goal.loop-at-init
loop-at-init g c =
    let places = c.args.places.now in
    let last = behind_last (reverse places) in
    let limit : get_or places (length places) last ≡ last = get_or_past places (length places) last (omega arith) in
    let all = take-length {A = ℕ} places in
    record {
      going = c.requires.going;
      place = omega arith;
      few = omega (arith, c.requires.few);
      clear = rw (limit, all) (clear_first places c.args.levels.now c.requires.below c.requires.clear);
      reads = λ result t h. rw (limit, all) at h;
    }

pub read_level-requires-clause-going : goal.read_level-requires-clause-going
read_level-requires-clause-going g c = c.loop-at.invariant.going

pub read_level-requires-clause-counts : goal.read_level-requires-clause-counts
read_level-requires-clause-counts g c = omega (arith, c.loop-at.invariant.few)

pub returns-in_err-level-clause-reads : goal.returns-in_err-level-clause-reads
returns-in_err-level-clause-reads g c =
    unread _ _ _ _ _ (ap (option_map _) c.from_residual.ensures)
    (c.loop-at.invariant.reads _ _ (read_down_none g.S.BinSource.step c.args.cat c.loop-at.counts c.loop-at.levels c.args.places.now (c.loop-at.at - 1) c.loop-at.at (behind_last (reverse c.args.places.now)) _ _ (omega arith) (omega (arith, c.loop-at.invariant.place)) c.loop-at.invariant.clear c.in_err-level.ensures.reads))

pub bounds-places-at : goal.bounds-places-at
bounds-places-at g c = omega (arith, c.loop-at.invariant.place)

pub bounds-levels-from : goal.bounds-levels-from
bounds-levels-from g c =
    let places = c.args.places.now in
    let within : c.loop-at.at - 1 < length places = omega (arith, c.loop-at.invariant.place) in
    let place : c.from.result ≡ get_or places (c.loop-at.at - 1) (behind_last (reverse places)) = c.from.ensures ∙ get_or_default places (c.loop-at.at - 1) _ _ within in
    (clear_next places (c.loop-at.at - 1) c.loop-at.at (behind_last (reverse places)) c.from.result c.loop-at.levels c.in_ok-level.level (omega arith) within place c.loop-at.invariant.clear).0

pub after-counts-requires : goal.after-counts-requires
after-counts-requires g c = omega (arith, c.loop-at.invariant.few)

pub loop-at-preserved : goal.loop-at-preserved
loop-at-preserved g c =
    let places = c.args.places.now in
    let last = behind_last (reverse places) in
    let same : to_z w32 (of_z w32 c.in_ok-level.level) ≡ c.in_ok-level.level = to_z-of_z w32 c.in_ok-level.level (search rules) in
    let next = rw same at c.after-counts.ensures in
    let within : c.loop-at.at - 1 < length places = omega (arith, c.loop-at.invariant.place) in
    let place : c.from.result ≡ get_or places (c.loop-at.at - 1) last = c.from.ensures ∙ get_or_default places (c.loop-at.at - 1) _ _ within in
    record {
      going = c.in_ok-level.ensures.going;
      place = omega (arith, c.loop-at.invariant.place);
      few = let most = after-few c.loop-at.counts c.in_ok-level.level c.after-counts.result next in omega (arith, c.loop-at.invariant.few);
      clear = rw same (clear_next places (c.loop-at.at - 1) c.loop-at.at last c.from.result c.loop-at.levels c.in_ok-level.level (omega arith) within place c.loop-at.invariant.clear).1;
      reads = λ result t h.
          let others = rw same at h in
          c.loop-at.invariant.reads result t
          (read_down g.S.BinSource.step c.args.cat c.loop-at.counts c.after-counts.result c.loop-at.levels places (c.loop-at.at - 1) c.loop-at.at last c.from.result c.in_ok-level.level result _ _ t (omega arith) within place c.loop-at.invariant.clear next c.in_ok-level.ensures.reads others);
    }

pub returns-clause-reads : goal.returns-clause-reads
returns-clause-reads g c =
    let last = behind_last (reverse c.args.places.now) in
    let e : c.loop-at.at ≡ 0 = omega arith in
    let clear = rw e at c.loop-at.invariant.clear in
    c.loop-at.invariant.reads _ _ (rw e (places_end g.S.BinSource.step c.args.cat c.loop-at.counts c.loop-at.levels (get_or c.args.places.now 0 last) c.loop-at.s clear.zeros))

pub returns-clause-going : goal.returns-clause-going
returns-clause-going g c = c.loop-at.invariant.going
