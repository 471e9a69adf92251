use Rattle.std.proofs.Common.{◌≡◌, ◌<◌, ◌+◌, ◌-◌, ◌∷◌, cond, slice_set, pos, length, take, reverse, filter, get_or, refl, ap, ◌∙◌, arith}
use Rattle.std.proofs.lemmas.List.{length-reverse, length-take-le, length-set}
use Rattle.std.specs.Int.{from_bool}
use Rattle.bit_texts.proofs.Numbers.{from_bool-most}
use Rattle.cavlc_residual.specs.Block.{is_nonzero}
use Rattle.cavlc_residual.specs.Places.{places_of}
use Rattle.cavlc_residual.proofs.WriteLemmas.{down-next, same_i32, nonzero_test, small_element, store-turn}
use Rattle.cavlc_residual.proofs.writing.separate.Goals as goal

pub loop-left-preserved : goal.loop-left-preserved
loop-left-preserved c =
    let xs = c.args.levels.now in
    let i = c.loop-left.left - 1 in
    let x = get_or xs i (pos 0) in
    let rest = reverse (take i xs) in
    let known = c.loop-left.invariant in
    let within : i < length xs = omega (arith, known.within, c.loop-left-test.true) in
    let next = down-next xs i c.loop-left.left x (omega (arith, c.loop-left-test.true)) within refl in
    let small = small_element xs xs i refl c.requires.small within in
    let one : c.from-count.result ≡ from_bool (is_nonzero x) = c.from-count.ensures ∙ ap from_bool (nonzero_test x small) in
    let place : length rest ≡ i = length-reverse (take i xs) ∙ length-take-le i xs (omega (arith, within)) in
    record {
      within = omega (arith, known.within, c.loop-left-test.true, one, from_bool-most (is_nonzero x));
      room = length-set c.loop-left.found c.from.result _ ∙ known.room;
      room_places = length-set c.loop-left.places c.from-in-loop-left.result i ∙ known.room_places;
      levels =
          store-turn c.loop-left.found _ _ _ (filter is_nonzero rest) c.loop-left.count _ c.from.result (is_nonzero x) x c.from.ensures (omega (arith, c.from.ensures, known.within, known.room, c.requires.few, c.loop-left-test.true)) (ap (λ n. c.loop-left.count + n) one)
          (ap (slice_set c.loop-left.found c.from.result) (same_i32 x small)) (ap (filter is_nonzero) next) known.levels;
      places =
          store-turn c.loop-left.places _ _ _ (places_of rest) c.loop-left.count _ c.from-in-loop-left.result (is_nonzero x) i c.from-in-loop-left.ensures (omega (arith, c.from-in-loop-left.ensures, known.within, known.room_places, c.requires.few, c.loop-left-test.true)) (ap (λ n. c.loop-left.count + n) one)
          refl (ap places_of next ∙ ap (λ n. cond (is_nonzero x) (n ∷ places_of rest) (places_of rest)) place) known.places;
    }
