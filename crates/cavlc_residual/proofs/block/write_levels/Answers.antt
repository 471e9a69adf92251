use Rattle.std.proofs.Common.{ℤ, List, Bool, take, length, refl, ap, ◌∙◌, sym, subst, w8}
use Rattle.std.proofs.lemmas.Int.{to_z-of_z}
use Rattle.cavlc_residual.proofs.Pieces.{AppendsFront, Appends-front}
use Rattle.bit_texts.specs.Texts.{Appended}
use Rattle.cavlc_residual.specs.Block.{levels_above, parts_text}
use Rattle.cavlc_residual.specs.Places.{gaps}
use Rattle.cavlc_residual.proofs.WriteLemmas.{found_known, levels_known, places_known, text_is}
use Rattle.cavlc_residual.proofs.block.write_levels.Goals as goal

pub levels_above-requires-clause-nonzero : goal.levels_above-requires-clause-nonzero
levels_above-requires-clause-nonzero g c = (found_known c.args.levels.now _ (ap (λ n. take n c.separate-parts.result.levels) c.from-count.ensures ∙ c.separate-parts.ensures.levels) c.requires.small).0

pub levels_above-requires-clause-small : goal.levels_above-requires-clause-small
levels_above-requires-clause-small g c = (found_known c.args.levels.now _ (ap (λ n. take n c.separate-parts.result.levels) c.from-count.ensures ∙ c.separate-parts.ensures.levels) c.requires.small).1

pub write_parts-requires-clause-levels : goal.write_parts-requires-clause-levels
write_parts-requires-clause-levels g c =
    let found = ap (λ n. take n c.separate-parts.result.levels) c.from-count.ensures ∙ c.separate-parts.ensures.levels in
    levels_known c.args.bound c.args.levels.now _ c.requires.within found c.requires.small
    (ap (levels_above c.args.bound) (sym found) ∙ sym c.levels_above.ensures ∙ c.if-levels_above.false)

pub write_parts-requires-clause-falling : goal.write_parts-requires-clause-falling
write_parts-requires-clause-falling g c =
    (places_known c.args.nc c.args.levels.now _ (ap (λ n. take n c.separate-parts.result.places) c.from-count.ensures ∙ c.separate-parts.ensures.places) c.requires.shape).0

pub returns-in_err-write_parts-clause-written : goal.returns-in_err-write_parts-clause-written
returns-in_err-write_parts-clause-written g c =
    let count = c.from-count.result in
    let levels = take count c.separate-parts.result.levels in
    let places = take count c.separate-parts.result.places in
    let found = ap (λ n. take n c.separate-parts.result.levels) c.from-count.ensures ∙ c.separate-parts.ensures.levels in
    let runs = (places_known c.args.nc c.args.levels.now _ (ap (λ n. take n c.separate-parts.result.places) c.from-count.ensures ∙ c.separate-parts.ensures.places) c.requires.shape).1 in
    let P : List Bool → Type 0 = λ t. AppendsFront (g.B.BitSink.bits c.args.b.now) (g.B.BitSink.bits c.write_parts.new.b) t in
    let Q : ℤ → Type 0 = λ n. AppendsFront (g.B.BitSink.bits c.args.b.now) (g.B.BitSink.bits c.write_parts.new.b) (parts_text n (length c.args.levels.now) levels (gaps places)) in
    λ _. Appends-front _ _ _ _ c.from_residual.ensures.0
    (subst P (text_is c.args.nc _ c.args.levels.now _ _ found runs refl) (subst Q (to_z-of_z w8 c.args.nc c.ranges.nc) c.in_err-write_parts.ensures))

pub returns-clause-written : goal.returns-clause-written
returns-clause-written g c =
    let count = c.from-count.result in
    let levels = take count c.separate-parts.result.levels in
    let places = take count c.separate-parts.result.places in
    let found = ap (λ n. take n c.separate-parts.result.levels) c.from-count.ensures ∙ c.separate-parts.ensures.levels in
    let runs = (places_known c.args.nc c.args.levels.now _ (ap (λ n. take n c.separate-parts.result.places) c.from-count.ensures ∙ c.separate-parts.ensures.places) c.requires.shape).1 in
    let P : List Bool → Type 0 = λ t. Appended (g.B.BitSink.bits c.args.b.now) (g.B.BitSink.bits c.write_parts.new.b) t in
    let Q : ℤ → Type 0 = λ n. Appended (g.B.BitSink.bits c.args.b.now) (g.B.BitSink.bits c.write_parts.new.b) (parts_text n (length c.args.levels.now) levels (gaps places)) in
    λ _. subst P (text_is c.args.nc _ c.args.levels.now _ _ found runs refl) (subst Q (to_z-of_z w8 c.args.nc c.ranges.nc) c.in_ok-write_parts.ensures)
