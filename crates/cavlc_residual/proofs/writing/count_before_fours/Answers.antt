use Rattle.std.proofs.Common.{length, filter, reverse, sym, ap, ◌∙◌, arith}
use Rattle.std.proofs.lemmas.List.{take_all}
use Rattle.cavlc_residual.specs.Block.{is_nonzero}
use Rattle.cavlc_residual.specs.Places.{places_of}
use Rattle.cavlc_residual.proofs.WriteLemmas.{four_less}
use Rattle.cavlc_residual.proofs.writing.count_before_fours.Goals as goal

pub loop-count-init : goal.loop-count-init
loop-count-init c =
    let xs = c.args.levels.now in
    let all = sym (take_all (length xs) xs (omega arith)) in
    record { within = omega arith; same = ap (λ t. filter is_nonzero (reverse t)) all; same_places = ap (λ t. places_of (reverse t)) all }

pub loop-count-preserved : goal.loop-count-preserved
loop-count-preserved c =
    let known = c.loop-count.invariant in
    let less = four_less c.args.levels.now c.loop-count.count c.loop-count-test.true known.within c.requires (c.are_zeros.ensures c.if-not-are_zeros.false) in
    record { within = omega (arith, known.within); same = known.same ∙ less.0; same_places = known.same_places ∙ less.1 }
