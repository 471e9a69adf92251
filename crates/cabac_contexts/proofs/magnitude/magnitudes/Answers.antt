use Rattle.mb_neighbours.specs.declared.place.At.TheVariants.{Luma4}
use Rattle.cabac_contexts.proofs.Magnitudes.{magnitudes-is}
use Rattle.cabac_contexts.proofs.Neighbours.{recent_left, recent_above}
use Rattle.cabac_contexts.proofs.magnitude.magnitudes.Goals as goal

pub returns : goal.returns
returns c mbs stands =
    let shape = c.args.shape.now in
    let rows = c.args.done.now in
    let place = Luma4 c.args.block in
    let a = c.left-a.ensures.value mbs stands in
    let b = c.above-b.ensures.value mbs stands in
    magnitudes-is shape mbs c.args.at c.args.field c.args.list c.args.axis c.args.block c.args.mb.now c.left-a.result c.above-b.result _ _ a b
    (c.of_neighbour.ensures.value shape mbs stands.are (recent_left shape rows mbs c.args.at c.args.field place c.left-a.result stands a))
    (c.of_neighbour-2.ensures.value shape mbs stands.are (recent_above shape rows mbs c.args.at c.args.field place c.above-b.result stands b))
