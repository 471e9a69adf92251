use Rattle.std.proofs.Common.{◌≡◌, inr, subst, arith, to_z-of_z}
use Rattle.init_table.specs.InitTable.{number_in}
use Rattle.init_table.proofs.Reading.{HasRead, read-more, writes}
use Rattle.init_table.proofs.table.InitTable.of_numbers.Goals as goal

pub loop-place-preserved : goal.loop-place-preserved
loop-place-preserved c =
    let first = c.in-Some.ensures in
    let same : number_in c.set_number.new.self.pairs c.loop-place.place ≡ c.in-Some.value = grind (arith, to_z-of_z, c.set_number.ensures.same) in
    read-more c.args.text.now c.loop-place.table.pairs c.set_number.new.self.pairs c.loop-place.rest.now c.in-Some.behind.now c.loop-place.place c.in-Some.value
    c.loop-place.invariant c.loop-place-test.true first.0 first.1 first.2 same c.set_number.ensures.others

pub returns-in-None : goal.returns-in-None
returns-in-None c =
    let at : c.loop-place.place ≡ 3680 = omega (arith, c.loop-place-test.false, c.loop-place.auto.place-end) in
    inr (writes c.args.text.now c.loop-place.table.pairs c.loop-place.rest.now (subst (HasRead c.args.text.now c.loop-place.table.pairs c.loop-place.rest.now) at c.loop-place.invariant) c.in-None.ensures)
