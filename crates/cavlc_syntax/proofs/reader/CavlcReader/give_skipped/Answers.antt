use Rattle.cavlc_syntax.specs.Places.{place_in}
use Rattle.cavlc_syntax.proofs.Known.{stands_skipped, refuse_skipped_flag}
use Rattle.cavlc_syntax.proofs.Members.{skipped_coded, skipped_is}
use Rattle.cavlc_syntax.proofs.reader.CavlcReader.give_skipped.Goals as goal

pub returns-in_default : goal.returns-in_default
returns-in_default g c shape pos all done =
    let r = c.args.self.now in
    refuse_skipped_flag r.shape r.rows r.field c.args.left (place_in g.B.BitSource.taken g.B.BitSource.left r.bits) shape pos all done c.in_default.ensures.reads

pub push_coded-requires-clause-coded : goal.push_coded-requires-clause-coded
push_coded-requires-clause-coded g c = skipped_coded c.args.self.now.shape c.in-Some.field _ (skipped_is _ c.in-Some.field c.without_elements-skipped.ensures)

pub returns : goal.returns
returns g c shape pos all done =
    let r = c.args.self.now in
    let at = place_in g.B.BitSource.taken g.B.BitSource.left in
    let field = c.in-Some.field in
    stands_skipped r.shape r.rows c.push_coded.new.self r.field field c.args.left (at r.bits) (at c.read_field.new.bits) _ shape pos all done
    c.in-Some.ensures.reads c.in-Some.ensures.pair (skipped_is _ field c.without_elements-skipped.ensures) c.push_coded.ensures.rows
