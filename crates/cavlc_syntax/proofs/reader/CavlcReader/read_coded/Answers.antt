use Rattle.cavlc_syntax.specs.Places.{place_in}
use Rattle.cavlc_macroblock.proofs.ValidLaws.{sent_valid}
use Rattle.cavlc_syntax.proofs.Known.{stands_coded, refuse_coded, refuse_coded_flag}
use Rattle.cavlc_syntax.proofs.reader.CavlcReader.read_coded.Goals as goal

pub returns-in_default : goal.returns-in_default
returns-in_default g c shape pos all done =
    let r = c.args.self.now in
    refuse_coded_flag r.shape r.rows r.field (place_in g.B.BitSource.taken g.B.BitSource.left r.bits) shape pos all done c.in_default.ensures.reads

pub returns-in_default-read_macroblock : goal.returns-in_default-read_macroblock
returns-in_default-read_macroblock g c shape pos all done =
    let r = c.args.self.now in
    let at = place_in g.B.BitSource.taken g.B.BitSource.left in
    refuse_coded r.shape r.rows r.field c.in-Some.field (at r.bits) (at c.read_field.new.bits) (at c.read_macroblock.new.bits) c.read_macroblock.new.mb c.of_next-around.result c.prefix_bound-bound.result shape pos all done
    c.in-Some.ensures.reads c.of_next-around.ensures.value c.prefix_bound-bound.ensures.value c.in_default-read_macroblock.ensures

pub push_coded-requires-clause-coded : goal.push_coded-requires-clause-coded
push_coded-requires-clause-coded g c = (sent_valid c.args.self.now.shape c.in-Some.field c.prefix_bound-bound.result c.read_macroblock.new.mb c.in-Some-read_macroblock.ensures.0).coded

pub returns : goal.returns
returns g c shape pos all done =
    let r = c.args.self.now in
    let at = place_in g.B.BitSource.taken g.B.BitSource.left in
    stands_coded r.shape r.rows c.push_coded.new.self r.field c.in-Some.field (at r.bits) (at c.read_field.new.bits) (at c.read_macroblock.new.bits) c.read_macroblock.new.mb c.of_next-around.result c.prefix_bound-bound.result shape pos all done
    c.requires c.in-Some.ensures.reads c.of_next-around.ensures.value c.prefix_bound-bound.ensures.value c.push_coded.ensures.rows c.in-Some-read_macroblock.ensures
