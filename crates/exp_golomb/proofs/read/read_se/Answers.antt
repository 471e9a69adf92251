use Rattle.std.proofs.Common.{rules}
use Rattle.bit_texts.specs.Readings.{Gives}
use Rattle.exp_golomb.specs.Code.{Se}
use Rattle.exp_golomb.specs.Element.{front}
use Rattle.exp_golomb.proofs.Fronts.{Reads-se, element_at-from_front}
use Rattle.exp_golomb.proofs.read.read_se.Goals as goal

pub returns-clause-reads : goal.returns-clause-reads
returns-clause-reads g c =
    let left = g.B.BitSource.left in
    let exact : Gives c.signed.result (left c.signed.new.b) (front (Se c.args.min c.args.max) (left c.args.b.now)) = search rules in
    Reads-se c.args.min c.args.max c.signed.result _ _ c.requires.least c.requires.most exact

pub returns-clause-element : goal.returns-clause-element
returns-clause-element g c =
    let left = g.B.BitSource.left in
    let exact : Gives c.signed.result (left c.signed.new.b) (front (Se c.args.min c.args.max) (left c.args.b.now)) = search rules in
    element_at-from_front (Se c.args.min c.args.max) c.signed.result _ _ _ _ exact c.signed.ensures.kept
