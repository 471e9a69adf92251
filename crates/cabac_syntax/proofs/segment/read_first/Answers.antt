use Rattle.cabac_syntax.proofs.EndLaws.{begun}
use Rattle.cabac_syntax.proofs.segment.read_first.Goals as goal

pub returns-clause-knows : goal.returns-clause-knows
returns-clause-knows g c = λ start shape states.
    begun start shape _ _ (g.B.BitSource.taken c.read_ones.new.bits) (g.B.BitSource.left c.read_ones.new.bits) c.args.contexts c.start_segment.result c.in_ok-read_ones.ensures.ones c.in_ok-read_ones.ensures.aligned states
    (record { given = c.start_segment.ensures.given; kept = c.start_segment.ensures.kept; none = c.start_segment.ensures.none })
