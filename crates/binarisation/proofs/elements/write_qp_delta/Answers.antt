use Rattle.std.proofs.Common.{ℕ, w8}
use Rattle.std.proofs.lemmas.Int.{to_z-of_z}
use Rattle.exp_golomb.specs.Code.{place_of}
use Rattle.binarisation.specs.BinString.{only}
use Rattle.binarisation.specs.Elements.{delta}
use Rattle.binarisation.proofs.Numbers.{delta-place_of}
use Rattle.binarisation.proofs.Strings.{writes_then, writes_only, on_ok}
use Rattle.binarisation.proofs.elements.write_qp_delta.Goals as goal

pub returns-clause-writes : goal.returns-clause-writes
returns-clause-writes g c = on_ok c.write_unary.result
    (λ written. writes_then g.S.BinSink.step _ (λ (count : ℕ). only (delta count)) (place_of c.args.value) c.args.value _ _ _ (rw (c.from.ensures, c.place_of.ensures, to_z-of_z w8 c.args.value c.ranges.value) at written)
    (writes_only g.S.BinSink.step (delta (place_of c.args.value)) c.args.value _ (delta-place_of c.args.value c.requires.least c.requires.greatest))) c.write_unary.ensures.writes
