use Rattle.std.proofs.Common.{ℕ}
use Rattle.binarisation.specs.BinString.{only}
use Rattle.binarisation.specs.Elements.{index_of}
use Rattle.binarisation.proofs.Numbers.{index_of-small}
use Rattle.binarisation.proofs.Strings.{writes_then, writes_only, on_ok}
use Rattle.binarisation.proofs.elements.write_ref_idx.Goals as goal

pub returns-clause-writes : goal.returns-clause-writes
returns-clause-writes g c = on_ok c.write_unary.result
    (λ written. writes_then g.S.BinSink.step _ (λ (count : ℕ). only (index_of count)) c.args.value c.args.value _ _ _ (rw c.from.ensures at written)
    (writes_only g.S.BinSink.step (index_of c.args.value) c.args.value _ (index_of-small c.args.value c.requires.value))) c.write_unary.ensures.writes
