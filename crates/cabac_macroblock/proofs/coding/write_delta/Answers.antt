use Rattle.std.proofs.Common.{◌≡◌, to_z, of_z, w8, rules}
use Rattle.std.proofs.lemmas.Int.{to_z-of_z}
use Rattle.binarisation.proofs.Strings.{on_ok}
use Rattle.cabac_macroblock.proofs.CodingSteps.{writes_delta}
use Rattle.cabac_macroblock.proofs.coding.write_delta.Goals as goal

pub returns-clause-writes : goal.returns-clause-writes
returns-clause-writes g c mbs stands =
    let same : to_z w8 (of_z w8 c.args.mb.now.qp_delta) ≡ c.args.mb.now.qp_delta = to_z-of_z w8 c.args.mb.now.qp_delta (search rules) in
    let value = rw same at c.write_qp_delta.ensures.writes in
    on_ok c.write_qp_delta.result
    (λ written. writes_delta g.S.BinSink.step mbs c.args.at c.args.mb.now _ _ _ (c.ctx_inc_qp_delta-inc.ensures.value mbs stands) written) value
