use Rattle.std.proofs.Common.{◌≡◌, to_z, of_z, w8, ap, rules}
use Rattle.std.proofs.lemmas.Int.{to_z-of_z}
use Rattle.std.specs.Option.{option_map}
use Rattle.cabac_macroblock.proofs.Puts.{unread}
use Rattle.cabac_macroblock.proofs.CodingSteps.{reads_delta, reads_no_delta}
use Rattle.cabac_macroblock.proofs.coding.read_delta.Goals as goal

pub returns-in_err-mb-clause-reads : goal.returns-in_err-mb-clause-reads
returns-in_err-mb-clause-reads g c mbs stands =
    unread _ _ _ _ _ (ap (option_map _) c.from_residual.ensures)
    (reads_no_delta g.S.BinSource.step mbs c.args.at c.args.mb.now _ _ _ (c.ctx_inc_qp_delta-inc.ensures.value mbs stands) c.in_err-mb.ensures.reads)

pub returns-clause-reads : goal.returns-clause-reads
returns-clause-reads g c mbs stands =
    let same : to_z w8 (of_z w8 c.in_ok-mb.field-0) ≡ c.in_ok-mb.field-0 = to_z-of_z w8 c.in_ok-mb.field-0 (search rules) in
    reads_delta g.S.BinSource.step mbs c.args.at c.args.mb.now _ _ _ _ _ (c.ctx_inc_qp_delta-inc.ensures.value mbs stands) (ap (λ d. record c.args.mb.now { qp_delta = d }) same) c.in_ok-mb.ensures.reads
