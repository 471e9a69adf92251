use Rattle.std.proofs.lemmas.Result.{err_from_is_err_and}
use Rattle.ref_pic_lists.specs.PredWeightTable.{pred_weight_table}
use Rattle.ref_pic_lists.proofs.AnyRefusal.{weights_alike}
use Rattle.header_parts.proofs.ReferenceTexts.{answers_alike, faults_alike}
use Rattle.header_parts.proofs.read_lists.read_table.Goals as goal

pub returns-in_err-read_weights-clause-answers : goal.returns-in_err-read_weights-clause-answers
returns-in_err-read_weights-clause-answers g c =
    let p = err_from_is_err_and c.from_residual.result c.from_residual.ensures.1 in
    rw (p.1, p.2) (faults_alike (pred_weight_table c.args.l0 c.args.l1) (pred_weight_table c.args.l0 c.args.l1) (weights_alike c.args.l0 c.args.l1) _ _ c.in_err-read_weights.ensures.exact)

pub returns-clause-answers : goal.returns-clause-answers
returns-clause-answers g c = answers_alike (pred_weight_table c.args.l0 c.args.l1) (pred_weight_table c.args.l0 c.args.l1) (weights_alike c.args.l0 c.args.l1) _ _ _ c.in_ok-read_weights.ensures.exact
