use Rattle.std.proofs.lemmas.Result.{err_from_is_err_and}
use Rattle.ref_pic_lists.specs.RefPicListModification.{ref_pic_list_modification}
use Rattle.ref_pic_lists.proofs.AnyRefusal.{modification_alike}
use Rattle.header_parts.proofs.ReferenceTexts.{answers_alike, faults_alike}
use Rattle.header_parts.proofs.read_lists.read_list.Goals as goal

pub returns-in_err-read_modification-clause-answers : goal.returns-in_err-read_modification-clause-answers
returns-in_err-read_modification-clause-answers g c =
    let p = err_from_is_err_and c.from_residual.result c.from_residual.ensures.1 in
    rw (p.1, p.2) (faults_alike ref_pic_list_modification ref_pic_list_modification modification_alike _ _ c.in_err-read_modification.ensures.exact)

pub returns-clause-answers : goal.returns-clause-answers
returns-clause-answers g c = answers_alike ref_pic_list_modification ref_pic_list_modification modification_alike _ _ _ c.in_ok-read_modification.ensures.exact
