use Rattle.std.proofs.Common.{◌∙◌, refl}
use Rattle.std.proofs.lemmas.Result.{err_from_is_err_and}
use Rattle.ref_pic_lists.proofs.Operations.{reading_begins, reading_goes_on, reading_ends, reading_cut, reading_fails, shorter}
use Rattle.ref_pic_lists.proofs.read_modification_text.read_operations.Goals as goal

pub loop-operations-init : goal.loop-operations-init
loop-operations-init g c = record { reads = rw c.new-operations.ensures.items (reading_begins _); kept = refl }

pub returns-in_err-idc-clause-answers : goal.returns-in_err-idc-clause-answers
returns-in_err-idc-clause-answers g c =
    let p = err_from_is_err_and c.from_residual.result c.from_residual.ensures.1 in
    rw (p.1, p.2, c.in_err-idc.ensures.reads.0) (reading_cut _ _ _ c.in_err-idc.ensures.reads.1 c.loop-operations.invariant.reads)

pub returns-then-idc-eq3-clause-answers : goal.returns-then-idc-eq3-clause-answers
returns-then-idc-eq3-clause-answers g c = rw c.new.ensures (reading_ends _ _ _ c.in_ok-idc.idc _ c.in_ok-idc.ensures.reads c.if-idc-eq3.true c.loop-operations.invariant.reads)

pub returns-in_err-first-clause-answers : goal.returns-in_err-first-clause-answers
returns-in_err-first-clause-answers g c =
    let p = err_from_is_err_and c.from_residual-in_err-first.result c.from_residual-in_err-first.ensures.1 in
    rw (p.1, p.2) (reading_fails c.in_err-first.field-0.0 _ _ _ c.in_ok-idc.idc _ c.in_ok-idc.ensures.reads c.if-idc-eq3.false c.in_err-first.ensures.answers c.loop-operations.invariant.reads)

pub loop-operations-smaller : goal.loop-operations-smaller
loop-operations-smaller g c = shorter _ _ _ c.in_ok-idc.idc c.in_ok-first.first c.in_ok-idc.ensures.reads c.in_ok-first.ensures.answers

pub loop-operations-preserved : goal.loop-operations-preserved
loop-operations-preserved g c =
    record { reads = rw c.in_ok-push.ensures.items (reading_goes_on _ _ _ _ c.in_ok-idc.idc c.in_ok-first.first _ c.in_ok-idc.ensures.reads c.if-idc-eq3.false c.in_ok-first.ensures.answers c.loop-operations.invariant.reads); kept = c.in_ok-first.ensures.kept ∙ c.in_ok-idc.ensures.kept ∙ c.loop-operations.invariant.kept }
