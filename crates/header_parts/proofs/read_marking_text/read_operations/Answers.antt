use Rattle.std.proofs.Common.{◌∙◌, refl}
use Rattle.std.proofs.lemmas.Result.{err_from_is_err_and}
use Rattle.header_parts.proofs.Operations.{reading_begins, reading_goes_on, reading_ends, reading_cut, reading_fails, shorter}
use Rattle.header_parts.proofs.read_marking_text.read_operations.Goals as goal

pub loop-operations-init : goal.loop-operations-init
loop-operations-init g c = record { reads = rw c.new-operations.ensures.items (reading_begins _); kept = refl }

pub returns-in_err-operation-clause-answers : goal.returns-in_err-operation-clause-answers
returns-in_err-operation-clause-answers g c =
    let p = err_from_is_err_and c.from_residual.result c.from_residual.ensures.1 in
    rw (p.1, p.2, c.in_err-operation.ensures.reads.0) (reading_cut _ _ _ c.in_err-operation.ensures.reads.1 c.loop-operations.invariant.reads)

pub returns-then-operation-eq0-clause-answers : goal.returns-then-operation-eq0-clause-answers
returns-then-operation-eq0-clause-answers g c = rw c.new.ensures (reading_ends _ _ _ c.in_ok-operation.operation _ c.in_ok-operation.ensures.reads c.if-operation-eq0.true c.loop-operations.invariant.reads)

pub returns-in_err-first-clause-answers : goal.returns-in_err-first-clause-answers
returns-in_err-first-clause-answers g c =
    let p = err_from_is_err_and c.from_residual-in_err-first.result c.from_residual-in_err-first.ensures.1 in
    rw (p.1, p.2) (reading_fails c.in_err-first.field-0.0 _ _ _ c.in_ok-operation.operation _ c.in_ok-operation.ensures.reads c.if-operation-eq0.false c.in_err-first.ensures.answers c.loop-operations.invariant.reads)

pub loop-operations-smaller : goal.loop-operations-smaller
loop-operations-smaller g c = shorter _ _ _ c.in_ok-operation.operation c.in_ok-first.first c.in_ok-operation.ensures.reads c.in_ok-first.ensures.answers

pub loop-operations-preserved : goal.loop-operations-preserved
loop-operations-preserved g c =
    record { reads = rw c.in_ok-push.ensures.items (reading_goes_on _ _ _ _ c.in_ok-operation.operation c.in_ok-first.first _ c.in_ok-operation.ensures.reads c.if-operation-eq0.false c.in_ok-first.ensures.answers c.loop-operations.invariant.reads); kept = c.in_ok-first.ensures.kept ∙ c.in_ok-operation.ensures.kept ∙ c.loop-operations.invariant.kept }
