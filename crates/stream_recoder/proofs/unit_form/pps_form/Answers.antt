use Rattle.std.proofs.lemmas.Result.{err_from_is_err_and}
use Rattle.std.proofs.Common.{List, ℕ, subst}
use Rattle.bit_texts.specs.Bits.{bits_of}
use Rattle.param_sets.specs.PictureParameterSet.{PpsText}
use Rattle.slice_rewrite.specs.Options.{options}
use Rattle.stream_recoder.proofs.UnitForms.{escape_refused_pps, pps_stopped, pps_written}
use Rattle.stream_recoder.proofs.unit_form.pps_form.Goals as goal

pub returns-in_err-payload-clause-err : goal.returns-in_err-payload-clause-err
returns-in_err-payload-clause-err c init tries before periods stand =
    let p = err_from_is_err_and c.from_residual.result c.from_residual.ensures.1 in
    rw (p.1, p.2) (escape_refused_pps (options c.args.plan init tries) before c.args.unit.now c.in_err-payload.field-0.0 c.requires.kind c.in_err-payload.ensures.err)

pub returns-in_err-bytes-clause-err : goal.returns-in_err-bytes-clause-err
returns-in_err-bytes-clause-err c init tries before periods stand =
    let p = err_from_is_err_and c.from_residual-in_err-bytes.result c.from_residual-in_err-bytes.ensures.1 in
    let P : List ℕ → Type 0 = λ payload. PpsText c.in-Ok.pps (bits_of payload) in
    rw (p.1, p.2) (pps_stopped (options c.args.plan init tries) before c.args.sets.now c.args.unit.now c.in_ok-payload.payload.items c.in-Ok.pps c.in_err-bytes.field-0.0 c.requires.kind c.in_ok-payload.ensures.ok
    (subst P c.as_slice.ensures.value c.in-Ok.ensures.reads) stand.sets_are c.in_err-bytes.ensures.err)

pub returns-clause-ok : goal.returns-clause-ok
returns-clause-ok c init tries before periods stand =
    let P : List ℕ → Type 0 = λ payload. PpsText c.in-Ok.pps (bits_of payload) in
    pps_written (options c.args.plan init tries) before c.args.sets.now c.put_pps.new.self periods c.args.unit.now c.in_ok-payload.payload.items c.in_ok-bytes.bytes.items c.in-Ok.pps c.requires.kind c.in_ok-payload.ensures.ok
    (subst P c.as_slice.ensures.value c.in-Ok.ensures.reads) (c.in_ok-bytes.ensures.ok init tries) c.in_ok-bytes.ensures.free c.in_ok-put_pps.ensures.ok stand
