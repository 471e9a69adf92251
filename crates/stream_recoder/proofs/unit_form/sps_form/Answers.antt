use Rattle.std.proofs.lemmas.Result.{err_from_is_err_and}
use Rattle.std.proofs.Common.{◌∙◌, ap, List, ℕ, subst}
use Rattle.bit_texts.specs.Bits.{bits_of}
use Rattle.param_sets.specs.Sets.{sps_put}
use Rattle.param_sets.specs.SequenceParameterSet.{SpsText}
use Rattle.slice_rewrite.specs.Options.{options}
use Rattle.stream_recoder.proofs.UnitForms.{escape_refused_sps, sps_written}
use Rattle.stream_recoder.proofs.unit_form.sps_form.Goals as goal

pub returns-in_err-payload-clause-err : goal.returns-in_err-payload-clause-err
returns-in_err-payload-clause-err c init tries before periods stand =
    let p = err_from_is_err_and c.from_residual.result c.from_residual.ensures.1 in
    rw (p.1, p.2) (escape_refused_sps (options c.args.plan init tries) before c.args.unit.now c.in_err-payload.field-0.0 c.requires.kind c.in_err-payload.ensures.err)

pub returns-clause-ok : goal.returns-clause-ok
returns-clause-ok c init tries before periods stand =
    let P : List ℕ → Type 0 = λ payload. SpsText c.in-Ok.sps (bits_of payload) in
    let u = c.in_ok-bytes.ensures in
    sps_written (options c.args.plan init tries) before c.args.sets.now c.put_sps.new.self periods c.args.unit.now c.in_ok-payload.payload.items c.in_ok-bytes.bytes.items c.in-Ok.sps c.requires.kind c.in_ok-payload.ensures.ok
    (subst P c.as_slice.ensures.value c.in-Ok.ensures.reads) u.bytes (c.in_ok-put_sps.ensures.ok ∙ ap (λ s. sps_put s c.args.sets.now) u.kept) stand
