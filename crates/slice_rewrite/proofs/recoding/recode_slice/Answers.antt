use Rattle.std.proofs.lemmas.Result.{err_from_is_err_and}
use Rattle.bit_texts.specs.Bits.{bits_of}
use Rattle.slice_rewrite.proofs.SliceForms.{refused_as}
use Rattle.slice_rewrite.proofs.recoding.recode_slice.Goals as goal

pub returns-in_err-open_slice-clause-err : goal.returns-in_err-open_slice-clause-err
returns-in_err-open_slice-clause-err g c =
    let p = err_from_is_err_and c.from_residual.result c.from_residual.ensures.1 in
    rw (p.1, p.2) (refused_as c.args.to c.args.init.now c.args.sets.now c.args.header (bits_of c.args.payload.now) c.in_err-open_slice.field-0.0 c.in_err-open_slice.ensures.err)
