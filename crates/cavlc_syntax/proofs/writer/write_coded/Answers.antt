use Rattle.std.proofs.Common.{length, ap, ◌∙◌, length-append, ◌+◌}
use Rattle.bit_texts.proofs.Writing.{Appends-stop, Appends-then, Appends-same}
use Rattle.cavlc_macroblock.specs.Macroblock.{macroblock_text}
use Rattle.cavlc_syntax.specs.SliceText.{run_text, field_text}
use Rattle.cavlc_syntax.proofs.writer.write_coded.Goals as goal

pub returns-in_err-write_run : goal.returns-in_err-write_run
returns-in_err-write_run g c = let put = c.in_err-write_run.ensures in Appends-stop _ _ _ _ put.0 _ c.from_residual.ensures.0 put.1

pub returns-in_err-write_field : goal.returns-in_err-write_field
returns-in_err-write_field g c =
    let put = c.in_err-write_field.ensures in
    Appends-then _ _ _ _ _ _ c.in_ok-write_run.ensures (Appends-stop _ _ _ _ put.0 _ c.from_residual-in_err-write_field.ensures.0 put.1)

pub returns : goal.returns
returns g c =
    let old = g.B.BitSink.bits c.args.bits.now in
    let mid = g.B.BitSink.bits c.write_run.new.bits in
    let first = run_text c.args.shape.now.kind c.args.run in
    let flag = field_text c.args.sends_field c.args.mb.now.field in
    let far = ap length c.in_ok-write_field.ensures.is ∙ length-append mid flag ∙ ap (λ n. n + length flag) (ap length c.in_ok-write_run.ensures.is ∙ length-append old first) in
    Appends-then _ _ _ _ _ _ c.in_ok-write_run.ensures
    (Appends-then _ _ _ _ _ _ c.in_ok-write_field.ensures (Appends-same _ _ _ _ _ (ap (λ n. macroblock_text c.args.shape.now c.args.around.now n c.args.mb.now) far) c.write_macroblock.ensures))
