use Rattle.std.proofs.Common.{sym, ap}
use Rattle.bit_texts.proofs.Writing.{Appends-all_or_none, Appends-same}
use Rattle.cavlc_syntax.specs.SliceText.{field_text}
use Rattle.cavlc_syntax.proofs.field.write_field.Goals as goal

pub returns-then-sends_field : goal.returns-then-sends_field
returns-then-sends_field g c =
    Appends-same _ _ _ _ _ (ap (λ b. field_text b c.args.field) (sym c.if-sends_field.true)) (Appends-all_or_none _ _ _ _ c.put.ensures.ok c.put.ensures.err)
