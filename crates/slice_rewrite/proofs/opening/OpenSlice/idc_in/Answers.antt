use Rattle.std.proofs.Common.{◌∙◌, [], ap, sym}
use Rattle.std.specs.Prelude.{if◌then◌else◌}
use Rattle.slice_rewrite.proofs.opening.OpenSlice.idc_in.Goals as goal

pub returns-then-sends_idc : goal.returns-then-sends_idc
returns-then-sends_idc c sets header bits r number = sym (ap (λ b. if b then c.args.idc else 0) (sym (c.sends_idc.ensures sets header bits r []) ∙ c.if-sends_idc.true))

pub returns-else-sends_idc : goal.returns-else-sends_idc
returns-else-sends_idc c sets header bits r number = sym (ap (λ b. if b then c.args.idc else 0) (sym (c.sends_idc.ensures sets header bits r []) ∙ c.if-sends_idc.false))
