use Rattle.std.proofs.Common.{refl, ap, ◌∙◌}
use Rattle.bit_texts.specs.Bits.{binary}
use Rattle.code_tables.specs.Codes.{code_at, present}
use Rattle.code_tables.proofs.Groups.{found_none, found_some, found_length}
use Rattle.code_tables.proofs.table.CodeTable.next_code.Goals as goal

pub returns-in_err-length-clause-begins : goal.returns-in_err-length-clause-begins
returns-in_err-length-clause-begins c =
    rw c.from_residual.ensures (found_none c.self.inside.groups c.self.inside.places.now c.self.inside.codes.now c.args.self.now c.group_of.result _ (binary 64 c.args.window) c.entry_at.result c.self.view_is c.self.invariant.1 c.group_of.ensures.in_range c.group_of.ensures.begins refl (c.entry_at.ensures ∙ ap (λ k. present (code_at c.self.inside.codes.now k)) c.from.ensures) c.in_err-length.was)

pub returns-clause-begins : goal.returns-clause-begins
returns-clause-begins c =
    found_some c.self.inside.groups c.self.inside.places.now c.self.inside.codes.now c.args.self.now c.group_of.result _ (binary 64 c.args.window) c.entry_at.result _ c.self.view_is c.self.invariant.1 c.group_of.ensures.in_range c.group_of.ensures.begins refl (c.entry_at.ensures ∙ ap (λ k. present (code_at c.self.inside.codes.now k)) c.from.ensures) c.in_ok-length.was

pub returns-clause-length : goal.returns-clause-length
returns-clause-length c = found_length c.self.inside.codes.now c.args.self.now _ _ _ _ c.entry_at.result c.self.view_is c.entry_at.ensures c.from.ensures c.in_ok-length.was
