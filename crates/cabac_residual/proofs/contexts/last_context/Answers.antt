use Rattle.std.proofs.Common.{◌≡◌, get_or, refl}
use Rattle.std.proofs.lemmas.Option.{get_or_from_slice_get}
use Rattle.code_tables.specs.SignificanceMaps.{last_list}
use Rattle.cabac_residual.proofs.contexts.last_context.Goals as goal
use Rattle.cabac_residual.proofs.contexts.last_context.Goals.{then-field, else-field}

pub returns-then-cat-eq5-clause-context : goal.returns-then-cat-eq5-clause-context
returns-then-cat-eq5-clause-context c =
    let entry : get_or last_list c.args.place 0 ≡ c.last_map.result = get_or_from_slice_get last_list c.args.place c.last_map.result 0 c.last_map.ensures.entry in
    elim c.if-field.branch [
      | then-field w ↦ rw (c.if-cat-eq5.true, w.if-field.true, w.base-is, c.from.ensures, entry) refl
      | else-field w ↦ rw (c.if-cat-eq5.true, w.if-field.false, w.base-is, c.from.ensures, entry) refl
    ]
