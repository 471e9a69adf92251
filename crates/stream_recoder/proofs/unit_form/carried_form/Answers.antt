use Rattle.std.proofs.Common.{sym}
use Rattle.slice_rewrite.specs.Items.{sets_behind}
use Rattle.slice_rewrite.specs.Options.{options}
use Rattle.stream_recoder.proofs.UnitForms.{carried, carried_escape}
use Rattle.stream_recoder.proofs.unit_form.carried_form.Goals as goal

pub returns-then-not-has_payload-clause-err : goal.returns-then-not-has_payload-clause-err
returns-then-not-has_payload-clause-err c init tries before = carried_escape c.args.plan.to init (sets_behind before) c.args.unit.now c.requires.kind (sym c.if-not-has_payload.ensures)

pub returns-clause-ok : goal.returns-clause-ok
returns-clause-ok c init tries before periods stand =
    carried (options c.args.plan init tries) before c.args.sets.now periods c.args.unit.now c.in_ok-bytes.bytes.items c.requires.kind (sym c.if-not-has_payload.ensures) c.in_ok-bytes.ensures stand
