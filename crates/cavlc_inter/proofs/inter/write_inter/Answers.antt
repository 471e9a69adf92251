use Rattle.bit_texts.proofs.Writing.{Appends-same, Appends-then, Appends-stop}
use Rattle.cavlc_inter.proofs.InterChain.{inter_text-as}
use Rattle.cavlc_inter.proofs.inter.write_inter.Goals as goal

pub returns-in_err-write_subs_if : goal.returns-in_err-write_subs_if
returns-in_err-write_subs_if g c =
    Appends-same _ _ _ _ _ (inter_text-as c.args.mb.now.kind c.args.mb.now.ref0 c.args.active c.args.mb.now c.greatest_ref-greatest0.result c.greatest_ref-greatest1.result c.greatest_ref-greatest0.ensures c.greatest_ref-greatest1.ensures)
    (Appends-stop _ _ _ _ _ _ c.from_residual.ensures.0 c.in_err-write_subs_if.ensures.1)

pub returns-in_err-write_refs : goal.returns-in_err-write_refs
returns-in_err-write_refs g c =
    Appends-same _ _ _ _ _ (inter_text-as c.args.mb.now.kind c.args.mb.now.ref0 c.args.active c.args.mb.now c.greatest_ref-greatest0.result c.greatest_ref-greatest1.result c.greatest_ref-greatest0.ensures c.greatest_ref-greatest1.ensures)
    (Appends-then _ _ _ _ _ _ c.in_ok-write_subs_if.ensures
    (Appends-stop _ _ _ _ _ _ c.from_residual-in_err-write_refs.ensures.0 c.in_err-write_refs.ensures.1))

pub returns-in_err-write_refs-2 : goal.returns-in_err-write_refs-2
returns-in_err-write_refs-2 g c =
    Appends-same _ _ _ _ _ (inter_text-as c.args.mb.now.kind c.args.mb.now.ref0 c.args.active c.args.mb.now c.greatest_ref-greatest0.result c.greatest_ref-greatest1.result c.greatest_ref-greatest0.ensures c.greatest_ref-greatest1.ensures)
    (Appends-then _ _ _ _ _ _ c.in_ok-write_subs_if.ensures
    (Appends-then _ _ _ _ _ _ c.in_ok-write_refs.ensures
    (Appends-stop _ _ _ _ _ _ c.from_residual-in_err-write_refs-2.ensures.0 c.in_err-write_refs-2.ensures.1)))

pub returns-in_err-write_mvds : goal.returns-in_err-write_mvds
returns-in_err-write_mvds g c =
    Appends-same _ _ _ _ _ (inter_text-as c.args.mb.now.kind c.args.mb.now.ref0 c.args.active c.args.mb.now c.greatest_ref-greatest0.result c.greatest_ref-greatest1.result c.greatest_ref-greatest0.ensures c.greatest_ref-greatest1.ensures)
    (Appends-then _ _ _ _ _ _ c.in_ok-write_subs_if.ensures
    (Appends-then _ _ _ _ _ _ c.in_ok-write_refs.ensures
    (Appends-then _ _ _ _ _ _ c.in_ok-write_refs-2.ensures
    (Appends-stop _ _ _ _ _ _ c.from_residual-in_err-write_mvds.ensures.0 c.in_err-write_mvds.ensures.1))))

pub returns : goal.returns
returns g c =
    Appends-same _ _ _ _ _ (inter_text-as c.args.mb.now.kind c.args.mb.now.ref0 c.args.active c.args.mb.now c.greatest_ref-greatest0.result c.greatest_ref-greatest1.result c.greatest_ref-greatest0.ensures c.greatest_ref-greatest1.ensures)
    (Appends-then _ _ _ _ _ _ c.in_ok-write_subs_if.ensures
    (Appends-then _ _ _ _ _ _ c.in_ok-write_refs.ensures
    (Appends-then _ _ _ _ _ _ c.in_ok-write_refs-2.ensures
    (Appends-then _ _ _ _ _ _ c.in_ok-write_mvds.ensures c.write_mvds-2.ensures))))
