use Rattle.std.proofs.Common.{sym, subst}
use Rattle.bit_texts.specs.Readings.{Gives}
use Rattle.cavlc_syntax.specs.Places.{place_in}
use Rattle.cavlc_syntax.proofs.Flags.{next_frame, kept_bottom, kept_top, kept_inferred}
use Rattle.cavlc_syntax.proofs.field.read_field.Goals as goal

pub returns-then-is_bottom-clause-reads : goal.returns-then-is_bottom-clause-reads
returns-then-is_bottom-clause-reads g c mbs are same =
    kept_bottom c.args.shape.now c.args.done.now c.args.last c.args.skips _ _ mbs c.count.ensures c.if-is_bottom.ensures are same

pub returns-then-not-shape-clause-reads : goal.returns-then-not-shape-clause-reads
returns-then-not-shape-clause-reads g c mbs are same = next_frame c.args.shape.now mbs c.args.skips _ c.if-not-shape.true

pub returns-then-skips-eq0-clause-reads : goal.returns-then-skips-eq0-clause-reads
returns-then-skips-eq0-clause-reads g c mbs are same =
    subst (Gives c.read_flag.result (place_in g.B.BitSource.taken g.B.BitSource.left c.read_flag.new.b))
    (sym (kept_top c.args.shape.now c.args.done.now c.args.skips _ _ mbs c.count.ensures c.if-is_bottom.ensures c.if-not-shape.false c.if-skips-eq0.true are)) c.read_flag.ensures.element

pub returns-clause-reads : goal.returns-clause-reads
returns-clause-reads g c mbs are same =
    kept_inferred c.args.shape.now c.args.done.now c.args.skips _ _ _ c.inferred_flag.result mbs c.count.ensures c.count-2.ensures c.if-is_bottom.ensures c.if-not-shape.false c.if-skips-eq0.false are (c.inferred_flag.ensures mbs are)
