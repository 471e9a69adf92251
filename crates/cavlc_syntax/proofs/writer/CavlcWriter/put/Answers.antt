use Rattle.std.proofs.Common.{Bool, false, List, sym, subst}
use Rattle.bit_texts.specs.Texts.{Wrote}
use Rattle.bit_texts.proofs.Writing.{Appended-same}
use Rattle.cavlc_macroblock.proofs.ValidLaws.{sent_valid}
use Rattle.cavlc_syntax.proofs.Put.{put_skipped, put_one, put_beyond, put_around, may_sent, may_skip}
use Rattle.cavlc_syntax.proofs.writer.CavlcWriter.put.Goals as goal

pub needs_longer_prefix-requires-clause-sent : goal.needs_longer_prefix-requires-clause-sent
needs_longer_prefix-requires-clause-sent g c =
    let r = c.requires in
    let w = c.args.self.now in
    (w.shape, c.args.mb.now.field, may_sent w.shape w.rows w.run (g.B.BitSink.bits w.bits) r.0 r.1 r.2 c.args.mb.now r.3 r.4 (sym c.if-is_skip.ensures))

pub write_coded-requires-clause-sent : goal.write_coded-requires-clause-sent
write_coded-requires-clause-sent g c =
    let r = c.requires in
    let w = c.args.self.now in
    may_sent w.shape w.rows w.run (g.B.BitSink.bits w.bits) r.0 r.1 r.2 c.args.mb.now r.3 r.4 (sym c.if-is_skip.ensures)

pub push_coded-requires-2-clause-coded : goal.push_coded-requires-2-clause-coded
push_coded-requires-2-clause-coded g c =
    let r = c.requires in
    let w = c.args.self.now in
    let mb = c.args.mb.now in
    (sent_valid w.shape mb.field 20 mb (may_sent w.shape w.rows w.run (g.B.BitSink.bits w.bits) r.0 r.1 r.2 mb r.3 r.4 (sym c.if-is_skip.ensures))).coded

pub returns-then-is_skip-clause-gives : goal.returns-then-is_skip-clause-gives
returns-then-is_skip-clause-gives g c shape before done w =
    let r = c.requires in
    let k = c.args.self.now in
    let skips = sym c.if-is_skip.ensures in (
      may_skip r.0 shape r.2 c.args.mb.now r.4 skips,
      put_skipped k.shape k.rows c.push_coded.new.self k.run (g.B.BitSink.bits k.bits) shape before done c.args.mb.now w skips (c.push_coded.ensures.rows shape done w.rows_are),
    )

pub returns-in_default-clause-bits : goal.returns-in_default-clause-bits
returns-in_default-clause-bits g c shape before done w =
    let k = c.args.self.now in
    let old = g.B.BitSink.bits k.bits in
    let new = g.B.BitSink.bits c.write_coded.new.bits in
    let text = put_around k.shape k.rows k.run old shape before done c.args.mb.now c.sends_field-sends.result c.of_next-around.result w c.sends_field-sends.ensures c.of_next-around.ensures.value in (
      put_beyond k.shape shape c.prefix_bound.result c.args.mb.now false w.of c.prefix_bound.ensures.value c.if-needs_longer_prefix.ensures,
      sym c.if-is_skip.ensures,
      subst (λ l. (rest : List Bool) × Wrote old new l rest) text c.in_default.ensures,
    )

pub returns-clause-gives : goal.returns-clause-gives
returns-clause-gives g c shape before done w =
    let k = c.args.self.now in
    let old = g.B.BitSink.bits k.bits in
    let new = g.B.BitSink.bits c.write_coded.new.bits in
    let text = put_around k.shape k.rows k.run old shape before done c.args.mb.now c.sends_field-sends.result c.of_next-around.result w c.sends_field-sends.ensures c.of_next-around.ensures.value in (
      put_beyond k.shape shape c.prefix_bound.result c.args.mb.now false w.of c.prefix_bound.ensures.value c.if-needs_longer_prefix.ensures,
      put_one k.shape k.rows c.push_coded-2.new.self k.run old new shape before done c.args.mb.now w (sym c.if-is_skip.ensures) (Appended-same old new _ _ text c.in-Ok.ensures) (c.push_coded-2.ensures.rows shape done w.rows_are),
    )
