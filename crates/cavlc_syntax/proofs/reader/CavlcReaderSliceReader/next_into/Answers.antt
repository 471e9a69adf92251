-- A macroblock is read, the end is found, or the bits are refused.
use Rattle.std.proofs.Common.{◌+◌, ◌-◌, ◌<◌, inl, inr, sym, ap, ◌∙◌, arith}
use Rattle.cavlc_syntax.specs.Places.{place_in}
use Rattle.cavlc_syntax.specs.SliceText.{is_bottom}
use Rattle.cavlc_syntax.proofs.Known.{IsNoEnd, stands_end, stands_run, stands_some, stands_none, refuse_other, refuse_ahead}
use Rattle.cavlc_syntax.proofs.reader.CavlcReaderSliceReader.next_into.Goals as goal
use Rattle.cavlc_syntax.proofs.reader.CavlcReaderSliceReader.next_into.Goals.{else-not-is_bottom-via-then-not-is_bottom+else-read_end, else-not-is_bottom-via-else-not-is_bottom}

pub returns-then-read_end : goal.returns-then-read_end
returns-then-read_end g c init shape pos all done s =
    let r = c.args.self.now in
    let at = place_in g.B.BitSource.taken g.B.BitSource.left in
    let over = c.if-is_at_end.ensures in
    let ended = stands_end r.shape r.rows r.field r.run (at r.bits) shape pos all done over.0 (ap (is_bottom r.shape) (sym c.count.ensures) ∙ sym c.is_bottom.ensures ∙ c.if-not-is_bottom.true) over.1 c.if-read_end.ensures.0 s in
    (ended.0, ended.1, c.if-read_end.ensures.1)

pub returns-else-not-is_bottom : goal.returns-else-not-is_bottom
returns-else-not-is_bottom g c init shape pos all done =
    let r = c.args.self.now in
    let at = place_in g.B.BitSource.taken g.B.BitSource.left in
    let over = c.if-is_at_end.ensures in
    let none : IsNoEnd r.shape r.rows.count (at r.bits) =
    elim c.else-not-is_bottom.branch [
      | else-not-is_bottom-via-then-not-is_bottom+else-read_end w ↦ inr w.if-read_end.ensures
      | else-not-is_bottom-via-else-not-is_bottom w ↦ inl (ap (is_bottom r.shape) (sym c.count.ensures) ∙ sym c.is_bottom.ensures ∙ w.if-not-is_bottom.false)
    ] in
    refuse_other r.shape r.rows r.field r.run (at r.bits) shape pos all done over.1 over.2 none

pub returns-then-room-eq0 : goal.returns-then-room-eq0
returns-then-room-eq0 g c init shape pos all done =
    let r = c.args.self.now in
    let at = place_in g.B.BitSource.taken g.B.BitSource.left in
    refuse_ahead r.shape r.rows r.field r.run c.room-room.result (at r.bits) shape pos all done c.if-is_at_end.ensures c.room-room.ensures (inl c.if-room-eq0.true)

pub returns-in_default : goal.returns-in_default
returns-in_default g c init shape pos all done =
    let r = c.args.self.now in
    let at = place_in g.B.BitSource.taken g.B.BitSource.left in
    refuse_ahead r.shape r.rows r.field r.run c.room-room.result (at r.bits) shape pos all done c.if-is_at_end.ensures c.room-room.ensures (inr c.in_default.ensures)

pub returns-then-run-gt0 : goal.returns-then-run-gt0
returns-then-run-gt0 g c init shape pos all done s =
    let r = c.args.self.now in
    let at = place_in g.B.BitSource.taken g.B.BitSource.left in
    let run = c.in-Some.run' in
    let d = at c.read_run.new.bits in
    let some : 0 < run = omega (arith, c.if-run-gt0.true) in
    c.give_skipped.ensures shape pos all done
    (stands_some r.shape r.rows r.field run (run - 1 + 1) d shape pos all done some (omega (arith, some))
    (stands_run r.shape r.rows r.field r.run c.room-room.result (at r.bits) run d shape pos all done c.if-is_at_end.ensures c.room-room.ensures (omega (arith, c.if-room-eq0.false)) c.in-Some.ensures s))

pub returns-else-run-gt0 : goal.returns-else-run-gt0
returns-else-run-gt0 g c init shape pos all done s =
    let r = c.args.self.now in
    let at = place_in g.B.BitSource.taken g.B.BitSource.left in
    let run = c.in-Some.run' in
    let d = at c.read_run.new.bits in
    c.read_coded.ensures shape pos all done
    (stands_none r.shape r.rows r.field run d shape pos all done (omega (arith, c.if-run-gt0.false))
    (stands_run r.shape r.rows r.field r.run c.room-room.result (at r.bits) run d shape pos all done c.if-is_at_end.ensures c.room-room.ensures (omega (arith, c.if-room-eq0.false)) c.in-Some.ensures s))
