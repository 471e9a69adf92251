-- Each macroblock that is given is put, up to the least one that can't be written.
use Rattle.std.proofs.Common.{◌≡◌, ◌≤◌, ◌+◌, ◌*◌, ◌++◌, ◌∷◌, [], ℕ, Bool, true, List, length, map, Some, None, Ok, sym, ap, ◌∙◌, subst, length-append, arith}
use Rattle.std.proofs.lemmas.List.{map-append}
use Rattle.std.proofs.lemmas.Result.{err_from_is_err_and}
use Rattle.h264_types.proofs.ColumnLaws.{slices_of_both}
use Rattle.h264_types.specs.declared.macroblock.Mb.{Mb}
use Rattle.h264_types.specs.declared.slice_shape.SliceShape.{SliceShape}
use Rattle.init_table.specs.declared.table.InitTable.{InitTable}
use Rattle.slice_data.specs.Reading.{NextGives, step_of}
use Rattle.slice_data.specs.WrittenForm.{written_mb}
use Rattle.slice_rewrite.proofs.Normal.{written-written}
use Rattle.slice_rewrite.proofs.Stops.{none_of, not_none, some_stays, stop_next, stop_of_both, stop_stays}
use Rattle.slice_rewrite.proofs.SliceForms.{begins_written, no_copy, data_ended, data_stopped}
use Rattle.slice_rewrite.proofs.recoding.copy_data.Goals as goal
use Rattle.slice_rewrite.proofs.recoding.copy_data.Goals.{then-is_none+in_ok-case+in_default, then-is_none+in_ok-case+in-Some, else-is_none}

pub returns-then-not-more-clause-ok : goal.returns-then-not-more-clause-ok
returns-then-not-more-clause-ok g c init written_shape pos left before other stood wrote =
    let R = g.R.SliceReader in
    let W = g.W.SliceWriter in
    let inv = c.loop-count.invariant in
    let P : Bool → Type 0 = λ b. NextGives R.has_data (R.is_data init) (R.stands init) R.left c.next_into.new.self c.args.shape pos left inv.0 (step_of c.next_into.new.mb (Ok b)) in
    let ended = subst P c.if-not-more.true (c.in_ok-more.ensures init c.args.shape pos left inv.0 (inv.3 init pos left stood)) in
    data_ended R.has_data (R.is_data init) (W.is_data init) (W.writes init) g.W.Sink.BitSink.bits W.LAYER c.loop-count.writer c.args.shape written_shape pos left before inv.0 c.loop-count.stop c.loop-count.count c.end_data.result
    ended.0 ended.1 inv.4 (λ none. inv.5 none init written_shape before wrote) inv.1 (c.end_data.ensures init)

pub returns-then-not-more-clause-err : goal.returns-then-not-more-clause-err
returns-then-not-more-clause-err g c init pos left stood =
    let R = g.R.SliceReader in
    let W = g.W.SliceWriter in
    let inv = c.loop-count.invariant in
    let P : Bool → Type 0 = λ b. NextGives R.has_data (R.is_data init) (R.stands init) R.left c.next_into.new.self c.args.shape pos left inv.0 (step_of c.next_into.new.mb (Ok b)) in
    let ended = subst P c.if-not-more.true (c.in_ok-more.ensures init c.args.shape pos left inv.0 (inv.3 init pos left stood)) in
    data_stopped R.has_data (R.is_data init) (W.is_data init) (W.writes init) g.W.Sink.BitSink.bits W.LAYER c.loop-count.writer c.args.shape pos left inv.0 c.loop-count.stop c.loop-count.count c.end_data.result
    ended.0 ended.1 inv.4 (c.end_data.ensures init)

pub returns-in_err-more-clause-err : goal.returns-in_err-more-clause-err
returns-in_err-more-clause-err g c init pos left stood =
    let R = g.R.SliceReader in
    let inv = c.loop-count.invariant in
    let p = err_from_is_err_and c.from_residual.result c.from_residual.ensures.1 in
    rw (p.1, p.2) (no_copy R.has_data (R.is_data init) g.W.SliceWriter.LAYER c.args.shape pos left c.in_err-more.field-0.0 (c.in_err-more.ensures init c.args.shape pos left inv.0 (inv.3 init pos left stood)))

pub put_written-requires-clause-next : goal.put_written-requires-clause-next
put_written-requires-clause-next g c kept =
    let R = g.R.SliceReader in
    let to = g.W.SliceWriter.LAYER in
    let inv = c.loop-count.invariant in
    let shape = c.args.shape in
    let mb = c.next_into.new.mb in
    let at = c.requires.stand in
    let init = at.0 in
    let P : Bool → Type 0 = λ b. NextGives R.has_data (R.is_data init) (R.stands init) R.left c.next_into.new.self shape at.2 at.3 inv.0 (step_of mb (Ok b)) in
    let gives = subst P c.if-not-more.false (c.in_ok-more.ensures init shape at.2 at.3 inv.0 (inv.3 init at.2 at.3 at.6)) in
    let begins = gives.1.begins in
    let none = none_of c.loop-count.stop c.if-is_none.ensures in
    let is = g.met.R.SliceReader.lists_are_slices shape ((inv.0 ++ mb ∷ []) ++ begins.0) begins.1 in
    let put = begins_written to shape inv.0 begins.0 mb is (inv.4 ∙ none) kept in
    (sym (written-written to to mb), (init, at.1, at.4, map (written_mb to) inv.0, inv.5 none init at.1 at.4 at.7, (put.0, slices_of_both shape at.1 _ at.5.same at.5.column put.1)))

pub loop-count-preserved : goal.loop-count-preserved
loop-count-preserved g c =
    let R = g.R.SliceReader in
    let W = g.W.SliceWriter in
    let to = W.LAYER in
    let inv = c.loop-count.invariant in
    let done = inv.0 in
    let shape = c.args.shape in
    let mb = c.next_into.new.mb in
    let at = c.requires.stand in
    let gives : (init : InitTable) (pos : ℕ) (left : List Bool) (stood : R.stands init c.args.reader shape pos left []) → NextGives R.has_data (R.is_data init) (R.stands init) R.left c.next_into.new.self shape pos left done (step_of mb (Ok true)) = λ init pos left stood.
    let P : Bool → Type 0 = λ b. NextGives R.has_data (R.is_data init) (R.stands init) R.left c.next_into.new.self shape pos left done (step_of mb (Ok b)) in
    subst P c.if-not-more.false (c.in_ok-more.ensures init shape pos left done (inv.3 init pos left stood)) in
    let begins = (gives at.0 at.2 at.3 at.6).1.begins in
    let is = g.met.R.SliceReader.lists_are_slices shape ((done ++ mb ∷ []) ++ begins.0) begins.1 in
    let long : length (done ++ mb ∷ []) ≡ length done + 1 = length-append done (mb ∷ []) in
    let counted = long ∙ ap (λ n. n + 1) inv.1 in
    let few : length (done ++ mb ∷ []) ≤ shape.width * shape.height = omega (arith, is.inside, length-append (done ++ mb ∷ []) begins.0) in
    elim c.if-is_none.branch [
      | then-is_none+in_ok-case+in_default w ↦
          let none = none_of c.loop-count.stop w.if-is_none.ensures in
          let put = (rw w.in_default.is at w.in_ok-case.ensures) in
          let now : (init : InitTable) (other : SliceShape) (before : List Bool) → W.writes init c.args.writer other before [] → W.writes init w.put_written.new.writer other before (map (written_mb to) (done ++ mb ∷ [])) = λ init other before wrote.
          let L : List Mb → Type 0 = λ list. W.writes init w.put_written.new.writer other before list in
          subst L (sym (map-append (written_mb to) done (mb ∷ []))) (put init other before (map (written_mb to) done) (inv.5 none init other before wrote)).1 in
          let goes = stop_of_both to shape at.1 mb at.5.same ∙ (put at.0 at.1 at.4 (map (written_mb to) done) (inv.5 none at.0 at.1 at.4 at.7)).0 in (
            done ++ mb ∷ [],
            counted,
            few,
            λ init pos left stood. (gives init pos left stood).0,
            stop_next to shape done mb None (inv.4 ∙ none) goes ∙ sym none ∙ sym w.stop-is,
            λ e init other before wrote. rw w.writer-is (now init other before wrote),
          )
      | then-is_none+in_ok-case+in-Some w ↦
          let none = none_of c.loop-count.stop w.if-is_none.ensures in
          let put = (rw w.in-Some.is at w.in_ok-case.ensures) at.0 at.1 at.4 (map (written_mb to) done) (inv.5 none at.0 at.1 at.4 at.7) in
          let stops = stop_next to shape done mb (Some w.in-Some.case) (inv.4 ∙ none) (stop_of_both to shape at.1 mb at.5.same ∙ put.0) ∙ ap (λ n. Some (w.in-Some.case, n)) inv.1 in
          (done ++ mb ∷ [], counted, few, λ init pos left stood. (gives init pos left stood).0, stops ∙ sym w.stop-is, λ e. absurd (not_none _ (sym w.stop-is ∙ e)))
      | else-is_none w ↦
          (done ++ mb ∷ [], counted, few, λ init pos left stood. (gives init pos left stood).0, stop_stays to shape done mb c.loop-count.stop inv.4 w.if-is_none.ensures ∙ sym w.stop-is, λ e. some_stays c.loop-count.stop w.if-is_none.ensures (sym w.stop-is ∙ e))
    ]
