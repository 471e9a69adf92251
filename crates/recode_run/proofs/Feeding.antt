-- A piece fed, and what waits then written.
use Rattle.std.proofs.Common.{◌≡◌, ◌∙◌, sym, subst, refl, ℕ, List, [], ◌++◌, take, drop, append-nil}
use Rattle.std.specs.Prelude.{Option, Some, None, Result, Ok, Err, OnOk, IfErr}
use Rattle.std.proofs.lemmas.List.{take-append-drop}
use Rattle.std.specs.Io.KnownBytes.{Appends}
use Rattle.h264_types.specs.declared.fault.Stopped.{Stopped}
use Rattle.h264_types.specs.declared.fault.Stopped.TheVariants.{Stop as StopAt, Outside as OutsideAt, Memory as NoMemory}
use Rattle.h264_types.specs.Units.{Seen, seen}
use Rattle.unit_io.specs.Faults.{Rose, RoseIfFailed}
use Rattle.unit_io.specs.declared.sink.SinkFault.{SinkFault}
use Rattle.unit_io.specs.declared.sink.SinkFault.TheVariants.{Failed as SinkFailed, Memory as SinkMemory}
use Rattle.slice_rewrite.specs.Options.{Options}
use Rattle.slice_rewrite.specs.declared.pick.Tries.{Tries}
use Rattle.recode_run.specs.declared.account.Account.{Account}
use Rattle.stream_recoder.specs.declared.recoder.Recoder.{Recoder}
use Rattle.recode_run.specs.declared.status.Status.{Status}
use Rattle.recode_run.specs.declared.status.Status.TheVariants.{WriteFault}
use Rattle.slice_rewrite.specs.Items.{Item}
use Rattle.slice_rewrite.specs.Verdict.{Judges, Recodes}
use Rattle.stream_recoder.specs.Written.{Written, AreWritten, forms}
use Rattle.stream_recoder.specs.Recoder.{waiting, options_of, HasRecoded, RecodesMore, RecodingStops}
use Rattle.recode_run.specs.Report.{TakesPart}
use Rattle.recode_run.specs.Pieces.{IsReady, IsWrittenOf, PutsPart, PieceEnds, PieceDone, Notes, status_of_fault, status_of_stop}
use Rattle.stream_recoder.proofs.Outputs.{judged-front}

-- what is written up to a verdict
pub written_of_judged : (o : Options) (s : Seen) (items : List Item) (v : Option Stopped) (written : List Written) → Recodes o s items v → AreWritten o [] s.units items written → IsWrittenOf o s written
written_of_judged o s items v written h e =
    let front = judged-front o [] s.units s.fault items v h in
    (front.0, front.1, items, front.2, front.3, front.4 written e)

module _ {P : Type 0} (tried : P → Tries) (step : P → List ℕ → ℕ → P → Type 0) where
  -- ## What waits after a feed

  -- what was written and what waits are what is written for some first units
  abbrev pub FeedLeaves : Recoder P → Recoder P → List ℕ → Type 0
  FeedLeaves r r1 piece = (fed : List ℕ) (written : List Written) → IsReady tried step r (options_of tried r) fed written → IsWrittenOf (options_of tried r) (seen (fed ++ piece)) (written ++ waiting r1)

  leaves-ok : (r r1 : Recoder P) (piece : List ℕ) → options_of tried r1 ≡ options_of tried r → RecodesMore tried step r r1 piece → FeedLeaves r r1 piece
  leaves-ok r r1 piece options k = λ fed written h.
      let next = k h.first fed written h.recodes in
      let s = seen (fed ++ piece) in
      let J : Options → Type 0 = λ o. Judges o [] s.units None next.items None in
      let W : Options → Type 0 = λ o. AreWritten o [] s.units next.items (written ++ waiting r1) in
      (s.units, [], next.items, sym (append-nil s.units), subst J options next.holds.judged, subst W options next.holds.written)

  leaves-err : (r r1 : Recoder P) (piece : List ℕ) (e : Stopped) → RecodingStops tried step r r1 piece e → FeedLeaves r r1 piece
  leaves-err r r1 piece (OutsideAt unit why) k = λ fed written h.
      let stop = k h.first fed written h.recodes in
      written_of_judged (options_of tried r) (seen (fed ++ piece)) stop.0 (Some (OutsideAt unit why)) (written ++ waiting r1) stop.1 stop.2
  leaves-err r r1 piece (StopAt case place) k = λ fed written h.
      let stop = k h.first fed written h.recodes in
      written_of_judged (options_of tried r) (seen (fed ++ piece)) stop.0 (Some (StopAt case place)) (written ++ waiting r1) stop.1 stop.2
  leaves-err r r1 piece NoMemory k = λ fed written h.
      let some = k h.first fed written h.recodes in
      (some.0, some.1, some.2, some.3, some.4, some.5)

  pub leaves : (r r1 : Recoder P) (piece : List ℕ) (res : Result (Unit {0}) Stopped) → options_of tried r1 ≡ options_of tried r → OnOk res (RecodesMore tried step r r1 piece) → IfErr res (RecodingStops tried step r r1 piece) → FeedLeaves r r1 piece
  leaves r r1 piece (Ok x) options h k = leaves-ok r r1 piece options h
  leaves r r1 piece (Err e) options h k = leaves-err r r1 piece e k

  -- ## The three ways of a piece

  -- fed and written
  pub piece_done : (held held' : Option (List ℕ)) (r r1 r2 : Recoder P) (account account' : Account) (piece : List ℕ) → options_of tried r1 ≡ options_of tried r → options_of tried r2 ≡ options_of tried r1 → RecodesMore tried step r r1 piece
      → Appends held held' (forms (waiting r1)) × (waiting r2 ≡ []) × Notes account account' (waiting r1)
      → ((first : P) (fed : List ℕ) (drained : List Written) → HasRecoded tried step first r1 fed drained → HasRecoded tried step first r2 fed (drained ++ waiting r1))
      → (o : Options) → PieceDone tried step o r r2 held held' account account' piece
  piece_done held held' r r1 r2 account account' piece p q k put go o fed written h = (
    waiting r1,
    record { first = h.first; recodes = go h.first (fed ++ piece) written (k h.first fed written h.recodes); none = put.1; options = q ∙ p ∙ h.options },
    put.0,
    put.2,
  )

  -- fed up to a stop, and written
  pub piece_stops : (held held' : Option (List ℕ)) (r r1 : Recoder P) (piece : List ℕ) (e : Stopped) (status : Status) → status ≡ status_of_stop e → RecodingStops tried step r r1 piece e → Appends held held' (forms (waiting r1))
      → (o : Options) (fed : List ℕ) (written : List Written) → IsReady tried step r o fed written → PieceEnds o held held' written (seen (fed ++ piece)) status
  piece_stops held held' r r1 piece e status same k put o fed written h =
      let S : Status → Type 0 = PieceEnds (options_of tried r) held held' written (seen (fed ++ piece)) in
      let Q : Options → Type 0 = λ p. PieceEnds p held held' written (seen (fed ++ piece)) status in
      subst Q h.options (subst S (sym same) (by e k))
    where
      by : (e : Stopped) → RecodingStops tried step r r1 piece e → PieceEnds (options_of tried r) held held' written (seen (fed ++ piece)) (status_of_stop e)
      by (OutsideAt unit why) k = let stop = k h.first fed written h.recodes in (waiting r1, stop.0, stop.1, stop.2, put)
      by (StopAt case place) k = let stop = k h.first fed written h.recodes in (waiting r1, stop.0, stop.1, stop.2, put)
      by NoMemory k = (waiting r1, forms (waiting r1), [], leaves-err r r1 piece NoMemory k fed written (record { first = h.first; recodes = h.recodes; none = h.none; options = refl }), put, sym (append-nil (forms (waiting r1))))

  -- fed, and written in part
  pub piece_part : (held held' : Option (List ℕ)) (r r1 : Recoder P) (piece : List ℕ) (f : SinkFault) (status : Status) → status ≡ status_of_fault f → FeedLeaves r r1 piece → TakesPart held held' (forms (waiting r1))
      → (o : Options) (fed : List ℕ) (written : List Written) → IsReady tried step r o fed written → PieceEnds o held held' written (seen (fed ++ piece)) status
  piece_part held held' r r1 piece f status same k put o fed written h =
      let S : Status → Type 0 = PieceEnds (options_of tried r) held held' written (seen (fed ++ piece)) in
      let Q : Options → Type 0 = λ p. PieceEnds p held held' written (seen (fed ++ piece)) status in
      subst Q h.options (subst S (sym same) (by f))
    where
      part : PutsPart (options_of tried r) held held' written (seen (fed ++ piece))
      part = (waiting r1, take put.0 (forms (waiting r1)), drop put.0 (forms (waiting r1)), k fed written (record { first = h.first; recodes = h.recodes; none = h.none; options = refl }), put.1, sym (take-append-drop put.0 (forms (waiting r1))))

      by : (f : SinkFault) → PieceEnds (options_of tried r) held held' written (seen (fed ++ piece)) (status_of_fault f)
      by SinkFailed = part
      by SinkMemory = part

-- ## Causes

pub rose-fault : (a b : ℕ) (f : SinkFault) (status : Status) → status ≡ status_of_fault f → RoseIfFailed a b f → status ≡ WriteFault → Rose a b
rose-fault a b SinkFailed status same h e = h
rose-fault a b SinkMemory status same h e = absurd (let both = sym same ∙ e in cc)

pub rose-stop : (a b : ℕ) (e : Stopped) (status : Status) → status ≡ status_of_stop e → status ≡ WriteFault → Rose a b
rose-stop a b (OutsideAt unit why) status same e = absurd (let both = sym same ∙ e in cc)
rose-stop a b (StopAt case place) status same e = absurd (let both = sym same ∙ e in cc)
rose-stop a b NoMemory status same e = absurd (let both = sym same ∙ e in cc)
