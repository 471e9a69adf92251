-- A piece of a stream, fed and written.
use Rattle.std.specs.Prelude.{◌≡◌, ℕ, ◌≤◌, List, [], ◌++◌, length, map, take, Option, Some, None, Result, Ok, Err}
use Rattle.std.specs.Io.KnownBytes.{Appends, Consumes, Keeps, IsAtEnd}
use Rattle.h264_types.specs.declared.fault.Stopped.{Stopped}
use Rattle.h264_types.specs.declared.fault.Stopped.TheVariants.{Stop as StopAt, Outside as OutsideAt, Memory as NoMemory}
use Rattle.h264_types.specs.Units.{Seen}
use Rattle.stream_taps.specs.declared.event.Event.{Event}
use Rattle.unit_io.specs.declared.sink.SinkFault.{SinkFault}
use Rattle.unit_io.specs.declared.sink.SinkFault.TheVariants.{Failed as SinkFailed, Memory as SinkMemory}
use Rattle.slice_rewrite.specs.Options.{Options}
use Rattle.slice_rewrite.specs.declared.pick.Tries.{Tries}
use Rattle.recode_run.specs.declared.account.Account.{Account}
use Rattle.stream_recoder.specs.declared.recoder.Recoder.{Recoder}
use Rattle.recode_run.specs.declared.status.Status.{Status}
use Rattle.recode_run.specs.declared.status.Status.TheVariants.{WriteFault, Stop, Outside, Memory}
use Rattle.slice_rewrite.specs.Items.{Item}
use Rattle.slice_rewrite.specs.Verdict.{Judges, Recodes}
use Rattle.stream_recoder.specs.Written.{Written, AreWritten, forms}
use Rattle.recode_run.specs.Account.{account_of}
use Rattle.stream_recoder.specs.Recoder.{HasRecoded, waiting, options_of}

-- the recoder was fed these bytes, they have no verdict yet, and all that is written for their units was drained
pub record IsReady {P : Type 0} (tried : P → Tries) (step : P → List ℕ → ℕ → P → Type 0) (r : Recoder P) (o : Options) (fed : List ℕ) (written : List Written) : Type 0 where
  pub first : P
  pub recodes : HasRecoded tried step first r fed written
  pub none : waiting r ≡ []
  pub options : options_of tried r ≡ o

-- this is what is written for some first units
abbrev pub IsWrittenOf : Options → Seen → List Written → Type 0
IsWrittenOf o s written = (units : List (List ℕ)) × (later : List (List ℕ)) × (items : List Item) × (s.units ≡ units ++ later) × Judges o [] units None items None
    × AreWritten o [] units items written

-- the account counts these too
abbrev pub Notes : Account → Account → List Written → Type 0
Notes account account' written = (read : ℕ) (events : List Event) → account ≡ account_of read events → account' ≡ account_of read (events ++ map (λ w. w.event) written)

-- some bytes were put, which are the first of what is written for some first units
abbrev pub PutsPart : Options → Option (List ℕ) → Option (List ℕ) → List Written → Seen → Type 0
PutsPart o held held' written s = (more : List Written) × (put : List ℕ) × (rest : List ℕ) × IsWrittenOf o s (written ++ more) × Appends held held' put × (forms more ≡ put ++ rest)

-- the verdict was reached, and what is written before it was put
abbrev pub PutsAll : Options → Option (List ℕ) → Option (List ℕ) → List Written → Seen → Stopped → Type 0
PutsAll o held held' written s stopped = (more : List Written) × (items : List Item) × Recodes o s items (Some stopped) × AreWritten o [] s.units items (written ++ more)
    × Appends held held' (forms more)

-- A piece was fed and its units were written, up to an answer that ends the run. All was written before the piece.
abbrev pub PieceEnds : Options → Option (List ℕ) → Option (List ℕ) → List Written → Seen → Status → Type 0
PieceEnds o held held' written s (Outside unit why) = PutsAll o held held' written s (OutsideAt unit why)
PieceEnds o held held' written s (Stop case place) = PutsAll o held held' written s (StopAt case place)
PieceEnds o held held' written s WriteFault = PutsPart o held held' written s
PieceEnds o held held' written s Memory = PutsPart o held held' written s
PieceEnds o held held' written s _ = ⊥

-- a piece was fed and all of its units were written
abbrev pub PieceDone : {P : Type 0} → (P → Tries) → (P → List ℕ → ℕ → P → Type 0) → Options → Recoder P → Recoder P → Option (List ℕ) → Option (List ℕ) → Account → Account → List ℕ → Type 0
PieceDone tried step o old new held held' account account' piece = (fed : List ℕ) (written : List Written) → IsReady tried step old o fed written →
    (more : List Written) × IsReady tried step new o (fed ++ piece) (written ++ more) × Appends held held' (forms more) × Notes account account' more

abbrev pub status_of_fault : SinkFault → Status
status_of_fault SinkFailed = WriteFault
status_of_fault SinkMemory = Memory

abbrev pub status_of_stop : Stopped → Status
status_of_stop (StopAt case place) = Stop case place
status_of_stop (OutsideAt unit why) = Outside unit why
status_of_stop NoMemory = Memory

-- a read of at most room bytes
abbrev pub ReadsSome : {E : Type 0} → Option (List ℕ) → Option (List ℕ) → ℕ → List ℕ → Result ℕ E → Type 0
ReadsSome left left' room buf (Ok n) = (n ≤ room) × (n ≤ length buf) × Consumes left left' (take n buf) × (n ≡ 0 → IsAtEnd left')
ReadsSome left left' room buf (Err e) = Keeps left left'
