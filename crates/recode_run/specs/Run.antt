-- What a run leaves, by the bytes that its source gave and what its sinks took.
use Rattle.std.specs.Prelude.{◌≡◌, ◌⊎◌, ℕ, ◌+◌, ◌-◌, ◌<◌, ◌≤◌, nat_le, if◌then◌else◌, List, [], ◌++◌, length, map, take, Option, Some, None}
use Rattle.std.specs.Io.KnownBytes.{Appends, Consumes, Keeps, IsAtEnd}
use Rattle.init_table.specs.TableText.{FailsAt, IsTableOf}
use Rattle.init_table.specs.declared.table.InitTable.{InitTable}
use Rattle.h264_types.specs.declared.fault.Stopped.{Stopped}
use Rattle.h264_types.specs.declared.fault.Stopped.TheVariants.{Stop as StopAt, Outside as OutsideAt}
use Rattle.h264_types.specs.Units.{Seen, seen, seen_whole}
use Rattle.slice_rewrite.specs.Options.{Options}
use Rattle.slice_rewrite.specs.declared.pick.Tries.TheVariants.{One}
use Rattle.recode_run.specs.declared.account.Account.{Account}
use Rattle.recode_run.specs.declared.status.Status.{Status}
use Rattle.recode_run.specs.declared.status.Status.TheVariants.{Ok as Done, BadWords, ReadFault, WriteFault, Stop, Outside, TooMuch, Memory, ReportFault, BadTable}
use Rattle.slice_rewrite.specs.Items.{Item}
use Rattle.slice_rewrite.specs.Verdict.{Judges, Recodes}
use Rattle.stream_recoder.specs.Written.{Written, AreWritten, forms}
use Rattle.slice_rewrite.specs.Written.{IsOutput}
use Rattle.recode_run.specs.Account.{account_of}
use Rattle.recode_run.specs.Report.{Reports}
use Rattle.recode_run.specs.Words.{Request}

-- what the run that is asked for rests on, with this table of initial pairs
abbrev pub run_for : Request → InitTable → Options
run_for asked init = record { to = asked.to; init = init; tries = One asked.idc; range = asked.range }

-- what is written for these units was written
abbrev pub Gains : Options → List (List ℕ) → List Item → Option (List ℕ) → Option (List ℕ) → Type 0
Gains o units items held held' = (bytes : List ℕ) × IsOutput o units items bytes × Appends held held' bytes

-- ## By the bytes that the source gave

-- no byte past the bound, or the one that tells that the source has more; it is not judged
abbrev pub IsOver : ℕ → List ℕ → List ℕ → Type 0
IsOver bound given over = (over ≡ []) ⊎ ((length over ≡ 1) × (length given ≡ bound))

-- Some output was written: all that of the bytes given before a last piece of at most 65,536 bytes, in which no verdict
-- stands, and some more of what is written for some first units of all that were given.
pub record IsPartlyWritten (o : Options) (bound : ℕ) (left left' held held' : Option (List ℕ)) : Type 0 where
  pub given : List ℕ
  pub last : List ℕ
  pub over : List ℕ
  pub consumed : Consumes left left' ((given ++ last) ++ over)
  pub short : length last + length over ≤ 65536
  pub within : length (given ++ last) ≤ bound
  pub over_is : IsOver bound (given ++ last) over
  pub items : List Item
  pub judged : Recodes o (seen given) items None
  pub all : Seen
  pub which : (all ≡ seen (given ++ last)) ⊎ ((all ≡ seen_whole (given ++ last)) × (over ≡ []) × IsAtEnd left')
  pub units : List (List ℕ)
  pub later : List (List ℕ)
  pub first : all.units ≡ units ++ later
  pub read : List Item
  pub read_is : Judges o [] units None read None
  pub early : List ℕ
  pub early_is : IsOutput o (seen given).units items early
  pub more : List ℕ
  pub rest : List ℕ
  pub appended : Appends held held' (early ++ more)
  pub written : IsOutput o units read ((early ++ more) ++ rest)

-- A verdict ended the run, and what is written for the units before it was written. It came with a last piece of at most
-- 65,536 bytes, or with the end of the input: none stands in the bytes given before.
pub record EndsEarly (o : Options) (bound : ℕ) (left left' held held' : Option (List ℕ)) (stopped : Stopped) : Type 0 where
  pub given : List ℕ
  pub last : List ℕ
  pub consumed : Consumes left left' (given ++ last)
  pub short : length last ≤ 65536
  pub within : length (given ++ last) ≤ bound
  pub items : List Item
  pub judged : Recodes o (seen given) items None
  pub all : Seen
  pub which : (all ≡ seen (given ++ last)) ⊎ ((all ≡ seen_whole (given ++ last)) × IsAtEnd left')
  pub read : List Item
  pub ends : Recodes o all read (Some stopped)
  pub written : Gains o all.units read held held'

-- How recoding at most bound bytes ended.
abbrev pub RunEnds : Options → ℕ → Option (List ℕ) → Option (List ℕ) → Option (List ℕ) → Option (List ℕ) → Account → Status → Type 0
RunEnds o bound left left' held held' account Done =
    (given : List ℕ) × (items : List Item) × Consumes left left' given × IsAtEnd left' × (length given ≤ bound)
    × Recodes o (seen_whole given) items None
    × ((written : List Written) × AreWritten o [] (seen_whole given).units items written × Appends held held' (forms written) × (account ≡ account_of (length given) (map (λ w. w.event) written)))
RunEnds o bound left left' held held' account (Outside unit why) = EndsEarly o bound left left' held held' (OutsideAt unit why)
RunEnds o bound left left' held held' account (Stop case place) = EndsEarly o bound left left' held held' (StopAt case place)
RunEnds o bound left left' held held' account TooMuch =
    (given : List ℕ) × (next : List ℕ) × (items : List Item) × Consumes left left' (given ++ next) × (length given ≡ bound) × (length next ≡ 1)
    × Recodes o (seen given) items None × Gains o (seen given).units items held held'
RunEnds o bound left left' held held' account ReadFault =
    (given : List ℕ) × (items : List Item) × Consumes left left' given × (length given ≤ bound)
    × Recodes o (seen given) items None × Gains o (seen given).units items held held'
RunEnds o bound left left' held held' account WriteFault = IsPartlyWritten o bound left left' held held'
RunEnds o bound left left' held held' account Memory = IsPartlyWritten o bound left left' held held'
RunEnds o bound left left' held held' account _ = ⊥

-- the text is no table's, and the answer says where it fails
abbrev pub IsBadTable : List ℕ → Status → Type 0
IsBadTable text status = (at : ℕ) × FailsAt text at × (status ≡ BadTable at)

-- How a run ended whose words were read: where they ask for nothing, or their text is no table's, it reads and writes nothing.
abbrev pub RanAsAsked : Option Request → ℕ → Option (List ℕ) → Option (List ℕ) → Option (List ℕ) → Option (List ℕ) → Account → Status → Type 0
RanAsAsked (Some asked) bound left left' held held' account status =
    (IsBadTable asked.table status × Keeps left left' × Keeps held held')
    ⊎ ((init : InitTable) × IsTableOf asked.table init × RunEnds (run_for asked init) bound left left' held held' account status)
RanAsAsked None bound left left' held held' account status = (status ≡ BadWords) × Keeps left left' × Keeps held held'

-- How a run ended before its report: without memory for reading its words it reads and writes nothing.
abbrev pub Ran : Option Request → ℕ → Option (List ℕ) → Option (List ℕ) → Option (List ℕ) → Option (List ℕ) → Account → Status → Type 0
Ran asked bound left left' held held' account status =
    ((status ≡ Memory) × Keeps left left' × Keeps held held') ⊎ RanAsAsked asked bound left left' held held' account status

-- the answer replaces what ended the run, since the report failed or there was no memory for it
abbrev pub IsNoReport : Status → Type 0
IsNoReport answer = (answer ≡ ReportFault) ⊎ (answer ≡ Memory)

-- How a run ended, with its report.
abbrev pub RunAnswers : Option Request → ℕ → Option (List ℕ) → Option (List ℕ) → Option (List ℕ) → Option (List ℕ) → Option (List ℕ) → Option (List ℕ) → Status → Type 0
RunAnswers asked bound left left' held held' report report' answer =
    (status : Status) × (account : Account) × Ran asked bound left left' held held' account status × Reports report report' status account answer

-- ## By the bytes that the source has

-- what is judged of a source's bytes: all of them, or the first so many where there are more
unfoldable pub judged : ℕ → List ℕ → Seen
judged bound b = if nat_le (length b) bound then seen_whole b else seen (take bound b)

-- these bytes are the first of what is written for some first units of s, which have no verdict
abbrev pub IsFront : Options → Seen → List ℕ → Type 0
IsFront o s bytes =
    (units : List (List ℕ)) × (later : List (List ℕ)) × (items : List Item) × (rest : List ℕ) × (s.units ≡ units ++ later) × Judges o [] units None items None × IsOutput o units items (bytes ++ rest)

-- a verdict of what is judged ended the run, and what is written for the units before it was written
abbrev pub StopsAt : Options → Seen → Option (List ℕ) → Option (List ℕ) → Stopped → Type 0
StopsAt o s held held' stopped = (items : List Item) × Recodes o s items (Some stopped) × Gains o s.units items held held'

-- no verdict stands, and all that is judged was written
abbrev pub Passes : Options → Seen → Option (List ℕ) → Option (List ℕ) → Type 0
Passes o s held held' = (items : List Item) × Recodes o s items None × Gains o s.units items held held'

-- What each answer says of a run over a source that has the bytes b.
abbrev pub Leaves : Options → ℕ → List ℕ → Option (List ℕ) → Option (List ℕ) → Option (List ℕ) → Status → Type 0
Leaves o bound b left' held held' Done = (length b ≤ bound) × (left' ≡ Some []) × Passes o (judged bound b) held held'
Leaves o bound b left' held held' (Outside unit why) = StopsAt o (judged bound b) held held' (OutsideAt unit why)
Leaves o bound b left' held held' (Stop case place) = StopsAt o (judged bound b) held held' (StopAt case place)
Leaves o bound b left' held held' TooMuch = (bound < length b) × Passes o (judged bound b) held held'
Leaves o bound b left' held held' ReadFault = (read : List ℕ) × (rest : List ℕ) × (b ≡ read ++ rest) × (left' ≡ Some rest) × Passes o (seen read) held held'
Leaves o bound b left' held held' WriteFault = (more : List ℕ) × Appends held held' more × IsFront o (judged bound b) more
Leaves o bound b left' held held' Memory = (more : List ℕ) × Appends held held' more × IsFront o (judged bound b) more
Leaves o bound b left' held held' _ = ⊥

-- the same of any words that were read
abbrev pub LeavesAsAsked : Option Request → ℕ → List ℕ → Option (List ℕ) → Option (List ℕ) → Option (List ℕ) → Status → Type 0
LeavesAsAsked (Some asked) bound b left' held held' status =
    (IsBadTable asked.table status × (left' ≡ Some b) × Keeps held held')
    ⊎ ((init : InitTable) × IsTableOf asked.table init × Leaves (run_for asked init) bound b left' held held' status)
LeavesAsAsked None bound b left' held held' status = (status ≡ BadWords) × (left' ≡ Some b) × Keeps held held'

-- and of all words, where memory for reading them may be wanting
abbrev pub LeavesBy : Option Request → ℕ → List ℕ → Option (List ℕ) → Option (List ℕ) → Option (List ℕ) → Status → Type 0
LeavesBy asked bound b left' held held' status =
    ((status ≡ Memory) × (left' ≡ Some b) × Keeps held held') ⊎ LeavesAsAsked asked bound b left' held held' status

-- What is left where the source tells its bytes: an answer that replaces another leaves what that one leaves.
abbrev pub IsTold : Option Request → ℕ → Option (List ℕ) → Option (List ℕ) → Option (List ℕ) → Option (List ℕ) → Status → Type 0
IsTold asked bound None left' held held' answer = Unit {0}
IsTold asked bound (Some b) left' held held' answer =
    (status : Status) × LeavesBy asked bound b left' held held' status × ((answer ≡ status) ⊎ IsNoReport answer)

-- ## Exactly when

-- the answer that is due for a source of the bytes b, which is to be recoded so
abbrev pub IsDueTo : Options → ℕ → List ℕ → Status → Type 0
IsDueTo o bound b Done = (length b ≤ bound) × ((items : List Item) × Recodes o (judged bound b) items None)
IsDueTo o bound b (Outside unit why) = (items : List Item) × Recodes o (judged bound b) items (Some (OutsideAt unit why))
IsDueTo o bound b (Stop case place) = (items : List Item) × Recodes o (judged bound b) items (Some (StopAt case place))
IsDueTo o bound b TooMuch = (bound < length b) × ((items : List Item) × Recodes o (judged bound b) items None)
IsDueTo o bound b _ = ⊥

-- the same of any words
abbrev pub IsDue : Option Request → ℕ → List ℕ → Status → Type 0
IsDue (Some asked) bound b status = IsBadTable asked.table status ⊎ ((init : InitTable) × IsTableOf asked.table init × IsDueTo (run_for asked init) bound b status)
IsDue None bound b status = status ≡ BadWords

-- want of memory, or a fault of an end
abbrev pub IsFault : Status → Type 0
IsFault answer = (answer ≡ Memory) ⊎ ((answer ≡ ReadFault) ⊎ ((answer ≡ WriteFault) ⊎ (answer ≡ ReportFault)))

-- the answer that is due comes, but for want of memory and faults
abbrev pub IsExact : Option Request → ℕ → Option (List ℕ) → Status → Type 0
IsExact asked bound None answer = Unit {0}
IsExact asked bound (Some b) answer = (due : Status) → IsDue asked bound b due → (answer ≡ due) ⊎ IsFault answer

-- ## Output follows its input

-- Whatever the answer, what is written for the units that ended in the bytes taken was written, the last 65,536 of these
-- bytes left out.
abbrev pub IsPromptFor : Options → List ℕ → Option (List ℕ) → Option (List ℕ) → Option (List ℕ) → Type 0
IsPromptFor o b left' held held' = (taken : List ℕ) (rest : List ℕ) → b ≡ taken ++ rest → left' ≡ Some rest →
    let early = seen (take (length taken - 65536) taken) in
    (items : List Item) (verdict : Option Stopped) → Recodes o early items verdict → (bytes : List ℕ) × (more : List ℕ) × IsOutput o early.units items bytes × Appends held held' (bytes ++ more)

abbrev pub IsPrompt : Option Request → Option (List ℕ) → Option (List ℕ) → Option (List ℕ) → Option (List ℕ) → Type 0
IsPrompt (Some asked) (Some b) left' held held' = (init : InitTable) → IsTableOf asked.table init → IsPromptFor (run_for asked init) b left' held held'
IsPrompt _ _ left' held held' = Unit {0}
