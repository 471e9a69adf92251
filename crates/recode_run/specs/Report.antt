-- The line that reports a run's answer.
use Rattle.std.specs.Prelude.{◌≡◌, ◌⊎◌, ℕ, List, [], ◌∷◌, ◌++◌, take, Option, codes, decimal}
use Rattle.std.specs.List.{concat}
use Rattle.std.specs.Io.KnownBytes.{Appends}
use Rattle.unit_io.specs.Faults.{Rose}
use Rattle.unit_io.specs.declared.sink.SinkFault.{SinkFault}
use Rattle.unit_io.specs.declared.sink.SinkFault.TheVariants.{Failed as SinkFailed, Memory as SinkMemory}
use Rattle.h264_types.specs.declared.fault.Case.{Case}
use Rattle.h264_types.specs.declared.fault.Case.TheVariants.{Level, Empty, Number}
use Rattle.h264_types.specs.declared.fault.Why.{Why}
use Rattle.h264_types.specs.declared.fault.Why.TheVariants.{NoStart, Unit as BadUnit, Kind, Unbuilt, Escape, Sps, Pps, Profile, Limit, Header, MissingSps, MissingPps, Slice}
use Rattle.recode_run.specs.declared.account.Account.{Account}
use Rattle.recode_run.specs.declared.status.Status.{Status}
use Rattle.recode_run.specs.declared.status.Status.TheVariants.{Ok as Done, BadWords, ReadFault, WriteFault, Stop, Outside, TooMuch, Memory, ReportFault, BadTable}

-- what keeps a unit from being written
abbrev pub case_text : Case → List ℕ
case_text Level = codes "level"
case_text Empty = codes "empty"
case_text Number = codes "number"

-- why a unit has no reading
abbrev pub why_text : Why → List ℕ
why_text NoStart = codes "nostart"
why_text BadUnit = codes "unit"
why_text Kind = codes "kind"
why_text Unbuilt = codes "unbuilt"
why_text Escape = codes "escape"
why_text Sps = codes "sps"
why_text Pps = codes "pps"
why_text Profile = codes "profile"
why_text Limit = codes "limit"
why_text Header = codes "header"
why_text (MissingSps number) = codes "missing sps " ++ decimal number
why_text (MissingPps number) = codes "missing pps " ++ decimal number
why_text Slice = codes "slice"

-- the line of an answer, for a run with this account
abbrev pub line_of : Status → Account → List ℕ
line_of Done a = concat (
    codes "ok units " ∷ decimal a.units ∷ codes " slices " ∷ decimal a.slices
    ∷ codes " macroblocks " ∷ decimal a.macroblocks
    ∷ codes " in " ∷ decimal a.bytes_in ∷ codes " out " ∷ decimal a.bytes_out ∷ codes "\n" ∷ [])
line_of BadWords a = codes "bad words\n"
line_of ReadFault a = codes "read fault\n"
line_of WriteFault a = codes "write fault\n"
line_of (Stop case place) a = concat (
    codes "stop " ∷ case_text case ∷ codes " unit " ∷ decimal place.unit ∷ codes " mb " ∷ decimal place.mb ∷ codes "\n" ∷ [])
line_of (Outside unit why) a = concat (
    codes "outside unit " ∷ decimal unit ∷ codes " " ∷ why_text why ∷ codes "\n" ∷ [])
line_of TooMuch a = codes "too much\n"
line_of Memory a = codes "out of memory\n"
line_of ReportFault a = []
line_of (BadTable at) a = concat (codes "bad table " ∷ decimal at ∷ codes "\n" ∷ [])

-- some first bytes of this line were taken
abbrev pub TakesPart : Option (List ℕ) → Option (List ℕ) → List ℕ → Type 0
TakesPart held held' line = (n : ℕ) × Appends held held' (take n line)

-- a part was taken of the line of this answer, or of that of want of memory
abbrev pub ReportsPart : Option (List ℕ) → Option (List ℕ) → Status → Account → Type 0
ReportsPart held held' status account =
    TakesPart held held' (line_of status account) ⊎ TakesPart held held' (line_of Memory account)

-- What the report gained where the run answered status, by the answer that came of reporting it: the line of the
-- answer, or a part of a line where the report failed or memory ran out.
abbrev pub Reports : Option (List ℕ) → Option (List ℕ) → Status → Account → Status → Type 0
Reports held held' status account ReportFault = ReportsPart held held' status account
Reports held held' status account Memory = ReportsPart held held' status account
Reports held held' status account answer = (answer ≡ status) × Appends held held' (line_of answer account)

-- a report fault comes only where the count of the report's sink rose
abbrev pub ReportFaultRose : ℕ → ℕ → Status → Type 0
ReportFaultRose before now ReportFault = Rose before now
ReportFaultRose before now _ = Unit {0}

-- the answer where the report's sink refuses
abbrev pub refused_report : SinkFault → Status
refused_report SinkFailed = ReportFault
refused_report SinkMemory = Memory
