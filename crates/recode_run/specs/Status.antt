-- The exit status of a run's answer.
use Rattle.std.specs.Prelude.{ℕ}
use Rattle.recode_run.specs.declared.status.Status.{Status}
use Rattle.recode_run.specs.declared.status.Status.TheVariants.{Ok, BadWords, ReadFault, WriteFault, Stop, Outside, TooMuch, Memory, ReportFault, BadTable}

-- the exit status
abbrev pub code_of : Status → ℕ
code_of Ok = 0
code_of BadWords = 1
code_of ReadFault = 2
code_of WriteFault = 3
code_of (Stop case place) = 4
code_of (Outside unit why) = 5
code_of TooMuch = 6
code_of Memory = 7
code_of ReportFault = 8
code_of (BadTable at) = 9
