-- A line that was taken as a whole.
use Rattle.std.proofs.Common.{◌∙◌, sym, ℕ, List, [], length, arith, append-nil}
use Rattle.std.proofs.lemmas.List.{take_all}
use Rattle.std.specs.Prelude.{Option, Result, Ok, Err, OnErr}
use Rattle.std.specs.Io.KnownBytes.{Appends, Keeps}
use Rattle.unit_io.proofs.Known.{appends-more, appends-none}
use Rattle.recode_run.specs.Report.{TakesPart}

pub on_err : {T E : Type 0} (r : Result T E) (P : Type 0) → P → OnErr r P
on_err (Ok x) P p = tt
on_err (Err e) P p = p

-- the line was taken, and then nothing more
pub takes_whole : (a b c : Option (List ℕ)) (line : List ℕ) → Appends a b line → Keeps b c → TakesPart a c line
takes_whole a b c line h k =
    (length line, appends-more a b c line [] _ (take_all (length line) line (omega arith) ∙ sym (append-nil line)) h (appends-none b c k))
