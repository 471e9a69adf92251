-- What recoding promises of a whole stream.
use Rattle.std.specs.Prelude.{◌≡◌, ◌⊎◌, ℕ, ◌≤◌, List, [], length, Option, Some}
use Rattle.std.specs.Io.KnownBytes.{Appends}
use Rattle.init_table.specs.TableText.{IsTableOf}
use Rattle.init_table.specs.declared.table.InitTable.{InitTable}
use Rattle.slice_rewrite.specs.Items.{Item}
use Rattle.slice_rewrite.specs.View.{Reads, CanBeWritten, SaysTheSame}
use Rattle.recode_run.specs.declared.status.Status.{Status}
use Rattle.recode_run.specs.declared.status.Status.TheVariants.{Ok as Done}
use Rattle.recode_run.specs.Run.{run_for, IsFault}
use Rattle.recode_run.specs.Words.{Request}

-- the stream is in scope: it has no more bytes than may be read, and they are read as some items, with this table of initial
-- pairs where a slice is in CABAC; and no stop stands: each item can be written
abbrev pub IsInScope : Request → InitTable → ℕ → List ℕ → Type 0
IsInScope asked init bound b = (length b ≤ bound) × ((items : List Item) × Reads asked.to init b items × CanBeWritten (run_for asked init) [] items)

-- The answer is Ok exactly when the text is a table's, the stream is in scope and no stop stands, want of memory and faults
-- of the ends aside. Then the stream was read to its end, and the bytes written have a reading, with every slice of the range
-- in the wanted layer, without a range every slice, and say the same as those read.
pub record IsRecoded (asked : Request) (bound : ℕ) (b : List ℕ) (left' held held' : Option (List ℕ)) (answer : Status) : Type 0 where
  pub ok : answer ≡ Done → (init : InitTable) × IsTableOf asked.table init × (left' ≡ Some []) × (length b ≤ bound)
      × ((items : List Item) × (bytes : List ℕ) × Reads asked.to init b items × CanBeWritten (run_for asked init) [] items × Appends held held' bytes × SaysTheSame (run_for asked init) items bytes)
  pub in_scope : (init : InitTable) → IsTableOf asked.table init → IsInScope asked init bound b → (answer ≡ Done) ⊎ IsFault answer

-- the same of any words, where the source tells its bytes
abbrev pub IsHeadline : Option Request → ℕ → Option (List ℕ) → Option (List ℕ) → Option (List ℕ) → Option (List ℕ) → Status → Type 0
IsHeadline (Some asked) bound (Some b) left' held held' answer = IsRecoded asked bound b left' held held' answer
IsHeadline _ _ _ _ _ _ _ = Unit {0}
