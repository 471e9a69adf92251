-- What recoding promises of a whole stream follows from what each answer says.
use Rattle.std.proofs.Common.{◌≡◌, ◌⊎◌, inl, inr, ℕ, ◌≤◌, List, [], length, Option, Some, None, sym, subst}
use Rattle.std.specs.Io.KnownBytes.{Appends}
use Rattle.init_table.specs.TableText.{IsTableOf}
use Rattle.init_table.specs.declared.table.InitTable.{InitTable}
use Rattle.h264_types.specs.Units.{Seen}
use Rattle.slice_rewrite.specs.Items.{Item}
use Rattle.slice_rewrite.specs.Verdict.{Recodes}
use Rattle.slice_rewrite.specs.Options.{Options}
use Rattle.slice_rewrite.specs.Written.{IsOutput}
use Rattle.slice_rewrite.specs.View.{Reads, CanBeWritten, SaysTheSame}
use Rattle.slice_rewrite.proofs.Headline.{reads-recoded, recodes-read, recodes-writable, says-the-same}
use Rattle.recode_run.specs.declared.status.Status.{Status}
use Rattle.recode_run.specs.declared.status.Status.TheVariants.{Ok as Done, Memory, BadTable}
use Rattle.recode_run.specs.Headline.{IsInScope, IsHeadline}
use Rattle.recode_run.specs.Run.{run_for, IsNoReport, Leaves, LeavesBy, IsTold, IsDueTo, IsExact}
use Rattle.recode_run.specs.Words.{Request}
use Rattle.recode_run.proofs.Told.{judged-all}

-- the answer was not replaced
not_replaced : (status : Status) → (Done ≡ status) ⊎ IsNoReport Done → status ≡ Done
not_replaced status (inl same) = sym same
not_replaced status (inr (inl e)) = absurd cc
not_replaced status (inr (inr e)) = absurd cc

passed : (asked : Request) (init : InitTable) (bound : ℕ) (b : List ℕ) (left' held held' : Option (List ℕ)) → Leaves (run_for asked init) bound b left' held held' Done
    → (left' ≡ Some []) × (length b ≤ bound) × ((items : List Item) × (bytes : List ℕ) × Reads asked.to init b items × CanBeWritten (run_for asked init) [] items × Appends held held' bytes × SaysTheSame (run_for asked init) items bytes)
passed asked init bound b left' held held' h =
    let whole = judged-all bound b h.0 in
    let o : Options = run_for asked init in
    let P : Seen → Type 0 = λ s. Recodes o s h.2.0 None in
    let W : Seen → Type 0 = λ s. IsOutput o s.units h.2.0 h.2.2.0 in
    let recodes = subst P whole h.2.1 in
    (h.1, h.0, (h.2.0, h.2.2.0, reads-recoded o b h.2.0 recodes, recodes-writable o b h.2.0 recodes, h.2.2.2, says-the-same o b h.2.0 h.2.2.0 recodes (subst W whole h.2.2.1)))

told_done : (asked : Request) (bound : ℕ) (b : List ℕ) (left' held held' : Option (List ℕ)) (answer : Status) → IsTold (Some asked) bound (Some b) left' held held' answer → answer ≡ Done
    → (init : InitTable) × IsTableOf asked.table init × Leaves (run_for asked init) bound b left' held held' Done
told_done asked bound b left' held held' answer told e = by (subst L (not_replaced told.0 (subst P e told.2)) told.1)
  where
    P : Status → Type 0
    P a = (a ≡ told.0) ⊎ IsNoReport a

    L : Status → Type 0
    L = LeavesBy (Some asked) bound b left' held held'

    by : LeavesBy (Some asked) bound b left' held held' Done → (init : InitTable) × IsTableOf asked.table init × Leaves (run_for asked init) bound b left' held held' Done
    by (inl without) = absurd (let no : Done ≡ Memory = without.0 in cc)
    by (inr (inl bad)) = absurd (let no : Done ≡ BadTable bad.0.0 = bad.0.2 in cc)
    by (inr (inr ran)) = ran

due_done : (asked : Request) (init : InitTable) (bound : ℕ) (b : List ℕ) → IsInScope asked init bound b → IsDueTo (run_for asked init) bound b Done
due_done asked init bound b scope =
    let P : Seen → Type 0 = λ s. Recodes (run_for asked init) s scope.1.0 None in
    (scope.0, (scope.1.0, subst P (sym (judged-all bound b scope.0)) (recodes-read (run_for asked init) b scope.1.0 scope.1.1 scope.1.2)))

pub is_headline : (asked : Option Request) (bound : ℕ) (left left' held held' : Option (List ℕ)) (answer : Status) → IsTold asked bound left left' held held' answer → IsExact asked bound left answer → IsHeadline asked bound left left' held held' answer
is_headline (Some asked) bound (Some b) left' held held' answer told exact = record {
  ok = λ e. let done = told_done asked bound b left' held held' answer told e in let is = passed asked done.0 bound b left' held held' done.2 in (done.0, done.1, is.0, is.1, is.2);
  in_scope = λ init table scope. exact Done (inr (init, table, due_done asked init bound b scope));
}
is_headline None bound (Some b) left' held held' answer told exact = tt
is_headline (Some asked) bound None left' held held' answer told exact = tt
is_headline None bound None left' held held' answer told exact = tt
