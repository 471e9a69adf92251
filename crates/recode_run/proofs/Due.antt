-- One answer is due.
use Rattle.std.proofs.Common.{◌≡◌, ◌⊎◌, ◌∙◌, sym, refl, inl, inr, ℕ, Bool, true, false, nat_le, List, [], ◌∷◌, length, arith}
use Rattle.std.specs.Prelude.{Option, Some, None}
use Rattle.std.proofs.lemmas.Bool.Decides.{nat_tests}
use Rattle.init_table.specs.TableText.{FailsAt}
use Rattle.h264_types.specs.declared.fault.Why.{Why}
use Rattle.h264_types.specs.declared.fault.Stopped.{Stopped}
use Rattle.h264_types.specs.declared.fault.Stopped.TheVariants.{Stop as StopAt, Outside as OutsideAt, Memory as NoMemory}
use Rattle.slice_rewrite.specs.Options.{Options}
use Rattle.recode_run.specs.declared.status.Status.{Status}
use Rattle.recode_run.specs.declared.status.Status.TheVariants.{Ok as Done, BadWords, Stop, Outside, TooMuch, BadTable}
use Rattle.slice_rewrite.specs.Items.{Item}
use Rattle.slice_rewrite.specs.Verdict.{Judges, Recodes}
use Rattle.recode_run.specs.Run.{run_for, judged, IsDueTo, IsDue}
use Rattle.recode_run.specs.Words.{Request}
use Rattle.slice_rewrite.proofs.Judging.{judged-all}
use Rattle.recode_run.proofs.Told.{run-once, due-at, bad-once}
use Rattle.recode_run.proofs.Tables.{IsTable, table-stands, table-or_fails}

-- ## At most one

pub due-once : (asked : Option Request) (bound : ℕ) (b : List ℕ) (first second : Status) → IsDue asked bound b first → IsDue asked bound b second → first ≡ second
due-once None bound b first second d e = d ∙ sym e
due-once (Some asked) bound b first second (inl d) (inl e) = bad-once asked.table first second d e
due-once (Some asked) bound b first second (inl d) (inr e) = absurd (table-stands asked.table d.0 (e.0, e.1) d.1)
due-once (Some asked) bound b first second (inr d) (inl e) = absurd (table-stands asked.table e.0 (d.0, d.1) e.1)
due-once (Some asked) bound b first second (inr d) (inr e) =
    run-once (run_for asked d.0) bound b first second d.2 (due-at asked d.0 e.0 bound b second d.1 e.1 e.2)

-- ## At least one

-- want of memory is no verdict
never_memory : (o : Options) (before : List Item) (us : List (List ℕ)) (fault : Option Why) (items : List Item) → Judges o before us fault items (Some NoMemory) → ⊥
never_memory o before [] None [] h = cc
never_memory o before [] (Some why) [] h = cc
never_memory o before [] fault (i ∷ items) h = h
never_memory o before (u ∷ us) fault [] h = h
never_memory o before (u ∷ us) fault (i ∷ items) h = never_memory o (i ∷ before) us fault items h.2

run-some : (o : Options) (bound : ℕ) (b : List ℕ) → (due : Status) × IsDueTo o bound b due
run-some o bound b = by all.1 all.2
  where
    all : (items : List Item) × (verdict : Option Stopped) × Recodes o (judged bound b) items verdict
    all = judged-all o (judged bound b).units (judged bound b).fault

    by : (v : Option Stopped) → Recodes o (judged bound b) all.0 v → (due : Status) × IsDueTo o bound b due
    by (Some (OutsideAt unit why)) j = (Outside unit why, (all.0, j))
    by (Some (StopAt case place)) j = (Stop case place, (all.0, j))
    by (Some NoMemory) j = absurd (never_memory o [] (judged bound b).units (judged bound b).fault all.0 j)
    by None j = fits (nat_le (length b) bound) refl
      where
        fits : (t : Bool) → nat_le (length b) bound ≡ t → (due : Status) × IsDueTo o bound b due
        fits true e = (Done, (grind (arith, nat_tests, e), (all.0, j)))
        fits false e = (TooMuch, (grind (arith, nat_tests, e), (all.0, j)))

pub due-some : (asked : Option Request) (bound : ℕ) (b : List ℕ) → (due : Status) × IsDue asked bound b due
due-some None bound b = (BadWords, refl)
due-some (Some asked) bound b = by (table-or_fails asked.table)
  where
    by : IsTable asked.table ⊎ ((at : ℕ) × FailsAt asked.table at) → (due : Status) × IsDue (Some asked) bound b due
    by (inl table) = let run = run-some (run_for asked table.0) bound b in (run.0, inr (table.0, table.1, run.1))
    by (inr fails) = (BadTable fails.0, inl (fails.0, fails.1, refl))
