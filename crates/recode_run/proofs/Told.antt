-- A run over a source that tells its bytes.
use Rattle.std.proofs.Common.{◌≡◌, ◌⊎◌, ◌∙◌, sym, ap, subst, refl, inl, inr, ℕ, ◌+◌, ◌-◌, ◌<◌, ◌≤◌, Bool, true, false, nat_le, if◌then◌else◌, List, [], ◌∷◌, ◌++◌, length, take, drop, append_assoc, append-nil, length-append, arith}
use Rattle.std.specs.Prelude.{Option, Some, None}
use Rattle.std.proofs.lemmas.Bool.Decides.{nat_tests}
use Rattle.std.proofs.lemmas.List.{append_cancel_right, take-append-drop, take-append-le}
use Rattle.std.proofs.Math.Seq.{take-append-add}
use Rattle.std.specs.Io.KnownBytes.{Appends, Consumes, Keeps, IsAtEnd}
use Rattle.h264_types.specs.declared.fault.Stopped.{Stopped}
use Rattle.h264_types.specs.declared.fault.Stopped.TheVariants.{Stop as StopAt, Outside as OutsideAt, Memory as NoMemory}
use Rattle.h264_types.specs.Units.{Seen, seen, seen_whole}
use Rattle.h264_types.proofs.Stays.{seen-stays}
use Rattle.init_table.specs.TableText.{IsTableOf}
use Rattle.init_table.specs.declared.table.InitTable.{InitTable}
use Rattle.slice_rewrite.specs.Options.{Options}
use Rattle.recode_run.specs.declared.account.Account.{Account}
use Rattle.recode_run.specs.declared.status.Status.{Status}
use Rattle.recode_run.specs.declared.status.Status.TheVariants.{Ok as Done, BadWords, ReadFault, WriteFault, Stop, Outside, TooMuch, Memory, ReportFault, BadTable}
use Rattle.slice_rewrite.specs.Items.{Item}
use Rattle.slice_rewrite.specs.Verdict.{Judges, Recodes}
use Rattle.slice_rewrite.specs.Written.{IsOutput}
use Rattle.stream_recoder.specs.Written.{forms}
use Rattle.recode_run.specs.Report.{Reports}
use Rattle.recode_run.specs.Words.{Request}
use Rattle.recode_run.specs.Run.{run_for, Gains, RunEnds, IsPartlyWritten, EndsEarly, IsBadTable, RanAsAsked, Ran, IsNoReport, RunAnswers, judged, IsFront, StopsAt, Passes, Leaves, LeavesAsAsked, LeavesBy, IsTold, IsDueTo, IsDue, IsFault, IsExact, IsPromptFor, IsPrompt}
use Rattle.slice_rewrite.proofs.Judging.{one-verdict, verdict-stays}
use Rattle.stream_recoder.proofs.Outputs.{output_is, output-same, output-stays}
use Rattle.recode_run.proofs.Reading.{appends-at}
use Rattle.recode_run.proofs.Flush.{partly, ends-kept, none_begun}
use Rattle.recode_run.proofs.Tables.{table-stands, fails-once, one-table}

-- ## What is judged

pub judged-all : (bound : ℕ) (b : List ℕ) → length b ≤ bound → judged bound b ≡ seen_whole b
unfolding judged
judged-all bound b h = let test : nat_le (length b) bound ≡ true = grind (arith, nat_tests) in ap (λ t. if t then seen_whole b else seen (take bound b)) test

judged-first : (bound : ℕ) (b : List ℕ) → bound < length b → judged bound b ≡ seen (take bound b)
unfolding judged
judged-first bound b h = let test : nat_le (length b) bound ≡ false = grind (arith, nat_tests) in ap (λ t. if t then seen_whole b else seen (take bound b)) test

take-longer : (n : ℕ) (x rest : List ℕ) → length x ≤ n → take n (x ++ rest) ≡ x ++ take (n - length x) rest
take-longer n x rest h = let sum : n ≡ length x + (n - length x) = omega arith in ap (λ m. take m (x ++ rest)) sum ∙ take-append-add x rest (n - length x)

-- what is judged begins with each first part within the bound
judged-more : (bound : ℕ) (x rest : List ℕ) → length x ≤ bound → (c : List ℕ) × (judged bound (x ++ rest) ≡ seen (x ++ c))
unfolding seen_whole
judged-more bound x rest h = by (nat_le (length (x ++ rest)) bound) refl
  where
    by : (t : Bool) → nat_le (length (x ++ rest)) bound ≡ t → (c : List ℕ) × (judged bound (x ++ rest) ≡ seen (x ++ c))
    by true e = (rest ++ 0 ∷ 0 ∷ 0 ∷ [], judged-all bound (x ++ rest) (grind (arith, nat_tests)) ∙ ap seen (append_assoc x rest (0 ∷ 0 ∷ 0 ∷ [])))
    by false e =
        let more : bound < length (x ++ rest) = grind (arith, nat_tests) in
        (take (bound - length x) rest, judged-first bound (x ++ rest) more ∙ ap seen (take-longer bound x rest h))

-- the bytes that a source had are those that it gave and those that are left
split_of : (b : List ℕ) (left' : Option (List ℕ)) (given : List ℕ) → Consumes (Some b) left' given → (rest : List ℕ) × (left' ≡ Some rest) × (b ≡ given ++ rest)
split_of b None given h = absurd h
split_of b (Some rest) given h = (rest, refl, h)

at_end : (left' : Option (List ℕ)) (rest : List ℕ) → left' ≡ Some rest → IsAtEnd left' → rest ≡ []
at_end left' rest e h = let P : Option (List ℕ) → Type 0 = IsAtEnd in subst P e h

judged-of : (bound : ℕ) (b x rest : List ℕ) → b ≡ x ++ rest → length x ≤ bound → (c : List ℕ) × (judged bound b ≡ seen (x ++ c))
judged-of bound b x rest e h = let k = judged-more bound x rest h in (k.0, ap (judged bound) e ∙ k.1)

whole-of : (bound : ℕ) (b : List ℕ) (left' : Option (List ℕ)) (given : List ℕ) → Consumes (Some b) left' given → length given ≤ bound → IsAtEnd left' → seen_whole given ≡ judged bound b
whole-of bound b left' given h fits end =
    let s = split_of b left' given h in
    let all : given ≡ b = sym (s.2 ∙ ap (λ v. given ++ v) (at_end left' s.0 s.1 end) ∙ append-nil given) in
    ap seen_whole all ∙ sym (judged-all bound b (omega (arith, fits, ap length all)))

-- ## What is left, answer by answer

-- with more bytes the units that have ended stay
front-stays : (o : Options) (b c : List ℕ) (units later : List (List ℕ)) (read : List Item) (bytes rest : List ℕ) → (seen b).units ≡ units ++ later → Judges o [] units None read None → IsOutput o units read (bytes ++ rest) → IsFront o (seen (b ++ c)) bytes
front-stays o b c units later read bytes rest e h out =
    let stays = (seen-stays b c).units in
    (units, later ++ stays.0, read, rest, stays.1 ∙ ap (λ v. v ++ stays.0) e ∙ append_assoc units later stays.0, h, out)

partly_told : (o : Options) (bound : ℕ) (b : List ℕ) (left' held held' : Option (List ℕ)) → IsPartlyWritten o bound (Some b) left' held held' → (more : List ℕ) × Appends held held' more × IsFront o (judged bound b) more
partly_told o bound b left' held held' h = (done, h.appended, by h.which)
  where
    x : List ℕ
    x = h.given ++ h.last

    done : List ℕ
    done = h.early ++ h.more

    by : (h.all ≡ seen (h.given ++ h.last)) ⊎ ((h.all ≡ seen_whole (h.given ++ h.last)) × (h.over ≡ []) × IsAtEnd left') → IsFront o (judged bound b) done
    by (inl e) =
        let s = split_of b left' (x ++ h.over) h.consumed in
        let k = judged-of bound b x (h.over ++ s.0) (s.2 ∙ append_assoc x h.over s.0) h.within in
        let P : Seen → Type 0 = λ v. IsFront o v done in
        subst P (sym k.1) (front-stays o x k.0 h.units h.later h.read done h.rest (ap (λ v. v.units) (sym e) ∙ h.first) h.read_is h.written)
    by (inr e) =
        let c : Consumes (Some b) left' x = let P : List ℕ → Type 0 = Consumes (Some b) left' in subst P (ap (λ v. x ++ v) e.1 ∙ append-nil x) h.consumed in
        let P : Seen → Type 0 = λ v. IsFront o v done in
        subst P (e.0 ∙ whole-of bound b left' x c h.within e.2) (h.units, h.later, h.read, h.rest, h.first, h.read_is, h.written)

early_told : (o : Options) (bound : ℕ) (b : List ℕ) (left' held held' : Option (List ℕ)) (stopped : Stopped) → EndsEarly o bound (Some b) left' held held' stopped → StopsAt o (judged bound b) held held' stopped
early_told o bound b left' held held' stopped h = by h.which
  where
    x : List ℕ
    x = h.given ++ h.last

    P : Seen → Type 0
    P s = StopsAt o s held held' stopped

    by : (h.all ≡ seen x) ⊎ ((h.all ≡ seen_whole x) × IsAtEnd left') → StopsAt o (judged bound b) held held' stopped
    by (inl e) =
        let s = split_of b left' x h.consumed in
        let k = judged-of bound b x s.0 s.2 h.within in
        let Q : Seen → Type 0 = λ v. Recodes o v h.read (Some stopped) × Gains o v.units h.read held held' in
        let here = subst Q e (h.ends, h.written) in
        let later = verdict-stays o x k.0 h.read stopped here.0 in
        let out = output-same o x k.0 h.read stopped here.1.0 here.0 here.1.1 in
        let R : Seen → Type 0 = P in
        subst R (sym k.1) (h.read, later, (here.1.0, out, here.1.2))
    by (inr e) = let Q : Seen → Type 0 = P in subst Q (e.0 ∙ whole-of bound b left' x h.consumed h.within e.1) (h.read, h.ends, h.written)

pub told : (o : Options) (bound : ℕ) (b : List ℕ) (left' held held' : Option (List ℕ)) (account : Account) (status : Status) → RunEnds o bound (Some b) left' held held' account status → Leaves o bound b left' held held' status
told o bound b left' held held' account Done h =
    let s = split_of b left' h.0 h.2 in
    let none : s.0 ≡ [] = at_end left' s.0 s.1 h.3 in
    let all : h.0 ≡ b = sym (s.2 ∙ ap (λ v. h.0 ++ v) none ∙ append-nil h.0) in
    let fits : length b ≤ bound = omega (arith, h.4, ap length all) in
    let same : seen_whole h.0 ≡ judged bound b = ap seen_whole all ∙ sym (judged-all bound b fits) in
    let P : Seen → Type 0 = λ v. Passes o v held held' in
    (fits, s.1 ∙ ap (λ v. Some v) none, subst P same (h.1, h.5, (forms h.6.0, output_is o (seen_whole h.0).units h.1 h.6.0 h.6.1, h.6.2)))
told o bound b left' held held' account (Outside unit why) h = early_told o bound b left' held held' (OutsideAt unit why) h
told o bound b left' held held' account (Stop case place) h = early_told o bound b left' held held' (StopAt case place) h
told o bound b left' held held' account TooMuch h =
    let s = split_of b left' (h.0 ++ h.1) h.3 in
    let all : b ≡ h.0 ++ (h.1 ++ s.0) = s.2 ∙ append_assoc h.0 h.1 s.0 in
    let long : bound < length b = omega (arith, ap length all, length-append h.0 (h.1 ++ s.0), length-append h.1 s.0, h.4, h.5) in
    let none : bound - length h.0 ≡ 0 = omega (arith, h.4) in
    let first : take bound b ≡ h.0 = ap (take bound) all ∙ take-longer bound h.0 (h.1 ++ s.0) (omega (arith, h.4)) ∙ ap (λ m. h.0 ++ take m (h.1 ++ s.0)) none ∙ append-nil h.0 in
    let same : seen h.0 ≡ judged bound b = ap seen (sym first) ∙ sym (judged-first bound b long) in
    let P : Seen → Type 0 = λ v. Passes o v held held' in
    (long, subst P same (h.2, h.6, h.7))
told o bound b left' held held' account ReadFault h = let s = split_of b left' h.0 h.2 in (h.0, s.0, s.2, s.1, (h.1, h.4, h.5))
told o bound b left' held held' account WriteFault h = partly_told o bound b left' held held' h
told o bound b left' held held' account Memory h = partly_told o bound b left' held held' h
told o bound b left' held held' account BadWords h = absurd h
told o bound b left' held held' account ReportFault h = absurd h
told o bound b left' held held' account (BadTable at) h = absurd h

kept_left : (b : List ℕ) (left' : Option (List ℕ)) → Keeps (Some b) left' → left' ≡ Some b
kept_left b None h = absurd h
kept_left b (Some c) h = ap (λ v. Some v) h

-- what is left, whatever the words
left_as_asked : (asked : Option Request) (bound : ℕ) (b : List ℕ) (left' held held' : Option (List ℕ)) (account : Account) (status : Status) → RanAsAsked asked bound (Some b) left' held held' account status → LeavesAsAsked asked bound b left' held held' status
left_as_asked (Some asked) bound b left' held held' account status (inl h) = inl (h.0, kept_left b left' h.1, h.2)
left_as_asked (Some asked) bound b left' held held' account status (inr h) = inr (h.0, h.1, told (run_for asked h.0) bound b left' held held' account status h.2)
left_as_asked None bound b left' held held' account status h = (h.0, kept_left b left' h.1, h.2)

left_by : (asked : Option Request) (bound : ℕ) (b : List ℕ) (left' held held' : Option (List ℕ)) (account : Account) (status : Status) → Ran asked bound (Some b) left' held held' account status → LeavesBy asked bound b left' held held' status
left_by asked bound b left' held held' account status (inl h) = inl (h.0, kept_left b left' h.1, h.2)
left_by asked bound b left' held held' account status (inr h) = inr (left_as_asked asked bound b left' held held' account status h)

-- the answer is that of the run, or the report's
pub answer_of : (report report' : Option (List ℕ)) (status answer : Status) (account : Account) → Reports report report' status account answer → (answer ≡ status) ⊎ IsNoReport answer
answer_of report report' status ReportFault account h = inr (inl refl)
answer_of report report' status Memory account h = inr (inr refl)
answer_of report report' status Done account h = inl h.0
answer_of report report' status BadWords account h = inl h.0
answer_of report report' status ReadFault account h = inl h.0
answer_of report report' status WriteFault account h = inl h.0
answer_of report report' status (Stop case place) account h = inl h.0
answer_of report report' status (Outside unit why) account h = inl h.0
answer_of report report' status TooMuch account h = inl h.0
answer_of report report' status (BadTable at) account h = inl h.0

pub is_told : (asked : Option Request) (bound : ℕ) (left left' held held' report report' : Option (List ℕ)) (answer : Status) → RunAnswers asked bound left left' held held' report report' answer → IsTold asked bound left left' held held' answer
is_told asked bound None left' held held' report report' answer h = tt
is_told asked bound (Some b) left' held held' report report' answer h =
    (h.0, left_by asked bound b left' held held' h.1 h.0 h.2, answer_of report report' h.0 answer h.1 h.3)

-- ## Exactly when

no-report-is-fault : (answer : Status) → IsNoReport answer → IsFault answer
no-report-is-fault answer (inl e) = inr (inr (inr e))
no-report-is-fault answer (inr e) = inl e

by_none : {A : Type 0} → (o : Options) (s : Seen) (is js : List Item) (v : Stopped) → Recodes o s is None → Recodes o s js (Some v) → A
by_none o s is js v a b = absurd (let e = (one-verdict o [] s.units s.fault is js None (Some v) a b).1 in cc)

one_stop : (o : Options) (s : Seen) (is js : List Item) (v w : Stopped) → Recodes o s is (Some v) → Recodes o s js (Some w) → v ≡ w
one_stop o s is js v w a b = let e = (one-verdict o [] s.units s.fault is js (Some v) (Some w) a b).1 in cc

-- a verdict, as an answer
abbrev answer_at : Stopped → Status
answer_at (StopAt case place) = Stop case place
answer_at (OutsideAt unit why) = Outside unit why
answer_at NoMemory = Memory

-- one status is due
pub run-once : (o : Options) (bound : ℕ) (b : List ℕ) (first second : Status) → IsDueTo o bound b first → IsDueTo o bound b second → first ≡ second
run-once o bound b Done Done h d = refl
run-once o bound b Done TooMuch h d = absurd (omega (arith, h.0, d.0))
run-once o bound b Done (Outside unit why) h d = by_none o (judged bound b) h.1.0 d.0 (OutsideAt unit why) h.1.1 d.1
run-once o bound b Done (Stop case place) h d = by_none o (judged bound b) h.1.0 d.0 (StopAt case place) h.1.1 d.1
run-once o bound b TooMuch Done h d = absurd (omega (arith, h.0, d.0))
run-once o bound b TooMuch TooMuch h d = refl
run-once o bound b TooMuch (Outside unit why) h d = by_none o (judged bound b) h.1.0 d.0 (OutsideAt unit why) h.1.1 d.1
run-once o bound b TooMuch (Stop case place) h d = by_none o (judged bound b) h.1.0 d.0 (StopAt case place) h.1.1 d.1
run-once o bound b (Outside unit why) Done h d = by_none o (judged bound b) d.1.0 h.0 (OutsideAt unit why) d.1.1 h.1
run-once o bound b (Outside unit why) TooMuch h d = by_none o (judged bound b) d.1.0 h.0 (OutsideAt unit why) d.1.1 h.1
run-once o bound b (Outside unit why) (Outside m other) h d = ap answer_at (one_stop o (judged bound b) h.0 d.0 (OutsideAt unit why) (OutsideAt m other) h.1 d.1)
run-once o bound b (Outside unit why) (Stop case place) h d = ap answer_at (one_stop o (judged bound b) h.0 d.0 (OutsideAt unit why) (StopAt case place) h.1 d.1)
run-once o bound b (Stop case place) Done h d = by_none o (judged bound b) d.1.0 h.0 (StopAt case place) d.1.1 h.1
run-once o bound b (Stop case place) TooMuch h d = by_none o (judged bound b) d.1.0 h.0 (StopAt case place) d.1.1 h.1
run-once o bound b (Stop case place) (Outside unit why) h d = ap answer_at (one_stop o (judged bound b) h.0 d.0 (StopAt case place) (OutsideAt unit why) h.1 d.1)
run-once o bound b (Stop case place) (Stop other there) h d = ap answer_at (one_stop o (judged bound b) h.0 d.0 (StopAt case place) (StopAt other there) h.1 d.1)
run-once o bound b first BadWords h d = absurd d
run-once o bound b first ReadFault h d = absurd d
run-once o bound b first WriteFault h d = absurd d
run-once o bound b first Memory h d = absurd d
run-once o bound b first ReportFault h d = absurd d
run-once o bound b first (BadTable at) h d = absurd d
run-once o bound b BadWords second h d = absurd h
run-once o bound b ReadFault second h d = absurd h
run-once o bound b WriteFault second h d = absurd h
run-once o bound b Memory second h d = absurd h
run-once o bound b ReportFault second h d = absurd h
run-once o bound b (BadTable at) second h d = absurd h

-- what a run leaves is due, but for faults
leaves-due : (o : Options) (bound : ℕ) (b : List ℕ) (left' held held' : Option (List ℕ)) (status : Status) → Leaves o bound b left' held held' status → IsDueTo o bound b status ⊎ IsFault status
leaves-due o bound b left' held held' Done h = inl (h.0, (h.2.0, h.2.1))
leaves-due o bound b left' held held' TooMuch h = inl (h.0, (h.1.0, h.1.1))
leaves-due o bound b left' held held' (Outside unit why) h = inl (h.0, h.1)
leaves-due o bound b left' held held' (Stop case place) h = inl (h.0, h.1)
leaves-due o bound b left' held held' ReadFault h = inr (inr (inl refl))
leaves-due o bound b left' held held' WriteFault h = inr (inr (inr (inl refl)))
leaves-due o bound b left' held held' Memory h = inr (inl refl)
leaves-due o bound b left' held held' BadWords h = absurd h
leaves-due o bound b left' held held' ReportFault h = absurd h
leaves-due o bound b left' held held' (BadTable at) h = absurd h

-- the status of a run is the one that is due, or a fault
due-run : (o : Options) (bound : ℕ) (b : List ℕ) (left' held held' : Option (List ℕ)) (status due : Status) → Leaves o bound b left' held held' status → IsDueTo o bound b due → (status ≡ due) ⊎ IsFault status
due-run o bound b left' held held' status due h d = by (leaves-due o bound b left' held held' status h)
  where
    by : IsDueTo o bound b status ⊎ IsFault status → (status ≡ due) ⊎ IsFault status
    by (inl same) = inl (run-once o bound b status due same d)
    by (inr fault) = inr fault

-- whatever table the text has, it is this one
pub due-at : (asked : Request) (init other : InitTable) (bound : ℕ) (b : List ℕ) (due : Status) → IsTableOf asked.table init → IsTableOf asked.table other → IsDueTo (run_for asked other) bound b due → IsDueTo (run_for asked init) bound b due
due-at asked init other bound b due is also d = let P : InitTable → Type 0 = λ table. IsDueTo (run_for asked table) bound b due in subst P (one-table asked.table other init also is) d

-- a text fails at one place
pub bad-once : (text : List ℕ) (first second : Status) → IsBadTable text first → IsBadTable text second → first ≡ second
bad-once text first second x y = x.2 ∙ ap (λ at. BadTable at) (fails-once text x.0 y.0 x.1 y.1) ∙ sym y.2

due-asked : (asked : Option Request) (bound : ℕ) (b : List ℕ) (left' held held' : Option (List ℕ)) (status due : Status) → LeavesAsAsked asked bound b left' held held' status → IsDue asked bound b due → (status ≡ due) ⊎ IsFault status
due-asked (Some asked) bound b left' held held' status due (inl h) (inl d) = inl (bad-once asked.table status due h.0 d)
due-asked (Some asked) bound b left' held held' status due (inl h) (inr d) = absurd (table-stands asked.table h.0.0 (d.0, d.1) h.0.1)
due-asked (Some asked) bound b left' held held' status due (inr h) (inl d) = absurd (table-stands asked.table d.0 (h.0, h.1) d.1)
due-asked (Some asked) bound b left' held held' status due (inr h) (inr d) =
    due-run (run_for asked h.0) bound b left' held held' status due h.2 (due-at asked h.0 d.0 bound b due h.1 d.1 d.2)
due-asked None bound b left' held held' status due h d = inl (h.0 ∙ sym d)

due-by : (asked : Option Request) (bound : ℕ) (b : List ℕ) (left' held held' : Option (List ℕ)) (status due : Status) → LeavesBy asked bound b left' held held' status → IsDue asked bound b due → (status ≡ due) ⊎ IsFault status
due-by asked bound b left' held held' status due (inl h) d = inr (inl h.0)
due-by asked bound b left' held held' status due (inr h) d = due-asked asked bound b left' held held' status due h d

due-answer : (status due answer : Status) → (answer ≡ status) ⊎ IsNoReport answer → (status ≡ due) ⊎ IsFault status → (answer ≡ due) ⊎ IsFault answer
due-answer status due answer (inr e) k = inr (no-report-is-fault answer e)
due-answer status due answer (inl e) (inl f) = inl (e ∙ f)
due-answer status due answer (inl e) (inr f) = let P : Status → Type 0 = IsFault in inr (subst P (sym e) f)

pub is_exact : (asked : Option Request) (bound : ℕ) (left left' held held' : Option (List ℕ)) (answer : Status) → IsTold asked bound left left' held held' answer → IsExact asked bound left answer
is_exact asked bound None left' held held' answer h = tt
is_exact asked bound (Some b) left' held held' answer h = λ due d. due-answer h.0 due answer h.2 (due-by asked bound b left' held held' h.0 due h.1 d)

-- ## Output follows its input

-- what was put begins with the first of what it begins with
begins-earlier : (held held' : Option (List ℕ)) (early more first rest : List ℕ) → early ≡ first ++ rest → Appends held held' (early ++ more) → Appends held held' (first ++ (rest ++ more))
begins-earlier held held' early more first rest e h = appends-at held held' (early ++ more) (first ++ (rest ++ more)) (ap (λ v. v ++ more) e ∙ append_assoc first rest more) h

-- the bytes taken, but the last 65,536 of them, are the first of those given before the last piece
early_part : (o : Options) (bound : ℕ) (b : List ℕ) (left' held held' : Option (List ℕ)) → IsPartlyWritten o bound (Some b) left' held held' → IsPromptFor o b left' held held'
early_part o bound b left' held held' h taken rest e f items verdict j =
    let s = split_of b left' ((h.given ++ h.last) ++ h.over) h.consumed in
    let same_rest : rest ≡ s.0 = let both : Some rest ≡ Some s.0 = sym f ∙ s.1 in cc in
    let all : taken ++ rest ≡ ((h.given ++ h.last) ++ h.over) ++ rest = sym e ∙ s.2 ∙ ap (λ v. ((h.given ++ h.last) ++ h.over) ++ v) (sym same_rest) in
    let same : taken ≡ (h.given ++ h.last) ++ h.over = append_cancel_right taken ((h.given ++ h.last) ++ h.over) rest all in
    let n : ℕ = length taken - 65536 in
    let spread : taken ≡ h.given ++ (h.last ++ h.over) = same ∙ append_assoc h.given h.last h.over in
    let short : n ≤ length h.given = omega (arith, ap length spread, length-append h.given (h.last ++ h.over), length-append h.last h.over, h.short) in
    let front : take n taken ≡ take n h.given = ap (take n) spread ∙ take-append-le n h.given (h.last ++ h.over) short in
    let P : List ℕ → Type 0 = λ x. Recodes o (seen x) items verdict in
    let Q : List ℕ → Type 0 = λ x. Recodes o (seen x) h.items None in
    let W : List ℕ → Type 0 = λ x. IsOutput o (seen x).units h.items h.early in
    let back : h.given ≡ take n h.given ++ drop n h.given = sym (take-append-drop n h.given) in
    let done = output-stays o (take n h.given) (drop n h.given) items h.items verdict None h.early (subst P front j) (subst Q back h.judged) (subst W back h.early_is) in
    let F : List ℕ → Type 0 = λ x. IsOutput o (seen x).units items done.0 in (
      done.0,
      done.1 ++ h.more,
      subst F (sym front) done.2,
      begins-earlier held held' h.early h.more done.0 done.1 done.3 h.appended,
    )

-- of a source that wasn't read all that is due was written
unread_part : (o : Options) (bound : ℕ) (b : List ℕ) (left' held held' : Option (List ℕ)) (account : Account) → Keeps (Some b) left' → Keeps held held' → IsPromptFor o b left' held held'
unread_part o bound b left' held held' account h k =
    let P : Option (List ℕ) → Type 0 = λ l. RunEnds o bound (Some b) l held held' account Memory in
    let none : RunEnds o bound (Some b) (Some b) held held' account Memory = ends-kept o bound (Some b) (Some b) held held held' account Memory (none_begun o bound (Some b) held account) k in
    early_part o bound b left' held held' (subst P (sym (kept_left b left' h)) none)

pub is_prompt : (asked : Option Request) (bound : ℕ) (left left' held held' report report' : Option (List ℕ)) (answer : Status) → RunAnswers asked bound left left' held held' report report' answer → IsPrompt asked left left' held held'
is_prompt (Some asked) bound (Some b) left' held held' report report' answer h = λ init is. by init is h.2
  where
    by : (init : InitTable) → IsTableOf asked.table init → Ran (Some asked) bound (Some b) left' held held' h.1 h.0 → IsPromptFor (run_for asked init) b left' held held'
    by init is (inl without) = unread_part (run_for asked init) bound b left' held held' h.1 without.1 without.2
    by init is (inr (inl unread)) = unread_part (run_for asked init) bound b left' held held' h.1 unread.1 unread.2
    by init is (inr (inr ran)) =
        let P : InitTable → Type 0 = λ table. IsPromptFor (run_for asked table) b left' held held' in
        subst P (one-table asked.table ran.0 init ran.1 is) (early_part (run_for asked ran.0) bound b left' held held' (partly (run_for asked ran.0) bound (Some b) left' held held' h.1 h.0 ran.2))
is_prompt (Some asked) bound None left' held held' report report' answer h = tt
is_prompt None bound (Some b) left' held held' report report' answer h = tt
is_prompt None bound None left' held held' report report' answer h = tt
