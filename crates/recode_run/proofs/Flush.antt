-- The end of a run: the sink is flushed.
use Rattle.std.proofs.Common.{◌≡◌, ◌⊎◌, ◌∙◌, sym, ap, subst, refl, inl, inr, ℕ, ◌+◌, ◌≤◌, List, [], ◌∷◌, ◌++◌, length, append-nil, append_assoc, arith}
use Rattle.std.specs.Prelude.{Option, Some, None}
use Rattle.std.specs.Io.KnownBytes.{Appends, Consumes, Keeps, IsAtEnd}
use Rattle.h264_types.specs.declared.fault.Stopped.{Stopped}
use Rattle.h264_types.specs.declared.fault.Stopped.TheVariants.{Stop as StopAt, Outside as OutsideAt}
use Rattle.h264_types.specs.Units.{Seen, seen, seen_whole}
use Rattle.unit_io.specs.Faults.{Rose, RoseIfFailed}
use Rattle.unit_io.specs.declared.sink.SinkFault.{SinkFault}
use Rattle.unit_io.specs.declared.sink.SinkFault.TheVariants.{Failed as SinkFailed, Memory as SinkMemory}
use Rattle.slice_rewrite.specs.Options.{Options}
use Rattle.recode_run.specs.declared.account.Account.{Account}
use Rattle.recode_run.specs.declared.status.Status.{Status}
use Rattle.recode_run.specs.declared.status.Status.TheVariants.{Ok as Done, BadWords, ReadFault, WriteFault, Stop, Outside, TooMuch, Memory, ReportFault, BadTable}
use Rattle.slice_rewrite.specs.Items.{Item}
use Rattle.slice_rewrite.specs.Verdict.{Recodes}
use Rattle.stream_recoder.specs.Written.{forms}
use Rattle.slice_rewrite.specs.Written.{IsOutput}
use Rattle.recode_run.specs.Pieces.{status_of_fault}
use Rattle.recode_run.specs.Run.{Gains, IsOver, IsPartlyWritten, EndsEarly, RunEnds}
use Rattle.stream_recoder.proofs.Outputs.{output_is, output-first, before-none, output-stays}
use Rattle.recode_run.proofs.Reading.{consumes-at, appends-at}

appends-keeps : (a b c : Option (List ℕ)) (xs : List ℕ) → Appends a b xs → Keeps b c → Appends a c xs
appends-keeps None b c xs h k = tt
appends-keeps (Some as0) None c xs h k = absurd h
appends-keeps (Some as0) (Some bs0) None xs h k = absurd k
appends-keeps (Some as0) (Some bs0) (Some cs0) xs h k = k ∙ h

gains-keeps : (o : Options) (us : List (List ℕ)) (items : List Item) (a b c : Option (List ℕ)) → Gains o us items a b → Keeps b c → Gains o us items a c
gains-keeps o us items a b c h k = (h.0, h.1, appends-keeps a b c h.0 h.2 k)

partly-kept : (o : Options) (bound : ℕ) (left left' a b c : Option (List ℕ)) → IsPartlyWritten o bound left left' a b → Keeps b c → IsPartlyWritten o bound left left' a c
partly-kept o bound left left' a b c h k = record {
  given = h.given;
  last = h.last;
  over = h.over;
  consumed = h.consumed;
  short = h.short;
  within = h.within;
  over_is = h.over_is;
  items = h.items;
  judged = h.judged;
  all = h.all;
  which = h.which;
  units = h.units;
  later = h.later;
  first = h.first;
  read = h.read;
  read_is = h.read_is;
  early = h.early;
  early_is = h.early_is;
  more = h.more;
  rest = h.rest;
  appended = appends-keeps a b c (h.early ++ h.more) h.appended k;
  written = h.written;
}

early-kept : (o : Options) (bound : ℕ) (left left' a b c : Option (List ℕ)) (stopped : Stopped) → EndsEarly o bound left left' a b stopped → Keeps b c → EndsEarly o bound left left' a c stopped
early-kept o bound left left' a b c stopped h k = record {
  given = h.given;
  last = h.last;
  consumed = h.consumed;
  short = h.short;
  within = h.within;
  items = h.items;
  judged = h.judged;
  all = h.all;
  which = h.which;
  read = h.read;
  ends = h.ends;
  written = gains-keeps o h.all.units h.read a b c h.written k;
}

-- a flush leaves what a run left
pub ends-kept : (o : Options) (bound : ℕ) (left left' a b c : Option (List ℕ)) (account : Account) (status : Status) → RunEnds o bound left left' a b account status → Keeps b c → RunEnds o bound left left' a c account status
ends-kept o bound left left' a b c account Done h k = (h.0, h.1, h.2, h.3, h.4, h.5, (h.6.0, h.6.1, appends-keeps a b c (forms h.6.0) h.6.2 k, h.6.3))
ends-kept o bound left left' a b c account (Outside unit why) h k = early-kept o bound left left' a b c (OutsideAt unit why) h k
ends-kept o bound left left' a b c account (Stop case place) h k = early-kept o bound left left' a b c (StopAt case place) h k
ends-kept o bound left left' a b c account TooMuch h k = (h.0, h.1, h.2, h.3, h.4, h.5, h.6, gains-keeps o (seen h.0).units h.2 a b c h.7 k)
ends-kept o bound left left' a b c account ReadFault h k = (h.0, h.1, h.2, h.3, h.4, gains-keeps o (seen h.0).units h.1 a b c h.5 k)
ends-kept o bound left left' a b c account WriteFault h k = partly-kept o bound left left' a b c h k
ends-kept o bound left left' a b c account Memory h k = partly-kept o bound left left' a b c h k
ends-kept o bound left left' a b c account BadWords h k = absurd h
ends-kept o bound left left' a b c account ReportFault h k = absurd h
ends-kept o bound left left' a b c account (BadTable at) h k = absurd h

-- ## What was written as a whole was written in part

-- all that is written for what is judged was written, and no more
partly-of : (o : Options) (bound : ℕ) (left left' a b : Option (List ℕ)) (given last over : List ℕ) (items read : List Item) (all : Seen) (v : Option Stopped) → Consumes left left' ((given ++ last) ++ over) → length last + length over ≤ 65536
    → length (given ++ last) ≤ bound → IsOver bound (given ++ last) over → Recodes o (seen given) items None → (all ≡ seen (given ++ last)) ⊎ ((all ≡ seen_whole (given ++ last)) × (over ≡ []) × IsAtEnd left')
    → Recodes o all read v → (out : Gains o all.units read a b) → (early : List ℕ) × (rest : List ℕ) × IsOutput o (seen given).units items early × (out.0 ≡ early ++ rest) → IsPartlyWritten o bound left left' a b
partly-of o bound left left' a b given last over items read all v consumed short within is_over none which judged out grows =
    let front = output-first o all.units all.fault read v out.0 judged out.1 in
    let Q : List ℕ → Type 0 = IsOutput o front.0 read in
    record {
      given = given;
      last = last;
      over = over;
      consumed = consumed;
      short = short;
      within = within;
      over_is = is_over;
      items = items;
      judged = none;
      all = all;
      which = which;
      units = front.0;
      later = front.1;
      first = front.2;
      read = read;
      read_is = front.3;
      early = grows.0;
      early_is = grows.2;
      more = grows.1;
      rest = [];
      appended = appends-at a b out.0 (grows.0 ++ grows.1) grows.3 out.2;
      written = subst Q (grows.3 ∙ sym (append-nil (grows.0 ++ grows.1))) front.4;
    }

partly-seen : (o : Options) (bound : ℕ) (left left' a b : Option (List ℕ)) (given over : List ℕ) (items : List Item) → Consumes left left' (given ++ over) → length over ≤ 1 → length given ≤ bound → IsOver bound given over
    → Recodes o (seen given) items None → Gains o (seen given).units items a b → IsPartlyWritten o bound left left' a b
partly-seen o bound left left' a b given over items h short within is_over judged out =
    let same : given ≡ given ++ [] = sym (append-nil given) in
    let P : List ℕ → Type 0 = λ x. IsOver bound x over in
    partly-of o bound left left' a b given [] over items items (seen given) None (consumes-at left left' (given ++ over) ((given ++ []) ++ over) (ap (λ x. x ++ over) same) h) (omega arith) (omega (arith, within, ap length (append-nil given)))
    (subst P same is_over) judged (inl (ap seen same)) judged out (out.0, [], out.1, sym (append-nil out.0))

partly-whole : (o : Options) (bound : ℕ) (left left' a b : Option (List ℕ)) (given : List ℕ) (items : List Item) → Consumes left left' given → length given ≤ bound → IsAtEnd left'
    → Recodes o (seen_whole given) items None → Gains o (seen_whole given).units items a b → IsPartlyWritten o bound left left' a b
unfolding seen_whole
partly-whole o bound left left' a b given items h within end judged out =
    let none = before-none o given (0 ∷ 0 ∷ 0 ∷ []) items judged in
    let same : given ≡ given ++ [] = sym (append-nil given) in
    partly-of o bound left left' a b given [] [] none.0 items (seen (given ++ 0 ∷ 0 ∷ 0 ∷ [])) None (consumes-at left left' given ((given ++ []) ++ []) (sym (append-nil (given ++ []) ∙ append-nil given)) h) (omega arith) (omega (arith, within, ap length (append-nil given)))
    (inl refl) none.1 (inr (ap (λ x. seen (x ++ 0 ∷ 0 ∷ 0 ∷ [])) same, refl, end)) judged out (output-stays o given (0 ∷ 0 ∷ 0 ∷ []) none.0 items None None out.0 none.1 judged out.1)

partly-early : (o : Options) (bound : ℕ) (left left' a b : Option (List ℕ)) (stopped : Stopped) → EndsEarly o bound left left' a b stopped → IsPartlyWritten o bound left left' a b
unfolding seen_whole
partly-early o bound left left' a b stopped h = by h.which
  where
    x : List ℕ
    x = h.given ++ h.last

    nothing : List ℕ
    nothing = []

    at : (c : List ℕ) → h.all ≡ seen (h.given ++ c) → (h.all ≡ seen x) ⊎ ((h.all ≡ seen_whole x) × (nothing ≡ []) × IsAtEnd left') → IsPartlyWritten o bound left left' a b
    at c e which =
        let P : Seen → Type 0 = λ s. Recodes o s h.read (Some stopped) in
        let Q : Seen → Type 0 = λ s. IsOutput o s.units h.read h.written.0 in
        partly-of o bound left left' a b h.given h.last [] h.items h.read h.all (Some stopped) (consumes-at left left' x (x ++ []) (sym (append-nil x)) h.consumed) (omega (arith, h.short)) h.within
        (inl refl) h.judged which h.ends h.written (output-stays o h.given c h.items h.read None (Some stopped) h.written.0 h.judged (subst P e h.ends) (subst Q e h.written.1))

    by : (h.all ≡ seen x) ⊎ ((h.all ≡ seen_whole x) × IsAtEnd left') → IsPartlyWritten o bound left left' a b
    by (inl e) = at h.last e (inl e)
    by (inr e) = at (h.last ++ 0 ∷ 0 ∷ 0 ∷ []) (e.0 ∙ ap seen (append_assoc h.given h.last (0 ∷ 0 ∷ 0 ∷ []))) (inr (e.0, refl, e.1))

-- whatever ended a run, its output was written in part
pub partly : (o : Options) (bound : ℕ) (left left' a b : Option (List ℕ)) (account : Account) (status : Status) → RunEnds o bound left left' a b account status → IsPartlyWritten o bound left left' a b
partly o bound left left' a b account Done h = partly-whole o bound left left' a b h.0 h.1 h.2 h.4 h.3 h.5 (forms h.6.0, output_is o (seen_whole h.0).units h.1 h.6.0 h.6.1, h.6.2)
partly o bound left left' a b account (Outside unit why) h = partly-early o bound left left' a b (OutsideAt unit why) h
partly o bound left left' a b account (Stop case place) h = partly-early o bound left left' a b (StopAt case place) h
partly o bound left left' a b account TooMuch h = partly-seen o bound left left' a b h.0 h.1 h.2 h.3 (omega (arith, h.5)) (omega (arith, h.4)) (inr (h.5, h.4)) h.6 h.7
partly o bound left left' a b account ReadFault h = partly-seen o bound left left' a b h.0 [] h.1 (consumes-at left left' h.0 (h.0 ++ []) (sym (append-nil h.0)) h.2) (omega arith) h.3 (inl refl) h.4 h.5
partly o bound left left' a b account WriteFault h = h
partly o bound left left' a b account Memory h = h
partly o bound left left' a b account BadWords h = absurd h
partly o bound left left' a b account ReportFault h = absurd h
partly o bound left left' a b account (BadTable at) h = absurd h

-- the flush failed
pub flush_ends : (o : Options) (bound : ℕ) (left left' a b c : Option (List ℕ)) (account : Account) (status : Status) (fault : SinkFault) (result : Status) → result ≡ status_of_fault fault → RunEnds o bound left left' a b account status → Keeps b c
    → RunEnds o bound left left' a c account result
flush_ends o bound left left' a b c account status fault result e h k =
    let P : Status → Type 0 = RunEnds o bound left left' a c account in
    let part = partly o bound left left' a b account status h in
    subst P (sym e) (by fault (partly-kept o bound left left' a b c part k))
  where
    by : (f : SinkFault) → IsPartlyWritten o bound left left' a c → RunEnds o bound left left' a c account (status_of_fault f)
    by SinkFailed x = x
    by SinkMemory x = x

pub flush_rose : (a b c : ℕ) (fault : SinkFault) (result : Status) → result ≡ status_of_fault fault → a ≤ b → RoseIfFailed b c fault → result ≡ WriteFault → Rose a c
flush_rose a b c SinkFailed result e le k same = omega arith
flush_rose a b c SinkMemory result e le k same = absurd (let both = sym e ∙ same in cc)

pub flush_no_read : {A : Type 0} → (fault : SinkFault) (result : Status) → result ≡ status_of_fault fault → result ≡ ReadFault → A
flush_no_read SinkFailed result e same = absurd (let both = sym e ∙ same in cc)
flush_no_read SinkMemory result e same = absurd (let both = sym e ∙ same in cc)

-- a run that had no memory to begin with
pub none_begun : (o : Options) (bound : ℕ) (left held : Option (List ℕ)) (account : Account) → RunEnds o bound left left held held account Memory
unfolding seen
none_begun o bound left held account =
    partly-seen o bound left left held held [] [] [] (same left) (omega arith) (omega arith) (inl refl) refl ([], ([], refl, refl), none held)
  where
    same : (left : Option (List ℕ)) → Consumes left left []
    same None = tt
    same (Some xs) = refl

    none : (held : Option (List ℕ)) → Appends held held []
    none None = tt
    none (Some xs) = sym (append-nil xs)
