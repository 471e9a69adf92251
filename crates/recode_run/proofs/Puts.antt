-- What waits is written, one unit after another.
use Rattle.std.proofs.Common.{◌≡◌, ◌∙◌, sym, ap, subst, refl, ℕ, ◌+◌, List, [], ◌∷◌, ◌++◌, length, map, take, arith, append_assoc, append-nil}
use Rattle.std.specs.Prelude.{Option}
use Rattle.std.proofs.lemmas.List.{map-append, take-append-le}
use Rattle.std.proofs.Math.Seq.{take-append-add}
use Rattle.std.specs.Io.KnownBytes.{Appends}
use Rattle.stream_taps.specs.declared.event.Event.{Event}
use Rattle.unit_io.specs.Faults.{AppendsPart}
use Rattle.unit_io.proofs.Known.{appends-more, appends-same}
use Rattle.recode_run.specs.declared.account.Account.{Account}
use Rattle.slice_rewrite.specs.declared.pick.Tries.{Tries}
use Rattle.stream_recoder.specs.declared.recoder.Recoder.{Recoder}
use Rattle.recode_run.specs.Account.{account_of}
use Rattle.stream_recoder.specs.Written.{Written, forms}
use Rattle.stream_recoder.specs.Recoder.{waiting, HasRecoded, Drains}
use Rattle.recode_run.specs.Pieces.{Notes}
use Rattle.recode_run.specs.Report.{TakesPart}
use Rattle.stream_recoder.proofs.Outputs.{forms-append}

module _ {P : Type 0} (tried : P → Tries) (step : P → List ℕ → ℕ → P → Type 0) where
  -- some of what waited was written and counted
  pub record Puts (held held' : Option (List ℕ)) (old new : Recoder P) (account account' : Account) : Type 0 where
    pub done : List Written
    pub waits : waiting old ≡ done ++ waiting new
    pub written : Appends held held' (forms done)
    pub recodes : (first : P) (fed : List ℕ) (drained : List Written) → HasRecoded tried step first old fed drained → HasRecoded tried step first new fed (drained ++ done)
    pub counted : Notes account account' done

  pub puts-none : (held : Option (List ℕ)) (r : Recoder P) (account : Account) → Puts held held r r account account
  puts-none held r account = record {
    done = [];
    waits = refl;
    written = appends-same held;
    recodes = λ first fed drained h. let Q : List Written → Type 0 = λ v. HasRecoded tried step first r fed v in subst Q (sym (append-nil drained)) h;
    counted = λ read events e. e ∙ ap (account_of read) (sym (append-nil events));
  }

  forms-one : (w : Written) → forms (w ∷ []) ≡ w.form
  forms-one w = append-nil w.form

  pub puts-one : (held held' held'' : Option (List ℕ)) (r0 r r' : Recoder P) (a0 a a' : Account) (w : Written) (bytes : List ℕ) → bytes ≡ w.form → Puts held held' r0 r a0 a → Drains tried step r r' w → Appends held' held'' bytes
      → ((read : ℕ) (events : List Event) → a ≡ account_of read events → a' ≡ account_of read (events ++ w.event ∷ []))
      → Puts held held'' r0 r' a0 a'
  puts-one held held' held'' r0 r r' a0 a a' w bytes e h k put counted =
      let done : List Written = h.done ++ w ∷ [] in
      record {
        done = done;
        waits = h.waits ∙ ap (λ v. h.done ++ v) k.first ∙ sym (append_assoc h.done (w ∷ []) (waiting r'));
        written = appends-more held held' held'' (forms h.done) bytes (forms done) (forms-append h.done (w ∷ []) ∙ ap (λ v. forms h.done ++ v) (forms-one w ∙ sym e)) h.written put;
        recodes = λ first fed drained s.
            let Q : List Written → Type 0 = λ v. HasRecoded tried step first r' fed v in
            subst Q (append_assoc drained h.done (w ∷ [])) (k.rest first fed (drained ++ h.done) (h.recodes first fed drained s));
        counted = λ read events start.
            let before : List Event = map (λ x. x.event) h.done in
            counted read (events ++ before) (h.counted read events start)
            ∙ ap (account_of read) (append_assoc events before (w.event ∷ []) ∙ ap (λ v. events ++ v) (sym (map-append (λ x. x.event) h.done (w ∷ []))));
      }

  -- a write stopped within a unit
  pub puts-part : (held held' held'' : Option (List ℕ)) (r0 r r' : Recoder P) (a0 a : Account) (w : Written) (bytes : List ℕ) → bytes ≡ w.form → Puts held held' r0 r a0 a → Drains tried step r r' w → AppendsPart held' held'' bytes
      → TakesPart held held'' (forms (waiting r0))
  puts-part held held' held'' r0 r r' a0 a w bytes e h k put =
      let done : List ℕ = forms h.done in
      let later : List ℕ = forms (waiting r') in
      let all : forms (waiting r0) ≡ done ++ (bytes ++ later) =
      ap forms (h.waits ∙ ap (λ v. h.done ++ v) k.first) ∙ forms-append h.done (w ∷ waiting r') ∙ ap (λ v. done ++ (v ++ later)) (sym e) in
      let front : take (length done + put.0) (forms (waiting r0)) ≡ done ++ take put.0 bytes =
      ap (take (length done + put.0)) all ∙ take-append-add done (bytes ++ later) put.0 ∙ ap (λ v. done ++ v) (take-append-le put.0 bytes later (omega (arith, put.1))) in
      (length done + put.0, appends-more held held' held'' done (take put.0 bytes) (take (length done + put.0) (forms (waiting r0))) front h.written put.2)

  -- all were written
  pub puts-all : (held held' : Option (List ℕ)) (r0 r : Recoder P) (a0 a : Account) → Puts held held' r0 r a0 a → waiting r ≡ []
      → Appends held held' (forms (waiting r0)) × ((first : P) (fed : List ℕ) (drained : List Written) → HasRecoded tried step first r0 fed drained → HasRecoded tried step first r fed (drained ++ waiting r0)) × Notes a0 a (waiting r0)
  puts-all held held' r0 r a0 a h none =
      let all : waiting r0 ≡ h.done = h.waits ∙ ap (λ v. h.done ++ v) none ∙ append-nil h.done in
      let Q : List Written → Type 0 = λ v. Appends held held' (forms v) × ((first : P) (fed : List ℕ) (drained : List Written) → HasRecoded tried step first r0 fed drained → HasRecoded tried step first r fed (drained ++ v)) × Notes a0 a v in
      subst Q (sym all) (h.written, h.recodes, h.counted)
