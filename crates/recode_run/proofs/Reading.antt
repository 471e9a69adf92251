-- A run, turn by turn.
use Rattle.std.proofs.Common.{◌≡◌, ◌⊎◌, ◌∙◌, sym, ap, subst, refl, inl, inr, ℕ, ◌+◌, ◌≤◌, List, [], ◌∷◌, ◌++◌, length, map, append_assoc, append-nil, length-append, arith}
use Rattle.std.specs.Prelude.{Option, Some, None}
use Rattle.std.proofs.lemmas.List.{map-append}
use Rattle.std.specs.Io.KnownBytes.{Appends, Consumes, Keeps, IsAtEnd}
use Rattle.h264_types.specs.declared.fault.Why.{Why}
use Rattle.h264_types.specs.declared.fault.Stopped.{Stopped}
use Rattle.h264_types.specs.declared.fault.Stopped.TheVariants.{Stop as StopAt, Outside as OutsideAt}
use Rattle.h264_types.specs.Units.{Seen, seen, seen_whole}
use Rattle.unit_io.proofs.Known.{appends-more, appends-same}
use Rattle.stream_taps.specs.declared.event.Event.{Event}
use Rattle.slice_rewrite.specs.Options.{Options}
use Rattle.slice_rewrite.specs.declared.pick.Tries.{Tries}
use Rattle.recode_run.specs.declared.account.Account.{Account}
use Rattle.stream_recoder.specs.declared.recoder.Recoder.{Recoder}
use Rattle.recode_run.specs.declared.status.Status.{Status}
use Rattle.recode_run.specs.declared.status.Status.TheVariants.{Ok as Done, BadWords, ReadFault, WriteFault, Stop, Outside, TooMuch, Memory, ReportFault, BadTable}
use Rattle.recode_run.specs.Account.{account_of}
use Rattle.slice_rewrite.specs.Items.{Item}
use Rattle.slice_rewrite.specs.Verdict.{Judges, Recodes}
use Rattle.stream_recoder.specs.Written.{Written, AreWritten, forms}
use Rattle.slice_rewrite.specs.Written.{IsOutput}
use Rattle.stream_recoder.specs.Recoder.{waiting}
use Rattle.recode_run.specs.Pieces.{IsReady, PutsPart, PutsAll, PieceEnds, PieceDone}
use Rattle.recode_run.specs.Run.{Gains, IsPartlyWritten, EndsEarly, RunEnds}
use Rattle.stream_recoder.proofs.Outputs.{output_is, forms-append}

-- ## Bytes consumed

pub consumes-more : (a b c : Option (List ℕ)) (xs ys : List ℕ) → Consumes a b xs → Consumes b c ys → Consumes a c (xs ++ ys)
consumes-more None b c xs ys h k = tt
consumes-more (Some as0) None c xs ys h k = absurd h
consumes-more (Some as0) (Some bs0) None xs ys h k = absurd k
consumes-more (Some as0) (Some bs0) (Some cs0) xs ys h k = h ∙ ap (λ v. xs ++ v) k ∙ sym (append_assoc xs ys cs0)

consumes-same : (a : Option (List ℕ)) → Consumes a a []
consumes-same None = tt
consumes-same (Some xs) = refl

pub consumes-at : (a b : Option (List ℕ)) (xs ys : List ℕ) → xs ≡ ys → Consumes a b xs → Consumes a b ys
consumes-at a b xs ys e h = let P : List ℕ → Type 0 = Consumes a b in subst P e h

consumes-keeps : (a b c : Option (List ℕ)) (xs : List ℕ) → Consumes a b xs → Keeps b c → Consumes a c xs
consumes-keeps None b c xs h k = tt
consumes-keeps (Some as0) None c xs h k = absurd h
consumes-keeps (Some as0) (Some bs0) None xs h k = absurd k
consumes-keeps (Some as0) (Some bs0) (Some cs0) xs h k = h ∙ ap (λ v. xs ++ v) (sym k)

pub appends-at : (a b : Option (List ℕ)) (xs ys : List ℕ) → xs ≡ ys → Appends a b xs → Appends a b ys
appends-at a b xs ys e h = let P : List ℕ → Type 0 = Appends a b in subst P e h

-- ## What a recoder that is ready stands for

pub record IsRead (o : Options) (fed : List ℕ) (written : List Written) : Type 0 where
  pub items : List Item
  pub judged : Recodes o (seen fed) items None
  pub are : AreWritten o [] (seen fed).units items written

pub read-ready : {P : Type 0} (tried : P → Tries) (step : P → List ℕ → ℕ → P → Type 0) (r : Recoder P) (o : Options) (fed : List ℕ) (written : List Written) → IsReady tried step r o fed written → IsRead o fed written
read-ready tried step r o fed written h =
    let k = h.recodes in
    let F : Option Why → Type 0 = λ f. Judges o [] (seen fed).units f k.items None in
    let J : Options → Type 0 = λ p. Judges p [] (seen fed).units None k.items None in
    let W : Options → Type 0 = λ p. AreWritten p [] (seen fed).units k.items (written ++ waiting r) in
    let A : List Written → Type 0 = λ v. AreWritten o [] (seen fed).units k.items v in
    record {
      items = k.items;
      judged = subst F (sym k.sound) (subst J h.options k.holds.judged);
      are = subst A (ap (λ v. written ++ v) h.none ∙ append-nil written) (subst W h.options k.holds.written);
    }

-- what was put is what is written for these units
gains : (o : Options) (us : List (List ℕ)) (items : List Item) (held held' : Option (List ℕ)) (written : List Written) → AreWritten o [] us items written → Appends held held' (forms written) → Gains o us items held held'
gains o us items held held' written are put = (forms written, output_is o us items written are, put)

-- ## How a piece ends a run

-- some of what is written for a piece was put, behind all before it
part-put : (o : Options) (bound : ℕ) (left left' held held1 held2 : Option (List ℕ)) (fed last : List ℕ) (written : List Written) (all : Seen) → IsRead o fed written → Consumes left left' (fed ++ last) → length last ≤ 65536 → length (fed ++ last) ≤ bound
    → (all ≡ seen (fed ++ last)) ⊎ ((all ≡ seen_whole (fed ++ last)) × IsAtEnd left') → Appends held held1 (forms written) → PutsPart o held1 held2 written all → IsPartlyWritten o bound left left' held held2
part-put o bound left left' held held1 held2 fed last written all read consumed short within which put x =
    let early : List ℕ = forms written in
    let whole : forms (written ++ x.0) ≡ (early ++ x.1) ++ x.2 = forms-append written x.0 ∙ ap (λ v. early ++ v) x.5 ∙ sym (append_assoc early x.1 x.2) in
    let Q : List ℕ → Type 0 = IsOutput o x.3.0 x.3.2 in
    record {
      given = fed;
      last = last;
      over = [];
      consumed = consumes-at left left' (fed ++ last) ((fed ++ last) ++ []) (sym (append-nil (fed ++ last))) consumed;
      short = omega (arith, short);
      within = within;
      over_is = inl refl;
      items = read.items;
      judged = read.judged;
      all = all;
      which = which_of which;
      units = x.3.0;
      later = x.3.1;
      first = x.3.3;
      read = x.3.2;
      read_is = x.3.4;
      early = early;
      early_is = output_is o (seen fed).units read.items written read.are;
      more = x.1;
      rest = x.2;
      appended = appends-more held held1 held2 early x.1 (early ++ x.1) refl put x.4;
      written = subst Q whole (output_is o x.3.0 x.3.2 (written ++ x.0) x.3.5);
    }
  where
    none : List ℕ
    none = []

    which_of : (all ≡ seen (fed ++ last)) ⊎ ((all ≡ seen_whole (fed ++ last)) × IsAtEnd left') → (all ≡ seen (fed ++ last)) ⊎ ((all ≡ seen_whole (fed ++ last)) × (none ≡ []) × IsAtEnd left')
    which_of (inl e) = inl e
    which_of (inr e) = inr (e.0, refl, e.1)

-- all before the verdict was put
ends_early : (o : Options) (bound : ℕ) (left left' held held1 held2 : Option (List ℕ)) (fed last : List ℕ) (written : List Written) (all : Seen) (stopped : Stopped) → IsRead o fed written → Consumes left left' (fed ++ last) → length last ≤ 65536 → length (fed ++ last) ≤ bound
    → (all ≡ seen (fed ++ last)) ⊎ ((all ≡ seen_whole (fed ++ last)) × IsAtEnd left') → Appends held held1 (forms written) → PutsAll o held1 held2 written all stopped → EndsEarly o bound left left' held held2 stopped
ends_early o bound left left' held held1 held2 fed last written all stopped read consumed short within which put x = record {
  given = fed;
  last = last;
  consumed = consumed;
  short = short;
  within = within;
  items = read.items;
  judged = read.judged;
  all = all;
  which = which;
  read = x.1;
  ends = x.2;
  written = gains o all.units x.1 held held2 (written ++ x.0) x.3 (appends-more held held1 held2 (forms written) (forms x.0) (forms (written ++ x.0)) (forms-append written x.0) put x.4);
}

-- a piece, or the end of the input, ended the run
piece_ends : (o : Options) (bound : ℕ) (left left' held held1 held2 : Option (List ℕ)) (account : Account) (fed last : List ℕ) (written : List Written) (all : Seen) (status : Status) → IsRead o fed written → Consumes left left' (fed ++ last) → length last ≤ 65536 → length (fed ++ last) ≤ bound
    → (all ≡ seen (fed ++ last)) ⊎ ((all ≡ seen_whole (fed ++ last)) × IsAtEnd left') → Appends held held1 (forms written) → PieceEnds o held1 held2 written all status → RunEnds o bound left left' held held2 account status
piece_ends o bound left left' held held1 held2 account fed last written all (Outside unit why) read consumed short within which put x =
    ends_early o bound left left' held held1 held2 fed last written all (OutsideAt unit why) read consumed short within which put x
piece_ends o bound left left' held held1 held2 account fed last written all (Stop case place) read consumed short within which put x =
    ends_early o bound left left' held held1 held2 fed last written all (StopAt case place) read consumed short within which put x
piece_ends o bound left left' held held1 held2 account fed last written all WriteFault read consumed short within which put x =
    part-put o bound left left' held held1 held2 fed last written all read consumed short within which put x
piece_ends o bound left left' held held1 held2 account fed last written all Memory read consumed short within which put x =
    part-put o bound left left' held held1 held2 fed last written all read consumed short within which put x
piece_ends o bound left left' held held1 held2 account fed last written all Done read consumed short within which put x = absurd x
piece_ends o bound left left' held held1 held2 account fed last written all ReadFault read consumed short within which put x = absurd x
piece_ends o bound left left' held held1 held2 account fed last written all TooMuch read consumed short within which put x = absurd x
piece_ends o bound left left' held held1 held2 account fed last written all BadWords read consumed short within which put x = absurd x
piece_ends o bound left left' held held1 held2 account fed last written all ReportFault read consumed short within which put x = absurd x
piece_ends o bound left left' held held1 held2 account fed last written all (BadTable at) read consumed short within which put x = absurd x

-- ## The turns

module _ {P : Type 0} (tried : P → Tries) (step : P → List ℕ → ℕ → P → Type 0) where
  -- some bytes were read and fed, and what is written for their units was put and counted
  pub record Reads (o : Options) (left left' held held' : Option (List ℕ)) (r : Recoder P) (account : Account) (taken : ℕ) : Type 0 where
    pub fed : List ℕ
    pub written : List Written
    pub ready : IsReady tried step r o fed written
    pub consumed : Consumes left left' fed
    pub put : Appends held held' (forms written)
    pub counted : account ≡ account_of (length fed) (map (λ w. w.event) written)
    pub count : taken ≡ length fed

  pub reads-none : (o : Options) (left held : Option (List ℕ)) (r : Recoder P) (account : Account) → IsReady tried step r o [] [] → account ≡ account_of 0 [] → Reads o left left held held r account 0
  reads-none o left held r account h e = record { fed = []; written = []; ready = h; consumed = consumes-same left; put = appends-same held; counted = e; count = refl }

  pub reads-more : (o : Options) (left left1 left2 held held1 held2 : Option (List ℕ)) (r r' : Recoder P) (account between account' : Account) (taken n : ℕ) (piece : List ℕ) → Reads o left left1 held held1 r account taken → Consumes left1 left2 piece → n ≡ length piece
      → ((read : ℕ) (events : List Event) → account ≡ account_of read events → between ≡ account_of (read + n) events) → PieceDone tried step o r r' held1 held2 between account' piece
      → Reads o left left2 held held2 r' account' (taken + n)
  reads-more o left left1 left2 held held1 held2 r r' account between account' taken n piece h k e counted go =
      let next = go h.fed h.written h.ready in
      let events = map (λ (w : Written). w.event) h.written in
      let sum : length h.fed + n ≡ length (h.fed ++ piece) = omega (arith, e, length-append h.fed piece) in
      let read : between ≡ account_of (length (h.fed ++ piece)) events = counted (length h.fed) events h.counted ∙ ap (λ m. account_of m events) sum in
      record {
        fed = h.fed ++ piece;
        written = h.written ++ next.0;
        ready = next.1;
        consumed = consumes-more left left1 left2 h.fed piece h.consumed k;
        put = appends-more held held1 held2 (forms h.written) (forms next.0) (forms (h.written ++ next.0)) (forms-append h.written next.0) h.put next.2;
        counted = next.3 (length (h.fed ++ piece)) events read ∙ ap (account_of (length (h.fed ++ piece))) (sym (map-append (λ w. w.event) h.written next.0));
        count = omega (arith, h.count, e, length-append h.fed piece);
      }

  pub read_fault : (o : Options) (left left1 left2 held held1 : Option (List ℕ)) (r : Recoder P) (account : Account) (taken bound : ℕ) → Reads o left left1 held held1 r account taken → taken ≤ bound → Keeps left1 left2 → RunEnds o bound left left2 held held1 account ReadFault
  read_fault o left left1 left2 held held1 r account taken bound h le k =
      let read = read-ready tried step r o h.fed h.written h.ready in
      (h.fed, read.items, consumes-keeps left left1 left2 h.fed h.consumed k, omega (arith, h.count), read.judged, gains o (seen h.fed).units read.items held held1 h.written read.are h.put)

  pub too_much : (o : Options) (left left1 left2 held held1 : Option (List ℕ)) (r : Recoder P) (account : Account) (taken bound : ℕ) (piece : List ℕ) → Reads o left left1 held held1 r account taken → taken ≡ bound → Consumes left1 left2 piece → length piece ≡ 1
      → RunEnds o bound left left2 held held1 account TooMuch
  too_much o left left1 left2 held held1 r account taken bound piece h e k one =
      let read = read-ready tried step r o h.fed h.written h.ready in
      (h.fed, piece, read.items, consumes-more left left1 left2 h.fed piece h.consumed k, sym h.count ∙ e, one, read.judged, gains o (seen h.fed).units read.items held held1 h.written read.are h.put)

  -- a piece ended the run
  pub step_ends : (o : Options) (left left1 left2 held held1 held2 : Option (List ℕ)) (r : Recoder P) (account account' : Account) (taken n bound : ℕ) (piece : List ℕ) (status : Status) → Reads o left left1 held held1 r account taken → Consumes left1 left2 piece → n ≡ length piece → n ≤ 65536
      → taken + n ≤ bound → ((fed : List ℕ) (written : List Written) → IsReady tried step r o fed written → PieceEnds o held1 held2 written (seen (fed ++ piece)) status) → RunEnds o bound left left2 held held2 account' status
  step_ends o left left1 left2 held held1 held2 r account account' taken n bound piece status h k e short le go =
      piece_ends o bound left left2 held held1 held2 account' h.fed piece h.written (seen (h.fed ++ piece)) status (read-ready tried step r o h.fed h.written h.ready) (consumes-more left left1 left2 h.fed piece h.consumed k) (omega (arith, e))
      (omega (arith, h.count, e, length-append h.fed piece)) (inl refl) h.put (go h.fed h.written h.ready)

  -- the end of the input ended the run
  pub finish_ends : (o : Options) (left left1 left2 held held1 held2 : Option (List ℕ)) (r : Recoder P) (account account' : Account) (taken bound : ℕ) (status : Status) → Reads o left left1 held held1 r account taken → taken ≤ bound → Consumes left1 left2 [] → IsAtEnd left2
      → ((fed : List ℕ) (written : List Written) → IsReady tried step r o fed written → PieceEnds o held1 held2 written (seen (fed ++ 0 ∷ 0 ∷ 0 ∷ [])) status) → RunEnds o bound left left2 held held2 account' status
  unfolding seen_whole
  finish_ends o left left1 left2 held held1 held2 r account account' taken bound status h le k end go =
      piece_ends o bound left left2 held held1 held2 account' h.fed [] h.written (seen (h.fed ++ 0 ∷ 0 ∷ 0 ∷ [])) status (read-ready tried step r o h.fed h.written h.ready) (consumes-more left left1 left2 h.fed [] h.consumed k) (omega arith)
      (omega (arith, h.count, ap length (append-nil h.fed))) (inr (ap (λ v. seen (v ++ 0 ∷ 0 ∷ 0 ∷ [])) (sym (append-nil h.fed)), end)) h.put (go h.fed h.written h.ready)

  pub finished : (o : Options) (left left1 left2 held held1 held2 : Option (List ℕ)) (r r' : Recoder P) (account account' : Account) (taken bound : ℕ) → Reads o left left1 held held1 r account taken → taken ≤ bound → Consumes left1 left2 [] → IsAtEnd left2
      → PieceDone tried step o r r' held1 held2 account account' (0 ∷ 0 ∷ 0 ∷ []) → RunEnds o bound left left2 held held2 account' Done
  unfolding seen_whole
  finished o left left1 left2 held held1 held2 r r' account account' taken bound h le k end go =
      let next = go h.fed h.written h.ready in
      let all : List Written = h.written ++ next.0 in
      let read = read-ready tried step r' o (h.fed ++ 0 ∷ 0 ∷ 0 ∷ []) all next.1 in
      let events = map (λ (w : Written). w.event) h.written in (
        h.fed,
        read.items,
        consumes-at left left2 (h.fed ++ []) h.fed (append-nil h.fed) (consumes-more left left1 left2 h.fed [] h.consumed k),
        end,
        omega (arith, h.count),
        read.judged,
        (
          all,
          read.are,
          appends-more held held1 held2 (forms h.written) (forms next.0) (forms all) (forms-append h.written next.0) h.put next.2,
          next.3 (length h.fed) events h.counted ∙ ap (account_of (length h.fed)) (sym (map-append (λ w. w.event) h.written next.0)),
        ),
      )

-- a piece ends the run by no read fault
pub no_read_fault : {A : Type 0} → (o : Options) (held held' : Option (List ℕ)) (written : List Written) (s : Seen) (status : Status) → PieceEnds o held held' written s status → status ≡ ReadFault → A
no_read_fault o held held' written s (Outside unit why) x e = absurd (cc)
no_read_fault o held held' written s (Stop case place) x e = absurd (cc)
no_read_fault o held held' written s WriteFault x e = absurd (cc)
no_read_fault o held held' written s Memory x e = absurd (cc)
no_read_fault o held held' written s Done x e = absurd x
no_read_fault o held held' written s ReadFault x e = absurd x
no_read_fault o held held' written s TooMuch x e = absurd x
no_read_fault o held held' written s BadWords x e = absurd x
no_read_fault o held held' written s ReportFault x e = absurd x
no_read_fault o held held' written s (BadTable at) x e = absurd x
