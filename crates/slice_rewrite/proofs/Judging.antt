-- There is one verdict at most, and what is decided stays decided while bytes come in.
use Rattle.std.proofs.Common.{◌≡◌, ◌⊎◌, inl, inr, ℕ, suc, ◌+◌, List, [], ◌∷◌, ◌++◌, length, Option, Some, None, option_map, refl, sym, ap, subst, ◌∙◌, arith}
use Rattle.h264_types.specs.declared.fault.Why.{Why}
use Rattle.h264_types.specs.declared.fault.Case.{Case}
use Rattle.h264_types.specs.declared.fault.Stopped.{Stopped}
use Rattle.h264_types.specs.declared.fault.Stopped.TheVariants.{Stop as StopAt, Outside as OutsideAt, Memory as NoMemory}
use Rattle.h264_types.specs.declared.fault.Place.{Place}
use Rattle.h264_types.specs.Units.{Seen, Stays, seen}
use Rattle.h264_types.proofs.Stays.{seen-stays}
use Rattle.slice_rewrite.specs.Options.{Options}
use Rattle.slice_rewrite.specs.Items.{Item, behind, sets_behind, IsItem}
use Rattle.slice_rewrite.specs.Verdict.{unit_number, Refuses, stop_of, Judges, Recodes}
use Rattle.slice_rewrite.proofs.Reasons.{not-refused, refused-once, same-item, decided, in_range-behind, in_range-none}
use Rattle.slice_rewrite.proofs.Slices.{AreInRange}

-- ## One verdict

same_stop : (o : Options) (before : List Item) (u : List ℕ) (i j : Item) (a b : Option (Case × ℕ)) → IsItem o.to o.init (sets_behind before) u i → IsItem o.to o.init (sets_behind before) u j → stop_of o before i ≡ a → stop_of o before j ≡ b → a ≡ b
same_stop o before u i j a b is js e f = sym e ∙ ap (stop_of o before) (same-item o.to o.to o.init (sets_behind before) u i j is js) ∙ f

pub one-verdict : (o : Options) (before : List Item) (us : List (List ℕ)) (fault : Option Why) (is js : List Item) (v w : Option Stopped) →
    Judges o before us fault is v → Judges o before us fault js w → (is ≡ js) × (v ≡ w)
one-verdict o before [] fault [] [] v w a b = (refl, a ∙ sym b)
one-verdict o before [] fault (i ∷ is) js v w a b = absurd a
one-verdict o before [] fault [] (j ∷ js) v w a b = absurd b
one-verdict o before (u ∷ us) fault (i ∷ is) (j ∷ js) v w a b =
    let e = same-item o.to o.to o.init (sets_behind before) u i j a.0 b.0 in
    let P : Item → Type 0 = λ k. Judges o (k ∷ before) us fault is v in
    let later = one-verdict o (j ∷ before) us fault is js v w (subst P e a.2) b.2 in
    (ap (λ k. k ∷ is) e ∙ ap (λ k. j ∷ k) later.0, later.1)
one-verdict o before (u ∷ us) fault (i ∷ is) [] v None a b = absurd b
one-verdict o before (u ∷ us) fault (i ∷ is) [] v (Some (OutsideAt m why)) a b = absurd (not-refused o.to o.init (sets_behind before) u i why a.0 b.1)
one-verdict o before (u ∷ us) fault (i ∷ is) [] v (Some (StopAt case place)) a b =
    absurd (let e = same_stop o before u i b.1.0 None (Some (case, place.mb)) a.0 b.1.1 a.1 b.1.2 in cc)
one-verdict o before (u ∷ us) fault (i ∷ is) [] v (Some NoMemory) a b = absurd b
one-verdict o before (u ∷ us) fault [] (j ∷ js) None w a b = absurd a
one-verdict o before (u ∷ us) fault [] (j ∷ js) (Some (OutsideAt m why)) w a b = absurd (not-refused o.to o.init (sets_behind before) u j why b.0 a.1)
one-verdict o before (u ∷ us) fault [] (j ∷ js) (Some (StopAt case place)) w a b =
    absurd (let e = same_stop o before u j a.1.0 None (Some (case, place.mb)) b.0 a.1.1 b.1 a.1.2 in cc)
one-verdict o before (u ∷ us) fault [] (j ∷ js) (Some NoMemory) w a b = absurd a
one-verdict o before (u ∷ us) fault [] [] None w a b = absurd a
one-verdict o before (u ∷ us) fault [] [] (Some NoMemory) w a b = absurd a
one-verdict o before (u ∷ us) fault [] [] (Some (OutsideAt m v)) None a b = absurd b
one-verdict o before (u ∷ us) fault [] [] (Some (OutsideAt m v)) (Some NoMemory) a b = absurd b
one-verdict o before (u ∷ us) fault [] [] (Some (OutsideAt m v)) (Some (OutsideAt k w)) a b =
    (refl, ap (λ x. Some (OutsideAt x v)) (a.0 ∙ sym b.0) ∙ ap (λ x. Some (OutsideAt k x)) (refused-once o.to o.init (sets_behind before) u v w a.1 b.1))
one-verdict o before (u ∷ us) fault [] [] (Some (OutsideAt m v)) (Some (StopAt case place)) a b = absurd (not-refused o.to o.init (sets_behind before) u b.1.0 v b.1.1 a.1)
one-verdict o before (u ∷ us) fault [] [] (Some (StopAt case place)) None a b = absurd b
one-verdict o before (u ∷ us) fault [] [] (Some (StopAt case place)) (Some NoMemory) a b = absurd b
one-verdict o before (u ∷ us) fault [] [] (Some (StopAt case place)) (Some (OutsideAt k w)) a b = absurd (not-refused o.to o.init (sets_behind before) u a.1.0 w a.1.1 b.1)
one-verdict o before (u ∷ us) fault [] [] (Some (StopAt case place)) (Some (StopAt other there)) a b =
    let e = same_stop o before u a.1.0 b.1.0 (Some (case, place.mb)) (Some (other, there.mb)) a.1.1 b.1.1 a.1.2 b.1.2 in
    let pair : Case × ℕ = (case, place.mb) in
    let other_pair : Case × ℕ = (other, there.mb) in
    let same_pair : pair ≡ other_pair = cc in
    let same_case : case ≡ other = ap (λ p. p.0) same_pair in
    let same_mb : place.mb ≡ there.mb = ap (λ p. p.1) same_pair in
    let same_place : place ≡ there = ap (λ x. let p : Place = record { unit = x; mb = place.mb } in p) (a.0 ∙ sym b.0) ∙ ap (λ x. let p : Place = record { unit = there.unit; mb = x } in p) same_mb in
    (refl, ap (λ x. Some (StopAt x place)) same_case ∙ ap (λ x. Some (StopAt other x)) same_place)

-- ## More units

verdict-kept : (o : Options) (before : List Item) (us more : List (List ℕ)) (fault : Option Why) (items : List Item) (v : Stopped) →
    Judges o before us None items (Some v) → Judges o before (us ++ more) fault items (Some v)
verdict-kept o before [] more fault [] v h = absurd (let e : Some v ≡ None = h in cc)
verdict-kept o before [] more fault (i ∷ items) v h = absurd h
verdict-kept o before (u ∷ us) more fault (i ∷ items) v h = (h.0, h.1, verdict-kept o (i ∷ before) us more fault items v h.2)
verdict-kept o before (u ∷ us) more fault [] (OutsideAt m why) h = h
verdict-kept o before (u ∷ us) more fault [] (StopAt case place) h = h
verdict-kept o before (u ∷ us) more fault [] NoMemory h = h

stays-by : (o : Options) (old new : Seen) (fault : Option Why) (items : List Item) (v : Stopped) → Stays old new → old.fault ≡ fault → Recodes o old items (Some v) → Recodes o new items (Some v)
stays-by o old new None items v stays e h =
    let P : Option Why → Type 0 = λ f. Judges o [] old.units f items (Some v) in
    let Q : List (List ℕ) → Type 0 = λ us. Judges o [] us new.fault items (Some v) in
    subst Q (sym stays.units.1) (verdict-kept o [] old.units stays.units.0 new.fault items v (subst P e h))
stays-by o old new (Some why) items v stays e h =
    let P : Seen → Type 0 = λ s. Recodes o s items (Some v) in subst P (sym (stays.fault why e)) h

-- a verdict stays, whatever follows
pub verdict-stays : (o : Options) (b c : List ℕ) (items : List Item) (v : Stopped) → Recodes o (seen b) items (Some v) → Recodes o (seen (b ++ c)) items (Some v)
verdict-stays o b c items v h = stays-by o (seen b) (seen (b ++ c)) (seen b).fault items v (seen-stays b c) refl h

length-behind : (items before : List Item) → length (behind items before) ≡ length items + length before
length-behind [] before = omega arith
length-behind (i ∷ items) before = length-behind items (i ∷ before) ∙ omega arith

pub length-judged : (o : Options) (before : List Item) (us : List (List ℕ)) (items : List Item) → Judges o before us None items None → length items ≡ length us
length-judged o before [] [] h = refl
length-judged o before [] (i ∷ items) h = absurd h
length-judged o before (u ∷ us) [] h = absurd h
length-judged o before (u ∷ us) (i ∷ items) h = ap suc (length-judged o (i ∷ before) us items h.2)

-- how many items stand before the unit behind these
pub length-behind_judged : (o : Options) (us : List (List ℕ)) (items : List Item) → Judges o [] us None items None → length (behind items []) ≡ length us
length-behind_judged o us items h = length-behind items [] ∙ omega (arith, length-judged o [] us items h)

-- units behind others that have no verdict
pub judges-more : (o : Options) (before : List Item) (us more : List (List ℕ)) (fault : Option Why) (items rest : List Item) (v : Option Stopped) →
    Judges o before us None items None → Judges o (behind items before) more fault rest v → Judges o before (us ++ more) fault (items ++ rest) v
judges-more o before [] more fault [] rest v h k = k
judges-more o before [] more fault (i ∷ items) rest v h k = absurd h
judges-more o before (u ∷ us) more fault [] rest v h k = absurd h
judges-more o before (u ∷ us) more fault (i ∷ items) rest v h k = (h.0, h.1, judges-more o (i ∷ before) us more fault items rest v h.2 k)

-- the items before the verdict begin with those of any units before
pub front-items : (o : Options) (before : List Item) (us more : List (List ℕ)) (fault : Option Why) (is js : List Item) (v : Option Stopped) →
    Judges o before us None is None → Judges o before (us ++ more) fault js v → (rest : List Item) × (js ≡ is ++ rest)
front-items o before [] more fault [] js v h k = (js, refl)
front-items o before [] more fault (i ∷ is) js v h k = absurd h
front-items o before (u ∷ us) more fault [] js v h k = absurd h
front-items o before (u ∷ us) more fault (i ∷ is) [] None h k = absurd k
front-items o before (u ∷ us) more fault (i ∷ is) [] (Some NoMemory) h k = absurd k
front-items o before (u ∷ us) more fault (i ∷ is) [] (Some (OutsideAt m why)) h k = absurd (not-refused o.to o.init (sets_behind before) u i why h.0 k.1)
front-items o before (u ∷ us) more fault (i ∷ is) [] (Some (StopAt case place)) h k =
    absurd (let e = same_stop o before u i k.1.0 None (Some (case, place.mb)) h.0 k.1.1 h.1 k.1.2 in cc)
front-items o before (u ∷ us) more fault (i ∷ is) (j ∷ js) v h k =
    let e = same-item o.to o.to o.init (sets_behind before) u i j h.0 k.0 in
    let P : Item → Type 0 = λ x. Judges o (x ∷ before) us None is None in
    let later = front-items o (j ∷ before) us more fault is js v (subst P e h.2) k.2 in
    (later.0, ap (λ w. w ∷ js) (sym e) ∙ ap (λ w. i ∷ w) later.1)

pub no-fault : (o : Options) (before : List Item) (us : List (List ℕ)) (fault : Option Why) (items : List Item) → Judges o before us fault items None → fault ≡ None
no-fault o before [] None [] h = refl
no-fault o before [] (Some why) [] h = absurd (let e : None ≡ Some (OutsideAt (unit_number (length before)) why) = h in cc)
no-fault o before [] fault (i ∷ items) h = absurd h
no-fault o before (u ∷ us) fault [] h = absurd h
no-fault o before (u ∷ us) fault (i ∷ items) h = no-fault o (i ∷ before) us fault items h.2

-- where no fault stands behind the units, none does
pub faultless : (o : Options) (s : Seen) (items : List Item) → Recodes o s items None → Judges o [] s.units None items None
faultless o s items h = let P : Option Why → Type 0 = λ f. Judges o [] s.units f items None in subst P (no-fault o [] s.units s.fault items h) h

-- ## All that is seen is judged

judged-each : (o : Options) (before : List Item) (us : List (List ℕ)) (fault : Option Why) → AreInRange (sets_behind before) → (items : List Item) × (verdict : Option Stopped) × Judges o before us fault items verdict
judged-each o before [] fault range = ([], option_map (OutsideAt (unit_number (length before))) fault, refl)
judged-each o before (u ∷ us) fault range =
    by (decided o.to o.init (sets_behind before) u range) (λ i is. judged-each o (i ∷ before) us fault (in_range-behind o.to o.init (sets_behind before) u i is range))
  where
    by : ((i : Item) × IsItem o.to o.init (sets_behind before) u i) ⊎ ((why : Why) × Refuses o.to o.init (sets_behind before) u why)
        → ((i : Item) → IsItem o.to o.init (sets_behind before) u i → (items : List Item) × (verdict : Option Stopped) × Judges o (i ∷ before) us fault items verdict)
        → (items : List Item) × (verdict : Option Stopped) × Judges o before (u ∷ us) fault items verdict
    by (inr r) later = ([], Some (OutsideAt (unit_number (length before)) r.0), (refl, r.1))
    by (inl r) later = on (stop_of o before r.0) refl
      where
        on : (stop : Option (Case × ℕ)) → stop_of o before r.0 ≡ stop → (items : List Item) × (verdict : Option Stopped) × Judges o before (u ∷ us) fault items verdict
        on None e = let rest = later r.0 r.1 in (r.0 ∷ rest.0, rest.1, (r.1, e, rest.2))
        on (Some stop) e = ([], Some (StopAt stop.0 record { unit = unit_number (length before); mb = stop.1 }), (refl, (r.0, r.1, e)))

pub judged-all : (o : Options) (us : List (List ℕ)) (fault : Option Why) → (items : List Item) × (verdict : Option Stopped) × Judges o [] us fault items verdict
judged-all o us fault = judged-each o [] us fault in_range-none
