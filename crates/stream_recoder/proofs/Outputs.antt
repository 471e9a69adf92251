-- What is written stays while bytes come in.
use Rattle.std.proofs.Common.{◌≡◌, ℕ, List, [], ◌∷◌, ◌++◌, length, map, Option, Some, None, option_map, refl, sym, ap, subst, ◌∙◌, append-nil}
use Rattle.std.specs.List.{concat}
use Rattle.std.proofs.lemmas.List.{map-append}
use Rattle.std.proofs.lemmas.List.Folds.{concat-append}
use Rattle.h264_types.specs.declared.fault.Why.{Why}
use Rattle.h264_types.specs.declared.fault.Stopped.{Stopped}
use Rattle.h264_types.specs.declared.fault.Stopped.TheVariants.{Stop as StopAt, Outside as OutsideAt, Memory as NoMemory}
use Rattle.h264_types.specs.Units.{Seen, Stays, seen}
use Rattle.h264_types.proofs.Stays.{seen-stays}
use Rattle.slice_rewrite.specs.Options.{Options}
use Rattle.slice_rewrite.specs.Items.{Item, behind}
use Rattle.slice_rewrite.specs.Verdict.{unit_number, Judges, Recodes}
use Rattle.slice_rewrite.specs.Written.{AreForms, IsOutput}
use Rattle.slice_rewrite.proofs.Judging.{one-verdict, verdict-stays}
use Rattle.slice_rewrite.specs.declared.pick.Tries.{Tries}
use Rattle.stream_recoder.specs.Written.{Written, AreWritten, GoesAlong, GoesOn, forms}

forms_are : (o : Options) (before : List Item) (us : List (List ℕ)) (items : List Item) (written : List Written) → AreWritten o before us items written → AreForms o before us items (map (λ w. w.form) written)
forms_are o before [] items written h = ap (map (λ w. w.form)) h
forms_are o before (u ∷ us) [] written h = ap (map (λ w. w.form)) h
forms_are o before (u ∷ us) (i ∷ items) [] h = h
forms_are o before (u ∷ us) (i ∷ items) (w ∷ written) h = (h.0.form, forms_are o (i ∷ before) us items written h.1)

-- all that is written, unit by unit
pub output_is : (o : Options) (us : List (List ℕ)) (items : List Item) (written : List Written) → AreWritten o [] us items written → IsOutput o us items (forms written)
output_is o us items written h = (map (λ w. w.form) written, forms_are o [] us items written h, refl)

pub forms-append : (xs ys : List Written) → forms (xs ++ ys) ≡ forms xs ++ forms ys
forms-append xs ys = ap concat (map-append (λ w. w.form) xs ys) ∙ concat-append (map (λ w. w.form) xs) (map (λ w. w.form) ys)

-- ## More units

-- what is written up to a verdict stays
forms-kept : (o : Options) (before : List Item) (us more : List (List ℕ)) (fault : Option Why) (items : List Item) (v : Stopped) (all : List (List ℕ)) → Judges o before us fault items (Some v) → (fault ≡ None) → AreForms o before us items all → AreForms o before (us ++ more) items all
forms-kept o before [] more fault [] v all h e k = absurd (let f : Some v ≡ None = h ∙ ap (option_map (OutsideAt (unit_number (length before)))) e in cc)
forms-kept o before [] more fault (i ∷ items) v all h e k = absurd h
forms-kept o before (u ∷ us) more fault [] v all h e k = k
forms-kept o before (u ∷ us) more fault (i ∷ items) v [] h e k = k
forms-kept o before (u ∷ us) more fault (i ∷ items) v (form ∷ all) h e k = (k.0, forms-kept o (i ∷ before) us more fault items v all h.2 e k.1)

same-by : (o : Options) (old new : Seen) (fault : Option Why) (items : List Item) (v : Stopped) (bytes : List ℕ) → Stays old new → old.fault ≡ fault → Recodes o old items (Some v) → IsOutput o old.units items bytes → IsOutput o new.units items bytes
same-by o old new None items v bytes stays e h k =
    let P : List (List ℕ) → Type 0 = λ us. IsOutput o us items bytes in
    subst P (sym stays.units.1) (k.0, forms-kept o [] old.units stays.units.0 old.fault items v k.0 h e k.1, k.2)
same-by o old new (Some why) items v bytes stays e h k =
    let P : Seen → Type 0 = λ s. IsOutput o s.units items bytes in
    subst P (sym (stays.fault why e)) k

pub output-same : (o : Options) (b c : List ℕ) (items : List Item) (v : Stopped) (bytes : List ℕ) → Recodes o (seen b) items (Some v) → IsOutput o (seen b).units items bytes → IsOutput o (seen (b ++ c)).units items bytes
output-same o b c items v bytes h k = same-by o (seen b) (seen (b ++ c)) (seen b).fault items v bytes (seen-stays b c) refl h k

-- behind what is written for units without a verdict stands what is written for more
pub written-more : (o : Options) (before : List Item) (us more : List (List ℕ)) (is rest : List Item) (written others : List Written) → Judges o before us None is None → AreWritten o before us is written
    → AreWritten o (behind is before) more rest others → AreWritten o before (us ++ more) (is ++ rest) (written ++ others)
written-more o before [] more [] rest [] others h k l = l
written-more o before [] more [] rest (w ∷ written) others h k l = absurd (let e : w ∷ written ≡ [] = k in cc)
written-more o before [] more (i ∷ is) rest written others h k l = absurd h
written-more o before (u ∷ us) more [] rest written others h k l = absurd h
written-more o before (u ∷ us) more (i ∷ is) rest [] others h k l = absurd k
written-more o before (u ∷ us) more (i ∷ is) rest (w ∷ written) others h k l = (k.0, written-more o (i ∷ before) us more is rest written others h.2 k.1 l)

-- the pick goes on with one unit more
pub goes-more : {P : Type 0} (tried : P → Tries) (step : P → List ℕ → ℕ → P → Type 0) (o : Options) (before is : List Item) (written : List Written) (i : Item) (w : Written) (old between new : P) → GoesAlong tried step o before is written old between
    → GoesOn tried step o (behind is before) i w.form between new → GoesAlong tried step o before (is ++ i ∷ []) (written ++ w ∷ []) old new
goes-more tried step o before [] [] i w old between new g n = let G : _ → Type 0 = λ p. GoesOn tried step o before i w.form p new in (new, subst G g n, refl)
goes-more tried step o before [] (x ∷ written) i w old between new g n = absurd g
goes-more tried step o before (j ∷ is) [] i w old between new g n = absurd g
goes-more tried step o before (j ∷ is) (x ∷ written) i w old between new g n = (g.0, g.1, goes-more tried step o (j ∷ before) is written i w g.0 between new g.2 n)

none_written : (o : Options) (before : List Item) (us : List (List ℕ)) (written : List Written) → written ≡ [] → AreWritten o before us [] written
none_written o before [] written e = e
none_written o before (u ∷ us) written e = e

-- where only the first units have items, only these are written
pub written-first : (o : Options) (before : List Item) (us more : List (List ℕ)) (items : List Item) (written : List Written) → Judges o before us None items None → AreWritten o before us items written → AreWritten o before (us ++ more) items written
written-first o before [] more [] written h k = none_written o before more written k
written-first o before [] more (i ∷ items) written h k = absurd h
written-first o before (u ∷ us) more [] written h k = absurd h
written-first o before (u ∷ us) more (i ∷ items) [] h k = k
written-first o before (u ∷ us) more (i ∷ items) (w ∷ written) h k = (k.0, written-first o (i ∷ before) us more items written h.2 k.1)

-- ## The first units

-- the units that have items, without the verdict behind them
pub judged-front : (o : Options) (before : List Item) (us : List (List ℕ)) (fault : Option Why) (items : List Item) (v : Option Stopped) → Judges o before us fault items v →
    (front : List (List ℕ)) × (later : List (List ℕ)) × (us ≡ front ++ later) × Judges o before front None items None × ((written : List Written) → AreWritten o before us items written → AreWritten o before front items written)
judged-front o before [] fault [] v h = ([], [], refl, refl, λ written k. k)
judged-front o before [] fault (i ∷ items) v h = absurd h
judged-front o before (u ∷ us) fault [] v h = ([], u ∷ us, refl, refl, λ written k. k)
judged-front o before (u ∷ us) fault (i ∷ items) v h =
    let r = judged-front o (i ∷ before) us fault items v h.2 in
    (u ∷ r.0, r.1, ap (λ x. u ∷ x) r.2, (h.0, h.1, r.3), first r.0 r.4)
  where
    first : (front : List (List ℕ)) → ((written : List Written) → AreWritten o (i ∷ before) us items written → AreWritten o (i ∷ before) front items written) → (written : List Written) → AreWritten o before (u ∷ us) (i ∷ items) written
        → AreWritten o before (u ∷ front) (i ∷ items) written
    first front are [] k = k
    first front are (w ∷ written) k = (k.0, are written k.1)

forms-first : (o : Options) (before : List Item) (us : List (List ℕ)) (fault : Option Why) (items : List Item) (v : Option Stopped) (all : List (List ℕ)) → Judges o before us fault items v → AreForms o before us items all →
    (front : List (List ℕ)) × (later : List (List ℕ)) × (us ≡ front ++ later) × Judges o before front None items None × AreForms o before front items all
forms-first o before [] fault [] v all h k = ([], [], refl, refl, k)
forms-first o before [] fault (i ∷ items) v all h k = absurd h
forms-first o before (u ∷ us) fault [] v all h k = ([], u ∷ us, refl, refl, k)
forms-first o before (u ∷ us) fault (i ∷ items) v [] h k = absurd k
forms-first o before (u ∷ us) fault (i ∷ items) v (form ∷ all) h k =
    let r = forms-first o (i ∷ before) us fault items v all h.2 k.1 in
    (u ∷ r.0, r.1, ap (λ x. u ∷ x) r.2, (h.0, h.1, r.3), (k.0, r.4))

-- the same of all bytes that are written
pub output-first : (o : Options) (us : List (List ℕ)) (fault : Option Why) (items : List Item) (v : Option Stopped) (bytes : List ℕ) → Judges o [] us fault items v → IsOutput o us items bytes →
    (front : List (List ℕ)) × (later : List (List ℕ)) × (us ≡ front ++ later) × Judges o [] front None items None × IsOutput o front items bytes
output-first o us fault items v bytes h k =
    let r = forms-first o [] us fault items v k.0 h k.1 in
    (r.0, r.1, r.2, r.3, (k.0, r.4, k.2))

-- what is written for some units begins with what is written for some first of them, which are read as these items
abbrev BeginsWith : Options → List Item → List (List ℕ) → List Item → List (List ℕ) → List Item → Type 0
BeginsWith o before units items us is = (all : List (List ℕ)) → AreForms o before units items all → (first : List (List ℕ)) × (later : List (List ℕ)) × AreForms o before us is first × (all ≡ first ++ later)

-- of what is judged the first units are judged
judged-before : (o : Options) (before : List Item) (us more : List (List ℕ)) (fault : Option Why) (items : List Item) (v : Option Stopped) → Judges o before (us ++ more) fault items v →
    (is : List Item) × (w : Option Stopped) × Judges o before us None is w × BeginsWith o before (us ++ more) items us is
judged-before o before [] more fault items v h = ([], None, refl, λ all k. ([], all, refl, refl))
judged-before o before (u ∷ us) more fault (i ∷ items) v h =
    let r = judged-before o (i ∷ before) us more fault items v h.2 in
    (i ∷ r.0, r.1, (h.0, h.1, r.2), begins r.0 r.3)
  where
    begins : (is : List Item) → BeginsWith o (i ∷ before) (us ++ more) items us is → BeginsWith o before ((u ∷ us) ++ more) (i ∷ items) (u ∷ us) (i ∷ is)
    begins is are [] k = absurd k
    begins is are (form ∷ all) k = let r = are all k.1 in (form ∷ r.0, r.1, (k.0, r.2), ap (λ x. form ∷ x) r.3)
judged-before o before (u ∷ us) more fault [] None h = absurd h
judged-before o before (u ∷ us) more fault [] (Some (OutsideAt m why)) h = ([], Some (OutsideAt m why), h, λ all k. ([], all, refl, refl))
judged-before o before (u ∷ us) more fault [] (Some (StopAt case place)) h = ([], Some (StopAt case place), h, λ all k. ([], all, refl, refl))
judged-before o before (u ∷ us) more fault [] (Some NoMemory) h = absurd h

-- what is judged of some bytes, where more are judged and these items are read of them
pub record Before (o : Options) (b : List ℕ) (units : List (List ℕ)) (items : List Item) : Type 0 where
  pub read : List Item
  pub verdict : Option Stopped
  pub judged : Recodes o (seen b) read verdict
  pub begins : BeginsWith o [] units items (seen b).units read

before-by : (o : Options) (b c : List ℕ) (fault : Option Why) (items : List Item) (v : Option Stopped) → (seen b).fault ≡ fault → Recodes o (seen (b ++ c)) items v → Before o b (seen (b ++ c)).units items
before-by o b c None items v e h =
    let stays = (seen-stays b c).units in
    let P : List (List ℕ) → Type 0 = λ us. Judges o [] us (seen (b ++ c)).fault items v in
    let k = judged-before o [] (seen b).units stays.0 (seen (b ++ c)).fault items v (subst P stays.1 h) in
    let F : Option Why → Type 0 = λ f. Judges o [] (seen b).units f k.0 k.1 in
    let B : List (List ℕ) → Type 0 = λ us. BeginsWith o [] us items (seen b).units k.0 in
    record { read = k.0; verdict = k.1; judged = subst F (sym e) k.2; begins = subst B (sym stays.1) k.3 }
before-by o b c (Some why) items v e h =
    let same : seen (b ++ c) ≡ seen b = (seen-stays b c).fault why e in
    let P : Seen → Type 0 = λ s. Recodes o s items v in
    let B : Seen → Type 0 = λ s. BeginsWith o [] s.units items (seen b).units items in
    record { read = items; verdict = v; judged = subst P same h; begins = subst B (sym same) (λ all k. (all, [], k, sym (append-nil all))) }

pub before : (o : Options) (b c : List ℕ) (items : List Item) (v : Option Stopped) → Recodes o (seen (b ++ c)) items v → Before o b (seen (b ++ c)).units items
before o b c items v h = before-by o b c (seen b).fault items v refl h

-- where no verdict stands, none stood before
pub before-none : (o : Options) (b c : List ℕ) (items : List Item) → Recodes o (seen (b ++ c)) items None → (is : List Item) × Recodes o (seen b) is None
before-none o b c items h = by early.verdict early.judged
  where
    early : Before o b (seen (b ++ c)).units items
    early = before o b c items None h

    by : (v : Option Stopped) → Recodes o (seen b) early.read v → (is : List Item) × Recodes o (seen b) is None
    by None k = (early.read, k)
    by (Some v) k = absurd (let same = (one-verdict o [] (seen (b ++ c)).units (seen (b ++ c)).fault early.read items (Some v) None (verdict-stays o b c early.read v k) h).1 in cc)

-- what is written for more bytes begins with what is written for these
pub output-stays : (o : Options) (b c : List ℕ) (is js : List Item) (v w : Option Stopped) (late : List ℕ) → Recodes o (seen b) is v → Recodes o (seen (b ++ c)) js w → IsOutput o (seen (b ++ c)).units js late →
    (early : List ℕ) × (rest : List ℕ) × IsOutput o (seen b).units is early × (late ≡ early ++ rest)
output-stays o b c is js v w late h k out =
    let early = before o b c js w k in
    let same = (one-verdict o [] (seen b).units (seen b).fault early.read is early.verdict v early.judged h).0 in
    let begins = early.begins out.0 out.1 in
    let A : List Item → Type 0 = λ items. AreForms o [] (seen b).units items begins.0 in
    (concat begins.0, concat begins.1, (begins.0, subst A same begins.2, refl), out.2 ∙ ap concat begins.3 ∙ concat-append begins.0 begins.1)
