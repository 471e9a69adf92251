-- Many bytes, one after another: what a splitter stands for then.
use Rattle.std.proofs.Common.{◌≡◌, ◌≢◌, All, Result, Ok, Err, IfErr, ℕ, ◌+◌, ◌-◌, ◌^◌, min, List, [], ◌∷◌, ◌++◌, length, take, drop, Option, Some, None, refl, sym, ap, subst, ◌∙◌, arith, append-nil, append_assoc, length-append}
use Rattle.std.proofs.lemmas.List.{take-append-le}
use Rattle.std.proofs.lemmas.List.Elements.{All-replicate}
use Rattle.std.proofs.Math.Seq.{take-add, take-append-add}
use Rattle.h264_types.specs.declared.fault.Why.{Why}
use Rattle.h264_types.specs.Units.{seen, followed_by}
use Rattle.annexb_units.specs.declared.splitter.State.{State}
use Rattle.annexb_units.specs.declared.splitter.State.TheVariants.{Between, Inside, Bad}
use Rattle.annexb_units.specs.declared.splitter.Splitter.{Splitter}
use Rattle.annexb_units.specs.declared.splitter.SplitFault.{SplitFault}
use Rattle.annexb_units.specs.declared.splitter.SplitFault.TheVariants.{Bad as BadFault, Memory}
use Rattle.annexb_units.specs.Splitter.{parts, StandsFor, Feeds, ShowsNone, Shows, FeedStops, TakesFront}
use Rattle.annexb_units.specs.Parts.{Parts, PartsStandFor, seen_next}
use Rattle.std.proofs.Common.{map, IfSome, IfNone, MatchOption, Vec, Global}
use Rattle.std.specs.VecDeque.{deque_len}
use Rattle.std.specs.Option.{option_to_list}
use Rattle.h264_types.specs.Units.{seen_whole}
use Rattle.annexb_units.specs.Splitter.{Ends, EndShowsNone, EndStops, Keeps, Takes, IsAllTaken}
use Rattle.annexb_units.proofs.Steps.{IsGood, seen-fed_open, seen-fed_bad, seen-units, one_taken}

pub good-not_bad : (st : State) → ((why : Why) → st ≡ Bad why → ⊥) → IsGood st
good-not_bad Between h = tt
good-not_bad Inside h = tt
good-not_bad (Bad why) h = h why refl

pub feeds-none : (s : Splitter) → Feeds s s []
feeds-none s = λ fed taken k. let P : List ℕ → Type 0 = λ b. StandsFor s b taken in subst P (sym (append-nil fed)) k

pub shows_none-none : (s : Splitter) → IsGood s.state → ShowsNone s []
shows_none-none s good = λ fed taken k. ap (λ b. (seen b).fault) (append-nil fed) ∙ ap (λ v. v.fault) (seen-fed_open (parts s) fed taken good s.few_zeros k.parts)

pub feeds-more : (s t u : Splitter) (xs ys zs : List ℕ) → zs ≡ xs ++ ys → Feeds s t xs → Feeds t u ys → Feeds s u zs
feeds-more s t u xs ys zs e h k = λ fed taken f.
    let P : List ℕ → Type 0 = λ b. StandsFor u b taken in
    subst P (append_assoc fed xs ys ∙ ap (λ b. fed ++ b) (sym e)) (k (fed ++ xs) taken (h fed taken f))

pub shows_none-more : (s t : Splitter) (xs ys zs : List ℕ) → zs ≡ xs ++ ys → Feeds s t xs → ShowsNone t ys → ShowsNone s zs
shows_none-more s t xs ys zs e h k = λ fed taken f.
    ap (λ b. (seen b).fault) (ap (λ b. fed ++ b) e ∙ sym (append_assoc fed xs ys)) ∙ k (fed ++ xs) taken (h fed taken f)

-- what follows a fault changes nothing
pub feeds-bad : (s t : Splitter) (why : Why) (xs ys zs : List ℕ) → zs ≡ xs ++ ys → t.state ≡ Bad why → Feeds s t xs → Feeds s t zs
feeds-bad s t why xs ys zs e bad h = λ fed taken f.
    let p = parts t in
    let k = (h fed taken f).parts in
    let all : fed ++ zs ≡ (fed ++ xs) ++ ys = ap (λ b. fed ++ b) e ∙ sym (append_assoc fed xs ys) in
    record {
      parts = record {
        next = λ more.
            ap (λ b. seen (b ++ more)) all ∙ ap seen (append_assoc (fed ++ xs) ys more) ∙ k.next (ys ++ more)
            ∙ ap (λ st. followed_by (taken ++ p.waiting) (seen_next st p.unit p.zeros (ys ++ more))) bad
            ∙ sym (ap (λ st. followed_by (taken ++ p.waiting) (seen_next st p.unit p.zeros more)) bad);
        count = k.count;
        unended = k.unended;
      };
    }

pub shows-bad : (s t : Splitter) (why : Why) (n : ℕ) (piece : List ℕ) → t.state ≡ Bad why → t.count ≡ n → Feeds s t piece → Shows s piece n why
shows-bad s t why n piece bad e h = λ fed taken f.
    let k = (h fed taken f).parts in
    let all = seen-fed_bad (parts t) (fed ++ piece) taken why bad k in
    (ap (λ v. v.fault) all, sym e ∙ k.count ∙ ap (λ v. min (length v.units) (2 ^ 64 - 1)) (sym all))

-- the splitter stops behind the bytes xs
pub stops-behind : (s t u : Splitter) (xs ys zs : List ℕ) (fault : SplitFault) → zs ≡ xs ++ ys
    → Feeds s t xs → FeedStops t u ys fault → FeedStops s u zs fault
stops-behind s t u xs ys zs (BadFault n why) e h k =
    let all : Feeds s u zs = feeds-more s t u xs ys zs e h k.0 in
    (all, shows-bad s u why n zs k.2.0 k.2.1 all, k.2)
stops-behind s t u xs ys zs Memory e h k =
    let front : take (length xs + k.0) zs ≡ xs ++ take k.0 ys = ap (take (length xs + k.0)) e ∙ take-append-add xs ys k.0 in
    (length xs + k.0, omega (arith, k.1, ap length e, length-append xs ys), feeds-more s t u xs (take k.0 ys) (take (length xs + k.0) zs) front h k.2)

-- the splitter stops in the first bytes
pub stops-in : (s u : Splitter) (xs ys zs : List ℕ) (fault : SplitFault) → zs ≡ xs ++ ys → FeedStops s u xs fault → FeedStops s u zs fault
stops-in s u xs ys zs (BadFault n why) e k =
    let all : Feeds s u zs = feeds-bad s u why xs ys zs e k.2.0 k.0 in
    (all, shows-bad s u why n zs k.2.0 k.2.1 all, k.2)
stops-in s u xs ys zs Memory e k =
    let front : take k.0 zs ≡ take k.0 xs = ap (take k.0) e ∙ take-append-le k.0 xs ys k.1 in
    (k.0, omega (arith, k.1, ap length e, length-append xs ys), feeds-more s u u (take k.0 xs) [] (take k.0 zs) (front ∙ sym (append-nil (take k.0 xs))) k.2 (feeds-none u))

-- nothing was fed for want of memory
pub stops-none : (s u : Splitter) (piece : List ℕ) (fault : SplitFault) → (fault ≡ Memory) × Keeps s u → FeedStops s u piece fault
stops-none s u piece fault h =
    let P : SplitFault → Type 0 = FeedStops s u piece in
    subst P (sym h.0) (0, omega arith, λ fed taken f. let Q : List ℕ → Type 0 = λ b. StandsFor u b taken in subst Q (sym (append-nil fed)) (h.1 fed taken f))

pub feeds-front : (s t u : Splitter) (at : ℕ) (piece : List ℕ) (n : ℕ) → Feeds s t (take at piece) × ShowsNone s (take at piece) → TakesFront t u (drop at piece) n
    → Feeds s u (take (at + n) piece) × ShowsNone s (take (at + n) piece)
feeds-front s t u at piece n h k =
    let more = take-add at n piece in
    (feeds-more s t u (take at piece) (take n (drop at piece)) (take (at + n) piece) more h.0 k.2, shows_none-more s t (take at piece) (take n (drop at piece)) (take (at + n) piece) more h.0 k.3)

-- ## The end of the input

abbrev three : List ℕ
three = 0 ∷ 0 ∷ 0 ∷ []

pub ends : (s t : Splitter) → Feeds s t three × ShowsNone s three → Ends s t × EndShowsNone s
unfolding seen_whole
ends s t h = h

pub three_zeros : All (λ x. x ≡ 0) three
three_zeros = All-replicate (λ x. x ≡ 0) 3 0 refl

pub end_stops : (s t : Splitter) (r : Result (Unit {0}) SplitFault) → IfErr r (FeedStops s t three) → IfErr r (λ fault. fault ≢ Memory) → IfErr r (EndStops s t)
unfolding seen_whole
end_stops s t (Ok x) h some = tt
end_stops s t (Err (BadFault unit why)) h some = h
end_stops s t (Err Memory) h some = absurd (some refl)

-- ## One unit taken

pub takes : (s t : Splitter) (r : Option (Vec ℕ Global)) → s.ended.items ≡ option_to_list r ++ t.ended.items
    → parts t ≡ record (parts s) { waiting = map (λ u. u.items) t.ended.items } → IfSome r (λ unit. Takes s t unit.items)
takes s t None e k = tt
takes s t (Some u) e k = λ fed taken f.
    let same : parts s ≡ record (parts t) { waiting = u.items ∷ (parts t).waiting } =
    ap (λ v. let p : Parts = record (parts s) { waiting = map (λ x. x.items) v } in p) e ∙ sym (ap (λ v. let p : Parts = record v { waiting = u.items ∷ v.waiting } in p) k) in
    let next = one_taken (parts s) (parts t) u.items fed taken same f.parts in
    (record { parts = next }, ((parts t).waiting, seen-units (parts t) fed (taken ++ u.items ∷ []) t.few_zeros next))

no_items : {X : Type 0} → (xs : List X) → length xs ≡ 0 → xs ≡ []
no_items [] h = refl
no_items (x ∷ xs) h = absurd (omega arith)

pub all_taken : (s t : Splitter) (r : Option (Vec ℕ Global)) → s.ended.items ≡ option_to_list r ++ t.ended.items
    → MatchOption r ((deque_len s.ended ≡ 0) × (deque_len t.ended ≡ 0)) (λ _. deque_len t.ended + 1 ≡ deque_len s.ended)
    → parts t ≡ record (parts s) { waiting = map (λ u. u.items) t.ended.items } → IfNone r (IsAllTaken s × Keeps s t)
all_taken s t None e n k =
    let none : (parts s).waiting ≡ (parts t).waiting = ap (λ v. map (λ u. u.items) v) e in
    let same : parts s ≡ parts t = ap (λ v. let p : Parts = record (parts s) { waiting = v } in p) none ∙ sym k in
    let waiting : (parts s).waiting ≡ [] = ap (λ v. map (λ u. u.items) v) (no_items s.ended.items (omega (arith, s.ended.ok.0, n.0))) in (
      λ fed taken f. seen-units (parts s) fed taken s.few_zeros f.parts ∙ ap (λ v. taken ++ v) waiting ∙ append-nil taken,
      λ fed taken f. let P : Parts → Type 0 = λ v. PartsStandFor v fed taken in record { parts = subst P same f.parts },
    )
all_taken s t (Some u) e n k = tt
