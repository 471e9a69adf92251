-- One byte more: what a splitter stands for then.
use Rattle.std.proofs.Common.{◌≡◌, ◌≢◌, ◌⊎◌, ℕ, zero, suc, ◌+◌, ◌-◌, ◌^◌, ◌<◌, ◌≤◌, min, Bool, true, false, ◌||◌, ◌==◌, nat_le, All, List, [], ◌∷◌, ◌++◌, length, replicate, Some, None, refl, sym, ap, subst, ◌∙◌, arith, inl, inr, append-nil, append_assoc, length-append}
use Rattle.std.proofs.lemmas.Bool.Decides.{nat_tests}
use Rattle.std.proofs.lemmas.List.Elements.{All-head, All-tail}
use Rattle.h264_types.specs.declared.fault.Why.{Why}
use Rattle.h264_types.specs.declared.fault.Why.TheVariants.{NoStart, Unit as BadUnit}
use Rattle.h264_types.specs.Units.{ends_unit, is_no_unit, Seen, no_more, followed_by, seen, IsClosed, IsHeaded}
use Rattle.h264_types.proofs.Seen.{seen-no_start, seen-no_unit, seen-unit, seen-open, seen-extra_zero, seen-zeros, ends_unit-first, closed-last, closed-more, open-zeros}
use Rattle.h264_types.proofs.Whole.{replicate-more}
use Rattle.annexb_units.specs.declared.splitter.State.{State}
use Rattle.annexb_units.specs.declared.splitter.State.TheVariants.{Between, Inside, Bad}
use Rattle.annexb_units.specs.declared.splitter.Splitter.{Splitter}
use Rattle.annexb_units.specs.declared.splitter.SplitFault.{SplitFault}
use Rattle.annexb_units.specs.declared.splitter.SplitFault.TheVariants.{Bad as BadFault}
use Rattle.annexb_units.specs.Splitter.{parts, Feeds, ShowsNone, Shows, FeedStops}
use Rattle.annexb_units.specs.Parts.{Parts, PartsStandFor, IsUnended, seen_next}

-- by these bytes p becomes q
pub record Step (p q : Parts) (piece : List ℕ) : Type 0 where
  pub ended : List (List ℕ)
  pub waiting : q.waiting ≡ p.waiting ++ ended
  pub count : p.count ≤ 2 ^ 64 - 1 → q.count ≡ min (p.count + length ended) (2 ^ 64 - 1)
  pub next : (more : List ℕ) → IsUnended p.state p.unit → seen_next p.state p.unit p.zeros (piece ++ more) ≡ followed_by ended (seen_next q.state q.unit q.zeros more)
  pub unended : IsUnended p.state p.unit → IsUnended q.state q.unit

followed_by-append : (us vs : List (List ℕ)) (s : Seen) → followed_by us (followed_by vs s) ≡ followed_by (us ++ vs) s
followed_by-append us vs s = ap (λ ws. let t : Seen = record { units = ws; fault = s.fault } in t) (sym (append_assoc us vs s.units))

pub step-stands : (p q : Parts) (piece fed : List ℕ) (taken : List (List ℕ)) → Step p q piece → PartsStandFor p fed taken → PartsStandFor q (fed ++ piece) taken
step-stands p q piece fed taken h s =
    let all : (taken ++ p.waiting) ++ h.ended ≡ taken ++ q.waiting = append_assoc taken p.waiting h.ended ∙ ap (λ v. taken ++ v) (sym h.waiting) in
    record {
      next = λ more.
          ap seen (append_assoc fed piece more) ∙ s.next (piece ++ more) ∙ ap (followed_by (taken ++ p.waiting)) (h.next more s.unended)
          ∙ followed_by-append (taken ++ p.waiting) h.ended (seen_next q.state q.unit q.zeros more)
          ∙ ap (λ v. followed_by v (seen_next q.state q.unit q.zeros more)) all;
      count = omega (arith, h.count (omega (arith, s.count)), s.count, ap length all, length-append (taken ++ p.waiting) h.ended);
      unended = h.unended s.unended;
    }

abbrev pub IsGood : State → Type 0
IsGood Between = Unit {0}
IsGood Inside = Unit {0}
IsGood (Bad why) = ⊥

headed-zeros : (u : List ℕ) (z : ℕ) → (u ≡ []) ⊎ IsHeaded u → (u ++ replicate z 0 ≡ []) ⊎ IsHeaded (u ++ replicate z 0)
headed-zeros [] zero h = inl refl
headed-zeros [] (suc z) h = inr (omega arith)
headed-zeros (x ∷ u) z (inl e) = absurd (cc)
headed-zeros (x ∷ u) z (inr lt) = inr lt

-- the bytes held show no unit and no fault
pub seen_next-open : (state : State) (unit : List ℕ) (zeros : ℕ) → IsGood state → IsUnended state unit → zeros ≤ 2 → seen_next state unit zeros [] ≡ no_more
seen_next-open Between unit z good h few = ap seen (append-nil (replicate z 0)) ∙ seen-zeros z
seen_next-open Inside unit z good h few =
    ap (λ v. seen (0 ∷ 0 ∷ 1 ∷ (unit ++ v))) (append-nil (replicate z 0))
    ∙ seen-open 2 (unit ++ replicate z 0) (omega arith) (open-zeros unit z h.0 few) (headed-zeros unit z h.1)
seen_next-open (Bad why) unit z good h few = absurd good

-- what is seen of the bytes that were fed
pub seen-fed : (p : Parts) (fed : List ℕ) (taken : List (List ℕ)) → PartsStandFor p fed taken → seen fed ≡ followed_by (taken ++ p.waiting) (seen_next p.state p.unit p.zeros [])
seen-fed p fed taken s = ap seen (sym (append-nil fed)) ∙ s.next []

pub seen-fed_open : (p : Parts) (fed : List ℕ) (taken : List (List ℕ)) → IsGood p.state → p.zeros ≤ 2 → PartsStandFor p fed taken → seen fed ≡ record { units = taken ++ p.waiting; fault = None }
seen-fed_open p fed taken good few s =
    seen-fed p fed taken s ∙ ap (followed_by (taken ++ p.waiting)) (seen_next-open p.state p.unit p.zeros good s.unended few)
    ∙ ap (λ ws. let t : Seen = record { units = ws; fault = None } in t) (append-nil (taken ++ p.waiting))

-- ## The steps

abbrev pub parts_of : List (List ℕ) → List ℕ → ℕ → State → ℕ → Parts
parts_of w u z st n = record { waiting = w; unit = u; zeros = z; state = st; count = n }

-- a step by which no unit ends
quiet : (w : List (List ℕ)) (u v : List ℕ) (y z : ℕ) (st tt' : State) (n : ℕ) (piece : List ℕ)
    → ((more : List ℕ) → IsUnended st u → seen_next st u y (piece ++ more) ≡ seen_next tt' v z more) → (IsUnended st u → IsUnended tt' v)
    → Step (parts_of w u y st n) (parts_of w v z tt' n) piece
quiet w u v y z st tt' n piece next unended = record {
  ended = [];
  waiting = sym (append-nil w);
  count = λ fits. omega arith;
  next = next;
  unended = unended;
}

pub zero_between : (w : List (List ℕ)) (u : List ℕ) (z n : ℕ) → Step (parts_of w u z Between n) (parts_of w u (suc z) Between n) (0 ∷ [])
zero_between w u z n = quiet w u u z (suc z) Between Between n (0 ∷ []) (λ more h. ap seen (replicate-more z 0 more)) (λ h. h)

pub third_zero : (w : List (List ℕ)) (u : List ℕ) (z n : ℕ) → 2 ≤ z → Step (parts_of w u z Between n) (parts_of w u z Between n) (0 ∷ [])
third_zero w u z n two =
    quiet w u u z z Between Between n (0 ∷ []) (λ more h. ap seen (replicate-more z 0 more) ∙ seen-extra_zero z more two) (λ h. h)

pub start_code : (w : List (List ℕ)) (u : List ℕ) (n : ℕ) → Step (parts_of w u 2 Between n) (parts_of w u 0 Inside n) (1 ∷ [])
start_code w u n =
    quiet w u u 2 0 Between Inside n (1 ∷ [])
    (λ more h. ap (λ v. seen (0 ∷ 0 ∷ 1 ∷ (v ++ more))) (sym h))
    (λ h. (let P : List ℕ → Type 0 = IsClosed in subst P (sym h) (λ t. tt), inl h))

pub no_start : (w : List (List ℕ)) (u : List ℕ) (z n x : ℕ) → x ≢ 0 → (z < 2) ⊎ (x ≢ 1) → Step (parts_of w u z Between n) (parts_of w u z (Bad NoStart) n) (x ∷ [])
no_start w u z n x h k =
    quiet w u u z z Between (Bad NoStart) n (x ∷ []) (λ more o. seen-no_start z x more h k) (λ o. tt)

pub zero_inside : (w : List (List ℕ)) (u : List ℕ) (z n : ℕ) → Step (parts_of w u z Inside n) (parts_of w u (suc z) Inside n) (0 ∷ [])
zero_inside w u z n =
    quiet w u u z (suc z) Inside Inside n (0 ∷ []) (λ more h. ap (λ v. seen (0 ∷ 0 ∷ 1 ∷ (u ++ v))) (replicate-more z 0 more)) (λ h. h)

pub no_unit : (w : List (List ℕ)) (u : List ℕ) (z n x : ℕ) → u ≡ [] → ((z ≡ 2) × (x < 2)) ⊎ ((z ≡ 0) × (128 ≤ x)) → Step (parts_of w u z Inside n) (parts_of w u z (Bad BadUnit) n) (x ∷ [])
no_unit w u z n x e (inl h) =
    quiet w u u z z Inside (Bad BadUnit) n (x ∷ [])
    (λ more o.
    let test : is_no_unit (0 ∷ 0 ∷ x ∷ more) ≡ true = grind (arith, nat_tests, h.1) in
    ap (λ v. seen (0 ∷ 0 ∷ 1 ∷ (v ++ (replicate z 0 ++ x ∷ more)))) e ∙ ap (λ k. seen (0 ∷ 0 ∷ 1 ∷ (replicate k 0 ++ x ∷ more))) h.0
    ∙ seen-no_unit 2 (0 ∷ 0 ∷ x ∷ more) (omega arith) test)
    (λ o. tt)
no_unit w u z n x e (inr h) =
    quiet w u u z z Inside (Bad BadUnit) n (x ∷ [])
    (λ more o.
    let high : nat_le 128 x ≡ true = grind (arith, nat_tests, h.1) in
    let test : is_no_unit (x ∷ more) ≡ true = ap (λ b. b || ends_unit (x ∷ more)) high in
    ap (λ v. seen (0 ∷ 0 ∷ 1 ∷ (v ++ (replicate z 0 ++ x ∷ more)))) e ∙ ap (λ k. seen (0 ∷ 0 ∷ 1 ∷ (replicate k 0 ++ x ∷ more))) h.0
    ∙ seen-no_unit 2 (x ∷ more) (omega arith) test)
    (λ o. tt)

more_headed : (u : List ℕ) (z x : ℕ) → (u ≡ []) ⊎ IsHeaded u → (0 < length u) ⊎ ((0 < z) ⊎ (x < 128)) → IsHeaded (u ++ (replicate z 0 ++ x ∷ []))
more_headed (y ∷ u) z x (inl e) k = absurd (cc)
more_headed (y ∷ u) z x (inr h) k = h
more_headed [] (suc z) x h k = omega arith
more_headed [] zero x h (inl k) = absurd (omega arith)
more_headed [] zero x h (inr (inl k)) = absurd (omega arith)
more_headed [] zero x h (inr (inr k)) = k

full_headed : (u : List ℕ) → (u ≡ []) ⊎ IsHeaded u → 0 < length u → IsHeaded u
full_headed u (inl e) full = absurd (omega (arith, ap length e))
full_headed u (inr h) full = h

pub more_bytes : (w : List (List ℕ)) (u : List ℕ) (z n x : ℕ) → z ≤ 2 → x ≢ 0 → (z < 2) ⊎ (x ≢ 1) → (0 < length u) ⊎ ((0 < z) ⊎ (x < 128))
    → Step (parts_of w u z Inside n) (parts_of w (u ++ (replicate z 0 ++ x ∷ [])) 0 Inside n) (x ∷ [])
more_bytes w u z n x few h k headed =
    quiet w u (u ++ (replicate z 0 ++ x ∷ [])) z 0 Inside Inside n (x ∷ [])
    (λ more o.
    ap (λ v. seen (0 ∷ 0 ∷ 1 ∷ v))
    (sym (append_assoc u (replicate z 0 ++ x ∷ []) more ∙ ap (λ v. u ++ v) (append_assoc (replicate z 0) (x ∷ []) more))))
    (λ o. (closed-more u (replicate z 0 ++ x ∷ []) o.0 (closed-last z x few h k), inr (more_headed u z x o.1 headed)))

-- no unit ends in bytes other than zero
closed-nonzero : (v : List ℕ) → All (λ x. x ≢ 0) v → IsClosed v
closed-nonzero [] h t = tt
closed-nonzero (x ∷ v) h t =
    (ends_unit-first x (v ++ t) (All-head (λ x. x ≢ 0) x v h), closed-nonzero v (All-tail (λ x. x ≢ 0) x v h) t)

headed-more : (u v : List ℕ) → IsHeaded u → IsHeaded (u ++ v)
headed-more [] v h = absurd h
headed-more (x ∷ u) v h = h

pub run_inside : (w : List (List ℕ)) (u v : List ℕ) (n : ℕ) → 0 < length u → All (λ x. x ≢ 0) v → Step (parts_of w u 0 Inside n) (parts_of w (u ++ v) 0 Inside n) v
run_inside w u v n full nonzero =
    quiet w u (u ++ v) 0 0 Inside Inside n v
    (λ more o. ap (λ t. seen (0 ∷ 0 ∷ 1 ∷ t)) (sym (append_assoc u v more)))
    (λ o. (closed-more u v o.0 (closed-nonzero v nonzero), inr (headed-more u v (full_headed u o.1 full))))

pub unit_end : (w : List (List ℕ)) (u : List ℕ) (n m : ℕ) → m ≡ min (n + 1) (2 ^ 64 - 1) → 0 < length u → Step (parts_of w u 2 Inside n) (parts_of (w ++ u ∷ []) [] 2 Between m) (0 ∷ [])
unit_end w u n m e full = record {
  ended = u ∷ [];
  waiting = refl;
  count = λ fits. e;
  next = λ more o.
      seen-unit 2 u (0 ∷ 0 ∷ 0 ∷ more) (omega arith) (full_headed u o.1 full) (o.0 (0 ∷ 0 ∷ 0 ∷ more)) refl
      ∙ ap (followed_by (u ∷ [])) (seen-extra_zero 2 more (omega arith));
  unended = λ o. refl;
}

pub unit_next : (w : List (List ℕ)) (u : List ℕ) (n m : ℕ) → m ≡ min (n + 1) (2 ^ 64 - 1) → 0 < length u → Step (parts_of w u 2 Inside n) (parts_of (w ++ u ∷ []) [] 0 Inside m) (1 ∷ [])
unit_next w u n m e full = record {
  ended = u ∷ [];
  waiting = refl;
  count = λ fits. e;
  next = λ more o. seen-unit 2 u (0 ∷ 0 ∷ 1 ∷ more) (omega arith) (full_headed u o.1 full) (o.0 (0 ∷ 0 ∷ 1 ∷ more)) refl;
  unended = λ o. (λ t. tt, inl refl);
}

-- ## What the steps mean for a splitter

-- the same step, of values that are equal
pub same_step : (p p' q q' : Parts) (x y : ℕ) → p ≡ p' → q ≡ q' → x ≡ y → Step p' q' (y ∷ []) → Step p q (x ∷ [])
same_step p p' q q' x y e f g h =
    let P : Parts → Type 0 = λ v. Step v q (x ∷ []) in
    let Q : Parts → Type 0 = λ v. Step p' v (x ∷ []) in
    let R : ℕ → Type 0 = λ v. Step p' q' (v ∷ []) in
    subst P (sym e) (subst Q (sym f) (subst R (sym g) h))

pub feeds : (s t : Splitter) (piece : List ℕ) → Step (parts s) (parts t) piece → Feeds s t piece
feeds s t piece h = λ fed taken k. record { parts = step-stands (parts s) (parts t) piece fed taken h k.parts }

pub shows_none : (s t : Splitter) (piece : List ℕ) → Step (parts s) (parts t) piece → IsGood t.state → t.zeros ≤ 2 → ShowsNone s piece
shows_none s t piece h good few = λ fed taken k.
    ap (λ v. v.fault) (seen-fed_open (parts t) (fed ++ piece) taken good few (step-stands (parts s) (parts t) piece fed taken h k.parts))

pub goes_on : (s t : Splitter) (piece : List ℕ) → Step (parts s) (parts t) piece → IsGood t.state → t.zeros ≤ 2 → Feeds s t piece × ShowsNone s piece
goes_on s t piece h good few = (feeds s t piece h, shows_none s t piece h good few)

pub seen-fed_bad : (p : Parts) (fed : List ℕ) (taken : List (List ℕ)) (why : Why) → p.state ≡ Bad why → PartsStandFor p fed taken → seen fed ≡ record { units = taken ++ p.waiting; fault = Some why }
seen-fed_bad p fed taken why e s =
    seen-fed p fed taken s ∙ ap (λ st. followed_by (taken ++ p.waiting) (seen_next st p.unit p.zeros [])) e
    ∙ ap (λ ws. let t : Seen = record { units = ws; fault = Some why } in t) (append-nil (taken ++ p.waiting))

pub shows : (s t : Splitter) (piece : List ℕ) (why : Why) → Step (parts s) (parts t) piece → t.state ≡ Bad why → Shows s piece t.count why
shows s t piece why h e = λ fed taken k.
    let after = step-stands (parts s) (parts t) piece fed taken h k.parts in
    let all = seen-fed_bad (parts t) (fed ++ piece) taken why e after in
    (ap (λ v. v.fault) all, after.count ∙ ap (λ v. min (length v.units) (2 ^ 64 - 1)) (sym all))

-- the splitter stops
pub stops : (s t : Splitter) (piece : List ℕ) (why : Why) (count : ℕ) (fault : SplitFault) → Step (parts s) (parts t) piece → t.state ≡ Bad why → t.count ≡ count → fault ≡ BadFault count why → FeedStops s t piece fault
stops s t piece why count fault h e n same =
    let P : SplitFault → Type 0 = λ v. FeedStops s t piece v in
    let Q : ℕ → Type 0 = λ v. Shows s piece v why in
    subst P (sym same) (feeds s t piece h, subst Q n (shows s t piece why h e), (e, n))

-- ## The steps, by what the code knows

at_state : (p : Parts) (st : State) → p.state ≡ st → p ≡ parts_of p.waiting p.unit p.zeros st p.count
at_state p st h = ap (λ v. parts_of p.waiting p.unit p.zeros v p.count) h

at_zeros : (p : Parts) (st : State) (z : ℕ) → p.state ≡ st → p.zeros ≡ z → p ≡ parts_of p.waiting p.unit z st p.count
at_zeros p st z h k = at_state p st h ∙ ap (λ v. parts_of p.waiting p.unit v st p.count) k

pub by_zero_between : (p q : Parts) (x : ℕ) → p.state ≡ Between → x ≡ 0 → q ≡ record p { zeros = p.zeros + 1 } → Step p q (x ∷ [])
by_zero_between p q x h e k =
    let more : p.zeros + 1 ≡ suc p.zeros = omega arith in
    same_step p (parts_of p.waiting p.unit p.zeros Between p.count) q (parts_of p.waiting p.unit (suc p.zeros) Between p.count) x 0 (at_state p Between h)
    (k ∙ ap (λ v. parts_of p.waiting p.unit v p.state p.count) more ∙ ap (λ v. parts_of p.waiting p.unit (suc p.zeros) v p.count) h) e
    (zero_between p.waiting p.unit p.zeros p.count)

pub by_third_zero : (p : Parts) (x : ℕ) → p.state ≡ Between → x ≡ 0 → 2 ≤ p.zeros → Step p p (x ∷ [])
by_third_zero p x h e two =
    let q = parts_of p.waiting p.unit p.zeros Between p.count in
    same_step p q p q x 0 (at_state p Between h) (at_state p Between h) e (third_zero p.waiting p.unit p.zeros p.count two)

pub by_start_code : (p q : Parts) (x : ℕ) → p.state ≡ Between → x ≡ 1 → p.zeros ≡ 2 → q ≡ record p { zeros = 0; state = Inside } → Step p q (x ∷ [])
by_start_code p q x h e two k =
    same_step p (parts_of p.waiting p.unit 2 Between p.count) q (parts_of p.waiting p.unit 0 Inside p.count) x 1 (at_zeros p Between 2 h two) k e
    (start_code p.waiting p.unit p.count)

pub by_no_start : (p q : Parts) (x : ℕ) → p.state ≡ Between → x ≢ 0 → (p.zeros < 2) ⊎ (x ≢ 1) → q ≡ record p { state = Bad NoStart } → Step p q (x ∷ [])
by_no_start p q x h other last k =
    same_step p (parts_of p.waiting p.unit p.zeros Between p.count) q (parts_of p.waiting p.unit p.zeros (Bad NoStart) p.count) x x (at_state p Between h) k refl
    (no_start p.waiting p.unit p.zeros p.count x other last)

pub by_zero_inside : (p q : Parts) (x : ℕ) → p.state ≡ Inside → x ≡ 0 → q ≡ record p { zeros = p.zeros + 1 } → Step p q (x ∷ [])
by_zero_inside p q x h e k =
    let more : p.zeros + 1 ≡ suc p.zeros = omega arith in
    same_step p (parts_of p.waiting p.unit p.zeros Inside p.count) q (parts_of p.waiting p.unit (suc p.zeros) Inside p.count) x 0 (at_state p Inside h)
    (k ∙ ap (λ v. parts_of p.waiting p.unit v p.state p.count) more ∙ ap (λ v. parts_of p.waiting p.unit (suc p.zeros) v p.count) h) e
    (zero_inside p.waiting p.unit p.zeros p.count)

pub by_no_unit : (p q : Parts) (x : ℕ) → p.state ≡ Inside → p.unit ≡ [] → ((p.zeros ≡ 2) × (x < 2)) ⊎ ((p.zeros ≡ 0) × (128 ≤ x)) → q ≡ record p { state = Bad BadUnit } → Step p q (x ∷ [])
by_no_unit p q x h e last k =
    same_step p (parts_of p.waiting p.unit p.zeros Inside p.count) q (parts_of p.waiting p.unit p.zeros (Bad BadUnit) p.count) x x (at_state p Inside h) k refl
    (no_unit p.waiting p.unit p.zeros p.count x e last)

pub by_more_bytes : (p q : Parts) (x : ℕ) → p.state ≡ Inside → p.zeros ≤ 2 → x ≢ 0 → (p.zeros < 2) ⊎ (x ≢ 1) → (0 < length p.unit) ⊎ ((0 < p.zeros) ⊎ (x < 128))
    → q ≡ record p { unit = p.unit ++ (replicate p.zeros 0 ++ x ∷ []); zeros = 0 } → Step p q (x ∷ [])
by_more_bytes p q x h few other last headed k =
    let unit = p.unit ++ (replicate p.zeros 0 ++ x ∷ []) in
    same_step p (parts_of p.waiting p.unit p.zeros Inside p.count) q (parts_of p.waiting unit 0 Inside p.count) x x (at_state p Inside h)
    (k ∙ ap (λ v. parts_of p.waiting unit 0 v p.count) h) refl
    (more_bytes p.waiting p.unit p.zeros p.count x few other last headed)

pub by_run : (p q : Parts) (v : List ℕ) → p.state ≡ Inside → p.zeros ≡ 0 → 0 < length p.unit → All (λ x. x ≢ 0) v → q ≡ record p { unit = p.unit ++ v } → Step p q v
by_run p q v h z full nonzero k =
    let P : Parts → Type 0 = λ r. Step r q v in
    let Q : Parts → Type 0 = λ r. Step (parts_of p.waiting p.unit 0 Inside p.count) r v in
    subst P (sym (at_zeros p Inside 0 h z))
    (subst Q (sym (k ∙ ap (λ r. parts_of r.waiting (p.unit ++ v) r.zeros r.state r.count) (at_zeros p Inside 0 h z)))
    (run_inside p.waiting p.unit v p.count full nonzero))

-- a unit has ended
abbrev pub after_unit : Parts → Parts
after_unit p = record p { waiting = p.waiting ++ p.unit ∷ []; unit = []; count = min (p.count + 1) (2 ^ 64 - 1) }

pub by_unit_end : (p q : Parts) (x : ℕ) → p.state ≡ Inside → p.zeros ≡ 2 → x ≡ 0 → 0 < length p.unit → q ≡ record (after_unit p) { state = Between } → Step p q (x ∷ [])
by_unit_end p q x h two e full k =
    let m = min (p.count + 1) (2 ^ 64 - 1) in
    same_step p (parts_of p.waiting p.unit 2 Inside p.count) q (parts_of (p.waiting ++ p.unit ∷ []) [] 2 Between m) x 0 (at_zeros p Inside 2 h two)
    (k ∙ ap (λ v. parts_of (p.waiting ++ p.unit ∷ []) [] v Between m) two) e
    (unit_end p.waiting p.unit p.count m refl full)

pub by_unit_next : (p q : Parts) (x : ℕ) → p.state ≡ Inside → p.zeros ≡ 2 → x ≡ 1 → 0 < length p.unit → q ≡ record (after_unit p) { zeros = 0; state = Inside } → Step p q (x ∷ [])
by_unit_next p q x h two e full k =
    let m = min (p.count + 1) (2 ^ 64 - 1) in
    same_step p (parts_of p.waiting p.unit 2 Inside p.count) q (parts_of (p.waiting ++ p.unit ∷ []) [] 0 Inside m) x 1 (at_zeros p Inside 2 h two)
    k e
    (unit_next p.waiting p.unit p.count m refl full)

-- in a state that is no fault
pub good-between : (st : State) → st ≡ Between → IsGood st
good-between st h = let P : State → Type 0 = IsGood in subst P (sym h) tt

pub good-inside : (st : State) → st ≡ Inside → IsGood st
good-inside st h = let P : State → Type 0 = IsGood in subst P (sym h) tt

-- the units of the bytes fed are those that were taken and those that wait
pub seen-units : (p : Parts) (fed : List ℕ) (taken : List (List ℕ)) → p.zeros ≤ 2 → PartsStandFor p fed taken → (seen fed).units ≡ taken ++ p.waiting
seen-units p fed taken few s = by p.state refl
  where
    by : (st : State) → p.state ≡ st → (seen fed).units ≡ taken ++ p.waiting
    by Between e = ap (λ v. v.units) (seen-fed_open p fed taken (good-between p.state e) few s)
    by Inside e = ap (λ v. v.units) (seen-fed_open p fed taken (good-inside p.state e) few s)
    by (Bad why) e = ap (λ v. v.units) (seen-fed_bad p fed taken why e s)

-- one that waits is taken
pub one_taken : (p q : Parts) (u fed : List ℕ) (taken : List (List ℕ)) → p ≡ record q { waiting = u ∷ q.waiting } → PartsStandFor p fed taken → PartsStandFor q fed (taken ++ u ∷ [])
one_taken p q u fed taken e s =
    let P : Parts → Type 0 = λ v. PartsStandFor v fed taken in
    let k = subst P e s in
    let all : taken ++ u ∷ q.waiting ≡ (taken ++ u ∷ []) ++ q.waiting = sym (append_assoc taken (u ∷ []) q.waiting) in
    record {
      next = λ more. k.next more ∙ ap (λ v. followed_by v (seen_next q.state q.unit q.zeros more)) all;
      count = k.count ∙ ap (λ v. min (length v) (2 ^ 64 - 1)) all;
      unended = k.unended;
    }

-- what `is_empty` tells of a list of this length
pub empty : (u : List ℕ) (n : ℕ) (e : Bool) → e ≡ true → e ≡ (n == 0) → n ≡ length u → u ≡ []
empty [] n e t h k = refl
empty (x ∷ u) n e t h k = absurd (full n e t h (omega (arith, k)))
  where
    full : (n : ℕ) (e : Bool) → e ≡ true → e ≡ (n == 0) → 0 < n → ⊥
    full n e t h lt = grind (arith, nat_tests)

pub full : (n m : ℕ) (e : Bool) → e ≡ false → e ≡ (n == 0) → n ≡ m → 0 < m
full n m e t h k = grind (arith, nat_tests)
