-- Units taken from the splitter, and read.
use Rattle.std.proofs.Common.{◌≡◌, ℕ, List, [], ◌∷◌, ◌++◌, length, Option, Some, None, refl, sym, ap, subst, ◌∙◌, arith, append-nil, append_assoc, length-append}
use Rattle.h264_types.specs.declared.fault.Why.{Why}
use Rattle.h264_types.specs.declared.fault.Case.{Case}
use Rattle.h264_types.specs.declared.fault.Place.{Place}
use Rattle.h264_types.specs.declared.fault.Stopped.{Stopped}
use Rattle.h264_types.specs.declared.fault.Stopped.TheVariants.{Stop, Outside, Memory}
use Rattle.h264_types.specs.Units.{Seen, seen}
use Rattle.annexb_units.specs.declared.splitter.Splitter.{Splitter}
use Rattle.annexb_units.specs.Splitter.{StandsFor, Keeps, Takes, IsAllTaken}
use Rattle.slice_rewrite.specs.Options.{Options}
use Rattle.slice_rewrite.specs.declared.pick.Tries.{Tries}
use Rattle.slice_rewrite.specs.Items.{Item, behind, sets_behind, IsItem}
use Rattle.slice_rewrite.specs.Verdict.{unit_number, Refuses, stop_of, Judges, Recodes}
use Rattle.slice_rewrite.proofs.Judging.{length-behind_judged, judges-more}
use Rattle.stream_recoder.specs.declared.recoder.Recoder.{Recoder}
use Rattle.stream_recoder.specs.Written.{Written, IsWritten, AreWritten, GoesAlong, GoesAtMost}
use Rattle.stream_recoder.specs.Recoder.{waiting, options_of, StandsBehind, Holds, Reads, Adds, IsRefusedBy, PickStops, TakesAll, TakingStops}
use Rattle.stream_recoder.proofs.Outputs.{goes-more, written-more, written-first}

-- behind units without a verdict, no item comes before this one
pub judges-next : (o : Options) (us more : List (List ℕ)) (fault : Option Why) (items : List Item) (v : Option Stopped) → Judges o [] us None items None → Judges o (behind items []) more fault [] v → Judges o [] (us ++ more) fault items v
judges-next o us more fault items v h k =
    let P : List Item → Type 0 = λ is. Judges o [] (us ++ more) fault is v in
    subst P (append-nil items) (judges-more o [] us more fault items [] v h k)

-- the number of the unit behind them
number_behind : (o : Options) (n units : ℕ) (us : List (List ℕ)) (items : List Item) → Judges o [] us None items None → n ≡ units → units ≡ unit_number (length us) → n ≡ unit_number (length (behind items []))
number_behind o n units us items h num count = num ∙ count ∙ ap unit_number (sym (length-behind_judged o us items h))

-- the last item comes first
behind-append : (items : List Item) (i : Item) (before : List Item) → behind (items ++ i ∷ []) before ≡ i ∷ behind items before
behind-append [] i before = refl
behind-append (j ∷ items) i before = behind-append items i (j ∷ before)

-- the units of the bytes fed, by the next one
next_units : (old new : Splitter) (u fed : List ℕ) (taken : List (List ℕ)) → Takes old new u → StandsFor old fed taken → (rest : List (List ℕ)) × ((seen fed).units ≡ taken ++ u ∷ rest)
next_units old new u fed taken k s =
    let next = (k fed taken s).1 in
    (next.0, next.1 ∙ append_assoc taken (u ∷ []) next.0)

-- this is a verdict behind some first units, this is written for the units before it, and with them the pick went on
pub record Verdict {P : Type 0} (tried : P → Tries) (step : P → List ℕ → ℕ → P → Type 0) (o : Options) (s : Seen) (written : List Written) (stopped : Stopped) (first last : P) : Type 0 where
  pub items : List Item
  pub recodes : Recodes o s items (Some stopped)
  pub are : AreWritten o [] s.units items written
  pub picked : GoesAlong tried step o [] items written first last

-- the verdict comes with the next unit
verdict-next : {P : Type 0} (tried : P → Tries) (step : P → List ℕ → ℕ → P → Type 0) (o : Options) (us taken more : List (List ℕ)) (fault : Option Why) (items : List Item) (written now : List Written) (stopped : Stopped) (first last : P) → us ≡ taken ++ more → Judges o [] taken None items None → AreWritten o [] taken items written
    → now ≡ written → GoesAlong tried step o [] items now first last → Judges o (behind items []) more fault [] (Some stopped) → Verdict tried step o record { units = us; fault = fault } now stopped first last
verdict-next tried step o us taken more fault items written now stopped first last e h k same goes ends =
    let J : List (List ℕ) → Type 0 = λ x. Judges o [] x fault items (Some stopped) in
    let W : List (List ℕ) → Type 0 = λ x. AreWritten o [] x items now in
    let N : List Written → Type 0 = AreWritten o [] (taken ++ more) items in
    record { items = items; recodes = subst J (sym e) (judges-next o taken more fault items (Some stopped) h ends); are = subst W (sym e) (subst N (sym same) (written-first o [] taken more items written h k)); picked = goes }

module _ {P : Type 0} (tried : P → Tries) (step : P → List ℕ → ℕ → P → Type 0) where
  -- ## One unit

  -- a unit was taken from the splitter, and then read
  pub adds-taken : (r : Recoder P) (sp : Splitter) (r' : Recoder P) (u v : List ℕ) → v ≡ u → Adds tried step (record r { splitter = sp }) r' v → Adds tried step r r' u
  adds-taken r sp r' u v e a = record { written = a.written; reads = reads; waits = a.waits; count = a.count; stopped = a.stopped; options = a.options }
    where
      reads : (before : List Item) → StandsBehind before r → Reads tried step r r' u a.written before
      reads before stands =
          let k = a.reads before record { sets_are = stands.sets_are; begun = stands.begun } in
          let I : List ℕ → Type 0 = λ x. IsItem r.plan.to r.init (sets_behind before) x k.item in
          let W : List ℕ → Type 0 = λ x. IsWritten (options_of tried r) before x k.item a.written in
          record { item = k.item; read = subst I e k.read; goes_on = k.goes_on; written_is = subst W e k.written_is; stands = k.stands; pick = k.pick }

  pub refused-taken : (r : Recoder P) (sp : Splitter) (before : List Item) (u v : List ℕ) (stopped : Stopped) → v ≡ u → IsRefusedBy tried (record r { splitter = sp }) before v stopped → IsRefusedBy tried r before u stopped
  refused-taken r sp before u v (Outside n why) e h = let R : List ℕ → Type 0 = λ x. Refuses r.plan.to r.init (sets_behind before) x why in (h.0, subst R e h.1)
  refused-taken r sp before u v Memory e h = h
  refused-taken r sp before u v (Stop case place) e h = let I : List ℕ → Type 0 = λ x. IsItem r.plan.to r.init (sets_behind before) x h.1.0 in (h.0, (h.1.0, subst I e h.1.1, h.1.2))

  pub stops-taken : (o : Options) (before : List Item) (u v : List ℕ) (stopped : Stopped) (old new : P) → v ≡ u → PickStops tried step o before v stopped old new → PickStops tried step o before u stopped old new
  stops-taken o before u v stopped old new e h = let S : List ℕ → Type 0 = λ x. PickStops tried step o before x stopped old new in subst S e h

  pub holds-more : (r r' : Recoder P) (first : P) (u fed : List ℕ) (taken : List (List ℕ)) (items : List Item) (drained : List Written) → (h : Holds tried step first r fed taken items drained) → Takes r.splitter r'.splitter u → (a : Adds tried step r r' u)
      → Holds tried step first r' fed (taken ++ u ∷ []) (items ++ (a.reads (behind items []) h.stands).item ∷ []) drained
  holds-more r r' first u fed taken items drained h k a =
      let o = options_of tried r in
      let next = a.reads (behind items []) h.stands in
      let all : List (List ℕ) = taken ++ u ∷ [] in
      let read : List Item = items ++ next.item ∷ [] in
      let J : Options → Type 0 = λ o. Judges o [] all None read None in
      let W : Options → Type 0 = λ o. AreWritten o [] all read (drained ++ waiting r') in
      let N : List Written → Type 0 = AreWritten o [] all read in
      let G : Options → Type 0 = λ o. GoesAlong tried step o [] read (drained ++ waiting r') first r'.pick in
      let D : List Written → Type 0 = λ w. GoesAlong tried step o [] read w first r'.pick in
      let B : List Item → Type 0 = λ before. StandsBehind before r' in
      let same : drained ++ waiting r' ≡ (drained ++ waiting r) ++ a.written ∷ [] = ap (λ w. drained ++ w) a.waits ∙ sym (append_assoc drained (waiting r) (a.written ∷ [])) in
      record {
        splitter = (k fed taken h.splitter).0;
        judged = subst J (sym a.options) (judges-more o [] taken (u ∷ []) None items (next.item ∷ []) None h.judged (next.read, next.goes_on, refl));
        written = subst W (sym a.options) (subst N (sym same) (written-more o [] taken (u ∷ []) items (next.item ∷ []) (drained ++ waiting r) (a.written ∷ []) h.judged h.written (next.written_is, refl)));
        count = omega (arith, a.count, h.count, length-append taken (u ∷ []));
        stands = subst B (sym (behind-append items next.item [])) next.stands;
        picked = subst G (sym a.options) (subst D (sym same) (goes-more tried step o [] items (drained ++ waiting r) next.item a.written first r.pick r'.pick h.picked next.pick));
      }

  -- the pick and what waits are as before
  goes_same : (r : Recoder P) (o : Options) (items : List Item) (drained now : List Written) (first last : P) → now ≡ waiting r → last ≡ r.pick → GoesAlong tried step o [] items (drained ++ waiting r) first r.pick → GoesAlong tried step o [] items (drained ++ now) first last
  goes_same r o items drained now first last same stays h =
      let G : P → Type 0 = λ p. GoesAlong tried step o [] items (drained ++ now) first p in
      let D : List Written → Type 0 = λ w. GoesAlong tried step o [] items (drained ++ w) first r.pick in
      subst G (sym stays) (subst D (sym same) h)

  -- the next unit is refused
  refused : (r : Recoder P) (sp : Splitter) (first last : P) (u fed : List ℕ) (taken : List (List ℕ)) (items : List Item) (drained now : List Written) (n : ℕ) (why : Why) → Takes r.splitter sp u → Holds tried step first r fed taken items drained
      → n ≡ r.units → Refuses r.plan.to r.init (sets_behind (behind items [])) u why → now ≡ waiting r → last ≡ r.pick → (fault : Option Why) → Verdict tried step (options_of tried r) (record (seen fed) { fault = fault }) (drained ++ now) (Outside n why) first last
  refused r sp first last u fed taken items drained now n why k h num refuses same stays fault =
      let o = options_of tried r in
      let next = next_units r.splitter sp u fed taken k h.splitter in
      verdict-next tried step o (seen fed).units taken (u ∷ next.0) fault items (drained ++ waiting r) (drained ++ now) (Outside n why) first last next.1 h.judged h.written (ap (λ w. drained ++ w) same) (goes_same r o items drained now first last same stays h.picked)
      (number_behind o n r.units taken items h.judged num h.count, refuses)

  -- the next unit can't be written
  stopped : (r : Recoder P) (sp : Splitter) (first last : P) (u fed : List ℕ) (taken : List (List ℕ)) (items : List Item) (drained now : List Written) (case : Case) (place : Place) (i : Item) → Takes r.splitter sp u → Holds tried step first r fed taken items drained
      → place.unit ≡ r.units → IsItem r.plan.to r.init (sets_behind (behind items [])) u i → stop_of (options_of tried r) (behind items []) i ≡ Some (case, place.mb) → now ≡ waiting r → last ≡ r.pick → (fault : Option Why)
      → Verdict tried step (options_of tried r) (record (seen fed) { fault = fault }) (drained ++ now) (Stop case place) first last
  stopped r sp first last u fed taken items drained now case place i k h num is stops same stays fault =
      let o = options_of tried r in
      let next = next_units r.splitter sp u fed taken k h.splitter in
      verdict-next tried step o (seen fed).units taken (u ∷ next.0) fault items (drained ++ waiting r) (drained ++ now) (Stop case place) first last next.1 h.judged h.written (ap (λ w. drained ++ w) same) (goes_same r o items drained now first last same stays h.picked)
      (number_behind o place.unit r.units taken items h.judged num h.count, (i, is, stops))

  -- ## The loop over the units that have ended

  -- some units were taken since r0
  abbrev pub Took : Recoder P → Recoder P → Type 0
  Took r0 r = (first : P) (fed : List ℕ) (taken : List (List ℕ)) (items : List Item) (drained : List Written) → Holds tried step first r0 fed taken items drained →
      (more : List (List ℕ)) × (others : List Item) × Holds tried step first r fed more others drained

  pub took-more : (r0 r r' : Recoder P) (u : List ℕ) → Took r0 r → Takes r.splitter r'.splitter u → Adds tried step r r' u → Took r0 r'
  took-more r0 r r' u before k a = λ first fed taken items drained h.
      let b = before first fed taken items drained h in
      (b.0 ++ u ∷ [], b.1 ++ (a.reads (behind b.1 []) b.2.stands).item ∷ [], holds-more r r' first u fed b.0 b.1 drained b.2 k a)

  pub none_more : (r0 r r' : Recoder P) (sp : Splitter) (u : List ℕ) (stop : Stopped) → Took r0 r → (more : List Written) × (waiting r ≡ waiting r0 ++ more) → options_of tried r ≡ options_of tried r0
      → Takes r.splitter sp u → waiting r' ≡ waiting r → ((before : List Item) → StandsBehind before r → PickStops tried step (options_of tried r) before u stop r.pick r'.pick) → ((before : List Item) → StandsBehind before r → IsRefusedBy tried r before u stop) → TakingStops tried step r0 r' stop
  none_more r0 r r' sp u (Outside n why) before grows options k same stays x = λ first fed taken items drained h fault.
      let b = before first fed taken items drained h in
      let V : Options → Type 0 = λ o. Verdict tried step o (record (seen fed) { fault = fault }) (drained ++ waiting r') (Outside n why) first r'.pick in
      let no = x (behind b.1 []) b.2.stands in
      let v = subst V options (refused r sp first r'.pick u fed b.0 b.1 drained (waiting r') n why k b.2 no.0 no.1 same (stays (behind b.1 []) b.2.stands) fault) in
      (v.items, v.recodes, v.are, v.picked)
  none_more r0 r r' sp u Memory before grows options k same stays x = λ first fed taken items drained h.
      let b = before first fed taken items drained h in
      let next = next_units r.splitter sp u fed b.0 k b.2.splitter in
      let J : Options → Type 0 = λ o. Judges o [] b.0 None b.1 None in
      let W : Options → Type 0 = λ o. AreWritten o [] b.0 b.1 (drained ++ waiting r') in
      let N : List Written → Type 0 = λ w. AreWritten (options_of tried r) [] b.0 b.1 (drained ++ w) in
      let D : List Written → Type 0 = λ w. GoesAlong tried step (options_of tried r) [] b.1 (drained ++ w) first r.pick in
      let G : Options → Type 0 = λ o. GoesAlong tried step o [] b.1 (drained ++ waiting r') first r.pick in
      let A : Options → Type 0 = λ o. GoesAtMost tried step o (behind b.1 []) (u ∷ next.0) r.pick r'.pick in
      (b.0, u ∷ next.0, b.1, next.1, subst J options b.2.judged, subst W options (subst N (sym same) b.2.written), (grows.0, same ∙ grows.1), (r.pick, subst G options (subst D (sym same) b.2.picked), subst A options (stays (behind b.1 []) b.2.stands)))
  none_more r0 r r' sp u (Stop case place) before grows options k same stays x = λ first fed taken items drained h fault.
      let b = before first fed taken items drained h in
      let V : Options → Type 0 = λ o. Verdict tried step o (record (seen fed) { fault = fault }) (drained ++ waiting r') (Stop case place) first r'.pick in
      let no = x (behind b.1 []) b.2.stands in
      let v = subst V options (stopped r sp first r'.pick u fed b.0 b.1 drained (waiting r') case place no.1.0 k b.2 no.0 no.1.1 no.1.2 same (stays (behind b.1 []) b.2.stands) fault) in
      (v.items, v.recodes, v.are, v.picked)

  pub all_more : (r0 r r' : Recoder P) → Took r0 r → waiting r' ≡ waiting r → r'.units ≡ r.units → ((before : List Item) → StandsBehind before r → StandsBehind before r') → options_of tried r' ≡ options_of tried r → r'.pick ≡ r.pick → IsAllTaken r.splitter → Keeps r.splitter r'.splitter → TakesAll tried step r0 r'
  all_more r0 r r' before same units stands options stays all keeps = λ first fed taken items drained h.
      let b = before first fed taken items drained h in
      let J : Options → Type 0 = λ o. Judges o [] b.0 None b.1 None in
      let W : Options → Type 0 = λ o. AreWritten o [] b.0 b.1 (drained ++ waiting r') in
      let N : List Written → Type 0 = λ w. AreWritten (options_of tried r) [] b.0 b.1 (drained ++ w) in
      let G : Options → Type 0 = λ o. GoesAlong tried step o [] b.1 (drained ++ waiting r') first r'.pick in
      let H : List (List ℕ) → Type 0 = λ us. Holds tried step first r' fed us b.1 drained in (
        b.1,
        subst H (sym (all fed b.0 b.2.splitter)) record {
          splitter = keeps fed b.0 b.2.splitter;
          judged = subst J (sym options) b.2.judged;
          written = subst W (sym options) (subst N (sym same) b.2.written);
          count = units ∙ b.2.count;
          stands = stands (behind b.1 []) b.2.stands;
          picked = subst G (sym options) (goes_same r (options_of tried r) b.1 drained (waiting r') first r'.pick same stays b.2.picked);
        },
      )
