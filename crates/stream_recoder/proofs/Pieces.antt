-- A piece fed to a recoder.
use Rattle.std.proofs.Common.{◌≡◌, ℕ, List, [], ◌∷◌, ◌++◌, sym, ap, subst, inl, ◌∙◌, append-nil}
use Rattle.std.specs.Prelude.{length, Option, Some, None, Result, Ok, Err, OnOk}
use Rattle.h264_types.specs.declared.fault.Why.{Why}
use Rattle.h264_types.specs.declared.fault.Stopped.{Stopped}
use Rattle.h264_types.specs.declared.fault.Stopped.TheVariants.{Stop, Outside, Memory}
use Rattle.h264_types.specs.Units.{Seen, seen}
use Rattle.h264_types.proofs.Stays.{seen-stays}
use Rattle.annexb_units.specs.Splitter.{Feeds, ShowsNone, Shows}
use Rattle.slice_rewrite.specs.Options.{Options}
use Rattle.slice_rewrite.specs.declared.pick.Tries.{Tries}
use Rattle.slice_rewrite.specs.Items.{Item, behind}
use Rattle.slice_rewrite.specs.Verdict.{unit_number, Judges, Recodes}
use Rattle.slice_rewrite.proofs.Judging.{length-behind_judged}
use Rattle.stream_recoder.specs.declared.recoder.Recoder.{Recoder}
use Rattle.stream_recoder.specs.Written.{Written, AreWritten, GoesAlong, GoesAtMost}
use Rattle.stream_recoder.specs.Recoder.{waiting, options_of, StandsBehind, Holds, HasRecoded, RecodesMore, RecodingStops, TakesAll, TakingStops}
use Rattle.stream_recoder.proofs.Units.{judges-next}

-- a fault behind units without a verdict is one
fault_ends : (o : Options) (s : Seen) (items : List Item) (why : Why) (n : ℕ) → Judges o [] s.units None items None → s.fault ≡ Some why → n ≡ unit_number (length s.units) → Recodes o s items (Some (Outside n why))
fault_ends o s items why n h fault num =
    let F : Option Why → Type 0 = λ f. Judges o [] s.units f items (Some (Outside n why)) in
    let U : List (List ℕ) → Type 0 = λ us. Judges o [] us (Some why) items (Some (Outside n why)) in
    subst F (sym fault) (subst U (append-nil s.units) (judges-next o s.units [] (Some why) items (Some (Outside n why)) h (ap (λ m. Some (Outside m why)) (num ∙ ap unit_number (sym (length-behind_judged o s.units items h))))))

no_both : (stop : Option Stopped) (s : Stopped) → stop ≡ Some s → stop ≡ None → ⊥
no_both stop s e k = let both : None ≡ Some s = sym k ∙ e in cc

module _ {P : Type 0} (tried : P → Tries) (step : P → List ℕ → ℕ → P → Type 0) where
  -- the splitter was fed, and nothing else has changed
  pub record Fed (r0 r1 : Recoder P) (piece : List ℕ) : Type 0 where
    pub fed : Feeds r0.splitter r1.splitter piece
    pub waits : waiting r1 ≡ waiting r0
    pub units : r1.units ≡ r0.units
    pub stands : (before : List Item) → StandsBehind before r0 → StandsBehind before r1
    pub options : options_of tried r1 ≡ options_of tried r0
    pub pick : r1.pick ≡ r0.pick

  holds-fed : (r0 r1 : Recoder P) (first : P) (piece fed : List ℕ) (drained : List Written) → Fed r0 r1 piece → (h : HasRecoded tried step first r0 fed drained) → Holds tried step first r1 (fed ++ piece) (seen fed).units h.items drained
  holds-fed r0 r1 first piece fed drained k h =
      let J : Options → Type 0 = λ o. Judges o [] (seen fed).units None h.items None in
      let W : Options → Type 0 = λ o. AreWritten o [] (seen fed).units h.items (drained ++ waiting r1) in
      let N : List Written → Type 0 = λ w. AreWritten (options_of tried r0) [] (seen fed).units h.items (drained ++ w) in
      let L : P → Type 0 = λ p. GoesAlong tried step (options_of tried r0) [] h.items (drained ++ waiting r0) first p in
      let D : List Written → Type 0 = λ w. GoesAlong tried step (options_of tried r0) [] h.items (drained ++ w) first r1.pick in
      let G : Options → Type 0 = λ o. GoesAlong tried step o [] h.items (drained ++ waiting r1) first r1.pick in
      record {
        splitter = k.fed fed (seen fed).units h.holds.splitter;
        judged = subst J (sym k.options) h.holds.judged;
        written = subst W (sym k.options) (subst N (sym k.waits) h.holds.written);
        count = k.units ∙ h.holds.count;
        stands = k.stands (behind h.items []) h.holds.stands;
        picked = subst G (sym k.options) (subst D (sym k.waits) (subst L (sym k.pick) h.holds.picked));
      }

  pub fed_ok : (r0 r1 r2 : Recoder P) (piece : List ℕ) → Fed r0 r1 piece → ShowsNone r0.splitter piece → TakesAll tried step r1 r2 → r2.stopped ≡ r0.stopped → RecodesMore tried step r0 r2 piece
  fed_ok r0 r1 r2 piece k none all on = λ first fed drained h.
      let next = all first (fed ++ piece) (seen fed).units h.items drained (holds-fed r0 r1 first piece fed drained k h) in
      record { items = next.0; holds = next.1; sound = none fed (seen fed).units h.holds.splitter; on = on ∙ h.on }

  pub fed_stops : (r0 r1 r2 : Recoder P) (piece : List ℕ) (stopped : Stopped) → Fed r0 r1 piece → TakingStops tried step r1 r2 stopped → RecodingStops tried step r0 r2 piece stopped
  fed_stops r0 r1 r2 piece (Outside n why) k t = λ first fed drained h.
      let s = seen (fed ++ piece) in
      let E : Options → Type 0 = λ o. (items : List Item) × Recodes o s items (Some (Outside n why)) × AreWritten o [] s.units items (drained ++ waiting r2) × GoesAlong tried step o [] items (drained ++ waiting r2) first r2.pick in
      subst E k.options (t first (fed ++ piece) (seen fed).units h.items drained (holds-fed r0 r1 first piece fed drained k h) s.fault)
  fed_stops r0 r1 r2 piece Memory k t = λ first fed drained h.
      let s = t first (fed ++ piece) (seen fed).units h.items drained (holds-fed r0 r1 first piece fed drained k h) in
      let J : Options → Type 0 = λ o. Judges o [] s.0 None s.2 None in
      let W : Options → Type 0 = λ o. AreWritten o [] s.0 s.2 (drained ++ waiting r2) in
      let G : Options → Type 0 = λ o. GoesAlong tried step o [] s.2 (drained ++ waiting r2) first s.7.0 in
      let A : Options → Type 0 = λ o. GoesAtMost tried step o (behind s.2 []) s.1 s.7.0 r2.pick in
      (s.0, s.1, s.2, s.3, subst J k.options s.4, subst W k.options s.5, (s.6.0, s.6.1 ∙ ap (λ v. v ++ s.6.0) k.waits), (s.7.0, subst G k.options s.7.1, subst A k.options s.7.2))
  fed_stops r0 r1 r2 piece (Stop case place) k t = λ first fed drained h.
      let s = seen (fed ++ piece) in
      let E : Options → Type 0 = λ o. (items : List Item) × Recodes o s items (Some (Stop case place)) × AreWritten o [] s.units items (drained ++ waiting r2) × GoesAlong tried step o [] items (drained ++ waiting r2) first r2.pick in
      subst E k.options (t first (fed ++ piece) (seen fed).units h.items drained (holds-fed r0 r1 first piece fed drained k h) s.fault)

  pub fed_bad : (r0 r1 r2 r3 : Recoder P) (piece : List ℕ) (n : ℕ) (why : Why) (stopped : Stopped) → Fed r0 r1 piece → Shows r0.splitter piece n why → TakesAll tried step r1 r2 → options_of tried r2 ≡ options_of tried r1 → waiting r3 ≡ waiting r2
      → r3.pick ≡ r2.pick → stopped ≡ Outside n why → RecodingStops tried step r0 r3 piece stopped
  fed_bad r0 r1 r2 r3 piece n why stopped k shows all options same stays e =
      let E : Stopped → Type 0 = RecodingStops tried step r0 r3 piece in
      subst E (sym e) (λ first fed drained h.
      let next = all first (fed ++ piece) (seen fed).units h.items drained (holds-fed r0 r1 first piece fed drained k h) in
      let s = seen (fed ++ piece) in
      let fault = shows fed (seen fed).units h.holds.splitter in
      let J : Options → Type 0 = λ o. Judges o [] s.units None next.0 None in
      let W : Options → Type 0 = λ o. AreWritten o [] s.units next.0 (drained ++ waiting r3) in
      let N : List Written → Type 0 = λ w. AreWritten (options_of tried r2) [] s.units next.0 (drained ++ w) in
      let L : P → Type 0 = λ p. GoesAlong tried step (options_of tried r2) [] next.0 (drained ++ waiting r2) first p in
      let D : List Written → Type 0 = λ w. GoesAlong tried step (options_of tried r2) [] next.0 (drained ++ w) first r3.pick in
      let G : Options → Type 0 = λ o. GoesAlong tried step o [] next.0 (drained ++ waiting r3) first r3.pick in
      (next.0, fault_ends (options_of tried r0) s next.0 why n (subst J (options ∙ k.options) next.1.judged) fault.0 fault.1, subst W (options ∙ k.options) (subst N (sym same) next.1.written), subst G (options ∙ k.options) (subst D (sym same) (subst L (sym stays) next.1.picked))))

  -- with none of these units
  at_most : (o : Options) (before : List Item) (units : List (List ℕ)) (old new : P) → new ≡ old → GoesAtMost tried step o before units old new
  at_most o before [] old new same = same
  at_most o before (unit ∷ units) old new same = inl same

  pub fed_memory : (r0 r3 : Recoder P) (piece : List ℕ) (stopped : Stopped) → waiting r3 ≡ waiting r0 → r3.pick ≡ r0.pick → stopped ≡ Memory → RecodingStops tried step r0 r3 piece stopped
  fed_memory r0 r3 piece stopped same stays e =
      let E : Stopped → Type 0 = RecodingStops tried step r0 r3 piece in
      subst E (sym e) (λ first fed drained h.
      let more = (seen-stays fed piece).units in
      let N : List Written → Type 0 = λ w. AreWritten (options_of tried r0) [] (seen fed).units h.items (drained ++ w) in
      let D : List Written → Type 0 = λ w. GoesAlong tried step (options_of tried r0) [] h.items (drained ++ w) first r0.pick in
      ((seen fed).units, more.0, h.items, more.1, h.holds.judged, subst N (sym same) h.holds.written, ([], same ∙ sym (append-nil (waiting r0))), (r0.pick, subst D (sym same) h.holds.picked, at_most (options_of tried r0) (behind h.items []) more.0 r0.pick r3.pick stays)))

  -- a recoder that has stopped stands for no bytes
  pub stopped_before : (r : Recoder P) (piece : List ℕ) (stopped : Stopped) → r.stopped ≡ Some stopped → RecodingStops tried step r r piece stopped
  stopped_before r piece (Outside n why) e = λ first fed drained h. let k = h.on in absurd (no_both r.stopped (Outside n why) e k)
  stopped_before r piece Memory e = λ first fed drained h. let k = h.on in absurd (no_both r.stopped Memory e k)
  stopped_before r piece (Stop case place) e = λ first fed drained h. let k = h.on in absurd (no_both r.stopped (Stop case place) e k)

-- two facts of an `Ok`
pub on_ok_two : {T E : Type 0} → (P Q R : Type 0) (r : Result T E) → (P → Q → R) → OnOk r P → OnOk r Q → OnOk r R
on_ok_two P Q R (Ok x) f h k = f h k
on_ok_two P Q R (Err e) f h k = tt
