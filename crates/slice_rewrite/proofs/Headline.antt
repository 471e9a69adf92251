-- What is written for a stream says the same as the stream.
use Rattle.std.proofs.Common.{◌≡◌, ℕ, ◌+◌, ◌<◌, arith, ℤ, pos, List, [], ◌∷◌, ◌++◌, map, Option, Some, None, Bool, true, false, refl, sym, ap, subst, ◌∙◌}
use Rattle.std.specs.Prelude.{if◌then◌else◌}
use Rattle.std.proofs.lemmas.List.{map-append}
use Rattle.std.proofs.lemmas.List.Folds.{concat-append}
use Rattle.std.specs.List.{concat}
use Rattle.h264_types.specs.declared.fault.Why.{Why}
use Rattle.h264_types.specs.declared.layer.Layer.{Layer}
use Rattle.h264_types.specs.Units.{Seen, Splits, seen_whole}
use Rattle.h264_types.specs.Qp.{next_qp}
use Rattle.h264_types.specs.declared.macroblock.Mb.{Mb}
use Rattle.h264_types.proofs.Whole.{splits-seen, seen-splits}
use Rattle.pattern_fix.specs.NormalPattern.{normal}
use Rattle.pattern_fix.proofs.NormalLaws.{normal-normal}
use Rattle.param_sets.specs.PpsCodes.{pps_in}
use Rattle.param_sets.specs.Sets.{no_sets}
use Rattle.param_sets.specs.declared.pps.Pps.{Pps}
use Rattle.param_sets.specs.SpsCodes.{without_constraints}
use Rattle.slice_header.specs.Shape.{shape_of}
use Rattle.slice_rewrite.specs.Options.{Options, IsTried}
use Rattle.slice_rewrite.specs.declared.pick.Tries.{Tries}
use Rattle.slice_rewrite.specs.declared.pick.Tries.TheVariants.{One, All}
use Rattle.init_table.specs.declared.table.InitTable.{InitTable}
use Rattle.slice_rewrite.specs.Items.{Slice, Item, Carried, TheSps, ThePps, TheSlice, behind, sets_behind, AreItems}
use Rattle.slice_rewrite.specs.Periods.{begins_idr, idr_before, idr_of, is_in_range, is_period_in, number_in, periods_in}
use Rattle.slice_rewrite.specs.Verdict.{Judges, Recodes}
use Rattle.slice_rewrite.specs.Written.{IsSliceUnit, with_start_code, IsUnitFor, AreUnitsFor, IsFormOf, AreForms, IsOutput, pps_units, slice_in, slice_under}
use Rattle.slice_data.specs.WrittenForm.{written_mb}
use Rattle.slice_rewrite.specs.View.{with_qp, SliceView, CarriedView, SpsView, TheSliceView, slice_view, view, Reads, CanBeWritten, IsInLayer, AreInLayer, are_in_range, SaysTheSame}
use Rattle.slice_rewrite.proofs.Judging.{no-fault}
use Rattle.slice_rewrite.proofs.Normal.{written-written}
use Rattle.slice_rewrite.proofs.Reasons.{same-item}
use Rattle.slice_rewrite.proofs.Splitting.{AllFit, split-units_fit, written-splits}
use Rattle.slice_rewrite.proofs.ComesBack.{one_slice_unit, slice_for, pps_items, items_for, IsUnitOf, AreUnitsOf, item-back}
use Rattle.slice_rewrite.proofs.WrittenSets.{Stand}

-- ## What is judged without a verdict is read, and the other way round

items-judged : (o : Options) (before : List Item) (us : List (List ℕ)) (fault : Option Why) (items : List Item) → Judges o before us fault items None → AreItems o.to o.init before us items
items-judged o before [] fault [] h = tt
items-judged o before [] fault (i ∷ items) h = absurd h
items-judged o before (u ∷ us) fault [] h = absurd h
items-judged o before (u ∷ us) fault (i ∷ items) h = (h.0, items-judged o (i ∷ before) us fault items h.2)

judged-items : (o : Options) (before : List Item) (us : List (List ℕ)) (items : List Item) → AreItems o.to o.init before us items → CanBeWritten o before items → Judges o before us None items None
judged-items o before [] [] h can = refl
judged-items o before [] (i ∷ items) h can = absurd h
judged-items o before (u ∷ us) [] h can = absurd h
judged-items o before (u ∷ us) (i ∷ items) h can = (h.0, can.0, judged-items o (i ∷ before) us items h.1 can.1)

judged-can : (o : Options) (before : List Item) (us : List (List ℕ)) (fault : Option Why) (items : List Item) → Judges o before us fault items None → CanBeWritten o before items
judged-can o before [] fault [] h = tt
judged-can o before [] fault (i ∷ items) h = absurd h
judged-can o before (u ∷ us) fault [] h = absurd h
judged-can o before (u ∷ us) fault (i ∷ items) h = (h.1, judged-can o (i ∷ before) us fault items h.2)

pub reads-recoded : (o : Options) (b : List ℕ) (items : List Item) → Recodes o (seen_whole b) items None → Reads o.to o.init b items
reads-recoded o b items h =
    let P : Option Why → Type 0 = λ fault. Splits b (seen_whole b).units fault in
    ((seen_whole b).units, subst P (no-fault o [] (seen_whole b).units (seen_whole b).fault items h) (seen-splits b), items-judged o [] (seen_whole b).units (seen_whole b).fault items h)

pub recodes-writable : (o : Options) (b : List ℕ) (items : List Item) → Recodes o (seen_whole b) items None → CanBeWritten o [] items
recodes-writable o b items h = judged-can o [] (seen_whole b).units (seen_whole b).fault items h

pub recodes-read : (o : Options) (b : List ℕ) (items : List Item) → Reads o.to o.init b items → CanBeWritten o [] items → Recodes o (seen_whole b) items None
recodes-read o b items h can =
    let P : Seen → Type 0 = λ s. Recodes o s items None in
    subst P (sym (splits-seen b h.0 None h.1)) (judged-items o [] h.0 items h.2 can)

items-once : (to later : Layer) (init : InitTable) (before : List Item) (us : List (List ℕ)) (is js : List Item) → AreItems to init before us is → AreItems later init before us js → is ≡ js
items-once to later init before [] [] [] a b = refl
items-once to later init before [] (i ∷ is) js a b = absurd a
items-once to later init before [] [] (j ∷ js) a b = absurd b
items-once to later init before (u ∷ us) [] js a b = absurd a
items-once to later init before (u ∷ us) (i ∷ is) [] a b = absurd b
items-once to later init before (u ∷ us) (i ∷ is) (j ∷ js) a b =
    let e = same-item to later init (sets_behind before) u i j a.0 b.0 in
    let P : Item → Type 0 = λ k. AreItems to init (k ∷ before) us is in
    ap (λ k. k ∷ is) e ∙ ap (λ k. j ∷ k) (items-once to later init (j ∷ before) us is js (subst P e a.1) b.1)

-- a stream is read in one way, whichever layers it is read for
pub one-reading : (to later : Layer) (init : InitTable) (b : List ℕ) (first second : List Item) → Reads to init b first → Reads later init b second → first ≡ second
one-reading to later init b first second h k =
    let same : h.0 ≡ k.0 = ap (λ (s : Seen). s.units) (sym (splits-seen b h.0 None h.1) ∙ splits-seen b k.0 None k.1) in
    let P : List (List ℕ) → Type 0 = λ us. AreItems to init [] us first in
    items-once to later init [] k.0 first second (subst P same h.2) k.2

-- ## What is written

abbrev without_delta : Mb → Mb
without_delta mb = record mb { qp_delta = pos 0; ref0 = false }

-- numbers that may be tried are below 3
tried_below : (tries : Tries) (idc : ℕ) → IsTried tries idc → idc < 3
tried_below (One k) idc is = is.0
tried_below All idc is = is

-- each unit is written under some number
unit-of : (inside : Bool) (o : Options) (u : List ℕ) (s : Slice) (new : List ℕ) → IsUnitFor inside o u s new → (idc : ℕ) × (idc < 3) × IsUnitOf inside o idc u s new
unit-of true o u s new (idc, (tried, is)) = (idc, tried_below o.tries idc tried, is)
unit-of false o u s new is = (0, omega arith, is)

units-of : (o : Options) (before : List Item) (u : List ℕ) (i : Item) (units : List (List ℕ)) → AreUnitsFor o before u i units → (idc : ℕ) × (idc < 3) × AreUnitsOf o before idc u i units
units-of o before u (Carried v) units is = (0, omega arith, is)
units-of o before u (TheSps header sps) units is = (0, omega arith, is)
units-of o before u (ThePps header pps) units is = (0, omega arith, is)
units-of o before u (TheSlice s) units (new, is, e) = let w = unit-of (is_in_range o.range before s) o u s new is in (w.0, w.1, (new, w.2, e))

-- these items are those that are written for items behind others, of which the last one comes first
abbrev AreBack : Options → List Item → List Item → List Item → Type 0
AreBack o before [] back = back ≡ []
AreBack o before (i ∷ items) back = (idc : ℕ) × (rest : List Item) × (back ≡ items_for o.to o.range before idc i ++ rest) × AreBack o (i ∷ before) items rest

-- what is written is read as them
record Back (o : Options) (before there items : List Item) (bytes : List ℕ) : Type 0 where
  units : List (List ℕ)
  back : List Item
  are : AreItems o.to o.init there units back
  fit : AllFit units
  back_is : AreBack o before items back
  bytes_are : bytes ≡ concat (map with_start_code units)

are-append : (to : Layer) (init : InitTable) (there : List Item) (us vs : List (List ℕ)) (is js : List Item) → AreItems to init there us is → AreItems to init (behind is there) vs js → AreItems to init there (us ++ vs) (is ++ js)
are-append to init there [] vs [] js a b = b
are-append to init there [] vs (i ∷ is) js a b = absurd a
are-append to init there (u ∷ us) vs [] js a b = absurd a
are-append to init there (u ∷ us) vs (i ∷ is) js a b = (a.0, are-append to init (i ∷ there) us vs is js a.1 b)

fit-append : (us vs : List (List ℕ)) → AllFit us → AllFit vs → AllFit (us ++ vs)
fit-append [] vs a b = b
fit-append (u ∷ us) vs a b = (a.0, fit-append us vs a.1 b)

start_codes-append : (us vs : List (List ℕ)) → concat (map with_start_code (us ++ vs)) ≡ concat (map with_start_code us) ++ concat (map with_start_code vs)
start_codes-append us vs = ap concat (map-append with_start_code us vs) ∙ concat-append (map with_start_code us) (map with_start_code vs)

all-back : (o : Options) (before there : List Item) (us : List (List ℕ)) (fault : Option Why) (items : List Item) (forms : List (List ℕ)) → Stand o.to o.range (sets_behind before) (sets_behind there) → AllFit us → Judges o before us fault items None
    → AreForms o before us items forms → Back o before there items (concat forms)
all-back o before there [] fault [] forms stand fits h are = record { units = []; back = []; are = tt; fit = tt; back_is = refl; bytes_are = ap concat are }
all-back o before there [] fault (i ∷ items) forms stand fits h are = absurd h
all-back o before there (u ∷ us) fault [] forms stand fits h are = absurd h
all-back o before there (u ∷ us) fault (i ∷ items) [] stand fits h are = absurd are
all-back o before there (u ∷ us) fault (i ∷ items) (form ∷ forms) stand fits h are =
    let units = are.0.0 in
    let w = units-of o before u i units are.0.1 in
    let back = items_for o.to o.range before w.0 i in
    let b = item-back o w.0 before there u i units w.1 stand fits.0 h.0 h.1 w.2 in
    let rest = all-back o (i ∷ before) (behind back there) us fault items forms b.stand fits.1 h.2 are.1 in
    record {
      units = units ++ rest.units;
      back = back ++ rest.back;
      are = are-append o.to o.init there units rest.units back rest.back b.are rest.are;
      fit = fit-append units rest.units b.fit rest.fit;
      back_is = (w.0, rest.back, refl, rest.back_is);
      bytes_are = ap (λ x. x ++ concat forms) are.0.2 ∙ ap (λ x. concat (map with_start_code units) ++ x) rest.bytes_are ∙ sym (start_codes-append units rest.units);
    }

-- ## Slices in range

-- as many periods have begun in what is written, and the last slice is of the same picture
record Along (before there : List Item) : Type 0 where
  idr : idr_before there ≡ idr_before before
  count : periods_in there ≡ periods_in before

along-pps : (to : Layer) (range : Option (ℕ × ℕ)) (before there : List Item) (header : ℕ) (pps : Pps) → Along before there → Along before (behind (pps_items to range header pps) there)
along-pps to None before there header pps a = record { idr = a.idr; count = a.count }
along-pps to (Some range) before there header pps a = record { idr = a.idr; count = a.count }

along-slice : (inside : Bool) (to : Layer) (range : Option (ℕ × ℕ)) (idc : ℕ) (before there : List Item) (s : Slice) → Along before there → Along (TheSlice s ∷ before) (TheSlice (slice_for inside to range idc s) ∷ there)
along-slice inside to range idc before there s a = record { idr = same inside; count = counted inside }
  where
    same : (b : Bool) → idr_of (slice_for b to range idc s) ≡ idr_of s
    same true = refl
    same false = refl

    counted : (b : Bool) → periods_in (TheSlice (slice_for b to range idc s) ∷ there) ≡ periods_in (TheSlice s ∷ before)
    counted b =
        ap (λ now. if begins_idr (idr_before there) now then periods_in there + 1 else periods_in there) (same b)
        ∙ ap (λ last. if begins_idr last (idr_of s) then periods_in there + 1 else periods_in there) a.idr
        ∙ ap (λ n. if begins_idr (idr_before before) (idr_of s) then n + 1 else n) a.count

along-next : (to : Layer) (range : Option (ℕ × ℕ)) (idc : ℕ) (before there : List Item) (i : Item) → Along before there → Along (i ∷ before) (behind (items_for to range before idc i) there)
along-next to range idc before there (Carried u) a = record { idr = a.idr; count = a.count }
along-next to range idc before there (TheSps header sps) a = record { idr = a.idr; count = a.count }
along-next to range idc before there (ThePps header pps) a = let b = along-pps to range before there header pps a in record { idr = b.idr; count = b.count }
along-next to range idc before there (TheSlice s) a = along-slice (is_in_range range before s) to range idc before there s a

layer-pps : (to : Layer) (range other : Option (ℕ × ℕ)) (there : List Item) (header : ℕ) (pps : Pps) (rest : List Item) → AreInLayer to range (behind (pps_items to other header pps) there) rest → AreInLayer to range there (pps_items to other header pps ++ rest)
layer-pps to range None there header pps rest are = are
layer-pps to range (Some other) there header pps rest are = are

layer-slice : (inside : Bool) (to : Layer) (range : Option (ℕ × ℕ)) (idc : ℕ) (s : Slice) → IsInLayer inside to (slice_for inside to range idc s)
layer-slice true to range idc s = refl
layer-slice false to range idc s = tt

layer-behind : (to : Layer) (range : Option (ℕ × ℕ)) (idc : ℕ) (before there : List Item) (i : Item) (rest : List Item) → Along before there → AreInLayer to range (behind (items_for to range before idc i) there) rest
    → AreInLayer to range there (items_for to range before idc i ++ rest)
layer-behind to range idc before there (Carried u) rest a are = are
layer-behind to range idc before there (TheSps header sps) rest a are = are
layer-behind to range idc before there (ThePps header pps) rest a are = layer-pps to range range there header pps rest are
layer-behind to range idc before there (TheSlice s) rest a are =
    let inside = is_in_range range before s in
    let same = (along-slice inside to range idc before there s a).count in
    let P : ℕ → Type 0 = λ period. IsInLayer (is_period_in range period) to (slice_for inside to range idc s) in
    (subst P (sym same) (layer-slice inside to range idc s), are)

in-layer : (o : Options) (before there items back : List Item) → Along before there → AreBack o before items back → AreInLayer o.to o.range there back
in-layer o before there [] back a are = let P : List Item → Type 0 = AreInLayer o.to o.range there in subst P (sym are) tt
in-layer o before there (i ∷ items) back a (idc, rest, e, are) =
    let P : List Item → Type 0 = AreInLayer o.to o.range there in
    let later = in-layer o (i ∷ before) (behind (items_for o.to o.range before idc i) there) items rest (along-next o.to o.range idc before there i a) are in
    subst P (sym e) (layer-behind o.to o.range idc before there i rest a later)

same-pps_range : (to : Layer) (range other : Option (ℕ × ℕ)) (there : List Item) (header : ℕ) (pps : Pps) (rest : List Item) → are_in_range range there (pps_items to other header pps ++ rest) ≡ are_in_range range (behind (pps_items to other header pps) there) rest
same-pps_range to range None there header pps rest = refl
same-pps_range to range (Some other) there header pps rest = refl

same-range_behind : (to : Layer) (range : Option (ℕ × ℕ)) (idc : ℕ) (before there : List Item) (i : Item) (rest others : List Item) → Along before there
    → are_in_range range (behind (items_for to range before idc i) there) rest ≡ are_in_range range (i ∷ before) others → are_in_range range there (items_for to range before idc i ++ rest) ≡ are_in_range range before (i ∷ others)
same-range_behind to range idc before there (Carried u) rest others a e = e
same-range_behind to range idc before there (TheSps header sps) rest others a e = e
same-range_behind to range idc before there (ThePps header pps) rest others a e = same-pps_range to range range there header pps rest ∙ e
same-range_behind to range idc before there (TheSlice s) rest others a e =
    let t = slice_for (is_in_range range before s) to range idc s in
    ap (λ period. is_period_in range period ∷ are_in_range range (TheSlice t ∷ there) rest) (along-slice (is_in_range range before s) to range idc before there s a).count ∙ ap (λ later. is_in_range range before s ∷ later) e

same-range : (o : Options) (before there items back : List Item) → Along before there → AreBack o before items back → are_in_range o.range there back ≡ are_in_range o.range before items
same-range o before there [] back a are = ap (are_in_range o.range there) are
same-range o before there (i ∷ items) back a (idc, rest, e, are) =
    let later = same-range o (i ∷ before) (behind (items_for o.to o.range before idc i) there) items rest (along-next o.to o.range idc before there i a) are in
    ap (are_in_range o.range there) e ∙ same-range_behind o.to o.range idc before there i rest items a later

-- ## What both streams say

same_entry : (mb other : Mb) → mb ≡ other → without_delta mb ≡ without_delta other
same_entry mb other e = ap without_delta e

-- the written form has the quantisers, and in normal form says the same
same-qps : (to : Layer) (qp : ℤ) (mbs : List Mb) → with_qp qp (map normal (map (written_mb to) mbs)) ≡ with_qp qp (map normal mbs)
same-qps to qp [] = refl
same-qps to qp (mb ∷ mbs) =
    let next = next_qp qp mb.qp_delta in
    ap (λ (m : Mb). (next, m) ∷ with_qp next (map normal (map (written_mb to) mbs))) (same_entry (normal (normal mb)) (normal mb) (normal-normal mb))
    ∙ ap (λ rest. (next, without_delta (normal mb)) ∷ rest) (same-qps to next mbs)

same-slice : (inside : Bool) (to : Layer) (range : Option (ℕ × ℕ)) (idc : ℕ) (s : Slice) → slice_view (slice_for inside to range idc s) ≡ slice_view s
same-slice true to range idc s = ap (λ entries. let v : SliceView = record (slice_view s) { mbs = entries } in v) (same-qps to (pos (shape_of s.active s.header).qp) s.mbs)
same-slice false to range idc s = refl

same-pps : (to : Layer) (range : Option (ℕ × ℕ)) (header : ℕ) (pps : Pps) (rest : List Item) → view (pps_items to range header pps ++ rest) ≡ view rest
same-pps to None header pps rest = refl
same-pps to (Some range) header pps rest = refl

same-behind : (to : Layer) (range : Option (ℕ × ℕ)) (before : List Item) (idc : ℕ) (i : Item) (rest others : List Item) → view rest ≡ view others → view (items_for to range before idc i ++ rest) ≡ view (i ∷ others)
same-behind to range before idc (Carried u) rest others e = ap (λ v. CarriedView u ∷ v) e
same-behind to range before idc (TheSps header sps) rest others e = ap (λ v. SpsView header (without_constraints sps) ∷ v) e
same-behind to range before idc (ThePps header pps) rest others e = same-pps to range header pps rest ∙ e
same-behind to range before idc (TheSlice s) rest others e =
    ap (λ v. TheSliceView v ∷ view rest) (same-slice (is_in_range range before s) to range idc s) ∙ ap (λ v. TheSliceView (slice_view s) ∷ v) e

same-view : (o : Options) (before items back : List Item) → AreBack o before items back → view back ≡ view items
same-view o before [] back are = ap view are
same-view o before (i ∷ items) back (idc, rest, e, are) = ap view e ∙ same-behind o.to o.range before idc i rest items (same-view o (i ∷ before) items rest are)

stand-none : (to : Layer) (range : Option (ℕ × ℕ)) → Stand to range no_sets no_sets
stand-none to range = record { sps = λ n. refl; moved = λ n pps e. absurd (let some : None ≡ Some pps = e in cc); kept = λ period out n pps e. e; few = λ n pps e. absurd (let some : None ≡ Some pps = e in cc) }

-- ## Written forms stay

map-written : (to other : Layer) (mbs : List Mb) → map (written_mb to) (map (written_mb other) mbs) ≡ map (written_mb to) mbs
map-written to other [] = refl
map-written to other (mb ∷ mbs) = ap (λ m. m ∷ map (written_mb to) (map (written_mb other) mbs)) (written-written to other mb) ∙ ap (λ ms. written_mb to mb ∷ ms) (map-written to other mbs)

-- by way of any layer, under any numbers
under-stays : (to other : Layer) (number own idc before : ℕ) (s : Slice) → slice_under to number idc (slice_under other own before s) ≡ slice_under to number idc s
under-stays to other number own idc before s = ap (λ ms. let v : Slice = record (slice_under to number idc s) { mbs = ms } in v) (map-written to other s.mbs)

pub slice-stays : (to other : Layer) (idc before : ℕ) (s : Slice) → slice_in to idc (slice_in other before s) ≡ slice_in to idc s
slice-stays to other idc before s = under-stays to other s.header.pic_parameter_set_id s.header.pic_parameter_set_id idc before s

-- ## One output

one_form : (o : Options) (idc : ℕ) (before : List Item) (u : List ℕ) (i : Item) (first second : List ℕ) → o.tries ≡ One idc → IsFormOf o before u i first → IsFormOf o before u i second → first ≡ second
one_form o idc before u i first second e a b = a.2 ∙ ap (λ x. concat (map with_start_code x)) (same_units i a.0 b.0 a.1 b.1) ∙ sym b.2
  where
    tried : (n : ℕ) → IsTried o.tries n → n ≡ idc
    tried n is = let P : Tries → Type 0 = λ t. IsTried t n in (subst P e is).1

    same_unit : (inside : Bool) (s : Slice) (new other : List ℕ) → IsUnitFor inside o u s new → IsUnitFor inside o u s other → new ≡ other
    same_unit true s new other (n, (try, is)) (m, (try', js)) =
        let number = number_in o.range s.header.pic_parameter_set_id in
        let N : ℕ → Type 0 = λ k. IsSliceUnit o.init (slice_under o.to number k s) other in
        one_slice_unit o.init (slice_under o.to number n s) new other is (subst N (tried m try' ∙ sym (tried n try)) js)
    same_unit false s new other is js = is ∙ sym js

    same_units : (i : Item) (us vs : List (List ℕ)) → AreUnitsFor o before u i us → AreUnitsFor o before u i vs → us ≡ vs
    same_units (Carried v) us vs is js = is ∙ sym js
    same_units (TheSps header sps) us vs is js = is ∙ sym js
    same_units (ThePps header pps) us vs is js = is ∙ sym js
    same_units (TheSlice s) us vs (new, is, us_are) (other, js, vs_are) = us_are ∙ ap (λ x. x ∷ []) (same_unit (is_in_range o.range before s) s new other is js) ∙ sym vs_are

one_forms : (o : Options) (idc : ℕ) (before : List Item) (us : List (List ℕ)) (items : List Item) (first second : List (List ℕ)) → o.tries ≡ One idc → AreForms o before us items first → AreForms o before us items second → first ≡ second
one_forms o idc before [] items first second e a b = a ∙ sym b
one_forms o idc before (u ∷ us) [] first second e a b = a ∙ sym b
one_forms o idc before (u ∷ us) (i ∷ items) [] second e a b = absurd a
one_forms o idc before (u ∷ us) (i ∷ items) (x ∷ first) [] e a b = absurd b
one_forms o idc before (u ∷ us) (i ∷ items) (x ∷ first) (y ∷ second) e a b =
    ap (λ z. z ∷ first) (one_form o idc before u i x y e a.0 b.0) ∙ ap (λ z. y ∷ z) (one_forms o idc (i ∷ before) us items first second e a.1 b.1)

pub one-output : (o : Options) (idc : ℕ) (us : List (List ℕ)) (items : List Item) (first second : List ℕ) → o.tries ≡ One idc → IsOutput o us items first → IsOutput o us items second → first ≡ second
one-output o idc us items first second e a b = a.2 ∙ ap concat (one_forms o idc [] us items a.0 b.0 e a.1 b.1) ∙ sym b.2

-- ## Whole streams

comes-back : (o : Options) (b : List ℕ) (items : List Item) (bytes : List ℕ) → Recodes o (seen_whole b) items None → IsOutput o (seen_whole b).units items bytes → Back o [] [] items bytes
comes-back o b items bytes h out =
    let us = (seen_whole b).units in
    let P : List ℕ → Type 0 = λ x. Back o [] [] items x in
    subst P (sym out.2) (all-back o [] [] us (seen_whole b).fault items out.0 (stand-none o.to o.range) (split-units_fit b us (seen_whole b).fault (seen-splits b)) h out.1)

back-splits : (o : Options) (items : List Item) (bytes : List ℕ) (w : Back o [] [] items bytes) → Splits bytes w.units None
back-splits o items bytes w = let P : List ℕ → Type 0 = λ x. Splits x w.units None in subst P (sym w.bytes_are) (written-splits w.units w.fit)

pub says-the-same : (o : Options) (b : List ℕ) (items : List Item) (bytes : List ℕ) → Recodes o (seen_whole b) items None → IsOutput o (seen_whole b).units items bytes → SaysTheSame o items bytes
says-the-same o b items bytes h out =
    let w = comes-back o b items bytes h out in
    let along : Along [] [] = record { idr = refl; count = refl } in
    record {
      back = w.back;
      reads = (w.units, back-splits o items bytes w, w.are);
      layer = in-layer o [] [] items w.back along w.back_is;
      periods = same-range o [] [] items w.back along w.back_is;
      same = same-view o [] items w.back w.back_is;
    }

-- ## Recoded again

-- the item that is written for one in a run that isn't partial
abbrev item_in : Layer → ℕ → Item → Item
item_in to idc (Carried u) = Carried u
item_in to idc (TheSps header sps) = TheSps header (without_constraints sps)
item_in to idc (ThePps header pps) = ThePps header (pps_in to pps.pic_parameter_set_id pps)
item_in to idc (TheSlice s) = TheSlice (slice_in to idc s)

whole-items : (o : Options) (before : List Item) (idc : ℕ) (i : Item) → o.range ≡ None → items_for o.to o.range before idc i ≡ item_in o.to idc i ∷ []
whole-items o before idc (Carried u) whole = refl
whole-items o before idc (TheSps header sps) whole = refl
whole-items o before idc (ThePps header pps) whole = ap (λ r. pps_items o.to r header pps) whole
whole-items o before idc (TheSlice s) whole = ap (λ r. TheSlice (slice_for (is_in_range r before s) o.to r idc s) ∷ []) whole

-- what is written for the form of an item in any layer is what is written for the item
form_again : (o : Options) (other : Layer) (k : ℕ) (before there : List Item) (u new : List ℕ) (i : Item) (form : List ℕ) → o.range ≡ None → IsFormOf o there new (item_in other k i) form → IsFormOf o before u i form
form_again o other k before there u new i form whole (units, are, e) = (units, units_again i units are, e)
  where
    in_range : (there : List Item) (s : Slice) → is_in_range o.range there s ≡ true
    in_range there s = ap (λ r. is_in_range r there s) whole

    unit_again : (s : Slice) (unit : List ℕ) → IsUnitFor true o new (slice_in other k s) unit → IsUnitFor true o u s unit
    unit_again s unit (idc, (tried, is)) =
        let P : Slice → Type 0 = λ t. IsSliceUnit o.init t unit in
        (idc, (tried, subst P (under-stays o.to other (number_in o.range s.header.pic_parameter_set_id) s.header.pic_parameter_set_id idc k s) is))

    units_again : (i : Item) (units : List (List ℕ)) → AreUnitsFor o there new (item_in other k i) units → AreUnitsFor o before u i units
    units_again (Carried v) units is = is
    units_again (TheSps header sps) units is = is
    units_again (ThePps header pps) units is = is ∙ ap (λ r. pps_units o r new header (pps_in other pps.pic_parameter_set_id pps)) whole ∙ sym (ap (λ r. pps_units o r u header pps) whole)
    units_again (TheSlice s) units (unit, is, e) =
        let I : Bool → Type 0 = λ b. IsUnitFor b o new (slice_in other k s) unit in
        let O : Bool → Type 0 = λ b. IsUnitFor b o u s unit in
        (unit, subst O (sym (in_range before s)) (unit_again s unit (subst I (in_range there (slice_in other k s)) is)), e)

forms_again : (again o : Options) (before there : List Item) (us : List (List ℕ)) (items : List Item) (units : List (List ℕ)) (back : List Item) (forms : List (List ℕ)) → o.range ≡ None → again.range ≡ None → AreItems o.to o.init before us items
    → AreItems o.to o.init there units back → AreBack o before items back → AreForms again there units back forms → AreForms again before us items forms
forms_again again o before there [] [] units back forms whole all h back_are is are = none units (let P : List Item → Type 0 = λ x. AreForms again there units x forms in subst P is are)
  where
    none : (units : List (List ℕ)) → AreForms again there units [] forms → forms ≡ []
    none [] are = are
    none (u ∷ units) are = are
forms_again again o before there [] (i ∷ items) units back forms whole all h back_are is are = absurd h
forms_again again o before there (u ∷ us) [] units back forms whole all h back_are is are = absurd h
forms_again again o before there (u ∷ us) (i ∷ items) units back forms whole all h back_are (idc, rest, e, is) are =
    let one : back ≡ item_in o.to idc i ∷ rest = e ∙ ap (λ x. x ++ rest) (whole-items o before idc i whole) in
    let I : List Item → Type 0 = λ x. AreItems o.to o.init there units x in
    let F : List Item → Type 0 = λ x. AreForms again there units x forms in
    by units forms (λ more later ms fs. forms_again again o (i ∷ before) (item_in o.to idc i ∷ there) us items more rest later whole all h.1 ms is fs) (subst I one back_are) (subst F one are)
  where
    by : (units forms : List (List ℕ)) → ((more later : List (List ℕ)) → AreItems o.to o.init (item_in o.to idc i ∷ there) more rest → AreForms again (item_in o.to idc i ∷ there) more rest later → AreForms again (i ∷ before) us items later)
        → AreItems o.to o.init there units (item_in o.to idc i ∷ rest) → AreForms again there units (item_in o.to idc i ∷ rest) forms → AreForms again before (u ∷ us) (i ∷ items) forms
    by [] forms later ms fs = absurd ms
    by (unit ∷ units) [] later ms fs = absurd fs
    by (unit ∷ units) (form ∷ forms) later ms fs = (form_again again o.to idc before there u unit i form all fs.0, later units forms ms.1 fs.1)

pub recoded-again : (o again : Options) (b : List ℕ) (items : List Item) (bytes : List ℕ) (back : List Item) (twice : List ℕ) → o.range ≡ None → again.range ≡ None → again.init ≡ o.init → Recodes o (seen_whole b) items None
    → IsOutput o (seen_whole b).units items bytes → Recodes again (seen_whole bytes) back None → IsOutput again (seen_whole bytes).units back twice → IsOutput again (seen_whole b).units items twice
recoded-again o again b items bytes back twice whole all init h out k (forms, are, e) =
    let w = comes-back o b items bytes h out in
    let splits = back-splits o items bytes w in
    let R : InitTable → Type 0 = λ table. Reads again.to table bytes back in
    let same : back ≡ w.back = one-reading again.to o.to o.init bytes back w.back (subst R init (reads-recoded again bytes back k)) (w.units, splits, w.are) in
    let same_units : (seen_whole bytes).units ≡ w.units = ap (λ (s : Seen). s.units) (splits-seen bytes w.units None splits) in
    let F : List (List ℕ) → Type 0 = λ us. AreForms again [] us back forms in
    let G : List Item → Type 0 = λ is. AreForms again [] w.units is forms in
    (forms, forms_again again o [] [] (seen_whole b).units items w.units w.back forms whole all (items-judged o [] (seen_whole b).units (seen_whole b).fault items h) w.are w.back_is (subst G same (subst F same_units are)), e)
