-- Deltas, as a loop reads them.
use Rattle.std.proofs.Common.{◌≡◌, ℕ, suc, ℤ, pos, negsuc, ◌+◌, ◌-◌, ◌<◌, ◌≤◌, Bool, true, false, eqb, List, [], ◌∷◌, ◌++◌, Some, None, refl, sym, ap, ◌∙◌, arith}
use Rattle.std.proofs.lemmas.List.{append-nil}
use Rattle.std.proofs.lemmas.Bool.Decides.{nat_tests}
use Rattle.std.specs.Int.RustNames.{int_le}
use Rattle.std.proofs.lemmas.Int.{ints}
use Rattle.exp_golomb.proofs.Fronts.{front_takes, both}
use Rattle.exp_golomb.specs.Code.{Kind, Value, Se, place_of}
use Rattle.std.specs.Prelude.{if◌then◌else◌, ◌==◌, ◌&&◌, nat_le, ◌≤ℤ◌}
use Rattle.exp_golomb.specs.Element.{front}
use Rattle.exp_golomb.specs.Syntax.{Syntax, Done, Element, Outcome, Found, NoText, outcome_of, series}
use Rattle.exp_golomb.proofs.Syntaxes.{outcome_of_then}
use Rattle.exp_golomb.proofs.Series.{prepended, prepended-prepended, series_cut}
use Rattle.param_sets.specs.Refusal.{Refusal, part_says}
use Rattle.param_sets.specs.declared.fault.SetFault.{SetFault}
use Rattle.param_sets.specs.declared.fault.SetFault.TheVariants.{NoReading, Profile, Limit, Memory}
use Rattle.param_sets.specs.ScalingLists.{deltas, next_scale}

abbrev pub Delta : Kind
Delta = Se (negsuc 127) (pos 127)

deltas_found : (entries last : ℕ) (bits after : List Bool) (delta : ℤ) → front Delta bits ≡ Some (delta, after)
    → outcome_of (deltas (suc entries) last) bits ≡ prepended (delta ∷ []) (outcome_of (if next_scale last delta == 0 then Done [] else deltas entries (next_scale last delta)) after)
unfolding deltas outcome_of
deltas_found entries last bits after delta h =
    rw h (outcome_of_then (if next_scale last delta == 0 then Done [] else deltas entries (next_scale last delta)) (λ others. Done (delta ∷ others)) after)

pub deltas_go_on : (read : List ℤ) (count i last next : ℕ) (bits after : List Bool) (delta : ℤ) (total : Outcome Refusal (List ℤ)) → i < count → front Delta bits ≡ Some (delta, after) → next ≡ next_scale last delta
    → (next ≡ 0 → ⊥) → prepended read (outcome_of (deltas (count - i) last) bits) ≡ total → prepended (read ++ delta ∷ []) (outcome_of (deltas (count - (i + 1)) next) after) ≡ total
deltas_go_on read count i last next bits after delta total lt h is some so_far =
    let more : count - i ≡ suc (count - (i + 1)) = omega arith in
    let not_zero : eqb next 0 ≡ false = grind (arith, nat_tests) in
    let goes : eqb (next_scale last delta) 0 ≡ false = rw is at not_zero in
    let step = deltas_found (count - (i + 1)) last bits after delta h in
    sym (prepended-prepended read delta (outcome_of (deltas (count - (i + 1)) next) after)) ∙ sym (rw (more, step, goes, is) refl) ∙ so_far

pub deltas_stop : (read : List ℤ) (count i last next : ℕ) (bits after : List Bool) (delta : ℤ) (total : Outcome Refusal (List ℤ)) → i < count → front Delta bits ≡ Some (delta, after) → next ≡ next_scale last delta
    → next ≡ 0 → prepended read (outcome_of (deltas (count - i) last) bits) ≡ total → total ≡ Found (read ++ delta ∷ []) after
unfolding outcome_of
deltas_stop read count i last next bits after delta total lt h is none so_far =
    let more : count - i ≡ suc (count - (i + 1)) = omega arith in
    let stops : eqb (next_scale last delta) 0 ≡ true = rw (← is, none) refl in
    let step = deltas_found (count - (i + 1)) last bits after delta h in
    sym so_far ∙ rw (more, step, stops) refl

pub deltas_cut : (read : List ℤ) (count i last : ℕ) (bits : List Bool) (total : Outcome Refusal (List ℤ)) → i < count → front Delta bits ≡ None
    → prepended read (outcome_of (deltas (count - i) last) bits) ≡ total → total ≡ NoText
unfolding deltas outcome_of
deltas_cut read count i last bits total lt h so_far =
    let more : count - i ≡ suc (count - (i + 1)) = omega arith in
    sym so_far ∙ rw (more, h) refl

pub deltas_end : (read : List ℤ) (count i last : ℕ) (bits : List Bool) (total : Outcome Refusal (List ℤ)) → count ≤ i → prepended read (outcome_of (deltas (count - i) last) bits) ≡ total → total ≡ Found read bits
unfolding deltas outcome_of
deltas_end read count i last bits total le so_far =
    let none : count - i ≡ 0 = omega arith in
    sym so_far ∙ rw none (ap (λ (xs : List ℤ). Found xs bits) (append-nil read))

-- a delta that was read
pub delta_range : (bits after : List Bool) (delta : ℤ) → front Delta bits ≡ Some (delta, after) → (negsuc 127 ≤ℤ delta) × (delta ≤ℤ pos 127)
delta_range bits after delta h =
    let took = front_takes Delta bits delta after h in
    let outer = both (int_le (negsuc 127) delta && int_le delta (pos 127)) (nat_le (place_of delta) 4294967294) took.0 in
    let inner = both (int_le (negsuc 127) delta) (int_le delta (pos 127)) outer.0 in
    (grind (arith, ints), grind (arith, ints))

-- a member that fails makes the series fail
pub series_fails : {A : Type 0} (fault : SetFault) (read : List A) (count i : ℕ) (syntax : ℕ → Syntax Refusal A) (bits : List Bool) (total : Outcome Refusal (List A)) → i < count → part_says fault (outcome_of (syntax i) bits)
    → prepended read (outcome_of (series (count - i) i syntax) bits) ≡ total → part_says fault total
series_fails NoReading read count i syntax bits total lt h so_far = series_cut read count i syntax bits total lt h so_far
series_fails Profile read count i syntax bits total lt h so_far = absurd h
series_fails Limit read count i syntax bits total lt h so_far = absurd h
series_fails Memory read count i syntax bits total lt h so_far = tt

-- a single element as a syntax
abbrev pub alone : (kind : Kind) → Syntax Refusal (Value kind)
alone kind = Element kind Done

pub element_found : (kind : Kind) (bits after : List Bool) (value : Value kind) → front kind bits ≡ Some (value, after) → outcome_of (alone kind) bits ≡ Found value after
unfolding outcome_of
element_found kind bits after value h = rw h refl

pub element_absent : (kind : Kind) (bits : List Bool) → front kind bits ≡ None → outcome_of (alone kind) bits ≡ NoText
unfolding outcome_of
element_absent kind bits h = rw h refl
