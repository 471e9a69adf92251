-- A table of weights is read from its text, and what is read has that text: part by part.
use Rattle.std.proofs.Common.{◌≡◌, ℕ, zero, suc, pos, negsuc, ◌+◌, Bool, true, false, List, [], ◌∷◌, ◌++◌, length, Option, Some, None, refl, sym, ap, subst, ◌∙◌, append_assoc, Result, Ok, Err}
use Rattle.std.specs.Prelude.{IfOk}
use Rattle.std.specs.List.{flat_map, AllByRecursion}
use Rattle.bit_texts.specs.Texts.{AreTurns}
use Rattle.exp_golomb.specs.Code.{Flag, Ue, Se}
use Rattle.exp_golomb.specs.Syntax.{Syntax, Done, Element, Answers, Found, Spells, outcome_of, ◌>>=◌}
use Rattle.exp_golomb.proofs.Syntaxes.{one_outcome, outcome_of-spelled, spelled}
use Rattle.exp_golomb.proofs.Written.{element_again, done_again, part_again}
use Rattle.param_sets.proofs.Spelled.{found_then, same_found, Begins, begins, begins_then, begins_last, series_spelled, series_again}
use Rattle.ref_pic_lists.specs.Faults.{list_says}
use Rattle.ref_pic_lists.specs.PredWeightTable.{weight_and_offset, chroma_weights, luma_when, chroma_when, entry, entries, count_of, pred_weight_table, WeightsText, ReadsWeights, weight_text, chroma_text, optional_text, entry_text, weights_text, IsWeight, IsChroma, IsOptional, IsEntry, WeightsFit}
use Rattle.ref_pic_lists.specs.declared.fault.ListFault.{ListFault}
use Rattle.ref_pic_lists.specs.declared.fault.ListFault.TheVariants.{NoReading, Memory}
use Rattle.ref_pic_lists.specs.declared.weights.Weight.{Weight}
use Rattle.ref_pic_lists.specs.declared.weights.ChromaWeights.{ChromaWeights}
use Rattle.ref_pic_lists.specs.declared.weights.EntryWeights.{EntryWeights}
use Rattle.ref_pic_lists.specs.declared.weights.WeightTable.{WeightTable}

-- a value in range, whose text begins the bits
record IsFound {A : Type 0} (Is : A → Type 0) (text : A → List Bool) (value : A) (bits rest : List Bool) : Type 0 where
  in_range : Is value
  begins_with : Begins (text value) bits rest

moved : {A : Type 0} {Is : A → Type 0} {text : A → List Bool} (bits : List Bool) (value other : A) (rest after : List Bool) → value ≡ other → rest ≡ after → IsFound Is text other bits after → IsFound Is text value bits rest
moved bits value other rest after e k so = rw (e, k) so

-- ---- weights

weight_spelled : (E : Type 0) (bits : List Bool) (w : Weight) (rest : List Bool) → Spells {E = E} weight_and_offset bits (Found w rest) → IsFound IsWeight weight_text w bits rest
unfolding weight_and_offset
weight_spelled E bits w rest (weight, mid, first, text, (offset, after, second, more, k)) =
    let same = same_found {E = E} w (record { weight = weight; offset = offset }) rest after (Found w rest) refl k in
    moved bits w _ rest after same.0 same.1 (record { in_range = (first, second); begins_with = begins_then (begins text) (begins more) })

weight_again : {E : Type 0} (w : Weight) (rest : List Bool) → IsWeight w → outcome_of {E = E} weight_and_offset (weight_text w ++ rest) ≡ Found w rest
unfolding weight_and_offset
weight_again w rest h = simp append_assoc (element_again (Se (negsuc 127) (pos 127)) _ w.weight _ h.0 ∙ element_again (Se (negsuc 127) (pos 127)) _ w.offset _ h.1 ∙ done_again w rest)

chroma_spelled : (E : Type 0) (bits : List Bool) (c : ChromaWeights) (rest : List Bool) → Spells {E = E} chroma_weights bits (Found c rest) → IsFound IsChroma chroma_text c bits rest
unfolding chroma_weights
chroma_spelled E bits c rest h =
    let a = found_then {E = E} weight_and_offset _ bits c rest h in
    let b = found_then {E = E} weight_and_offset (λ cr. Done (record { cb = a.0; cr = cr })) a.1 c rest a.3 in
    let cb = weight_spelled E bits a.0 a.1 a.2 in
    let cr = weight_spelled E a.1 b.0 b.1 b.2 in
    let same = same_found {E = E} c (record { cb = a.0; cr = b.0 }) rest b.1 (Found c rest) refl b.3 in
    moved bits c _ rest b.1 same.0 same.1 (record { in_range = (cb.in_range, cr.in_range); begins_with = begins_then cb.begins_with cr.begins_with })

chroma_again : {E : Type 0} (c : ChromaWeights) (rest : List Bool) → IsChroma c → outcome_of {E = E} chroma_weights (chroma_text c ++ rest) ≡ Found c rest
unfolding chroma_weights
chroma_again {E} c rest h =
    ap (outcome_of {E = E} chroma_weights) (append_assoc (weight_text c.cb) (weight_text c.cr) rest)
    ∙ part_again weight_and_offset _ c.cb (weight_text c.cb ++ (weight_text c.cr ++ rest)) _ (weight_again {E = E} c.cb _ h.0)
    ∙ part_again weight_and_offset _ c.cr (weight_text c.cr ++ rest) _ (weight_again {E = E} c.cr _ h.1)
    ∙ done_again c rest

-- ---- what stands behind its flag

optional : {E A : Type 0} → Syntax E A → Bool → Syntax E (Option A)
optional syntax true = syntax >>= (λ value. Done (Some value))
optional syntax false = Done None

optional_spelled : {E A : Type 0} (Is : A → Type 0) (text : A → List Bool) (syntax : Syntax E A) → ((bits : List Bool) (value : A) (rest : List Bool) → Spells syntax bits (Found value rest) → IsFound Is text value bits rest)
    → (flag : Bool) (bits mid : List Bool) (value : Option A) (rest : List Bool) → bits ≡ flag ∷ mid → Spells (optional syntax flag) mid (Found value rest)
    → IsFound (IsOptional Is) (optional_text text) value bits rest
unfolding optional
optional_spelled {E} {A} Is text syntax each true bits mid value rest e h =
    let a = found_then {E = E} syntax (λ x. Done (Some x)) mid value rest h in
    let one = each mid a.0 a.1 a.2 in
    let same = same_found {E = E} value (Some a.0) rest a.1 (Found value rest) refl a.3 in
    moved bits value (Some a.0) rest a.1 same.0 same.1 (record { in_range = one.in_range; begins_with = begins_then (begins {text = true ∷ []} e) one.begins_with })
optional_spelled {E} {A} Is text syntax each false bits mid value rest e h =
    let same = same_found {E = E} value None rest mid (Found value rest) refl h in
    moved bits value None rest mid same.0 same.1 (record { in_range = tt; begins_with = begins e })

-- its flag
abbrev stands : {A : Type 0} → Option A → Bool
stands None = false
stands (Some value) = true

-- and its text
abbrev some_text : {A : Type 0} → (A → List Bool) → Option A → List Bool
some_text text None = []
some_text text (Some value) = text value

optional_parts : {A : Type 0} (text : A → List Bool) (value : Option A) → optional_text text value ≡ stands value ∷ some_text text value
optional_parts text None = refl
optional_parts text (Some value) = refl

optional_again : {E A : Type 0} (Is : A → Type 0) (text : A → List Bool) (syntax : Syntax E A) → ((value : A) (rest : List Bool) → Is value → outcome_of syntax (text value ++ rest) ≡ Found value rest)
    → (value : Option A) (rest : List Bool) → IsOptional Is value → outcome_of (optional syntax (stands value)) (some_text text value ++ rest) ≡ Found value rest
unfolding optional
optional_again Is text syntax each None rest h = done_again None rest
optional_again Is text syntax each (Some value) rest h = part_again syntax (λ x. Done (Some x)) value (text value ++ rest) rest (each value rest h) ∙ done_again (Some value) rest

luma_is : {E : Type 0} (flag : Bool) → luma_when {E = E} flag ≡ optional weight_and_offset flag
unfolding luma_when optional
luma_is true = refl
luma_is false = refl

chroma_is : {E : Type 0} (flag : Bool) → chroma_when {E = E} flag ≡ optional chroma_weights flag
unfolding chroma_when optional
chroma_is true = refl
chroma_is false = refl

-- ---- the weights of one reference

entry_spelled : (E : Type 0) (bits : List Bool) (e : EntryWeights) (rest : List Bool) → Spells {E = E} entry bits (Found e rest) → IsFound IsEntry entry_text e bits rest
unfolding entry
entry_spelled E bits e rest (luma_flag, mid, first, text, h) =
    let a = found_then {E = E} (luma_when luma_flag) _ mid e rest h in
    second luma_flag mid text a.0 a.1 a.2 a.3
  where
    third : (luma : Option Weight) (from mid : List Bool) (flag : Bool) → Begins (optional_text weight_text luma) bits from → IsOptional IsWeight luma → from ≡ flag ∷ mid
        → Spells {E = E} (chroma_when flag >>= (λ chroma. Done (record { luma = luma; chroma = chroma }))) mid (Found e rest) → IsFound IsEntry entry_text e bits rest
    third luma from mid flag begins_with in_range text h =
        let b = found_then {E = E} (chroma_when flag) (λ chroma. Done (record { luma = luma; chroma = chroma })) mid e rest h in
        let spells = subst (λ (s : Syntax E (Option ChromaWeights)). Spells s mid (Found b.0 b.1)) (chroma_is {E = E} flag) b.2 in
        let chroma = optional_spelled {E = E} IsChroma chroma_text chroma_weights (chroma_spelled E) flag from mid b.0 b.1 text spells in
        let same = same_found {E = E} e (record { luma = luma; chroma = b.0 }) rest b.1 (Found e rest) refl b.3 in
        moved bits e _ rest b.1 same.0 same.1 (record { in_range = (in_range, chroma.in_range); begins_with = begins_then begins_with chroma.begins_with })

    second : (flag : Bool) (mid : List Bool) → bits ≡ flag ∷ mid → (luma : Option Weight) (from : List Bool) → Spells {E = E} (luma_when flag) mid (Found luma from)
        → Spells {E = E} (Element Flag (λ flag. chroma_when flag >>= (λ chroma. Done (record { luma = luma; chroma = chroma })))) from (Found e rest) → IsFound IsEntry entry_text e bits rest
    second flag mid text luma from h (chroma_flag, after, in_range, more, others) =
        let spells = subst (λ (s : Syntax E (Option Weight)). Spells s mid (Found luma from)) (luma_is {E = E} flag) h in
        let one = optional_spelled {E = E} IsWeight weight_text weight_and_offset (weight_spelled E) flag bits mid luma from text spells in
        third luma from after chroma_flag one.begins_with one.in_range more others

entry_again : {E : Type 0} (e : EntryWeights) (rest : List Bool) → IsEntry e → outcome_of {E = E} entry (entry_text e ++ rest) ≡ Found e rest
unfolding entry
entry_again {E} e rest h =
    ap (λ t. outcome_of {E = E} entry (t ++ rest)) (ap (λ t. t ++ optional_text chroma_text e.chroma) (optional_parts weight_text e.luma) ∙ ap (λ t. (stands e.luma ∷ some_text weight_text e.luma) ++ t) (optional_parts chroma_text e.chroma))
    ∙ simp append_assoc (
    element_again Flag _ (stands e.luma) _ refl
    ∙ part_again (luma_when (stands e.luma)) _ e.luma _ _ (subst (λ (s : Syntax E (Option Weight)). outcome_of s (some_text weight_text e.luma ++ after) ≡ Found e.luma after) (sym (luma_is (stands e.luma))) (optional_again IsWeight weight_text weight_and_offset weight_again e.luma after h.0))
    ∙ element_again Flag _ (stands e.chroma) _ refl
    ∙ part_again (chroma_when (stands e.chroma)) _ e.chroma _ _ (subst (λ (s : Syntax E (Option ChromaWeights)). outcome_of s (some_text chroma_text e.chroma ++ rest) ≡ Found e.chroma rest) (sym (chroma_is (stands e.chroma))) (optional_again IsChroma chroma_text chroma_weights chroma_again e.chroma rest h.1))
    ∙ done_again e rest)
  where
    after : List Bool
    after = stands e.chroma ∷ (some_text chroma_text e.chroma ++ rest)

-- ---- those of so many references

turns_entries : (count place : ℕ) (xs : List EntryWeights) → AreTurns (λ p. IsEntry) (λ p x. p + 1) count place xs → (length xs ≡ count) × AllByRecursion IsEntry xs
unfolding AreTurns
turns_entries zero place [] h = (refl, tt)
turns_entries zero place (x ∷ xs) h = absurd h
turns_entries (suc count) place [] h = absurd h
turns_entries (suc count) place (x ∷ xs) h = let more = turns_entries count (place + 1) xs h.1 in (ap suc more.0, (h.0, more.1))

entries_turns : (place : ℕ) (xs : List EntryWeights) → AllByRecursion IsEntry xs → AreTurns (λ p. IsEntry) (λ p x. p + 1) (length xs) place xs
unfolding AreTurns
entries_turns place [] h = tt
entries_turns place (x ∷ xs) h = (h.0, entries_turns (place + 1) xs h.1)

record AreEntries (count : ℕ) (xs : List EntryWeights) (bits rest : List Bool) : Type 0 where
  count_is : length xs ≡ count
  in_range : AllByRecursion IsEntry xs
  begins_with : Begins (flat_map entry_text xs) bits rest

entries_spelled : (E : Type 0) (count : ℕ) (bits : List Bool) (xs : List EntryWeights) (rest : List Bool) → Spells {E = E} (entries count) bits (Found xs rest) → AreEntries count xs bits rest
entries_spelled E count bits xs rest h =
    let list = series_spelled {E = E} (λ p. IsEntry) entry_text (λ place. entry) one count 0 bits xs rest h in
    let each = turns_entries count 0 xs list.0 in
    record { count_is = each.0; in_range = each.1; begins_with = begins list.1 }
  where
    one : (place : ℕ) (bits : List Bool) (e : EntryWeights) (rest : List Bool) → Spells {E = E} entry bits (Found e rest) → IsEntry e × (bits ≡ entry_text e ++ rest)
    one place bits e rest h = let k = entry_spelled E bits e rest h in (k.in_range, k.begins_with.is)

entries_again : {E : Type 0} (count : ℕ) (xs : List EntryWeights) (rest : List Bool) → length xs ≡ count → AllByRecursion IsEntry xs → outcome_of {E = E} (entries count) (flat_map entry_text xs ++ rest) ≡ Found xs rest
entries_again {E} count xs rest e h =
    series_again {E = E} (λ p. IsEntry) entry_text (λ place. entry) (λ place. entry_again {E = E}) count 0 xs rest (subst (λ n. AreTurns (λ p. IsEntry) (λ p x. p + 1) n 0 xs) e (entries_turns 0 xs h))

-- ---- the whole

pub weights_spelled : (E : Type 0) (l0 : ℕ) (l1 : Option ℕ) (bits : List Bool) (t : WeightTable) (rest : List Bool) → Spells {E = E} (pred_weight_table l0 l1) bits (Found t rest)
    → WeightsFit l0 l1 t × Begins (weights_text t) bits rest
unfolding pred_weight_table
weights_spelled E l0 l1 bits t rest (luma, mid, luma_in, luma_text, (chroma, from, chroma_in, chroma_text, h)) =
    let a = found_then {E = E} (entries l0) _ from t rest h in
    let b = found_then {E = E} (entries (count_of l1)) (λ list_1. Done (record { luma_log2_weight_denom = luma; chroma_log2_weight_denom = chroma; list_0 = a.0; list_1 = list_1 })) a.1 t rest a.3 in
    let first = entries_spelled E l0 from a.0 a.1 a.2 in
    let second = entries_spelled E (count_of l1) a.1 b.0 b.1 b.2 in
    let same = same_found {E = E} t (record { luma_log2_weight_denom = luma; chroma_log2_weight_denom = chroma; list_0 = a.0; list_1 = b.0 }) rest b.1 (Found t rest) refl b.3 in
    done _ _ same.0 same.1 (
      record {
        in_range = record { luma_log2_weight_denom = luma_in; chroma_log2_weight_denom = chroma_in; list_0 = first.in_range; list_1 = second.in_range };
        count_0 = first.count_is;
        count_1 = second.count_is;
      },
      begins_then (begins luma_text) (begins_then (begins chroma_text) (begins_then first.begins_with (begins_last second.begins_with))),
    )
  where
    done : (q : WeightTable) (tail : List Bool) → t ≡ q → rest ≡ tail → WeightsFit l0 l1 q × Begins (weights_text q) bits tail → WeightsFit l0 l1 t × Begins (weights_text t) bits rest
    done q tail e k so = rw (e, k) so

pub weights_again : {E : Type 0} (l0 : ℕ) (l1 : Option ℕ) (t : WeightTable) (rest : List Bool) → WeightsFit l0 l1 t → outcome_of {E = E} (pred_weight_table l0 l1) (weights_text t ++ rest) ≡ Found t rest
unfolding pred_weight_table
weights_again {E} l0 l1 t rest fits =
    simp append_assoc (
    element_again (Ue 7) _ t.luma_log2_weight_denom _ fits.in_range.luma_log2_weight_denom
    ∙ element_again (Ue 7) _ t.chroma_log2_weight_denom _ fits.in_range.chroma_log2_weight_denom
    ∙ part_again (entries l0) _ t.list_0 _ _ (entries_again {E = E} l0 t.list_0 _ fits.count_0 fits.in_range.list_0)
    ∙ part_again (entries (count_of l1)) _ t.list_1 _ _ (entries_again {E = E} (count_of l1) t.list_1 _ fits.count_1 fits.in_range.list_1)
    ∙ done_again t rest)

-- ---- laws

pub one_table : (l0 : ℕ) (l1 : Option ℕ) (bits rest after : List Bool) (first second : WeightTable) → WeightsText l0 l1 first bits rest → WeightsText l0 l1 second bits after → (first ≡ second) × (rest ≡ after)
one_table l0 l1 bits rest after first second h k = same_found {E = ⊥} first second rest after (Found first rest) refl (one_outcome {E = ⊥} (pred_weight_table l0 l1) bits _ _ h k)

pub table_read : (l0 : ℕ) (l1 : Option ℕ) (t : WeightTable) (rest : List Bool) → WeightsFit l0 l1 t → WeightsText l0 l1 t (weights_text t ++ rest) rest
table_read l0 l1 t rest fits = spelled {E = ⊥} (pred_weight_table l0 l1) (weights_text t ++ rest) (Found t rest) (weights_again l0 l1 t rest fits) (λ k. cc)

pub table_written : (l0 : ℕ) (l1 : Option ℕ) (bits rest : List Bool) (t : WeightTable) → WeightsText l0 l1 t bits rest → WeightsFit l0 l1 t × (bits ≡ weights_text t ++ rest)
table_written l0 l1 bits rest t h = let k = weights_spelled ⊥ l0 l1 bits t rest h in (k.0, k.1.is)

pub tables_apart : (l0 : ℕ) (l1 : Option ℕ) (first second : WeightTable) (x y : List Bool) → WeightsFit l0 l1 first → WeightsFit l0 l1 second → weights_text first ++ x ≡ weights_text second ++ y → first ≡ second
tables_apart l0 l1 first second x y h k e =
    (one_table l0 l1 (weights_text second ++ y) x y first second (subst (λ t. WeightsText l0 l1 first t x) e (table_read l0 l1 first x h)) (table_read l0 l1 second y k)).0

-- ---- what a reader answers

pub reads : (l0 : ℕ) (l1 : Option ℕ) (result : Result WeightTable ListFault) (bits rest : List Bool) → Answers list_says (λ x. x) result rest (outcome_of (pred_weight_table l0 l1) bits) → ReadsWeights l0 l1 result bits rest
reads l0 l1 (Ok t) bits rest k = spelled {E = ⊥} (pred_weight_table l0 l1) bits _ k (λ e. cc)
reads l0 l1 (Err NoReading) bits rest k = λ t after text. let found = outcome_of-spelled {E = ⊥} (pred_weight_table l0 l1) bits (Found t after) text in cc
reads l0 l1 (Err Memory) bits rest k = tt

pub in_range : (l0 : ℕ) (l1 : Option ℕ) (result : Result WeightTable ListFault) (bits rest : List Bool) → Answers list_says (λ x. x) result rest (outcome_of (pred_weight_table l0 l1) bits) → IfOk result (λ t. WeightsFit l0 l1 t)
in_range l0 l1 (Ok t) bits rest k = (table_written l0 l1 bits rest t (reads l0 l1 (Ok t) bits rest k)).0
in_range l0 l1 (Err fault) bits rest k = tt
