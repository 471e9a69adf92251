-- A scaling list is read from its text, and what is read has that text.
use Rattle.std.proofs.Common.{◌≡◌, ℕ, zero, suc, ℤ, pos, negsuc, ◌+◌, Bool, true, false, cond, eqb, ltb, List, [], ◌∷◌, ◌++◌, refl, sym, ap, ◌∙◌, arith, append_assoc}
use Rattle.std.specs.Prelude.{MatchBool}
use Rattle.std.specs.List.{flat_map, AllByRecursion}
use Rattle.std.proofs.lemmas.Int.{ints}
use Rattle.bit_texts.specs.Texts.{AreTurns}
use Rattle.exp_golomb.specs.Code.{Kind, Se, se, is_in_range}
use Rattle.exp_golomb.specs.Element.{front, flag_at}
use Rattle.exp_golomb.specs.Syntax.{Done, Outcome, Found, Spells, outcome_of, ◌>>=◌, when}
use Rattle.exp_golomb.proofs.Fronts.{in_se}
use Rattle.exp_golomb.proofs.Syntaxes.{outcome_of_then}
use Rattle.exp_golomb.proofs.Written.{element_again}
use Rattle.param_sets.specs.Refusal.{Refusal}
use Rattle.param_sets.specs.ScalingLists.{next_scale, deltas, scaling_list, scaling_lists, scaling_matrix, entries_of, scaling_list_text, scaling_lists_text, HasCode, DeltasFit, ScalingListFits, ScalingMatrixFits}
use Rattle.param_sets.proofs.Spelled.{found_then, same_found, se_bounds, series_spelled, series_again}

abbrev found : {A : Type 0} → A → List Bool → Outcome Refusal A
found value rest = Found value rest

abbrev Delta : Kind
Delta = Se (negsuc 127) (pos 127)

-- ---- what is found

deltas_spelled : (entries last : ℕ) (bits : List Bool) (xs : List ℤ) (rest : List Bool) → Spells (deltas entries last) bits (Found xs rest) → DeltasFit entries last xs × (bits ≡ flat_map se xs ++ rest)
unfolding deltas DeltasFit
deltas_spelled zero last bits xs rest h =
    let none : List ℤ = [] in
    let same = same_found xs none rest bits (found xs rest) refl h in
    (same.0, rw (same.0, same.1) refl)
deltas_spelled (suc entries) last bits xs rest (delta, after, in_range, text, k) =
    let next = next_scale last delta in
    let f = found_then (cond (eqb next 0) (Done []) (deltas entries next)) (λ others. Done (delta ∷ others)) after xs rest k in
    let others = at (eqb next 0) f.0 f.1 f.2 (deltas_spelled entries next) in
    let bounds = se_bounds (negsuc 127) (pos 127) delta in_range in
    let same = same_found xs (delta ∷ f.0) rest f.1 (found xs rest) refl f.3 in
    done f.0 f.1 same.0 same.1 ((bounds.0, bounds.1, others.0), text ∙ ap (λ t. se delta ++ t) others.1 ∙ sym (append_assoc (se delta) (flat_map se f.0) f.1))
  where
    done : (ys : List ℤ) (tail : List Bool) → xs ≡ delta ∷ ys → rest ≡ tail → DeltasFit (suc entries) last (delta ∷ ys) × (bits ≡ (se delta ++ flat_map se ys) ++ tail) → DeltasFit (suc entries) last xs × (bits ≡ flat_map se xs ++ rest)
    done ys tail e k so = rw (e, k) so

    at : (b : Bool) (ys : List ℤ) (tail : List Bool) → Spells (cond b (Done []) (deltas entries (next_scale last delta))) after (found ys tail)
        → ((bits : List Bool) (ys : List ℤ) (tail : List Bool) → Spells (deltas entries (next_scale last delta)) bits (found ys tail) → DeltasFit entries (next_scale last delta) ys × (bits ≡ flat_map se ys ++ tail))
        → MatchBool b (ys ≡ []) (DeltasFit entries (next_scale last delta) ys) × (after ≡ flat_map se ys ++ tail)
    at true ys tail h so =
        let none : List ℤ = [] in
        let same = same_found ys none tail after (found ys tail) refl h in
        (same.0, rw (same.0, same.1) refl)
    at false ys tail h so = so after ys tail h

-- a list of at least one entry
list_spelled : (n : ℕ) (bits : List Bool) (xs : List ℤ) (rest : List Bool) → Spells (scaling_list (suc n)) bits (Found xs rest) → ScalingListFits (suc n) xs × (bits ≡ scaling_list_text xs ++ rest)
unfolding scaling_list DeltasFit
list_spelled n bits xs rest (present, after, in_range, text, k) = at present text k
  where
    some : (xs : List ℤ) → DeltasFit (suc n) 8 xs × (after ≡ flat_map se xs ++ rest) → bits ≡ true ∷ after → ScalingListFits (suc n) xs × (bits ≡ scaling_list_text xs ++ rest)
    some [] h e = absurd h.0
    some (x ∷ xs) h e = (h.0, e ∙ ap (λ t. true ∷ t) h.1)

    at : (b : Bool) → bits ≡ b ∷ after → Spells (when b [] (deltas (suc n) 8)) after (found xs rest) → ScalingListFits (suc n) xs × (bits ≡ scaling_list_text xs ++ rest)
    at true e h = some xs (deltas_spelled (suc n) 8 after xs rest h) e
    at false e h =
        let none : List ℤ = [] in
        let same = same_found xs none rest after (found xs rest) refl h in
        rw (same.0, same.1) (tt, e)

any_list_spelled : (place : ℕ) (bits : List Bool) (xs : List ℤ) (rest : List Bool) → Spells (scaling_list (entries_of place)) bits (Found xs rest) → ScalingListFits (entries_of place) xs × (bits ≡ scaling_list_text xs ++ rest)
any_list_spelled place bits xs rest h = at (ltb place 6) h
  where
    at : (b : Bool) → Spells (scaling_list (cond b 16 64)) bits (found xs rest) → ScalingListFits (cond b 16 64) xs × (bits ≡ scaling_list_text xs ++ rest)
    at true h = list_spelled 15 bits xs rest h
    at false h = list_spelled 63 bits xs rest h

pub matrix_spelled : (present : Bool) (count : ℕ) (bits : List Bool) (lists : List (List ℤ)) (rest : List Bool) → Spells (scaling_matrix present count) bits (Found lists rest)
    → ScalingMatrixFits present count lists × (bits ≡ scaling_lists_text lists ++ rest)
unfolding scaling_matrix scaling_lists
matrix_spelled true count bits lists rest h = series_spelled (λ place. ScalingListFits (entries_of place)) scaling_list_text (λ place. scaling_list (entries_of place)) any_list_spelled count 0 bits lists rest h
matrix_spelled false count bits lists rest h =
    let none : List (List ℤ) = [] in
    let same = same_found lists none rest bits (found lists rest) refl h in
    (same.0, rw (same.0, same.1) refl)

-- ---- and again

deltas_again : (entries last : ℕ) (xs : List ℤ) (rest : List Bool) → DeltasFit entries last xs → outcome_of (deltas entries last) (flat_map se xs ++ rest) ≡ Found xs rest
unfolding deltas DeltasFit outcome_of
deltas_again zero last xs rest h = rw h refl
deltas_again (suc entries) last [] rest h = absurd h
deltas_again (suc entries) last (delta ∷ xs) rest (low, high, others) =
    let next = next_scale last delta in
    let ranged : is_in_range Delta delta ≡ true = in_se (negsuc 127) (pos 127) delta low high (omega (arith, ints)) (omega (arith, ints)) in
    let so = at (eqb next 0) others (deltas_again entries next) in
    simp append_assoc (element_again Delta (λ d. cond (eqb (next_scale last d) 0) (Done []) (deltas entries (next_scale last d)) >>= λ others. Done (d ∷ others)) delta _ ranged ∙ outcome_of_then (cond (eqb next 0) (Done []) (deltas entries next)) (λ others. Done (delta ∷ others)) (flat_map se xs ++ rest) ∙ rw so refl)
  where
    at : (b : Bool) → MatchBool b (xs ≡ []) (DeltasFit entries (next_scale last delta) xs)
        → ((ys : List ℤ) (tail : List Bool) → DeltasFit entries (next_scale last delta) ys → outcome_of (deltas entries (next_scale last delta)) (flat_map se ys ++ tail) ≡ Found ys tail)
        → outcome_of (cond b (Done []) (deltas entries (next_scale last delta))) (flat_map se xs ++ rest) ≡ found xs rest
    at true h so = rw h refl
    at false h so = so xs rest h

list_again : (entries : ℕ) (xs : List ℤ) (rest : List Bool) → ScalingListFits entries xs → outcome_of (scaling_list entries) (scaling_list_text xs ++ rest) ≡ Found xs rest
unfolding scaling_list outcome_of front flag_at
list_again entries [] rest h = refl
list_again entries (x ∷ xs) rest h = deltas_again entries 8 (x ∷ xs) rest h

pub matrix_again : (present : Bool) (count : ℕ) (lists : List (List ℤ)) (rest : List Bool) → ScalingMatrixFits present count lists → outcome_of (scaling_matrix present count) (scaling_lists_text lists ++ rest) ≡ Found lists rest
unfolding scaling_matrix scaling_lists outcome_of
matrix_again true count lists rest h = series_again (λ place. ScalingListFits (entries_of place)) scaling_list_text (λ place. scaling_list (entries_of place)) (λ place. list_again (entries_of place)) count 0 lists rest h
matrix_again false count lists rest h = rw h refl

-- ---- each delta has a code

deltas_have_codes : (entries last : ℕ) (xs : List ℤ) → DeltasFit entries last xs → AllByRecursion HasCode xs
unfolding DeltasFit
deltas_have_codes entries last [] h = tt
deltas_have_codes zero last (x ∷ xs) h = absurd cc
deltas_have_codes (suc entries) last (delta ∷ xs) (low, high, others) = (omega (arith, ints), at (eqb (next_scale last delta) 0) others (deltas_have_codes entries (next_scale last delta)))
  where
    at : (b : Bool) → MatchBool b (xs ≡ []) (DeltasFit entries (next_scale last delta) xs) → ((ys : List ℤ) → DeltasFit entries (next_scale last delta) ys → AllByRecursion HasCode ys) → AllByRecursion HasCode xs
    at true h so = rw h tt
    at false h so = so xs h

lists_have_codes : (count place : ℕ) (lists : List (List ℤ)) → AreTurns (λ place. ScalingListFits (entries_of place)) (λ place list. place + 1) count place lists → AllByRecursion (λ list. AllByRecursion HasCode list) lists
unfolding AreTurns
lists_have_codes count place [] h = tt
lists_have_codes zero place (list ∷ lists) h = absurd h
lists_have_codes (suc count) place (list ∷ lists) h = (one list h.0, lists_have_codes count (place + 1) lists h.1)
  where
    one : (xs : List ℤ) → ScalingListFits (entries_of place) xs → AllByRecursion HasCode xs
    one [] h = tt
    one (x ∷ xs) h = deltas_have_codes (entries_of place) 8 (x ∷ xs) h

pub matrix_has_codes : (present : Bool) (count : ℕ) (lists : List (List ℤ)) → ScalingMatrixFits present count lists → AllByRecursion (λ list. AllByRecursion HasCode list) lists
matrix_has_codes true count lists h = lists_have_codes count 0 lists h
matrix_has_codes false count lists h = rw h tt
