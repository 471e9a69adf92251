-- A modification is read from its text, and what is read has that text.
use Rattle.std.proofs.Common.{◌≡◌, ℕ, zero, suc, ◌<◌, ◌≤◌, Bool, true, false, cond, eqb, List, [], ◌∷◌, ◌++◌, length, refl, sym, ap, subst, ◌∙◌, arith, append_assoc, Result, Ok, Err}
use Rattle.std.specs.Prelude.{IfOk}
use Rattle.std.specs.List.{flat_map, AllByRecursion}
use Rattle.std.proofs.lemmas.Bool.Decides.{nat_tests}
use Rattle.std.proofs.lemmas.List.{length-append}
use Rattle.bit_texts.specs.Texts.{IsWhen, when_text}
use Rattle.exp_golomb.specs.Code.{Flag, Ue, is_in_range, ue}
use Rattle.exp_golomb.specs.Syntax.{Syntax, Done, Answers, Found, Spells, outcome_of, ◌>>=◌, when}
use Rattle.exp_golomb.proofs.Fronts.{front_again, ue_shorter}
use Rattle.exp_golomb.proofs.Syntaxes.{one_outcome, outcome_of-spelled, spelled}
use Rattle.exp_golomb.proofs.Written.{element_again, done_again, part_again}
use Rattle.param_sets.proofs.Spelled.{found_then, same_found, Begins, begins, flag_begins, begins_then, begins_last, ue_most}
use Rattle.ref_pic_lists.specs.Faults.{list_says}
use Rattle.ref_pic_lists.specs.RefPicListModification.{any, operand, operations, operation_list, ref_pic_list_modification, ModificationText, ReadsModification, operation_text, operations_text, modification_text, IsAny, IsOperation, ModificationFits}
use Rattle.ref_pic_lists.specs.declared.fault.ListFault.{ListFault}
use Rattle.ref_pic_lists.specs.declared.fault.ListFault.TheVariants.{NoReading, Memory}
use Rattle.ref_pic_lists.specs.declared.modification.ListModification.{ListModification}
use Rattle.ref_pic_lists.specs.declared.modification.PicNumModification.{PicNumModification}
use Rattle.ref_pic_lists.specs.declared.modification.PicNumModification.TheVariants.{Subtract, Add, LongTerm}

-- ---- an operation is its number and its operand

abbrev number_of : PicNumModification → ℕ
number_of (Subtract a) = 0
number_of (Add a) = 1
number_of (LongTerm a) = 2

abbrev operand_of : PicNumModification → ℕ
operand_of (Subtract a) = a
operand_of (Add a) = a
operand_of (LongTerm a) = a

parts : (m : PicNumModification) → operation_text m ≡ ue (number_of m) ++ ue (operand_of m)
parts (Subtract a) = refl
parts (Add a) = refl
parts (LongTerm a) = refl

number_in_range : (m : PicNumModification) → (is_in_range (Ue 3) (number_of m) ≡ true) × (eqb (number_of m) 3 ≡ false)
number_in_range (Subtract a) = (refl, refl)
number_in_range (Add a) = (refl, refl)
number_in_range (LongTerm a) = (refl, refl)

one_again : {E : Type 0} (make : ℕ → PicNumModification) (a : ℕ) (rest : List Bool) → IsAny a → outcome_of {E = E} (any >>= (λ x. Done (make x))) (ue a ++ rest) ≡ Found (make a) rest
one_again make a rest h = element_again (Ue 4294967294) _ a rest h ∙ done_again (make a) rest

operand_again : {E : Type 0} (m : PicNumModification) (rest : List Bool) → IsOperation m → outcome_of {E = E} (operand (number_of m)) (ue (operand_of m) ++ rest) ≡ Found m rest
unfolding operand
operand_again (Subtract a) rest h = one_again Subtract a rest h
operand_again (Add a) rest h = one_again Add a rest h
operand_again (LongTerm a) rest h = one_again LongTerm a rest h

-- what is spelled of an operation's operand is that operation
record IsSpelled (number : ℕ) (bits : List Bool) (m : PicNumModification) (rest : List Bool) : Type 0 where
  is_operation : IsOperation m
  text : ue number ++ bits ≡ operation_text m ++ rest

one_spelled : {E : Type 0} (number : ℕ) (make : ℕ → PicNumModification) → ((a : ℕ) → IsAny a → IsOperation (make a)) → ((a : ℕ) → operation_text (make a) ≡ ue number ++ ue a)
    → (bits : List Bool) (m : PicNumModification) (rest : List Bool) → Spells {E = E} (any >>= (λ x. Done (make x))) bits (Found m rest) → IsSpelled number bits m rest
one_spelled {E} number make is text bits m rest (a, after, in_range, front, k) =
    let same = same_found {E = E} m (make a) rest after (Found m rest) refl k in
    done (make a) after same.0 same.1 (record { is_operation = is a in_range; text = ap (λ t. ue number ++ t) front ∙ sym (append_assoc (ue number) (ue a) after) ∙ ap (λ t. t ++ after) (sym (text a)) })
  where
    done : (n : PicNumModification) (tail : List Bool) → m ≡ n → rest ≡ tail → IsSpelled number bits n tail → IsSpelled number bits m rest
    done n tail e k so = rw (e, k) so

operand_spelled : (E : Type 0) (number : ℕ) (bits : List Bool) (m : PicNumModification) (rest : List Bool) → number ≤ 3 → eqb number 3 ≡ false → Spells {E = E} (operand number) bits (Found m rest) → IsSpelled number bits m rest
unfolding operand
operand_spelled E zero bits m rest most other h = one_spelled {E = E} 0 Subtract (λ a k. k) (λ a. refl) bits m rest h
operand_spelled E (suc zero) bits m rest most other h = one_spelled {E = E} 1 Add (λ a k. k) (λ a. refl) bits m rest h
operand_spelled E (suc (suc zero)) bits m rest most other h = one_spelled {E = E} 2 LongTerm (λ a k. k) (λ a. refl) bits m rest h
operand_spelled E (suc (suc (suc zero))) bits m rest most other h = absurd cc
operand_spelled E (suc (suc (suc (suc n)))) bits m rest most other h = absurd (omega (arith, most))

-- ---- operations up to one of 3

abbrev after_number : {E : Type 0} → ℕ → ℕ → Syntax E (List PicNumModification)
after_number bound number = operand number >>= (λ first. operations bound >>= (λ others. Done (first ∷ others)))

last_number : (number : ℕ) → eqb number 3 ≡ true → number ≡ 3
last_number number h = grind (arith, nat_tests)

pub operations_spelled : (E : Type 0) (bound : ℕ) (bits : List Bool) (ms : List PicNumModification) (rest : List Bool) → Spells {E = E} (operations bound) bits (Found ms rest) → AllByRecursion IsOperation ms × (bits ≡ operations_text ms ++ rest)
unfolding operations
operations_spelled E zero bits ms rest h = absurd h
operations_spelled E (suc bound) bits ms rest (number, after, in_range, text, k) = at (λ more ns tail s. operations_spelled E bound more ns tail s) (eqb number 3) refl k
  where
    done : (ns : List PicNumModification) (tail : List Bool) → ms ≡ ns → rest ≡ tail → AllByRecursion IsOperation ns × (bits ≡ operations_text ns ++ tail) → AllByRecursion IsOperation ms × (bits ≡ operations_text ms ++ rest)
    done ns tail e k so = rw (e, k) so

    at : ((more : List Bool) (ns : List PicNumModification) (tail : List Bool) → Spells {E = E} (operations bound) more (Found ns tail) → AllByRecursion IsOperation ns × (more ≡ operations_text ns ++ tail)) → (b : Bool) → eqb number 3 ≡ b → Spells {E = E} (cond b (Done []) (after_number bound number)) after (Found ms rest) → AllByRecursion IsOperation ms × (bits ≡ operations_text ms ++ rest)
    at later true e k =
        let none : List PicNumModification = [] in
        let same = same_found {E = E} ms none rest after (Found ms rest) refl k in
        rw (same.0, same.1) (tt, text ∙ ap (λ n. ue n ++ after) (last_number number e))
    at later false e k =
        let f = found_then {E = E} (operand number) (λ first. operations bound >>= (λ others. Done (first ∷ others))) after ms rest k in
        let g = found_then {E = E} (operations bound) (λ others. Done (f.0 ∷ others)) f.1 ms rest f.3 in
        let first = operand_spelled E number after f.0 f.1 (ue_most 3 number in_range) e f.2 in
        let others = later f.1 g.0 g.1 g.2 in
        let same = same_found {E = E} ms (f.0 ∷ g.0) rest g.1 (Found ms rest) refl g.3 in
        let whole : bits ≡ operations_text (f.0 ∷ g.0) ++ g.1 =
        text ∙ first.text ∙ ap (λ t. operation_text f.0 ++ t) others.1 ∙ sym (append_assoc (operation_text f.0) (operations_text g.0) g.1) ∙ ap (λ t. t ++ g.1) (sym (append_assoc (operation_text f.0) (flat_map operation_text g.0) (ue 3))) in
        done (f.0 ∷ g.0) g.1 same.0 same.1 ((first.is_operation, others.0), whole)

pub operations_again : {E : Type 0} (bound : ℕ) (ms : List PicNumModification) (rest : List Bool) → length (operations_text ms ++ rest) ≤ bound → AllByRecursion IsOperation ms → outcome_of {E = E} (operations bound) (operations_text ms ++ rest) ≡ Found ms rest
unfolding operations outcome_of
operations_again zero [] rest enough h = absurd (omega (arith, enough, ue_shorter 3 3 (ue 3 ++ rest) rest (front_again (Ue 3) 3 rest refl)))
operations_again (suc bound) [] rest enough h = rw (front_again (Ue 3) 3 rest refl) refl
operations_again {E} bound (m ∷ ms) rest enough h = ap (outcome_of (operations bound)) from_number ∙ at (λ b k. operations_again {E = E} b ms rest k h.1) bound (subst (λ t. length t ≤ bound) from_number enough)
  where
    after : List Bool
    after = ue (operand_of m) ++ (operations_text ms ++ rest)

    -- the text from its first number on
    from_number : operations_text (m ∷ ms) ++ rest ≡ ue (number_of m) ++ after
    from_number = ap (λ t. ((t ++ flat_map operation_text ms) ++ ue 3) ++ rest) (parts m) ∙ simp append_assoc refl

    number : (is_in_range (Ue 3) (number_of m) ≡ true) × (eqb (number_of m) 3 ≡ false)
    number = number_in_range m

    fewer : length after < length (ue (number_of m) ++ after)
    fewer = ue_shorter 3 (number_of m) (ue (number_of m) ++ after) after (front_again (Ue 3) (number_of m) after number.0)

    at : ((b : ℕ) → length (operations_text ms ++ rest) ≤ b → outcome_of {E = E} (operations b) (operations_text ms ++ rest) ≡ Found ms rest) → (bound : ℕ) → length (ue (number_of m) ++ after) ≤ bound
        → outcome_of {E = E} (operations bound) (ue (number_of m) ++ after) ≡ Found (m ∷ ms) rest
    at again zero few = absurd (omega (arith, few, fewer))
    at again (suc bound) few =
        let size = length-append (ue (operand_of m)) (operations_text ms ++ rest) in
        element_again (Ue 3) (λ number. cond (eqb number 3) (Done []) (after_number bound number)) (number_of m) after number.0
        ∙ ap (λ (b : Bool). outcome_of {E = E} (cond b (Done []) (after_number bound (number_of m))) after) number.1
        ∙ part_again (operand (number_of m)) _ m after (operations_text ms ++ rest) (operand_again m (operations_text ms ++ rest) h.0)
        ∙ part_again (operations bound) (λ others. Done (m ∷ others)) ms _ rest (again bound (omega (arith, few, fewer, size)))
        ∙ done_again (m ∷ ms) rest

-- ---- the whole

abbrev list_when : {E : Type 0} → Bool → Syntax E (List PicNumModification)
list_when present = when present [] operation_list

list_spelled : (E : Type 0) (present : Bool) (bits : List Bool) (ms : List PicNumModification) (rest : List Bool) → Spells {E = E} (list_when present) bits (Found ms rest)
    → IsWhen present [] (λ ms. AllByRecursion IsOperation ms) ms × Begins (when_text present operations_text ms) bits rest
list_spelled E true bits ms rest h = let k = operations_spelled E (length bits) bits ms rest h in (k.0, begins k.1)
list_spelled E false bits ms rest h =
    let none : List PicNumModification = [] in
    let same = same_found {E = E} ms none rest bits (Found ms rest) refl h in
    (same.0, begins (sym same.1))

list_again : {E : Type 0} (present : Bool) (ms : List PicNumModification) (rest : List Bool) → IsWhen present [] (λ ms. AllByRecursion IsOperation ms) ms
    → outcome_of {E = E} (list_when present) (when_text present operations_text ms ++ rest) ≡ Found ms rest
unfolding outcome_of
list_again {E} true ms rest h = operations_again {E = E} (length (operations_text ms ++ rest)) ms rest (omega arith) h
list_again false ms rest h = rw h refl

pub modification_spelled : (E : Type 0) (bits : List Bool) (m : ListModification) (rest : List Bool) → Spells {E = E} ref_pic_list_modification bits (Found m rest)
    → ModificationFits m × Begins (modification_text m) bits rest
unfolding ref_pic_list_modification
modification_spelled E bits m rest (flag, after, in_range, text, k) =
    let a = found_then {E = E} (list_when flag) (λ ms. Done (record { flag = flag; operations = ms })) after m rest k in
    let list = list_spelled E flag after a.0 a.1 a.2 in
    let same = same_found {E = E} m (record { flag = flag; operations = a.0 }) rest a.1 (Found m rest) refl a.3 in
    done _ _ same.0 same.1 (record { operations = list.0 }, begins_then (flag_begins flag text) (begins_last list.1))
  where
    done : (q : ListModification) (tail : List Bool) → m ≡ q → rest ≡ tail → ModificationFits q × Begins (modification_text q) bits tail → ModificationFits m × Begins (modification_text m) bits rest
    done q tail e k so = rw (e, k) so

pub modification_again : {E : Type 0} (m : ListModification) (rest : List Bool) → ModificationFits m → outcome_of {E = E} ref_pic_list_modification (modification_text m ++ rest) ≡ Found m rest
unfolding ref_pic_list_modification
modification_again {E} m rest fits =
    simp append_assoc (
    element_again Flag _ m.flag _ refl
    ∙ part_again (list_when m.flag) _ m.operations _ _ (list_again {E = E} m.flag m.operations _ fits.operations)
    ∙ done_again m rest)

-- ---- laws

pub one_modification : (bits rest after : List Bool) (first second : ListModification) → ModificationText first bits rest → ModificationText second bits after → (first ≡ second) × (rest ≡ after)
one_modification bits rest after first second h k = same_found {E = ⊥} first second rest after (Found first rest) refl (one_outcome {E = ⊥} ref_pic_list_modification bits _ _ h k)

pub modification_read : (m : ListModification) (rest : List Bool) → ModificationFits m → ModificationText m (modification_text m ++ rest) rest
modification_read m rest fits = spelled {E = ⊥} ref_pic_list_modification (modification_text m ++ rest) (Found m rest) (modification_again m rest fits) (λ k. cc)

pub modification_written : (bits rest : List Bool) (m : ListModification) → ModificationText m bits rest → ModificationFits m × (bits ≡ modification_text m ++ rest)
modification_written bits rest m h = let k = modification_spelled ⊥ bits m rest h in (k.0, k.1.is)

pub modifications_apart : (first second : ListModification) (x y : List Bool) → ModificationFits first → ModificationFits second → modification_text first ++ x ≡ modification_text second ++ y → first ≡ second
modifications_apart first second x y h k e =
    (one_modification (modification_text second ++ y) x y first second (subst (λ t. ModificationText first t x) e (modification_read first x h)) (modification_read second y k)).0

-- ---- what a reader answers

pub reads : (result : Result ListModification ListFault) (bits rest : List Bool) → Answers list_says (λ x. x) result rest (outcome_of ref_pic_list_modification bits) → ReadsModification result bits rest
reads (Ok m) bits rest k = spelled {E = ⊥} ref_pic_list_modification bits _ k (λ e. cc)
reads (Err NoReading) bits rest k = λ m after text. let found = outcome_of-spelled {E = ⊥} ref_pic_list_modification bits (Found m after) text in cc
reads (Err Memory) bits rest k = tt

pub in_range : (result : Result ListModification ListFault) (bits rest : List Bool) → Answers list_says (λ x. x) result rest (outcome_of ref_pic_list_modification bits) → IfOk result (λ m. ModificationFits m)
in_range (Ok m) bits rest k = (modification_written bits rest m (reads (Ok m) bits rest k)).0
in_range (Err fault) bits rest k = tt
