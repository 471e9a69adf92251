-- Reference picture marking is read from its text, and what is read has that text.
use Rattle.std.proofs.Common.{◌≡◌, ℕ, zero, suc, ◌<◌, ◌≤◌, Bool, true, false, cond, eqb, List, [], ◌∷◌, ◌++◌, length, refl, sym, ap, subst, ◌∙◌, arith, append_assoc}
use Rattle.std.specs.List.{flat_map, AllByRecursion}
use Rattle.std.proofs.lemmas.Bool.Decides.{nat_tests}
use Rattle.std.proofs.lemmas.List.{append-nil, length-append}
use Rattle.bit_texts.specs.Texts.{IsWhen, when_text}
use Rattle.exp_golomb.specs.Code.{Flag, Ue, is_in_range, ue}
use Rattle.exp_golomb.specs.Syntax.{Syntax, Done, Outcome, Found, Spells, outcome_of, ◌>>=◌, when}
use Rattle.exp_golomb.proofs.Fronts.{front_again, ue_shorter}
use Rattle.exp_golomb.proofs.Written.{element_again, done_again, part_again}
use Rattle.param_sets.proofs.Spelled.{found_then, same_found, Begins, begins, begins_then, begins_last, ue_most}
use Rattle.header_parts.specs.Refusal.{Refusal}
use Rattle.header_parts.specs.When.{element_when}
use Rattle.header_parts.specs.RefPicMarking.{any, operands, operations, operation_list, marks_idr, marks_other, dec_ref_pic_marking, operation_text, operations_text, marking_text, IsAny, IsOperation, MarkingFits}
use Rattle.header_parts.specs.declared.header.MemoryManagement.{MemoryManagement}
use Rattle.header_parts.specs.declared.header.MemoryManagement.TheVariants.{ShortTermUnused, LongTermUnused, ShortTermToLongTerm, MaxLongTerm, AllUnused, CurrentToLongTerm}
use Rattle.header_parts.specs.declared.parts.Marking.{Marking}
use Rattle.header_parts.proofs.PartTexts.{when_spelled, when_again}

-- ---- an operation is its number and its operands

abbrev number_of : MemoryManagement → ℕ
number_of (ShortTermUnused a) = 1
number_of (LongTermUnused a) = 2
number_of (ShortTermToLongTerm a b) = 3
number_of (MaxLongTerm a) = 4
number_of AllUnused = 5
number_of (CurrentToLongTerm a) = 6

abbrev operands_text : MemoryManagement → List Bool
operands_text (ShortTermUnused a) = ue a
operands_text (LongTermUnused a) = ue a
operands_text (ShortTermToLongTerm a b) = ue a ++ ue b
operands_text (MaxLongTerm a) = ue a
operands_text AllUnused = []
operands_text (CurrentToLongTerm a) = ue a

parts : (m : MemoryManagement) → operation_text m ≡ ue (number_of m) ++ operands_text m
parts (ShortTermUnused a) = refl
parts (LongTermUnused a) = refl
parts (ShortTermToLongTerm a b) = refl
parts (MaxLongTerm a) = refl
parts AllUnused = sym (append-nil (ue 5))
parts (CurrentToLongTerm a) = refl

number_in_range : (m : MemoryManagement) → (is_in_range (Ue 6) (number_of m) ≡ true) × (eqb (number_of m) 0 ≡ false)
number_in_range (ShortTermUnused a) = (refl, refl)
number_in_range (LongTermUnused a) = (refl, refl)
number_in_range (ShortTermToLongTerm a b) = (refl, refl)
number_in_range (MaxLongTerm a) = (refl, refl)
number_in_range AllUnused = (refl, refl)
number_in_range (CurrentToLongTerm a) = (refl, refl)

one_again : (make : ℕ → MemoryManagement) (a : ℕ) (rest : List Bool) → IsAny a → outcome_of (any >>= (λ x. Done (make x))) (ue a ++ rest) ≡ Found (make a) rest
one_again make a rest h = element_again (Ue 4294967294) _ a rest h ∙ done_again (make a) rest

operands_again : (m : MemoryManagement) (rest : List Bool) → IsOperation m → outcome_of (operands (number_of m)) (operands_text m ++ rest) ≡ Found m rest
unfolding operands
operands_again (ShortTermUnused a) rest h = one_again ShortTermUnused a rest h
operands_again (LongTermUnused a) rest h = one_again LongTermUnused a rest h
operands_again (ShortTermToLongTerm a b) rest h = simp append_assoc (element_again (Ue 4294967294) _ a _ h.0 ∙ one_again (ShortTermToLongTerm a) b rest h.1)
operands_again (MaxLongTerm a) rest h = one_again MaxLongTerm a rest h
operands_again AllUnused rest h = done_again AllUnused rest
operands_again (CurrentToLongTerm a) rest h = one_again CurrentToLongTerm a rest h

-- what is spelled of an operation's operands is that operation
record IsSpelled (number : ℕ) (bits : List Bool) (m : MemoryManagement) (rest : List Bool) : Type 0 where
  is_operation : IsOperation m
  text : ue number ++ bits ≡ operation_text m ++ rest

one_spelled : (number : ℕ) (make : ℕ → MemoryManagement) → ((a : ℕ) → IsAny a → IsOperation (make a)) → ((a : ℕ) → operation_text (make a) ≡ ue number ++ ue a)
    → (bits : List Bool) (m : MemoryManagement) (rest : List Bool) → Spells (any >>= (λ x. Done (make x))) bits (Found m rest) → IsSpelled number bits m rest
one_spelled number make is text bits m rest (a, after, in_range, front, k) =
    let same = same_found m (make a) rest after (Found m rest) refl k in
    done (make a) after same.0 same.1 (record { is_operation = is a in_range; text = ap (λ t. ue number ++ t) front ∙ sym (append_assoc (ue number) (ue a) after) ∙ ap (λ t. t ++ after) (sym (text a)) })
  where
    done : (n : MemoryManagement) (tail : List Bool) → m ≡ n → rest ≡ tail → IsSpelled number bits n tail → IsSpelled number bits m rest
    done n tail e k so = rw (e, k) so

operands_spelled : (number : ℕ) (bits : List Bool) (m : MemoryManagement) (rest : List Bool) → number ≤ 6 → eqb number 0 ≡ false → Spells (operands number) bits (Found m rest) → IsSpelled number bits m rest
unfolding operands
operands_spelled zero bits m rest most other h = absurd cc
operands_spelled (suc zero) bits m rest most other h = one_spelled 1 ShortTermUnused (λ a k. k) (λ a. refl) bits m rest h
operands_spelled (suc (suc zero)) bits m rest most other h = one_spelled 2 LongTermUnused (λ a k. k) (λ a. refl) bits m rest h
operands_spelled (suc (suc (suc zero))) bits m rest most other (a, after, in_range, front, (b, tail, second, text, k)) =
    let same = same_found m (ShortTermToLongTerm a b) rest tail (Found m rest) refl k in
    done (ShortTermToLongTerm a b) tail same.0 same.1 (record { is_operation = (in_range, second); text = ap (λ t. ue 3 ++ t) (front ∙ ap (λ t. ue a ++ t) text ∙ sym (append_assoc (ue a) (ue b) tail)) ∙ sym (append_assoc (ue 3) (ue a ++ ue b) tail) })
  where
    done : (n : MemoryManagement) (tail : List Bool) → m ≡ n → rest ≡ tail → IsSpelled 3 bits n tail → IsSpelled 3 bits m rest
    done n tail e k so = rw (e, k) so
operands_spelled (suc (suc (suc (suc zero)))) bits m rest most other h = one_spelled 4 MaxLongTerm (λ a k. k) (λ a. refl) bits m rest h
operands_spelled (suc (suc (suc (suc (suc zero))))) bits m rest most other k =
    let same = same_found m AllUnused rest bits (Found m rest) refl k in
    rw (same.0, same.1) (record { is_operation = tt; text = refl })
operands_spelled (suc (suc (suc (suc (suc (suc zero)))))) bits m rest most other h = one_spelled 6 CurrentToLongTerm (λ a k. k) (λ a. refl) bits m rest h
operands_spelled (suc (suc (suc (suc (suc (suc (suc n))))))) bits m rest most other h = absurd (omega (arith, most))

abbrev found : List MemoryManagement → List Bool → Outcome Refusal (List MemoryManagement)
found ms rest = Found ms rest

-- ---- operations up to one of number 0

abbrev after_number : ℕ → ℕ → Syntax Refusal (List MemoryManagement)
after_number bound number = operands number >>= (λ first. operations bound >>= (λ others. Done (first ∷ others)))

zero_number : (number : ℕ) → eqb number 0 ≡ true → number ≡ 0
zero_number number h = grind (arith, nat_tests)

pub operations_spelled : (bound : ℕ) (bits : List Bool) (ms : List MemoryManagement) (rest : List Bool) → Spells (operations bound) bits (Found ms rest) → AllByRecursion IsOperation ms × (bits ≡ operations_text ms ++ rest)
unfolding operations
operations_spelled zero bits ms rest h = absurd h
operations_spelled (suc bound) bits ms rest (number, after, in_range, text, k) = at (λ more ns tail s. operations_spelled bound more ns tail s) (eqb number 0) refl k
  where
    done : (ns : List MemoryManagement) (tail : List Bool) → ms ≡ ns → rest ≡ tail → AllByRecursion IsOperation ns × (bits ≡ operations_text ns ++ tail) → AllByRecursion IsOperation ms × (bits ≡ operations_text ms ++ rest)
    done ns tail e k so = rw (e, k) so

    at : ((more : List Bool) (ns : List MemoryManagement) (tail : List Bool) → Spells (operations bound) more (Found ns tail) → AllByRecursion IsOperation ns × (more ≡ operations_text ns ++ tail)) → (b : Bool) → eqb number 0 ≡ b → Spells (cond b (Done []) (after_number bound number)) after (Found ms rest) → AllByRecursion IsOperation ms × (bits ≡ operations_text ms ++ rest)
    at later true e k =
        let none : List MemoryManagement = [] in
        let same = same_found ms none rest after (Found ms rest) refl k in
        rw (same.0, same.1) (tt, text ∙ ap (λ n. ue n ++ after) (zero_number number e))
    at later false e k =
        let f = found_then (operands number) (λ first. operations bound >>= (λ others. Done (first ∷ others))) after ms rest k in
        let g = found_then (operations bound) (λ others. Done (f.0 ∷ others)) f.1 ms rest f.3 in
        let first = operands_spelled number after f.0 f.1 (ue_most 6 number in_range) e f.2 in
        let others = later f.1 g.0 g.1 g.2 in
        let same = same_found ms (f.0 ∷ g.0) rest g.1 (Found ms rest) refl g.3 in
        let whole : bits ≡ operations_text (f.0 ∷ g.0) ++ g.1 =
        text ∙ first.text ∙ ap (λ t. operation_text f.0 ++ t) others.1 ∙ sym (append_assoc (operation_text f.0) (operations_text g.0) g.1) ∙ ap (λ t. t ++ g.1) (sym (append_assoc (operation_text f.0) (flat_map operation_text g.0) (ue 0))) in
        done (f.0 ∷ g.0) g.1 same.0 same.1 ((first.is_operation, others.0), whole)

pub operations_again : (bound : ℕ) (ms : List MemoryManagement) (rest : List Bool) → length (operations_text ms ++ rest) ≤ bound → AllByRecursion IsOperation ms → outcome_of (operations bound) (operations_text ms ++ rest) ≡ Found ms rest
unfolding operations outcome_of
operations_again zero [] rest enough h = absurd (omega (arith, enough, ue_shorter 6 0 (ue 0 ++ rest) rest (front_again (Ue 6) 0 rest refl)))
operations_again (suc bound) [] rest enough h = rw (front_again (Ue 6) 0 rest refl) refl
operations_again bound (m ∷ ms) rest enough h = ap (outcome_of (operations bound)) from_number ∙ at (λ b k. operations_again b ms rest k h.1) bound (subst (λ t. length t ≤ bound) from_number enough)
  where
    after : List Bool
    after = operands_text m ++ (operations_text ms ++ rest)

    -- the text from its first number on
    from_number : operations_text (m ∷ ms) ++ rest ≡ ue (number_of m) ++ after
    from_number = ap (λ t. ((t ++ flat_map operation_text ms) ++ ue 0) ++ rest) (parts m) ∙ simp append_assoc refl

    number : (is_in_range (Ue 6) (number_of m) ≡ true) × (eqb (number_of m) 0 ≡ false)
    number = number_in_range m

    fewer : length after < length (ue (number_of m) ++ after)
    fewer = ue_shorter 6 (number_of m) (ue (number_of m) ++ after) after (front_again (Ue 6) (number_of m) after number.0)

    at : ((b : ℕ) → length (operations_text ms ++ rest) ≤ b → outcome_of (operations b) (operations_text ms ++ rest) ≡ Found ms rest) → (bound : ℕ) → length (ue (number_of m) ++ after) ≤ bound
        → outcome_of (operations bound) (ue (number_of m) ++ after) ≡ found (m ∷ ms) rest
    at again zero few = absurd (omega (arith, few, fewer))
    at again (suc bound) few =
        let size = length-append (operands_text m) (operations_text ms ++ rest) in
        element_again (Ue 6) (λ number. cond (eqb number 0) (Done []) (after_number bound number)) (number_of m) after number.0
        ∙ ap (λ (b : Bool). outcome_of (cond b (Done []) (after_number bound (number_of m))) after) number.1
        ∙ part_again (operands (number_of m)) _ m after (operations_text ms ++ rest) (operands_again m (operations_text ms ++ rest) h.0)
        ∙ part_again (operations bound) (λ others. Done (m ∷ others)) ms _ rest (again bound (omega (arith, few, fewer, size)))
        ∙ done_again (m ∷ ms) rest

-- ---- the whole

abbrev list_when : Bool → Syntax Refusal (List MemoryManagement)
list_when present = when present [] operation_list

list_spelled : (present : Bool) (bits : List Bool) (ms : List MemoryManagement) (rest : List Bool) → Spells (list_when present) bits (Found ms rest)
    → IsWhen present [] (λ ms. AllByRecursion IsOperation ms) ms × Begins (when_text present operations_text ms) bits rest
list_spelled true bits ms rest h = let k = operations_spelled (length bits) bits ms rest h in (k.0, begins k.1)
list_spelled false bits ms rest h =
    let none : List MemoryManagement = [] in
    let same = same_found ms none rest bits (Found ms rest) refl h in
    (same.0, begins (sym same.1))

list_again : (present : Bool) (ms : List MemoryManagement) (rest : List Bool) → IsWhen present [] (λ ms. AllByRecursion IsOperation ms) ms
    → outcome_of (list_when present) (when_text present operations_text ms ++ rest) ≡ Found ms rest
unfolding outcome_of
list_again true ms rest h = operations_again (length (operations_text ms ++ rest)) ms rest (omega arith) h
list_again false ms rest h = rw h refl

pub marking_spelled : (nal : ℕ) (bits : List Bool) (m : Marking) (rest : List Bool) → Spells (dec_ref_pic_marking nal) bits (Found m rest)
    → MarkingFits nal m × Begins (marking_text nal m) bits rest
unfolding dec_ref_pic_marking
marking_spelled nal bits m rest h =
    let a = found_then (element_when (marks_idr nal) Flag false) _ bits m rest h in
    let b = found_then (element_when (marks_idr nal) Flag false) _ a.1 m rest a.3 in
    let c = found_then (element_when (marks_other nal) Flag false) _ b.1 m rest b.3 in
    let d = found_then (list_when c.0) _ c.1 m rest c.3 in
    let output = when_spelled (marks_idr nal) Flag false bits a.0 a.1 a.2 in
    let long = when_spelled (marks_idr nal) Flag false a.1 b.0 b.1 b.2 in
    let adaptive = when_spelled (marks_other nal) Flag false b.1 c.0 c.1 c.2 in
    let list = list_spelled c.0 c.1 d.0 d.1 d.2 in
    let same = same_found m _ rest _ (Found m rest) refl d.3 in
    done _ _ same.0 same.1 (
      record { no_output_of_prior_pics_flag = output.0; long_term_reference_flag = long.0; adaptive_ref_pic_marking_mode_flag = adaptive.0; operations = list.0 },
      begins_then output.1 (begins_then long.1 (begins_then adaptive.1 (begins_last list.1))),
    )
  where
    done : (q : Marking) (tail : List Bool) → m ≡ q → rest ≡ tail → MarkingFits nal q × Begins (marking_text nal q) bits tail → MarkingFits nal m × Begins (marking_text nal m) bits rest
    done q tail e k so = rw (e, k) so

pub marking_again : (nal : ℕ) (m : Marking) (rest : List Bool) → MarkingFits nal m → outcome_of (dec_ref_pic_marking nal) (marking_text nal m ++ rest) ≡ Found m rest
unfolding dec_ref_pic_marking
marking_again nal m rest fits =
    simp append_assoc (
    part_again (element_when (marks_idr nal) Flag false) _ m.no_output_of_prior_pics_flag _ _ (when_again (marks_idr nal) Flag false m.no_output_of_prior_pics_flag _ fits.no_output_of_prior_pics_flag)
    ∙ part_again (element_when (marks_idr nal) Flag false) _ m.long_term_reference_flag _ _ (when_again (marks_idr nal) Flag false m.long_term_reference_flag _ fits.long_term_reference_flag)
    ∙ part_again (element_when (marks_other nal) Flag false) _ m.adaptive_ref_pic_marking_mode_flag _ _ (when_again (marks_other nal) Flag false m.adaptive_ref_pic_marking_mode_flag _ fits.adaptive_ref_pic_marking_mode_flag)
    ∙ part_again (list_when m.adaptive_ref_pic_marking_mode_flag) _ m.operations _ _ (list_again m.adaptive_ref_pic_marking_mode_flag m.operations _ fits.operations)
    ∙ done_again m rest)
