-- The tables refuse nothing: whatever others refuse, their outcomes are the same.
use Rattle.std.proofs.Common.{◌≡◌, ℕ, zero, suc, ◌+◌, Bool, true, false, cond, eqb, List, [], ◌∷◌, length, Option, Some, None, refl, sym, ap, ◌∙◌}
use Rattle.exp_golomb.specs.Code.{Kind, Value, Flag, Ue, Se}
use Rattle.exp_golomb.specs.Element.{front}
use Rattle.exp_golomb.specs.Syntax.{Syntax, Done, Never, Element, Bounded, Outcome, Found, Refused, NoText, behind, chained, outcome_of, ◌>>=◌, series, when}
use Rattle.exp_golomb.proofs.Syntaxes.{outcome_of_then}
use Rattle.ref_pic_lists.specs.PredWeightTable.{weight_and_offset, chroma_weights, luma_when, chroma_when, entry, entries, count_of, pred_weight_table}
use Rattle.ref_pic_lists.specs.RefPicListModification.{operand, operations, operation_list, ref_pic_list_modification}
use Rattle.ref_pic_lists.specs.declared.modification.PicNumModification.TheVariants.{Subtract, Add, LongTerm}

abbrev pub lifted : {E A : Type 0} → Outcome ⊥ A → Outcome E A
lifted (Found value rest) = Found value rest
lifted (Refused cause) = absurd cause
lifted NoText = NoText

pub record Alike {E A : Type 0} (none : Syntax ⊥ A) (some : Syntax E A) : Type 0 where
  pub same : (bits : List Bool) → outcome_of some bits ≡ lifted (outcome_of none bits)

-- ---- the forms of tables

done_alike : {E A : Type 0} (value : A) → Alike {E = E} (Done value) (Done value)
unfolding outcome_of
done_alike value = record { same = λ bits. refl }

never_alike : {E A : Type 0} → Alike {E = E} {A = A} Never Never
unfolding outcome_of
never_alike = record { same = λ bits. refl }

element_alike : {E A : Type 0} (kind : Kind) (none : Value kind → Syntax ⊥ A) (some : Value kind → Syntax E A) → ((value : Value kind) → Alike (none value) (some value)) → Alike (Element kind none) (Element kind some)
unfolding outcome_of
element_alike {E} {A} kind none some each = record { same = λ bits. at (front kind bits) }
  where
    at : (o : Option (Value kind × List Bool)) → behind o (λ value after. outcome_of (some value) after) ≡ lifted (behind o (λ value after. outcome_of (none value) after))
    at None = refl
    at (Some x) = (each x.0).same x.1

bounded_alike : {E A : Type 0} (none : ℕ → Syntax ⊥ A) (some : ℕ → Syntax E A) → ((bound : ℕ) → Alike (none bound) (some bound)) → Alike (Bounded none) (Bounded some)
unfolding outcome_of
bounded_alike none some each = record { same = λ bits. (each (length bits)).same bits }

then_alike : {E A B : Type 0} (none : Syntax ⊥ A) (some : Syntax E A) (next : A → Syntax ⊥ B) (others : A → Syntax E B) → Alike none some → ((value : A) → Alike (next value) (others value)) → Alike (none >>= next) (some >>= others)
then_alike {E} {A} {B} none some next others first each =
    record { same = λ bits. outcome_of_then some others bits ∙ rw (first.same bits) (at (outcome_of none bits)) ∙ ap (λ o. lifted {E = E} o) (sym (outcome_of_then none next bits)) }
  where
    at : (o : Outcome ⊥ A) → chained (lifted {E = E} o) (λ value rest. outcome_of (others value) rest) ≡ lifted (chained o (λ value rest. outcome_of (next value) rest))
    at (Found value rest) = (each value).same rest
    at (Refused cause) = absurd cause
    at NoText = refl

cond_alike : {E A : Type 0} (b : Bool) {none more : Syntax ⊥ A} {some others : Syntax E A} → Alike none some → Alike more others → Alike (cond b none more) (cond b some others)
cond_alike true first second = first
cond_alike false first second = second

series_alike : {E A : Type 0} (count place : ℕ) (none : ℕ → Syntax ⊥ A) (some : ℕ → Syntax E A) → ((place : ℕ) → Alike (none place) (some place)) → Alike (series count place none) (series count place some)
unfolding series
series_alike zero place none some each = done_alike []
series_alike {E} {A} (suc count) place none some each =
    then_alike (none place) (some place) _ _ (each place) (λ first. then_alike (series count (place + 1) none) (series count (place + 1) some) _ _ (series_alike count (place + 1) none some each) (λ others. done_alike {E = E} (first ∷ others)))

-- ---- the modification of a list

one_alike : {E A : Type 0} (kind : Kind) (make : Value kind → A) → Alike {E = E} (Element kind (λ value. Done (make value))) (Element kind (λ value. Done (make value)))
one_alike kind make = element_alike kind _ _ (λ value. done_alike (make value))

operand_alike : {E : Type 0} (number : ℕ) → Alike {E = E} (operand number) (operand number)
unfolding operand
operand_alike {E} number =
    cond_alike (eqb number 0) (one_alike {E = E} (Ue 4294967294) Subtract) (cond_alike (eqb number 1) (one_alike {E = E} (Ue 4294967294) Add) (one_alike {E = E} (Ue 4294967294) LongTerm))

operations_alike : {E : Type 0} (bound : ℕ) → Alike {E = E} (operations bound) (operations bound)
unfolding operations
operations_alike zero = never_alike
operations_alike {E} (suc bound) =
    element_alike (Ue 3) _ _ (λ number.
    cond_alike (eqb number 3) (done_alike []) (then_alike (operand number) (operand number) _ _ (operand_alike number) (λ first.
    then_alike (operations bound) (operations bound) _ _ (operations_alike bound) (λ others. done_alike {E = E} (first ∷ others)))))

pub modification_alike : {E : Type 0} → Alike {E = E} ref_pic_list_modification ref_pic_list_modification
unfolding ref_pic_list_modification
modification_alike {E} =
    element_alike Flag _ _ (λ flag.
    then_alike (when flag [] operation_list) (when flag [] operation_list) _ _ (cond_alike flag (bounded_alike operations operations operations_alike) (done_alike []))
    (λ operations. done_alike {E = E} (record { flag = flag; operations = operations })))

-- ---- the table of weights

weight_alike : {E : Type 0} → Alike {E = E} weight_and_offset weight_and_offset
unfolding weight_and_offset
weight_alike {E} = element_alike (Se _ _) _ _ (λ weight. one_alike {E = E} (Se _ _) (λ offset. record { weight = weight; offset = offset }))

chroma_alike : {E : Type 0} → Alike {E = E} chroma_weights chroma_weights
unfolding chroma_weights
chroma_alike {E} = then_alike weight_and_offset weight_and_offset _ _ weight_alike (λ cb. then_alike weight_and_offset weight_and_offset _ _ weight_alike (λ cr. done_alike {E = E} (record { cb = cb; cr = cr })))

luma_when_alike : {E : Type 0} (flag : Bool) → Alike {E = E} (luma_when flag) (luma_when flag)
unfolding luma_when
luma_when_alike {E} flag = cond_alike flag (then_alike weight_and_offset weight_and_offset _ _ weight_alike (λ luma. done_alike {E = E} (Some luma))) (done_alike None)

chroma_when_alike : {E : Type 0} (flag : Bool) → Alike {E = E} (chroma_when flag) (chroma_when flag)
unfolding chroma_when
chroma_when_alike {E} flag = cond_alike flag (then_alike chroma_weights chroma_weights _ _ chroma_alike (λ chroma. done_alike {E = E} (Some chroma))) (done_alike None)

entry_alike : {E : Type 0} → Alike {E = E} entry entry
unfolding entry
entry_alike {E} =
    element_alike Flag _ _ (λ luma_weight_flag.
    then_alike (luma_when luma_weight_flag) (luma_when luma_weight_flag) _ _ (luma_when_alike luma_weight_flag) (λ luma.
    element_alike Flag _ _ (λ chroma_weight_flag.
    then_alike (chroma_when chroma_weight_flag) (chroma_when chroma_weight_flag) _ _ (chroma_when_alike chroma_weight_flag) (λ chroma. done_alike {E = E} (record { luma = luma; chroma = chroma })))))

entries_alike : {E : Type 0} (count : ℕ) → Alike {E = E} (entries count) (entries count)
entries_alike {E} count = series_alike count 0 (λ place. entry) (λ place. entry) (λ place. entry_alike {E = E})

pub weights_alike : {E : Type 0} (l0 : ℕ) (l1 : Option ℕ) → Alike {E = E} (pred_weight_table l0 l1) (pred_weight_table l0 l1)
unfolding pred_weight_table
weights_alike {E} l0 l1 =
    element_alike (Ue 7) _ _ (λ luma. element_alike (Ue 7) _ _ (λ chroma.
    then_alike (entries l0) (entries l0) _ _ (entries_alike l0) (λ list_0.
    then_alike (entries (count_of l1)) (entries (count_of l1)) _ _ (entries_alike (count_of l1)) (λ list_1.
    done_alike {E = E} (record { luma_log2_weight_denom = luma; chroma_log2_weight_denom = chroma; list_0 = list_0; list_1 = list_1 })))))
