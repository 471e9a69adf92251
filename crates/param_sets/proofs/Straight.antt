-- Syntaxes of one element after another: where elements were read, the outcome is that of what follows.
use Rattle.std.proofs.Common.{◌≡◌, ℕ, ◌<◌, ◌≤◌, Bool, true, false, List, Option, Some, None, Result, IsErrAnd, refl, ap, ◌∙◌, arith}
use Rattle.std.proofs.lemmas.Result.{err_from_is_err_and}
use Rattle.std.proofs.lemmas.Bool.Decides.{nat_tests}
use Rattle.std.specs.Prelude.{◌==◌, not, nat_le}
use Rattle.exp_golomb.specs.Code.{Kind, Value}
use Rattle.exp_golomb.specs.Element.{front}
use Rattle.exp_golomb.specs.Syntax.{Syntax, Done, Element, Outcome, Found, NoText, Refused, behind, outcome_of, chained, ◌>>=◌, in_range, refused_where, Answers}
use Rattle.exp_golomb.proofs.Syntaxes.{outcome_of_then}
use Rattle.param_sets.specs.Refusal.{Refusal, sps_says, part_says}
use Rattle.param_sets.specs.declared.fault.SetFault.{SetFault}
use Rattle.param_sets.specs.declared.fault.SetFault.TheVariants.{NoReading, Profile, Limit, Memory}

-- the outcome, as a record
pub record Begins {E A : Type 0} (syntax : Syntax E A) (bits : List Bool) (outcome : Outcome E A) : Type 0 where
  pub is : outcome_of syntax bits ≡ outcome

-- whatever it is
pub here : {E A : Type 0} {syntax : Syntax E A} {bits : List Bool} → Begins syntax bits (outcome_of syntax bits)
here {E} {A} {syntax} {bits} = record { is = refl }

-- nothing follows
pub done : {E A : Type 0} {value : A} {bits : List Bool} → Begins {E = E} (Done value) bits (Found value bits)
unfolding outcome_of
done {E} {A} {value} {bits} = record { is = refl }

-- an element was read, and then what its value asks for
pub reads : {E A : Type 0} {kind : Kind} {rest : Value kind → Syntax E A} {value : Value kind} {bits after : List Bool} {outcome : Outcome E A}
    → front kind bits ≡ Some (value, after) → Begins (rest value) after outcome → Begins (Element kind rest) bits outcome
unfolding outcome_of
reads {E} {A} {kind} {rest} h k = record { is = ap (λ (o : Option (Value kind × List Bool)). behind o (λ value after. outcome_of (rest value) after)) h ∙ k.is }

-- no such element stands there
pub ends : {E A : Type 0} {kind : Kind} {rest : Value kind → Syntax E A} {bits : List Bool} → front kind bits ≡ None → Begins (Element kind rest) bits NoText
unfolding outcome_of
ends {E} {A} {kind} {rest} h = record { is = ap (λ (o : Option (Value kind × List Bool)). behind o (λ value after. outcome_of (rest value) after)) h }

-- a part was read, and then what its value asks for
pub part_reads : {E A B : Type 0} (part : Syntax E B) (next : B → Syntax E A) (bits : List Bool) {value : B} {after : List Bool} {outcome : Outcome E A}
    → outcome_of part bits ≡ Found value after → Begins (next value) after outcome → Begins (part >>= next) bits outcome
part_reads part next bits h k = record { is = rw (outcome_of_then, h) k.is }

-- a value that is not refused
pub passes : {E A : Type 0} {holds : Bool} (cause : E) (next : Bool → Syntax E A) {bits : List Bool} {outcome : Outcome E A}
    → holds ≡ false → Begins (next true) bits outcome → Begins (refused_where holds cause >>= next) bits outcome
passes cause next h k = rw h k

pub passes_at : {E A : Type 0} {value n : ℕ} (cause : E) (next : Bool → Syntax E A) {bits : List Bool} {outcome : Outcome E A}
    → value ≡ n → Begins (next true) bits outcome → Begins (refused_where (not (value == n)) cause >>= next) bits outcome
passes_at {E} {A} {value} {n} cause next h k =
    let same : (value == n) ≡ true = grind (arith, nat_tests) in
    passes cause next (ap not same) k

-- one that is
pub refused : {E A : Type 0} {holds : Bool} (cause : E) (next : Bool → Syntax E A) {bits : List Bool} → holds ≡ true → Begins (refused_where holds cause >>= next) bits (Refused cause)
unfolding outcome_of
refused cause next h = rw h (record { is = refl })

pub refused_at : {E A : Type 0} {value n : ℕ} (cause : E) (next : Bool → Syntax E A) {bits : List Bool} → (value ≡ n → ⊥) → Begins (refused_where (not (value == n)) cause >>= next) bits (Refused cause)
refused_at {E} {A} {value} {n} cause next h =
    let differ : (value == n) ≡ false = grind (arith, nat_tests) in
    refused cause next (ap not differ)

-- a value in its range, and one that is not
pub stays_within : {E A : Type 0} {value most : ℕ} (next : Bool → Syntax E A) {bits : List Bool} {outcome : Outcome E A}
    → value ≤ most → Begins (next true) bits outcome → Begins (in_range (nat_le value most) >>= next) bits outcome
stays_within {E} {A} {value} {most} next h k =
    let holds : nat_le value most ≡ true = grind (arith, nat_tests) in
    rw holds k

pub goes_beyond : {E A : Type 0} {value most : ℕ} (next : Bool → Syntax E A) {bits : List Bool} → most < value → Begins (in_range (nat_le value most) >>= next) bits NoText
unfolding outcome_of
goes_beyond {E} {A} {value} {most} next h =
    let fails : nat_le value most ≡ false = grind (arith, nat_tests) in
    rw fails (record { is = refl })

-- a reader found no element
pub absent : {X A : Type 0} (says : SetFault → Outcome Refusal A → Type 0) (view : X → A) (result : Result X SetFault) (left : List Bool) {fault : SetFault} {syntax : Syntax Refusal A} {bits : List Bool}
    → IsErrAnd result (λ f. f ≡ fault) → fault ≡ NoReading → says NoReading NoText → Begins syntax bits NoText → Answers says view result left (outcome_of syntax bits)
absent says view result left h is so text =
    let p = err_from_is_err_and result h in
    rw (p.1, p.2, is, text.is) so

-- a reader of a part failed
pub part_fails : {X A B : Type 0} (view : X → A) (result : Result X SetFault) (left : List Bool) (fault : SetFault) {syntax : Syntax Refusal A} {bits : List Bool} (after : List Bool) (part : Syntax Refusal B)
    (next : B → Syntax Refusal A) → IsErrAnd result (λ f. f ≡ fault) → part_says fault (outcome_of part after) → Begins syntax bits (outcome_of (part >>= next) after)
    → Answers sps_says view result left (outcome_of syntax bits)
part_fails {X} {A} {B} view result left fault after part next h says text =
    let p = err_from_is_err_and result h in
    rw (p.1, p.2, text.is, outcome_of_then) (of fault (outcome_of part after) says)
  where
    of : (f : SetFault) (o : Outcome Refusal B) → part_says f o → sps_says f (chained o (λ value rest. outcome_of (next value) rest))
    of NoReading o k = rw k refl
    of Profile o k = absurd k
    of Limit o k = absurd k
    of Memory o k = tt
