-- Single elements, and faults that go on to the end.
use Rattle.std.proofs.Common.{◌≡◌, ℕ, ◌≤◌, Bool, List, Some, None, Result, Ok, Err, refl}
use Rattle.std.specs.Prelude.{IfOk}
use Rattle.exp_golomb.specs.Code.{Kind, Value, Ue}
use Rattle.exp_golomb.specs.Element.{front}
use Rattle.exp_golomb.specs.Syntax.{Syntax, Done, Element, Outcome, Found, NoText, outcome_of, chained, ReadsElement}
use Rattle.exp_golomb.proofs.Fronts.{front_takes}
use Rattle.param_sets.proofs.Spelled.{ue_most}
use Rattle.header_parts.specs.Refusal.{Refusal, header_says}
use Rattle.header_parts.specs.declared.fault.HeaderFault.{HeaderFault}
use Rattle.header_parts.specs.declared.fault.HeaderFault.TheVariants.{NoReading, MissingPps, MissingSps, Profile, Memory}

abbrev pub alone : (kind : Kind) → Syntax Refusal (Value kind)
alone kind = Element kind Done

pub element_found : (kind : Kind) (bits after : List Bool) (value : Value kind) → front kind bits ≡ Some (value, after) → outcome_of (alone kind) bits ≡ Found value after
unfolding outcome_of
element_found kind bits after value h = rw h refl

pub element_absent : (kind : Kind) (bits : List Bool) → front kind bits ≡ None → outcome_of (alone kind) bits ≡ NoText
unfolding outcome_of
element_absent kind bits h = rw h refl

pub element_most : {F : Type 0} (absent : F) (max : ℕ) (result : Result ℕ F) (old new : List Bool) → ReadsElement absent (Ue max) result old new → IfOk result (λ value. value ≤ max)
element_most absent max (Ok value) old new h = ue_most max value (front_takes (Ue max) _ value _ h).0
element_most absent max (Err fault) old new h = tt

-- a fault of a part is one of the whole
pub says_then : {A B : Type 0} (fault : HeaderFault) (o : Outcome Refusal A) (next : A → List Bool → Outcome Refusal B) → header_says fault o → header_says fault (chained o next)
says_then NoReading o next h = rw h refl
says_then (MissingPps number) o next h = rw h refl
says_then (MissingSps number) o next h = rw h refl
says_then Profile o next h = rw h refl
says_then Memory o next h = tt
