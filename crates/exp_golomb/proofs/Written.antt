-- What was written is read again, element by element.
use Rattle.std.proofs.Common.{◌≡◌, Bool, true, false, List, ◌++◌, refl, ◌∙◌}
use Rattle.exp_golomb.specs.Code.{Kind, Value, is_in_range, code}
use Rattle.exp_golomb.specs.Syntax.{Syntax, Done, Element, Found, outcome_of, ◌>>=◌, refused_where, in_range}
use Rattle.exp_golomb.proofs.Fronts.{front_again}
use Rattle.exp_golomb.proofs.Syntaxes.{outcome_of_then}

pub element_again : {E A : Type 0} (kind : Kind) (rest : Value kind → Syntax E A) (value : Value kind) (after : List Bool) → is_in_range kind value ≡ true
    → outcome_of (Element kind rest) (code kind value ++ after) ≡ outcome_of (rest value) after
unfolding outcome_of
element_again kind rest value after h = rw (front_again kind value after h) refl

pub done_again : {E A : Type 0} (value : A) (bits : List Bool) → let syntax : Syntax E A = Done value in outcome_of syntax bits ≡ Found value bits
unfolding outcome_of
done_again value bits = refl

pub not_refused : {E A : Type 0} (holds : Bool) (cause : E) (next : Bool → Syntax E A) (bits : List Bool) → holds ≡ false → outcome_of (refused_where holds cause >>= next) bits ≡ outcome_of (next true) bits
not_refused holds cause next bits h = rw h refl

pub holds_in_range : {E A : Type 0} (holds : Bool) (next : Bool → Syntax E A) (bits : List Bool) → holds ≡ true → outcome_of (in_range holds >>= next) bits ≡ outcome_of (next true) bits
holds_in_range holds next bits h = rw h refl

-- a syntax within another
pub part_again : {E A B : Type 0} (syntax : Syntax E A) (next : A → Syntax E B) (value : A) (bits after : List Bool) → outcome_of syntax bits ≡ Found value after → outcome_of (syntax >>= next) bits ≡ outcome_of (next value) after
part_again syntax next value bits after h = outcome_of_then syntax next bits ∙ rw h refl
