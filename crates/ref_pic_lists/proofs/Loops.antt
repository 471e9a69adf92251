-- Faults that go on to the end.
use Rattle.std.proofs.Common.{◌≡◌, ◌+◌, ◌≤◌, Bool, List, length, refl, ap, ◌∙◌, arith}
use Rattle.std.proofs.lemmas.List.{length-append}
use Rattle.bit_texts.specs.Bits.{more_data}
use Rattle.exp_golomb.specs.Code.{code}
use Rattle.exp_golomb.specs.Syntax.{Syntax, Done, Never, Refuse, Element, More, Bounded, Outcome, Found, Spells, chained}
use Rattle.ref_pic_lists.specs.Faults.{list_says}
use Rattle.ref_pic_lists.specs.declared.fault.ListFault.{ListFault}
use Rattle.ref_pic_lists.specs.declared.fault.ListFault.TheVariants.{NoReading, Memory}

-- a fault of a part is one of the whole
pub says_then : {A B : Type 0} (fault : ListFault) (o : Outcome ⊥ A) (next : A → List Bool → Outcome ⊥ B) → list_says fault o → list_says fault (chained o next)
says_then NoReading o next h = rw h refl
says_then Memory o next h = tt

-- no text has bits behind it that were not there
pub no_longer : {E A : Type 0} (syntax : Syntax E A) (bits : List Bool) (value : A) (rest : List Bool) → Spells syntax bits (Found value rest) → length rest ≤ length bits
no_longer {E} {A} (Done value) bits found rest h = let same : bits ≡ rest = cc in rw same (omega arith)
no_longer Never bits found rest h = absurd h
no_longer (Refuse cause) bits found rest h = absurd cc
no_longer (Element kind syntax) bits found rest (value, after, in_range, text, others) =
    let later = no_longer (syntax value) after found rest others in
    let size : length bits ≡ length (code kind value) + length after = ap (λ (t : List Bool). length t) text ∙ length-append (code kind value) after in
    omega (arith, later, size)
no_longer (More syntax) bits found rest h = no_longer (syntax (more_data bits)) bits found rest h
no_longer (Bounded syntax) bits found rest h = no_longer (syntax (length bits)) bits found rest h
