-- What a reader's fault says of the bits. Nothing is refused for its value: what is out of its range is no reading.
use Rattle.std.specs.Prelude.{◌≡◌}
use Rattle.exp_golomb.specs.Syntax.{Outcome, NoText}
use Rattle.ref_pic_lists.specs.declared.fault.ListFault.{ListFault}
use Rattle.ref_pic_lists.specs.declared.fault.ListFault.TheVariants.{NoReading, Memory}

abbrev pub list_says : {A : Type 0} → ListFault → Outcome ⊥ A → Type 0
list_says NoReading outcome = outcome ≡ NoText
list_says Memory outcome = Unit {0}
