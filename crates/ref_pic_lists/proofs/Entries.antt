-- Members of a series that fail, as a loop reads them.
use Rattle.std.proofs.Common.{◌≡◌, ℕ, ◌-◌, ◌<◌, List, Bool}
use Rattle.exp_golomb.specs.Syntax.{Syntax, Outcome, outcome_of, series}
use Rattle.exp_golomb.proofs.Series.{prepended, series_cut}
use Rattle.ref_pic_lists.specs.Faults.{list_says}
use Rattle.ref_pic_lists.specs.declared.fault.ListFault.{ListFault}
use Rattle.ref_pic_lists.specs.declared.fault.ListFault.TheVariants.{NoReading, Memory}

pub series_fails : {A : Type 0} (fault : ListFault) (front : List A) (count i : ℕ) (syntax : ℕ → Syntax ⊥ A) (bits : List Bool) (total : Outcome ⊥ (List A)) → i < count → list_says fault (outcome_of (syntax i) bits)
    → prepended front (outcome_of (series (count - i) i syntax) bits) ≡ total → list_says fault total
series_fails NoReading front count i syntax bits total lt h so_far = series_cut front count i syntax bits total lt h so_far
series_fails Memory front count i syntax bits total lt h so_far = tt
