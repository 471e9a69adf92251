-- Why elements that can be read are refused, and what a reader's fault says of the bits.
use Rattle.std.specs.Prelude.{◌≡◌, ℕ}
use Rattle.exp_golomb.specs.Syntax.{Outcome, NoText, Refused}
use Rattle.ref_pic_lists.specs.declared.fault.ListFault.{ListFault}
use Rattle.ref_pic_lists.specs.declared.fault.ListFault.TheVariants as lists
use Rattle.header_parts.specs.declared.fault.HeaderFault.{HeaderFault}
use Rattle.header_parts.specs.declared.fault.HeaderFault.TheVariants.{NoReading, MissingPps, MissingSps, Profile, Memory}

pub data Refusal : Type 0 where
  -- an element outside the profile
  OutsideProfile : Refusal
  -- no set of this number stands
  NoPps : ℕ → Refusal
  NoSps : ℕ → Refusal

abbrev pub header_says : {A : Type 0} → HeaderFault → Outcome Refusal A → Type 0
header_says NoReading outcome = outcome ≡ NoText
header_says (MissingPps number) outcome = outcome ≡ Refused (NoPps number)
header_says (MissingSps number) outcome = outcome ≡ Refused (NoSps number)
header_says Profile outcome = outcome ≡ Refused OutsideProfile
header_says Memory outcome = Unit {0}

-- the fault of a header whose reference picture lists can't be read
abbrev pub list_fault : ListFault → HeaderFault
list_fault lists.NoReading = NoReading
list_fault lists.Memory = Memory
