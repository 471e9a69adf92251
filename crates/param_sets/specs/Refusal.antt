-- Why fields that can be read are refused, and what a reader's fault says of the bits.
use Rattle.std.specs.Prelude.{◌≡◌}
use Rattle.exp_golomb.specs.Syntax.{Outcome, NoText, Refused}
use Rattle.param_sets.specs.declared.fault.SetFault.{SetFault}
use Rattle.param_sets.specs.declared.fault.SetFault.TheVariants.{NoReading, Profile, Limit, Memory}

pub data Refusal : Type 0 where
  -- a field outside the profile
  OutsideProfile : Refusal
  -- a picture above the limits
  AboveLimit : Refusal

-- of a sequence parameter set
abbrev pub sps_says : {A : Type 0} → SetFault → Outcome Refusal A → Type 0
sps_says NoReading outcome = outcome ≡ NoText
sps_says Profile outcome = outcome ≡ Refused OutsideProfile
sps_says Limit outcome = outcome ≡ Refused AboveLimit
sps_says Memory outcome = Unit {0}

-- of a picture parameter set, which has no limit
abbrev pub pps_says : {A : Type 0} → SetFault → Outcome Refusal A → Type 0
pps_says NoReading outcome = outcome ≡ NoText
pps_says Profile outcome = outcome ≡ Refused OutsideProfile
pps_says Limit outcome = ⊥
pps_says Memory outcome = Unit {0}

-- of elements of which none is refused
abbrev pub part_says : {A : Type 0} → SetFault → Outcome Refusal A → Type 0
part_says NoReading outcome = outcome ≡ NoText
part_says Profile outcome = ⊥
part_says Limit outcome = ⊥
part_says Memory outcome = Unit {0}
