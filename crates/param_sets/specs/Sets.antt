-- The parameter sets in force: of each number the set that was put last (ITU-T H.264, 7.4.1.2.1).
use Rattle.std.specs.Prelude.{◌≡◌, ℕ, List, [], Option}
use Rattle.std.specs.List.{AllByRecursion}
use Rattle.std.specs.Ordering.{nat_cmp}
use Rattle.std.specs.Map.{lookup}
use Rattle.std.specs.BTreeMap.{insert_entry, is_at}
use Rattle.param_sets.specs.SpsCodes.{IsSps}
use Rattle.param_sets.specs.PpsCodes.{IsPps}
use Rattle.param_sets.specs.declared.sps.Sps.{Sps}
use Rattle.param_sets.specs.declared.pps.Pps.{Pps}

-- two maps from numbers to sets, each in the order of the numbers
pub record SetMaps : Type 0 where
  pub sps : List (ℕ × Sps)
  pub pps : List (ℕ × Pps)

abbrev pub no_sets : SetMaps
no_sets = record { sps = []; pps = [] }

abbrev pub find_sps : ℕ → SetMaps → Option Sps
find_sps number sets = lookup (is_at (nat_cmp number)) sets.sps

abbrev pub find_pps : ℕ → SetMaps → Option Pps
find_pps number sets = lookup (is_at (nat_cmp number)) sets.pps

-- a set takes the place of the one of its number
abbrev pub sps_put : Sps → SetMaps → SetMaps
sps_put sps sets = record sets { sps = insert_entry nat_cmp sets.sps sps.seq_parameter_set_id sps }

abbrev pub pps_put : Pps → SetMaps → SetMaps
pps_put pps sets = record sets { pps = insert_entry nat_cmp sets.pps pps.pic_parameter_set_id pps }

-- each set is in range, inside the profile and the limits, and stands under its own number
abbrev pub AreNumberedSps : List (ℕ × Sps) → Type 0
AreNumberedSps entries = AllByRecursion (λ e. IsSps e.1 × (e.1.seq_parameter_set_id ≡ e.0)) entries

abbrev pub AreNumberedPps : List (ℕ × Pps) → Type 0
AreNumberedPps entries = AllByRecursion (λ e. IsPps e.1 × (e.1.pic_parameter_set_id ≡ e.0)) entries
