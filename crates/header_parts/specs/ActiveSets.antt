-- The sets that a slice is read under (ITU-T H.264, 7.4.1.2.1).
use Rattle.param_sets.specs.declared.pps.Pps.{Pps}
use Rattle.param_sets.specs.declared.sps.Sps.{Sps}
use Rattle.header_parts.specs.declared.active_sets.ActiveSets.{ActiveSets}

pub record Active : Type 0 where
  pub sps : Sps
  pub pps : Pps

-- what is seen of references to them
abbrev pub active_view : ActiveSets → Active
active_view a = record { sps = a.sps.now; pps = a.pps.now }
