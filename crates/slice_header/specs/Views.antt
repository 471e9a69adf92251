-- What is seen of a header, or of its start, beside references to sets.
use Rattle.std.specs.Prelude.{Result, Ok, Err}
use Rattle.header_parts.specs.declared.active_sets.ActiveSets.{ActiveSets}
use Rattle.header_parts.specs.declared.fault.HeaderFault.{HeaderFault}
use Rattle.header_parts.specs.declared.header.Header.{Header}
use Rattle.header_parts.specs.ActiveSets.{active_view}
use Rattle.slice_header.specs.SliceHeader.{Start}
use Rattle.slice_header.specs.declared.slice_start.SliceStart.{SliceStart}

abbrev pub start_view : SliceStart → Start
start_view s = record { first_mb_in_slice = s.first_mb_in_slice; slice_type = s.slice_type; pic_parameter_set_id = s.pic_parameter_set_id; active = active_view s.active }

-- a reader's answer without the sets
abbrev pub without_sets : Result (Header × ActiveSets) HeaderFault → Result Header HeaderFault
without_sets (Ok read) = Ok read.0
without_sets (Err fault) = Err fault
