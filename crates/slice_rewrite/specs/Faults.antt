-- Faults of the layers below, as those of a unit.
use Rattle.annexb_units.specs.declared.unescaping.EscapeFault.{EscapeFault}
use Rattle.annexb_units.specs.declared.unescaping.EscapeFault.TheVariants as payloads
use Rattle.slice_data.specs.declared.fault.SliceFault.{SliceFault}
use Rattle.slice_data.specs.declared.fault.SliceFault.TheVariants as macroblocks
use Rattle.h264_types.specs.declared.fault.Why.TheVariants.{Escape as BadEscape, Profile as BadProfile, Header as BadHeader, MissingSps, MissingPps, Slice as BadSlice}
use Rattle.header_parts.specs.declared.fault.HeaderFault.{HeaderFault}
use Rattle.header_parts.specs.declared.fault.HeaderFault.TheVariants as headers
use Rattle.slice_rewrite.specs.declared.fault.RewriteFault.{RewriteFault}
use Rattle.slice_rewrite.specs.declared.fault.RewriteFault.TheVariants.{Outside, Memory}

abbrev pub fault_of_escape : EscapeFault → RewriteFault
fault_of_escape payloads.BadEscape = Outside BadEscape
fault_of_escape payloads.Memory = Memory

abbrev pub fault_of_header : HeaderFault → RewriteFault
fault_of_header headers.NoReading = Outside BadHeader
fault_of_header (headers.MissingPps number) = Outside (MissingPps number)
fault_of_header (headers.MissingSps number) = Outside (MissingSps number)
fault_of_header headers.Profile = Outside BadProfile
fault_of_header headers.Memory = Memory

abbrev pub fault_of_data : SliceFault → RewriteFault
fault_of_data macroblocks.NoReading = Outside BadSlice
