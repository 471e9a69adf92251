-- The sums over the units of a stream.
use Rattle.std.specs.Prelude.{ℕ, ◌+◌, ◌-◌, ◌^◌, ◌≤◌, ◌==◌, ◌||◌, min, if◌then◌else◌, Option, Some, None}
use Rattle.stream_taps.specs.declared.event.Event.{Event}
use Rattle.stream_taps.specs.declared.tally.Tally.{Tally}

-- a sum that stops at the greatest u64
abbrev pub capped_sum : ℕ → ℕ → ℕ
capped_sum a b = min (a + b) (2 ^ 64 - 1)

-- a unit is a slice where its nal_unit_type is 1 or 5 (ITU-T H.264, table 7-1)
abbrev pub slices_in : Event → ℕ
slices_in e = if (e.kind == 1) || (e.kind == 5) then 1 else 0

-- the tally once an event was added: one unit, a slice or none, and the event's three numbers
abbrev pub tally_after : Tally → Event → Tally
tally_after t e = record {
  units = capped_sum t.units 1;
  slices = capped_sum t.slices (slices_in e);
  macroblocks = capped_sum t.macroblocks e.macroblocks;
  bytes_in = capped_sum t.bytes_in e.bytes_in;
  bytes_out = capped_sum t.bytes_out e.bytes_out;
}

-- there is a limit, and so many units reach it
abbrev pub IsReached : Option ℕ → ℕ → Type 0
IsReached None units = ⊥
IsReached (Some n) units = n ≤ units
