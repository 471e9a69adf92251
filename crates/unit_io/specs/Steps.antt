-- The calls of an end in memory: how many bytes one moves at most, how many were made, and which fail.
use Rattle.std.specs.Prelude.{ℕ, List}
use Rattle.unit_io.specs.declared.clean_sink.CleanSink.{CleanSink}
use Rattle.unit_io.specs.declared.clean_source.CleanSource.{CleanSource}
use Rattle.unit_io.specs.declared.mem_sink.MemSink.{MemSink}
use Rattle.unit_io.specs.declared.mem_source.MemSource.{MemSource}

abbrev pub clean_source_step : CleanSource → ℕ
clean_source_step s = s.step

abbrev pub mem_source_step : MemSource → ℕ
mem_source_step s = clean_source_step s.source

abbrev pub clean_sink_step : CleanSink → ℕ
clean_sink_step s = s.step

abbrev pub mem_sink_step : MemSink → ℕ
mem_sink_step s = clean_sink_step s.sink

-- how many reads were made, up to the greatest `u64`
abbrev pub mem_source_calls : MemSource → ℕ
mem_source_calls s = s.failing.calls

-- the numbers of the reads that fail
abbrev pub mem_source_failing : MemSource → List ℕ
mem_source_failing s = s.failing.numbers.items

-- how many writes were made, up to the greatest `u64`
abbrev pub mem_sink_calls : MemSink → ℕ
mem_sink_calls s = s.failing.calls

-- the numbers of the writes that fail
abbrev pub mem_sink_failing : MemSink → List ℕ
mem_sink_failing s = s.failing.numbers.items
