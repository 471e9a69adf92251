-- What the readers and writers behind the standard ends tell.
use Rattle.std.specs.Prelude.{ℕ, List, Option}
use Rattle.unit_io.specs.declared.std_sink.StdSink.{StdSink}
use Rattle.unit_io.specs.declared.std_source.StdSource.{StdSource}

-- the bytes that the reader has left
abbrev pub reader_left : {R : Type 0} → (R → Option (List ℕ)) → StdSource R → Option (List ℕ)
reader_left remaining s = remaining s.reader

-- the bytes that the writer holds
abbrev pub writer_held : {W : Type 0} → (W → Option (List ℕ)) → StdSink W → Option (List ℕ)
writer_held contents s = contents s.writer
