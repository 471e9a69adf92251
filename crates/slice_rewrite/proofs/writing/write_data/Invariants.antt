-- The first macroblocks were put in their written form.
use Rattle.std.proofs.Common.{◌≡◌, Bool, List, [], map, take, None}
use Rattle.init_table.specs.declared.table.InitTable.{InitTable}
use Rattle.slice_rewrite.specs.Stops.{least_stop}
use Rattle.slice_data.specs.WrittenForm.{written_mb}
use Rattle.slice_rewrite.proofs.writing.write_data.Given as goal

abbrev pub invariant-loop-k : goal.invariant-loop-k
invariant-loop-k g l =
    let writes = g.W.SliceWriter.writes in
    let to = g.W.SliceWriter.LAYER in
    record {
      writes : (init : InitTable) (before : List Bool) → writes init l.fn.writer l.fn.shape before [] → writes init l.writer l.fn.shape before (map (written_mb to) (take l.k l.fn.mbs));
      goes_on : least_stop to l.fn.shape (take l.k l.fn.mbs) ≡ None;
    }
