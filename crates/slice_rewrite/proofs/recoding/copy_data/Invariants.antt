-- The macroblocks given by the reader were put to the writer, in their written form, up to the least one that can't be written.
use Rattle.std.proofs.Common.{◌≡◌, ◌≤◌, ◌*◌, ℕ, Bool, List, [], length, map, None}
use Rattle.h264_types.specs.declared.macroblock.Mb.{Mb}
use Rattle.h264_types.specs.declared.slice_shape.SliceShape.{SliceShape}
use Rattle.init_table.specs.declared.table.InitTable.{InitTable}
use Rattle.slice_rewrite.specs.Stops.{least_stop}
use Rattle.slice_data.specs.WrittenForm.{written_mb}
use Rattle.slice_rewrite.proofs.recoding.copy_data.Given as goal

abbrev pub invariant-loop-count : goal.invariant-loop-count
invariant-loop-count g l =
    let stands = g.R.SliceReader.stands in
    let writes = g.W.SliceWriter.writes in
    let to = g.W.SliceWriter.LAYER in
    (done : List Mb) × (length done ≡ l.count) × (length done ≤ l.fn.shape.width * l.fn.shape.height)
    × ((init : InitTable) (pos : ℕ) (left : List Bool) → stands init l.fn.reader l.fn.shape pos left [] → stands init l.reader l.fn.shape pos left done)
    × (least_stop to l.fn.shape done ≡ l.stop)
    × (l.stop ≡ None → (init : InitTable) (shape : SliceShape) (before : List Bool) → writes init l.fn.writer shape before [] → writes init l.writer shape before (map (written_mb to) done))
