-- The macroblocks given by the reader are counted.
use Rattle.std.proofs.Common.{◌≡◌, ◌≤◌, ◌*◌, ℕ, Bool, List, [], length}
use Rattle.h264_types.specs.declared.macroblock.Mb.{Mb}
use Rattle.init_table.specs.declared.table.InitTable.{InitTable}
use Rattle.slice_rewrite.proofs.reading.count_data.Given as goal

abbrev pub invariant-loop-count : goal.invariant-loop-count
invariant-loop-count g l =
    let stands = g.R.SliceReader.stands in
    (done : List Mb) × (length done ≡ l.count) × (length done ≤ l.fn.shape.width * l.fn.shape.height)
    × ((init : InitTable) (pos : ℕ) (left : List Bool) → stands init l.fn.reader l.fn.shape pos left [] → stands init l.reader l.fn.shape pos left done)
