-- The macroblocks given by the reader are kept.
use Rattle.std.proofs.Common.{◌≡◌, ◌≤◌, ◌*◌, ℕ, Bool, List, [], length}
use Rattle.init_table.specs.declared.table.InitTable.{InitTable}
use Rattle.slice_rewrite.proofs.reading.read_data.Given as goal

abbrev pub invariant-loop : goal.invariant-loop
invariant-loop g l = record {
  counted : length l.mbs.items ≡ l.counter;
  few : length l.mbs.items ≤ l.fn.shape.width * l.fn.shape.height;
  stands : (init : InitTable) (pos : ℕ) (left : List Bool) → g.R.SliceReader.stands init l.fn.reader l.fn.shape pos left [] → g.R.SliceReader.stands init l.reader l.fn.shape pos left l.mbs.items;
}
