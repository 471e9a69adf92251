-- The data are copied into the layer that is named.
use Rattle.slice_rewrite.proofs.opening.OpenSlice.copy_to.Goals as goal

pub returns-in_ok-writer-in-Cavlc-clause-ok : goal.returns-in_ok-writer-in-Cavlc-clause-ok
returns-in_ok-writer-in-Cavlc-clause-ok c = rw c.in-Cavlc.is (c.copy_into.ensures.ok c.args.shape c.args.out c.requires.column c.in_ok-writer-in-Cavlc.ensures.writes)

pub returns-in_ok-writer-in-Cabac-clause-ok : goal.returns-in_ok-writer-in-Cabac-clause-ok
returns-in_ok-writer-in-Cabac-clause-ok c = rw c.in-Cabac.is (c.copy_into-in-Cabac.ensures.ok c.args.shape c.args.out c.requires.column c.in_ok-writer-in-Cabac.ensures)
