use Rattle.std.proofs.Common.{drop}
use Rattle.std.specs.List.{flat_map}
use Rattle.bit_texts.specs.Texts.{Wrote}
use Rattle.ref_pic_lists.specs.PredWeightTable.{entry_text}
use Rattle.ref_pic_lists.proofs.write_weights_text.write_entries.Given as goal

abbrev pub invariant-loop-entry : goal.invariant-loop-entry
invariant-loop-entry g l = let put = g.B.BitSink.bits in Wrote (put l.fn.out) (put l.out) (flat_map entry_text l.entries) (flat_map entry_text (drop l.entry-index l.entries))
