use Rattle.std.proofs.Common.{take}
use Rattle.std.specs.List.{flat_map}
use Rattle.bit_texts.specs.Texts.{Appended}
use Rattle.param_sets.specs.ScalingLists.{scaling_list_text}
use Rattle.param_sets.proofs.write_values.write_scaling_lists.Given as goal

abbrev pub invariant-loop-list : goal.invariant-loop-list
invariant-loop-list g l = let put = g.B.BitSink.bits in Appended (put l.fn.out) (put l.out) (flat_map scaling_list_text (take l.list-index l.lists))
