use Rattle.std.proofs.Common.{sym, ◌∙◌, arith}
use Rattle.h264_types.specs.Partition.{sub_part}
use Rattle.cavlc_inter.proofs.Firsts.{found, not_yet, nowhere}
use Rattle.cabac_inter.proofs.parts.first_in_quarter.Goals as goal

pub returns-then-sub_partition-part-clause-value : goal.returns-then-sub_partition-part-clause-value
returns-then-sub_partition-part-clause-value c =
    sym (c.loop-m.invariant.search_goes_on ∙ found (sub_part c.args.kind c.args.sub) c.args.k c.loop-m.m c.loop-m-test.true (sym c.sub_partition.ensures ∙ c.if-sub_partition-part.true ∙ c.sub_partition-part.ensures))

pub loop-m-preserved : goal.loop-m-preserved
loop-m-preserved c = record {
  inside = omega arith;
  search_goes_on = c.loop-m.invariant.search_goes_on ∙ not_yet (sub_part c.args.kind c.args.sub) c.args.k c.loop-m.m c.loop-m-test.true (λ e. c.if-sub_partition-part.false (c.sub_partition.ensures ∙ e ∙ sym c.sub_partition-part.ensures));
}

pub returns-clause-value : goal.returns-clause-value
returns-clause-value c = sym (c.loop-m.invariant.search_goes_on ∙ nowhere (sub_part c.args.kind c.args.sub) c.args.k c.loop-m.m (omega arith) (omega arith))
