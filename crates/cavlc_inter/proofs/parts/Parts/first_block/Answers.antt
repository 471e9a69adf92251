use Rattle.std.proofs.Common.{◌+◌, ◌*◌, ◌/◌, ◌%◌, ap, sym, ◌∙◌, arith}
use Rattle.std.specs.Prelude.{slice_index}
use Rattle.h264_types.specs.Partition.{partition_of, sub_part}
use Rattle.cavlc_inter.specs.Parts.{first_of}
use Rattle.cavlc_inter.proofs.Firsts.{first_is}
use Rattle.cavlc_inter.proofs.FirstBlocks.{first_of_partition, first_of_sub_part}
use Rattle.cavlc_inter.proofs.parts.Parts.first_block.Goals as goal

pub overflow_add-result : goal.overflow_add-result
overflow_add-result c =
    let first = first_is (sub_part c.args.self.now.kind (slice_index c.args.self.now.subs c.from.result)) (c.args.n % 4) in
    omega (arith, first.most, c.first_in_quarter.ensures)

pub returns-then-has_sub_macroblocks : goal.returns-then-has_sub_macroblocks
returns-then-has_sub_macroblocks c =
    ap (λ k. 4 * (c.args.n / 4) + k) (c.first_in_quarter.ensures ∙ ap (λ q. first_of (sub_part c.args.self.now.kind (slice_index c.args.self.now.subs q)) (c.args.n % 4)) c.from.ensures)
    ∙ sym (first_of_sub_part c.args.self.now.kind c.args.self.now.subs c.args.n (sym c.has_sub_macroblocks.ensures ∙ c.if-has_sub_macroblocks.true))

pub overflow_mul-result-2 : goal.overflow_mul-result-2
overflow_mul-result-2 c =
    let first = first_is (partition_of c.args.self.now.kind) (c.args.n / 4) in
    omega (arith, first.most, c.first_quarter.ensures)

pub returns : goal.returns
returns c =
    ap (λ q. 4 * q) c.first_quarter.ensures
    ∙ sym (first_of_partition c.args.self.now.kind c.args.self.now.subs c.args.n (sym c.has_sub_macroblocks.ensures ∙ c.if-has_sub_macroblocks.false))
