use Rattle.std.proofs.Common.{◌+◌, ◌*◌, ◌/◌, ◌%◌, ap, sym, ◌∙◌}
use Rattle.std.specs.Prelude.{slice_index}
use Rattle.h264_types.specs.Partition.{sub_part}
use Rattle.cavlc_inter.specs.Parts.{first_of}
use Rattle.cavlc_inter.proofs.FirstBlocks.{first_of_partition, first_of_sub_part}
use Rattle.cabac_inter.proofs.parts.first_block.Goals as goal

pub returns-then-has_sub_macroblocks-clause-value : goal.returns-then-has_sub_macroblocks-clause-value
returns-then-has_sub_macroblocks-clause-value c =
    let mb = c.args.mb.now in
    ap (λ k. 4 * (c.args.n / 4) + k) (c.first_in_quarter.ensures.value ∙ ap (λ q. first_of (sub_part mb.kind (slice_index mb.subs q)) (c.args.n % 4)) c.from.ensures)
    ∙ sym (first_of_sub_part mb.kind mb.subs c.args.n (sym c.has_sub_macroblocks.ensures ∙ c.if-has_sub_macroblocks.true))

pub returns-clause-value : goal.returns-clause-value
returns-clause-value c =
    ap (λ q. 4 * q) c.first_quarter.ensures.value
    ∙ sym (first_of_partition c.args.mb.now.kind c.args.mb.now.subs c.args.n (sym c.has_sub_macroblocks.ensures ∙ c.if-has_sub_macroblocks.false))
