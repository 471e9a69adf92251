use Rattle.std.proofs.Common.{◌≡◌, length, ap, sym, ◌∙◌, rules}
use Rattle.cavlc_residual.specs.Block.{total_coeff}
use Rattle.cavlc_mb_residual.proofs.Firsts.{take-all}
use Rattle.cavlc_mb_residual.proofs.counts.ac_count.Goals as goal

pub returns-clause-value : goal.returns-clause-value
returns-clause-value c =
    let size : length c.args.block.now ≡ 15 = search rules in
    c.count_levels.ensures.value ∙ ap total_coeff (sym (take-all 15 c.args.block.now size))
