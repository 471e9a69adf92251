use Rattle.std.proofs.Common.{ap, ◌∙◌}
use Rattle.std.specs.Prelude.{◌==◌}
use Rattle.std.specs.Int.{bit_at}
use Rattle.cavlc_mb_residual.proofs.Zeros.{unsent_quarters, unsent_cb, unsent_cr}
use Rattle.cavlc_mb_residual.proofs.counts.coded_counts.Goals as goal

pub counts_where-requires-clause-quarters : goal.counts_where-requires-clause-quarters
counts_where-requires-clause-quarters c =
    let pattern = c.coded_pattern-pattern.ensures in
    unsent_quarters c.args.mb.now c.is_sent.result c.is_sent-2.result c.is_sent-3.result c.is_sent-4.result c.requires
    (c.is_sent.ensures ∙ ap (λ p. bit_at p.luma 0 == 1) pattern) (c.is_sent-2.ensures ∙ ap (λ p. bit_at p.luma 1 == 1) pattern)
    (c.is_sent-3.ensures ∙ ap (λ p. bit_at p.luma 2 == 1) pattern) (c.is_sent-4.ensures ∙ ap (λ p. bit_at p.luma 3 == 1) pattern)

pub counts_where-requires-clause-cb : goal.counts_where-requires-clause-cb
counts_where-requires-clause-cb c = unsent_cb c.args.mb.now _ c.requires (ap (λ p. p.chroma == 2) c.coded_pattern-pattern.ensures)

pub counts_where-requires-clause-cr : goal.counts_where-requires-clause-cr
counts_where-requires-clause-cr c = unsent_cr c.args.mb.now _ c.requires (ap (λ p. p.chroma == 2) c.coded_pattern-pattern.ensures)
