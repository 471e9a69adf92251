use Rattle.std.proofs.Common.{sym, ap, ◌∙◌}
use Rattle.cavlc_mb_residual.specs.MacroblockResidual.{is_beyond_mb}
use Rattle.cavlc_macroblock.proofs.ValidLaws.{sent_sizes}
use Rattle.cavlc_syntax.proofs.Members.{sent_small}
use Rattle.cavlc_syntax.proofs.bound.needs_longer_prefix.Goals as goal

pub is_beyond-requires-clause-small : goal.is_beyond-requires-clause-small
is_beyond-requires-clause-small c = let sent = c.requires.sent in sent_small sent.0 sent.1 20 c.args.mb.now sent.2

pub returns-then-bound-eq-LONGEST_PREFIX : goal.returns-then-bound-eq-LONGEST_PREFIX
returns-then-bound-eq-LONGEST_PREFIX c =
    let sent = c.requires.sent in
    sym (ap (λ n. is_beyond_mb n c.args.mb.now) c.if-bound-eq-LONGEST_PREFIX.true ∙ (sent_sizes sent.0 sent.1 20 c.args.mb.now sent.2).1)
