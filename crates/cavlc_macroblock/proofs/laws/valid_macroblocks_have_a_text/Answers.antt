use Rattle.cavlc_macroblock.proofs.ValidLaws.{valid_sent, sent_valid, sent_field, sent_sizes, valid_skipped, skipped_valid, skipped_levels}
use Rattle.cavlc_macroblock.proofs.laws.valid_macroblocks_have_a_text.Goals as goal

pub returns-clause-sent : goal.returns-clause-sent
returns-clause-sent c = λ shape bound mb sent none. (λ is. valid_sent shape bound mb sent none is, λ is. sent_valid shape mb.field bound mb is)

pub returns-clause-flag : goal.returns-clause-flag
returns-clause-flag c = sent_field

pub returns-clause-within : goal.returns-clause-within
returns-clause-within c = sent_sizes

pub returns-clause-skipped : goal.returns-clause-skipped
returns-clause-skipped c = λ shape mb kind. (λ is. valid_skipped shape mb kind is, λ is. skipped_valid shape mb.field mb is.0 is.1 is.2)

pub returns-clause-no_levels : goal.returns-clause-no_levels
returns-clause-no_levels c = skipped_levels
