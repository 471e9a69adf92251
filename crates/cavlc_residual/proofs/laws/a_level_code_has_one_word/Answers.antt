use Rattle.cavlc_residual.proofs.LevelLemmas.{level_word-level_code, level_code-level_word}
use Rattle.cavlc_residual.proofs.laws.a_level_code_has_one_word.Goals as goal

pub returns-clause-made : goal.returns-clause-made
returns-clause-made c = level_word-level_code

pub returns-clause-word : goal.returns-clause-word
returns-clause-word c = level_code-level_word
