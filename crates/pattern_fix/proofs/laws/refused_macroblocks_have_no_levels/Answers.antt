use Rattle.pattern_fix.proofs.ValidLaws.{emptied-dc, emptied-luma, emptied-chroma_dc, emptied-cb_ac, emptied-cr_ac}
use Rattle.pattern_fix.proofs.laws.refused_macroblocks_have_no_levels.Goals as goal

pub returns-clause-dc : goal.returns-clause-dc
returns-clause-dc c = emptied-dc

pub returns-clause-luma : goal.returns-clause-luma
returns-clause-luma c = emptied-luma

pub returns-clause-chroma_dc : goal.returns-clause-chroma_dc
returns-clause-chroma_dc c = emptied-chroma_dc

pub returns-clause-cb_ac : goal.returns-clause-cb_ac
returns-clause-cb_ac c = emptied-cb_ac

pub returns-clause-cr_ac : goal.returns-clause-cr_ac
returns-clause-cr_ac c = emptied-cr_ac
