use Rattle.ref_pic_lists.proofs.WeightTexts.{reads, in_range}
use Rattle.ref_pic_lists.proofs.read_weights_text.read_weights.Goals as goal

pub returns-clause-reads : goal.returns-clause-reads
returns-clause-reads g c = reads c.args.num_ref_idx_l0_active c.args.num_ref_idx_l1_active c.read_whole.result _ _ c.read_whole.ensures.answers

pub returns-clause-in_range : goal.returns-clause-in_range
returns-clause-in_range g c = in_range c.args.num_ref_idx_l0_active c.args.num_ref_idx_l1_active c.read_whole.result _ _ c.read_whole.ensures.answers
