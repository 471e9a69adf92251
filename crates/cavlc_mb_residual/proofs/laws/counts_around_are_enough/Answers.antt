use Rattle.cavlc_mb_residual.proofs.CountLaws.{luma_nC-around, cb_nC-around, cr_nC-around}
use Rattle.cavlc_mb_residual.proofs.laws.counts_around_are_enough.Goals as goal

pub returns : goal.returns
returns c = record { luma = luma_nC-around; cb = cb_nC-around; cr = cr_nC-around }
