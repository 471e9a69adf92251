use Rattle.bit_texts.proofs.Writing.{Appends-stop, Appends-then}
use Rattle.cavlc_macroblock.proofs.macroblock.write_pcm.Goals as goal

pub returns-in_err-write_alignment : goal.returns-in_err-write_alignment
returns-in_err-write_alignment g c = let put = c.in_err-write_alignment.ensures in Appends-stop _ _ _ _ put.0 _ c.from_residual.ensures.0 put.1

pub returns : goal.returns
returns g c = Appends-then _ _ _ _ _ _ c.in_ok-write_alignment.ensures c.write_samples.ensures
