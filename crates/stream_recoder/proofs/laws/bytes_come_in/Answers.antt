use Rattle.slice_rewrite.proofs.Judging.{verdict-stays}
use Rattle.stream_recoder.proofs.Outputs.{output-stays}
use Rattle.stream_recoder.proofs.laws.bytes_come_in.Goals as goal

pub returns : goal.returns
returns c = record { output = output-stays; verdict = verdict-stays }
