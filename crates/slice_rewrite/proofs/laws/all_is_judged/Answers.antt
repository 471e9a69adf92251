use Rattle.h264_types.specs.Units.{seen, seen_whole}
use Rattle.slice_rewrite.proofs.Judging.{judged-all}
use Rattle.slice_rewrite.proofs.laws.all_is_judged.Goals as goal

pub returns : goal.returns
returns c = record {
  whole = λ o b. judged-all o (seen_whole b).units (seen_whole b).fault;
  so_far = λ o b. judged-all o (seen b).units (seen b).fault;
}
