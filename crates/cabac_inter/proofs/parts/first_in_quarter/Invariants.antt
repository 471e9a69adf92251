use Rattle.std.proofs.Common.{◌≡◌, ◌≤◌, ◌-◌, eqb}
use Rattle.h264_types.specs.Partition.{sub_part}
use Rattle.cavlc_inter.specs.Parts.{first_of, first_from}
use Rattle.cabac_inter.proofs.parts.first_in_quarter.Given as goal

abbrev pub invariant-loop-m : goal.invariant-loop-m
invariant-loop-m l = record {
  inside : l.m ≤ l.k;
  search_goes_on : first_of (sub_part l.kind l.sub) l.k ≡ first_from (λ m. eqb (sub_part l.kind l.sub m) (sub_part l.kind l.sub l.k)) (l.k - l.m) l.m;
}
