use Rattle.std.proofs.Common.{◌≡◌, ◌*◌, ◌≤◌, true, false, cond, sym, ap, subst, ◌∙◌, arith}
use Rattle.std.specs.Prelude.{◌==◌}
use Rattle.std.proofs.lemmas.Bool.Decides.{nat_tests}
use Rattle.h264_types.specs.Partition.{partition_of}
use Rattle.cavlc_inter.proofs.FirstQuarters.{first_by_number}
use Rattle.cavlc_inter.proofs.Firsts.{first_is}
use Rattle.cabac_inter.proofs.parts.first_quarter.Goals as goal

pub returns-then-partition-eq1-clause-value : goal.returns-then-partition-eq1-clause-value
returns-then-partition-eq1-clause-value c =
    let kind = c.args.kind in
    let q = c.args.q in
    let rows : (partition_of kind 2 == 1) ≡ true = ap (λ p. p == 1) (sym c.partition.ensures ∙ c.if-partition-eq1.true) in
    ap (λ p. 2 * p) c.partition-partition.ensures ∙ ap (λ b. cond b (2 * partition_of kind q) (partition_of kind q)) (sym rows) ∙ first_by_number kind q c.requires

pub returns-then-partition-eq1-clause-most : goal.returns-then-partition-eq1-clause-most
returns-then-partition-eq1-clause-most c =
    subst (λ r. r ≤ c.args.q) (sym (returns-then-partition-eq1-clause-value c)) (first_is (partition_of c.args.kind) c.args.q).most

pub returns-else-partition-eq1-clause-value : goal.returns-else-partition-eq1-clause-value
returns-else-partition-eq1-clause-value c =
    let kind = c.args.kind in
    let q = c.args.q in
    let is = c.partition.ensures in
    let none = c.if-partition-eq1.false in
    let rows : (c.partition.result == 1) ≡ false = grind (arith, nat_tests) in
    c.partition-partition.ensures ∙ ap (λ b. cond b (2 * partition_of kind q) (partition_of kind q)) (sym rows ∙ ap (λ p. p == 1) is) ∙ first_by_number kind q c.requires

pub returns-else-partition-eq1-clause-most : goal.returns-else-partition-eq1-clause-most
returns-else-partition-eq1-clause-most c =
    subst (λ r. r ≤ c.args.q) (sym (returns-else-partition-eq1-clause-value c)) (first_is (partition_of c.args.kind) c.args.q).most
