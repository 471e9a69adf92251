use Rattle.std.proofs.Common.{◌≡◌, ◌*◌, true, false, cond, sym, ap, ◌∙◌, arith}
use Rattle.std.specs.Prelude.{◌==◌}
use Rattle.std.proofs.lemmas.Bool.Decides.{nat_tests}
use Rattle.h264_types.specs.Partition.{partition_of}
use Rattle.cavlc_inter.proofs.FirstQuarters.{first_by_number}
use Rattle.cavlc_inter.proofs.parts.Parts.first_quarter.Goals as goal

pub returns-then-partition-eq1 : goal.returns-then-partition-eq1
returns-then-partition-eq1 c =
    let kind = c.args.self.now.kind in
    let q = c.args.q in
    let rows : (partition_of kind 2 == 1) ≡ true = ap (λ p. p == 1) (sym c.partition.ensures ∙ c.if-partition-eq1.true) in
    ap (λ p. 2 * p) c.partition-partition.ensures ∙ ap (λ b. cond b (2 * partition_of kind q) (partition_of kind q)) (sym rows) ∙ first_by_number kind q c.requires

pub returns-else-partition-eq1 : goal.returns-else-partition-eq1
returns-else-partition-eq1 c =
    let kind = c.args.self.now.kind in
    let q = c.args.q in
    let is = c.partition.ensures in
    let none = c.if-partition-eq1.false in
    let rows : (c.partition.result == 1) ≡ false = grind (arith, nat_tests) in
    c.partition-partition.ensures ∙ ap (λ b. cond b (2 * partition_of kind q) (partition_of kind q)) (sym rows ∙ ap (λ p. p == 1) is) ∙ first_by_number kind q c.requires
