use Rattle.std.proofs.Common.{◌+◌, ◌-◌, ◌/◌, ◌%◌, ◌^◌, refl, ap, arith}
use Rattle.std.specs.Int.Count.{count_leading_zeros}
use Rattle.std.proofs.lemmas.Nat.{one_shl}
use Rattle.cavlc_residual.proofs.WindowLemmas.{no_prefix_within}
use Rattle.cavlc_residual.proofs.LevelLemmas.{no_level, level_cut, level_found}
use Rattle.cavlc_residual.proofs.level.read_level.Goals as goal

pub returns-then-prefix-bound-clause-reads : goal.returns-then-prefix-bound-clause-reads
returns-then-prefix-bound-clause-reads g c =
    no_level c.args.suffix_length c.args.bound _ (g.B.BitSource.left c.args.b.now) (no_prefix_within c.window-window.result _ c.args.bound _ c.window-window.ensures refl c.requires.within c.if-prefix-bound.true)

pub returns-then-not-skip-clause-reads : goal.returns-then-not-skip-clause-reads
returns-then-not-skip-clause-reads g c =
    level_cut c.args.suffix_length c.window-window.result _ c.args.bound c.size_of_suffix-size.result _ (g.B.BitSource.left c.args.b.now) c.window-window.ensures refl c.requires.within c.if-prefix-bound.false c.size_of_suffix-size.ensures.size c.if-not-skip.ensures.skipped.0

pub returns-clause-reads : goal.returns-clause-reads
returns-clause-reads g c =
    let size = c.size_of_suffix-size.result in
    level_found c.args.suffix_length c.window-window.result _ c.args.bound size _ _ _ _ c.window-window.ensures refl c.requires.within c.if-prefix-bound.false c.size_of_suffix-size.ensures.size c.size_of_suffix-size.ensures.small refl c.if-not-skip.ensures.skipped.0 c.if-not-skip.ensures.skipped.1
    (ap (λ k. c.window-window.result / 2 ^ (64 - (count_leading_zeros 64 c.window-window.result + 1 + size)) % k) (one_shl size 64 (omega arith)))
