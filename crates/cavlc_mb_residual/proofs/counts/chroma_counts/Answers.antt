use Rattle.std.proofs.Common.{◌≡◌, ℕ, [], take, refl}
use Rattle.std.specs.Prelude.{slice_index_or}
use Rattle.cavlc_residual.specs.Block.{total_coeff}
use Rattle.cavlc_mb_residual.proofs.Zeros.{front_none}
use Rattle.cavlc_mb_residual.proofs.counts.chroma_counts.Goals as goal

pub returns-then-not-some-clause-value : goal.returns-then-not-some-clause-value
returns-then-not-some-clause-value c =
    let none = c.requires.none c.if-not-some.true in
    let front : (n : ℕ) → total_coeff (take 15 (slice_index_or c.args.blocks.now n [])) ≡ 0 = λ n. front_none 15 (slice_index_or c.args.blocks.now n []) (none n) in
    rw (front 0, front 1, front 2, front 3) refl
