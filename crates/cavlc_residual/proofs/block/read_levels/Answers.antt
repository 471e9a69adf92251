use Rattle.std.proofs.Common.{◌≡◌, pos, length, replicate, sym, ◌∙◌, ap, w8, rules}
use Rattle.std.proofs.lemmas.Int.{to_z-of_z}
use Rattle.cavlc_residual.proofs.BlockLemmas.{same_shape, same_reads}
use Rattle.cavlc_residual.proofs.block.read_levels.Goals as goal

pub read_onto_zeros-requires-clause-shape : goal.read_onto_zeros-requires-clause-shape
read_onto_zeros-requires-clause-shape g c = same_shape _ c.args.nc (length c.args.levels.now) _ (to_z-of_z w8 c.args.nc c.ranges.nc) c.fill.ensures.len c.requires.shape

pub read_onto_zeros-requires-clause-clear : goal.read_onto_zeros-requires-clause-clear
read_onto_zeros-requires-clause-clear g c =
    let all : c.fill.new.self ≡ replicate (length c.args.levels.now) (pos 0) = search rules in all ∙ ap (λ n. replicate n (pos 0)) (sym c.fill.ensures.len)

pub returns-clause-reads : goal.returns-clause-reads
returns-clause-reads g c =
    same_reads _ c.args.nc (length c.args.levels.now) _ c.args.bound _ _ _ (to_z-of_z w8 c.args.nc c.ranges.nc) c.fill.ensures.len c.read_onto_zeros.ensures.reads
