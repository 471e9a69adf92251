use Rattle.std.proofs.Common.{List, ℤ, subst, w8}
use Rattle.std.proofs.lemmas.Int.{to_z-of_z}
use Rattle.bit_texts.specs.Texts.{Appends}
use Rattle.cavlc_residual.specs.Block.{block_text}
use Rattle.cavlc_residual.proofs.block.write_block.Goals as goal

pub returns-clause-written : goal.returns-clause-written
returns-clause-written g c = λ other.
    let P : List ℤ → Type 0 = λ t. Appends (g.B.BitSink.bits c.args.b.now) (g.B.BitSink.bits c.write_levels.new.b) (block_text c.args.nc t) c.write_levels.result in
    let Q : ℤ → Type 0 = λ n. Appends (g.B.BitSink.bits c.args.b.now) (g.B.BitSink.bits c.write_levels.new.b) (block_text n c.as_slice.result.now) c.write_levels.result in
    subst P c.as_slice.ensures.value (subst Q (to_z-of_z w8 c.args.nc c.ranges.nc) (c.write_levels.ensures.written other))
