use Rattle.std.proofs.Common.{◌≡◌, Bool, true, ℤ, List, sym, subst, rules, w8}
use Rattle.std.proofs.lemmas.Int.{to_z-of_z}
use Rattle.bit_texts.specs.Texts.{Wrote}
use Rattle.cavlc_mb_residual.specs.Residual.{list_text}
use Rattle.cavlc_mb_residual.proofs.lists.write_list.Goals as goal

pub returns-in-Err-Memory : goal.returns-in-Err-Memory
returns-in-Err-Memory g c =
    let coded : c.args.coded ≡ true = search rules in
    let P : Bool → ℤ → Type 0 = λ b nc. (x : List Bool) × Wrote (g.B.BitSink.bits c.args.bits.now) (g.B.BitSink.bits c.write_levels.new.b) (list_text b nc c.args.levels.now) x in
    subst (λ b. P b c.args.nc) (sym coded) (subst (P true) (to_z-of_z w8 c.args.nc c.ranges.nc) (c.in-Err-Memory.ensures.written (λ e. absurd cc)))
