use Rattle.std.proofs.Common.{ℕ, ◌<◌, ◌^◌, refl, sym, subst, arith}
use Rattle.std.proofs.lemmas.Nat.{one_shl}
use Rattle.cavlc_residual.proofs.LevelLemmas.{level_bits-below, word_written}
use Rattle.cavlc_residual.proofs.level.write_long_level.Goals as goal

pub put_bits-requires-clause-fits : goal.put_bits-requires-clause-fits
put_bits-requires-clause-fits g c =
    let size = c.size_of_suffix-size.result in
    let P : ℕ → Type 0 = λ n. c.in-Some.suffix < 2 ^ n in
    level_bits-below c.in-Some.prefix size c.in-Some.suffix _ (subst P (sym c.size_of_suffix-size.ensures.size) c.in-Some.ensures.found.1.1)
    (omega (arith, one_shl size 64 (omega arith), c.from.ensures))

pub returns : goal.returns
returns g c =
    let size = c.size_of_suffix-size.result in
    let P : ℕ → Type 0 = λ n. c.in-Some.suffix < 2 ^ n in
    word_written c.args.suffix_length c.in-Some.prefix size c.in-Some.suffix _ _ _ _ _ _ c.in-Some.ensures.found.0 c.size_of_suffix-size.ensures.size (subst P (sym c.size_of_suffix-size.ensures.size) c.in-Some.ensures.found.1.1)
    (omega (arith, one_shl size 64 (omega arith), c.from.ensures)) refl c.put_bits.ensures
