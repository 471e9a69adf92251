use Rattle.std.proofs.Common.{◌≡◌, ◌++◌, ◌∷◌, [], ℤ, to_z, of_z, w32, sym, subst, rules}
use Rattle.std.proofs.lemmas.Int.{to_z-of_z}
use Rattle.bit_texts.proofs.Reading.{Reads-None}
use Rattle.cavlc_inter.specs.InterPrediction.{IsVector, vector_text}
use Rattle.cavlc_inter.proofs.Codes.{vector_is_read, no_second}
use Rattle.cavlc_inter.proofs.vectors.read_vector.Goals as goal

pub returns-in_err-y-clause-reads : goal.returns-in_err-y-clause-reads
returns-in_err-y-clause-reads g c =
    Reads-None _ _ _ _ _ c.from_residual-in_err-y.ensures
    (no_second c.in_ok-x.x (g.B.BitSource.left c.args.bits.now) (g.B.BitSource.left c.read_se.new.b) (g.B.BitSource.left c.read_se-2.new.b) c.in_ok-x.ensures.reads c.in_err-y.ensures.reads)

pub returns-clause-reads : goal.returns-clause-reads
returns-clause-reads g c =
    let P : ℤ → ℤ → Type 0 = λ x y. IsVector (x ∷ y ∷ []) × (g.B.BitSource.left c.args.bits.now ≡ vector_text (x ∷ y ∷ []) ++ g.B.BitSource.left c.read_se-2.new.b) in
    let x = c.in_ok-x.x in
    let y = c.in_ok-y.y in
    let e : to_z w32 (of_z w32 x) ≡ x = to_z-of_z w32 x (search rules) in
    let f : to_z w32 (of_z w32 y) ≡ y = to_z-of_z w32 y (search rules) in
    subst (λ a. P a (to_z w32 (of_z w32 y))) (sym e) (subst (P x) (sym f) (vector_is_read x y (g.B.BitSource.left c.args.bits.now) (g.B.BitSource.left c.read_se.new.b) (g.B.BitSource.left c.read_se-2.new.b) c.in_ok-x.ensures.reads c.in_ok-y.ensures.reads))
