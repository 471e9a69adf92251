use Rattle.std.proofs.Common.{◌≡◌, ◌++◌, pos, get_or, to_z, of_z, w32, ap, ◌∙◌, rules}
use Rattle.std.proofs.lemmas.Int.{to_z-of_z}
use Rattle.exp_golomb.specs.Code.{se}
use Rattle.bit_texts.proofs.Writing.{Appends-same, Appends-then, Appends-stop}
use Rattle.cavlc_inter.proofs.vectors.write_vector.Goals as goal

pub returns-in_err-write_se : goal.returns-in_err-write_se
returns-in_err-write_se g c =
    let x = get_or c.args.vector.now 0 (pos 0) in
    let y = get_or c.args.vector.now 1 (pos 0) in
    let e : to_z w32 (of_z w32 x) ≡ x = to_z-of_z w32 x (search rules) in
    Appends-same _ _ _ _ _ (ap (λ a. se a ++ se y) e) (Appends-stop _ _ _ _ _ _ c.from_residual.ensures.0 c.in_err-write_se.ensures.1)

pub returns : goal.returns
returns g c =
    let x = get_or c.args.vector.now 0 (pos 0) in
    let y = get_or c.args.vector.now 1 (pos 0) in
    let e : to_z w32 (of_z w32 x) ≡ x = to_z-of_z w32 x (search rules) in
    let f : to_z w32 (of_z w32 y) ≡ y = to_z-of_z w32 y (search rules) in
    Appends-same _ _ _ _ _ (ap (λ a. se a ++ se (to_z w32 (of_z w32 y))) e ∙ ap (λ b. se x ++ se b) f) (Appends-then _ _ _ _ _ _ c.in_ok-write_se.ensures c.write_se-2.ensures)
