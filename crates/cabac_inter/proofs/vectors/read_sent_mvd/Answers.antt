use Rattle.std.proofs.Common.{◌≡◌, ◌∷◌, [], to_z, of_z, w32, ap, ◌∙◌, rules}
use Rattle.std.proofs.lemmas.Int.{to_z-of_z}
use Rattle.cabac_inter.proofs.Puts.{unread}
use Rattle.cabac_inter.proofs.VectorSteps.{reads_sent, reads_no_first, reads_no_second}
use Rattle.cabac_inter.proofs.vectors.read_sent_mvd.Goals as goal

pub returns-in_err-across-clause-reads : goal.returns-in_err-across-clause-reads
returns-in_err-across-clause-reads g c mbs stands =
    unread _ _ _ _ _ c.from_residual.ensures
    (reads_no_first c.args.shape.now mbs c.args.at c.args.list c.args.n c.args.mb.now _ _ g.S.BinSource.step _ (c.ctx_inc_mvd.ensures.value mbs stands) c.in_err-across.ensures.reads)

pub returns-in_err-down-clause-reads : goal.returns-in_err-down-clause-reads
returns-in_err-down-clause-reads g c mbs stands =
    unread _ _ _ _ _ c.from_residual-in_err-down.ensures
    (reads_no_second c.args.shape.now mbs c.args.at c.args.list c.args.n c.args.mb.now _ _ _ _ _ (c.ctx_inc_mvd.ensures.value mbs stands) (c.ctx_inc_mvd-2.ensures.value mbs stands) g.S.BinSource.step c.in_ok-across.across
    c.in_ok-across.ensures.reads c.in_err-down.ensures.reads)

pub returns-clause-reads : goal.returns-clause-reads
returns-clause-reads g c mbs stands =
    let x = c.in_ok-across.across in
    let y = c.in_ok-down.down in
    let e : to_z w32 (of_z w32 x) ≡ x = to_z-of_z w32 x (search rules) in
    let f : to_z w32 (of_z w32 y) ≡ y = to_z-of_z w32 y (search rules) in
    reads_sent c.args.shape.now mbs c.args.at c.args.list c.args.n c.args.mb.now _ _ _ _ _ (c.ctx_inc_mvd.ensures.value mbs stands) (c.ctx_inc_mvd-2.ensures.value mbs stands) g.S.BinSource.step x y _
    (ap (λ a. a ∷ to_z w32 (of_z w32 y) ∷ []) e ∙ ap (λ b. x ∷ b ∷ []) f) c.in_ok-across.ensures.reads c.in_ok-down.ensures.reads
