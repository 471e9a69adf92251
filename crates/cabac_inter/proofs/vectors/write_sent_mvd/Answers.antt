use Rattle.std.proofs.Common.{◌≡◌, [], pos, get_or, to_z, of_z, w32, ap, ◌∙◌, rules}
use Rattle.std.proofs.lemmas.Int.{to_z-of_z}
use Rattle.h264_types.specs.Valid.{mvd_of}
use Rattle.binarisation.proofs.Strings.{on_ok}
use Rattle.cabac_inter.proofs.VectorSteps.{writes_sent, written_as}
use Rattle.cabac_inter.proofs.vectors.write_sent_mvd.Goals as goal

pub returns-clause-writes : goal.returns-clause-writes
returns-clause-writes g c mbs stands =
    let mb = c.args.mb.now in
    let w = get_or (get_or mb.mvd c.from.result []) c.from-2.result [] in
    let same : w ≡ mvd_of mb c.args.list c.args.n = ap (λ x. get_or (get_or mb.mvd x []) c.from-2.result []) c.from.ensures ∙ ap (λ k. get_or (get_or mb.mvd c.args.list []) k []) c.from-2.ensures in
    let x = get_or w 0 (pos 0) in
    let y = get_or w 1 (pos 0) in
    let e : to_z w32 (of_z w32 x) ≡ x = to_z-of_z w32 x (search rules) in
    let f : to_z w32 (of_z w32 y) ≡ y = to_z-of_z w32 y (search rules) in
    on_ok c.write_mvd_y.result
    (λ written. writes_sent c.args.shape.now mbs c.args.at c.args.list c.args.n mb _ _ _ _ _ (c.ctx_inc_mvd.ensures.value mbs stands) (c.ctx_inc_mvd-2.ensures.value mbs stands) g.S.BinSink.step
    (to_z w32 (of_z w32 x)) (to_z w32 (of_z w32 y)) _ (written_as (mvd_of mb c.args.list c.args.n) w _ _ same c.requires.vector.size e f) c.in_ok-write_mvd_x.ensures.writes written) c.write_mvd_y.ensures.writes
