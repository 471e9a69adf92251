use Rattle.std.proofs.Common.{subst}
use Rattle.binarisation.specs.BinString.{Writes}
use Rattle.binarisation.proofs.Strings.{on_ok}
use Rattle.h264_types.specs.declared.macroblock.Mb.{Mb}
use Rattle.cavlc_inter.specs.InterPrediction.{refs_of, mvds_of}
use Rattle.cabac_inter.specs.InterPrediction.{with_refs, with_mvds, inter_prediction}
use Rattle.cabac_inter.specs.Stages.{typed, with_subs}
use Rattle.cabac_inter.proofs.Begun.{begun_subs, begun_l0, begun_refs, begun_mvds, is_predicted}
use Rattle.cabac_inter.proofs.Whole.{writes_all}
use Rattle.cabac_inter.proofs.inter.write_inter_prediction.Goals as goal

pub returns-clause-writes : goal.returns-clause-writes
returns-clause-writes g c mbs stands =
    let mb = c.args.mb.now in
    let shape = c.args.shape.now in
    let step = g.S.BinSink.step in
    let sizes = c.has_sizes.ensures in
    let a = with_subs mb in
    let b = with_refs 0 a (refs_of 0 mb) in
    let d = with_refs 1 b (refs_of 1 mb) in
    let e = with_mvds 0 d (mvds_of 0 mb) in
    let f = with_mvds 1 e (mvds_of 1 mb) in
    on_ok c.write_mvds-2.result
    (λ written. subst (λ (m : Mb). Writes step (inter_prediction shape mbs c.args.at (typed mb)) m c.args.s.now c.write_mvds-2.new.s) (is_predicted mb sizes)
    (writes_all step shape mbs c.args.at (typed mb) a b d e f c.args.s.now c.write_subs.new.s c.write_refs.new.s c.write_refs-2.new.s c.write_mvds.new.s c.write_mvds-2.new.s c.in_ok-write_subs.ensures.writes
    (c.in_ok-write_refs.ensures.writes mbs a stands (begun_subs mb sizes)) (c.in_ok-write_refs-2.ensures.writes mbs b stands (begun_l0 mb sizes))
    (c.in_ok-write_mvds.ensures.writes mbs d stands (begun_refs mb sizes)) written)) (c.write_mvds-2.ensures.writes mbs e stands (begun_mvds mb sizes))
