use Rattle.std.proofs.Common.{List, ℕ, sym, subst}
use Rattle.bit_texts.proofs.Writing.{Appends-same}
use Rattle.cavlc_inter.specs.InterPrediction.{IsInter}
use Rattle.cavlc_macroblock.proofs.LayerChain.{intra_of_layer, written_intra, written_inter}
use Rattle.cavlc_macroblock.proofs.layer.write_prediction.Goals as goal

pub write_intra-requires-clause-sent : goal.write_intra-requires-clause-sent
write_intra-requires-clause-sent g c = let mb = c.args.mb.now in intra_of_layer c.args.shape.now mb.kind mb.ref0 mb.field 20 mb c.requires.layer (sym c.if-is_intra.ensures)

pub write_inter-requires : goal.write_inter-requires
write_inter-requires g c = let mb = c.args.mb.now in subst (λ (active : List ℕ). IsInter mb.kind mb.ref0 active mb) (sym c.active_refs.ensures) c.requires.layer.inter

pub returns-then-is_intra : goal.returns-then-is_intra
returns-then-is_intra g c = Appends-same _ _ _ _ _ (written_intra c.args.shape.now c.args.mb.now (sym c.if-is_intra.ensures)) c.write_intra.ensures

pub returns-else-is_intra : goal.returns-else-is_intra
returns-else-is_intra g c = Appends-same _ _ _ _ _ (written_inter c.args.shape.now c.args.mb.now c.active_refs.result (sym c.if-is_intra.ensures) c.active_refs.ensures) c.write_inter.ensures
