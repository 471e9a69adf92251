use Rattle.std.proofs.Common.{◌≡◌, List, ℕ, sym, subst}
use Rattle.std.specs.Option.{option_map}
use Rattle.bit_texts.specs.Texts.{Reads}
use Rattle.h264_types.specs.Macroblock.{no_elements}
use Rattle.h264_types.specs.declared.macroblock.Mb.{Mb}
use Rattle.cavlc_inter.specs.InterPrediction.{IsInter, inter_text, with_inter}
use Rattle.cavlc_macroblock.specs.MacroblockLayer.{intra_text}
use Rattle.cavlc_macroblock.proofs.IntraChain.{I0}
use Rattle.cavlc_macroblock.proofs.LayerChain.{intra_prediction, inter_prediction}
use Rattle.cavlc_macroblock.proofs.layer.read_prediction.Goals as goal

pub returns-then-is_intra-clause-reads : goal.returns-then-is_intra-clause-reads
returns-then-is_intra-clause-reads g c =
    let left = g.B.BitSource.left in
    let shape = c.args.shape.now in
    let kind = c.args.kind in
    let ref0 = c.args.ref0 in
    let field = c.args.field in
    let r = option_map (λ _. c.read_intra.new.mb) c.read_intra.result in
    let P : Mb → Type 0 = λ m. Reads (I0 shape kind (record m { ref0 = ref0; field = field })) (intra_text shape kind) (left c.args.bits.now) r (left c.read_intra.new.bits) in
    intra_prediction shape kind ref0 field (sym c.if-is_intra.ensures) (left c.args.bits.now) r (left c.read_intra.new.bits) (subst P c.without_elements.ensures c.read_intra.ensures.reads)

pub returns-else-is_intra-clause-reads : goal.returns-else-is_intra-clause-reads
returns-else-is_intra-clause-reads g c =
    let left = g.B.BitSource.left in
    let shape = c.args.shape.now in
    let kind = c.args.kind in
    let ref0 = c.args.ref0 in
    let field = c.args.field in
    let r = option_map (λ _. c.read_inter.new.mb) c.read_inter.result in
    let P : Mb → List ℕ → Type 0 = λ x active. Reads (λ m. IsInter kind ref0 active m × (m ≡ with_inter (record x { ref0 = ref0; field = field }) m)) (inter_text kind ref0 active) (left c.args.bits.now) r (left c.read_inter.new.bits) in
    inter_prediction shape kind ref0 field (sym c.if-is_intra.ensures) (left c.args.bits.now) r (left c.read_inter.new.bits)
    (subst (P (no_elements kind)) c.active_refs-active.ensures (subst (λ x. P x c.active_refs-active.result) c.without_elements.ensures c.read_inter.ensures.reads))
