use Rattle.std.proofs.Common.{refl, to_z, of_z, w8, rules}
use Rattle.std.proofs.lemmas.Int.{to_z-of_z}
use Rattle.bit_texts.proofs.Writing.{Appends-same, Appends-then, Appends-stop}
use Rattle.h264_types.specs.Sent.{sends_qp_delta, sends_t8_last}
use Rattle.cavlc_macroblock.proofs.CodingChain.{coding_text-as}
use Rattle.cavlc_macroblock.proofs.coding.write_coding.Goals as goal

pub returns-in_err-write_pattern_if : goal.returns-in_err-write_pattern_if
returns-in_err-write_pattern_if g c =
    let mb = c.args.mb.now in
    let shape = c.args.shape.now in
    Appends-same _ _ _ _ _ (coding_text-as shape c.args.around.now mb c.sends_pattern.result c.is_i_nxn.result (sends_t8_last shape mb.kind mb.subs mb.pattern) (sends_qp_delta mb.kind mb.pattern) mb.qp_delta c.sends_pattern.ensures c.is_i_nxn.ensures refl refl refl)
    (Appends-stop _ _ _ _ _ _ c.from_residual.ensures.0 c.in_err-write_pattern_if.ensures.1)

pub returns-in_err-write_t8_if : goal.returns-in_err-write_t8_if
returns-in_err-write_t8_if g c =
    let mb = c.args.mb.now in
    let shape = c.args.shape.now in
    Appends-same _ _ _ _ _ (coding_text-as shape c.args.around.now mb c.sends_pattern.result c.is_i_nxn.result c.sends_t8_last.result (sends_qp_delta mb.kind mb.pattern) mb.qp_delta c.sends_pattern.ensures c.is_i_nxn.ensures c.sends_t8_last.ensures refl refl)
    (Appends-then _ _ _ _ _ _ c.in_ok-write_pattern_if.ensures
    (Appends-stop _ _ _ _ _ _ c.from_residual-in_err-write_t8_if.ensures.0 c.in_err-write_t8_if.ensures.1))

pub returns-in_err-write_qp_delta_if : goal.returns-in_err-write_qp_delta_if
returns-in_err-write_qp_delta_if g c =
    let mb = c.args.mb.now in
    let shape = c.args.shape.now in
    Appends-same _ _ _ _ _ (coding_text-as shape c.args.around.now mb c.sends_pattern.result c.is_i_nxn.result c.sends_t8_last.result c.sends_qp_delta.result (to_z w8 (of_z w8 mb.qp_delta)) c.sends_pattern.ensures c.is_i_nxn.ensures c.sends_t8_last.ensures c.sends_qp_delta.ensures (to_z-of_z w8 mb.qp_delta (search rules)))
    (Appends-then _ _ _ _ _ _ c.in_ok-write_pattern_if.ensures
    (Appends-then _ _ _ _ _ _ c.in_ok-write_t8_if.ensures
    (Appends-stop _ _ _ _ _ _ c.from_residual-in_err-write_qp_delta_if.ensures.0 c.in_err-write_qp_delta_if.ensures.1)))

pub returns : goal.returns
returns g c =
    let mb = c.args.mb.now in
    let shape = c.args.shape.now in
    Appends-same _ _ _ _ _ (coding_text-as shape c.args.around.now mb c.sends_pattern.result c.is_i_nxn.result c.sends_t8_last.result c.sends_qp_delta.result (to_z w8 (of_z w8 mb.qp_delta)) c.sends_pattern.ensures c.is_i_nxn.ensures c.sends_t8_last.ensures c.sends_qp_delta.ensures (to_z-of_z w8 mb.qp_delta (search rules)))
    (Appends-then _ _ _ _ _ _ c.in_ok-write_pattern_if.ensures
    (Appends-then _ _ _ _ _ _ c.in_ok-write_t8_if.ensures
    (Appends-then _ _ _ _ _ _ c.in_ok-write_qp_delta_if.ensures
    c.write_residual.ensures)))
