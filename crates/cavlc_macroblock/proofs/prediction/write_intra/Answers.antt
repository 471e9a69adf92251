use Rattle.std.proofs.Common.{refl}
use Rattle.bit_texts.proofs.Writing.{Appends-same, Appends-then, Appends-stop}
use Rattle.h264_types.specs.Kind.{is_i_nxn}
use Rattle.cavlc_macroblock.proofs.IntraChain.{intra_text-as}
use Rattle.cavlc_macroblock.proofs.prediction.write_intra.Goals as goal

pub returns-in_err-write_t8_if : goal.returns-in_err-write_t8_if
returns-in_err-write_t8_if g c =
    let mb = c.args.mb.now in
    Appends-same _ _ _ _ _ (intra_text-as c.args.shape.now mb c.sends_t8_first.result (is_i_nxn mb.kind) mb.chroma_mode c.requires.intra c.sends_t8_first.ensures refl refl)
    (Appends-stop _ _ _ _ _ _ c.from_residual.ensures.0 c.in_err-write_t8_if.ensures.1)

pub returns-in_err-write_modes_if : goal.returns-in_err-write_modes_if
returns-in_err-write_modes_if g c =
    let mb = c.args.mb.now in
    Appends-same _ _ _ _ _ (intra_text-as c.args.shape.now mb c.sends_t8_first.result c.is_i_nxn.result mb.chroma_mode c.requires.intra c.sends_t8_first.ensures c.is_i_nxn.ensures refl)
    (Appends-then _ _ _ _ _ _ c.in_ok-write_t8_if.ensures
    (Appends-stop _ _ _ _ _ _ c.from_residual-in_err-write_modes_if.ensures.0 c.in_err-write_modes_if.ensures.1))

pub returns : goal.returns
returns g c =
    let mb = c.args.mb.now in
    Appends-same _ _ _ _ _ (intra_text-as c.args.shape.now mb c.sends_t8_first.result c.is_i_nxn.result c.from.result c.requires.intra c.sends_t8_first.ensures c.is_i_nxn.ensures c.from.ensures)
    (Appends-then _ _ _ _ _ _ c.in_ok-write_t8_if.ensures
    (Appends-then _ _ _ _ _ _ c.in_ok-write_modes_if.ensures
    c.write_ue.ensures))
