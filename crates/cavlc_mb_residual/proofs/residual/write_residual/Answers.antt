use Rattle.std.proofs.Common.{sym}
use Rattle.std.proofs.lemmas.List.{append-nil}
use Rattle.bit_texts.proofs.Writing.{Appends-same, Appends-then, Appends-stop}
use Rattle.cavlc_mb_residual.proofs.ResidualChain.{residual_text-as}
use Rattle.cavlc_mb_residual.proofs.residual.write_residual.Goals as goal

pub returns-in_err-write_luma_dc : goal.returns-in_err-write_luma_dc
returns-in_err-write_luma_dc g c =
    Appends-same _ _ _ _ _ (residual_text-as c.args.around.now c.is_i_16x16-is_16x16.result _ c.coded_pattern-pattern.result _ c.max_levels-max.result c.args.mb.now c.is_i_16x16-is_16x16.ensures c.coded_pattern-pattern.ensures c.max_levels-max.ensures)
    (Appends-stop _ _ _ _ _ _ c.from_residual.ensures.0 c.in_err-write_luma_dc.ensures.1)

pub returns-in_err-write_luma : goal.returns-in_err-write_luma
returns-in_err-write_luma g c =
    Appends-same _ _ _ _ _ (residual_text-as c.args.around.now c.is_i_16x16-is_16x16.result _ c.coded_pattern-pattern.result _ c.max_levels-max.result c.args.mb.now c.is_i_16x16-is_16x16.ensures c.coded_pattern-pattern.ensures c.max_levels-max.ensures)
    (Appends-then _ _ _ _ _ _ c.in_ok-write_luma_dc.ensures
    (Appends-stop _ _ _ _ _ _ c.from_residual-in_err-write_luma.ensures.0 c.in_err-write_luma.ensures.1))

pub returns-in_err-write_chroma_dc : goal.returns-in_err-write_chroma_dc
returns-in_err-write_chroma_dc g c =
    Appends-same _ _ _ _ _ (residual_text-as c.args.around.now c.is_i_16x16-is_16x16.result _ c.coded_pattern-pattern.result _ c.max_levels-max.result c.args.mb.now c.is_i_16x16-is_16x16.ensures c.coded_pattern-pattern.ensures c.max_levels-max.ensures)
    (Appends-then _ _ _ _ _ _ c.in_ok-write_luma_dc.ensures
    (Appends-then _ _ _ _ _ _ c.in_ok-write_luma.ensures
    (Appends-stop _ _ _ _ _ _ c.from_residual-in_err-write_chroma_dc.ensures.0 c.in_err-write_chroma_dc.ensures.1)))

pub returns-in_err-write_chroma_dc-2 : goal.returns-in_err-write_chroma_dc-2
returns-in_err-write_chroma_dc-2 g c =
    Appends-same _ _ _ _ _ (residual_text-as c.args.around.now c.is_i_16x16-is_16x16.result _ c.coded_pattern-pattern.result _ c.max_levels-max.result c.args.mb.now c.is_i_16x16-is_16x16.ensures c.coded_pattern-pattern.ensures c.max_levels-max.ensures)
    (Appends-then _ _ _ _ _ _ c.in_ok-write_luma_dc.ensures
    (Appends-then _ _ _ _ _ _ c.in_ok-write_luma.ensures
    (Appends-then _ _ _ _ _ _ c.in_ok-write_chroma_dc.ensures
    (Appends-stop _ _ _ _ _ _ c.from_residual-in_err-write_chroma_dc-2.ensures.0 c.in_err-write_chroma_dc-2.ensures.1))))

pub returns-in_err-write_chroma : goal.returns-in_err-write_chroma
returns-in_err-write_chroma g c =
    Appends-same _ _ _ _ _ (residual_text-as c.args.around.now c.is_i_16x16-is_16x16.result _ c.coded_pattern-pattern.result _ c.max_levels-max.result c.args.mb.now c.is_i_16x16-is_16x16.ensures c.coded_pattern-pattern.ensures c.max_levels-max.ensures)
    (Appends-then _ _ _ _ _ _ c.in_ok-write_luma_dc.ensures
    (Appends-then _ _ _ _ _ _ c.in_ok-write_luma.ensures
    (Appends-then _ _ _ _ _ _ c.in_ok-write_chroma_dc.ensures
    (Appends-then _ _ _ _ _ _ c.in_ok-write_chroma_dc-2.ensures
    (Appends-stop _ _ _ _ _ _ c.from_residual-in_err-write_chroma.ensures.0 c.in_err-write_chroma.ensures.1)))))

pub returns : goal.returns
returns g c =
    Appends-same _ _ _ _ _ (residual_text-as c.args.around.now c.is_i_16x16-is_16x16.result _ c.coded_pattern-pattern.result _ c.max_levels-max.result c.args.mb.now c.is_i_16x16-is_16x16.ensures c.coded_pattern-pattern.ensures c.max_levels-max.ensures)
    (Appends-then _ _ _ _ _ _ c.in_ok-write_luma_dc.ensures
    (Appends-then _ _ _ _ _ _ c.in_ok-write_luma.ensures
    (Appends-then _ _ _ _ _ _ c.in_ok-write_chroma_dc.ensures
    (Appends-then _ _ _ _ _ _ c.in_ok-write_chroma_dc-2.ensures
    (Appends-then _ _ _ _ _ _ c.in_ok-write_chroma.ensures
    (Appends-same _ _ _ _ _ (sym (append-nil _)) c.write_chroma-2.ensures))))))
