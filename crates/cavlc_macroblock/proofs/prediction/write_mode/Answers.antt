use Rattle.std.proofs.Common.{◌∷◌, [], false, sym, ap, ◌∙◌}
use Rattle.bit_texts.specs.Bits.{binary}
use Rattle.bit_texts.proofs.Writing.{Appends-same, Appends-none, Appends-then, Appends-all_or_none}
use Rattle.cavlc_macroblock.proofs.ElementLaws.{mode_text-8, mode_text-other}
use Rattle.cavlc_macroblock.proofs.prediction.write_mode.Goals as goal

pub returns-then-mode-eq-PREDICTED : goal.returns-then-mode-eq-PREDICTED
returns-then-mode-eq-PREDICTED g c =
    Appends-same _ _ _ _ _ (sym (mode_text-8 c.args.mode c.if-mode-eq-PREDICTED.true)) (Appends-all_or_none _ _ _ _ c.put.ensures.ok c.put.ensures.err)

pub returns-in_err-put : goal.returns-in_err-put
returns-in_err-put g c = Appends-none _ _ _ _ c.from_residual.ensures.0 c.in_err-put.ensures.err

pub returns : goal.returns
returns g c =
    Appends-same _ _ _ _ _ (ap (λ n. false ∷ binary 3 n) c.from.ensures ∙ sym (mode_text-other c.args.mode c.if-mode-eq-PREDICTED.false))
    (Appends-then _ _ _ (false ∷ []) _ _ c.in_ok-put.ensures.ok c.write_u.ensures)
