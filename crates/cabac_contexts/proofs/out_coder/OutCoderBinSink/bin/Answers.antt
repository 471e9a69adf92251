use Rattle.std.proofs.Common.{slice_set, subst}
use Rattle.std.proofs.lemmas.Result.{on_ok_weaker}
use Rattle.cabac_engine.specs.Bins.{in_context}
use Rattle.cabac_contexts.specs.States.{state_in}
use Rattle.cabac_contexts.specs.Coders.{OutCoding, TakesBin}
use Rattle.cabac_contexts.proofs.Cells.{takes_context}
use Rattle.cabac_contexts.proofs.out_coder.OutCoderBinSink.bin.Goals as goal

pub returns-clause-step : goal.returns-clause-step
returns-clause-step g c = rw c.set_cell.ensures
    (on_ok_weaker c.encode.result (λ encodes. subst (λ (old : OutCoding). TakesBin old (in_context c.args.ctx) c.args.bit (record { encoder = c.encode.new.self; cells = slice_set c.self.inside.contexts c.args.ctx (state_in c.after.result) })) c.self.view_is
    (takes_context (record { encoder = c.self.inside.encoder; cells = c.self.inside.contexts }) c.args.ctx (state_in c.cell-cell.result) (state_in c.after.result) c.args.bit c.requires.context c.cell-cell.ensures
    c.after.ensures.p c.after.ensures.mps c.encode.new.self encodes)) c.encode.ensures.bin)
