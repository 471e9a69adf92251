use Rattle.std.proofs.Common.{Some, subst, slice_set}
use Rattle.cabac_engine.specs.Bins.{in_context}
use Rattle.cabac_contexts.specs.States.{state_in}
use Rattle.cabac_contexts.specs.Coders.{InCoding, GivesBin}
use Rattle.cabac_contexts.proofs.Cells.{gives_context}
use Rattle.cabac_contexts.proofs.in_coder.InCoder.next_bin.Goals as goal

pub returns-clause-step : goal.returns-clause-step
returns-clause-step g c = rw c.set_cell.ensures
    (subst (λ (old : InCoding). GivesBin old (in_context c.args.ctx) (Some c.in_ok-bit.bit) (record { decoder = c.bin.new.self; cells = slice_set c.self.inside.contexts c.args.ctx (state_in c.bin.new.cell) })) c.self.view_is
    (record {
      answer = gives_context (record { decoder = c.self.inside.decoder; cells = c.self.inside.contexts }) c.args.ctx (state_in c.cell-cell.result) (state_in c.bin.new.cell) c.in_ok-bit.bit c.requires.context c.cell-cell.ensures
          c.in_ok-bit.ensures.p c.in_ok-bit.ensures.mps c.bin.new.self c.in_ok-bit.ensures.answer;
      kept = c.in_ok-bit.ensures.kept;
    }))
