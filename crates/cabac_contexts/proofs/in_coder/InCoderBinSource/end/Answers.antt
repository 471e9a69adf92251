use Rattle.std.proofs.Common.{refl, subst}
use Rattle.cabac_interval.specs.Interval.{terminate}
use Rattle.cabac_engine.specs.Bins.{at_end}
use Rattle.cabac_contexts.specs.Coders.{InCoding, GivesBin}
use Rattle.cabac_contexts.proofs.Cells.{gives_plain}
use Rattle.cabac_contexts.proofs.in_coder.InCoderBinSource.end.Goals as goal

pub returns-clause-step : goal.returns-clause-step
returns-clause-step g c =
    subst (λ (old : InCoding). GivesBin old at_end c.end.result (record { decoder = c.end.new.self; cells = c.self.inside.contexts })) c.self.view_is
    (record {
      answer = gives_plain (record { decoder = c.self.inside.decoder; cells = c.self.inside.contexts }) c.end.new.self at_end terminate (λ n bit. refl) (λ start bins. refl) c.end.result c.end.ensures.answer;
      kept = c.end.ensures.kept;
    })
