use Rattle.std.proofs.Common.{refl, subst}
use Rattle.cabac_interval.specs.Interval.{bypass}
use Rattle.cabac_engine.specs.Bins.{in_bypass}
use Rattle.cabac_contexts.specs.Coders.{InCoding, GivesBin}
use Rattle.cabac_contexts.proofs.Cells.{gives_plain}
use Rattle.cabac_contexts.proofs.in_coder.InCoderBinSource.bypass.Goals as goal

pub returns-clause-step : goal.returns-clause-step
returns-clause-step g c =
    subst (λ (old : InCoding). GivesBin old in_bypass c.bypass.result (record { decoder = c.bypass.new.self; cells = c.self.inside.contexts })) c.self.view_is
    (record {
      answer = gives_plain (record { decoder = c.self.inside.decoder; cells = c.self.inside.contexts }) c.bypass.new.self in_bypass bypass (λ n bit. refl) (λ start bins. refl) c.bypass.result c.bypass.ensures.answer;
      kept = c.bypass.ensures.kept;
    })
