use Rattle.std.proofs.Common.{refl, subst}
use Rattle.std.proofs.lemmas.Result.{on_ok_weaker}
use Rattle.cabac_interval.specs.Interval.{bypass}
use Rattle.cabac_engine.specs.Bins.{in_bypass}
use Rattle.cabac_contexts.specs.Coders.{OutCoding, TakesBin}
use Rattle.cabac_contexts.proofs.Cells.{takes_plain}
use Rattle.cabac_contexts.proofs.out_coder.OutCoderBinSink.bypass.Goals as goal

pub returns-clause-step : goal.returns-clause-step
returns-clause-step g c =
    on_ok_weaker c.bypass.result
    (λ encodes. subst (λ (old : OutCoding). TakesBin old in_bypass c.args.bit (record { encoder = c.bypass.new.self; cells = c.self.inside.contexts })) c.self.view_is
    (takes_plain (record { encoder = c.self.inside.encoder; cells = c.self.inside.contexts }) c.bypass.new.self in_bypass bypass c.args.bit (λ n. refl) (λ start bins. refl) encodes))
    c.bypass.ensures.bin
