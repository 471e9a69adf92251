use Rattle.std.proofs.Common.{◌∙◌, ◌∷◌, [], ℕ, Vec, Global, ap, map, refl}
use Rattle.std.proofs.lemmas.List.{map-append}
use Rattle.slice_rewrite.specs.Options.{options}
use Rattle.stream_taps.specs.declared.event.Event.{Event}
use Rattle.stream_recoder.specs.Written.{Written}
use Rattle.stream_recoder.specs.Recoder.{options_of}
use Rattle.stream_recoder.proofs.UnitForms.{written_form}
use Rattle.stream_recoder.proofs.recoder.Recoder.recode.Goals as goal

abbrev shown : Vec ℕ Global × Event → Written
shown w = record { form = w.0.items; event = w.1 }

pub returns-clause-ok : goal.returns-clause-ok
returns-clause-ok g c =
    let tried = g.P.InitPick.tried in
    let r = c.args.self.now in
    let form = c.in-Ok.form in
    let event = c.event_of-event.result in
    record {
      written = shown (form.bytes, event);
      reads = λ before stands.
          let picked = c.in-Ok.ensures.ok before stands in
          let f = picked.form_is in
          record {
            item = f.item;
            read = f.read;
            goes_on = f.goes_on;
            written_is = written_form (options_of tried r) before c.unit_form.new.sets c.unit_form.new.periods c.args.unit.now form.bytes.items form.macroblocks event f c.event_of-event.ensures;
            stands = record { sets_are = f.stand.sets_are; begun = f.stand.begun };
            pick = picked.pick;
          };
      waits = ap (map shown) c.in-Ok-push_back.ensures.items ∙ map-append shown r.forms.items ((form.bytes, event) ∷ []);
      count = c.saturating_add-self.ensures;
      stopped = refl;
      options = ap (options r.plan r.init) c.unit_form.ensures.tried;
    }
