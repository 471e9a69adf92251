-- What is written for one unit.
use Rattle.std.proofs.Common.{◌≡◌, ◌∙◌, sym, ap, subst, refl, inl, inr, ℕ, List, [], ◌∷◌, ◌++◌, drop, length, map, Bool, true, false, Option, Some, None, Err, ◌-◌, append-nil}
use Rattle.std.specs.Prelude.{IfErr, Ok, Result, is_some}
use Rattle.std.specs.List.{concat}
use Rattle.bit_texts.specs.Bits.{bits_of, bytes_of}
use Rattle.exp_golomb.specs.EmulationPrevention.{IsEscape, escaped, payload_of}
use Rattle.exp_golomb.proofs.Escapes.{payload_of-escaped, escaped-payload_of}
use Rattle.stream_taps.specs.declared.event.Event.{Event}
use Rattle.h264_types.specs.declared.fault.Why.{Why}
use Rattle.h264_types.specs.declared.layer.Layer.{Layer}
use Rattle.h264_types.specs.declared.macroblock.Mb.{Mb}
use Rattle.h264_types.specs.declared.fault.Why.TheVariants.{Escape, Sps as BadSps, Pps as BadPps, Profile as BadProfile, Limit as BadLimit}
use Rattle.annexb_units.specs.declared.unescaping.EscapeFault.{EscapeFault}
use Rattle.annexb_units.specs.declared.unescaping.EscapeFault.TheVariants.{BadEscape, Memory as NoMemory}
use Rattle.param_sets.specs.PictureParameterSet.{PpsText, ReadsPps}
use Rattle.param_sets.specs.Refusal.{OutsideProfile, AboveLimit}
use Rattle.param_sets.specs.SequenceParameterSet.{SpsText, ReadsSps}
use Rattle.param_sets.specs.Sets.{SetMaps, sps_put, pps_put}
use Rattle.param_sets.specs.declared.fault.SetFault.{SetFault}
use Rattle.param_sets.specs.declared.fault.SetFault.TheVariants.{NoReading, Profile, Limit, Memory}
use Rattle.param_sets.specs.declared.pps.Pps.{Pps}
use Rattle.param_sets.specs.declared.sps.Sps.{Sps}
use Rattle.init_table.specs.declared.table.InitTable.{InitTable}
use Rattle.slice_rewrite.specs.Options.{Options, options, whole_run}
use Rattle.slice_rewrite.specs.declared.kinds.UnitKind.{UnitKind}
use Rattle.slice_rewrite.specs.declared.kinds.UnitKind.TheVariants.{Carried as IsCarried, Slice as IsSlice, Sps as IsSps, Pps as IsPps}
use Rattle.slice_rewrite.specs.Items.{header_of, unit_type, kind_of, Slice, Item, Carried, TheSps, ThePps, TheSlice, IsItem, IsSliceOf, sets_behind}
use Rattle.slice_rewrite.specs.Periods.{idr_of, is_in_range, number_in}
use Rattle.slice_rewrite.specs.Picks.{IsPickedForm as IsPickedSlice}
use Rattle.slice_rewrite.specs.declared.opening.OpenSlice.{OpenSlice}
use Rattle.slice_rewrite.specs.declared.pick.Tries.{Tries}
use Rattle.slice_rewrite.specs.declared.plan.Plan.{Plan}
use Rattle.slice_rewrite.specs.Verdict.{IsRefusedUnit, IsRefusedEscape, Refuses, number_stop, has_pps, recoded_stop}
use Rattle.slice_rewrite.specs.Written.{with_start_code, sps_unit, pps_unit, pps_units, IsTriedUnit, IsUnitFor}
use Rattle.slice_rewrite.proofs.SliceForms.{written_under_own}
use Rattle.slice_rewrite.proofs.Picked.{picks_under_own, slice_is}
use Rattle.slice_rewrite.proofs.Slices.{slice-nal}
use Rattle.slice_rewrite.proofs.WrittenSets.{found_put}
use Rattle.stream_recoder.specs.Periods.{AreBegun}
use Rattle.stream_recoder.specs.Written.{Written, IsWritten, GoesOn, GoesOnBy}
use Rattle.stream_recoder.specs.Recoder.{PickStops, stopped_at}
use Rattle.slice_rewrite.specs.declared.fault.RewriteFault.{RewriteFault}
use Rattle.slice_rewrite.specs.declared.fault.RewriteFault.TheVariants as slices
use Rattle.slice_rewrite.specs.Faults.{fault_of_escape}
use Rattle.stream_recoder.specs.Forms.{AreBehind, IsForm, IsPickedForm, IsPickBehind, IsPpsRefusal, IsRecodedBehind, IsRecodedForm, IsRefusal, is_taken, set_fault}
use Rattle.stream_recoder.specs.declared.periods.Periods.{Periods}
use Rattle.slice_rewrite.specs.SliceForms.{IsCounted, IsNotRead, IsOpened, IsSliceRefusal, coded, sets_in}

abbrev pub written_with : List ℕ → Event → Written
written_with form event = record { form = form; event = event }

abbrev event_with : List ℕ → List ℕ → ℕ → Event
event_with unit form macroblocks = record { kind = unit_type unit; macroblocks = macroblocks; bytes_in = length unit; bytes_out = length form }

refuses_as : (to : Layer) (init : InitTable) (sets : SetMaps) (unit : List ℕ) (k : UnitKind) (why : Why) → kind_of unit ≡ k → IsRefusedUnit to init sets k unit why → Refuses to init sets unit why
refuses_as to init sets unit k why e r = let P : UnitKind → Type 0 = λ x. IsRefusedUnit to init sets x unit why in subst P (sym e) r

-- ## A carried unit

-- whether the bytes behind the header byte are those of a payload
by_payload : (bytes : List ℕ) (o : Option (List ℕ)) → payload_of bytes ≡ o → is_some o ≡ true → (payload : List ℕ) × IsEscape payload bytes
by_payload bytes None e h = absurd (cc)
by_payload bytes (Some payload) e h = (payload, escaped-payload_of payload bytes e)

pub no_payload : (bytes payload : List ℕ) → is_some (payload_of bytes) ≡ false → IsEscape payload bytes → ⊥
no_payload bytes payload h is = absurd (let e : is_some (Some payload) ≡ false = ap is_some (sym (payload_of-escaped payload bytes is)) ∙ h in cc)

pub carried : (o : Options) (before : List Item) (sets : SetMaps) (periods : Periods) (unit form : List ℕ) → kind_of unit ≡ IsCarried → is_some (payload_of (drop 1 unit)) ≡ true → form ≡ with_start_code unit → AreBehind before sets periods → IsForm o before sets periods unit form 0
carried o before sets periods unit form kind some bytes stand =
    let p = by_payload (drop 1 unit) (payload_of (drop 1 unit)) refl some in
    record {
      item = Carried unit;
      read = (p.0, (kind, p.1), refl);
      goes_on = refl;
      stand = record { sets_are = stand.sets_are; begun = record { count = stand.begun.count; last = stand.begun.last } };
      count = refl;
      bytes = (unit ∷ [], refl, bytes ∙ sym (append-nil (with_start_code unit)));
    }

pub carried_escape : (to : Layer) (init : InitTable) (sets : SetMaps) (unit : List ℕ) → kind_of unit ≡ IsCarried → is_some (payload_of (drop 1 unit)) ≡ false → Refuses to init sets unit Escape
carried_escape to init sets unit kind none = refuses_as to init sets unit IsCarried Escape kind (inl (refl, λ payload is. no_payload (drop 1 unit) payload none is))

-- ## Units with a payload

-- a unit without a payload
escape_refused : (o : Options) (before : List Item) (unit : List ℕ) (k : UnitKind) (fault : EscapeFault) → (IsRefusedEscape o.to o.init (sets_behind before) k unit Escape → Refuses o.to o.init (sets_behind before) unit Escape)
    → (fault ≡ BadEscape → (payload : List ℕ) → IsEscape payload (drop 1 unit) → ⊥) → IsRefusal o before unit (fault_of_escape fault)
escape_refused o before unit k BadEscape refuse h = refuse (inl (refl, h refl))
escape_refused o before unit k NoMemory refuse h = tt

pub escape_refused_sps : (o : Options) (before : List Item) (unit : List ℕ) (fault : EscapeFault) → kind_of unit ≡ IsSps → (fault ≡ BadEscape → (payload : List ℕ) → IsEscape payload (drop 1 unit) → ⊥) → IsRefusal o before unit (fault_of_escape fault)
escape_refused_sps o before unit fault kind h = escape_refused o before unit IsSps fault (λ r. refuses_as o.to o.init (sets_behind before) unit IsSps Escape kind r) h

pub escape_refused_pps : (o : Options) (before : List Item) (unit : List ℕ) (fault : EscapeFault) → kind_of unit ≡ IsPps → (fault ≡ BadEscape → (payload : List ℕ) → IsEscape payload (drop 1 unit) → ⊥) → IsRefusal o before unit (fault_of_escape fault)
escape_refused_pps o before unit fault kind h = escape_refused o before unit IsPps fault (λ r. refuses_as o.to o.init (sets_behind before) unit IsPps Escape kind r) h

pub escape_refused_slice : (o : Options) (before : List Item) (unit : List ℕ) (fault : EscapeFault) → kind_of unit ≡ IsSlice → (fault ≡ BadEscape → (payload : List ℕ) → IsEscape payload (drop 1 unit) → ⊥) → IsRefusal o before unit (fault_of_escape fault)
escape_refused_slice o before unit fault kind h = escape_refused o before unit IsSlice fault (λ r. refuses_as o.to o.init (sets_behind before) unit IsSlice Escape kind r) h

-- ## Sets

pub sps_refused : (o : Options) (before : List Item) (unit payload : List ℕ) (fault : SetFault) → kind_of unit ≡ IsSps → IsEscape payload (drop 1 unit) → ReadsSps (Err fault) (bits_of payload) → IsRefusal o before unit (set_fault BadSps fault)
sps_refused o before unit payload NoReading kind is r = refuses_as o.to o.init (sets_behind before) unit IsSps BadSps kind (inr (payload, is, inl (refl, r)))
sps_refused o before unit payload Profile kind is r = refuses_as o.to o.init (sets_behind before) unit IsSps BadProfile kind (inr (payload, is, inr (OutsideProfile, refl, r)))
sps_refused o before unit payload Limit kind is r = refuses_as o.to o.init (sets_behind before) unit IsSps BadLimit kind (inr (payload, is, inr (AboveLimit, refl, r)))
sps_refused o before unit payload Memory kind is r = tt

pub pps_refused : (o : Options) (before : List Item) (unit payload : List ℕ) (fault : SetFault) → kind_of unit ≡ IsPps → IsEscape payload (drop 1 unit) → ReadsPps (Err fault) (bits_of payload) → IsRefusal o before unit (set_fault BadPps fault)
pps_refused o before unit payload NoReading kind is r = refuses_as o.to o.init (sets_behind before) unit IsPps BadPps kind (inr (payload, is, inl (refl, r)))
pps_refused o before unit payload Profile kind is r = refuses_as o.to o.init (sets_behind before) unit IsPps BadProfile kind (inr (payload, is, inr (OutsideProfile, refl, r)))
pps_refused o before unit payload Limit kind is r = absurd r
pps_refused o before unit payload Memory kind is r = tt

pub sps_written : (o : Options) (before : List Item) (sets after : SetMaps) (periods : Periods) (unit payload form : List ℕ) (sps : Sps) → kind_of unit ≡ IsSps → IsEscape payload (drop 1 unit) → SpsText sps (bits_of payload)
    → form ≡ with_start_code (sps_unit (header_of unit) sps) → after ≡ sps_put sps sets → AreBehind before sets periods → IsForm o before after periods unit form 0
sps_written o before sets after periods unit payload form sps kind is text bytes put stand = record {
  item = TheSps (header_of unit) sps;
  read = (payload, (kind, is), refl, text);
  goes_on = refl;
  stand = record { sets_are = put ∙ ap (sps_put sps) stand.sets_are; begun = record { count = stand.begun.count; last = stand.begun.last } };
  count = refl;
  bytes = (sps_unit (header_of unit) sps ∷ [], refl, bytes ∙ sym (append-nil (with_start_code (sps_unit (header_of unit) sps))));
}

-- whether the number of a set is taken is seen in the sets that stand
stops_by : (range : Option (ℕ × ℕ)) (before : List Item) (sets : SetMaps) (number : ℕ) → sets ≡ sets_behind before → number_stop range (has_pps before (255 - number)) ≡ number_stop range (is_taken sets number)
stops_by range before sets number stand = ap (number_stop range) (sym (ap (λ s. is_taken s number) stand ∙ found_put before (255 - number)))

pub pps_stopped : (o : Options) (before : List Item) (sets : SetMaps) (unit payload : List ℕ) (pps : Pps) (fault : RewriteFault) → kind_of unit ≡ IsPps → IsEscape payload (drop 1 unit) → PpsText pps (bits_of payload) → sets ≡ sets_behind before
    → IsPpsRefusal o.range sets pps.pic_parameter_set_id fault → IsRefusal o before unit fault
pps_stopped o before sets unit payload pps (slices.Outside why) kind is text stand r = absurd r
pps_stopped o before sets unit payload pps (slices.Stop case k) kind is text stand r = (ThePps (header_of unit) pps, (payload, (kind, is), refl, text), stops_by o.range before sets pps.pic_parameter_set_id stand ∙ r)
pps_stopped o before sets unit payload pps slices.Memory kind is text stand r = tt

pub pps_written : (o : Options) (before : List Item) (sets after : SetMaps) (periods : Periods) (unit payload form : List ℕ) (pps : Pps) → kind_of unit ≡ IsPps → IsEscape payload (drop 1 unit) → PpsText pps (bits_of payload)
    → form ≡ concat (map with_start_code (pps_units o o.range unit (header_of unit) pps)) → number_stop o.range (is_taken sets pps.pic_parameter_set_id) ≡ None → after ≡ pps_put pps sets → AreBehind before sets periods → IsForm o before after periods unit form 0
pps_written o before sets after periods unit payload form pps kind is text bytes free put stand = record {
  item = ThePps (header_of unit) pps;
  read = (payload, (kind, is), refl, text);
  goes_on = stops_by o.range before sets pps.pic_parameter_set_id stand.sets_are ∙ free;
  stand = record { sets_are = put ∙ ap (pps_put pps) stand.sets_are; begun = record { count = stand.begun.count; last = stand.begun.last } };
  count = refl;
  bytes = (pps_units o o.range unit (header_of unit) pps, refl, bytes);
}

-- a set in a partial run: as it was read, and in the wanted layer
pub two_units : (o : Options) (range : ℕ × ℕ) (unit first second form : List ℕ) (header : ℕ) (pps : Pps) → first ≡ with_start_code unit → second ≡ with_start_code (pps_unit o.to (255 - pps.pic_parameter_set_id) header pps) → form ≡ first ++ second
    → form ≡ concat (map with_start_code (pps_units o (Some range) unit header pps))
two_units o range unit first second form header pps is also all = all ∙ ap (λ v. v ++ second) is ∙ ap (λ v. with_start_code unit ++ v) (also ∙ sym (append-nil (with_start_code (pps_unit o.to (255 - pps.pic_parameter_set_id) header pps))))

-- ## Slices

-- Of each slice that these bits are: behind it these periods have begun, and this says whether it is recoded.
pub record Follows (o : Options) (before : List Item) (header : ℕ) (bits : List Bool) (periods : Periods) (inside : Bool) : Type 0 where
  pub begun : (s : Slice) → IsSliceOf o.to o.init (sets_behind before) header bits s → AreBegun (TheSlice s ∷ before) periods
  pub inside_is : (s : Slice) → IsSliceOf o.to o.init (sets_behind before) header bits s → is_in_range o.range before s ≡ inside

-- the periods behind a slice whose header was read
pub follows : (o : Options) (before : List Item) (header : ℕ) (bits : List Bool) (opened : OpenSlice) (old new : Periods) (idr : Option ℕ) (inside : Bool) → IsOpened o.to (sets_behind before) header bits opened → AreBegun before old
    → ((mbs : List Mb) → idr ≡ idr_of (coded (sets_in opened) opened.header mbs)) → ((b : List Item) (s : Slice) → AreBegun b old → idr ≡ idr_of s → AreBegun (TheSlice s ∷ b) new)
    → ((b : List Item) (s : Slice) → AreBegun (TheSlice s ∷ b) new → inside ≡ is_in_range o.range b s) → Follows o before header bits new inside
follows o before header bits opened old new idr inside r begun says next tells = record { begun = begins; inside_is = λ s is. sym (tells before s (begins s is)) }
  where
    begins : (s : Slice) → IsSliceOf o.to o.init (sets_behind before) header bits s → AreBegun (TheSlice s ∷ before) new
    begins s is = next before s begun (says s.mbs ∙ sym (ap idr_of (slice_is o.to o.init (sets_behind before) header bits opened s r is)))

pub slice_unread : (o : Options) (before : List Item) (unit payload : List ℕ) (fault : RewriteFault) → kind_of unit ≡ IsSlice → IsEscape payload (drop 1 unit) → IsNotRead o.to o.init (sets_behind before) (header_of unit) (bits_of payload) fault → IsRefusal o before unit fault
slice_unread o before unit payload (slices.Outside why) kind is r = refuses_as o.to o.init (sets_behind before) unit IsSlice why kind (inr (payload, is, r))
slice_unread o before unit payload (slices.Stop case k) kind is r = absurd r
slice_unread o before unit payload slices.Memory kind is r = tt

pub slice_refused : (o : Options) (before : List Item) (unit payload : List ℕ) (periods : Periods) (fault : RewriteFault) → kind_of unit ≡ IsSlice → IsEscape payload (drop 1 unit) → Follows o before (header_of unit) (bits_of payload) periods true
    → IsSliceRefusal o.to o.init (sets_behind before) (header_of unit) (bits_of payload) fault → IsRefusal o before unit fault
slice_refused o before unit payload periods (slices.Outside why) kind is k r = refuses_as o.to o.init (sets_behind before) unit IsSlice why kind (inr (payload, is, r))
slice_refused o before unit payload periods (slices.Stop case n) kind is k r = (TheSlice r.0, (payload, (kind, is), r.1), ap (λ b. recoded_stop b o.to r.0) (k.inside_is r.0 r.1) ∙ r.2)
slice_refused o before unit payload periods slices.Memory kind is k r = tt

-- a slice that isn't recoded is written as it was read
pub slice_kept : (o : Options) (before : List Item) (sets : SetMaps) (periods : Periods) (unit payload form : List ℕ) (macroblocks : ℕ) → kind_of unit ≡ IsSlice → IsEscape payload (drop 1 unit) → sets ≡ sets_behind before
    → Follows o before (header_of unit) (bits_of payload) periods false → IsCounted o.to o.init (sets_behind before) (header_of unit) (bits_of payload) macroblocks → form ≡ with_start_code unit → IsForm o before sets periods unit form macroblocks
slice_kept o before sets periods unit payload form macroblocks kind is stand k (s, read, count) bytes =
    let U : Bool → Type 0 = λ b. IsUnitFor b o unit s unit in
    record {
      item = TheSlice s;
      read = (payload, (kind, is), read);
      goes_on = ap (λ b. recoded_stop b o.to s) (k.inside_is s read);
      stand = record { sets_are = stand; begun = k.begun s read };
      count = count;
      bytes = (unit ∷ [], (unit, subst U (sym (k.inside_is s read)) refl, refl), bytes ∙ sym (append-nil (with_start_code unit)));
    }

-- ## What is written for a unit, with the event of it

pub written_form : (o : Options) (before : List Item) (sets : SetMaps) (periods : Periods) (unit form : List ℕ) (macroblocks : ℕ) (event : Event) (f : IsForm o before sets periods unit form macroblocks) → event ≡ event_with unit form macroblocks → IsWritten o before unit f.item (written_with form event)
written_form o before sets periods unit form macroblocks event f is = record { form = f.bytes; event = is ∙ ap (event_with unit form) f.count }

-- ## The pick

-- what holds of each fault holds of that of a result
pub err_all : {T E : Type 0} (r : Result T E) (Q : E → Type 0) → ((e : E) → Q e) → IfErr r Q
err_all (Ok x) Q all = tt
err_all (Err e) Q all = all e

module _ {P : Type 0} (tried : P → Tries) (step : P → List ℕ → ℕ → P → Type 0) where
  -- a slice that was opened is written in the wanted layer, and with it the pick goes on
  pub recoded : (plan : Plan) (init : InitTable) (sets : SetMaps) (header : ℕ) (bits : List Bool) (s : OpenSlice) (number : ℕ) (payload form : List ℕ) (macroblocks : ℕ) (old new : P) → IsOpened plan.to sets header bits s
      → number ≡ number_in plan.range s.header.pic_parameter_set_id → IsPickedSlice tried step plan.to init number sets header bits old payload macroblocks new → form ≡ with_start_code (header ∷ escaped (bytes_of (bits_of payload)))
      → IsRecodedForm tried step (options plan init (tried old)) sets header bits form macroblocks old new
  recoded plan init sets header bits s number payload form macroblocks old new r same picked is =
      let N : ℕ → Type 0 = λ n. IsPickedSlice tried step plan.to init n sets header bits old payload macroblocks new in
      let f = subst N same picked in
      let nal = slice-nal plan.to init sets header bits f.form.slice f.form.read in
      let unit = header ∷ escaped (bytes_of (bits_of payload)) in
      let written = written_under_own (whole_run plan.to init (tried old)) plan.range sets header bits s payload macroblocks r f.form in
      let tried_unit : IsTriedUnit (options plan init (tried old)) (number_in plan.range f.form.slice.header.pic_parameter_set_id) f.form.idc f.form.slice unit = (f.form.tried, (bits_of payload, written, ap (λ h. h ∷ escaped (bytes_of (bits_of payload))) (sym nal))) in
      record {
        slice = f.form.slice;
        read = f.form.read;
        goes_on = f.form.goes_on;
        count = f.form.count;
        pick = (f.form.idc, unit, tried_unit, is, picks_under_own tried step plan.to plan.range init sets header bits s payload macroblocks old new r f);
      }

  -- behind other items
  pub slice_recoded : (o : Options) (before : List Item) (sets : SetMaps) (periods : Periods) (unit payload form : List ℕ) (macroblocks : ℕ) (old new : P) → kind_of unit ≡ IsSlice → IsEscape payload (drop 1 unit) → sets ≡ sets_behind before
      → Follows o before (header_of unit) (bits_of payload) periods true → IsRecodedForm tried step o (sets_behind before) (header_of unit) (bits_of payload) form macroblocks old new → IsPickedForm tried step o before sets periods unit form macroblocks old new
  slice_recoded o before sets periods unit payload form macroblocks old new kind is stand k f =
      let s = f.slice in
      let own = sym (k.inside_is s f.read) in
      let U : Bool → Type 0 = λ b. IsUnitFor b o unit s f.pick.1 in
      let G : Bool → Type 0 = λ b. GoesOnBy tried step b o s form old new in
      record {
        form_is = record {
          item = TheSlice s;
          read = (payload, (kind, is), f.read);
          goes_on = ap (λ b. recoded_stop b o.to s) (k.inside_is s f.read) ∙ f.goes_on;
          stand = record { sets_are = stand; begun = k.begun s f.read };
          count = f.count;
          bytes = (f.pick.1 ∷ [], (f.pick.1, subst U own (f.pick.0, f.pick.2), refl), f.pick.3 ∙ sym (append-nil (with_start_code f.pick.1)));
        };
        pick = subst G own f.pick;
      }

  -- with a slice that isn't recoded it stays
  pub kept_stays : (o : Options) (before : List Item) (sets : SetMaps) (periods : Periods) (unit payload form : List ℕ) (macroblocks : ℕ) (pick : P) → kind_of unit ≡ IsSlice → IsEscape payload (drop 1 unit) → sets ≡ sets_behind before
      → Follows o before (header_of unit) (bits_of payload) periods false → IsCounted o.to o.init (sets_behind before) (header_of unit) (bits_of payload) macroblocks → form ≡ with_start_code unit → IsPickedForm tried step o before sets periods unit form macroblocks pick pick
  unfolding slice_kept
  kept_stays o before sets periods unit payload form macroblocks pick kind is stand k c bytes =
      let G : Bool → Type 0 = λ b. GoesOnBy tried step b o c.0 form pick pick in
      record { form_is = slice_kept o before sets periods unit payload form macroblocks kind is stand k c bytes; pick = subst G (sym (k.inside_is c.0 c.1)) refl }

  -- with another unit it stays
  pub others_stay : (o : Options) (before : List Item) (sets : SetMaps) (periods : Periods) (unit form : List ℕ) (macroblocks : ℕ) (pick : P) → (kind_of unit ≡ IsSlice → ⊥) → IsForm o before sets periods unit form macroblocks
      → IsPickedForm tried step o before sets periods unit form macroblocks pick pick
  others_stay o before sets periods unit form macroblocks pick other f = record { form_is = f; pick = by f.item f.read }
    where
      by : (i : Item) → IsItem o.to o.init (sets_behind before) unit i → GoesOn tried step o before i form pick pick
      by (Carried u) is = refl
      by (TheSps header sps) is = refl
      by (ThePps header pps) is = refl
      by (TheSlice s) is = absurd (other is.1.0)

  pub stays_behind : (o : Options) (before : List Item) (unit : List ℕ) (fault : RewriteFault) (pick : P) → IsPickBehind tried step o before unit fault pick pick
  stays_behind o before unit (slices.Outside why) pick = refl
  stays_behind o before unit (slices.Stop case k) pick = refl
  stays_behind o before unit slices.Memory pick = inl refl

  pub recoded_behind : (o : Options) (sets : SetMaps) (header : ℕ) (bits : List Bool) (fault : RewriteFault) (old new : P) → new ≡ old → IsRecodedBehind tried step o sets header bits fault old new
  recoded_behind o sets header bits (slices.Outside why) old new same = same
  recoded_behind o sets header bits (slices.Stop case k) old new same = same
  recoded_behind o sets header bits slices.Memory old new same = inl same

  -- behind a slice that isn't written it is as behind its unit
  pub slice_behind : (o : Options) (before : List Item) (periods : Periods) (unit payload : List ℕ) (fault : RewriteFault) (old new : P) → kind_of unit ≡ IsSlice → IsEscape payload (drop 1 unit) → Follows o before (header_of unit) (bits_of payload) periods true
      → IsRecodedBehind tried step o (sets_behind before) (header_of unit) (bits_of payload) fault old new → IsPickBehind tried step o before unit fault old new
  slice_behind o before periods unit payload (slices.Outside why) old new kind is k r = r
  slice_behind o before periods unit payload (slices.Stop case n) old new kind is k r = r
  slice_behind o before periods unit payload slices.Memory old new kind is k (inl same) = inl same
  slice_behind o before periods unit payload slices.Memory old new kind is k (inr (form, macroblocks, f)) =
      let p = slice_recoded o before (sets_behind before) periods unit payload form macroblocks old new kind is refl k f in
      inr record { item = p.form_is.item; read = p.form_is.read; goes_on = p.form_is.goes_on; form = form; form_is = p.form_is.bytes; pick = p.pick }

  -- how a fault stops, with the pick
  pub pick_stops : (o : Options) (before : List Item) (unit : List ℕ) (n : ℕ) (fault : RewriteFault) (old new : P) → IsPickBehind tried step o before unit fault old new → PickStops tried step o before unit (stopped_at n fault) old new
  pick_stops o before unit n (slices.Outside why) old new h = h
  pick_stops o before unit n (slices.Stop case k) old new h = h
  pick_stops o before unit n slices.Memory old new h = h
