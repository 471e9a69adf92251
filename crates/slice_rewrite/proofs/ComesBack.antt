-- What is written for an item is read as that item, in the wanted layer where it is recoded.
use Rattle.std.proofs.Common.{◌≡◌, ◌≢◌, ℕ, ◌-◌, ◌%◌, ◌<◌, ◌≤◌, List, [], ◌∷◌, ◌++◌, length, Bool, true, false, Option, Some, None, option_map, refl, sym, ap, subst, ◌∙◌, arith, length-append, append_assoc, replicate}
use Rattle.std.specs.Prelude.{if◌then◌else◌, ◌&&◌, ◌||◌}
use Rattle.bit_texts.specs.Bits.{bits_of, bytes_of}
use Rattle.bit_texts.proofs.Bytes.{bits_of-bytes_of}
use Rattle.exp_golomb.specs.EmulationPrevention.{IsEscape, HasEscape, escaped}
use Rattle.exp_golomb.specs.Syntax.{Found, Spells}
use Rattle.h264_types.specs.Units.{IsHeaded}
use Rattle.h264_types.specs.declared.layer.Layer.{Layer}
use Rattle.h264_types.specs.declared.layer.Layer.TheVariants.{Cavlc, Cabac}
use Rattle.init_table.specs.declared.table.InitTable.{InitTable}
use Rattle.annexb_units.proofs.Closed.{IsClosed-unit, EndsNonzero-unit}
use Rattle.param_sets.specs.PpsCodes.{IsPps, mode_flag_of, pps_in, pps_text, pps_fields_text}
use Rattle.param_sets.specs.Sets.{SetMaps, sps_put, pps_put}
use Rattle.param_sets.specs.SpsCodes.{sps_text, sps_fields_text, without_constraints}
use Rattle.param_sets.specs.PictureParameterSet.{PpsText}
use Rattle.param_sets.specs.SequenceParameterSet.{SpsText}
use Rattle.param_sets.specs.TrailingBits.{IsPayload}
use Rattle.param_sets.specs.declared.pps.Pps.{Pps}
use Rattle.param_sets.specs.declared.sps.Sps.{Sps}
use Rattle.param_sets.proofs.SetLaws.{sps_unconstrained, pps_moved}
use Rattle.param_sets.proofs.SpsFound.{text_of_read}
use Rattle.param_sets.proofs.PpsTexts.{text_of_read as pps_of_read, read_again as pps_again}
use Rattle.param_sets.proofs.SpsTexts.{read_again as sps_again}
use Rattle.param_sets.proofs.Trailing.{whole_payload}
use Rattle.param_sets.proofs.TrailingWritten.{payload_ends}
use Rattle.slice_header.specs.HeaderCodes.{HeaderFits, IsAllowed, Names, active_in, header_in, header_text, unconstrained}
use Rattle.slice_header.specs.Shape.{is_mbaff, shape_of}
use Rattle.header_parts.specs.ActiveSets.{Active}
use Rattle.slice_header.specs.SliceHeader.{slice_header}
use Rattle.header_parts.specs.declared.header.Header.{Header}
use Rattle.slice_header.proofs.HeaderFound.{header_again}
use Rattle.slice_header.proofs.HeaderLaws.{written_one, moved, in_range_unconstrained, same_text}
use Rattle.slice_rewrite.specs.declared.kinds.UnitKind.{UnitKind}
use Rattle.slice_rewrite.specs.declared.kinds.UnitKind.TheVariants.{Carried as IsCarried, Slice as IsSlice, Sps as IsSps, Pps as IsPpsUnit, Refused as IsRefused}
use Rattle.slice_rewrite.specs.Items.{header_of, kind_of, kind_of_type, Slice, Item, Carried, TheSps, ThePps, TheSlice, behind, sets_behind, is_unbuilt, IsUnit, IsSliceOf, IsItem, AreItems}
use Rattle.slice_rewrite.specs.Stops.{slice_stop}
use Rattle.slice_rewrite.specs.Verdict.{has_pps, number_stop, recoded_stop, stop_of}
use Rattle.slice_rewrite.specs.Layers.{layer_of, HasDataIn, IsDataIn}
use Rattle.slice_rewrite.specs.Options.{Options}
use Rattle.slice_rewrite.specs.Periods.{is_in_range, is_period_in, number_in, period_of}
use Rattle.slice_rewrite.specs.Written.{sps_unit, pps_unit, pps_units, slice_under, IsSliceBits, IsSliceUnit}
use Rattle.slice_rewrite.proofs.Layers.{normal_data_in, one_normal_in, fills_in, stops_in}
use Rattle.slice_rewrite.proofs.Slices.{names-once, written_built, written_column}
use Rattle.slice_rewrite.proofs.WrittenLists.{written_list}
use Rattle.slice_rewrite.proofs.WrittenSets.{Stand, stand-put_sps, stand-one, stand-two, free_number}
use Rattle.slice_rewrite.proofs.Splitting.{Fits, AllFit}

-- ## Items in their written form

-- a slice that isn't recoded, under its sequence parameter set as it is written
abbrev pub kept_slice : Slice → Slice
kept_slice s = record s { active = unconstrained s.active }

-- a slice as it is written, where this is cabac_init_idc if it stands
abbrev pub slice_for : Bool → Layer → Option (ℕ × ℕ) → ℕ → Slice → Slice
slice_for true to range idc s = slice_under to (number_in range s.header.pic_parameter_set_id) idc s
slice_for false to range idc s = kept_slice s

abbrev pub pps_items : Layer → Option (ℕ × ℕ) → ℕ → Pps → List Item
pps_items to None header pps = ThePps header (pps_in to pps.pic_parameter_set_id pps) ∷ []
pps_items to (Some range) header pps = ThePps header pps ∷ ThePps header (pps_in to (255 - pps.pic_parameter_set_id) pps) ∷ []

-- the items that are written for an item behind others
abbrev pub items_for : Layer → Option (ℕ × ℕ) → List Item → ℕ → Item → List Item
items_for to range before idc (Carried u) = Carried u ∷ []
items_for to range before idc (TheSps header sps) = TheSps header (without_constraints sps) ∷ []
items_for to range before idc (ThePps header pps) = pps_items to range header pps
items_for to range before idc (TheSlice s) = TheSlice (slice_for (is_in_range range before s) to range idc s) ∷ []

-- the units that are written for a unit, which is read as this item, where this is cabac_init_idc
abbrev pub IsUnitOf : Bool → Options → ℕ → List ℕ → Slice → List ℕ → Type 0
IsUnitOf true o idc unit s new = IsSliceUnit o.init (slice_under o.to (number_in o.range s.header.pic_parameter_set_id) idc s) new
IsUnitOf false o idc unit s new = new ≡ unit

abbrev pub AreUnitsOf : Options → List Item → ℕ → List ℕ → Item → List (List ℕ) → Type 0
AreUnitsOf o before idc unit (Carried u) units = units ≡ u ∷ []
AreUnitsOf o before idc unit (TheSps header sps) units = units ≡ sps_unit header sps ∷ []
AreUnitsOf o before idc unit (ThePps header pps) units = units ≡ pps_units o o.range unit header pps
AreUnitsOf o before idc unit (TheSlice s) units = (new : List ℕ) × IsUnitOf (is_in_range o.range before s) o idc unit s new × (units ≡ new ∷ [])

-- ## Payloads that are written

pub record Writes (header : ℕ) (bits : List Bool) : Type 0 where
  pub escape : IsEscape (bytes_of bits) (escaped (bytes_of bits))
  pub bits_are : bits_of (bytes_of bits) ≡ bits
  pub fits : Fits (header ∷ escaped (bytes_of bits))

writes : (header : ℕ) (bits : List Bool) → header < 128 → header ≢ 0 → IsPayload bits → Writes header bits
writes header bits small some is =
    let has : HasEscape (bytes_of bits) = ap (λ z. z % 2) is.no_zeros_at_end in
    record {
      escape = (has, refl);
      bits_are = bits_of-bytes_of bits is.whole;
      fits = record { headed = small; closed = IsClosed-unit header (bytes_of bits) some has; ends = EndsNonzero-unit header (bytes_of bits) some has };
    }

-- a unit of a kind that is written anew has a header byte other than 0
some_header : (u : List ℕ) (k : UnitKind) → kind_of u ≡ k → (k ≡ IsRefused → ⊥) → header_of u ≢ 0
some_header u k e ne zero = ne (sym e ∙ ap (λ h. kind_of_type (h % 32)) zero)

small_header : (u : List ℕ) → IsHeaded u → header_of u < 128
small_header [] h = absurd h
small_header (x ∷ u) h = h

-- ## Sets

pub sps-back : (to : Layer) (init : InitTable) (sets new : SetMaps) (u : List ℕ) (header : ℕ) (sps : Sps) → IsHeaded u → IsItem to init sets u (TheSps header sps) → IsItem to init new (sps_unit header sps) (TheSps header (without_constraints sps)) × Fits (sps_unit header sps)
sps-back to init sets new u header sps headed is =
    let fields = sps_unconstrained sps (text_of_read sps (bits_of is.0) is.3).0 in
    let bits = sps_text (without_constraints sps) in
    let small : header < 128 = subst (λ h. h < 128) (sym is.2) (small_header u headed) in
    let some : header ≢ 0 = λ e. some_header u IsSps is.1.0 (λ k. cc) (sym is.2 ∙ e) in
    let w = writes header bits small some (payload_ends (sps_fields_text (without_constraints sps))) in
    ((bytes_of bits, (ap (λ h. kind_of_type (h % 32)) is.2 ∙ is.1.0, w.escape), refl, subst (λ b. SpsText (without_constraints sps) b) (sym w.bits_are) (sps_again (without_constraints sps) fields)), w.fits)

few : (pps : Pps) → IsPps pps → pps.pic_parameter_set_id < 256
few pps is = omega (arith, is.fits.head.pic_parameter_set_id)

pub pps_few : (to : Layer) (init : InitTable) (sets : SetMaps) (u : List ℕ) (header : ℕ) (pps : Pps) → IsItem to init sets u (ThePps header pps) → pps.pic_parameter_set_id < 256
pps_few to init sets u header pps is = few pps (pps_of_read pps (bits_of is.0) is.3).0

-- in the layer, under any number
pub pps-back : (to : Layer) (init : InitTable) (sets new : SetMaps) (u : List ℕ) (number header : ℕ) (pps : Pps) → number < 256 → IsHeaded u → IsItem to init sets u (ThePps header pps)
    → IsItem to init new (pps_unit to number header pps) (ThePps header (pps_in to number pps)) × Fits (pps_unit to number header pps)
pps-back to init sets new u number header pps small_number headed is =
    let fields = (pps_of_read pps (bits_of is.0) is.3).0 in
    let written = pps_in to number pps in
    let bits = pps_text written in
    let small : header < 128 = subst (λ h. h < 128) (sym is.2) (small_header u headed) in
    let some : header ≢ 0 = λ e. some_header u IsPpsUnit is.1.0 (λ k. cc) (sym is.2 ∙ e) in
    let w = writes header bits small some (payload_ends (pps_fields_text written)) in
    let P : List Bool → Type 0 = λ b. PpsText written b in
    ((bytes_of bits, (ap (λ h. kind_of_type (h % 32)) is.2 ∙ is.1.0, w.escape), refl, subst P (sym w.bits_are) (pps_again written (pps_moved pps to number small_number fields))), w.fits)

-- ## Slices

names-back : (to : Layer) (range : Option (ℕ × ℕ)) (sets new : SetMaps) (n : ℕ) (active : Active) → Stand to range sets new → Names sets n active → Names new (number_in range n) (active_in to (number_in range n) (unconstrained active))
names-back to range sets new n active h k = record {
  pps = h.moved n active.pps k.pps;
  sps = h.sps active.pps.seq_parameter_set_id ∙ ap (option_map without_constraints) k.sps;
}

names-kept : (to : Layer) (range : Option (ℕ × ℕ)) (sets new : SetMaps) (n period : ℕ) (active : Active) → is_period_in range period ≡ false → Stand to range sets new → Names sets n active → Names new n (unconstrained active)
names-kept to range sets new n period active out h k = record {
  pps = h.kept period out n active.pps k.pps;
  sps = h.sps active.pps.seq_parameter_set_id ∙ ap (option_map without_constraints) k.sps;
}

number_few : (range : Option (ℕ × ℕ)) (n : ℕ) → n ≤ 255 → number_in range n < 256
number_few None n few = omega (arith, few)
number_few (Some range) n few = omega arith

allowed-back : (to : Layer) (n : ℕ) (active : Active) → IsAllowed active → IsAllowed (active_in to n (unconstrained active))
allowed-back to n active h = h

allowed-kept : (active : Active) → IsAllowed active → IsAllowed (unconstrained active)
allowed-kept active h = h

-- a slice's bits are whole bytes, of which the last one isn't 0
pub slice_payload : (init : InitTable) (s : Slice) (bits : List Bool) → IsSliceBits init s bits → IsPayload bits
slice_payload init s bits is =
    let text = header_text s.active s.header in
    let shape = shape_of s.active s.header in
    let e = stops_in (layer_of s.active) init shape (length text) s.mbs is.slice_data is.data_are in
    let whole : length (text ++ is.slice_data) % 8 ≡ 0 = ap (λ n. n % 8) (length-append text is.slice_data) ∙ fills_in (layer_of s.active) init shape (length text) s.mbs is.slice_data is.data_are in
    let ends = ap (λ b. text ++ b) e.3 ∙ sym (append_assoc text e.0 (true ∷ replicate e.1 false)) in
    let p = subst IsPayload (sym (whole_payload (text ++ e.0) (text ++ is.slice_data) e.1 ends e.2 whole)) (payload_ends (text ++ e.0)) in
    subst IsPayload (sym is.bits_are) p

pub one_slice_unit : (init : InitTable) (s : Slice) (first second : List ℕ) → IsSliceUnit init s first → IsSliceUnit init s second → first ≡ second
one_slice_unit init s first second (a, is, e) (b, js, f) =
    let text = header_text s.active s.header in
    let same = one_normal_in (layer_of s.active) init (shape_of s.active s.header) (length text) s.mbs is.slice_data js.slice_data is.data_are js.data_are in
    let bits : a ≡ b = is.bits_are ∙ ap (λ d. text ++ d) same ∙ sym js.bits_are in
    e ∙ ap (λ x. s.header.nal ∷ escaped (bytes_of x)) bits ∙ sym f

-- what stands behind a text of so many bits
behind_text : (text rest : List Bool) → length (text ++ rest) - length rest ≡ length text
behind_text text rest = omega (arith, length-append text rest)

-- a slice that isn't refused as not built for a layer isn't so when it is in it
built-back : (to : Layer) (n idc : ℕ) (active : Active) (h : Header) → is_unbuilt to active h ≡ false → is_unbuilt to (active_in to n (unconstrained active)) (header_in to n idc h) ≡ false
built-back to n idc active h e = by (is_mbaff active h) (mode_flag_of to) active.pps.entropy_coding_mode_flag e
  where
    by : (mbaff wanted own : Bool) → (mbaff && (wanted || own)) ≡ false → (mbaff && (wanted || wanted)) ≡ false
    by false wanted own k = refl
    by true false own k = refl
    by true true own k = absurd (let both : true ≡ false = k in cc)

-- the layer that the flag of a layer names
layer_named : (to : Layer) → (if mode_flag_of to then Cabac else Cavlc) ≡ to
layer_named Cavlc = refl
layer_named Cabac = refl

slice-written : (to : Layer) (range : Option (ℕ × ℕ)) (init : InitTable) (idc : ℕ) (sets new : SetMaps) (header : ℕ) (bits written : List Bool) (s : Slice) → idc < 3 → Stand to range sets new → IsSliceOf to init sets header bits s → slice_stop to s ≡ None
    → IsSliceBits init (slice_for true to range idc s) written → (s.header.nal ≡ header) × IsSliceOf to init new header written (slice_for true to range idc s)
slice-written to range init idc sets new header bits written s small stand is goes_on put =
    let f = written_one sets header bits is.rest s.header is.header_is in
    let n = number_in range s.header.pic_parameter_set_id in
    let same = names-once sets s.header.pic_parameter_set_id f.0 s.active f.1 is.names in
    let F : Active → Type 0 = λ a. HeaderFits a s.header in
    let allowed = allowed-back to n s.active (subst IsAllowed same f.2) in
    let fits = moved (unconstrained s.active) s.header to n idc (number_few range s.header.pic_parameter_set_id f.3.pic_parameter_set_id) small (in_range_unconstrained s.active s.header (subst F same f.3)) in
    let names = names-back to range sets new s.header.pic_parameter_set_id s.active stand is.names in
    let t = slice_under to n idc s in
    let shape = shape_of t.active t.header in
    let text = header_text t.active t.header in
    let spelled = header_again new t.active t.header put.slice_data names allowed fits in
    let list = written_list (layer_of s.active) to (shape_of s.active s.header) shape s.mbs is.list (written_column to n idc s.active s.header small) (written_built to n idc s.active s.header is.built) goes_on in
    let P : ℕ → List Bool → Type 0 = λ nal all. Spells (slice_header new nal) all (Found t.header put.slice_data) in
    let H : ℕ → Type 0 = λ nal. P nal written in
    let L : Layer → Type 0 = λ layer. HasDataIn layer shape t.mbs in
    let again = normal_data_in (layer_of t.active) init shape (length text) t.mbs put.slice_data put.data_are in
    let D : ℕ → Type 0 = λ k. IsDataIn (layer_of t.active) init shape k t.mbs put.slice_data in
    let pos : length text ≡ length written - length put.slice_data = sym (ap (λ b. length b - length put.slice_data) put.bits_are ∙ behind_text text put.slice_data) in (
      f.4,
      record {
        names = names;
        rest = put.slice_data;
        header_is = subst H f.4 (subst (P t.header.nal) (sym put.bits_are) spelled);
        built = built-back to n idc s.active s.header is.built;
        list = subst L (sym (layer_named to)) list;
        data_are = subst D pos again;
      },
    )

pub slice-back : (to : Layer) (range : Option (ℕ × ℕ)) (init : InitTable) (idc : ℕ) (sets new : SetMaps) (u unit : List ℕ) (s : Slice) → idc < 3 → Stand to range sets new → IsHeaded u → IsItem to init sets u (TheSlice s) → slice_stop to s ≡ None
    → IsSliceUnit init (slice_for true to range idc s) unit → IsItem to init new unit (TheSlice (slice_for true to range idc s)) × Fits unit
slice-back to range init idc sets new u unit s few_idc stand headed is goes_on (bits, put, unit_is) =
    let k = slice-written to range init idc sets new (header_of u) (bits_of is.0) bits s few_idc stand is.2 goes_on put in
    let t = slice_for true to range idc s in
    let small : t.header.nal < 128 = subst (λ h. h < 128) (sym k.0) (small_header u headed) in
    let some : t.header.nal ≢ 0 = λ e. some_header u IsSlice is.1.0 (λ x. cc) (sym k.0 ∙ e) in
    let w = writes t.header.nal bits small some (slice_payload init t bits put) in
    let P : ℕ → List Bool → Type 0 = λ nal bits. IsSliceOf to init new nal bits t in
    let H : ℕ → Type 0 = λ nal. P nal bits in
    let U : List ℕ → Type 0 = λ x. IsItem to init new x (TheSlice t) × Fits x in
    subst U (sym unit_is) ((bytes_of bits, (ap (λ h. kind_of_type (h % 32)) k.0 ∙ is.1.0, w.escape), subst (P t.header.nal) (sym w.bits_are) (subst H (sym k.0) k.1)), w.fits)

-- a slice that isn't recoded is read again under the sets that are written
pub slice-kept : (to : Layer) (range : Option (ℕ × ℕ)) (init : InitTable) (sets new : SetMaps) (header : ℕ) (bits : List Bool) (s : Slice) (period : ℕ) → is_period_in range period ≡ false → Stand to range sets new → IsSliceOf to init sets header bits s
    → IsSliceOf to init new header bits (kept_slice s)
slice-kept to range init sets new header bits s period out stand is =
    let f = written_one sets header bits is.rest s.header is.header_is in
    let same = names-once sets s.header.pic_parameter_set_id f.0 s.active f.1 is.names in
    let F : Active → Type 0 = λ a. HeaderFits a s.header in
    let T : Active → Type 0 = λ a. bits ≡ header_text a s.header ++ is.rest in
    let names = names-kept to range sets new s.header.pic_parameter_set_id period s.active out stand is.names in
    let text : bits ≡ header_text (unconstrained s.active) s.header ++ is.rest = subst T same f.5 ∙ ap (λ x. x ++ is.rest) (sym (same_text s.active s.header)) in
    let again = header_again new (unconstrained s.active) s.header is.rest names (allowed-kept s.active (subst IsAllowed same f.2)) (in_range_unconstrained s.active s.header (subst F same f.3)) in
    let B : List Bool → Type 0 = λ b. Spells (slice_header new s.header.nal) b (Found s.header is.rest) in
    let H : ℕ → Type 0 = λ nal. Spells (slice_header new nal) bits (Found s.header is.rest) in
    record { names = names; rest = is.rest; header_is = subst H f.4 (subst B (sym text) again); built = is.built; list = is.list; data_are = is.data_are }

-- ## Any item

-- what is read of units that were written for an item
pub record ItemsBack (to : Layer) (range : Option (ℕ × ℕ)) (init : InitTable) (after : SetMaps) (there : List Item) (units : List (List ℕ)) (items : List Item) : Type 0 where
  pub are : AreItems to init there units items
  pub fit : AllFit units
  pub stand : Stand to range after (sets_behind (behind items there))

unit-back : (o : Options) (inside : Bool) (idc period : ℕ) (sets new : SetMaps) (u unit : List ℕ) (s : Slice) → idc < 3 → is_period_in o.range period ≡ inside → Stand o.to o.range sets new → Fits u → IsItem o.to o.init sets u (TheSlice s)
    → recoded_stop inside o.to s ≡ None → IsUnitOf inside o idc u s unit → IsItem o.to o.init new unit (TheSlice (slice_for inside o.to o.range idc s)) × Fits unit
unit-back o true idc period sets new u unit s few_idc in_range stand fits is goes_on put = slice-back o.to o.range o.init idc sets new u unit s few_idc stand fits.headed is goes_on put
unit-back o false idc period sets new u unit s few_idc out stand fits is goes_on put =
    let F : List ℕ → Type 0 = Fits in
    let U : List ℕ → Type 0 = λ w. IsItem o.to o.init new w (TheSlice (kept_slice s)) in
    (subst U (sym put) (is.0, is.1, slice-kept o.to o.range o.init sets new (header_of u) (bits_of is.0) s period out stand is.2), subst F (sym put) fits)

pps-items : (o : Options) (range : Option (ℕ × ℕ)) (before there : List Item) (u : List ℕ) (header : ℕ) (pps : Pps) → o.range ≡ range → Stand o.to range (sets_behind before) (sets_behind there) → Fits u
    → IsItem o.to o.init (sets_behind before) u (ThePps header pps) → number_stop range (has_pps before (255 - pps.pic_parameter_set_id)) ≡ None
    → ItemsBack o.to range o.init (pps_put pps (sets_behind before)) there (pps_units o range u header pps) (pps_items o.to range header pps)
pps-items o None before there u header pps whole stand fits is goes_on =
    let small = pps_few o.to o.init (sets_behind before) u header pps is in
    let b = pps-back o.to o.init (sets_behind before) (sets_behind there) u pps.pic_parameter_set_id header pps small fits.headed is in
    record { are = (b.0, tt); fit = (b.1, tt); stand = stand-one o.to (sets_behind before) (sets_behind there) pps small stand }
pps-items o (Some range) before there u header pps partial stand fits is goes_on =
    let small = pps_few o.to o.init (sets_behind before) u header pps is in
    let b = pps-back o.to o.init (sets_behind before) (pps_put pps (sets_behind there)) u (255 - pps.pic_parameter_set_id) header pps (omega arith) fits.headed is in
    record {
      are = (is, (b.0, tt));
      fit = (fits, (b.1, tt));
      stand = stand-two o.to range (sets_behind before) (sets_behind there) pps small (free_number range before pps.pic_parameter_set_id goes_on) stand;
    }

pub item-back : (o : Options) (idc : ℕ) (before there : List Item) (u : List ℕ) (i : Item) (units : List (List ℕ)) → idc < 3 → Stand o.to o.range (sets_behind before) (sets_behind there) → Fits u → IsItem o.to o.init (sets_behind before) u i
    → stop_of o before i ≡ None → AreUnitsOf o before idc u i units → ItemsBack o.to o.range o.init (sets_behind (i ∷ before)) there units (items_for o.to o.range before idc i)
item-back o idc before there u (Carried v) units few_idc stand fits is goes_on written =
    let F : List ℕ → Type 0 = Fits in
    let P : List ℕ → Type 0 = λ w. IsUnit IsCarried is.0 w in
    let U : List (List ℕ) → Type 0 = λ us. ItemsBack o.to o.range o.init (sets_behind before) there us (Carried v ∷ []) in
    subst U (sym written) (record { are = ((is.0, subst P (sym is.2) is.1, refl), tt); fit = (subst F (sym is.2) fits, tt); stand = stand })
item-back o idc before there u (TheSps header sps) units few_idc stand fits is goes_on written =
    let b = sps-back o.to o.init (sets_behind before) (sets_behind there) u header sps fits.headed is in
    let U : List (List ℕ) → Type 0 = λ us. ItemsBack o.to o.range o.init (sps_put sps (sets_behind before)) there us (TheSps header (without_constraints sps) ∷ []) in
    subst U (sym written) (record { are = (b.0, tt); fit = (b.1, tt); stand = stand-put_sps o.to o.range (sets_behind before) (sets_behind there) sps stand })
item-back o idc before there u (ThePps header pps) units few_idc stand fits is goes_on written =
    let U : List (List ℕ) → Type 0 = λ us. ItemsBack o.to o.range o.init (pps_put pps (sets_behind before)) there us (pps_items o.to o.range header pps) in
    subst U (sym written) (pps-items o o.range before there u header pps refl stand fits is goes_on)
item-back o idc before there u (TheSlice s) units few_idc stand fits is goes_on (unit, put, written) =
    let inside = is_in_range o.range before s in
    let b = unit-back o inside idc (period_of before s) (sets_behind before) (sets_behind there) u unit s few_idc refl stand fits is goes_on put in
    let U : List (List ℕ) → Type 0 = λ us. ItemsBack o.to o.range o.init (sets_behind before) there us (TheSlice (slice_for inside o.to o.range idc s) ∷ []) in
    subst U (sym written) (record { are = (b.0, tt); fit = (b.1, tt); stand = stand })
