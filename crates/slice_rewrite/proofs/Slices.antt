-- The payload of a slice unit is one slice, or is refused for one reason.
use Rattle.std.proofs.Common.{◌≡◌, ◌⊎◌, inl, inr, ℕ, ◌+◌, ◌-◌, ◌<◌, ◌≤◌, List, length, Bool, true, false, Some, refl, sym, ap, subst, ◌∙◌, arith}
use Rattle.std.specs.Prelude.{◌&&◌, ◌||◌, not, if◌then◌else◌}
use Rattle.bit_texts.proofs.Inverting.{some_is}
use Rattle.exp_golomb.specs.Syntax.{Syntax, Outcome, Found, Refused, NoText, Spells, outcome_of}
use Rattle.exp_golomb.proofs.Syntaxes.{one_outcome, spelled}
use Rattle.h264_types.specs.declared.fault.Why.{Why}
use Rattle.h264_types.specs.declared.fault.Why.TheVariants.{Unbuilt, Header as BadHeader, Slice as BadSlice}
use Rattle.h264_types.specs.declared.layer.Layer.{Layer}
use Rattle.h264_types.specs.declared.layer.Layer.TheVariants.{Cavlc, Cabac}
use Rattle.h264_types.specs.declared.macroblock.Mb.{Mb}
use Rattle.h264_types.specs.declared.slice_shape.SliceShape.{SliceShape}
use Rattle.init_table.specs.declared.table.InitTable.{InitTable}
use Rattle.param_sets.proofs.SetLaws.{nothing_spelled}
use Rattle.param_sets.proofs.Spelled.{same_found}
use Rattle.param_sets.specs.PpsCodes.{mode_flag_of}
use Rattle.param_sets.specs.Sets.{SetMaps, find_sps}
use Rattle.param_sets.specs.SpsCodes.{IsSps}
use Rattle.param_sets.specs.declared.pps.Pps.{Pps}
use Rattle.param_sets.specs.declared.sps.Sps.{Sps}
use Rattle.slice_header.specs.HeaderCodes.{HeaderFits, IsAllowed, Names, active_in, header_in, unconstrained}
use Rattle.header_parts.specs.Refusal.{Refusal}
use Rattle.header_parts.specs.SliceTypes.{is_i}
use Rattle.slice_header.specs.Shape.{is_mbaff, shape_of}
use Rattle.header_parts.specs.ActiveSets.{Active}
use Rattle.slice_header.specs.SliceHeader.{slice_header}
use Rattle.header_parts.specs.declared.header.Header.{Header}
use Rattle.slice_header.proofs.HeaderLaws.{written_one, shape_fits}
use Rattle.slice_rewrite.specs.Layers.{layer_of, HasDataIn, IsDataIn, IsBuiltIn}
use Rattle.slice_rewrite.proofs.Layers.{IsBuiltShapeIn, DecidedIn, built_shape_in, one_list_in, decided_in}
use Rattle.slice_rewrite.specs.Items.{Slice, is_unbuilt, IsSliceOf}
use Rattle.slice_rewrite.specs.SliceForms.{IsOtherColumn}
use Rattle.slice_rewrite.specs.Verdict.{why_of_header, IsNoText, IsNoData, HasNoData, IsNoSlice}

-- ## One slice

-- a number names one pair of sets
pub names-once : (sets : SetMaps) (n : ℕ) (a b : Active) → Names sets n a → Names sets n b → a ≡ b
names-once sets n a b h k =
    let p : a.pps ≡ b.pps = some_is a.pps b.pps (sym h.pps ∙ k.pps) in
    let s : a.sps ≡ b.sps = some_is a.sps b.sps (sym h.sps ∙ ap (λ (x : Pps). find_sps x.seq_parameter_set_id sets) p ∙ k.sps) in
    ap (λ x. let c : Active = record { sps = x; pps = a.pps } in c) s ∙ ap (λ x. let c : Active = record { sps = b.sps; pps = x } in c) p

-- headers found in the same bits, and what follows them
pub header-once : (sets : SetMaps) (header : ℕ) (bits : List Bool) (h k : Header) (rest after : List Bool) →
    Spells (slice_header sets header) bits (Found h rest) → Spells (slice_header sets header) bits (Found k after) → (h ≡ k) × (rest ≡ after)
header-once sets header bits h k rest after a b =
    same_found h k rest after (Found h rest) refl (one_outcome (slice_header sets header) bits (Found h rest) (Found k after) a b)

mbs-once : (init : InitTable) (h k : Header) (a b : Active) (n : ℕ) (rest after : List Bool) (ms ns : List Mb) → h ≡ k → a ≡ b → rest ≡ after → HasDataIn (layer_of a) (shape_of a h) ms → HasDataIn (layer_of b) (shape_of b k) ns
    → IsDataIn (layer_of a) init (shape_of a h) (n - length rest) ms rest → IsDataIn (layer_of b) init (shape_of b k) (n - length after) ns after → ms ≡ ns
mbs-once init h k a b n rest after ms ns e f g has has' is is' =
    let H : Header → Type 0 = λ x. HasDataIn (layer_of a) (shape_of a x) ms in
    let A : Active → Type 0 = λ x. HasDataIn (layer_of x) (shape_of x k) ms in
    let P : Header → Type 0 = λ x. IsDataIn (layer_of a) init (shape_of a x) (n - length rest) ms rest in
    let Q : Active → Type 0 = λ x. IsDataIn (layer_of x) init (shape_of x k) (n - length rest) ms rest in
    let R : List Bool → Type 0 = λ r. IsDataIn (layer_of b) init (shape_of b k) (n - length r) ms r in
    one_list_in (layer_of b) init (shape_of b k) (n - length after) ms ns after (subst A f (subst H e has)) has' (subst R g (subst Q f (subst P e is))) is'

-- whichever layers it is read for
pub slice-once : (to other : Layer) (init : InitTable) (sets : SetMaps) (header : ℕ) (bits : List Bool) (s t : Slice) → IsSliceOf to init sets header bits s → IsSliceOf other init sets header bits t → s ≡ t
slice-once to other init sets header bits s t is js =
    let f = header-once sets header bits s.header t.header is.rest js.rest is.header_is js.header_is in
    let N : Header → Type 0 = λ x. Names sets x.pic_parameter_set_id s.active in
    let a = names-once sets t.header.pic_parameter_set_id s.active t.active (subst N f.0 is.names) js.names in
    let m = mbs-once init s.header t.header s.active t.active (length bits) is.rest js.rest s.mbs t.mbs f.0 a f.1 is.list js.list is.data_are js.data_are in
    ap (λ x. let c : Slice = record { header = x; active = s.active; mbs = s.mbs } in c) f.0
    ∙ ap (λ x. let c : Slice = record { header = t.header; active = x; mbs = s.mbs } in c) a
    ∙ ap (λ x. let c : Slice = record { header = t.header; active = t.active; mbs = x } in c) m

-- ## One reason

same_cause : {E A : Type 0} (c d : E) (first second : Outcome E A) → first ≡ Refused c → second ≡ Refused d → first ≡ second → c ≡ d
same_cause c d first second e f same = let both = sym e ∙ same ∙ f in cc

-- the bits have no reading by this syntax, for one reason
pub no_text-once : {E A : Type 0} (named : E → Why) (none : Why) (syntax : Syntax E A) (bits : List Bool) (v w : Why) → IsNoText named none syntax bits v → IsNoText named none syntax bits w → v ≡ w
no_text-once named none syntax bits v w (inl a) (inl b) = a.0 ∙ sym b.0
no_text-once named none syntax bits v w (inl a) (inr b) = absurd (a.1 (Refused b.0) b.2)
no_text-once named none syntax bits v w (inr a) (inl b) = absurd (b.1 (Refused a.0) a.2)
no_text-once named none syntax bits v w (inr a) (inr b) =
    a.1 ∙ ap named (same_cause a.0 b.0 (Refused a.0) (Refused b.0) refl refl (one_outcome syntax bits (Refused a.0) (Refused b.0) a.2 b.2)) ∙ sym b.1

-- a value that stands there is no reason
pub no_text-found : {E A : Type 0} (named : E → Why) (none : Why) (syntax : Syntax E A) (bits : List Bool) (why : Why) (value : A) (rest : List Bool) → IsNoText named none syntax bits why → Spells syntax bits (Found value rest) → ⊥
no_text-found named none syntax bits why value rest (inl a) t = a.1 (Found value rest) t
no_text-found named none syntax bits why value rest (inr a) t = let same = one_outcome syntax bits (Refused a.0) (Found value rest) a.2 t in cc

data-once : (unbuilt : Bool) (layer : Layer) (init : InitTable) (shape : SliceShape) (pos : ℕ) (rest : List Bool) (v w : Why) → IsNoData unbuilt layer init shape pos rest v → IsNoData unbuilt layer init shape pos rest w → v ≡ w
data-once true layer init shape pos rest v w a b = a ∙ sym b
data-once false layer init shape pos rest v w a b = a.0 ∙ sym b.0

-- what is refused behind one header is refused behind the same one
data-moved : (to : Layer) (init : InitTable) (h k : Header) (a b : Active) (n : ℕ) (rest after : List Bool) (why : Why) → h ≡ k → a ≡ b → rest ≡ after → IsNoData (is_unbuilt to a h) (layer_of a) init (shape_of a h) (n - length rest) rest why
    → IsNoData (is_unbuilt to b k) (layer_of b) init (shape_of b k) (n - length after) after why
data-moved to init h k a b n rest after why e f g none =
    let P : Header → Type 0 = λ x. IsNoData (is_unbuilt to a x) (layer_of a) init (shape_of a x) (n - length rest) rest why in
    let Q : Active → Type 0 = λ x. IsNoData (is_unbuilt to x k) (layer_of x) init (shape_of x k) (n - length rest) rest why in
    let R : List Bool → Type 0 = λ x. IsNoData (is_unbuilt to b k) (layer_of b) init (shape_of b k) (n - length x) x why in
    subst R g (subst Q f (subst P e none))

no_data-once : (to : Layer) (init : InitTable) (sets : SetMaps) (header : ℕ) (bits : List Bool) (v w : Why) → HasNoData to init sets header bits v → HasNoData to init sets header bits w → v ≡ w
no_data-once to init sets header bits v w a b =
    let f = header-once sets header bits a.h b.h a.rest b.rest a.header_is b.header_is in
    let N : Header → Type 0 = λ x. Names sets x.pic_parameter_set_id a.active in
    let g = names-once sets b.h.pic_parameter_set_id a.active b.active (subst N f.0 a.names) b.names in
    data-once (is_unbuilt to b.active b.h) (layer_of b.active) init (shape_of b.active b.h) (length bits - length b.rest) b.rest v w (data-moved to init a.h b.h a.active b.active (length bits) a.rest b.rest v f.0 g f.1 a.none) b.none

pub no_slice-once : (to : Layer) (init : InitTable) (sets : SetMaps) (header : ℕ) (bits : List Bool) (v w : Why) → IsNoSlice to init sets header bits v → IsNoSlice to init sets header bits w → v ≡ w
no_slice-once to init sets header bits v w (inl a) (inl b) =
    no_text-once why_of_header BadHeader (slice_header sets header) bits v w a b
no_slice-once to init sets header bits v w (inl a) (inr b) = absurd (no_text-found why_of_header BadHeader (slice_header sets header) bits v b.h b.rest a b.header_is)
no_slice-once to init sets header bits v w (inr a) (inl b) = absurd (no_text-found why_of_header BadHeader (slice_header sets header) bits w a.h a.rest b a.header_is)
no_slice-once to init sets header bits v w (inr a) (inr b) = no_data-once to init sets header bits v w a b

-- data of a slice are not refused
data-not_refused : (unbuilt : Bool) (layer : Layer) (init : InitTable) (shape : SliceShape) (pos : ℕ) (rest : List Bool) (why : Why) (mbs : List Mb) → unbuilt ≡ false → HasDataIn layer shape mbs → IsDataIn layer init shape pos mbs rest
    → IsNoData unbuilt layer init shape pos rest why → ⊥
data-not_refused false layer init shape pos rest why mbs built has is none = none.1 mbs has is
data-not_refused true layer init shape pos rest why mbs built has is none = absurd cc

pub slice-not_refused : (to : Layer) (init : InitTable) (sets : SetMaps) (header : ℕ) (bits : List Bool) (s : Slice) (why : Why) → IsSliceOf to init sets header bits s → IsNoSlice to init sets header bits why → ⊥
slice-not_refused to init sets header bits s why is (inl a) = no_text-found why_of_header BadHeader (slice_header sets header) bits why s.header is.rest a is.header_is
slice-not_refused to init sets header bits s why is (inr a) =
    let f = header-once sets header bits a.h s.header a.rest is.rest a.header_is is.header_is in
    let N : Header → Type 0 = λ x. Names sets x.pic_parameter_set_id a.active in
    let g = names-once sets s.header.pic_parameter_set_id a.active s.active (subst N f.0 a.names) is.names in
    data-not_refused (is_unbuilt to s.active s.header) (layer_of s.active) init (shape_of s.active s.header) (length bits - length is.rest) is.rest why s.mbs is.built is.list is.data_are
    (data-moved to init a.h s.header a.active s.active (length bits) a.rest is.rest why f.0 g f.1 a.none)

-- ## Each payload is decided

-- the sets that stand are in range
abbrev pub AreInRange : SetMaps → Type 0
AreInRange sets = (n : ℕ) (sps : Sps) → find_sps n sets ≡ Some sps → IsSps sps

-- the elements of a header, under the sets that it names
pub record FoundHeader (sets : SetMaps) (h : Header) : Type 0 where
  pub active : Active
  pub names : Names sets h.pic_parameter_set_id active
  pub allowed : IsAllowed active
  pub fits : HeaderFits active h

pub header-found : (sets : SetMaps) (header : ℕ) (bits rest : List Bool) (h : Header) → Spells (slice_header sets header) bits (Found h rest) → FoundHeader sets h
header-found sets header bits rest h text =
    let f = written_one sets header bits rest h text in
    record { active = f.0; names = f.1; allowed = f.2; fits = f.3 }

-- the header byte stands in the header
pub slice-nal : (to : Layer) (init : InitTable) (sets : SetMaps) (header : ℕ) (bits : List Bool) (s : Slice) → IsSliceOf to init sets header bits s → s.header.nal ≡ header
slice-nal to init sets header bits s is = (written_one sets header bits is.rest s.header is.header_is).4

-- ## Slices that are built

-- of a shape, where these say whether it is of an MBAFF frame, whether CABAC is wanted, and whether the slice is in CABAC
built_read : (mbaff wanted own : Bool) (shape : SliceShape) → shape.mbaff ≡ mbaff → (mbaff && (wanted || own)) ≡ false → IsBuiltIn (if own then Cabac else Cavlc) shape
built_read mbaff wanted false shape is e = tt
built_read false wanted true shape is e = record { mbaff = is }
built_read true false true shape is e = absurd (let both : true ≡ false = e in cc)
built_read true true true shape is e = absurd (let both : true ≡ false = e in cc)

built_wanted : (to : Layer) (mbaff own : Bool) (shape : SliceShape) → shape.mbaff ≡ mbaff → (mbaff && (mode_flag_of to || own)) ≡ false → IsBuiltIn to shape
built_wanted Cavlc mbaff own shape is e = tt
built_wanted Cabac false own shape is e = record { mbaff = is }
built_wanted Cabac true own shape is e = absurd (let both : true ≡ false = e in cc)

-- the data of a slice that isn't refused so are read and written
pub not_unbuilt : (to : Layer) (active : Active) (h : Header) → is_unbuilt to active h ≡ false → IsBuiltIn (layer_of active) (shape_of active h)
not_unbuilt to active h e = built_read (is_mbaff active h) (mode_flag_of to) active.pps.entropy_coding_mode_flag (shape_of active h) refl e

-- they may be written in the wanted layer
pub wanted_built : (to : Layer) (active : Active) (h : Header) → is_unbuilt to active h ≡ false → IsBuiltIn to (shape_of active h)
wanted_built to active h e = built_wanted to (is_mbaff active h) active.pps.entropy_coding_mode_flag (shape_of active h) refl e

-- and so may those of the shape in which it is written
pub written_built : (to : Layer) (number idc : ℕ) (active : Active) (h : Header) → is_unbuilt to active h ≡ false → IsBuiltIn to (shape_of (active_in to number (unconstrained active)) (header_in to number idc h))
written_built to number idc active h e = built_wanted to (is_mbaff active h) active.pps.entropy_coding_mode_flag (shape_of (active_in to number (unconstrained active)) (header_in to number idc h)) refl e

-- a column of I slices, or of a cabac_init_idc that stands
small_column : (i stands : Bool) (idc : ℕ) → idc < 3 → (if i then 0 else (if stands then idc else 0) + 1) ≤ 3
small_column true stands idc few = omega arith
small_column false true idc few = omega (arith, few)
small_column false false idc few = omega arith

-- the shape in which a slice is written is its own but for the column
pub written_column : (to : Layer) (number idc : ℕ) (active : Active) (h : Header) → idc < 3 → IsOtherColumn (shape_of active h) (shape_of (active_in to number (unconstrained active)) (header_in to number idc h))
written_column to number idc active h few = record { same = refl; column = small_column (is_i h.slice_type) (mode_flag_of to && not (is_i h.slice_type)) idc few }

pub built_shape : (layer : Layer) (active : Active) (h : Header) → IsSps active.sps → HeaderFits active h → IsBuiltIn layer (shape_of active h) → IsBuiltShapeIn layer (shape_of active h)
built_shape layer active h sps fits built = built_shape_in layer (shape_of active h) (shape_fits active h sps fits) built

pub built_under : (to : Layer) (active : Active) (h : Header) → IsSps active.sps → HeaderFits active h → is_unbuilt to active h ≡ false → IsBuiltShapeIn (layer_of active) (shape_of active h)
built_under to active h sps fits e = built_shape (layer_of active) active h sps fits (not_unbuilt to active h e)

abbrev pub DecidedSlice : Layer → InitTable → SetMaps → ℕ → List Bool → Type 0
DecidedSlice to init sets header bits = ((s : Slice) × IsSliceOf to init sets header bits s) ⊎ ((why : Why) × IsNoSlice to init sets header bits why)

-- behind this header stand no data
pub no_data : (to : Layer) (init : InitTable) (sets : SetMaps) (header : ℕ) (bits rest : List Bool) (h : Header) (f : FoundHeader sets h) → Spells (slice_header sets header) bits (Found h rest)
    → (unbuilt : Bool) (why : Why) → is_unbuilt to f.active h ≡ unbuilt → IsNoData unbuilt (layer_of f.active) init (shape_of f.active h) (length bits - length rest) rest why → IsNoSlice to init sets header bits why
no_data to init sets header bits rest h f text unbuilt why e none =
    let P : Bool → Type 0 = λ b. IsNoData b (layer_of f.active) init (shape_of f.active h) (length bits - length rest) rest why in
    inr (record { h = h; active = f.active; names = f.names; rest = rest; header_is = text; none = subst P (sym e) none })

-- what follows a header is decided
rest-decided : (to : Layer) (init : InitTable) (sets : SetMaps) (header : ℕ) (bits rest : List Bool) (h : Header) (f : FoundHeader sets h) → Spells (slice_header sets header) bits (Found h rest) → is_unbuilt to f.active h ≡ false
    → DecidedIn (layer_of f.active) init (shape_of f.active h) (length bits - length rest) rest
    → DecidedSlice to init sets header bits
rest-decided to init sets header bits rest h f text built (inl d) =
    inl (record { header = h; active = f.active; mbs = d.0 }, record { names = f.names; rest = rest; header_is = text; built = built; list = d.1; data_are = d.2 })
rest-decided to init sets header bits rest h f text built (inr d) =
    inr (BadSlice, no_data to init sets header bits rest h f text false BadSlice built (refl, d))

data-decided : (to : Layer) (init : InitTable) (sets : SetMaps) (header : ℕ) (bits rest : List Bool) (h : Header) (f : FoundHeader sets h) (unbuilt : Bool) → AreInRange sets → Spells (slice_header sets header) bits (Found h rest)
    → is_unbuilt to f.active h ≡ unbuilt → DecidedSlice to init sets header bits
data-decided to init sets header bits rest h f true range text e = inr (Unbuilt, no_data to init sets header bits rest h f text true Unbuilt e refl)
data-decided to init sets header bits rest h f false range text e =
    let shape = built_under to f.active h (range f.active.pps.seq_parameter_set_id f.active.sps f.names.sps) f.fits e in
    rest-decided to init sets header bits rest h f text e (decided_in (layer_of f.active) init (shape_of f.active h) (length bits - length rest) rest shape)

by_outcome : (to : Layer) (init : InitTable) (sets : SetMaps) (header : ℕ) (bits : List Bool) → AreInRange sets → (o : Outcome Refusal Header) → outcome_of (slice_header sets header) bits ≡ o → DecidedSlice to init sets header bits
by_outcome to init sets header bits range (Found h rest) e =
    let text = spelled (slice_header sets header) bits (Found h rest) e (λ k. cc) in
    let f = header-found sets header bits rest h text in
    data-decided to init sets header bits rest h f (is_unbuilt to f.active h) range text refl
by_outcome to init sets header bits range (Refused cause) e =
    inr (why_of_header cause, inl (inr (cause, refl, spelled (slice_header sets header) bits (Refused cause) e (λ k. cc))))
by_outcome to init sets header bits range NoText e = inr (BadHeader, inl (inl (refl, nothing_spelled (slice_header sets header) bits e)))

pub slice-decided : (to : Layer) (init : InitTable) (sets : SetMaps) (header : ℕ) (bits : List Bool) → AreInRange sets → DecidedSlice to init sets header bits
slice-decided to init sets header bits range = by_outcome to init sets header bits range (outcome_of (slice_header sets header) bits) refl
