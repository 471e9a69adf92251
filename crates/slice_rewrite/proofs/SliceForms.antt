-- What is written for a slice, and why nothing is.
use Rattle.std.proofs.Common.{false, ◌≡◌, inl, inr, ℕ, zero, suc, ◌+◌, ◌-◌, ◌%◌, ◌≤◌, ◌<◌, Bool, true, List, [], ◌∷◌, ◌++◌, length, get_or, map, take, drop, Option, Some, None, refl, sym, ap, subst, ◌∙◌, arith, length-append}
use Rattle.std.specs.Prelude.{All, Result, Ok, Err, IfOk, IfErr}
use Rattle.std.proofs.lemmas.List.{map-append, take_more, take-append-drop}
use Rattle.bit_texts.specs.Bits.{bits_of}
use Rattle.bit_texts.specs.Texts.{Appended}
use Rattle.slice_rewrite.specs.Layers.{layer_of, HasDataIn, IsDataIn, IsNormalDataIn, NoDataIn, IsBuiltIn}
use Rattle.slice_rewrite.specs.Options.{Options, IsTried, whole_run}
use Rattle.slice_rewrite.specs.declared.pick.Tries.{Tries}
use Rattle.slice_rewrite.proofs.Layers.{IsBuiltShapeIn, fills_in, slice_in_layer}
use Rattle.h264_types.specs.Valid.{IsSlice}
use Rattle.h264_types.proofs.ColumnLaws.{slices_of_both}
use Rattle.h264_types.specs.declared.fault.Case.{Case}
use Rattle.h264_types.specs.declared.fault.Why.{Why}
use Rattle.h264_types.specs.declared.fault.Why.TheVariants.{Unbuilt as NotBuiltYet, Slice as BadSlice}
use Rattle.h264_types.specs.declared.layer.Layer.{Layer}
use Rattle.h264_types.specs.declared.layer.Layer.TheVariants.{Cavlc, Cabac}
use Rattle.h264_types.specs.declared.macroblock.Mb.{Mb}
use Rattle.h264_types.specs.SliceShape.{IsSliceShape, without_column}
use Rattle.h264_types.specs.declared.slice_shape.SliceShape.{SliceShape}
use Rattle.init_table.specs.declared.table.InitTable.{InitTable}
use Rattle.param_sets.specs.Sets.{SetMaps}
use Rattle.pattern_fix.specs.NormalPattern.{IsEmptied}
use Rattle.slice_header.specs.HeaderCodes.{HeaderFits, HeaderText, Names, ReadsHeader, active_in, header_in, header_text, unconstrained}
use Rattle.header_parts.specs.Refusal.{OutsideProfile, NoPps, NoSps}
use Rattle.slice_header.specs.Shape.{shape_of}
use Rattle.header_parts.specs.ActiveSets.{Active}
use Rattle.header_parts.specs.declared.fault.HeaderFault.{HeaderFault}
use Rattle.header_parts.specs.declared.fault.HeaderFault.TheVariants as headers
use Rattle.header_parts.specs.declared.header.Header.{Header}
use Rattle.slice_header.proofs.HeaderLaws.{same_text}
use Rattle.slice_data.specs.Reading.{NoList}
use Rattle.slice_data.specs.Writing.{BeginsSlice}
use Rattle.slice_data.specs.declared.fault.SliceFault.{SliceFault}
use Rattle.slice_data.specs.declared.fault.SliceFault.TheVariants.{NoReading}
use Rattle.slice_rewrite.specs.declared.fault.RewriteFault.{RewriteFault}
use Rattle.slice_rewrite.specs.declared.fault.RewriteFault.TheVariants.{Outside, Stop, Memory}
use Rattle.slice_rewrite.specs.Items.{is_unbuilt, IsSliceOf}
use Rattle.slice_rewrite.specs.Stops.{least_stop, mb_stop, stop_from, stop_or}
use Rattle.slice_rewrite.specs.Verdict.{IsNoData, IsNoSlice}
use Rattle.slice_rewrite.specs.Periods.{number_in}
use Rattle.slice_rewrite.specs.Written.{slice_under, IsSliceBits}
use Rattle.slice_data.specs.WrittenForm.{written_mb}
use Rattle.slice_rewrite.specs.declared.opening.OpenSlice.{OpenSlice}
use Rattle.slice_rewrite.specs.Faults.{fault_of_header, fault_of_data}
use Rattle.slice_rewrite.specs.SliceForms.{sets_in, Ends, IsSliceForm, IsSliceRefusal, coded, IsSliceRead, IsCounted, AreDataCounted, IsNotRead, IsNotOpened, IsOpened, IsUnderSets, IsSliceWritten, IsNotWritten, IsCopy, IsCopyIn, IsNoCopy, IsNoCopyIn, IsNoDataRead, IsDataWritten, IsNoDataWritten, IsOtherColumn}
use Rattle.slice_rewrite.proofs.Normal.{front_written}
use Rattle.slice_rewrite.proofs.Slices.{names-once, header-once, header-found, built_under, wanted_built, written_built, written_column}
use Rattle.slice_rewrite.proofs.Stops.{none_emptied, stop_of_both}

pub subst2 : {X Y : Type 0} (P : X → Y → Type 0) {x u : X} {y v : Y} → x ≡ u → y ≡ v → P x y → P u v
subst2 P {x} {u} {y} {v} e f p = let Q : _ → Type 0 = λ z. P z v in subst Q e (subst (P x) f p)

-- ## The header

pub header_fault : (to : Layer) (sets : SetMaps) (header : ℕ) (bits rest : List Bool) (fault : HeaderFault) → ReadsHeader sets header (Err fault) bits rest → IsNotOpened to sets header bits (fault_of_header fault)
header_fault to sets header bits rest headers.NoReading h = λ init. inl (inl (refl, h))
header_fault to sets header bits rest (headers.MissingPps number) h = λ init. inl (inr (NoPps number, refl, h))
header_fault to sets header bits rest (headers.MissingSps number) h = λ init. inl (inr (NoSps number, refl, h))
header_fault to sets header bits rest headers.Profile h = λ init. inl (inr (OutsideProfile, refl, h))
header_fault to sets header bits rest headers.Memory h = λ init. tt

pub header_unbuilt : (to : Layer) (sets : SetMaps) (header : ℕ) (bits rest : List Bool) (h : Header) (active : Active) → HeaderText sets header h bits rest → Names sets h.pic_parameter_set_id active → is_unbuilt to active h ≡ true
    → IsNotOpened to sets header bits (Outside NotBuiltYet)
header_unbuilt to sets header bits rest h active text names unbuilt init =
    let P : Bool → Type 0 = λ b. IsNoData b (layer_of active) init (shape_of active h) (length bits - length rest) rest NotBuiltYet in
    inr (record { h = h; active = active; names = names; rest = rest; header_is = text; none = subst P (sym unbuilt) refl })

-- ## The data behind it

-- so many bits were taken
places : (bits taken rest : List Bool) → taken ++ rest ≡ bits → length taken ≡ length bits - length rest
places bits taken rest kept = omega (arith, length-append taken rest, ap length kept)

-- the shape of a slice that was opened
pub shape_built : (to : Layer) (sets : SetMaps) (header : ℕ) (bits : List Bool) (s : OpenSlice) → IsOpened to sets header bits s → IsBuiltShapeIn (layer_of (sets_in s)) s.shape
shape_built to sets header bits s r =
    let B : SliceShape → Type 0 = IsBuiltShapeIn (layer_of (sets_in s)) in
    subst B (sym r.shape) (built_under to (sets_in s) s.header r.in_range.0 r.fits r.built)

-- a shape that is built in a layer, by the layer's name
pub built_as : (layer named : Layer) (shape : SliceShape) → layer ≡ named → IsSliceShape shape → IsBuiltIn layer shape → IsBuiltShapeIn named shape
built_as layer named shape e is built = let B : Layer → Type 0 = λ l. IsBuiltIn l shape in record { is_shape = is; built = subst B e built }

-- the slice of this header and these data
pub slice_opened : (to : Layer) (init : InitTable) (sets : SetMaps) (header : ℕ) (bits : List Bool) (s : OpenSlice) (mbs : List Mb) → IsOpened to sets header bits s → HasDataIn (layer_of (sets_in s)) s.shape mbs
    → IsDataIn (layer_of (sets_in s)) init s.shape (length s.bits.taken) mbs s.bits.left → IsSliceOf to init sets header bits (coded (sets_in s) s.header mbs)
slice_opened to init sets header bits s mbs r list read =
    let H : SliceShape → Type 0 = λ shape. HasDataIn (layer_of (sets_in s)) shape mbs in
    let P : SliceShape → Type 0 = λ shape. IsDataIn (layer_of (sets_in s)) init shape (length s.bits.taken) mbs s.bits.left in
    let Q : ℕ → Type 0 = λ n. IsDataIn (layer_of (sets_in s)) init (shape_of (sets_in s) s.header) n mbs s.bits.left in
    record {
      names = r.names;
      rest = s.bits.left;
      header_is = r.text;
      built = r.built;
      list = subst H r.shape list;
      data_are = subst Q (places bits s.bits.taken s.bits.left r.kept) (subst P r.shape read);
    }

pub data_refused : (to : Layer) (init : InitTable) (sets : SetMaps) (header : ℕ) (bits : List Bool) (s : OpenSlice) (why : Why) → IsOpened to sets header bits s → why ≡ BadSlice
    → NoDataIn (layer_of (sets_in s)) init s.shape (length s.bits.taken) s.bits.left → IsNoSlice to init sets header bits why
data_refused to init sets header bits s why r bad none =
    let P : SliceShape → Type 0 = λ shape. NoDataIn (layer_of (sets_in s)) init shape (length s.bits.taken) s.bits.left in
    let Q : ℕ → Type 0 = λ n. NoDataIn (layer_of (sets_in s)) init (shape_of (sets_in s) s.header) n s.bits.left in
    let N : Bool → Type 0 = λ b. IsNoData b (layer_of (sets_in s)) init (shape_of (sets_in s) s.header) (length bits - length s.bits.left) s.bits.left why in
    inr (record {
      h = s.header;
      active = sets_in s;
      names = r.names;
      rest = s.bits.left;
      header_is = r.text;
      none = subst N (sym r.built) (bad, subst Q (places bits s.bits.taken s.bits.left r.kept) (subst P r.shape none));
    })

-- ## Reading

-- what a reader says of data that it refuses
abbrev pub Refuses : (SliceShape → List Mb → Type 0) → (SliceShape → ℕ → List Mb → List Bool → Type 0) → SliceShape → ℕ → List Bool → SliceFault → Type 0
Refuses HasData IsData shape pos left NoReading = NoList HasData IsData shape pos left

pub no_data_read : (HasData : SliceShape → List Mb → Type 0) (IsData : SliceShape → ℕ → List Mb → List Bool → Type 0) (shape : SliceShape) (pos : ℕ) (left : List Bool) (fault : SliceFault)
    → Refuses HasData IsData shape pos left fault → IsNoDataRead HasData IsData shape pos left (fault_of_data fault)
no_data_read HasData IsData shape pos left NoReading h = (refl, h)

pub not_read : (to : Layer) (init : InitTable) (sets : SetMaps) (header : ℕ) (bits : List Bool) (s : OpenSlice) (fault : RewriteFault) → IsOpened to sets header bits s
    → IsNoDataRead (HasDataIn (layer_of (sets_in s))) (IsDataIn (layer_of (sets_in s)) init) s.shape (length s.bits.taken) s.bits.left fault → IsNotRead to init sets header bits fault
not_read to init sets header bits s (Outside why) r none = data_refused to init sets header bits s why r none.0 none.1
not_read to init sets header bits s (Stop case k) r none = none
not_read to init sets header bits s Memory r none = tt

-- the macroblocks of a slice that was opened were counted
pub counted : (to : Layer) (init : InitTable) (sets : SetMaps) (header : ℕ) (bits : List Bool) (s : OpenSlice) (result : Result ℕ RewriteFault) → IsOpened to sets header bits s
    → IfOk result (AreDataCounted (HasDataIn (layer_of (sets_in s))) (IsDataIn (layer_of (sets_in s)) init) s.shape (length s.bits.taken) s.bits.left) → IfOk result (IsCounted to init sets header bits)
counted to init sets header bits s (Ok count) r (mbs, list, read, is) = (coded (sets_in s) s.header mbs, slice_opened to init sets header bits s mbs r list read, is)
counted to init sets header bits s (Err fault) r is = tt

pub not_counted : (to : Layer) (init : InitTable) (sets : SetMaps) (header : ℕ) (bits : List Bool) (s : OpenSlice) (result : Result ℕ RewriteFault) → IsOpened to sets header bits s
    → IfErr result (IsNoDataRead (HasDataIn (layer_of (sets_in s))) (IsDataIn (layer_of (sets_in s)) init) s.shape (length s.bits.taken) s.bits.left) → IfErr result (IsNotRead to init sets header bits)
not_counted to init sets header bits s (Ok count) r none = tt
not_counted to init sets header bits s (Err fault) r none = not_read to init sets header bits s fault r none

pub slice_read : (init : InitTable) (sets : SetMaps) (header : ℕ) (bits : List Bool) (s : OpenSlice) (mbs : List Mb) → IsOpened Cavlc sets header bits s → HasDataIn (layer_of (sets_in s)) s.shape mbs
    → IsDataIn (layer_of (sets_in s)) init s.shape (length s.bits.taken) mbs s.bits.left → IsSliceRead init sets header bits s.header mbs
slice_read init sets header bits s mbs r list read = (sets_in s, slice_opened Cavlc init sets header bits s mbs r list read)

-- ## Writing

-- the header that is written, without the constraint flags too
pub header_written : (to : Layer) (number idc : ℕ) (active : Active) (h : Header) (start out : List Bool) → start ≡ [] → Appended start out (header_text (active_in to number active) (header_in to number idc h))
    → out ≡ header_text (active_in to number (unconstrained active)) (header_in to number idc h)
header_written to number idc active h start out none put =
    let text = header_text (active_in to number active) (header_in to number idc h) in
    put.is ∙ ap (λ s. s ++ text) none ∙ sym (same_text (active_in to number active) (header_in to number idc h))

-- the layer of a slice under the sets that are written
layer_written : (to : Layer) (number : ℕ) (active : Active) → layer_of (active_in to number active) ≡ to
layer_written Cavlc number active = refl
layer_written Cabac number active = refl

-- the payload that is written, of a header and data behind it
pub payload_written : (to : Layer) (init : InitTable) (number idc : ℕ) (active : Active) (h : Header) (mbs : List Mb) (shape : SliceShape) (out after text : List Bool) (payload : List ℕ)
    → shape ≡ shape_of (active_in to number (unconstrained active)) (header_in to number idc h) → out ≡ header_text (active_in to number (unconstrained active)) (header_in to number idc h)
    → IsNormalDataIn to init shape (length out) (map (written_mb to) mbs) text → after ≡ out ++ text → bits_of payload ≡ after → IsSliceBits init (slice_under to number idc (coded active h mbs)) (bits_of payload)
payload_written to init number idc active h mbs shape out after text payload shape_is written is put bytes =
    let t = slice_under to number idc (coded active h mbs) in
    let S : SliceShape → Type 0 = λ s. IsNormalDataIn to init s (length out) t.mbs text in
    let N : List Bool → Type 0 = λ x. IsNormalDataIn to init (shape_of t.active t.header) (length x) t.mbs text in
    let L : Layer → Type 0 = λ layer. IsNormalDataIn layer init (shape_of t.active t.header) (length (header_text t.active t.header)) t.mbs text in
    record {
      slice_data = text;
      data_are = subst L (sym (layer_written to number (unconstrained active))) (subst N written (subst S shape_is is));
      bits_are = bytes ∙ put ∙ ap (λ x. x ++ text) written;
    }

pub data_fills : (to : Layer) (init : InitTable) (shape : SliceShape) (before after text : List Bool) (mbs : List Mb) → IsNormalDataIn to init shape (length before) mbs text → after ≡ before ++ text → length after % 8 ≡ 0
data_fills to init shape before after text mbs is put = ap (λ x. length x % 8) put ∙ ap (λ n. n % 8) (length-append before text) ∙ fills_in to init shape (length before) mbs text is

-- ## Shapes that differ in their columns

column_shape : (shape : SliceShape) (column : ℕ) → column ≤ 3 → IsSliceShape shape → IsSliceShape (record shape { column = column })
column_shape shape column few is = record {
  some = is.some;
  width = is.width;
  size = is.size;
  pairs = is.pairs;
  profile = is.profile;
  qp = is.qp;
  column = few;
  l0 = record { some = is.l0.some; few = is.l0.few };
  l1 = record { some = is.l1.some; few = is.l1.few };
}

pub shape_of_both : (shape other : SliceShape) → IsOtherColumn shape other → IsSliceShape shape → IsSliceShape other
shape_of_both shape other o is = subst IsSliceShape (ap (λ (s : SliceShape). record s { column = other.column }) o.same) (column_shape shape other.column o.column is)

built_of_both : (to : Layer) (shape other : SliceShape) → IsOtherColumn shape other → IsBuiltIn to shape → IsBuiltIn to other
built_of_both Cavlc shape other o built = tt
built_of_both Cabac shape other o built = record { mbaff = sym (ap (λ (s : SliceShape). s.mbaff) o.same) ∙ built.mbaff }

-- no stop rests on the column
stops_from_both : (to : Layer) (shape other : SliceShape) (k : ℕ) (mbs : List Mb) → without_column shape ≡ without_column other → stop_from to shape k mbs ≡ stop_from to other k mbs
stops_from_both to shape other k [] same = refl
stops_from_both to shape other k (mb ∷ mbs) same = ap (λ s. stop_or s k (stop_from to shape (k + 1) mbs)) (stop_of_both to shape other mb same) ∙ ap (stop_or (mb_stop to other mb) k) (stops_from_both to shape other (k + 1) mbs same)

pub stops_of_both : (to : Layer) (shape other : SliceShape) (mbs : List Mb) → IsOtherColumn shape other → least_stop to shape mbs ≡ least_stop to other mbs
stops_of_both to shape other mbs o = stops_from_both to shape other 0 mbs o.same

-- ## Writing slices

-- what holds of the sets that were found holds of those that the header names
pub under_named : (P : Active → Type 0) (sets : SetMaps) (n : ℕ) (found : Active) → Names sets n found → P found → (active : Active) → Names sets n active → P active
under_named P sets n found names p active others = subst P (names-once sets n found active names others) p

pub all_snoc : (P : Mb → Type 0) (done : List Mb) (mb : Mb) → All P done → P mb → All P (done ++ mb ∷ [])
all_snoc P [] mb is p zero d below = p
all_snoc P [] mb is p (suc k) d below = absurd (omega (arith, below))
all_snoc P (x ∷ done) mb is p zero d below = is zero d (omega arith)
all_snoc P (x ∷ done) mb is p (suc k) d below = all_snoc P done mb (λ j e within. is (suc j) e (omega (arith, within))) p k d (omega (arith, below))

-- a macroblock that isn't emptied may be put behind others in their written form
pub begins_written : (to : Layer) (shape : SliceShape) (done tail : List Mb) (mb : Mb) → IsSlice shape ((done ++ mb ∷ []) ++ tail) → least_stop to shape done ≡ None → (IsEmptied mb → ⊥)
    → BeginsSlice shape (map (written_mb to) done ++ written_mb to mb ∷ [])
begins_written to shape done tail mb are goes_on kept =
    let K : Mb → Type 0 = λ m. IsEmptied m → ⊥ in
    let all = all_snoc K done mb (none_emptied to shape done goes_on) kept in
    let P : List Mb → Type 0 = λ front. IsSlice shape (front ++ tail) in
    (tail, subst P (map-append (written_mb to) done (mb ∷ [])) (front_written to shape (done ++ mb ∷ []) tail are all))

-- the same of macroblock k behind the first k
pub begins_at : (to : Layer) (shape : SliceShape) (mbs : List Mb) (k : ℕ) (d : Mb) → k < length mbs → IsSlice shape mbs → least_stop to shape (take k mbs) ≡ None → (IsEmptied (get_or mbs k d) → ⊥)
    → BeginsSlice shape (map (written_mb to) (take k mbs) ++ written_mb to (get_or mbs k d) ∷ [])
begins_at to shape mbs k d below are goes_on kept =
    let A : List Mb → Type 0 = IsSlice shape in
    let whole : (take k mbs ++ get_or mbs k d ∷ []) ++ drop (k + 1) mbs ≡ mbs = ap (λ x. x ++ drop (k + 1) mbs) (sym (take_more mbs k d below)) ∙ take-append-drop (k + 1) mbs in
    begins_written to shape (take k mbs) (drop (k + 1) mbs) (get_or mbs k d) (subst A (sym whole) are) goes_on kept

-- the shape of a slice is that under the sets that its header names, and so is the one that is written
pub written_under : (to : Layer) (number idc : ℕ) (sets : SetMaps) (h : Header) (found : Active) (shape written : SliceShape) → Names sets h.pic_parameter_set_id found → shape ≡ shape_of found h
    → ((active : Active) (k : Header) (n : ℕ) → shape ≡ shape_of active k → written ≡ shape_of (active_in to n (unconstrained active)) (header_in to n idc k))
    → (active : Active) → Names sets h.pic_parameter_set_id active → written ≡ shape_of (active_in to number (unconstrained active)) (header_in to number idc h)
written_under to number idc sets h found shape written names is says active others = says active h number (under_named (λ a. shape ≡ shape_of a h) sets h.pic_parameter_set_id found names is active others)

-- it differs in its column at most
written_other : (to : Layer) (number idc : ℕ) (active : Active) (h : Header) (shape : SliceShape) → idc < 3 → shape ≡ shape_of (active_in to number (unconstrained active)) (header_in to number idc h) → IsOtherColumn (shape_of active h) shape
written_other to number idc active h shape few is = subst (IsOtherColumn (shape_of active h)) (sym is) (written_column to number idc active h few)

pub slice_put : (to : Layer) (init : InitTable) (number idc : ℕ) (active : Active) (h : Header) (mbs : List Mb) (shape : SliceShape) (start out after : List Bool) (payload : List ℕ) → idc < 3
    → shape ≡ shape_of (active_in to number (unconstrained active)) (header_in to number idc h) → start ≡ [] → Appended start out (header_text (active_in to number active) (header_in to number idc h))
    → IsDataWritten (IsNormalDataIn to init) to shape mbs out after → bits_of payload ≡ after → IsSliceWritten to init number idc (coded active h mbs) payload
slice_put to init number idc active h mbs shape start out after payload few is none put d bytes = record {
  goes_on = stops_of_both to (shape_of active h) shape mbs (written_other to number idc active h shape few is) ∙ d.goes_on;
  written = payload_written to init number idc active h mbs shape out after d.text payload is (header_written to number idc active h start out none put) d.is_text d.written bytes;
}

pub slice_not_put : (to : Layer) (number idc : ℕ) (active : Active) (h : Header) (mbs : List Mb) (shape : SliceShape) (fault : RewriteFault) → idc < 3 → shape ≡ shape_of (active_in to number (unconstrained active)) (header_in to number idc h)
    → IsNoDataWritten to shape mbs fault → IsNotWritten to (coded active h mbs) fault
slice_not_put to number idc active h mbs shape (Outside why) few is none = none
slice_not_put to number idc active h mbs shape (Stop case k) few is none = stops_of_both to (shape_of active h) shape mbs (written_other to number idc active h shape few is) ∙ none
slice_not_put to number idc active h mbs shape Memory few is none = tt

-- what holds of the shape that is written, of a slice under these sets
pub record MayBeWritten (to : Layer) (shape : SliceShape) (mbs : List Mb) : Type 0 where
  pub built : IsBuiltIn to shape
  pub slice : IsSlice shape mbs

pub may_write : (to : Layer) (number idc : ℕ) (sets : SetMaps) (active : Active) (h : Header) (mbs : List Mb) (shape : SliceShape) → idc < 3 → IsUnderSets to sets active h mbs
    → shape ≡ shape_of (active_in to number (unconstrained active)) (header_in to number idc h) → MayBeWritten to shape mbs
may_write to number idc sets active h mbs shape few u is =
    let o = written_other to number idc active h shape few is in
    record { built = built_of_both to (shape_of active h) shape o u.built; slice = slices_of_both (shape_of active h) shape mbs o.same o.column u.are }

-- a slice that was read names sets that its header fits
pub read_under : (init : InitTable) (sets : SetMaps) (header : ℕ) (bits : List Bool) (h : Header) (mbs : List Mb) → IsSliceRead init sets header bits h mbs → (active : Active) × Names sets h.pic_parameter_set_id active × HeaderFits active h
read_under init sets header bits h mbs r =
    let is = r.1 in
    let f = header-found sets header bits is.rest h is.header_is in
    let F : Active → Type 0 = λ a. HeaderFits a h in
    (r.0, is.names, subst F (names-once sets h.pic_parameter_set_id f.active r.0 f.names is.names) f.fits)

-- where it is built for a layer it may be written in it, with other macroblocks of its shape too
pub under_read : (to : Layer) (init : InitTable) (sets : SetMaps) (header : ℕ) (bits : List Bool) (h : Header) (mbs others : List Mb) → IsSliceRead init sets header bits h mbs
    → ((active : Active) → Names sets h.pic_parameter_set_id active → is_unbuilt to active h ≡ false) → ((active : Active) → Names sets h.pic_parameter_set_id active → IsSlice (shape_of active h) others)
    → (active : Active) × IsUnderSets to sets active h others
under_read to init sets header bits h mbs others r may are =
    let u = read_under init sets header bits h mbs r in
    (u.0, record { names = u.1; fits = u.2; built = wanted_built to u.0 h (may u.0 u.1); are = are u.0 u.1 })

pub may_be_written : (to : Layer) (init : InitTable) (sets : SetMaps) (header : ℕ) (bits : List Bool) (h : Header) (mbs : List Mb) → IsSliceRead init sets header bits h mbs
    → ((active : Active) → Names sets h.pic_parameter_set_id active → is_unbuilt to active h ≡ false) → (active : Active) × IsUnderSets to sets active h mbs
may_be_written to init sets header bits h mbs r may =
    let is = r.1 in
    let A : Active → Type 0 = λ a. IsSlice (shape_of a h) mbs in
    under_read to init sets header bits h mbs mbs r may (λ active names. subst A (names-once sets h.pic_parameter_set_id r.0 active is.names names) (slice_in_layer (layer_of r.0) (shape_of r.0 h) mbs is.list))

-- ## Reading and writing

pub no_copy : (HasData : SliceShape → List Mb → Type 0) (IsData : SliceShape → ℕ → List Mb → List Bool → Type 0) (to : Layer) (shape : SliceShape) (pos : ℕ) (left : List Bool) (fault : SliceFault)
    → Refuses HasData IsData shape pos left fault → IsNoCopy HasData IsData to shape pos left (fault_of_data fault)
no_copy HasData IsData to shape pos left NoReading h = (refl, h)

module _ {W S : Type 0} (HasData : SliceShape → List Mb → Type 0) (IsData IsWritten : SliceShape → ℕ → List Mb → List Bool → Type 0) (Writes : W → SliceShape → List Bool → List Mb → Type 0) (bits : S → List Bool) (to : Layer) where
  -- the end of the data that were read
  pub data_ended : (writer : W) (shape written_shape : SliceShape) (pos : ℕ) (all before : List Bool) (done : List Mb) (stop : Option (Case × ℕ)) (count : ℕ) (result : Result (S × ℕ) RewriteFault) → HasData shape done
      → IsData shape pos done all → least_stop to shape done ≡ stop → (stop ≡ None → Writes writer written_shape before (map (written_mb to) done)) → length done ≡ count → Ends Writes IsWritten bits writer stop count result
      → IfOk result (λ copy. IsCopy HasData IsData IsWritten to shape written_shape pos all before (bits copy.0) copy.1)
  data_ended writer shape written_shape pos all before done None count (Ok copy) has read stop_is writes counted e =
      let put = e.1 written_shape before (map (written_mb to) done) (writes refl) in
      record { mbs = done; list = has; read = read; goes_on = stop_is; text = put.0; is_text = put.1; written = put.2; counted = e.0 ∙ sym counted }
  data_ended writer shape written_shape pos all before done None count (Err fault) has read stop_is writes counted e = tt
  data_ended writer shape written_shape pos all before done (Some stop) count (Ok copy) has read stop_is writes counted e = absurd cc
  data_ended writer shape written_shape pos all before done (Some stop) count (Err fault) has read stop_is writes counted e = tt

  pub data_stopped : (writer : W) (shape : SliceShape) (pos : ℕ) (all : List Bool) (done : List Mb) (stop : Option (Case × ℕ)) (count : ℕ) (result : Result (S × ℕ) RewriteFault) → HasData shape done
      → IsData shape pos done all → least_stop to shape done ≡ stop → Ends Writes IsWritten bits writer stop count result → IfErr result (IsNoCopy HasData IsData to shape pos all)
  data_stopped writer shape pos all done None count (Ok copy) has read stop_is e = tt
  data_stopped writer shape pos all done None count (Err fault) has read stop_is e = subst (IsNoCopy HasData IsData to shape pos all) (sym e) tt
  data_stopped writer shape pos all done (Some stop) count result has read stop_is e =
      let P : Result _ RewriteFault → Type 0 = λ r. IfErr r (IsNoCopy HasData IsData to shape pos all) in
      subst P (sym e) (done, has, read, stop_is)

pub not_copied : (to : Layer) (init : InitTable) (sets : SetMaps) (header : ℕ) (bits : List Bool) (s : OpenSlice) (fault : RewriteFault) → IsOpened to sets header bits s → IsNoCopyIn (layer_of (sets_in s)) init to s.shape (length s.bits.taken) s.bits.left fault
    → IsSliceRefusal to init sets header bits fault
not_copied to init sets header bits s (Outside why) r none = data_refused to init sets header bits s why r none.0 none.1
not_copied to init sets header bits s (Stop case k) r none =
    (coded (sets_in s) s.header none.0, slice_opened to init sets header bits s none.0 r none.1 none.2, ap (λ x. least_stop to x none.0) (sym r.shape) ∙ none.3)
not_copied to init sets header bits s Memory r none = tt

pub copied : (to : Layer) (init : InitTable) (tries : Tries) (number idc : ℕ) (sets : SetMaps) (header : ℕ) (bits : List Bool) (s : OpenSlice) (shape : SliceShape) (start out after : List Bool) (payload : List ℕ) (count : ℕ) → IsTried tries idc → IsOpened to sets header bits s
    → shape ≡ shape_of (active_in to number (unconstrained (sets_in s))) (header_in to number idc s.header) → start ≡ [] → Appended start out (header_text (active_in to number (sets_in s)) (header_in to number idc s.header))
    → IsCopyIn (layer_of (sets_in s)) init (IsNormalDataIn to init) to s.shape shape (length s.bits.taken) s.bits.left out after count → bits_of payload ≡ after → IsSliceForm (whole_run to init tries) number sets header bits payload count
copied to init tries number idc sets header bits s shape start out after payload count tried r shape_is none put k bytes = record {
  slice = coded (sets_in s) s.header k.mbs;
  read = slice_opened to init sets header bits s k.mbs r k.list k.read;
  goes_on = ap (λ x. least_stop to x k.mbs) (sym r.shape) ∙ k.goes_on;
  idc = idc;
  tried = tried;
  written = payload_written to init number idc (sets_in s) s.header k.mbs shape out after k.text payload shape_is (header_written to number idc (sets_in s) s.header start out none put) k.is_text k.written bytes;
  count = k.counted;
}

-- the shape that a slice that was opened is written in
pub shape_written : (to : Layer) (number idc : ℕ) (sets : SetMaps) (header : ℕ) (bits : List Bool) (s : OpenSlice) (shape : SliceShape) → IsOpened to sets header bits s
    → shape ≡ shape_of (active_in to number (unconstrained (sets_in s))) (header_in to number idc s.header) → IsBuiltIn to shape
shape_written to number idc sets header bits s shape r is = subst (IsBuiltIn to) (sym is) (written_built to number idc (sets_in s) s.header r.built)

-- under the number by which slices in range name its set, a slice is written as one in range
pub written_under_own : (o : Options) (range : Option (ℕ × ℕ)) (sets : SetMaps) (header : ℕ) (bits : List Bool) (s : OpenSlice) (payload : List ℕ) (macroblocks : ℕ) → IsOpened o.to sets header bits s
    → (f : IsSliceForm o (number_in range s.header.pic_parameter_set_id) sets header bits payload macroblocks) → IsSliceBits o.init (slice_under o.to (number_in range f.slice.header.pic_parameter_set_id) f.idc f.slice) (bits_of payload)
written_under_own o range sets header bits s payload macroblocks r f =
    let same = (header-once sets header bits s.header f.slice.header s.bits.left f.read.rest r.text f.read.header_is).0 in
    let P : Header → Type 0 = λ h. IsSliceBits o.init (slice_under o.to (number_in range h.pic_parameter_set_id) f.idc f.slice) (bits_of payload) in
    subst P same f.written

pub refused_as : (to : Layer) (init : InitTable) (sets : SetMaps) (header : ℕ) (bits : List Bool) (fault : RewriteFault) → IsNotOpened to sets header bits fault → IsSliceRefusal to init sets header bits fault
refused_as to init sets header bits (Outside why) h = h init
refused_as to init sets header bits (Stop case k) h = absurd (h init)
refused_as to init sets header bits Memory h = tt
