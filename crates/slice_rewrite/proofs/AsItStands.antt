-- What is written for a slice that stands as it is written.
use Rattle.std.proofs.Common.{◌≡◌, ℕ, suc, ◌+◌, ◌-◌, ◌<◌, Bool, true, false, List, [], ◌∷◌, ◌++◌, length, get_or, map, take, drop, replicate, Some, None, refl, sym, ap, subst, ◌∙◌, arith, append-nil, append_assoc, length-append}
use Rattle.std.specs.Prelude.{All, if◌then◌else◌, slice_get}
use Rattle.std.proofs.Math.ListN.{drop_of_length-le}
use Rattle.std.proofs.Math.Seq.{drop-append_seam}
use Rattle.std.proofs.lemmas.List.{append_cancel_right, replicate-append-replicate, take_more, take-append-drop}
use Rattle.std.proofs.lemmas.Option.{get_or_from_slice_get, slice_get_within}
use Rattle.bit_texts.proofs.Bytes.{bits_of-append, bits_of-cons}
use Rattle.bit_texts.proofs.Numbers.{binary-zero, length-binary, same_from_binary}
use Rattle.bit_texts.specs.Bits.{binary, bits_of}
use Rattle.cabac_syntax.proofs.NormalLaws.{EndsInData, normal_data}
use Rattle.h264_types.specs.declared.layer.Layer.{Layer}
use Rattle.h264_types.specs.declared.layer.Layer.TheVariants.{Cavlc, Cabac}
use Rattle.h264_types.specs.declared.macroblock.Mb.{Mb}
use Rattle.h264_types.specs.declared.slice_shape.SliceShape.{SliceShape}
use Rattle.header_parts.specs.ActiveSets.{Active}
use Rattle.header_parts.specs.declared.header.Header.{Header}
use Rattle.init_table.specs.declared.table.InitTable.{InitTable}
use Rattle.param_sets.specs.PpsCodes.{mode_flag_of}
use Rattle.param_sets.specs.Sets.{SetMaps}
use Rattle.pattern_fix.specs.NormalPattern.{IsEmptied}
use Rattle.slice_data.specs.WrittenForm.{written_mb}
use Rattle.slice_header.proofs.HeaderLaws.{written_one}
use Rattle.slice_header.specs.HeaderCodes.{active_in, header_in, header_text, unconstrained}
use Rattle.slice_header.specs.Shape.{shape_of}
use Rattle.slice_rewrite.specs.Layers.{layer_of, HasDataIn, IsDataIn, IsNormalDataIn}
use Rattle.slice_rewrite.specs.Options.{whole_run}
use Rattle.slice_rewrite.specs.SliceForms.{IsNoDataRead, IsOpened, IsSliceForm, IsSliceRefusal, coded, sets_in}
use Rattle.slice_rewrite.specs.Standing.{AreDataAsWritten, IsAsWritten, IsHeaderAsWritten}
use Rattle.slice_rewrite.specs.Stops.{least_stop, stop_from, stop_or}
use Rattle.slice_rewrite.specs.declared.fault.RewriteFault.{RewriteFault}
use Rattle.slice_rewrite.specs.declared.fault.RewriteFault.TheVariants.{Outside, Stop, Memory}
use Rattle.slice_rewrite.specs.declared.opening.OpenSlice.{OpenSlice}
use Rattle.slice_rewrite.specs.declared.pick.Tries.TheVariants.{One}
use Rattle.slice_rewrite.proofs.SliceForms.{data_refused, payload_written, slice_opened}
use Rattle.slice_rewrite.proofs.Slices.{names-once}
use Rattle.slice_rewrite.proofs.Stops.{stops_by_levels, stops_without_levels}

-- ## The last byte

same_tail : (p q front tail : List Bool) → length q ≡ length tail → p ++ q ≡ front ++ tail → q ≡ tail
same_tail p q front tail n e =
    let lens : length p ≡ length front = omega (arith, ap length e, length-append p q, length-append front tail, n) in
    sym (drop-append_seam p q) ∙ ap (drop (length p)) e ∙ ap (λ k. drop k (front ++ tail)) lens ∙ drop-append_seam front tail

-- bytes that end in a zero word end in a byte 0
pub last_byte : (bytes : List ℕ) (last : ℕ) (front : List Bool) → slice_get bytes (length bytes - 1) ≡ Some last → last < 256 → bits_of bytes ≡ front ++ replicate 16 false → last ≡ 0
last_byte bytes last front got small e =
    let k = length bytes - 1 in
    let within : k < length bytes = slice_get_within bytes k last got in
    let item : get_or bytes k 0 ≡ last = get_or_from_slice_get bytes k last 0 got in
    let whole : take k bytes ++ last ∷ [] ≡ bytes =
    ap (λ x. take k bytes ++ x ∷ []) (sym item) ∙ sym (take_more bytes k 0 within) ∙ sym (append-nil (take (k + 1) bytes)) ∙ ap (λ z. take (k + 1) bytes ++ z) (sym (drop_of_length-le bytes (omega (arith, within)))) ∙ take-append-drop (k + 1) bytes in
    let bits : bits_of (take k bytes) ++ binary 8 last ≡ (front ++ replicate 8 false) ++ binary 8 0 =
    ap (λ z. bits_of (take k bytes) ++ z) (sym (append-nil (binary 8 last)) ∙ sym (bits_of-cons last [])) ∙ sym (bits_of-append (take k bytes) (last ∷ [])) ∙ ap bits_of whole ∙ e
    ∙ ap (λ z. front ++ z) (sym (replicate-append-replicate 8 8 false)) ∙ sym (append_assoc front (replicate 8 false) (replicate 8 false)) ∙ ap (λ z. (front ++ replicate 8 false) ++ z) (sym (binary-zero 8)) in
    same_from_binary 8 last 0 (omega (arith, small)) (omega arith) (same_tail (bits_of (take k bytes)) (binary 8 last) (front ++ replicate 8 false) (binary 8 0) (length-binary 8 last ∙ sym (length-binary 8 0)) bits)

-- ## Data in their normal form

normal_data_in : (to : Layer) (init : InitTable) (shape : SliceShape) (pos : ℕ) (mbs : List Mb) (bits : List Bool) → All (IsAsWritten to) mbs → EndsInData bits → IsDataIn to init shape pos mbs bits → IsNormalDataIn to init shape pos mbs bits
normal_data_in Cavlc init shape pos mbs bits all ends is = is
normal_data_in Cabac init shape pos mbs bits all ends is = normal_data init shape pos mbs bits (λ k d below. (all k d below).one_form refl) ends is

-- ## Macroblocks in their written form

same_list : (to : Layer) (mbs : List Mb) → All (IsAsWritten to) mbs → map (written_mb to) mbs ≡ mbs
same_list to [] all = refl
same_list to (mb ∷ mbs) all = ap (λ m. m ∷ map (written_mb to) mbs) (all 0 mb (omega arith)).form ∙ ap (λ l. mb ∷ l) (same_list to mbs (λ k d below. all (suc k) d (omega (arith, below))))

none_stops : (shape : SliceShape) (k : ℕ) (mbs : List Mb) → All (λ mb. IsEmptied mb → ⊥) mbs → stop_from Cabac shape k mbs ≡ None
none_stops shape k [] all = refl
none_stops shape k (mb ∷ mbs) all =
    ap (λ s. stop_or s k (stop_from Cabac shape (k + 1) mbs)) (stops_by_levels Cabac shape mb false (all 0 mb (omega arith)) refl) ∙ none_stops shape (k + 1) mbs (λ j d below. all (suc j) d (omega (arith, below)))

goes_on : (to : Layer) (shape : SliceShape) (mbs : List Mb) → HasDataIn to shape mbs → All (IsAsWritten to) mbs → least_stop to shape mbs ≡ None
goes_on Cavlc shape mbs has all = stops_without_levels shape mbs has ∙ none_stops shape 0 mbs (λ k d below. (all k d below).kept)
goes_on Cabac shape mbs has all = none_stops shape 0 mbs (λ k d below. (all k d below).kept)

-- ## The header

flag_of : (b : Bool) (to : Layer) → (if b then Cabac else Cavlc) ≡ to → mode_flag_of to ≡ b
flag_of true to e = ap mode_flag_of (sym e)
flag_of false to e = ap mode_flag_of (sym e)

layer_by : (to : Layer) (active : Active) → active.pps.entropy_coding_mode_flag ≡ mode_flag_of to → layer_of active ≡ to
layer_by Cavlc active e = ap (λ b. if b then Cabac else Cavlc) e
layer_by Cabac active e = ap (λ b. if b then Cabac else Cavlc) e

-- the header is as it is written where its layer, its number and its cabac_init_idc are
pub header_stands : (to : Layer) (number idc : ℕ) (s : OpenSlice) → (sets_in s).pps.entropy_coding_mode_flag ≡ mode_flag_of to → s.header.pic_parameter_set_id ≡ number → s.header.cabac_init_idc ≡ (header_in to number idc s.header).cabac_init_idc
    → IsHeaderAsWritten to number idc s
header_stands to number idc s flag same idc_same = record {
  layer = layer_by to (sets_in s) flag;
  header = ap (λ n. let h : Header = record s.header { pic_parameter_set_id = n; cabac_init_idc = (header_in to number idc s.header).cabac_init_idc } in h) (sym same)
      ∙ ap (λ n. let h : Header = record s.header { cabac_init_idc = n } in h) (sym idc_same);
}

with_flag : ℕ → Active → Bool → Active
with_flag number active flag = record active { pps = record active.pps { pic_parameter_set_id = number; entropy_coding_mode_flag = flag } }

same_text : (number : ℕ) (active : Active) (h : Header) → header_text (with_flag number (unconstrained active) active.pps.entropy_coding_mode_flag) h ≡ header_text active h
unfolding header_text with_flag
same_text number active h = refl

text_stands : (to : Layer) (number idc : ℕ) (active : Active) (h : Header) → layer_of active ≡ to → header_in to number idc h ≡ h → header_text (active_in to number (unconstrained active)) (header_in to number idc h) ≡ header_text active h
unfolding with_flag
text_stands to number idc active h layer same =
    ap (header_text (active_in to number (unconstrained active))) same
    ∙ ap (λ flag. header_text (with_flag number (unconstrained active) flag) h) (flag_of active.pps.entropy_coding_mode_flag to layer)
    ∙ same_text number active h

-- the bits of a header that was read are its text
text_read : (to : Layer) (sets : SetMaps) (header : ℕ) (bits : List Bool) (s : OpenSlice) → IsOpened to sets header bits s → s.bits.taken ≡ header_text (sets_in s) s.header
text_read to sets header bits s r =
    let one = written_one sets header bits s.bits.left s.header r.text in
    let same = names-once sets s.header.pic_parameter_set_id one.0 (sets_in s) one.1 r.names in
    append_cancel_right s.bits.taken (header_text (sets_in s) s.header) s.bits.left (r.kept ∙ one.5 ∙ ap (λ a. header_text a s.header ++ s.bits.left) same)

-- ## The slice

pub stands : (to : Layer) (init : InitTable) (number idc : ℕ) (sets : SetMaps) (header : ℕ) (bits : List Bool) (s : OpenSlice) (payload : List ℕ) (count : ℕ) → idc < 3 → IsOpened to sets header bits s → IsHeaderAsWritten to number idc s
    → AreDataAsWritten (HasDataIn (layer_of (sets_in s))) (IsDataIn (layer_of (sets_in s)) init) to s.shape (length s.bits.taken) s.bits.left count → EndsInData bits → bits_of payload ≡ bits
    → IsSliceForm (whole_run to init (One idc)) number sets header bits payload count
stands to init number idc sets header bits s payload count few r h d ends bytes =
    let H : Layer → Type 0 = λ layer. HasDataIn layer s.shape d.mbs in
    let D : Layer → Type 0 = λ layer. IsDataIn layer init s.shape (length s.bits.taken) d.mbs s.bits.left in
    let left_ends : EndsInData s.bits.left = λ front e. ends (s.bits.taken ++ front) (sym r.kept ∙ ap (λ b. s.bits.taken ++ b) e ∙ sym (append_assoc s.bits.taken front (replicate 16 false))) in
    let N : List Mb → Type 0 = λ mbs. IsNormalDataIn to init s.shape (length s.bits.taken) mbs s.bits.left in
    let normal = subst N (sym (same_list to d.mbs d.all)) (normal_data_in to init s.shape (length s.bits.taken) d.mbs s.bits.left d.all left_ends (subst D h.layer d.read)) in
    record {
      slice = coded (sets_in s) s.header d.mbs;
      read = slice_opened to init sets header bits s d.mbs r d.list d.read;
      goes_on = ap (λ x. least_stop to x d.mbs) (sym r.shape) ∙ goes_on to s.shape d.mbs (subst H h.layer d.list) d.all;
      idc = idc;
      tried = (few, refl);
      written = payload_written to init number idc (sets_in s) s.header d.mbs s.shape s.bits.taken (s.bits.taken ++ s.bits.left) s.bits.left payload
          (r.shape ∙ sym (ap (shape_of (active_in to number (unconstrained (sets_in s)))) h.header))
          (text_read to sets header bits s r ∙ sym (text_stands to number idc (sets_in s) s.header h.layer h.header)) normal refl (bytes ∙ sym r.kept);
      count = d.counted;
    }

pub none_stands : (to : Layer) (init : InitTable) (sets : SetMaps) (header : ℕ) (bits : List Bool) (s : OpenSlice) (fault : RewriteFault) → IsOpened to sets header bits s
    → IsNoDataRead (HasDataIn (layer_of (sets_in s))) (IsDataIn (layer_of (sets_in s)) init) s.shape (length s.bits.taken) s.bits.left fault → IsSliceRefusal to init sets header bits fault
none_stands to init sets header bits s (Outside why) r h = data_refused to init sets header bits s why r h.0 h.1
none_stands to init sets header bits s (Stop case k) r h = absurd h
none_stands to init sets header bits s Memory r h = tt
