-- The laws of the texts of headers, and of shapes.
use Rattle.std.proofs.Common.{◌≡◌, ℕ, ℤ, pos, negsuc, ◌+◌, ◌*◌, ◌/◌, ◌%◌, ◌<◌, ◌≤◌, Bool, true, false, cond, leb, ltb, eqb, List, ◌++◌, unsigned_abs, refl, sym, ◌∙◌, inl, inr, arith}
use Rattle.std.specs.Prelude.{◌||◌, ◌&&◌, not, ◌⊎◌, IsTrue}
use Rattle.std.proofs.Math.Nat.{mul-le-mul_left}
use Rattle.std.proofs.lemmas.Bool.{eqb-true}
use Rattle.std.proofs.lemmas.Bool.Decides.{nat_tests}
use Rattle.std.proofs.lemmas.Int.{ints}
use Rattle.std.specs.Int.RustNames.{int_le}
use Rattle.exp_golomb.specs.Code.{Flag, Ue}
use Rattle.exp_golomb.specs.Syntax.{Found}
use Rattle.exp_golomb.proofs.Fronts.{both, in_ue}
use Rattle.exp_golomb.proofs.Syntaxes.{one_outcome}
use Rattle.h264_types.specs.declared.layer.Layer.{Layer}
use Rattle.h264_types.specs.SliceShape.{IsSliceShape, HasRefs, most_refs, predicts_from}
use Rattle.h264_types.specs.declared.slice_shape.SliceKind.TheVariants.{I, P, B}
use Rattle.h264_types.proofs.ShapeLaws.{few_refs}
use Rattle.param_sets.proofs.Spelled.{same_found, ue_most}
use Rattle.param_sets.specs.PpsCodes.{mode_flag_of}
use Rattle.param_sets.specs.SequenceParameterSet.{width_of, height_of}
use Rattle.param_sets.specs.Sets.{SetMaps}
use Rattle.param_sets.specs.SpsCodes.{IsSps}
use Rattle.header_parts.specs.ActiveSets.{Active}
use Rattle.header_parts.specs.PartsOf.{references_of}
use Rattle.header_parts.specs.QuantisationAndFilter.{is_qp, slice_qp_y}
use Rattle.header_parts.specs.References.{active_l0, active_l1, most_active}
use Rattle.header_parts.specs.Refusal.{Refusal}
use Rattle.header_parts.specs.SliceTypes.{is_i, is_p, is_b, is_switching}
use Rattle.header_parts.specs.When.{IsInWhen}
use Rattle.header_parts.specs.declared.header.Header.{Header}
use Rattle.slice_header.specs.Shape.{shape_of}
use Rattle.slice_header.specs.SliceHeader.{slice_header, has_init}
use Rattle.slice_header.specs.HeaderCodes.{HeaderFits, HeaderText, IsAllowed, IsRefusedHeader, Names, active_in, header_in, header_text, unconstrained}
use Rattle.slice_header.proofs.HeaderFound.{header_spelled}

pub one_header : (sets : SetMaps) (nal : ℕ) (bits rest after : List Bool) (first second : Header) → HeaderText sets nal first bits rest → HeaderText sets nal second bits after → (first ≡ second) × (rest ≡ after)
one_header sets nal bits rest after first second h k = same_found first second rest after (Found first rest) refl (one_outcome (slice_header sets nal) bits _ _ h k)

pub refused_header : (sets : SetMaps) (nal : ℕ) (bits rest : List Bool) (cause : Refusal) (h : Header) → IsRefusedHeader sets nal cause bits → HeaderText sets nal h bits rest → ⊥
refused_header sets nal bits rest cause h refused text = let same = one_outcome (slice_header sets nal) bits _ _ refused text in cc

pub written_one : (sets : SetMaps) (nal : ℕ) (bits rest : List Bool) (h : Header) → HeaderText sets nal h bits rest
    → (active : Active) × Names sets h.pic_parameter_set_id active × IsAllowed active × HeaderFits active h × (h.nal ≡ nal) × (bits ≡ header_text active h ++ rest)
written_one sets nal bits rest h text =
    let f = header_spelled sets nal h bits rest text in
    (f.0, f.1.names, f.1.allowed, f.1.fits, f.1.nal_is, f.1.text)

chosen_in : (b : Bool) (idc : ℕ) → idc < 3 → IsInWhen b (Ue 2) 0 (cond b idc 0)
chosen_in true idc few = in_ue 2 idc (omega (arith, few)) (omega arith)
chosen_in false idc few = refl

pub moved : (active : Active) (h : Header) (layer : Layer) (number idc : ℕ) → number < 256 → idc < 3 → HeaderFits active h → HeaderFits (active_in layer number active) (header_in layer number idc h)
moved active h layer number idc small few fits =
    record {
      first_mb_in_slice = fits.first_mb_in_slice;
      slice_type = fits.slice_type;
      in_scope = fits.in_scope;
      pic_parameter_set_id = omega (arith, small);
      picture = fits.picture;
      order = record {
        pic_order_cnt_lsb = fits.order.pic_order_cnt_lsb;
        delta_pic_order_cnt_bottom = fits.order.delta_pic_order_cnt_bottom;
        count = fits.order.count;
        delta_pic_order_cnt = fits.order.delta_pic_order_cnt;
      };
      references = record {
        direct_spatial_mv_pred_flag = fits.references.direct_spatial_mv_pred_flag;
        num_ref_idx_active_override_flag = fits.references.num_ref_idx_active_override_flag;
        num_ref_idx_l0_active_minus1 = fits.references.num_ref_idx_l0_active_minus1;
        num_ref_idx_l1_active_minus1 = fits.references.num_ref_idx_l1_active_minus1;
        few = fits.references.few;
      };
      lists = record {
        modification_l0 = fits.lists.modification_l0;
        modification_l1 = fits.lists.modification_l1;
        pred_weight_table = fits.lists.pred_weight_table;
      };
      marking = fits.marking;
      cabac_init_idc = chosen_in (mode_flag_of layer && not (is_i h.slice_type)) idc few;
      slice_qp_delta = fits.slice_qp_delta;
      slice_qp = fits.slice_qp;
      filter = fits.filter;
    }

pub in_range_unconstrained : (active : Active) (h : Header) → HeaderFits active h → HeaderFits (unconstrained active) h
in_range_unconstrained active h fits =
    record {
      first_mb_in_slice = fits.first_mb_in_slice;
      slice_type = fits.slice_type;
      in_scope = fits.in_scope;
      pic_parameter_set_id = fits.pic_parameter_set_id;
      picture = record { frame_num = fits.picture.frame_num; field_pic_flag = fits.picture.field_pic_flag; bottom_field_flag = fits.picture.bottom_field_flag; idr_pic_id = fits.picture.idr_pic_id };
      order = record {
        pic_order_cnt_lsb = fits.order.pic_order_cnt_lsb;
        delta_pic_order_cnt_bottom = fits.order.delta_pic_order_cnt_bottom;
        count = fits.order.count;
        delta_pic_order_cnt = fits.order.delta_pic_order_cnt;
      };
      references = fits.references;
      lists = fits.lists;
      marking = fits.marking;
      cabac_init_idc = fits.cabac_init_idc;
      slice_qp_delta = fits.slice_qp_delta;
      slice_qp = fits.slice_qp;
      filter = fits.filter;
    }

pub same_text : (active : Active) (h : Header) → header_text (unconstrained active) h ≡ header_text active h
unfolding header_text
same_text active h = refl

-- ---- shapes

neither : (a b : Bool) → (a || b) ≡ false → (a ≡ false) × (b ≡ false)
neither true b h = absurd cc
neither false b h = (refl, h)

not_above : (n m : ℕ) → ltb n m ≡ false → m ≤ n
not_above n m h = grind (arith, nat_tests)

qp_most : (qp : ℤ) → is_qp qp ≡ true → unsigned_abs qp ≤ 51
qp_most (pos n) h = let k = both (int_le (pos 0) (pos n)) (int_le (pos n) (pos 51)) h in grind (arith, ints)
qp_most (negsuc n) h = let k = both (int_le (pos 0) (negsuc n)) (int_le (negsuc n) (pos 51)) h in absurd (grind (arith, ints))

column_most : (b i : Bool) (idc : ℕ) → IsInWhen b (Ue 2) 0 idc → cond i 0 (idc + 1) ≤ 3
column_most b true idc h = omega arith
column_most true false idc h = let most = ue_most 2 idc h in omega (arith, most)
column_most false false idc h = rw h (omega arith)

-- of a frame of whole pairs, and the top of one
whole_pairs : (adaptive field only : Bool) (n first : ℕ) → (only ≡ true → adaptive ≡ false) → (adaptive && not field) ≡ true
    → (field ≡ false) × (cond field (cond only 1 2 * (n + 1) / 2) (cond only 1 2 * (n + 1)) % 2 ≡ 0) × (cond (adaptive && not field) (2 * first) first % 2 ≡ 0)
whole_pairs false field only n first h e = absurd cc
whole_pairs true true only n first h e = absurd cc
whole_pairs true false true n first h e = absurd (let bad = h refl in cc)
whole_pairs true false false n first h e = (refl, omega arith, omega arith)

field_only : (only field : Bool) → IsInWhen (not only) Flag false field → field ≡ true → only ≡ false
field_only true field h e = absurd (let bad : false ≡ true = sym h ∙ e in cc)
field_only false field h e = refl

some_height : (field only : Bool) (n : ℕ) → (field ≡ true → only ≡ false) → 1 ≤ cond field (cond only 1 2 * (n + 1) / 2) (cond only 1 2 * (n + 1))
some_height true true n h = absurd (let bad = h refl in cc)
some_height true false n h = omega arith
some_height false true n h = omega arith
some_height false false n h = omega arith

profile_is : (p : ℕ) (a b c d e f : Bool) → a ≡ eqb p 77 → b ≡ eqb p 100 → (a || (b && c && d && e && f)) ≡ true → (p ≡ 77) ⊎ (p ≡ 100)
profile_is p true b c d e f main high h = inl (eqb-true p 77 (sym main))
profile_is p false true c d e f main high h = inr (eqb-true p 100 (sym high))
profile_is p false false c d e f main high h = absurd cc

smaller : (b : Bool) (width height : ℕ) → width * height ≤ 139264 → width * cond b (height / 2) height ≤ 139264
smaller true width height h = let half : height / 2 ≤ height = omega arith in let m = mul-le-mul_left width half in omega (arith, h, m)
smaller false width height h = h

-- in_force is 1 and more: of list 0 where there is one, and of list 1 in the slices that are left
some_l0 : (i p : Bool) (sent : ℕ) → IsTrue (predicts_from (cond i I (cond p P B)) 0) → 1 ≤ cond i 0 (sent + 1)
some_l0 true p sent h = absurd cc
some_l0 false p sent h = omega arith

some_l1 : (i p b : Bool) (sent : ℕ) → (i ≡ false → p ≡ false → b ≡ true) → IsTrue (predicts_from (cond i I (cond p P B)) 1) → 1 ≤ cond b (sent + 1) 0
some_l1 true p b sent is h = absurd cc
some_l1 false true b sent is h = absurd cc
some_l1 false false true sent is h = omega arith
some_l1 false false false sent is h = absurd (let bad : false ≡ true = is refl refl in cc)

is_b_else : (slice_type : ℕ) → is_switching slice_type ≡ false → is_i slice_type ≡ false → is_p slice_type ≡ false → is_b slice_type ≡ true
is_b_else slice_type scope i p = grind (arith, nat_tests)

-- ---- active references

few_in : (field : Bool) (n : ℕ) → leb n (most_active field) ≡ true → n ≤ most_refs field
few_in true n h = grind (arith, nat_tests)
few_in false n h = grind (arith, nat_tests)

refs_l0 : (active : Active) (h : Header) → HeaderFits active h → HasRefs (shape_of active h) 0
refs_l0 active h fits =
    let few = both (leb (active_l0 active.pps h.slice_type (references_of h)) (most_active h.field_pic_flag)) (leb (active_l1 active.pps h.slice_type (references_of h)) (most_active h.field_pic_flag)) fits.references.few in
    record {
      some = some_l0 (is_i h.slice_type) (is_p h.slice_type) (cond h.num_ref_idx_active_override_flag h.num_ref_idx_l0_active_minus1 active.pps.num_ref_idx_l0_default_active_minus1);
      few = few_in h.field_pic_flag _ few.0;
    }

refs_l1 : (active : Active) (h : Header) → HeaderFits active h → HasRefs (shape_of active h) 1
refs_l1 active h fits =
    let few = both (leb (active_l0 active.pps h.slice_type (references_of h)) (most_active h.field_pic_flag)) (leb (active_l1 active.pps h.slice_type (references_of h)) (most_active h.field_pic_flag)) fits.references.few in
    record {
      some = some_l1 (is_i h.slice_type) (is_p h.slice_type) (is_b h.slice_type) (cond h.num_ref_idx_active_override_flag h.num_ref_idx_l1_active_minus1 active.pps.num_ref_idx_l1_default_active_minus1)
          (is_b_else h.slice_type fits.in_scope);
      few = few_in h.field_pic_flag _ few.1;
    }

pub shape_fits : (active : Active) (h : Header) → IsSps active.sps → HeaderFits active h → IsSliceShape (shape_of active h)
shape_fits active h sps fits =
    let limits = neither (ltb 1055 (width_of active.sps)) (ltb 139264 (width_of active.sps * height_of active.sps)) sps.within_limits in
    record {
      some = (omega arith, some_height h.field_pic_flag active.sps.frame_mbs_only_flag active.sps.pic_height_in_map_units_minus1 (field_only active.sps.frame_mbs_only_flag h.field_pic_flag fits.picture.field_pic_flag));
      width = not_above 1055 (width_of active.sps) limits.0;
      size = smaller h.field_pic_flag (width_of active.sps) (height_of active.sps) (not_above 139264 (width_of active.sps * height_of active.sps) limits.1);
      pairs = whole_pairs active.sps.mb_adaptive_frame_field_flag h.field_pic_flag active.sps.frame_mbs_only_flag active.sps.pic_height_in_map_units_minus1 h.first_mb_in_slice sps.fits.size.mb_adaptive_frame_field_flag;
      profile = profile_is active.sps.profile_idc (eqb active.sps.profile_idc 77) (eqb active.sps.profile_idc 100) (eqb active.sps.chroma_format_idc 1) (eqb active.sps.bit_depth_luma_minus8 0) (eqb active.sps.bit_depth_chroma_minus8 0)
          (not active.sps.qpprime_y_zero_transform_bypass_flag) refl refl sps.in_profile;
      qp = qp_most (slice_qp_y active.pps h.slice_qp_delta) fits.slice_qp;
      column = column_most (has_init active.pps h.slice_type) (is_i h.slice_type) h.cabac_init_idc fits.cabac_init_idc;
      l0 = refs_l0 active h fits;
      l1 = refs_l1 active h fits;
    }

pub references_fit : (active : Active) (h : Header) → HeaderFits active h → (active_l0 active.pps h.slice_type (references_of h) ≤ 32) × (active_l1 active.pps h.slice_type (references_of h) ≤ 32)
references_fit active h fits = (few_refs (shape_of active h) 0 (refs_l0 active h fits), few_refs (shape_of active h) 1 (refs_l1 active h fits))
