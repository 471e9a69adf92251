-- Whole headers: what is read is in range under the sets it names, and has its text; and the text is read again.
use Rattle.std.proofs.Common.{◌≡◌, ℕ, ℤ, ◌≤◌, Bool, true, false, List, [], ◌∷◌, ◌++◌, Option, Some, None, Result, Ok, Err, refl, sym, ap, subst, ◌∙◌, arith, append_assoc}
use Rattle.std.specs.Prelude.{IfOk}
use Rattle.exp_golomb.specs.Code.{Ue, ue, se}
use Rattle.exp_golomb.specs.Syntax.{Syntax, Done, Outcome, Found, Spells, outcome_of, Answers, ◌>>=◌, joined}
use Rattle.exp_golomb.proofs.Fronts.{in_ue}
use Rattle.exp_golomb.proofs.Syntaxes.{spelled}
use Rattle.exp_golomb.proofs.Written.{element_again, done_again, not_refused, part_again}
use Rattle.param_sets.proofs.SetLaws.{nothing_spelled}
use Rattle.param_sets.proofs.Spelled.{found_then, found_allowed, same_found, Begins, begins, begins_then, begins_last, ue_most}
use Rattle.param_sets.specs.Sets.{SetMaps, find_pps, find_sps}
use Rattle.header_parts.specs.ActiveSets.{Active}
use Rattle.header_parts.specs.declared.active_sets.ActiveSets.{ActiveSets}
use Rattle.slice_header.specs.Views.{without_sets}
use Rattle.header_parts.specs.PartsOf.{picture_of, order_of, references_of, lists_of, marking_of, filter_of}
use Rattle.header_parts.specs.Picture.{picture_number, picture_order, picture_text, order_text, PictureFits, OrderFits, IsDelta}
use Rattle.header_parts.specs.QuantisationAndFilter.{slice_qp_y, is_qp, slice_qp, deblocking, deblocking_text, DeblockingFits}
use Rattle.header_parts.specs.ReferenceLists.{reference_lists, lists_text, ListsFit}
use Rattle.header_parts.specs.References.{active_references, references_text, ReferencesFit}
use Rattle.header_parts.specs.Refusal.{Refusal, OutsideProfile, NoPps, NoSps, header_says}
use Rattle.header_parts.specs.RefPicMarking.{dec_ref_pic_marking, marking_text, MarkingFits}
use Rattle.header_parts.specs.SliceTypes.{is_switching}
use Rattle.header_parts.specs.When.{element_when, code_when, IsInWhen}
use Rattle.header_parts.specs.declared.fault.HeaderFault.{HeaderFault}
use Rattle.header_parts.specs.declared.fault.HeaderFault.TheVariants.{NoReading, MissingPps, MissingSps, Profile, Memory}
use Rattle.header_parts.specs.declared.header.Header.{Header}
use Rattle.header_parts.specs.declared.parts.PictureNumber.{PictureNumber}
use Rattle.header_parts.specs.declared.parts.PictureOrder.{PictureOrder}
use Rattle.header_parts.specs.declared.parts.ActiveReferences.{ActiveReferences}
use Rattle.header_parts.specs.declared.parts.ReferenceLists.{ReferenceLists}
use Rattle.header_parts.specs.declared.parts.Marking.{Marking}
use Rattle.header_parts.specs.declared.parts.Deblocking.{Deblocking}
use Rattle.header_parts.proofs.PartTexts.{when_spelled, when_again, picture_spelled, picture_again, order_spelled, order_again, qp_spelled, qp_again, filter_spelled, filter_again}
use Rattle.header_parts.proofs.MarkingTexts.{marking_spelled, marking_again}
use Rattle.header_parts.proofs.ReferenceTexts.{references_spelled, references_again, lists_spelled, lists_again}
use Rattle.slice_header.specs.SliceHeader.{Start, known, breaks_main, active_sets, slice_start, has_init, after_start, slice_header}
use Rattle.slice_header.specs.HeaderCodes.{start_text, header_text, HeaderFits, Names, IsUnder, IsAllowed, HeaderText, ReadsHeader}

-- ---- the sets that are named

known_spelled : {A B : Type 0} (o : Option A) (missing : Refusal) (next : A → Syntax Refusal B) (bits : List Bool) (value : B) (rest : List Bool) → Spells (known o missing >>= next) bits (Found value rest)
    → (set : A) × (o ≡ Some set) × Spells (next set) bits (Found value rest)
known_spelled None missing next bits value rest h = absurd cc
known_spelled (Some set) missing next bits value rest h = (set, refl, h)

known_again : {A B : Type 0} (o : Option A) (set : A) (missing : Refusal) (next : A → Syntax Refusal B) (bits : List Bool) → o ≡ Some set → outcome_of (known o missing >>= next) bits ≡ outcome_of (next set) bits
known_again o set missing next bits h = rw h refl

record AreActive (sets : SetMaps) (number : ℕ) (active : Active) : Type 0 where
  names : Names sets number active
  in_profile : breaks_main active ≡ false

active_spelled : (sets : SetMaps) (number : ℕ) (bits : List Bool) (active : Active) (rest : List Bool) → Spells (active_sets sets number) bits (Found active rest) → AreActive sets number active × (bits ≡ rest)
unfolding active_sets
active_spelled sets number bits active rest h =
    let p = known_spelled (find_pps number sets) (NoPps number) _ bits active rest h in
    let s = known_spelled (find_sps p.0.seq_parameter_set_id sets) (NoSps p.0.seq_parameter_set_id) _ bits active rest p.2 in
    let allowed = found_allowed {E = Refusal} {A = Active} (breaks_main (record { sps = s.0; pps = p.0 })) OutsideProfile _ bits active rest s.2 in
    let same = same_found active (record { sps = s.0; pps = p.0 }) rest bits (Found active rest) refl allowed.1 in
    done _ _ same.0 same.1 (record { names = record { pps = p.1; sps = s.1 }; in_profile = allowed.0 }, refl)
  where
    done : (found : Active) (tail : List Bool) → active ≡ found → rest ≡ tail → AreActive sets number found × (bits ≡ tail) → AreActive sets number active × (bits ≡ rest)
    done found tail e k so = rw (e, k) so

active_again : (sets : SetMaps) (number : ℕ) (active : Active) (bits : List Bool) → AreActive sets number active → outcome_of (active_sets sets number) bits ≡ Found active bits
unfolding active_sets
active_again sets number active bits h =
    known_again (find_pps number sets) active.pps _ _ bits h.names.pps
    ∙ known_again (find_sps active.pps.seq_parameter_set_id sets) active.sps _ _ bits h.names.sps
    ∙ not_refused _ _ _ bits h.in_profile
    ∙ done_again active bits

-- ---- the start

abbrev numbers : ℕ → ℕ → ℕ → List Bool
numbers first slice_type number = joined (ue first ∷ ue slice_type ∷ ue number ∷ [])

record StartFound (sets : SetMaps) (bits : List Bool) (start : Start) (rest : List Bool) : Type 0 where
  first_mb_in_slice : start.first_mb_in_slice ≤ 139263
  slice_type : start.slice_type ≤ 9
  pic_parameter_set_id : start.pic_parameter_set_id ≤ 255
  in_scope : is_switching start.slice_type ≡ false
  active : AreActive sets start.pic_parameter_set_id start.active
  text : Begins (numbers start.first_mb_in_slice start.slice_type start.pic_parameter_set_id) bits rest

start_spelled : (sets : SetMaps) (bits : List Bool) (start : Start) (rest : List Bool) → Spells (slice_start sets) bits (Found start rest) → StartFound sets bits start rest
unfolding slice_start
start_spelled sets bits start rest h =
    let slice_type = h.4 in
    let scope = found_allowed {E = Refusal} {A = Start} (is_switching slice_type.0) OutsideProfile _ slice_type.1 start rest slice_type.4 in
    let number = scope.1 in
    let a = found_then (active_sets sets number.0) _ number.1 start rest number.4 in
    let active = active_spelled sets number.0 number.1 a.0 a.1 a.2 in
    let same = same_found start _ rest _ (Found start rest) refl a.3 in
    done _ _ same.0 same.1 (record {
      first_mb_in_slice = ue_most 139263 h.0 h.2;
      slice_type = ue_most 9 slice_type.0 slice_type.2;
      pic_parameter_set_id = ue_most 255 number.0 number.2;
      in_scope = scope.0;
      active = active.0;
      text = begins_then (begins h.3) (begins_then (begins slice_type.3) (begins_last (begins (number.3 ∙ ap (λ t. ue number.0 ++ t) active.1))));
    })
  where
    done : (found : Start) (tail : List Bool) → start ≡ found → rest ≡ tail → StartFound sets bits found tail → StartFound sets bits start rest
    done found tail e k so = rw (e, k) so

start_again : (sets : SetMaps) (start : Start) (rest : List Bool) → start.first_mb_in_slice ≤ 139263 → start.slice_type ≤ 9 → start.pic_parameter_set_id ≤ 255 → is_switching start.slice_type ≡ false → AreActive sets start.pic_parameter_set_id start.active
    → outcome_of (slice_start sets) (numbers start.first_mb_in_slice start.slice_type start.pic_parameter_set_id ++ rest) ≡ Found start rest
unfolding slice_start
start_again sets start rest first slice_type number in_scope active =
    simp append_assoc (
    element_again (Ue 139263) _ start.first_mb_in_slice _ (in_ue 139263 _ first (omega arith))
    ∙ element_again (Ue 9) _ start.slice_type _ (in_ue 9 _ slice_type (omega arith))
    ∙ not_refused _ _ _ _ in_scope
    ∙ element_again (Ue 255) _ start.pic_parameter_set_id _ (in_ue 255 _ number (omega arith))
    ∙ part_again (active_sets sets start.pic_parameter_set_id) _ start.active _ _ (active_again sets start.pic_parameter_set_id start.active rest active)
    ∙ done_again start rest)

-- ---- what follows

abbrev after_text : Active → Header → List Bool
after_text active h = joined (
    picture_text active.sps h.nal (picture_of h)
    ∷ order_text active h.field_pic_flag (order_of h)
    ∷ references_text h.slice_type (references_of h)
    ∷ lists_text h.slice_type (lists_of h)
    ∷ marking_text h.nal (marking_of h)
    ∷ code_when (has_init active.pps h.slice_type) (Ue 2) h.cabac_init_idc
    ∷ se h.slice_qp_delta
    ∷ deblocking_text active.pps.deblocking_filter_control_present_flag (filter_of h)
    ∷ [])

record AfterFound (nal : ℕ) (start : Start) (bits : List Bool) (h : Header) (rest : List Bool) : Type 0 where
  nal_is : h.nal ≡ nal
  first_is : h.first_mb_in_slice ≡ start.first_mb_in_slice
  type_is : h.slice_type ≡ start.slice_type
  number_is : h.pic_parameter_set_id ≡ start.pic_parameter_set_id
  picture : PictureFits start.active.sps h.nal (picture_of h)
  order : OrderFits start.active h.field_pic_flag (order_of h)
  references : ReferencesFit start.active.pps h.slice_type h.field_pic_flag (references_of h)
  lists : ListsFit start.active.pps h.slice_type (references_of h) (lists_of h)
  marking : MarkingFits h.nal (marking_of h)
  cabac_init_idc : IsInWhen (has_init start.active.pps h.slice_type) (Ue 2) 0 h.cabac_init_idc
  slice_qp_delta : IsDelta h.slice_qp_delta
  slice_qp : is_qp (slice_qp_y start.active.pps h.slice_qp_delta) ≡ true
  filter : DeblockingFits start.active.pps.deblocking_filter_control_present_flag (filter_of h)
  text : Begins (after_text start.active h) bits rest

-- the parts of a header
abbrev whole : ℕ → Start → PictureNumber → PictureOrder → ActiveReferences → ReferenceLists → Marking → ℕ → ℤ → Deblocking → Header
whole nal start picture order references lists marking cabac_init_idc slice_qp_delta filter =
    record {
      nal = nal;
      first_mb_in_slice = start.first_mb_in_slice;
      slice_type = start.slice_type;
      pic_parameter_set_id = start.pic_parameter_set_id;
      frame_num = picture.frame_num;
      field_pic_flag = picture.field_pic_flag;
      bottom_field_flag = picture.bottom_field_flag;
      idr_pic_id = picture.idr_pic_id;
      pic_order_cnt_lsb = order.pic_order_cnt_lsb;
      delta_pic_order_cnt_bottom = order.delta_pic_order_cnt_bottom;
      delta_pic_order_cnt = order.delta_pic_order_cnt;
      direct_spatial_mv_pred_flag = references.direct_spatial_mv_pred_flag;
      num_ref_idx_active_override_flag = references.num_ref_idx_active_override_flag;
      num_ref_idx_l0_active_minus1 = references.num_ref_idx_l0_active_minus1;
      num_ref_idx_l1_active_minus1 = references.num_ref_idx_l1_active_minus1;
      modification_l0 = lists.modification_l0;
      modification_l1 = lists.modification_l1;
      pred_weight_table = lists.pred_weight_table;
      no_output_of_prior_pics_flag = marking.no_output_of_prior_pics_flag;
      long_term_reference_flag = marking.long_term_reference_flag;
      adaptive_ref_pic_marking_mode_flag = marking.adaptive_ref_pic_marking_mode_flag;
      memory_management_control_operation = marking.operations;
      cabac_init_idc = cabac_init_idc;
      slice_qp_delta = slice_qp_delta;
      disable_deblocking_filter_idc = filter.disable_deblocking_filter_idc;
      slice_alpha_c0_offset_div2 = filter.slice_alpha_c0_offset_div2;
      slice_beta_offset_div2 = filter.slice_beta_offset_div2;
    }

-- from the marking on
last_parts : {A : Type 0} → ℕ → Start → (Marking → ℕ → ℤ → Deblocking → A) → Syntax Refusal A
last_parts nal start make =
    dec_ref_pic_marking nal >>= (λ marking.
    element_when (has_init start.active.pps start.slice_type) (Ue 2) 0 >>= (λ cabac_init_idc.
    slice_qp start.active.pps >>= (λ slice_qp_delta.
    deblocking start.active.pps.deblocking_filter_control_present_flag >>= (λ filter. Done (make marking cabac_init_idc slice_qp_delta filter)))))

abbrev last_text : ℕ → Start → Marking → ℕ → ℤ → Deblocking → List Bool
last_text nal start marking cabac_init_idc slice_qp_delta filter = joined (
    marking_text nal marking
    ∷ code_when (has_init start.active.pps start.slice_type) (Ue 2) cabac_init_idc
    ∷ se slice_qp_delta
    ∷ deblocking_text start.active.pps.deblocking_filter_control_present_flag filter
    ∷ [])

record LastFound {A : Type 0} (nal : ℕ) (start : Start) (make : Marking → ℕ → ℤ → Deblocking → A) (bits : List Bool) (value : A) (rest : List Bool) : Type 0 where
  marking : Marking
  cabac_init_idc : ℕ
  slice_qp_delta : ℤ
  filter : Deblocking
  is : value ≡ make marking cabac_init_idc slice_qp_delta filter
  marking_fits : MarkingFits nal marking
  idc_fits : IsInWhen (has_init start.active.pps start.slice_type) (Ue 2) 0 cabac_init_idc
  delta_fits : IsDelta slice_qp_delta
  qp_fits : is_qp (slice_qp_y start.active.pps slice_qp_delta) ≡ true
  filter_fits : DeblockingFits start.active.pps.deblocking_filter_control_present_flag filter
  text : Begins (last_text nal start marking cabac_init_idc slice_qp_delta filter) bits rest

last_spelled : {A : Type 0} (nal : ℕ) (start : Start) (make : Marking → ℕ → ℤ → Deblocking → A) (bits : List Bool) (value : A) (rest : List Bool) → Spells (last_parts nal start make) bits (Found value rest) → LastFound nal start make bits value rest
unfolding last_parts
last_spelled {A} nal start make bits value rest s =
    let pps = start.active.pps in
    let init = has_init pps start.slice_type in
    let present = pps.deblocking_filter_control_present_flag in
    let c = found_then (dec_ref_pic_marking nal) _ bits value rest s in
    let d = found_then (element_when init (Ue 2) 0) _ c.1 value rest c.3 in
    let e = found_then (slice_qp pps) _ d.1 value rest d.3 in
    let f = found_then (deblocking present) _ e.1 value rest e.3 in
    let marking = marking_spelled nal bits c.0 c.1 c.2 in
    let idc = when_spelled init (Ue 2) 0 c.1 d.0 d.1 d.2 in
    let qp = qp_spelled pps d.1 e.0 e.1 e.2 in
    let filter = filter_spelled present e.1 f.0 f.1 f.2 in
    let same = same_found {E = Refusal} value (make c.0 d.0 e.0 f.0) rest f.1 (Found value rest) refl f.3 in
    record {
      marking = c.0;
      cabac_init_idc = d.0;
      slice_qp_delta = e.0;
      filter = f.0;
      is = same.0;
      marking_fits = marking.0;
      idc_fits = idc.0;
      delta_fits = qp.0;
      qp_fits = qp.1;
      filter_fits = filter.0;
      text = begins_then marking.1 (begins_then idc.1 (begins_then qp.2 (begins_last (subst (λ t. Begins (deblocking_text present f.0) e.1 t) (sym same.1) filter.1))));
    }

after_spelled : (nal : ℕ) (start : Start) (bits : List Bool) (h : Header) (rest : List Bool) → Spells (after_start nal start) bits (Found h rest) → AfterFound nal start bits h rest
unfolding after_start last_parts
after_spelled nal start bits h rest s =
    let active = start.active in
    let a = found_then (picture_number active.sps nal) _ bits h rest s in
    let b = found_then (picture_order active a.0.field_pic_flag) _ a.1 h rest a.3 in
    let r = found_then (active_references active.pps start.slice_type a.0.field_pic_flag) _ b.1 h rest b.3 in
    let l = found_then (reference_lists active.pps start.slice_type r.0) _ r.1 h rest r.3 in
    let others = last_spelled nal start (whole nal start a.0 b.0 r.0 l.0) l.1 h rest l.3 in
    let picture = picture_spelled active.sps nal bits a.0 a.1 a.2 in
    let order = order_spelled active a.0.field_pic_flag a.1 b.0 b.1 b.2 in
    let references = references_spelled active.pps start.slice_type a.0.field_pic_flag b.1 r.0 r.1 r.2 in
    let lists = lists_spelled active.pps start.slice_type r.0 r.1 l.0 l.1 l.2 in
    subst (λ (g : Header). AfterFound nal start bits g rest) (sym others.is) (record {
      nal_is = refl;
      first_is = refl;
      type_is = refl;
      number_is = refl;
      picture = picture.0;
      order = order.0;
      references = references.0;
      lists = lists.0;
      marking = others.marking_fits;
      cabac_init_idc = others.idc_fits;
      slice_qp_delta = others.delta_fits;
      slice_qp = others.qp_fits;
      filter = others.filter_fits;
      text = begins_then picture.1 (begins_then order.1 (begins_then references.1 (begins_then lists.1 others.text)));
    })

abbrev start_of : Active → Header → Start
start_of active h = record { first_mb_in_slice = h.first_mb_in_slice; slice_type = h.slice_type; pic_parameter_set_id = h.pic_parameter_set_id; active = active }

-- a part, and what follows it
read_then : {A B : Type 0} (syntax : Syntax Refusal A) (next : A → Syntax Refusal B) (value : A) (text more rest : List Bool) (o : Outcome Refusal B) → outcome_of syntax (text ++ (more ++ rest)) ≡ Found value (more ++ rest)
    → outcome_of (next value) (more ++ rest) ≡ o → outcome_of (syntax >>= next) ((text ++ more) ++ rest) ≡ o
read_then syntax next value text more rest o h k = ap (outcome_of (syntax >>= next)) (append_assoc text more rest) ∙ part_again syntax next value _ _ h ∙ k

after_again : (active : Active) (h : Header) (rest : List Bool) → HeaderFits active h → outcome_of (after_start h.nal (start_of active h)) (after_text active h ++ rest) ≡ Found h rest
unfolding after_start
after_again active h rest fits =
    let init = has_init active.pps h.slice_type in
    let present = active.pps.deblocking_filter_control_present_flag in
    let t8 : List Bool = deblocking_text present (filter_of h) ++ [] in
    let t7 : List Bool = se h.slice_qp_delta ++ t8 in
    let t6 : List Bool = code_when init (Ue 2) h.cabac_init_idc ++ t7 in
    let t5 : List Bool = marking_text h.nal (marking_of h) ++ t6 in
    let t4 : List Bool = lists_text h.slice_type (lists_of h) ++ t5 in
    let t3 : List Bool = references_text h.slice_type (references_of h) ++ t4 in
    let t2 : List Bool = order_text active h.field_pic_flag (order_of h) ++ t3 in
    read_then (picture_number active.sps h.nal) _ (picture_of h) (picture_text active.sps h.nal (picture_of h)) t2 rest _ (picture_again active.sps h.nal (picture_of h) (t2 ++ rest) fits.picture)
    (read_then (picture_order active h.field_pic_flag) _ (order_of h) (order_text active h.field_pic_flag (order_of h)) t3 rest _ (order_again active h.field_pic_flag (order_of h) (t3 ++ rest) fits.order)
    (read_then (active_references active.pps h.slice_type h.field_pic_flag) _ (references_of h) (references_text h.slice_type (references_of h)) t4 rest _ (references_again active.pps h.slice_type h.field_pic_flag (references_of h) (t4 ++ rest) fits.references)
    (read_then (reference_lists active.pps h.slice_type (references_of h)) _ (lists_of h) (lists_text h.slice_type (lists_of h)) t5 rest _ (lists_again active.pps h.slice_type (references_of h) (lists_of h) (t5 ++ rest) fits.lists)
    (read_then (dec_ref_pic_marking h.nal) _ (marking_of h) (marking_text h.nal (marking_of h)) t6 rest _ (marking_again h.nal (marking_of h) (t6 ++ rest) fits.marking)
    (read_then (element_when init (Ue 2) 0) _ h.cabac_init_idc (code_when init (Ue 2) h.cabac_init_idc) t7 rest _ (when_again init (Ue 2) 0 h.cabac_init_idc (t7 ++ rest) fits.cabac_init_idc)
    (read_then (slice_qp active.pps) _ h.slice_qp_delta (se h.slice_qp_delta) t8 rest _ (qp_again active.pps h.slice_qp_delta (t8 ++ rest) fits.slice_qp_delta fits.slice_qp)
    (read_then (deblocking present) _ (filter_of h) (deblocking_text present (filter_of h)) [] rest _ (filter_again present (filter_of h) rest fits.filter) (done_again h rest))))))))

-- ---- the header

pub record IsFound (sets : SetMaps) (nal : ℕ) (h : Header) (bits rest : List Bool) (active : Active) : Type 0 where
  pub names : Names sets h.pic_parameter_set_id active
  pub allowed : IsAllowed active
  pub fits : HeaderFits active h
  pub nal_is : h.nal ≡ nal
  pub text : bits ≡ header_text active h ++ rest

found_parts : (sets : SetMaps) (nal : ℕ) (bits mid : List Bool) (start : Start) (h : Header) (rest : List Bool) → StartFound sets bits start mid → AfterFound nal start mid h rest
    → IsFound sets nal h bits rest start.active
unfolding header_text
found_parts sets nal bits mid start h rest s a =
    record {
      names = subst (λ n. Names sets n start.active) (sym a.number_is) s.active.names;
      allowed = s.active.in_profile;
      fits = record {
        first_mb_in_slice = subst (λ n. n ≤ 139263) (sym a.first_is) s.first_mb_in_slice;
        slice_type = subst (λ n. n ≤ 9) (sym a.type_is) s.slice_type;
        in_scope = subst (λ n. is_switching n ≡ false) (sym a.type_is) s.in_scope;
        pic_parameter_set_id = subst (λ n. n ≤ 255) (sym a.number_is) s.pic_parameter_set_id;
        picture = a.picture;
        order = a.order;
        references = a.references;
        lists = a.lists;
        marking = a.marking;
        cabac_init_idc = a.cabac_init_idc;
        slice_qp_delta = a.slice_qp_delta;
        slice_qp = a.slice_qp;
        filter = a.filter;
      };
      nal_is = a.nal_is;
      text = (begins_then same a.text).is;
    }
  where
    same : Begins (start_text h) bits mid
    same = begins (s.text.is ∙ ap (λ t. t ++ mid) (ap (λ n. numbers n start.slice_type start.pic_parameter_set_id) (sym a.first_is) ∙ ap (λ n. numbers h.first_mb_in_slice n start.pic_parameter_set_id) (sym a.type_is) ∙ ap (λ n. numbers h.first_mb_in_slice h.slice_type n) (sym a.number_is)))

pub header_spelled : (sets : SetMaps) (nal : ℕ) (h : Header) (bits rest : List Bool) → HeaderText sets nal h bits rest → (active : Active) × IsFound sets nal h bits rest active
unfolding slice_header
header_spelled sets nal h bits rest s =
    let a = found_then (slice_start sets) _ bits h rest s in
    (a.0.active, found_parts sets nal bits a.1 a.0 h rest (start_spelled sets bits a.0 a.1 a.2) (after_spelled nal a.0 a.1 h rest a.3))

pub header_again : (sets : SetMaps) (active : Active) (h : Header) (rest : List Bool) → Names sets h.pic_parameter_set_id active → IsAllowed active → HeaderFits active h
    → HeaderText sets h.nal h (header_text active h ++ rest) rest
unfolding slice_header header_text
header_again sets active h rest names allowed fits =
    let are : AreActive sets h.pic_parameter_set_id active = record { names = names; in_profile = allowed } in
    let read : outcome_of (slice_header sets h.nal) (header_text active h ++ rest) ≡ Found h rest =
    read_then (slice_start sets) (after_start h.nal) (start_of active h) (start_text h) (after_text active h) rest _
    (start_again sets (start_of active h) (after_text active h ++ rest) fits.first_mb_in_slice fits.slice_type fits.pic_parameter_set_id fits.in_scope are)
    (after_again active h rest fits) in
    spelled (slice_header sets h.nal) (header_text active h ++ rest) (Found h rest) read (λ k. cc)

-- the sets of the start that was read
pub start_found : (sets : SetMaps) (nal : ℕ) (bits mid : List Bool) (start : Start) (h : Header) (rest : List Bool) → outcome_of (slice_start sets) bits ≡ Found start mid → outcome_of (after_start nal start) mid ≡ Found h rest
    → IsFound sets nal h bits rest start.active
start_found sets nal bits mid start h rest s a =
    found_parts sets nal bits mid start h rest (start_spelled sets bits start mid (spelled (slice_start sets) bits _ s (λ e. cc))) (after_spelled nal start mid h rest (spelled (after_start nal start) mid _ a (λ e. cc)))

-- ---- what a reader answers

pub reads : (sets : SetMaps) (nal : ℕ) (result : Result (Header × ActiveSets) HeaderFault) (bits rest : List Bool) → Answers header_says (λ read. read.0) result rest (outcome_of (slice_header sets nal) bits) → ReadsHeader sets nal (without_sets result) bits rest
reads sets nal (Ok read) bits rest k = spelled (slice_header sets nal) bits _ k (λ e. cc)
reads sets nal (Err NoReading) bits rest k = nothing_spelled (slice_header sets nal) bits k
reads sets nal (Err (MissingPps number)) bits rest k = spelled (slice_header sets nal) bits _ k (λ e. cc)
reads sets nal (Err (MissingSps number)) bits rest k = spelled (slice_header sets nal) bits _ k (λ e. cc)
reads sets nal (Err Profile) bits rest k = spelled (slice_header sets nal) bits _ k (λ e. cc)
reads sets nal (Err Memory) bits rest k = tt
