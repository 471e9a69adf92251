-- A picture parameter set is read from its text, and what is read has that text.
use Rattle.std.proofs.Common.{◌≡◌, ℕ, ◌-◌, ◌%◌, ◌<◌, pos, negsuc, Bool, true, false, cond, not, eqb, leb, le-leb, List, [], ◌∷◌, ◌++◌, length, drop, replicate, refl, sym, ap, subst, ◌∙◌, arith, append_assoc}
use Rattle.std.specs.Prelude.{MatchBool, ◌&&◌}
use Rattle.std.proofs.lemmas.Bool.{leb-true}
use Rattle.std.proofs.lemmas.Bool.Decides.{nat_tests}
use Rattle.std.proofs.lemmas.Int.{ints}
use Rattle.std.proofs.lemmas.List.{append-nil}
use Rattle.bit_texts.specs.Bits.{more_data}
use Rattle.exp_golomb.specs.Code.{Flag, U, Ue, Se, is_in_range}
use Rattle.exp_golomb.specs.Syntax.{Syntax, Done, More, Outcome, Found, Spells, outcome_of, ◌>>=◌}
use Rattle.exp_golomb.proofs.Fronts.{both, in_u, in_ue, in_se}
use Rattle.exp_golomb.proofs.Syntaxes.{spelled}
use Rattle.exp_golomb.proofs.Written.{element_again, done_again, not_refused, holds_in_range, part_again}
use Rattle.param_sets.specs.Refusal.{Refusal, OutsideProfile}
use Rattle.param_sets.specs.ScalingLists.{scaling_matrix, scaling_lists_text}
use Rattle.param_sets.specs.TrailingBits.{rbsp_trailing_bits}
use Rattle.param_sets.specs.PictureParameterSet.{pps_head, pps_tail, pps_fields, pic_parameter_set, PpsText}
use Rattle.param_sets.specs.PpsCodes.{pps_head_text, pps_tail_text, pps_fields_text, pps_text, PpsHeadFits, PpsTailFits, PpsTailAbsent, pps_list_count, IsPps}
use Rattle.param_sets.specs.declared.pps.Pps.{Pps}
use Rattle.param_sets.proofs.Spelled.{found_then, found_allowed, found_in_range, same_found, Begins, begins, flag_begins, begins_then, begins_last, ue_most, se_bounds}
use Rattle.param_sets.proofs.ScalingTexts.{matrix_spelled, matrix_again}
use Rattle.param_sets.proofs.Trailing.{trailing_spelled, trailing_again, no_one, one_within, whole_payload}

abbrev found : Pps → List Bool → Outcome Refusal Pps
found pps rest = Found pps rest

-- the set without its tail
abbrev pub without_tail : Pps → Pps
without_tail pps = record pps { tail = false; transform_8x8_mode_flag = false; pic_scaling_matrix_present_flag = false; scaling_lists = []; second_chroma_qp_index_offset = pos 0 }

-- the set with the tail of another one
abbrev with_tail_of : Pps → Pps → Pps
with_tail_of tail pps =
    record pps {
      tail = true;
      transform_8x8_mode_flag = tail.transform_8x8_mode_flag;
      pic_scaling_matrix_present_flag = tail.pic_scaling_matrix_present_flag;
      scaling_lists = tail.scaling_lists;
      second_chroma_qp_index_offset = tail.second_chroma_qp_index_offset;
    }

-- ---- what is found

pub record HeadFound (bits : List Bool) (pps : Pps) (rest : List Bool) : Type 0 where
  pub fits : PpsHeadFits pps
  pub one_group : pps.num_slice_groups_minus1 ≡ 0
  pub no_redundant_pictures : pps.redundant_pic_cnt_present_flag ≡ false
  pub text : Begins (pps_head_text pps) bits rest
  pub no_tail : pps ≡ without_tail pps

same_group : (n : ℕ) → not (eqb n 0) ≡ false → n ≡ 0
same_group n h = grind (arith, nat_tests)

pub head_spelled : (bits : List Bool) (pps : Pps) (rest : List Bool) → Spells pps_head bits (Found pps rest) → HeadFound bits pps rest
unfolding pps_head
head_spelled bits pps rest h =
    let sps_id = h.4 in
    let mode = sps_id.4 in
    let order = mode.4 in
    let groups = order.4 in
    let one_group = found_allowed {E = Refusal} {A = Pps} (not (eqb groups.0 0)) OutsideProfile _ groups.1 pps rest groups.4 in
    let l0 = one_group.1 in
    let l1 = l0.4 in
    let weighted = l1.4 in
    let bipred = weighted.4 in
    let known = found_in_range {E = Refusal} {A = Pps} (leb bipred.0 2) _ bipred.1 pps rest bipred.4 in
    let qp = known.1 in
    let qs = qp.4 in
    let chroma = qs.4 in
    let deblocking = chroma.4 in
    let intra = deblocking.4 in
    let redundant = intra.4 in
    let none_redundant = found_allowed {E = Refusal} {A = Pps} redundant.0 OutsideProfile _ redundant.1 pps rest redundant.4 in
    let same = same_found pps _ rest _ (found pps rest) refl none_redundant.1 in
    done _ _ same.0 same.1 (record {
      fits = record {
        pic_parameter_set_id = ue_most 255 h.0 h.2;
        seq_parameter_set_id = ue_most 31 sps_id.0 sps_id.2;
        num_slice_groups_minus1 = ue_most 4294967294 groups.0 groups.2;
        num_ref_idx_l0_default_active_minus1 = ue_most 31 l0.0 l0.2;
        num_ref_idx_l1_default_active_minus1 = ue_most 31 l1.0 l1.2;
        weighted_bipred_idc = leb-true bipred.0 2 known.0;
        pic_init_qp_minus26 = se_bounds (negsuc 25) (pos 25) qp.0 qp.2;
        pic_init_qs_minus26 = se_bounds (negsuc 25) (pos 25) qs.0 qs.2;
        chroma_qp_index_offset = se_bounds (negsuc 11) (pos 12) chroma.0 chroma.2;
      };
      one_group = same_group groups.0 one_group.0;
      no_redundant_pictures = none_redundant.0;
      text =
          begins_then (begins h.3)
          (begins_then (begins sps_id.3)
          (begins_then (flag_begins mode.0 mode.3)
          (begins_then (flag_begins order.0 order.3)
          (begins_then (begins groups.3)
          (begins_then (begins l0.3)
          (begins_then (begins l1.3)
          (begins_then (flag_begins weighted.0 weighted.3)
          (begins_then (begins bipred.3)
          (begins_then (begins qp.3)
          (begins_then (begins qs.3)
          (begins_then (begins chroma.3)
          (begins_then (flag_begins deblocking.0 deblocking.3)
          (begins_then (flag_begins intra.0 intra.3)
          (begins_last (flag_begins redundant.0 redundant.3)))))))))))))));
      no_tail = refl;
    })
  where
    done : (found_pps : Pps) (tail : List Bool) → pps ≡ found_pps → rest ≡ tail → HeadFound bits found_pps tail → HeadFound bits pps rest
    done found_pps tail e k so = rw (e, k) so

record TailFound (before : Pps) (bits : List Bool) (pps : Pps) (rest : List Bool) : Type 0 where
  fits : PpsTailFits pps
  text : Begins (pps_tail_text pps) bits rest
  same_head : pps ≡ with_tail_of pps before

tail_spelled : (before : Pps) (bits : List Bool) (pps : Pps) (rest : List Bool) → Spells (pps_tail before) bits (Found pps rest) → TailFound before bits pps rest
unfolding pps_tail
tail_spelled before bits pps rest h =
    let present = h.4 in
    let f = found_then (scaling_matrix present.0 (cond h.0 8 6)) _ present.1 pps rest present.4 in
    let lists = matrix_spelled present.0 (cond h.0 8 6) present.1 f.0 f.1 f.2 in
    let second = f.3 in
    let same = same_found pps _ rest _ (found pps rest) refl second.4 in
    done _ _ same.0 same.1 (record {
      fits = record { scaling_lists = lists.0; second_chroma_qp_index_offset = se_bounds (negsuc 11) (pos 12) second.0 second.2 };
      text = begins_then (flag_begins h.0 h.3) (begins_then (flag_begins present.0 present.3) (begins_then {first = scaling_lists_text f.0} (begins lists.1) (begins_last (begins second.3))));
      same_head = refl;
    })
  where
    done : (found_pps : Pps) (tail : List Bool) → pps ≡ found_pps → rest ≡ tail → TailFound before bits found_pps tail → TailFound before bits pps rest
    done found_pps tail e k so = rw (e, k) so

-- a tail changes nothing of the fields before it
head_kept : (tail pps : Pps) → PpsHeadFits pps → PpsHeadFits (with_tail_of tail pps)
head_kept tail pps h =
    record {
      pic_parameter_set_id = h.pic_parameter_set_id;
      seq_parameter_set_id = h.seq_parameter_set_id;
      num_slice_groups_minus1 = h.num_slice_groups_minus1;
      num_ref_idx_l0_default_active_minus1 = h.num_ref_idx_l0_default_active_minus1;
      num_ref_idx_l1_default_active_minus1 = h.num_ref_idx_l1_default_active_minus1;
      weighted_bipred_idc = h.weighted_bipred_idc;
      pic_init_qp_minus26 = h.pic_init_qp_minus26;
      pic_init_qs_minus26 = h.pic_init_qs_minus26;
      chroma_qp_index_offset = h.chroma_qp_index_offset;
    }

in_profile : (groups : ℕ) (redundant : Bool) → groups ≡ 0 → redundant ≡ false → (eqb groups 0 && not redundant) ≡ true
in_profile groups redundant e k = rw (e, k) refl

pub record FieldsFound (bits : List Bool) (pps : Pps) (rest : List Bool) : Type 0 where
  pub is_pps : IsPps pps
  pub text : bits ≡ pps_fields_text pps ++ rest

pub fields_spelled : (bits : List Bool) (pps : Pps) (rest : List Bool) → Spells pps_fields bits (Found pps rest) → FieldsFound bits pps rest
unfolding pps_fields pps_fields_text
fields_spelled bits pps rest h =
    let f = found_then pps_head (λ head. More (λ more. cond more (pps_tail head) (Done head))) bits pps rest h in
    let head = head_spelled bits f.0 f.1 f.2 in
    at (more_data f.1) f.0 f.1 head f.3
  where
    with_tail : (before : Pps) (after : List Bool) → HeadFound bits before after → TailFound before after pps rest → FieldsFound bits (with_tail_of pps before) rest
    with_tail before after head tail =
        record {
          is_pps = record {
            fits = record { head = head_kept pps before head.fits; tail = record { scaling_lists = tail.fits.scaling_lists; second_chroma_qp_index_offset = tail.fits.second_chroma_qp_index_offset } };
            in_profile = in_profile before.num_slice_groups_minus1 before.redundant_pic_cnt_present_flag head.one_group head.no_redundant_pictures;
          };
          text = (begins_then head.text tail.text).is;
        }

    without : (before : Pps) (after : List Bool) → HeadFound bits before after → FieldsFound bits (without_tail before) after
    without before after head =
        record {
          is_pps = record {
            fits = record { head = subst PpsHeadFits head.no_tail head.fits; tail = record { transform_8x8_mode_flag = refl; pic_scaling_matrix_present_flag = refl; scaling_lists = refl; second_chroma_qp_index_offset = refl } };
            in_profile = in_profile before.num_slice_groups_minus1 before.redundant_pic_cnt_present_flag head.one_group head.no_redundant_pictures;
          };
          text = (begins_last head.text).is;
        }

    at : (b : Bool) (before : Pps) (after : List Bool) → HeadFound bits before after → Spells (cond b (pps_tail before) (Done before)) after (found pps rest) → FieldsFound bits pps rest
    at true before after head k =
        let tail = tail_spelled before after pps rest k in
        rw tail.same_head (with_tail before after head tail)
    at false before after head k =
        let same = same_found pps before rest after (found pps rest) refl k in
        rw (same.0 ∙ head.no_tail, same.1) (without before after head)

-- ---- and again

head_again : (pps : Pps) (rest : List Bool) → PpsHeadFits pps → pps.num_slice_groups_minus1 ≡ 0 → pps.redundant_pic_cnt_present_flag ≡ false → outcome_of pps_head (pps_head_text pps ++ rest) ≡ Found (without_tail pps) rest
unfolding pps_head
head_again pps rest fits groups redundant =
    let one_group : not (eqb pps.num_slice_groups_minus1 0) ≡ false = rw groups refl in
    let known_idc : leb pps.weighted_bipred_idc 2 ≡ true = le-leb _ _ fits.weighted_bipred_idc in
    let qp : is_in_range (Se (negsuc 25) (pos 25)) pps.pic_init_qp_minus26 ≡ true = in_se (negsuc 25) (pos 25) _ fits.pic_init_qp_minus26.0 fits.pic_init_qp_minus26.1 (omega (arith, ints)) (omega (arith, ints)) in
    let qs : is_in_range (Se (negsuc 25) (pos 25)) pps.pic_init_qs_minus26 ≡ true = in_se (negsuc 25) (pos 25) _ fits.pic_init_qs_minus26.0 fits.pic_init_qs_minus26.1 (omega (arith, ints)) (omega (arith, ints)) in
    let chroma : is_in_range (Se (negsuc 11) (pos 12)) pps.chroma_qp_index_offset ≡ true = in_se (negsuc 11) (pos 12) _ fits.chroma_qp_index_offset.0 fits.chroma_qp_index_offset.1 (omega (arith, ints)) (omega (arith, ints)) in
    simp append_assoc (
    element_again (Ue 255) _ pps.pic_parameter_set_id _ (in_ue 255 _ fits.pic_parameter_set_id (omega arith))
    ∙ element_again (Ue 31) _ pps.seq_parameter_set_id _ (in_ue 31 _ fits.seq_parameter_set_id (omega arith))
    ∙ element_again Flag _ pps.entropy_coding_mode_flag _ refl
    ∙ element_again Flag _ pps.bottom_field_pic_order_in_frame_present_flag _ refl
    ∙ element_again (Ue 4294967294) _ pps.num_slice_groups_minus1 _ (in_ue 4294967294 _ fits.num_slice_groups_minus1 (omega arith))
    ∙ not_refused _ _ _ _ one_group
    ∙ element_again (Ue 31) _ pps.num_ref_idx_l0_default_active_minus1 _ (in_ue 31 _ fits.num_ref_idx_l0_default_active_minus1 (omega arith))
    ∙ element_again (Ue 31) _ pps.num_ref_idx_l1_default_active_minus1 _ (in_ue 31 _ fits.num_ref_idx_l1_default_active_minus1 (omega arith))
    ∙ element_again Flag _ pps.weighted_pred_flag _ refl
    ∙ element_again (U 2) _ pps.weighted_bipred_idc _ (in_u 2 _ (omega (arith, fits.weighted_bipred_idc)))
    ∙ holds_in_range _ _ _ known_idc
    ∙ element_again (Se (negsuc 25) (pos 25)) _ pps.pic_init_qp_minus26 _ qp
    ∙ element_again (Se (negsuc 25) (pos 25)) _ pps.pic_init_qs_minus26 _ qs
    ∙ element_again (Se (negsuc 11) (pos 12)) _ pps.chroma_qp_index_offset _ chroma
    ∙ element_again Flag _ pps.deblocking_filter_control_present_flag _ refl
    ∙ element_again Flag _ pps.constrained_intra_pred_flag _ refl
    ∙ element_again Flag _ pps.redundant_pic_cnt_present_flag _ refl
    ∙ not_refused _ _ _ _ redundant
    ∙ done_again _ rest)

tail_again : (before pps : Pps) (rest : List Bool) → PpsTailFits pps → outcome_of (pps_tail before) (pps_tail_text pps ++ rest) ≡ Found (with_tail_of pps before) rest
unfolding pps_tail
tail_again before pps rest fits =
    let second : is_in_range (Se (negsuc 11) (pos 12)) pps.second_chroma_qp_index_offset ≡ true =
    in_se (negsuc 11) (pos 12) _ fits.second_chroma_qp_index_offset.0 fits.second_chroma_qp_index_offset.1 (omega (arith, ints)) (omega (arith, ints)) in
    simp append_assoc (
    element_again Flag _ pps.transform_8x8_mode_flag _ refl
    ∙ element_again Flag _ pps.pic_scaling_matrix_present_flag _ refl
    ∙ part_again (scaling_matrix pps.pic_scaling_matrix_present_flag (pps_list_count pps)) _ pps.scaling_lists _ _ (matrix_again pps.pic_scaling_matrix_present_flag (pps_list_count pps) pps.scaling_lists _ fits.scaling_lists)
    ∙ element_again (Se (negsuc 11) (pos 12)) _ pps.second_chroma_qp_index_offset _ second
    ∙ done_again _ rest)

profile_groups : (groups : ℕ) (redundant : Bool) → (eqb groups 0 && not redundant) ≡ true → (groups ≡ 0) × (redundant ≡ false)
profile_groups groups true h = absurd (let k = both (eqb groups 0) false h in cc)
profile_groups groups false h = let k = both (eqb groups 0) true h in (grind (arith, nat_tests), refl)

more_again : (next : Bool → Syntax Refusal Pps) (bits : List Bool) (b : Bool) → more_data bits ≡ b → outcome_of (More next) bits ≡ outcome_of (next b) bits
unfolding outcome_of
more_again next bits b h = ap (λ more. outcome_of (next more) bits) h

fields_again : (pps : Pps) (count : ℕ) → IsPps pps → outcome_of pps_fields (pps_fields_text pps ++ true ∷ replicate count false) ≡ Found pps (true ∷ replicate count false)
unfolding pps_fields pps_fields_text outcome_of
fields_again pps count is_pps = at pps.tail refl is_pps.fits.tail
  where
    zeros : List Bool
    zeros = true ∷ replicate count false

    inside : (pps.num_slice_groups_minus1 ≡ 0) × (pps.redundant_pic_cnt_present_flag ≡ false)
    inside = profile_groups pps.num_slice_groups_minus1 pps.redundant_pic_cnt_present_flag is_pps.in_profile

    next : Pps → Syntax Refusal Pps
    next head = More (λ more. cond more (pps_tail head) (Done head))

    at : (b : Bool) → pps.tail ≡ b → MatchBool b (PpsTailFits pps) (PpsTailAbsent pps) → outcome_of (pps_head >>= next) ((pps_head_text pps ++ cond b (pps_tail_text pps) []) ++ zeros) ≡ found pps zeros
    at true e tail =
        let more : more_data (pps_tail_text pps ++ zeros) ≡ true = one_within (drop 1 (pps_tail_text pps)) (replicate count false) in
        let same : with_tail_of pps (without_tail pps) ≡ pps = λ i. record pps { tail = sym e i } in
        rw append_assoc (part_again pps_head next (without_tail pps) _ (pps_tail_text pps ++ zeros) (head_again pps (pps_tail_text pps ++ zeros) is_pps.fits.head inside.0 inside.1)
        ∙ more_again (λ more. cond more (pps_tail (without_tail pps)) (Done (without_tail pps))) _ true more ∙ tail_again (without_tail pps) pps zeros tail ∙ ap (λ p. found p zeros) same)
    at false e absent =
        let more : more_data zeros ≡ false = no_one count in
        let same : without_tail pps ≡ pps =
        λ i. record pps {
          tail = sym e i;
          transform_8x8_mode_flag = sym absent.transform_8x8_mode_flag i;
          pic_scaling_matrix_present_flag = sym absent.pic_scaling_matrix_present_flag i;
          scaling_lists = sym absent.scaling_lists i;
          second_chroma_qp_index_offset = sym absent.second_chroma_qp_index_offset i;
        } in
        rw append-nil (part_again pps_head next (without_tail pps) _ zeros (head_again pps zeros is_pps.fits.head inside.0 inside.1)
        ∙ more_again (λ more. cond more (pps_tail (without_tail pps)) (Done (without_tail pps))) zeros false more ∙ done_again (without_tail pps) zeros ∙ ap (λ p. found p zeros) same)

-- ---- the payload

pub read_again : (pps : Pps) → IsPps pps → PpsText pps (pps_text pps)
unfolding pic_parameter_set
read_again pps is_pps =
    let count = 7 - length (pps_fields_text pps) % 8 in
    let few : count < 8 = omega arith in
    let fields = fields_again pps count is_pps in
    let read : outcome_of pic_parameter_set (pps_text pps) ≡ found pps [] =
    part_again pps_fields (λ p. rbsp_trailing_bits >>= λ ends. Done p) pps _ (true ∷ replicate count false) fields
    ∙ part_again rbsp_trailing_bits (λ ends. Done pps) true _ [] (trailing_again count few) ∙ done_again pps [] in
    spelled pic_parameter_set (pps_text pps) (found pps []) read (λ k. cc)

pub text_of_read : (pps : Pps) (bits : List Bool) → PpsText pps bits → IsPps pps × (length bits % 8 ≡ 0 → bits ≡ pps_text pps)
unfolding pic_parameter_set
text_of_read pps bits h =
    let f = found_then pps_fields (λ p. rbsp_trailing_bits >>= λ ends. Done p) bits pps [] h in
    let g = found_then rbsp_trailing_bits (λ ends. Done f.0) f.1 pps [] f.3 in
    let ends = trailing_spelled f.1 g.0 g.1 g.2 in
    let fields = fields_spelled bits f.0 f.1 f.2 in
    let none : List Bool = [] in
    let same = same_found pps f.0 none g.1 (found pps []) refl g.3 in
    rw same.0 (fields.is_pps, λ whole. whole_payload (pps_fields_text f.0) bits ends.0 (fields.text ∙ ap (λ t. pps_fields_text f.0 ++ t) ends.2) ends.1 whole)
