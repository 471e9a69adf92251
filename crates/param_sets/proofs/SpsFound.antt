-- What is read as a sequence parameter set is in range, and has the text that was read.
use Rattle.std.proofs.Common.{◌≡◌, ℕ, ℤ, ◌%◌, ◌≤◌, pos, negsuc, Bool, true, false, cond, not, eqb, List, [], ◌∷◌, ◌++◌, length, refl, sym, ap, subst, ◌∙◌, arith}
use Rattle.std.specs.Prelude.{MatchBool, ◌&&◌, ◌||◌}
use Rattle.std.specs.List.{flat_map}
use Rattle.exp_golomb.specs.Code.{ue, se}
use Rattle.exp_golomb.specs.Syntax.{Done, Outcome, Found, Spells, ◌>>=◌, flag, when}
use Rattle.param_sets.specs.Refusal.{Refusal, OutsideProfile, AboveLimit}
use Rattle.param_sets.specs.ScalingLists.{scaling_matrix, scaling_lists_text}
use Rattle.param_sets.specs.TrailingBits.{unread_bits}
use Rattle.param_sets.specs.SequenceParameterSet.{is_profile, sps_head, sps_high, sps_order_lsb, offset_for_ref_frame, offsets, sps_order_cycle, sps_order_of, sps_order, sps_size, sps_profile, sps_fields, is_above_limits, seq_parameter_set, SpsText}
use Rattle.param_sets.specs.SpsCodes.{sps_head_text, sps_high_text, sps_cycle_text, sps_order_text, sps_size_text, sps_profile_text, sps_fields_text, sps_text, IsOffset, SpsHeadFits, SpsHighFits, SpsHighAbsent, SpsCycleFits, SpsCycleAbsent, SpsOrderFits, SpsSizeFits, SpsFits, sps_in_profile, IsSps}
use Rattle.param_sets.specs.declared.sps.Sps.{Sps}
use Rattle.param_sets.proofs.Spelled.{found_then, found_allowed, same_found, Begins, begins, flag_begins, begins_then, begins_last, begins_none, u_below, ue_most, se_bounds, series_spelled}
use Rattle.param_sets.proofs.ScalingTexts.{matrix_spelled}
use Rattle.param_sets.proofs.Trailing.{unread_spelled, whole_payload}
use Rattle.param_sets.proofs.SpsTexts.{head_of, with_high, with_cycle, with_lsb, with_order, with_size, HighInside, NoCounts, no_lsb, turns_offsets, equal}

abbrev found : Sps → List Bool → Outcome Refusal Sps
found sps rest = Found sps rest

-- ---- up to seq_parameter_set_id

record HeadFound (bits : List Bool) (sps : Sps) (rest : List Bool) : Type 0 where
  fits : SpsHeadFits sps
  known : is_profile sps.profile_idc ≡ true
  text : Begins (sps_head_text sps) bits rest
  alone : sps ≡ head_of sps

kept : (b : Bool) → not b ≡ false → b ≡ true
kept true h = refl
kept false h = absurd cc

head_spelled : (bits : List Bool) (sps : Sps) (rest : List Bool) → Spells sps_head bits (Found sps rest) → HeadFound bits sps rest
unfolding sps_head
head_spelled bits sps rest h =
    let known = found_allowed {E = Refusal} {A = Sps} (not (is_profile h.0)) OutsideProfile _ h.1 sps rest h.4 in
    let flag0 = known.1 in
    let flag1 = flag0.4 in
    let flag2 = flag1.4 in
    let flag3 = flag2.4 in
    let flag4 = flag3.4 in
    let flag5 = flag4.4 in
    let reserved = flag5.4 in
    let level = reserved.4 in
    let id = level.4 in
    let same = same_found sps _ rest _ (found sps rest) refl id.4 in
    done _ _ same.0 same.1 (record {
      fits = record { profile_idc = u_below 8 h.0 h.2; reserved_zero_2bits = u_below 2 reserved.0 reserved.2; level_idc = u_below 8 level.0 level.2; seq_parameter_set_id = ue_most 31 id.0 id.2 };
      known = kept (is_profile h.0) known.0;
      text =
          begins_then (begins h.3)
          (begins_then (flag_begins flag0.0 flag0.3)
          (begins_then (flag_begins flag1.0 flag1.3)
          (begins_then (flag_begins flag2.0 flag2.3)
          (begins_then (flag_begins flag3.0 flag3.3)
          (begins_then (flag_begins flag4.0 flag4.3)
          (begins_then (flag_begins flag5.0 flag5.3)
          (begins_then (begins reserved.3)
          (begins_then (begins level.3)
          (begins_last (begins id.3))))))))));
      alone = refl;
    })
  where
    done : (read : Sps) (tail : List Bool) → sps ≡ read → rest ≡ tail → HeadFound bits read tail → HeadFound bits sps rest
    done read tail e k so = rw (e, k) so

-- ---- profile 100

record HighFound (before : Sps) (bits : List Bool) (sps : Sps) (rest : List Bool) : Type 0 where
  fits : SpsHighFits sps
  inside : HighInside sps
  text : Begins (sps_high_text sps) bits rest
  same : sps ≡ with_high sps before

high_spelled : (before : Sps) (bits : List Bool) (sps : Sps) (rest : List Bool) → Spells (sps_high before) bits (Found sps rest) → HighFound before bits sps rest
unfolding sps_high
high_spelled before bits sps rest h =
    let is_420 = found_allowed {E = Refusal} {A = Sps} (not (eqb h.0 1)) OutsideProfile _ h.1 sps rest h.4 in
    let luma = is_420.1 in
    let luma_8 = found_allowed {E = Refusal} {A = Sps} (not (eqb luma.0 0)) OutsideProfile _ luma.1 sps rest luma.4 in
    let chroma = luma_8.1 in
    let chroma_8 = found_allowed {E = Refusal} {A = Sps} (not (eqb chroma.0 0)) OutsideProfile _ chroma.1 sps rest chroma.4 in
    let bypass = chroma_8.1 in
    let no_bypass = found_allowed {E = Refusal} {A = Sps} bypass.0 OutsideProfile _ bypass.1 sps rest bypass.4 in
    let present = no_bypass.1 in
    let f = found_then (scaling_matrix present.0 8) _ present.1 sps rest present.4 in
    let lists = matrix_spelled present.0 8 present.1 f.0 f.1 f.2 in
    let same = same_found sps _ rest _ (found sps rest) refl f.3 in
    done _ _ same.0 same.1 (record {
      fits = record { chroma_format_idc = ue_most 4294967294 h.0 h.2; bit_depth_luma_minus8 = ue_most 4294967294 luma.0 luma.2; bit_depth_chroma_minus8 = ue_most 4294967294 chroma.0 chroma.2; scaling_lists = lists.0 };
      inside = record { chroma = equal h.0 1 (kept _ is_420.0); luma_depth = equal luma.0 0 (kept _ luma_8.0); chroma_depth = equal chroma.0 0 (kept _ chroma_8.0); no_bypass = no_bypass.0 };
      text =
          begins_then (begins h.3)
          (begins_then (begins luma.3)
          (begins_then (begins chroma.3)
          (begins_then (flag_begins bypass.0 bypass.3)
          (begins_then (flag_begins present.0 present.3)
          (begins_last {text = scaling_lists_text f.0} (begins lists.1))))));
      same = refl;
    })
  where
    done : (read : Sps) (tail : List Bool) → sps ≡ read → rest ≡ tail → HighFound before bits read tail → HighFound before bits sps rest
    done read tail e k so = rw (e, k) so

abbrev HighMatches : Bool → Sps → Type 0
HighMatches high sps = MatchBool high (SpsHighFits sps) (SpsHighAbsent sps)

record ProfileFound (bits : List Bool) (sps : Sps) (rest : List Bool) : Type 0 where
  head : SpsHeadFits sps
  high : HighMatches (eqb sps.profile_idc 100) sps
  in_profile : sps_in_profile sps ≡ true
  text : Begins (sps_profile_text sps) bits rest
  alone : sps ≡ with_high sps (head_of sps)

profile_spelled : (bits : List Bool) (sps : Sps) (rest : List Bool) → Spells sps_profile bits (Found sps rest) → ProfileFound bits sps rest
unfolding sps_profile
profile_spelled bits sps rest h =
    let f = found_then sps_head (λ head. when (eqb head.profile_idc 100) head (sps_high head)) bits sps rest h in
    at (eqb f.0.profile_idc 100) f.0 f.1 refl (head_spelled bits f.0 f.1 f.2) f.3
  where
    head_moved : (head : Sps) → SpsHeadFits head → SpsHeadFits (with_high sps (head_of head))
    head_moved head h = record { profile_idc = h.profile_idc; reserved_zero_2bits = h.reserved_zero_2bits; level_idc = h.level_idc; seq_parameter_set_id = h.seq_parameter_set_id }

    head_alone : (head : Sps) → SpsHeadFits head → SpsHeadFits (head_of head)
    head_alone head h = record { profile_idc = h.profile_idc; reserved_zero_2bits = h.reserved_zero_2bits; level_idc = h.level_idc; seq_parameter_set_id = h.seq_parameter_set_id }

    high_moved : (head : Sps) → SpsHighFits sps → SpsHighFits (with_high sps (head_of head))
    high_moved head h = record { chroma_format_idc = h.chroma_format_idc; bit_depth_luma_minus8 = h.bit_depth_luma_minus8; bit_depth_chroma_minus8 = h.bit_depth_chroma_minus8; scaling_lists = h.scaling_lists }

    inside : (main high : Bool) (c l d : ℕ) (b : Bool) → high ≡ true → c ≡ 1 → l ≡ 0 → d ≡ 0 → b ≡ false → (main || (high && eqb c 1 && eqb l 0 && eqb d 0 && not b)) ≡ true
    inside true high c l d b e h i j k = refl
    inside false high c l d b e h i j k = rw (e, h, i, j, k) refl

    main_only : (main high : Bool) (others : Bool) → (main || high) ≡ true → high ≡ false → (main || others) ≡ true
    main_only true high others h k = refl
    main_only false high others h k = absurd cc

    at : (b : Bool) (head : Sps) (after : List Bool) → eqb head.profile_idc 100 ≡ b → HeadFound bits head after → Spells (when b head (sps_high head)) after (found sps rest) → ProfileFound bits sps rest
    at true head after e h k =
        let high = high_spelled head after sps rest k in
        let whole = with_high sps (head_of head) in
        let is : sps ≡ whole = high.same ∙ ap (λ s. with_high sps s) h.alone in
        subst (λ s. ProfileFound bits s rest) (sym is) (record {
          head = head_moved head h.fits;
          high = subst (λ b. HighMatches b whole) (sym e) (high_moved head high.fits);
          in_profile = inside (eqb head.profile_idc 77) (eqb head.profile_idc 100) sps.chroma_format_idc sps.bit_depth_luma_minus8 sps.bit_depth_chroma_minus8 sps.qpprime_y_zero_transform_bypass_flag e high.inside.chroma high.inside.luma_depth high.inside.chroma_depth high.inside.no_bypass;
          text = begins_then {first = sps_head_text head} h.text (subst (λ b. Begins (cond b (sps_high_text sps) []) after rest) (sym e) high.text);
          alone = refl;
        })
    at false head after e h k =
        let none = same_found sps head rest after (found sps rest) refl k in
        let whole = head_of head in
        let is : sps ≡ whole = none.0 ∙ h.alone in
        subst (λ s. ProfileFound bits s rest) (sym is) (record {
          head = head_alone head h.fits;
          high = subst (λ b. HighMatches b whole) (sym e) (record { chroma_format_idc = refl; bit_depth_luma_minus8 = refl; bit_depth_chroma_minus8 = refl; qpprime_y_zero_transform_bypass_flag = refl; seq_scaling_matrix_present_flag = refl; scaling_lists = refl });
          in_profile = main_only (eqb head.profile_idc 77) (eqb head.profile_idc 100) _ h.known e;
          text = begins_then {first = sps_head_text head} h.text (subst (λ b. Begins (cond b (sps_high_text whole) []) after rest) (sym e) (rw none.1 (begins_none after)));
          alone = refl;
        })

-- ---- the order of pictures

record CycleFound (before : Sps) (bits : List Bool) (sps : Sps) (rest : List Bool) : Type 0 where
  fits : SpsCycleFits sps
  text : Begins (sps_cycle_text sps) bits rest
  same : sps ≡ with_cycle sps before

offset_spelled : (place : ℕ) (bits : List Bool) (x : ℤ) (rest : List Bool) → Spells offset_for_ref_frame bits (Found x rest) → IsOffset x × (bits ≡ se x ++ rest)
offset_spelled place bits x rest (value, after, in_range, text, k) =
    let same = same_found {E = Refusal} x value rest after (Found x rest) refl k in
    rw (same.0, same.1) (se_bounds (negsuc 2147483646) (pos 2147483647) value in_range, text)

cycle_spelled : (before : Sps) (bits : List Bool) (sps : Sps) (rest : List Bool) → Spells (sps_order_cycle before) bits (Found sps rest) → CycleFound before bits sps rest
unfolding sps_order_cycle offsets
cycle_spelled before bits sps rest h =
    let non_ref = h.4 in
    let bottom = non_ref.4 in
    let count = bottom.4 in
    let f = found_then (offsets count.0) _ count.1 sps rest count.4 in
    let list = series_spelled (λ p. IsOffset) se (λ place. offset_for_ref_frame) offset_spelled count.0 0 count.1 f.0 f.1 f.2 in
    let each = turns_offsets count.0 0 f.0 list.0 in
    let same = same_found sps _ rest _ (found sps rest) refl f.3 in
    done _ _ same.0 same.1 (record {
      fits = record {
        offset_for_non_ref_pic = se_bounds (negsuc 2147483646) (pos 2147483647) non_ref.0 non_ref.2;
        offset_for_top_to_bottom_field = se_bounds (negsuc 2147483646) (pos 2147483647) bottom.0 bottom.2;
        num_ref_frames_in_pic_order_cnt_cycle = ue_most 255 count.0 count.2;
        count = each.0;
        offset_for_ref_frame = each.1;
      };
      text =
          begins_then (flag_begins h.0 h.3)
          (begins_then (begins non_ref.3)
          (begins_then (begins bottom.3)
          (begins_then (begins count.3)
          (begins_last {text = flat_map se f.0} (begins list.1)))));
      same = refl;
    })
  where
    done : (read : Sps) (tail : List Bool) → sps ≡ read → rest ≡ tail → CycleFound before bits read tail → CycleFound before bits sps rest
    done read tail e k so = rw (e, k) so

record CountFound (zeroth first : Bool) (before : Sps) (bits : List Bool) (sps : Sps) (rest : List Bool) : Type 0 where
  lsb : MatchBool zeroth (sps.log2_max_pic_order_cnt_lsb_minus4 ≤ 12) (sps.log2_max_pic_order_cnt_lsb_minus4 ≡ 0)
  cycle : MatchBool first (SpsCycleFits sps) (SpsCycleAbsent sps)
  text : Begins (cond zeroth (ue sps.log2_max_pic_order_cnt_lsb_minus4) (cond first (sps_cycle_text sps) [])) bits rest
  same : sps ≡ with_cycle sps (with_lsb sps before)

cycle_moved : (lsb : ℕ) (sps : Sps) → SpsCycleAbsent sps → SpsCycleAbsent (record sps { log2_max_pic_order_cnt_lsb_minus4 = lsb })
cycle_moved lsb sps h =
    record {
      delta_pic_order_always_zero_flag = h.delta_pic_order_always_zero_flag;
      offset_for_non_ref_pic = h.offset_for_non_ref_pic;
      offset_for_top_to_bottom_field = h.offset_for_top_to_bottom_field;
      num_ref_frames_in_pic_order_cnt_cycle = h.num_ref_frames_in_pic_order_cnt_cycle;
      offset_for_ref_frame = h.offset_for_ref_frame;
    }

count_spelled : (type : ℕ) (before : Sps) (bits : List Bool) (sps : Sps) (rest : List Bool) → NoCounts before → Spells (sps_order_of type before) bits (Found sps rest) → CountFound (eqb type 0) (eqb type 1) before bits sps rest
unfolding sps_order_of sps_order_lsb
count_spelled type before bits sps rest none h = at (eqb type 0) (eqb type 1) refl refl h
  where
    at : (zeroth first : Bool) → eqb type 0 ≡ zeroth → eqb type 1 ≡ first → Spells (cond zeroth (sps_order_lsb before) (cond first (sps_order_cycle before) (Done before))) bits (found sps rest) → CountFound zeroth first before bits sps rest
    at true true e f k = absurd (omega (arith, equal type 0 e, equal type 1 f))
    at true false e f (lsb, after, in_range, text, k) =
        let read = record before { log2_max_pic_order_cnt_lsb_minus4 = lsb } in
        let same = same_found sps read rest after (found sps rest) refl k in
        rw (same.0, same.1) (record { lsb = ue_most 12 lsb in_range; cycle = cycle_moved lsb before none.cycle; text = begins text; same = refl })
    at false true e f k =
        let cycle = cycle_spelled before bits sps rest k in
        let lsb : sps.log2_max_pic_order_cnt_lsb_minus4 ≡ 0 = ap (λ (s : Sps). s.log2_max_pic_order_cnt_lsb_minus4) cycle.same ∙ none.lsb in
        record { lsb = lsb; cycle = cycle.fits; text = cycle.text; same = cycle.same ∙ ap (λ s. with_cycle sps s) (no_lsb before sps none.lsb lsb) }
    at false false e f k =
        let same = same_found sps before rest bits (found sps rest) refl k in
        rw (same.0, same.1) (record { lsb = none.lsb; cycle = none.cycle; text = begins_none bits; same = refl })

record OrderFound (before : Sps) (bits : List Bool) (sps : Sps) (rest : List Bool) : Type 0 where
  fits : SpsOrderFits sps
  text : Begins (sps_order_text sps) bits rest
  same : sps ≡ with_order sps before

order_spelled : (before : Sps) (bits : List Bool) (sps : Sps) (rest : List Bool) → NoCounts before → Spells (sps_order before) bits (Found sps rest) → OrderFound before bits sps rest
unfolding sps_order
order_spelled before bits sps rest none (frames, after_frames, frames_in_range, frames_text, (type, after_type, type_in_range, type_text, k)) =
    let typed = record before { log2_max_frame_num_minus4 = frames; pic_order_cnt_type = type } in
    let no_counts : NoCounts typed = record {
      lsb = none.lsb;
      cycle = record {
        delta_pic_order_always_zero_flag = none.cycle.delta_pic_order_always_zero_flag;
        offset_for_non_ref_pic = none.cycle.offset_for_non_ref_pic;
        offset_for_top_to_bottom_field = none.cycle.offset_for_top_to_bottom_field;
        num_ref_frames_in_pic_order_cnt_cycle = none.cycle.num_ref_frames_in_pic_order_cnt_cycle;
        offset_for_ref_frame = none.cycle.offset_for_ref_frame;
      };
    } in
    let count = count_spelled type typed after_type sps rest no_counts k in
    let whole = with_cycle sps (with_lsb sps typed) in
    subst (λ s. OrderFound before bits s rest) (sym count.same) (record {
      fits = record {
        log2_max_frame_num_minus4 = ue_most 12 frames frames_in_range;
        pic_order_cnt_type = ue_most 2 type type_in_range;
        lsb = count.lsb;
        cycle = subst (λ s. MatchBool (eqb type 1) (SpsCycleFits s) (SpsCycleAbsent s)) count.same count.cycle;
      };
      text = begins_then {first = ue frames} (begins frames_text) (begins_then {first = ue type} (begins type_text) (begins_last count.text));
      same = refl;
    })

-- ---- the size

record SizeFound (before : Sps) (bits : List Bool) (sps : Sps) (rest : List Bool) : Type 0 where
  fits : SpsSizeFits sps
  text : Begins (sps_size_text sps) bits rest
  same : sps ≡ with_size sps before

mbaff_spelled : (frames_only : Bool) (bits : List Bool) (mbaff : Bool) (rest : List Bool) → Spells (when (not frames_only) false (flag {E = Refusal})) bits (Found mbaff rest)
    → (frames_only ≡ true → mbaff ≡ false) × (bits ≡ cond (not frames_only) (mbaff ∷ []) [] ++ rest)
mbaff_spelled true bits mbaff rest h =
    let same = same_found {E = Refusal} mbaff false rest bits (Found mbaff rest) refl h in
    ((λ e. same.0), sym same.1)
mbaff_spelled false bits mbaff rest (value, after, in_range, text, k) =
    let same = same_found {E = Refusal} mbaff value rest after (Found mbaff rest) refl k in
    ((λ e. absurd cc), rw (same.0, same.1) text)

size_spelled : (before : Sps) (bits : List Bool) (sps : Sps) (rest : List Bool) → Spells (sps_size before) bits (Found sps rest) → SizeFound before bits sps rest
unfolding sps_size
size_spelled before bits sps rest h =
    let gaps = h.4 in
    let width = gaps.4 in
    let height = width.4 in
    let frames = height.4 in
    let f = found_then (when (not frames.0) false flag) _ frames.1 sps rest frames.4 in
    let mbaff = mbaff_spelled frames.0 frames.1 f.0 f.1 f.2 in
    let direct = f.3 in
    let same = same_found sps _ rest _ (found sps rest) refl direct.4 in
    done _ _ same.0 same.1 (record {
      fits = record { max_num_ref_frames = ue_most 4294967294 h.0 h.2; pic_width_in_mbs_minus1 = ue_most 4294967294 width.0 width.2; pic_height_in_map_units_minus1 = ue_most 4294967294 height.0 height.2; mb_adaptive_frame_field_flag = mbaff.0 };
      text =
          begins_then (begins h.3)
          (begins_then (flag_begins gaps.0 gaps.3)
          (begins_then (begins width.3)
          (begins_then (begins height.3)
          (begins_then (flag_begins frames.0 frames.3)
          (begins_then {first = cond (not frames.0) (f.0 ∷ []) []} (begins mbaff.1)
          (begins_last (flag_begins direct.0 direct.3)))))));
      same = refl;
    })
  where
    done : (read : Sps) (tail : List Bool) → sps ≡ read → rest ≡ tail → SizeFound before bits read tail → SizeFound before bits sps rest
    done read tail e k so = rw (e, k) so

-- ---- the payload

pub either : {P Q P' Q' : Type 0} (b : Bool) → (P → P') → (Q → Q') → MatchBool b P Q → MatchBool b P' Q'
either true f g h = f h
either false f g h = g h

-- each part is in range in the whole
parts_fit : (profile order size : Sps) (rest : List Bool) → SpsHeadFits profile → HighMatches (eqb profile.profile_idc 100) profile → SpsOrderFits order → SpsSizeFits size → SpsFits (record (with_size size (with_order order profile)) { rest = rest })
parts_fit profile order size rest head high o s =
    record {
      head = record { profile_idc = head.profile_idc; reserved_zero_2bits = head.reserved_zero_2bits; level_idc = head.level_idc; seq_parameter_set_id = head.seq_parameter_set_id };
      high = either (eqb profile.profile_idc 100)
          (λ h. record { chroma_format_idc = h.chroma_format_idc; bit_depth_luma_minus8 = h.bit_depth_luma_minus8; bit_depth_chroma_minus8 = h.bit_depth_chroma_minus8; scaling_lists = h.scaling_lists })
          (λ h. record {
            chroma_format_idc = h.chroma_format_idc;
            bit_depth_luma_minus8 = h.bit_depth_luma_minus8;
            bit_depth_chroma_minus8 = h.bit_depth_chroma_minus8;
            qpprime_y_zero_transform_bypass_flag = h.qpprime_y_zero_transform_bypass_flag;
            seq_scaling_matrix_present_flag = h.seq_scaling_matrix_present_flag;
            scaling_lists = h.scaling_lists;
          }) high;
      order = record {
        log2_max_frame_num_minus4 = o.log2_max_frame_num_minus4;
        pic_order_cnt_type = o.pic_order_cnt_type;
        lsb = o.lsb;
        cycle = either (eqb order.pic_order_cnt_type 1)
            (λ h. record { offset_for_non_ref_pic = h.offset_for_non_ref_pic; offset_for_top_to_bottom_field = h.offset_for_top_to_bottom_field; num_ref_frames_in_pic_order_cnt_cycle = h.num_ref_frames_in_pic_order_cnt_cycle; count = h.count; offset_for_ref_frame = h.offset_for_ref_frame })
            (λ h. record {
              delta_pic_order_always_zero_flag = h.delta_pic_order_always_zero_flag;
              offset_for_non_ref_pic = h.offset_for_non_ref_pic;
              offset_for_top_to_bottom_field = h.offset_for_top_to_bottom_field;
              num_ref_frames_in_pic_order_cnt_cycle = h.num_ref_frames_in_pic_order_cnt_cycle;
              offset_for_ref_frame = h.offset_for_ref_frame;
            }) o.cycle;
      };
      size = record { max_num_ref_frames = s.max_num_ref_frames; pic_width_in_mbs_minus1 = s.pic_width_in_mbs_minus1; pic_height_in_map_units_minus1 = s.pic_height_in_map_units_minus1; mb_adaptive_frame_field_flag = s.mb_adaptive_frame_field_flag };
    }

pub text_of_read : (sps : Sps) (bits : List Bool) → SpsText sps bits → IsSps sps × (length bits % 8 ≡ 0 → bits ≡ sps_text sps)
unfolding seq_parameter_set sps_fields sps_fields_text
text_of_read sps bits h =
    let f = found_then sps_fields _ bits sps [] h in
    let profiled = found_then sps_profile (λ p. sps_order p >>= λ o. sps_size o) bits f.0 f.1 f.2 in
    let p = profiled.0 in
    let profile = profile_spelled bits p profiled.1 profiled.2 in
    let ordered = found_then (sps_order p) (λ o. sps_size o) profiled.1 f.0 f.1 profiled.3 in
    let o = ordered.0 in
    let none : NoCounts p = record {
      lsb = ap (λ (s : Sps). s.log2_max_pic_order_cnt_lsb_minus4) profile.alone;
      cycle = record {
        delta_pic_order_always_zero_flag = ap (λ (s : Sps). s.delta_pic_order_always_zero_flag) profile.alone;
        offset_for_non_ref_pic = ap (λ (s : Sps). s.offset_for_non_ref_pic) profile.alone;
        offset_for_top_to_bottom_field = ap (λ (s : Sps). s.offset_for_top_to_bottom_field) profile.alone;
        num_ref_frames_in_pic_order_cnt_cycle = ap (λ (s : Sps). s.num_ref_frames_in_pic_order_cnt_cycle) profile.alone;
        offset_for_ref_frame = ap (λ (s : Sps). s.offset_for_ref_frame) profile.alone;
      };
    } in
    let order = order_spelled p profiled.1 o ordered.1 none ordered.2 in
    let size = size_spelled o ordered.1 f.0 f.1 ordered.3 in
    let g = found_then unread_bits _ f.1 sps [] f.3 in
    let ends = unread_spelled f.1 g.0 g.1 g.2 in
    let within = found_allowed {E = Refusal} {A = Sps} (is_above_limits f.0) AboveLimit _ g.1 sps [] g.3 in
    let empty : List Bool = [] in
    let same = same_found sps _ empty _ (found sps []) refl within.1 in
    let whole = record (with_size f.0 (with_order o p)) { rest = g.0 } in
    let is : f.0 ≡ with_size f.0 (with_order o p) = size.same ∙ ap (λ s. with_size f.0 s) order.same in
    let sps_is : sps ≡ whole = same.0 ∙ ap (λ (s : Sps). record s { rest = g.0 }) is in
    let text = begins_then profile.text (begins_then order.text (begins_then size.text (begins_last {text = g.0} (begins ends.0.2)))) in
    subst (λ s. IsSps s × (length bits % 8 ≡ 0 → bits ≡ sps_text s)) (sym sps_is) (
      record { fits = parts_fit p o f.0 g.0 profile.head profile.high order.fits size.fits; in_profile = profile.in_profile; within_limits = within.0 },
      λ bytes. whole_payload (sps_fields_text whole) bits ends.0.0 text.is ends.0.1 bytes,
    )
