-- A sequence parameter set is read from its text, and what is read has that text.
use Rattle.std.proofs.Common.{◌≡◌, ℕ, zero, suc, ℤ, ◌+◌, ◌-◌, ◌%◌, ◌<◌, ◌≤◌, pos, negsuc, Bool, true, false, cond, not, eqb, List, [], ◌∷◌, ◌++◌, length, replicate, refl, sym, ap, subst, ◌∙◌, arith, append_assoc}
use Rattle.std.specs.Prelude.{MatchBool, ◌&&◌, ◌||◌}
use Rattle.std.specs.List.{flat_map, AllByRecursion}
use Rattle.std.proofs.lemmas.Bool.Decides.{nat_tests}
use Rattle.std.proofs.lemmas.Int.{ints}
use Rattle.std.proofs.lemmas.List.{append-nil}
use Rattle.bit_texts.specs.Texts.{AreTurns}
use Rattle.exp_golomb.specs.Code.{Flag, U, Ue, Se, ue, se, is_in_range}
use Rattle.exp_golomb.specs.Syntax.{Syntax, Done, Outcome, Found, outcome_of, ◌>>=◌, flag, when}
use Rattle.exp_golomb.proofs.Fronts.{in_u, in_ue, in_se}
use Rattle.exp_golomb.proofs.Syntaxes.{spelled}
use Rattle.exp_golomb.proofs.Written.{element_again, done_again, not_refused, part_again}
use Rattle.param_sets.specs.Refusal.{Refusal}
use Rattle.param_sets.specs.ScalingLists.{scaling_matrix}
use Rattle.param_sets.specs.TrailingBits.{unread_bits}
use Rattle.param_sets.specs.SequenceParameterSet.{is_profile, sps_head, sps_high, sps_order_lsb, offset_for_ref_frame, offsets, sps_order_cycle, sps_order_of, sps_order, sps_size, sps_profile, sps_fields, seq_parameter_set, SpsText}
use Rattle.param_sets.specs.SpsCodes.{sps_head_text, sps_high_text, sps_cycle_text, sps_count_text, sps_order_text, sps_size_text, sps_profile_text, sps_fields_text, sps_text, IsOffset, SpsHeadFits, SpsHighFits, SpsHighAbsent, SpsCycleFits, SpsCycleAbsent, SpsOrderFits, SpsSizeFits, sps_in_profile, IsSps}
use Rattle.param_sets.specs.declared.sps.Sps.{Sps}
use Rattle.param_sets.proofs.Spelled.{series_again}
use Rattle.param_sets.proofs.ScalingTexts.{matrix_again}
use Rattle.param_sets.proofs.Trailing.{unread_again}

abbrev found : Sps → List Bool → Outcome Refusal Sps
found sps rest = Found sps rest

-- ---- a set by its parts

-- the elements up to seq_parameter_set_id, and no others
abbrev pub head_of : Sps → Sps
head_of sps =
    record sps {
      chroma_format_idc = 0;
      bit_depth_luma_minus8 = 0;
      bit_depth_chroma_minus8 = 0;
      qpprime_y_zero_transform_bypass_flag = false;
      seq_scaling_matrix_present_flag = false;
      scaling_lists = [];
      log2_max_frame_num_minus4 = 0;
      pic_order_cnt_type = 0;
      log2_max_pic_order_cnt_lsb_minus4 = 0;
      delta_pic_order_always_zero_flag = false;
      offset_for_non_ref_pic = pos 0;
      offset_for_top_to_bottom_field = pos 0;
      num_ref_frames_in_pic_order_cnt_cycle = 0;
      offset_for_ref_frame = [];
      max_num_ref_frames = 0;
      gaps_in_frame_num_value_allowed_flag = false;
      pic_width_in_mbs_minus1 = 0;
      pic_height_in_map_units_minus1 = 0;
      frame_mbs_only_flag = false;
      mb_adaptive_frame_field_flag = false;
      direct_8x8_inference_flag = false;
      rest = [];
    }

-- one set with these elements of another
abbrev pub with_high : Sps → Sps → Sps
with_high from sps =
    record sps {
      chroma_format_idc = from.chroma_format_idc;
      bit_depth_luma_minus8 = from.bit_depth_luma_minus8;
      bit_depth_chroma_minus8 = from.bit_depth_chroma_minus8;
      qpprime_y_zero_transform_bypass_flag = from.qpprime_y_zero_transform_bypass_flag;
      seq_scaling_matrix_present_flag = from.seq_scaling_matrix_present_flag;
      scaling_lists = from.scaling_lists;
    }

abbrev pub with_cycle : Sps → Sps → Sps
with_cycle from sps =
    record sps {
      delta_pic_order_always_zero_flag = from.delta_pic_order_always_zero_flag;
      offset_for_non_ref_pic = from.offset_for_non_ref_pic;
      offset_for_top_to_bottom_field = from.offset_for_top_to_bottom_field;
      num_ref_frames_in_pic_order_cnt_cycle = from.num_ref_frames_in_pic_order_cnt_cycle;
      offset_for_ref_frame = from.offset_for_ref_frame;
    }

abbrev pub with_lsb : Sps → Sps → Sps
with_lsb from sps = record sps { log2_max_pic_order_cnt_lsb_minus4 = from.log2_max_pic_order_cnt_lsb_minus4 }

abbrev pub with_type : Sps → Sps → Sps
with_type from sps = record sps { log2_max_frame_num_minus4 = from.log2_max_frame_num_minus4; pic_order_cnt_type = from.pic_order_cnt_type }

abbrev pub with_order : Sps → Sps → Sps
with_order from sps = with_cycle from (with_lsb from (with_type from sps))

abbrev pub with_size : Sps → Sps → Sps
with_size from sps =
    record sps {
      max_num_ref_frames = from.max_num_ref_frames;
      gaps_in_frame_num_value_allowed_flag = from.gaps_in_frame_num_value_allowed_flag;
      pic_width_in_mbs_minus1 = from.pic_width_in_mbs_minus1;
      pic_height_in_map_units_minus1 = from.pic_height_in_map_units_minus1;
      frame_mbs_only_flag = from.frame_mbs_only_flag;
      mb_adaptive_frame_field_flag = from.mb_adaptive_frame_field_flag;
      direct_8x8_inference_flag = from.direct_8x8_inference_flag;
    }

-- ---- reading again

head_again : (sps : Sps) (rest : List Bool) → SpsHeadFits sps → is_profile sps.profile_idc ≡ true → outcome_of sps_head (sps_head_text sps ++ rest) ≡ Found (head_of sps) rest
unfolding sps_head
head_again sps rest fits known =
    let inside : not (is_profile sps.profile_idc) ≡ false = ap not known in
    simp append_assoc (
    element_again (U 8) _ sps.profile_idc _ (in_u 8 _ fits.profile_idc)
    ∙ not_refused _ _ _ _ inside
    ∙ element_again Flag _ sps.constraint_set0_flag _ refl
    ∙ element_again Flag _ sps.constraint_set1_flag _ refl
    ∙ element_again Flag _ sps.constraint_set2_flag _ refl
    ∙ element_again Flag _ sps.constraint_set3_flag _ refl
    ∙ element_again Flag _ sps.constraint_set4_flag _ refl
    ∙ element_again Flag _ sps.constraint_set5_flag _ refl
    ∙ element_again (U 2) _ sps.reserved_zero_2bits _ (in_u 2 _ fits.reserved_zero_2bits)
    ∙ element_again (U 8) _ sps.level_idc _ (in_u 8 _ fits.level_idc)
    ∙ element_again (Ue 31) _ sps.seq_parameter_set_id _ (in_ue 31 _ fits.seq_parameter_set_id (omega arith))
    ∙ done_again _ rest)

-- what profile 100 may hold
pub record HighInside (sps : Sps) : Type 0 where
  pub chroma : sps.chroma_format_idc ≡ 1
  pub luma_depth : sps.bit_depth_luma_minus8 ≡ 0
  pub chroma_depth : sps.bit_depth_chroma_minus8 ≡ 0
  pub no_bypass : sps.qpprime_y_zero_transform_bypass_flag ≡ false

high_again : (before sps : Sps) (rest : List Bool) → SpsHighFits sps → HighInside sps → outcome_of (sps_high before) (sps_high_text sps ++ rest) ≡ Found (with_high sps before) rest
unfolding sps_high
high_again before sps rest fits inside =
    let is_420 : not (eqb sps.chroma_format_idc 1) ≡ false = rw inside.chroma refl in
    let luma : not (eqb sps.bit_depth_luma_minus8 0) ≡ false = rw inside.luma_depth refl in
    let chroma : not (eqb sps.bit_depth_chroma_minus8 0) ≡ false = rw inside.chroma_depth refl in
    simp append_assoc (
    element_again (Ue 4294967294) _ sps.chroma_format_idc _ (in_ue 4294967294 _ fits.chroma_format_idc (omega arith))
    ∙ not_refused _ _ _ _ is_420
    ∙ element_again (Ue 4294967294) _ sps.bit_depth_luma_minus8 _ (in_ue 4294967294 _ fits.bit_depth_luma_minus8 (omega arith))
    ∙ not_refused _ _ _ _ luma
    ∙ element_again (Ue 4294967294) _ sps.bit_depth_chroma_minus8 _ (in_ue 4294967294 _ fits.bit_depth_chroma_minus8 (omega arith))
    ∙ not_refused _ _ _ _ chroma
    ∙ element_again Flag _ sps.qpprime_y_zero_transform_bypass_flag _ refl
    ∙ not_refused _ _ _ _ inside.no_bypass
    ∙ element_again Flag _ sps.seq_scaling_matrix_present_flag _ refl
    ∙ part_again (scaling_matrix sps.seq_scaling_matrix_present_flag 8) _ sps.scaling_lists _ _ (matrix_again sps.seq_scaling_matrix_present_flag 8 sps.scaling_lists _ fits.scaling_lists)
    ∙ done_again _ rest)

is_profile_known : (a b c d e f : Bool) → (a || (b && c && d && e && not f)) ≡ true → (a || b) ≡ true
is_profile_known true b c d e f h = refl
is_profile_known false true c d e f h = refl
is_profile_known false false c d e f h = absurd cc

high_is_inside : (a b c d e f : Bool) → a ≡ false → (a || (b && c && d && e && not f)) ≡ true → (c ≡ true) × (d ≡ true) × (e ≡ true) × (f ≡ false)
high_is_inside true b c d e f k h = absurd cc
high_is_inside false true true true true false k h = (refl, refl, refl, refl)
high_is_inside false false c d e f k h = absurd cc
high_is_inside false true false d e f k h = absurd cc
high_is_inside false true true false e f k h = absurd cc
high_is_inside false true true true false f k h = absurd cc
high_is_inside false true true true true true k h = absurd cc

pub equal : (a b : ℕ) → eqb a b ≡ true → a ≡ b
equal a b h = grind (arith, nat_tests)

pub profile_again : (sps : Sps) (rest : List Bool) → SpsHeadFits sps → MatchBool (eqb sps.profile_idc 100) (SpsHighFits sps) (SpsHighAbsent sps) → sps_in_profile sps ≡ true
    → outcome_of sps_profile (sps_profile_text sps ++ rest) ≡ Found (with_high sps (head_of sps)) rest
unfolding sps_profile
profile_again sps rest head high inside = at (eqb sps.profile_idc 100) refl high
  where
    next : Sps → Syntax Refusal Sps
    next h = when (eqb h.profile_idc 100) h (sps_high h)

    known : is_profile sps.profile_idc ≡ true
    known = is_profile_known (eqb sps.profile_idc 77) (eqb sps.profile_idc 100) (eqb sps.chroma_format_idc 1) (eqb sps.bit_depth_luma_minus8 0) (eqb sps.bit_depth_chroma_minus8 0) sps.qpprime_y_zero_transform_bypass_flag inside

    at : (b : Bool) → eqb sps.profile_idc 100 ≡ b → MatchBool b (SpsHighFits sps) (SpsHighAbsent sps)
        → outcome_of (sps_head >>= next) ((sps_head_text sps ++ cond b (sps_high_text sps) []) ++ rest) ≡ found (with_high sps (head_of sps)) rest
    at true e fits =
        let not_main : eqb sps.profile_idc 77 ≡ false = grind (arith, nat_tests) in
        let parts = high_is_inside (eqb sps.profile_idc 77) (eqb sps.profile_idc 100) (eqb sps.chroma_format_idc 1) (eqb sps.bit_depth_luma_minus8 0) (eqb sps.bit_depth_chroma_minus8 0) sps.qpprime_y_zero_transform_bypass_flag not_main inside in
        let values : HighInside sps = record { chroma = equal _ _ parts.0; luma_depth = equal _ _ parts.1; chroma_depth = equal _ _ parts.2; no_bypass = parts.3 } in
        rw append_assoc (part_again sps_head next (head_of sps) _ (sps_high_text sps ++ rest) (head_again sps (sps_high_text sps ++ rest) head known)
        ∙ ap (λ b. outcome_of (when b (head_of sps) (sps_high (head_of sps))) (sps_high_text sps ++ rest)) e ∙ high_again (head_of sps) sps rest fits values)
    at false e absent =
        let same : head_of sps ≡ with_high sps (head_of sps) =
        λ i. record (head_of sps) {
          chroma_format_idc = sym absent.chroma_format_idc i;
          bit_depth_luma_minus8 = sym absent.bit_depth_luma_minus8 i;
          bit_depth_chroma_minus8 = sym absent.bit_depth_chroma_minus8 i;
          qpprime_y_zero_transform_bypass_flag = sym absent.qpprime_y_zero_transform_bypass_flag i;
          seq_scaling_matrix_present_flag = sym absent.seq_scaling_matrix_present_flag i;
          scaling_lists = sym absent.scaling_lists i;
        } in
        rw append-nil (part_again sps_head next (head_of sps) _ rest (head_again sps rest head known)
        ∙ ap (λ b. outcome_of (when b (head_of sps) (sps_high (head_of sps))) rest) e ∙ done_again (head_of sps) rest ∙ ap (λ h. found h rest) same)

-- ---- the order of pictures

offsets_turns : (place : ℕ) (xs : List ℤ) → AllByRecursion IsOffset xs → AreTurns (λ p. IsOffset) (λ p x. p + 1) (length xs) place xs
unfolding AreTurns
offsets_turns place [] h = tt
offsets_turns place (x ∷ xs) h = (h.0, offsets_turns (place + 1) xs h.1)

pub turns_offsets : (count place : ℕ) (xs : List ℤ) → AreTurns (λ p. IsOffset) (λ p x. p + 1) count place xs → (length xs ≡ count) × AllByRecursion IsOffset xs
unfolding AreTurns
turns_offsets zero place [] h = (refl, tt)
turns_offsets zero place (x ∷ xs) h = absurd h
turns_offsets (suc count) place [] h = absurd h
turns_offsets (suc count) place (x ∷ xs) h = let more = turns_offsets count (place + 1) xs h.1 in (ap suc more.0, (h.0, more.1))

offset_in_range : (x : ℤ) → IsOffset x → is_in_range (Se (negsuc 2147483646) (pos 2147483647)) x ≡ true
offset_in_range x h = in_se (negsuc 2147483646) (pos 2147483647) x h.0 h.1 (omega (arith, ints)) (omega (arith, ints))

offset_again : (place : ℕ) (x : ℤ) (rest : List Bool) → IsOffset x → outcome_of offset_for_ref_frame (se x ++ rest) ≡ Found x rest
offset_again place x rest h = element_again (Se (negsuc 2147483646) (pos 2147483647)) Done x rest (offset_in_range x h) ∙ done_again x rest

offsets_again : (count : ℕ) (xs : List ℤ) (rest : List Bool) → length xs ≡ count → AllByRecursion IsOffset xs → outcome_of (offsets count) (flat_map se xs ++ rest) ≡ Found xs rest
unfolding offsets
offsets_again count xs rest e h = series_again (λ p. IsOffset) se (λ place. offset_for_ref_frame) offset_again count 0 xs rest (subst (λ n. AreTurns (λ p. IsOffset) (λ p x. p + 1) n 0 xs) e (offsets_turns 0 xs h))

lsb_again : (before sps : Sps) (rest : List Bool) → sps.log2_max_pic_order_cnt_lsb_minus4 ≤ 12 → outcome_of (sps_order_lsb before) (ue sps.log2_max_pic_order_cnt_lsb_minus4 ++ rest) ≡ Found (with_lsb sps before) rest
unfolding sps_order_lsb
lsb_again before sps rest h = element_again (Ue 12) _ sps.log2_max_pic_order_cnt_lsb_minus4 _ (in_ue 12 _ h (omega arith)) ∙ done_again _ rest

cycle_again : (before sps : Sps) (rest : List Bool) → SpsCycleFits sps → outcome_of (sps_order_cycle before) (sps_cycle_text sps ++ rest) ≡ Found (with_cycle sps before) rest
unfolding sps_order_cycle
cycle_again before sps rest fits =
    simp append_assoc (
    element_again Flag _ sps.delta_pic_order_always_zero_flag _ refl
    ∙ element_again (Se (negsuc 2147483646) (pos 2147483647)) _ sps.offset_for_non_ref_pic _ (offset_in_range _ fits.offset_for_non_ref_pic)
    ∙ element_again (Se (negsuc 2147483646) (pos 2147483647)) _ sps.offset_for_top_to_bottom_field _ (offset_in_range _ fits.offset_for_top_to_bottom_field)
    ∙ element_again (Ue 255) _ sps.num_ref_frames_in_pic_order_cnt_cycle _ (in_ue 255 _ fits.num_ref_frames_in_pic_order_cnt_cycle (omega arith))
    ∙ part_again (offsets sps.num_ref_frames_in_pic_order_cnt_cycle) _ sps.offset_for_ref_frame _ _ (offsets_again sps.num_ref_frames_in_pic_order_cnt_cycle sps.offset_for_ref_frame _ fits.count fits.offset_for_ref_frame)
    ∙ done_again _ rest)

-- the counts that are absent are those of a set without them
pub record NoCounts (before : Sps) : Type 0 where
  pub lsb : before.log2_max_pic_order_cnt_lsb_minus4 ≡ 0
  pub cycle : SpsCycleAbsent before

pub no_cycle : (before sps : Sps) → SpsCycleAbsent before → SpsCycleAbsent sps → before ≡ with_cycle sps before
no_cycle before sps h k =
    λ i. record before {
      delta_pic_order_always_zero_flag = (h.delta_pic_order_always_zero_flag ∙ sym k.delta_pic_order_always_zero_flag) i;
      offset_for_non_ref_pic = (h.offset_for_non_ref_pic ∙ sym k.offset_for_non_ref_pic) i;
      offset_for_top_to_bottom_field = (h.offset_for_top_to_bottom_field ∙ sym k.offset_for_top_to_bottom_field) i;
      num_ref_frames_in_pic_order_cnt_cycle = (h.num_ref_frames_in_pic_order_cnt_cycle ∙ sym k.num_ref_frames_in_pic_order_cnt_cycle) i;
      offset_for_ref_frame = (h.offset_for_ref_frame ∙ sym k.offset_for_ref_frame) i;
    }

pub no_lsb : (before sps : Sps) → before.log2_max_pic_order_cnt_lsb_minus4 ≡ 0 → sps.log2_max_pic_order_cnt_lsb_minus4 ≡ 0 → before ≡ with_lsb sps before
no_lsb before sps h k = λ i. record before { log2_max_pic_order_cnt_lsb_minus4 = (h ∙ sym k) i }

count_again : (before sps : Sps) (rest : List Bool) → NoCounts before → SpsOrderFits sps → outcome_of (sps_order_of sps.pic_order_cnt_type before) (sps_count_text sps ++ rest) ≡ Found (with_cycle sps (with_lsb sps before)) rest
unfolding sps_order_of
count_again before sps rest none fits = at (eqb sps.pic_order_cnt_type 0) (eqb sps.pic_order_cnt_type 1) refl refl fits.lsb fits.cycle
  where
    at : (zeroth first : Bool) → eqb sps.pic_order_cnt_type 0 ≡ zeroth → eqb sps.pic_order_cnt_type 1 ≡ first
        → MatchBool zeroth (sps.log2_max_pic_order_cnt_lsb_minus4 ≤ 12) (sps.log2_max_pic_order_cnt_lsb_minus4 ≡ 0) → MatchBool first (SpsCycleFits sps) (SpsCycleAbsent sps)
        → outcome_of (cond zeroth (sps_order_lsb before) (cond first (sps_order_cycle before) (Done before))) (cond zeroth (ue sps.log2_max_pic_order_cnt_lsb_minus4) (cond first (sps_cycle_text sps) []) ++ rest) ≡ found (with_cycle sps (with_lsb sps before)) rest
    at true true e f lsb cycle = absurd (omega (arith, equal _ _ e, equal _ _ f))
    at true false e f lsb absent = lsb_again before sps rest lsb ∙ ap (λ s. found (with_lsb sps s) rest) (no_cycle before sps none.cycle absent)
    at false true e f no_lsb_is fits = cycle_again before sps rest fits ∙ ap (λ s. found (with_cycle sps s) rest) (no_lsb before sps none.lsb no_lsb_is)
    at false false e f no_lsb_is absent = done_again before rest ∙ ap (λ s. found s rest) (no_lsb before sps none.lsb no_lsb_is ∙ ap (λ s. with_lsb sps s) (no_cycle before sps none.cycle absent))

order_again : (before sps : Sps) (rest : List Bool) → NoCounts before → SpsOrderFits sps → outcome_of (sps_order before) (sps_order_text sps ++ rest) ≡ Found (with_order sps before) rest
unfolding sps_order
order_again before sps rest none fits =
    let no_counts : NoCounts (with_type sps before) = record {
      lsb = none.lsb;
      cycle = record {
        delta_pic_order_always_zero_flag = none.cycle.delta_pic_order_always_zero_flag;
        offset_for_non_ref_pic = none.cycle.offset_for_non_ref_pic;
        offset_for_top_to_bottom_field = none.cycle.offset_for_top_to_bottom_field;
        num_ref_frames_in_pic_order_cnt_cycle = none.cycle.num_ref_frames_in_pic_order_cnt_cycle;
        offset_for_ref_frame = none.cycle.offset_for_ref_frame;
      };
    } in
    simp append_assoc (
    element_again (Ue 12) _ sps.log2_max_frame_num_minus4 _ (in_ue 12 _ fits.log2_max_frame_num_minus4 (omega arith))
    ∙ element_again (Ue 2) _ sps.pic_order_cnt_type _ (in_ue 2 _ fits.pic_order_cnt_type (omega arith))
    ∙ count_again (with_type sps before) sps rest no_counts fits)

-- ---- the size

mbaff_again : (frames_only mbaff : Bool) (rest : List Bool) → (frames_only ≡ true → mbaff ≡ false) → outcome_of (when (not frames_only) false (flag {E = Refusal})) (cond (not frames_only) (mbaff ∷ []) [] ++ rest) ≡ Found mbaff rest
mbaff_again true mbaff rest h = done_again false rest ∙ ap (λ b. Found b rest) (sym (h refl))
mbaff_again false mbaff rest h = element_again Flag Done mbaff rest refl ∙ done_again mbaff rest

size_again : (before sps : Sps) (rest : List Bool) → SpsSizeFits sps → outcome_of (sps_size before) (sps_size_text sps ++ rest) ≡ Found (with_size sps before) rest
unfolding sps_size
size_again before sps rest fits =
    simp append_assoc (
    element_again (Ue 4294967294) _ sps.max_num_ref_frames _ (in_ue 4294967294 _ fits.max_num_ref_frames (omega arith))
    ∙ element_again Flag _ sps.gaps_in_frame_num_value_allowed_flag _ refl
    ∙ element_again (Ue 4294967294) _ sps.pic_width_in_mbs_minus1 _ (in_ue 4294967294 _ fits.pic_width_in_mbs_minus1 (omega arith))
    ∙ element_again (Ue 4294967294) _ sps.pic_height_in_map_units_minus1 _ (in_ue 4294967294 _ fits.pic_height_in_map_units_minus1 (omega arith))
    ∙ element_again Flag _ sps.frame_mbs_only_flag _ refl
    ∙ part_again (when (not sps.frame_mbs_only_flag) false flag) _ sps.mb_adaptive_frame_field_flag _ _ (mbaff_again sps.frame_mbs_only_flag sps.mb_adaptive_frame_field_flag _ fits.mb_adaptive_frame_field_flag)
    ∙ element_again Flag _ sps.direct_8x8_inference_flag _ refl
    ∙ done_again _ rest)

-- ---- the payload

three : (a b c d : List Bool) → (a ++ (b ++ c)) ++ d ≡ a ++ (b ++ (c ++ d))
three a b c d = simp append_assoc

four : (a b c d e : List Bool) → (a ++ (b ++ (c ++ (d ++ [])))) ++ e ≡ (a ++ (b ++ c)) ++ (d ++ e)
four a b c d e = simp (append_assoc, append-nil)

fields_again : (sps : Sps) (rest : List Bool) → IsSps sps → outcome_of sps_fields ((sps_profile_text sps ++ (sps_order_text sps ++ sps_size_text sps)) ++ rest) ≡ Found (record sps { rest = [] }) rest
unfolding sps_fields
fields_again sps rest is_sps =
    let before = with_high sps (head_of sps) in
    let none : NoCounts before = record { lsb = refl; cycle = record { delta_pic_order_always_zero_flag = refl; offset_for_non_ref_pic = refl; offset_for_top_to_bottom_field = refl; num_ref_frames_in_pic_order_cnt_cycle = refl; offset_for_ref_frame = refl } } in
    let behind = sps_order_text sps ++ (sps_size_text sps ++ rest) in
    ap (outcome_of (sps_profile >>= λ p. sps_order p >>= λ o. sps_size o)) (three (sps_profile_text sps) (sps_order_text sps) (sps_size_text sps) rest)
    ∙ part_again sps_profile (λ p. sps_order p >>= λ o. sps_size o) before (sps_profile_text sps ++ behind) behind (profile_again sps behind is_sps.fits.head is_sps.fits.high is_sps.in_profile)
    ∙ part_again (sps_order before) (λ o. sps_size o) (with_order sps before) behind (sps_size_text sps ++ rest) (order_again before sps (sps_size_text sps ++ rest) none is_sps.fits.order)
    ∙ size_again (with_order sps before) sps rest is_sps.fits.size

pub read_again : (sps : Sps) → IsSps sps → SpsText sps (sps_text sps)
unfolding seq_parameter_set sps_fields_text
read_again sps is_sps =
    let fields = sps_fields_text sps in
    let count = 7 - length fields % 8 in
    let few : count < 8 = omega arith in
    let end = true ∷ replicate count false in
    let texts : sps_text sps ≡ (sps_profile_text sps ++ (sps_order_text sps ++ sps_size_text sps)) ++ (sps.rest ++ end) = four (sps_profile_text sps) (sps_order_text sps) (sps_size_text sps) sps.rest end in
    let without_rest = record sps { rest = [] } in
    let read : outcome_of seq_parameter_set ((sps_profile_text sps ++ (sps_order_text sps ++ sps_size_text sps)) ++ (sps.rest ++ end)) ≡ found sps [] =
    part_again sps_fields _ without_rest _ _ (fields_again sps (sps.rest ++ end) is_sps)
    ∙ part_again unread_bits _ sps.rest _ _ (unread_again (sps.rest ++ end) sps.rest (count, few, refl))
    ∙ not_refused _ _ _ _ is_sps.within_limits ∙ done_again sps [] in
    spelled seq_parameter_set (sps_text sps) (found sps []) (ap (outcome_of seq_parameter_set) texts ∙ read) (λ k. cc)
