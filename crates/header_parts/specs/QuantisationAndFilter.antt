-- The elements of a slice header for its quantisation and the deblocking filter (ITU-T H.264, 7.3.3 and 7.4.3).
use Rattle.std.specs.Prelude.{ℕ, ℤ, pos, negsuc, ◌+ℤ◌, ◌==◌, Bool, not, ◌&&◌, List, [], ◌∷◌}
use Rattle.std.specs.Int.RustNames.{int_le}
use Rattle.exp_golomb.specs.Code.{Ue, Se}
use Rattle.exp_golomb.specs.Syntax.{Syntax, Done, ◌>>=◌, se, in_range, joined}
use Rattle.param_sets.specs.declared.pps.Pps.{Pps}
use Rattle.header_parts.specs.Refusal.{Refusal}
use Rattle.header_parts.specs.When.{element_when, code_when, IsInWhen}
use Rattle.header_parts.specs.declared.parts.Deblocking.{Deblocking}

-- ---- the quantisation

-- SliceQPY (7-30)
abbrev pub slice_qp_y : Pps → ℤ → ℤ
slice_qp_y pps slice_qp_delta = pos 26 +ℤ pps.pic_init_qp_minus26 +ℤ slice_qp_delta

abbrev pub is_qp : ℤ → Bool
is_qp qp = int_le (pos 0) qp && int_le qp (pos 51)

unfoldable pub slice_qp : Pps → Syntax Refusal ℤ
slice_qp pps = do
  slice_qp_delta ← se (negsuc 2147483646) (pos 2147483647)
  qp_in_range ← in_range (is_qp (slice_qp_y pps slice_qp_delta))
  Done slice_qp_delta

-- ---- the deblocking filter

-- the offsets stand where the filter isn't off
abbrev pub has_offsets : Bool → ℕ → Bool
has_offsets present disable_deblocking_filter_idc = present && not (disable_deblocking_filter_idc == 1)

unfoldable pub deblocking : Bool → Syntax Refusal Deblocking
deblocking present = do
  disable_deblocking_filter_idc ← element_when present (Ue 2) 0
  slice_alpha_c0_offset_div2 ← element_when (has_offsets present disable_deblocking_filter_idc) (Se (negsuc 5) (pos 6)) (pos 0)
  slice_beta_offset_div2 ← element_when (has_offsets present disable_deblocking_filter_idc) (Se (negsuc 5) (pos 6)) (pos 0)
  Done (record {
    disable_deblocking_filter_idc = disable_deblocking_filter_idc;
    slice_alpha_c0_offset_div2 = slice_alpha_c0_offset_div2;
    slice_beta_offset_div2 = slice_beta_offset_div2;
  })

abbrev pub deblocking_text : Bool → Deblocking → List Bool
deblocking_text present d = joined (
    code_when present (Ue 2) d.disable_deblocking_filter_idc
    ∷ code_when (has_offsets present d.disable_deblocking_filter_idc) (Se (negsuc 5) (pos 6)) d.slice_alpha_c0_offset_div2
    ∷ code_when (has_offsets present d.disable_deblocking_filter_idc) (Se (negsuc 5) (pos 6)) d.slice_beta_offset_div2
    ∷ [])

pub record DeblockingFits (present : Bool) (d : Deblocking) : Type 0 where
  pub disable_deblocking_filter_idc : IsInWhen present (Ue 2) 0 d.disable_deblocking_filter_idc
  pub slice_alpha_c0_offset_div2 : IsInWhen (has_offsets present d.disable_deblocking_filter_idc) (Se (negsuc 5) (pos 6)) (pos 0) d.slice_alpha_c0_offset_div2
  pub slice_beta_offset_div2 : IsInWhen (has_offsets present d.disable_deblocking_filter_idc) (Se (negsuc 5) (pos 6)) (pos 0) d.slice_beta_offset_div2
