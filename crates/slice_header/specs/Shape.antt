-- What the macroblocks of a slice rest on beside one another (ITU-T H.264, 7.4.2.1.1, 7.4.3 and 9.3.1.1).
use Rattle.std.specs.Prelude.{ℕ, ◌+◌, ◌*◌, ◌/◌, Bool, not, ◌&&◌, [], ◌∷◌, unsigned_abs, if◌then◌else◌}
use Rattle.h264_types.specs.declared.slice_shape.SliceKind.{SliceKind}
use Rattle.h264_types.specs.declared.slice_shape.SliceKind.TheVariants.{I, P, B}
use Rattle.h264_types.specs.declared.slice_shape.SliceShape.{SliceShape}
use Rattle.param_sets.specs.SequenceParameterSet.{width_of, height_of}
use Rattle.header_parts.specs.ActiveSets.{Active}
use Rattle.header_parts.specs.PartsOf.{references_of}
use Rattle.header_parts.specs.QuantisationAndFilter.{slice_qp_y}
use Rattle.header_parts.specs.References.{active_l0, active_l1}
use Rattle.header_parts.specs.SliceTypes.{is_i, is_p}
use Rattle.header_parts.specs.declared.header.Header.{Header}

-- Table 7-6, without SP and SI
abbrev pub kind_of : ℕ → SliceKind
kind_of slice_type = if is_i slice_type then I else if is_p slice_type then P else B

-- MbaffFrameFlag
abbrev pub is_mbaff : Active → Header → Bool
is_mbaff active h = active.sps.mb_adaptive_frame_field_flag && not h.field_pic_flag

-- a field has half the frame's height
abbrev pub picture_height : Active → Header → ℕ
picture_height active h = if h.field_pic_flag then height_of active.sps / 2 else height_of active.sps

-- first_mb_in_slice counts pairs in a macroblock-adaptive frame
abbrev pub first_address : Active → Header → ℕ
first_address active h = if is_mbaff active h then 2 * h.first_mb_in_slice else h.first_mb_in_slice

-- the column of the table of initial pairs (9.3.1.1)
abbrev pub column_of : Header → ℕ
column_of h = if is_i h.slice_type then 0 else h.cabac_init_idc + 1

-- qp is SliceQPY, which is 0 to 51 in a header in range
abbrev pub shape_of : Active → Header → SliceShape
shape_of active h =
    record {
      kind = kind_of h.slice_type;
      width = width_of active.sps;
      height = picture_height active h;
      first = first_address active h;
      mbaff = is_mbaff active h;
      field_pic = h.field_pic_flag;
      refs = active_l0 active.pps h.slice_type (references_of h) ∷ active_l1 active.pps h.slice_type (references_of h) ∷ [];
      t8_mode = active.pps.transform_8x8_mode_flag;
      direct8 = active.sps.direct_8x8_inference_flag;
      profile = active.sps.profile_idc;
      qp = unsigned_abs (slice_qp_y active.pps h.slice_qp_delta);
      column = column_of h;
    }
