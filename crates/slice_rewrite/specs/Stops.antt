-- Why a slice can't be written, though it is read.
use Rattle.std.specs.Prelude.{ℕ, ◌+◌, Bool, false, not, ◌&&◌, ◌==◌, if◌then◌else◌, pos, List, [], ◌∷◌, Option, Some, None}
use Rattle.std.specs.Ordering.{int_eq}
use Rattle.cavlc_syntax.specs.SliceText.{is_beyond_in}
use Rattle.h264_types.specs.Sent.{sends_pattern}
use Rattle.h264_types.specs.declared.fault.Case.{Case}
use Rattle.h264_types.specs.declared.fault.Case.TheVariants.{Empty, Level}
use Rattle.h264_types.specs.declared.layer.Layer.{Layer}
use Rattle.h264_types.specs.declared.layer.Layer.TheVariants.{Cavlc, Cabac}
use Rattle.h264_types.specs.declared.macroblock.Mb.{Mb}
use Rattle.h264_types.specs.declared.slice_shape.SliceShape.{SliceShape}
use Rattle.pattern_fix.specs.NormalPattern.{normal_luma}
use Rattle.slice_header.specs.Shape.{shape_of}
use Rattle.slice_rewrite.specs.Items.{Slice}
use Rattle.slice_data.specs.WrittenForm.{written_mb}

-- Without a luma bit that stands for no level, nothing is left of its pattern, and with this would go its mb_qp_delta, which
-- isn't 0 (7.3.5).
abbrev pub is_emptied : Mb → Bool
is_emptied mb =
    sends_pattern mb.kind
    && ((normal_luma mb == 0) && ((mb.pattern.chroma == 0) && not (int_eq mb.qp_delta (pos 0))))

-- in CAVLC a level needs a longer level_prefix than the profile has (9.2.2.1); CABAC says all
abbrev pub is_level_beyond : Layer → SliceShape → Mb → Bool
is_level_beyond Cavlc shape mb = is_beyond_in shape mb
is_level_beyond Cabac shape mb = false

-- the same of a macroblock as it is written
abbrev pub is_written_beyond : Layer → SliceShape → Mb → Bool
is_written_beyond to shape mb = is_level_beyond to shape (written_mb to mb)

-- why a macroblock can't be written in a layer
abbrev pub mb_stop : Layer → SliceShape → Mb → Option Case
mb_stop to shape mb = if is_emptied mb then Some Empty else (if is_written_beyond to shape mb then Some Level else None)

abbrev pub stop_or : Option Case → ℕ → Option (Case × ℕ) → Option (Case × ℕ)
stop_or (Some case) k later = Some (case, k)
stop_or None k later = later

-- of macroblocks that are numbered from k on, the least that can't be written, and why
abbrev pub stop_from : Layer → SliceShape → ℕ → List Mb → Option (Case × ℕ)
stop_from to shape k [] = None
stop_from to shape k (mb ∷ mbs) = stop_or (mb_stop to shape mb) k (stop_from to shape (k + 1) mbs)

-- of the macroblocks of a slice
abbrev pub least_stop : Layer → SliceShape → List Mb → Option (Case × ℕ)
least_stop to shape mbs = stop_from to shape 0 mbs

abbrev pub slice_stop : Layer → Slice → Option (Case × ℕ)
slice_stop to s = least_stop to (shape_of s.active s.header) s.mbs
