-- Reading mb_skip_run, mb_field_decoding_flag and the end of a slice. These are inverse to the texts.
use Rattle.std.specs.Prelude.{◌≡◌, ◌⊎◌, ℕ, ◌/◌, ◌==◌, not, if◌then◌else◌, Bool, true, false, List, length, Option, Some, None}
use Rattle.bit_texts.specs.Cursor.{Cursor}
use Rattle.bit_texts.specs.Readings.{◌>>=◌}
use Rattle.exp_golomb.specs.Code.{Flag, Ue}
use Rattle.exp_golomb.specs.Element.{element_at}
use Rattle.h264_types.specs.Slice.{inferred_field}
use Rattle.h264_types.specs.Valid.{is_kind_in}
use Rattle.h264_types.specs.declared.macroblock.Mb.{Mb}
use Rattle.h264_types.specs.declared.macroblock.MbKind.TheVariants.{Skip}
use Rattle.h264_types.specs.declared.slice_shape.SliceShape.{SliceShape}
use Rattle.h264_types.specs.declared.slice_shape.SliceKind.{SliceKind}
use Rattle.h264_types.specs.declared.slice_shape.SliceKind.TheVariants as slices
use Rattle.cavlc_macroblock.specs.Macroblock.{skipped}
use Rattle.cavlc_macroblock.specs.Reading.{IsSent}
use Rattle.pcm_samples.specs.Alignment.{alignment_at}
use Rattle.cavlc_syntax.specs.SliceText.{prefix_bound, is_bottom, last_field}

-- the stop bit, and zero bits up to the byte boundary
unfoldable pub stop_at : Cursor → Option (Unit {0} × Cursor)
stop_at c = element_at Flag c >>= λ bit. if bit.0 then alignment_at bit.1 else None

-- How many skipped macroblocks come next: as many as are left of an mb_skip_run that was read, else the mb_skip_run that
-- stands here, of at most `room`. I slices have none.
unfoldable pub run_at : SliceKind → ℕ → Option ℕ → Cursor → Option (ℕ × Cursor)
run_at kind room (Some left) c = Some (left, c)
run_at slices.I room None c = Some (0, c)
run_at slices.P room None c = element_at (Ue room) c
run_at slices.B room None c = element_at (Ue room) c

-- The pair flag of the macroblock behind these, and what is left behind it, where `skips` tells how many macroblocks of the
-- mb_skip_run that was read follow it; 0 before one that isn't skipped. Outside MBAFF it is false, and that of the bottom of a
-- pair is its top's. The top has the mb_field_decoding_flag that stands here, which is the bottom's where the top alone is
-- skipped; where both are it is inferred.
unfoldable pub next_field : SliceShape → List Mb → ℕ → Cursor → Option (Bool × Cursor)
next_field shape known skips c =
    if is_bottom shape (length known) then Some (last_field known, c)
    else if not shape.mbaff then Some (false, c)
    else if skips == 0 then element_at Flag c
    else Some (inferred_field shape known (length known / 2), c)

-- a skipped macroblock, which I slices don't have
pub record IsSkipped (shape : SliceShape) (mb : Mb) : Type 0 where
  pub elements : mb ≡ skipped mb.field
  pub kind : is_kind_in shape.kind Skip ≡ true
  pub pair : mb.field ≡ true → shape.mbaff ≡ true

-- the macroblocks of the lists that have a text
abbrev pub IsRead : SliceShape → Mb → Type 0
IsRead shape mb = IsSent shape mb.field (prefix_bound shape) mb ⊎ IsSkipped shape mb
