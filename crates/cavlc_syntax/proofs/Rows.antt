-- What is kept of the macroblocks.
use Rattle.std.proofs.Common.{◌≡◌, Bool, List, [], ◌∷◌, ◌++◌}
use Rattle.h264_types.specs.LastRows.{LastRows, AreRows}
use Rattle.h264_types.specs.declared.macroblock.Mb.{Mb}
use Rattle.h264_types.specs.declared.slice_shape.SliceShape.{SliceShape}
use Rattle.cavlc_mb_residual.specs.Counts.{counts_of}
use Rattle.cavlc_mb_residual.specs.declared.counts.Around.{Around}
use Rattle.cavlc_mb_residual.specs.declared.counts.Counts.{Counts}
use Rattle.cavlc_syntax.specs.SliceText.{around_next}

-- one macroblock more is kept
abbrev pub Keeps : LastRows Counts → LastRows Counts → Mb → Type 0
Keeps rows rows' mb = (shape : SliceShape) (done : List Mb) → AreRows counts_of shape rows done → AreRows counts_of shape rows' (done ++ mb ∷ [])

-- this stands around the next macroblock of a slice of this shape that has this pair flag
abbrev pub IsAroundNext : SliceShape → LastRows Counts → Bool → Around → Type 0
IsAroundNext shape rows field around = (done : List Mb) → AreRows counts_of shape rows done → around ≡ around_next shape field done
