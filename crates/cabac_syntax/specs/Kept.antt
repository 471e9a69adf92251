-- What a reader or writer of slice data keeps.
use Rattle.std.specs.Prelude.{◌≡◌, ◌*◌, ◌≤◌, false, nat_lt}
use Rattle.cabac_contexts.specs.Coders.{InCoding, OutCoding}
use Rattle.h264_types.specs.LastRows.{LastRows}
use Rattle.h264_types.specs.declared.macroblock.Mb.{Mb}
use Rattle.h264_types.specs.declared.slice_shape.SliceShape.{SliceShape}
use Rattle.cabac_syntax.specs.declared.reader.Phase.{Phase}
use Rattle.cabac_syntax.specs.declared.reader.Phase.TheVariants as phases
use Rattle.cabac_syntax.specs.declared.writer.Phase.{Phase as Out}
use Rattle.cabac_syntax.specs.declared.writer.Phase.TheVariants as outs

-- rows of a slice of this shape, in a picture within the limits
pub record AreOfShape (shape : SliceShape) (rows : LastRows Mb) : Type 0 where
  pub width : rows.width ≡ shape.width
  pub height : rows.height ≡ shape.height
  pub first : rows.first ≡ shape.first
  pub size : shape.width * shape.height ≤ 139264

-- behind a macroblock a further bin may be decoded
abbrev pub IsGoing : {B : Type 0} → Phase B → Type 0
IsGoing phase = (d : InCoding) → phase ≡ phases.Running d → nat_lt d.decoder.range 256 ≡ false

-- behind a macroblock a further bin may be encoded
abbrev pub IsOpen : {B : Type 0} → Out B → Type 0
IsOpen phase = (e : OutCoding) → phase ≡ outs.Running e → nat_lt e.encoder.range 256 ≡ false
