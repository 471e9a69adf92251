-- Macroblocks as they are written.
use Rattle.std.specs.Prelude.{Bool, true, false, ◌&&◌}
use Rattle.h264_types.specs.Valid.{is_ref0}
use Rattle.h264_types.specs.declared.layer.Layer.{Layer}
use Rattle.h264_types.specs.declared.layer.Layer.TheVariants.{Cavlc, Cabac}
use Rattle.h264_types.specs.declared.macroblock.Mb.{Mb}
use Rattle.pattern_fix.specs.NormalPattern.{normal}

-- CABAC has no type P_8x8ref0 (Table 7-13)
abbrev pub has_ref0 : Layer → Bool
has_ref0 Cavlc = true
has_ref0 Cabac = false

-- A macroblock is written in normal form: no luma bit of its pattern stands for levels that are all 0. In CAVLC its type is
-- P_8x8ref0 exactly where it is P_8x8 with four reference indices 0 (Table 7-13).
abbrev pub written_mb : Layer → Mb → Mb
written_mb to mb = record (normal mb) { ref0 = has_ref0 to && is_ref0 mb }
