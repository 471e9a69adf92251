-- A macroblock before each of its elements: those from that one on are absent.
use Rattle.std.specs.Prelude.{false, pos, replicate}
use Rattle.h264_types.specs.declared.macroblock.Mb.{Mb}
use Rattle.cabac_mb_residual.specs.Levels.{without_levels}

abbrev pub before_qp_delta : Mb → Mb
before_qp_delta mb = record (without_levels mb) { qp_delta = pos 0 }

-- before the transform_size_8x8_flag that stands behind coded_block_pattern
abbrev pub before_last_t8 : Mb → Mb
before_last_t8 mb = record (before_qp_delta mb) { t8 = false }

abbrev pub before_chroma_pattern : Mb → Mb
before_chroma_pattern mb = record (before_qp_delta mb) { pattern = record { luma = mb.pattern.luma; chroma = 0 } }

abbrev pub before_pattern : Mb → Mb
before_pattern mb = record (before_qp_delta mb) { pattern = record { luma = 0; chroma = 0 } }

abbrev pub before_chroma_mode : Mb → Mb
before_chroma_mode mb = record (before_pattern mb) { chroma_mode = 0 }

abbrev pub before_modes : Mb → Mb
before_modes mb = record (before_chroma_mode mb) { modes = replicate 16 0 }

abbrev pub before_t8 : Mb → Mb
before_t8 mb = record (before_modes mb) { t8 = false }

-- before the sub-macroblock types, references and vectors of a P or B macroblock
abbrev pub before_inter : Mb → Mb
before_inter mb = record (before_pattern mb) {
  t8 = false;
  subs = replicate 4 0;
  refs = replicate 2 (replicate 4 0);
  mvd = replicate 2 (replicate 16 (replicate 2 (pos 0)));
}
