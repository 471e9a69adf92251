-- The parts of a macroblock that are seen by number, and its pattern (7.3.5.3, 7.4.5).
use Rattle.std.specs.Prelude.{ℕ, ◌+◌, ◌-◌, ◌*◌, ◌/◌, ◌%◌, false, nat_le, if◌then◌else◌, ℤ, pos, List, [], slice_index_or, take, drop, replicate, ◌++◌}
use Rattle.h264_types.specs.declared.macroblock.MbKind.{MbKind}
use Rattle.h264_types.specs.declared.macroblock.MbKind.TheVariants.{Skip, Intra, P, B}
use Rattle.h264_types.specs.declared.macroblock.Mb.{Mb}
use Rattle.h264_types.specs.declared.macroblock.Pattern.{Pattern}
use Rattle.h264_types.specs.Kind.{is_i_16x16}

-- a macroblock of this kind whose elements are all absent
abbrev pub no_elements : MbKind → Mb
no_elements kind = record {
  kind = kind;
  ref0 = false;
  field = false;
  t8 = false;
  modes = replicate 16 0;
  chroma_mode = 0;
  subs = replicate 4 0;
  refs = replicate 2 (replicate 4 0);
  mvd = replicate 2 (replicate 16 (replicate 2 (pos 0)));
  pattern = record { luma = 0; chroma = 0 };
  qp_delta = pos 0;
  dc = replicate 16 (pos 0);
  luma = replicate 4 (replicate 64 (pos 0));
  chroma_dc = replicate 2 (replicate 4 (pos 0));
  chroma_ac = replicate 2 (replicate 4 (replicate 15 (pos 0)));
  pcm = replicate 384 0;
}

-- the 64 levels of the 8x8 luma block q
abbrev pub quarter_of : Mb → ℕ → List ℤ
quarter_of mb q = slice_index_or mb.luma q []

-- the 16 places of 4x4 block k of a quarter
abbrev pub block_of : List ℤ → ℕ → List ℤ
block_of levels k = take 16 (drop (16 * k) levels)

-- a quarter with the 4x4 block k replaced
abbrev pub with_block : List ℤ → ℕ → List ℤ → List ℤ
with_block levels k block = take (16 * k) levels ++ block ++ drop (16 * k + 16) levels

-- the 16 places of 4x4 luma block n: blocks 4q to 4q + 3 are those of quarter q (6.4.3)
abbrev pub luma_block : Mb → ℕ → List ℤ
luma_block mb n = block_of (quarter_of mb (n / 4)) (n % 4)

-- coded_block_pattern, for I_16x16 the one that Table 7-11 gives for its number
abbrev pub pattern_of : Mb → Pattern
pattern_of mb = pattern_under mb.kind mb.pattern where
  pattern_under : MbKind → Pattern → Pattern
  pattern_under (Intra n) sent =
      if is_i_16x16 (Intra n)
      then record { luma = if nat_le 13 n then 15 else 0; chroma = (n - 1) / 4 % 3 }
      else sent
  pattern_under Skip sent = sent
  pattern_under (P n) sent = sent
  pattern_under (B n) sent = sent
