-- coded_block_pattern in the form that both entropy codings can say (7.3.5, 7.4.5).
--
-- Bit q of CodedBlockPatternLuma is 1 where the levels of 8x8 luma block q are sent. With transform_size_8x8_flag CAVLC
-- sends them as four lists of 16, and each may be all 0 (7.3.5.3.1, 9.2). CABAC sends one list of 64, without a
-- coded_block_flag and so with a level other than 0 (7.3.5.3.3). In the normal form the bit is 0 where all 64 levels are.
-- Every other bit of luma and all of chroma stays.
use Rattle.std.specs.Prelude.{◌≡◌, ◌≢◌, ℕ, ◌+◌, ◌-◌, ◌*◌, ◌^◌, Bool, true, not, ◌&&◌, ◌==◌, if◌then◌else◌, ℤ, pos, List}
use Rattle.std.specs.Int.{bit_at}
use Rattle.std.specs.List.{list_all}
use Rattle.std.specs.Ordering.{int_eq}
use Rattle.h264_types.specs.Kind.{is_inter}
use Rattle.h264_types.specs.Sent.{sends_pattern}
use Rattle.h264_types.specs.Macroblock.{quarter_of}
use Rattle.h264_types.specs.declared.macroblock.Mb.{Mb}

abbrev pub all_zero : List ℤ → Bool
all_zero levels = list_all (λ level. int_eq level (pos 0)) levels

-- 8x8 luma block q has one transform, and no level of it
abbrev pub is_empty : Mb → ℕ → Bool
is_empty mb q = mb.t8 && all_zero (quarter_of mb q)

-- the bit of block q in CodedBlockPatternLuma, where it stands for no level
abbrev pub empty_bit : Mb → ℕ → ℕ
empty_bit mb q = if is_empty mb q then bit_at mb.pattern.luma q * 2 ^ q else 0

-- CodedBlockPatternLuma without the bits that stand for no level
abbrev pub normal_luma : Mb → ℕ
normal_luma mb = mb.pattern.luma - (empty_bit mb 0 + empty_bit mb 1 + empty_bit mb 2 + empty_bit mb 3)

-- transform_size_8x8_flag: P and B macroblocks send it only behind a luma pattern other than 0, I_NxN ones always (7.3.5)
abbrev pub normal_t8 : Mb → Bool
normal_t8 mb = mb.t8 && not (is_inter mb.kind && normal_luma mb == 0)

abbrev pub normal : Mb → Mb
normal mb = record mb { pattern = record mb.pattern { luma = normal_luma mb }; t8 = normal_t8 mb }

-- where coded_block_pattern is sent, mb_qp_delta is behind one other than 0 (7.3.5): this macroblock would lose it
pub record IsEmptied (mb : Mb) : Type 0 where
  pub sent : sends_pattern mb.kind ≡ true
  pub luma : normal_luma mb ≡ 0
  pub chroma : mb.pattern.chroma ≡ 0
  pub qp_delta : mb.qp_delta ≢ pos 0
