-- Macroblock types, by the numbers of Tables 7-11, 7-13 and 7-14.
use Rattle.std.specs.Prelude.{Bool, true, false, not, ◌&&◌, ◌==◌, nat_lt}
use Rattle.h264_types.specs.declared.macroblock.MbKind.{MbKind}
use Rattle.h264_types.specs.declared.macroblock.MbKind.TheVariants.{Skip, Intra, P, B}

abbrev pub is_intra : MbKind → Bool
is_intra (Intra n) = true
is_intra Skip = false
is_intra (P n) = false
is_intra (B n) = false

-- I_NxN: 4x4 or 8x8 prediction
abbrev pub is_i_nxn : MbKind → Bool
is_i_nxn (Intra n) = n == 0
is_i_nxn Skip = false
is_i_nxn (P n) = false
is_i_nxn (B n) = false

-- I_16x16, with its mode and its pattern in the type
abbrev pub is_i_16x16 : MbKind → Bool
is_i_16x16 (Intra n) = nat_lt 0 n && nat_lt n 25
is_i_16x16 Skip = false
is_i_16x16 (P n) = false
is_i_16x16 (B n) = false

abbrev pub is_i_pcm : MbKind → Bool
is_i_pcm (Intra n) = n == 25
is_i_pcm Skip = false
is_i_pcm (P n) = false
is_i_pcm (B n) = false

abbrev pub is_skip : MbKind → Bool
is_skip Skip = true
is_skip (Intra n) = false
is_skip (P n) = false
is_skip (B n) = false

-- P and B macroblocks, skipped ones too
abbrev pub is_inter : MbKind → Bool
is_inter k = not (is_intra k)

-- P_8x8, P_8x8ref0 and B_8x8
abbrev pub has_sub_macroblocks : MbKind → Bool
has_sub_macroblocks (P n) = n == 3
has_sub_macroblocks (B n) = n == 22
has_sub_macroblocks Skip = false
has_sub_macroblocks (Intra n) = false
