-- coded_block_pattern, me(v) (9.1.2, Table 9-4).
use Rattle.std.specs.Prelude.{ℕ, ◌/◌, ◌%◌, Bool, true, false, List, [], ◌∷◌, Option, slice_get, option_map}
use Rattle.h264_types.specs.declared.macroblock.Pattern.{Pattern}

-- the numbers of the patterns in the order of their codeNum: of I_NxN, or of inter macroblocks
abbrev pub pattern_list : Bool → List ℕ
pattern_list true =
    47 ∷ 31 ∷ 15 ∷ 0 ∷ 23 ∷ 27 ∷ 29 ∷ 30 ∷ 7 ∷ 11 ∷ 13 ∷ 14 ∷ 39 ∷ 43 ∷ 45 ∷ 46 ∷
    16 ∷ 3 ∷ 5 ∷ 10 ∷ 12 ∷ 19 ∷ 21 ∷ 26 ∷ 28 ∷ 35 ∷ 37 ∷ 42 ∷ 44 ∷ 1 ∷ 2 ∷ 4 ∷
    8 ∷ 17 ∷ 18 ∷ 20 ∷ 24 ∷ 6 ∷ 9 ∷ 22 ∷ 25 ∷ 32 ∷ 33 ∷ 34 ∷ 36 ∷ 40 ∷ 38 ∷ 41 ∷
    []
pattern_list false =
    0 ∷ 16 ∷ 1 ∷ 2 ∷ 4 ∷ 8 ∷ 32 ∷ 3 ∷ 5 ∷ 10 ∷ 12 ∷ 15 ∷ 47 ∷ 7 ∷ 11 ∷ 13 ∷
    14 ∷ 6 ∷ 9 ∷ 31 ∷ 35 ∷ 37 ∷ 42 ∷ 44 ∷ 33 ∷ 34 ∷ 36 ∷ 40 ∷ 39 ∷ 43 ∷ 45 ∷ 46 ∷
    17 ∷ 18 ∷ 20 ∷ 24 ∷ 19 ∷ 21 ∷ 26 ∷ 28 ∷ 23 ∷ 27 ∷ 29 ∷ 30 ∷ 22 ∷ 25 ∷ 38 ∷ 41 ∷
    []

-- CodedBlockPatternLuma is the number modulo 16, CodedBlockPatternChroma the number divided by 16
abbrev pub pattern_at : Bool → ℕ → Option Pattern
pattern_at intra place = option_map (λ number. record { luma = number % 16; chroma = number / 16 }) (slice_get (pattern_list intra) place)
