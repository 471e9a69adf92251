-- mb_type and sub_mb_type (9.3.2.5, 9.3.3.1.2, Tables 9-36 to 9-39), with the numbers of Tables 7-11, 7-13, 7-14, 7-17 and 7-18.
use Rattle.std.specs.Prelude.{ℕ, ◌+◌, ◌*◌, ◌<◌, if◌then◌else◌}
use Rattle.std.specs.Int.{from_bool}
use Rattle.cabac_engine.specs.Bins.{in_context, at_end}
use Rattle.binarisation.specs.BinString.{BinString, Value, Next, ◌>>=◌}
use Rattle.binarisation.specs.Codes.{up_to_two}
use Rattle.binarisation.specs.declared.types.IntraContexts.{IntraContexts}

-- one of two numbers, of four, and of eight, from a first one on
abbrev pub one_bit : ℕ → ℕ → BinString ℕ
one_bit ctx base = Next (in_context ctx) (λ b. Value (base + from_bool b))

unfoldable pub two_bits : ℕ → ℕ → ℕ → BinString ℕ
two_bits high low base = Next (in_context high) (λ a. Next (in_context low) (λ b. Value (base + 2 * from_bool a + from_bool b)))

unfoldable pub three_bits : ℕ → ℕ → BinString ℕ
three_bits ctx base = Next (in_context ctx) (λ a. Next (in_context ctx) (λ b. Next (in_context ctx) (λ c. Value (base + 4 * from_bool a + 2 * from_bool b + from_bool c))))

-- the contexts of an intra macroblock's type: in I slices, and in P and B slices from that of its first bin on
abbrev pub in_i : ℕ → IntraContexts
in_i inc = record { first = 3 + inc; luma = 6; chroma = 7; both = 8; high = 9; low = 10 }

abbrev pub in_inter : ℕ → IntraContexts
in_inter first = record { first = first; luma = first + 1; chroma = first + 2; both = first + 2; high = first + 3; low = first + 3 }

abbrev pub AreContexts : IntraContexts → Type 0
AreContexts c = (c.first < 460) × (c.luma < 460) × (c.chroma < 460) × (c.both < 460) × (c.high < 460) × (c.low < 460)

-- the chroma of the pattern, 4 for each, and Intra16x16PredMode
unfoldable pub intra_parts : IntraContexts → ℕ → BinString ℕ
intra_parts c base = up_to_two c.chroma c.both >>= (λ chroma. two_bits c.high c.low (base + 4 * chroma))

-- I_NxN, I_PCM, or Intra_16x16: 1 and its parts, with 12 where all luma levels may be other than 0
unfoldable pub intra : IntraContexts → BinString ℕ
intra c =
    Next (in_context c.first) (λ other. if other then
    Next at_end (λ pcm. if pcm then Value 25 else
    Next (in_context c.luma) (λ luma. if luma then intra_parts c 13 else intra_parts c 1))
    else Value 0)

-- mb_type in I slices
abbrev pub type_i : ℕ → BinString ℕ
type_i inc = intra (in_i inc)

-- that of an intra macroblock in P and B slices, from a first number on
unfoldable pub intra_from : ℕ → ℕ → BinString ℕ
intra_from ctx base = intra (in_inter ctx) >>= (λ number. Value (base + number))

-- mb_type in P slices
abbrev pub type_p : BinString ℕ
type_p =
    Next (in_context 14) (λ is_intra. if is_intra then intra_from 17 5 else
    Next (in_context 15) (λ split. if split then
    Next (in_context 17) (λ across. Value (if across then 1 else 2)) else
    Next (in_context 16) (λ eighths. Value (if eighths then 3 else 0))))

-- mb_type in B slices, behind 1111 and behind 11
unfoldable pub type_b_last : BinString ℕ
type_b_last =
    Next (in_context 32) (λ c. Next (in_context 32) (λ d.
    if c then Value (if d then 22 else 11) else if d then intra_from 32 23 else one_bit 32 20))

unfoldable pub type_b_more : BinString ℕ
type_b_more =
    Next (in_context 31) (λ a. if a then
    Next (in_context 32) (λ b. if b then type_b_last else three_bits 32 12)
    else three_bits 32 3)

-- mb_type in B slices
abbrev pub type_b : ℕ → BinString ℕ
type_b inc =
    Next (in_context (27 + inc)) (λ other. if other then
    Next (in_context 30) (λ more. if more then type_b_more else one_bit 32 1)
    else Value 0)

-- sub_mb_type in P slices
abbrev pub sub_p : BinString ℕ
sub_p =
    Next (in_context 21) (λ whole. if whole then Value 0 else
    Next (in_context 22) (λ split. if split then
    Next (in_context 23) (λ upright. Value (if upright then 2 else 3)) else Value 1))

-- sub_mb_type in B slices, behind 11, and as a whole
unfoldable pub sub_b_more : BinString ℕ
sub_b_more =
    Next (in_context 38) (λ long. if long then
    Next (in_context 39) (λ quarters. if quarters then one_bit 39 11 else two_bits 39 39 7)
    else two_bits 39 39 3)

abbrev pub sub_b : BinString ℕ
sub_b =
    Next (in_context 36) (λ other. if other then
    Next (in_context 37) (λ more. if more then sub_b_more else one_bit 39 1)
    else Value 0)
