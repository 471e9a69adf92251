-- coded_block_pattern in CABAC (7.3.5, 7.4.5), put into a macroblock bit by bit.
use Rattle.std.specs.Prelude.{ℕ, ◌+◌, ◌*◌, ◌^◌, Bool, true, false, if◌then◌else◌, List}
use Rattle.std.specs.Int.{from_bool}
use Rattle.binarisation.specs.BinString.{BinString, Value, ◌>>=◌}
use Rattle.binarisation.specs.Elements.{pattern_luma, pattern_chroma}
use Rattle.h264_types.specs.declared.macroblock.Mb.{Mb}
use Rattle.h264_types.specs.declared.macroblock.Pattern.{Pattern}
use Rattle.h264_types.specs.declared.slice_shape.SliceShape.{SliceShape}
use Rattle.cabac_contexts.specs.Increments as inc
use Rattle.h264_types.specs.Sent.{sends_pattern}
use Rattle.binarisation.specs.Each.{each}

abbrev pub with_luma_bit : Pattern → ℕ → Bool → Pattern
with_luma_bit pattern quarter bit = record pattern { luma = pattern.luma + 2 ^ quarter * from_bool bit }

-- the bit of a luma quarter, whose context rests on the bits before it
unfoldable pub luma_bit : SliceShape → List Mb → ℕ → ℕ → Mb → BinString Mb
luma_bit shape done at quarter mb =
    pattern_luma (inc.luma shape done at mb.field mb quarter) >>= (λ bit. Value (record mb { pattern = with_luma_bit mb.pattern quarter bit }))

unfoldable pub luma_bits : SliceShape → List Mb → ℕ → Mb → BinString Mb
luma_bits shape done at mb = each 4 (luma_bit shape done at) 0 mb

-- the chroma of the pattern
unfoldable pub chroma_pattern : SliceShape → List Mb → ℕ → Mb → BinString Mb
chroma_pattern shape done at mb =
    pattern_chroma (inc.chroma shape done at mb.field mb false) (inc.chroma shape done at mb.field mb true)
    >>= (λ chroma. Value (record mb { pattern = record mb.pattern { chroma = chroma } }))

-- coded_block_pattern, where the type doesn't name it
unfoldable pub pattern : SliceShape → List Mb → ℕ → Mb → BinString Mb
pattern shape done at mb =
    if sends_pattern mb.kind then luma_bits shape done at mb >>= chroma_pattern shape done at else Value mb
