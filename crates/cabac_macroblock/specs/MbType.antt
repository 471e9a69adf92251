-- mb_skip_flag and mb_type in CABAC (7.3.4, 7.3.5, 7.4.5).
use Rattle.std.specs.Prelude.{ℕ, ◌-◌, nat_lt, Bool, false, if◌then◌else◌, List}
use Rattle.binarisation.specs.BinString.{BinString, Value, ◌>>=◌}
use Rattle.binarisation.specs.Elements.{skip_p, skip_b}
use Rattle.binarisation.specs.MacroblockType as types
use Rattle.h264_types.specs.Macroblock.{no_elements}
use Rattle.h264_types.specs.declared.macroblock.Mb.{Mb}
use Rattle.h264_types.specs.declared.macroblock.MbKind.{MbKind}
use Rattle.h264_types.specs.declared.macroblock.MbKind.TheVariants.{Skip, Intra, P, B}
use Rattle.h264_types.specs.declared.slice_shape.SliceKind.{SliceKind}
use Rattle.h264_types.specs.declared.slice_shape.SliceKind.TheVariants as slices
use Rattle.h264_types.specs.declared.slice_shape.SliceShape.{SliceShape}
use Rattle.cabac_contexts.specs.Increments as inc

-- a macroblock of this kind that has the flag of its pair and no other element
abbrev pub of_kind : Bool → MbKind → Mb
of_kind field kind = record (no_elements kind) { field = field }

-- no macroblock of an I slice is skipped, and no flag says so
abbrev pub skip_in : SliceKind → ℕ → BinString Bool
skip_in slices.I inc = Value false
skip_in slices.P inc = skip_p inc
skip_in slices.B inc = skip_b inc

-- mb_skip_flag
unfoldable pub skip_flag : SliceShape → List Mb → ℕ → Bool → BinString Bool
skip_flag shape done at field = skip_in shape.kind (inc.skip shape done at field (of_kind field Skip))

-- the types of a slice by mb_type (Table 7-10): the intra types stand behind the 5 types of P and the 23 of B
abbrev pub kind_of : SliceKind → ℕ → MbKind
kind_of slices.I number = Intra number
kind_of slices.P number = if nat_lt number 5 then P number else Intra (number - 5)
kind_of slices.B number = if nat_lt number 23 then B number else Intra (number - 23)

-- the number that is mb_type, by the increments of its first bin in I and in B; none has the bins of P_8x8ref0, which is 4
abbrev pub type_in : SliceKind → ℕ → ℕ → BinString ℕ
type_in slices.I inc_i inc_b = types.type_i inc_i
type_in slices.P inc_i inc_b = types.type_p
type_in slices.B inc_i inc_b = types.type_b inc_b

unfoldable pub type_number : SliceShape → List Mb → ℕ → Bool → BinString ℕ
type_number shape done at field =
    type_in shape.kind (inc.type_i shape done at field (of_kind field Skip)) (inc.type_b shape done at field (of_kind field Skip))

-- mb_type
unfoldable pub mb_type : SliceShape → List Mb → ℕ → Bool → BinString MbKind
mb_type shape done at field = type_number shape done at field >>= (λ number. Value (kind_of shape.kind number))
