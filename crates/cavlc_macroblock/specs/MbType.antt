-- mb_type (ITU-T H.264, 7.4.5, Tables 7-11, 7-13 and 7-14).
use Rattle.std.specs.Prelude.{◌≡◌, ℕ, ◌+◌, Bool, true, false, if◌then◌else◌, List}
use Rattle.exp_golomb.specs.Code.{ue}
use Rattle.h264_types.specs.Kind.{is_skip}
use Rattle.h264_types.specs.Valid.{is_kind_in}
use Rattle.h264_types.specs.declared.macroblock.Mb.{Mb}
use Rattle.h264_types.specs.declared.macroblock.MbKind.{MbKind}
use Rattle.h264_types.specs.declared.macroblock.MbKind.TheVariants.{Skip, Intra, P, B}
use Rattle.h264_types.specs.declared.slice_shape.SliceKind.{SliceKind}
use Rattle.h264_types.specs.declared.slice_shape.SliceKind.TheVariants as slices

-- the intra types stand behind the 5 types of P slices and the 23 of B slices
abbrev pub first_intra : SliceKind → ℕ
first_intra slices.I = 0
first_intra slices.P = 5
first_intra slices.B = 23

-- mb_type of a macroblock that isn't skipped; P_8x8ref0 is 4
abbrev pub type_of : SliceKind → MbKind → Bool → ℕ
type_of slice (Intra number) ref0 = first_intra slice + number
type_of slice (P number) ref0 = if ref0 then 4 else number
type_of slice (B number) ref0 = number
type_of slice Skip ref0 = 0

abbrev pub type_text : SliceKind → Mb → List Bool
type_text slice mb = ue (type_of slice mb.kind mb.ref0)

-- a type that a slice sends, and whether it is P_8x8ref0
pub record IsTypeIn (slice : SliceKind) (type : MbKind × Bool) : Type 0 where
  pub kind : is_kind_in slice type.0 ≡ true
  pub sent : is_skip type.0 ≡ false
  pub ref0 : type.1 ≡ true → type.0 ≡ P 3
