-- Which lists of macroblocks are a slice's (7.3.4, 7.3.5, 7.4.4, 7.4.5).
--
-- Each element has a greatest magnitude, which is 0 where the syntax doesn't send the element.
use Rattle.std.specs.Prelude.{◌≡◌, ℕ, ◌+◌, ◌-◌, ◌*◌, ◌/◌, ◌%◌, ◌<◌, ◌≤◌, Bool, true, false, not, ◌&&◌, ◌==◌, nat_lt, nat_le, if◌then◌else◌, IsTrue, ℤ, pos, ◌≤ℤ◌, List, [], length, slice_index, slice_index_or, All, unsigned_abs}
use Rattle.std.specs.Int.{bit_at}
use Rattle.std.specs.List.{list_all}
use Rattle.h264_types.specs.declared.macroblock.Mb.{Mb}
use Rattle.h264_types.specs.declared.macroblock.MbKind.{MbKind}
use Rattle.h264_types.specs.declared.macroblock.MbKind.TheVariants as kinds
use Rattle.h264_types.specs.declared.slice_shape.SliceShape.{SliceShape}
use Rattle.h264_types.specs.declared.slice_shape.SliceKind.{SliceKind}
use Rattle.h264_types.specs.declared.slice_shape.SliceKind.TheVariants as slices
use Rattle.h264_types.specs.Kind.{is_intra, is_i_nxn, is_i_16x16, is_i_pcm}
use Rattle.h264_types.specs.Sent.{sends_t8, mode_count, sends_pattern, sends_qp_delta}
use Rattle.h264_types.specs.Sizes.{HasSizes}
use Rattle.h264_types.specs.SliceShape.{IsSliceShape}
use Rattle.h264_types.specs.Macroblock.{quarter_of, pattern_of}
use Rattle.h264_types.specs.Partition.{prediction_of, uses_list, partition_of, part_of}
use Rattle.h264_types.specs.Slice.{field_at, skipped_at, inferred_field}

-- ---- types (7.3.5)

-- the types of a slice (Table 7-10); P_8x8ref0 is number 3 with its flag
abbrev pub is_kind_in : SliceKind → MbKind → Bool
is_kind_in slices.I kinds.Skip = false
is_kind_in slices.P kinds.Skip = true
is_kind_in slices.B kinds.Skip = true
is_kind_in s (kinds.Intra n) = nat_le n 25
is_kind_in slices.I (kinds.P n) = false
is_kind_in slices.P (kinds.P n) = nat_le n 3
is_kind_in slices.B (kinds.P n) = false
is_kind_in slices.I (kinds.B n) = false
is_kind_in slices.P (kinds.B n) = false
is_kind_in slices.B (kinds.B n) = nat_le n 22

-- P_8x8ref0 sends no reference index, and all are 0
abbrev pub is_ref0 : Mb → Bool
is_ref0 mb = is_p_8x8 mb.kind && list_all (λ index. index == 0) (slice_index_or mb.refs 0 []) where
  is_p_8x8 : MbKind → Bool
  is_p_8x8 (kinds.P n) = n == 3
  is_p_8x8 (kinds.B n) = false
  is_p_8x8 (kinds.Intra n) = false
  is_p_8x8 kinds.Skip = false

pub record IsTyped (shape : SliceShape) (mb : Mb) : Type 0 where
  pub kind : IsTrue (is_kind_in shape.kind mb.kind)
  pub ref0 : IsTrue mb.ref0 → IsTrue (is_ref0 mb)
  pub field : IsTrue mb.field → IsTrue shape.mbaff
  pub t8 : IsTrue mb.t8 → IsTrue (sends_t8 shape mb)

-- ---- prediction (7.3.5.1, 7.3.5.2)

abbrev pub mode_bound : Mb → ℕ → ℕ
mode_bound mb k = if is_i_nxn mb.kind && nat_lt k (mode_count mb.t8) then 8 else 0

abbrev pub chroma_mode_bound : MbKind → ℕ
chroma_mode_bound kind = if is_intra kind && not (is_i_pcm kind) then 3 else 0

abbrev pub sub_bound : MbKind → ℕ
sub_bound (kinds.P n) = if n == 3 then 3 else 0
sub_bound (kinds.B n) = if n == 22 then 12 else 0
sub_bound (kinds.Intra n) = 0
sub_bound kinds.Skip = 0

abbrev pub list_is_used : Mb → ℕ → ℕ → Bool
list_is_used mb x q = uses_list (prediction_of mb.kind (slice_index mb.subs q) q) x

-- the reference index of list x for quarter q
abbrev pub ref_at : Mb → ℕ → ℕ → ℕ
ref_at mb x q = slice_index (slice_index_or mb.refs x []) q

-- a field macroblock of a frame has each active reference twice (7.4.5.1)
abbrev pub ref_bound : SliceShape → Mb → ℕ → ℕ → ℕ
ref_bound shape mb x q =
    if list_is_used mb x q
    then slice_index shape.refs x * (if shape.mbaff && mb.field then 2 else 1) - 1
    else 0

-- the vector difference of list x for 4x4 block n
abbrev pub mvd_of : Mb → ℕ → ℕ → List ℤ
mvd_of mb x n = slice_index_or (slice_index_or mb.mvd x []) n []

abbrev pub mvd_bound : Mb → ℕ → ℕ → ℕ
mvd_bound mb x n = if list_is_used mb x (n / 4) then 32767 else 0

abbrev pub IsWithin : ℕ → List ℤ → Type 0
IsWithin bound values = All (λ value. unsigned_abs value ≤ bound) values

pub record IsIntraPredicted (mb : Mb) : Type 0 where
  pub modes : (k : ℕ) → k < 16 → slice_index mb.modes k ≤ mode_bound mb k
  pub chroma_mode : mb.chroma_mode ≤ chroma_mode_bound mb.kind

-- quarters of one partition have one reference index
abbrev pub RefsRepeat : Mb → ℕ → Type 0
RefsRepeat mb x =
    (q : ℕ) → q < 4
    → (r : ℕ) → r < 4 → partition_of mb.kind q ≡ partition_of mb.kind r → ref_at mb x q ≡ ref_at mb x r

-- the blocks of block n's part have its vector
abbrev pub MvdRepeats : Mb → ℕ → ℕ → Type 0
MvdRepeats mb x n =
    (m : ℕ) → m < 16 → part_of mb.kind mb.subs n ≡ part_of mb.kind mb.subs m → mvd_of mb x n ≡ mvd_of mb x m

-- the reference indices and vector differences of list x
pub record IsListSent (shape : SliceShape) (mb : Mb) (x : ℕ) : Type 0 where
  pub refs : (q : ℕ) → q < 4 → ref_at mb x q ≤ ref_bound shape mb x q
  pub refs_repeat : RefsRepeat mb x
  pub mvd : (n : ℕ) → n < 16 → IsWithin (mvd_bound mb x n) (mvd_of mb x n)
  pub mvd_repeat : (n : ℕ) → n < 16 → MvdRepeats mb x n

pub record IsInterPredicted (shape : SliceShape) (mb : Mb) : Type 0 where
  pub subs : All (λ sub. sub ≤ sub_bound mb.kind) mb.subs
  pub l0 : IsListSent shape mb 0
  pub l1 : IsListSent shape mb 1

-- ---- residual (7.3.5.3)

abbrev pub qp_delta_bound : Mb → ℕ
qp_delta_bound mb = if sends_qp_delta mb.kind mb.pattern then 26 else 0

abbrev pub dc_bound : MbKind → ℕ
dc_bound kind = if is_i_16x16 kind then 65535 else 0

abbrev pub luma_bound : Mb → ℕ → ℕ
luma_bound mb q = if bit_at (pattern_of mb).luma q == 1 then 65535 else 0

abbrev pub chroma_dc_bound : Mb → ℕ
chroma_dc_bound mb = if nat_lt 0 (pattern_of mb).chroma then 65535 else 0

abbrev pub chroma_ac_bound : Mb → ℕ
chroma_ac_bound mb = if (pattern_of mb).chroma == 2 then 65535 else 0

-- the AC lists of I_16x16 have 15 levels (7.3.5.3)
abbrev pub last_luma_bound : Mb → ℕ
last_luma_bound mb = if is_i_16x16 mb.kind then 0 else 65535

abbrev pub pattern_bound : MbKind → ℕ → ℕ
pattern_bound kind greatest = if sends_pattern kind then greatest else 0

pub record IsQuarterCoded (mb : Mb) (q : ℕ) : Type 0 where
  pub levels : IsWithin (luma_bound mb q) (quarter_of mb q)
  pub last : (k : ℕ) → k < 4 → unsigned_abs (slice_index_or (quarter_of mb q) (16 * k + 15) (pos 0)) ≤ last_luma_bound mb

pub record IsLumaCoded (mb : Mb) : Type 0 where
  pub dc : IsWithin (dc_bound mb.kind) mb.dc
  pub quarters : (q : ℕ) → q < 4 → IsQuarterCoded mb q

pub record IsChromaCoded (mb : Mb) : Type 0 where
  pub dc : All (IsWithin (chroma_dc_bound mb)) mb.chroma_dc
  pub cb_ac : All (IsWithin (chroma_ac_bound mb)) (slice_index_or mb.chroma_ac 0 [])
  pub cr_ac : All (IsWithin (chroma_ac_bound mb)) (slice_index_or mb.chroma_ac 1 [])

pub record IsPattern (mb : Mb) : Type 0 where
  pub luma : mb.pattern.luma ≤ pattern_bound mb.kind 15
  pub chroma : mb.pattern.chroma ≤ pattern_bound mb.kind 2

-- mb_qp_delta, from -26 to 25
pub record IsQpDelta (mb : Mb) : Type 0 where
  pub magnitude : unsigned_abs mb.qp_delta ≤ qp_delta_bound mb
  pub greatest : mb.qp_delta ≤ℤ pos 25

abbrev pub sample_bound : MbKind → ℕ
sample_bound kind = if is_i_pcm kind then 255 else 0

pub record IsCoded (mb : Mb) : Type 0 where
  pub pattern : IsPattern mb
  pub qp_delta : IsQpDelta mb
  pub luma : IsLumaCoded mb
  pub chroma : IsChromaCoded mb
  pub pcm : All (λ sample. sample ≤ sample_bound mb.kind) mb.pcm

-- ---- whole lists (7.3.4)

pub record IsMacroblock (shape : SliceShape) (mb : Mb) : Type 0 where
  pub sizes : HasSizes mb
  pub typed : IsTyped shape mb
  pub intra : IsIntraPredicted mb
  pub inter : IsInterPredicted shape mb
  pub coded : IsCoded mb

-- the two macroblocks of a pair have one flag, which is inferred where both are skipped
pub record IsPair (shape : SliceShape) (mbs : List Mb) (pair : ℕ) : Type 0 where
  pub same : field_at mbs (2 * pair) ≡ field_at mbs (2 * pair + 1)
  pub inferred :
      IsTrue (skipped_at mbs (2 * pair) && skipped_at mbs (2 * pair + 1))
      → field_at mbs (2 * pair) ≡ inferred_field shape mbs pair

-- in an MBAFF frame the list has whole pairs
pub record ArePairs (shape : SliceShape) (mbs : List Mb) : Type 0 where
  pub even : length mbs % 2 ≡ 0
  pub each : (pair : ℕ) → 2 * pair + 1 < length mbs → IsPair shape mbs pair

-- the macroblocks of a slice, in a picture within the limits
pub record IsSlice (shape : SliceShape) (mbs : List Mb) : Type 0 where
  pub is_shape : IsSliceShape shape
  pub some : 0 < length mbs
  pub inside : shape.first + length mbs ≤ shape.width * shape.height
  pub macroblocks : All (IsMacroblock shape) mbs
  pub pairs : IsTrue shape.mbaff → ArePairs shape mbs
