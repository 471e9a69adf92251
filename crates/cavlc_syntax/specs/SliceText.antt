-- The data of a slice, and the lists of macroblocks that have a text (ITU-T H.264, 7.3.4).
use Rattle.std.specs.Prelude.{◌≡◌, ℕ, ◌+◌, ◌-◌, ◌%◌, ◌==◌, ◌&&◌, ◌||◌, if◌then◌else◌, Bool, true, false, List, [], ◌∷◌, ◌++◌, length, replicate, All}
use Rattle.exp_golomb.specs.Code.{ue}
use Rattle.cavlc_mb_residual.specs.Counts.{around_of}
use Rattle.cavlc_mb_residual.specs.declared.counts.Around.{Around}
use Rattle.cavlc_mb_residual.specs.MacroblockResidual.{is_beyond_mb}
use Rattle.cavlc_macroblock.specs.Macroblock.{macroblock_text}
use Rattle.h264_types.specs.Kind.{is_skip}
use Rattle.h264_types.specs.declared.macroblock.Mb.{Mb}
use Rattle.h264_types.specs.declared.slice_shape.SliceShape.{SliceShape}
use Rattle.h264_types.specs.declared.slice_shape.SliceKind.{SliceKind}
use Rattle.h264_types.specs.declared.slice_shape.SliceKind.TheVariants as slices
use Rattle.h264_types.specs.Slice.{field_at, skipped_at}
use Rattle.h264_types.specs.Valid.{IsSlice}
use Rattle.slice_data.specs.Reading.{NoList as NoListOf}

-- The greatest level_prefix: 15 in Main (9.2.2.1, A.2.2). In High it has no bound of its own, and none above 20 is needed.
abbrev pub prefix_bound : SliceShape → ℕ
prefix_bound shape = if shape.profile == 77 then 15 else 20

-- whether a level of the macroblock needs a longer level_prefix
abbrev pub is_beyond_in : SliceShape → Mb → Bool
is_beyond_in shape mb = is_beyond_mb (prefix_bound shape) mb

abbrev pub IsNotBeyond : SliceShape → Mb → Type 0
IsNotBeyond shape mb = is_beyond_in shape mb ≡ false

-- the lists of macroblocks that have a text
pub record HasText (shape : SliceShape) (mbs : List Mb) : Type 0 where
  pub slice : IsSlice shape mbs
  pub within : All (IsNotBeyond shape) mbs

-- rbsp_slice_trailing_bits (7.3.2.10, 7.3.2.11): the stop bit, and zero bits up to the byte boundary
abbrev pub stop_text : ℕ → List Bool
stop_text pos = true ∷ replicate (7 - pos % 8) false

-- mb_skip_run before a macroblock that isn't skipped: how many are, between the last one that isn't and this one. I slices
-- have none.
abbrev pub run_text : SliceKind → ℕ → List Bool
run_text slices.I run = []
run_text slices.P run = ue run
run_text slices.B run = ue run

-- mb_skip_run of the skipped macroblocks that end a slice, where there are some
abbrev pub last_run_text : SliceKind → ℕ → List Bool
last_run_text kind run = if run == 0 then [] else run_text kind run

-- ---- pairs of an MBAFF frame

-- Number k of a slice is the bottom of a pair. The slice begins with the top of one.
abbrev pub is_bottom : SliceShape → ℕ → Bool
is_bottom shape k = shape.mbaff && k % 2 == 1

-- of the last one of these: its pair flag, and whether it is skipped
abbrev pub last_field : List Mb → Bool
last_field mbs = field_at mbs (length mbs - 1)

abbrev pub is_last_skipped : List Mb → Bool
is_last_skipped mbs = skipped_at mbs (length mbs - 1)

-- whether mb_field_decoding_flag stands before a macroblock that isn't skipped, behind these: it is the top of its pair, or
-- the bottom where the top is skipped
abbrev pub sends_field : SliceShape → List Mb → Bool
sends_field shape before = shape.mbaff && (length before % 2 == 0 || is_last_skipped before)

-- ---- macroblocks that aren't skipped

-- what stands around the macroblock behind these that has this pair flag
abbrev pub around_next : SliceShape → Bool → List Mb → Around
around_next shape field before = around_of shape before (length before) field

-- mb_field_decoding_flag, where it is sent
abbrev pub field_text : Bool → Bool → List Bool
field_text sends field = if sends then field ∷ [] else []

-- the flag, where it is sent, and the macroblock
abbrev pub flagged_text : SliceShape → Bool → Around → ℕ → Mb → List Bool
flagged_text shape sends around pos mb =
    let flag = field_text sends mb.field in
    flag ++ macroblock_text shape around (pos + length flag) mb

-- a macroblock that isn't skipped, behind the macroblocks `before`: what the blocks beside it count is found in their list
abbrev pub coded_text : SliceShape → ℕ → List Mb → Mb → List Bool
coded_text shape pos before mb = flagged_text shape (sends_field shape before) (around_next shape mb.field before) pos mb

-- the same with the mb_skip_run before it, behind `pos` bits
abbrev pub put_text : SliceShape → Bool → Around → ℕ → ℕ → Mb → List Bool
put_text shape sends around pos run mb =
    let first = run_text shape.kind run in
    first ++ flagged_text shape sends around (pos + length first) mb

-- ---- slices

-- The text of `mbs` behind `pos` bits and the macroblocks `before`, of which the last `run` ones are skipped and in no
-- mb_skip_run yet, to the end of the slice.
unfoldable pub text_after : SliceShape → ℕ → List Mb → ℕ → List Mb → List Bool
text_after shape pos before run [] =
    let last = last_run_text shape.kind run in
    last ++ stop_text (pos + length last)
text_after shape pos before run (mb ∷ mbs) =
    if is_skip mb.kind
    then text_after shape pos (before ++ mb ∷ []) (run + 1) mbs
    else
    let first = run_text shape.kind run in
    let text = coded_text shape (pos + length first) before mb in
    first ++ (text ++ text_after shape (pos + length first + length text) (before ++ mb ∷ []) 0 mbs)

-- slice_data and the bits behind it, with `pos` bits before them
abbrev pub slice_text : SliceShape → ℕ → List Mb → List Bool
slice_text shape pos mbs = text_after shape pos [] 0 mbs

-- the bits are the text of the list, behind `pos` bits
abbrev pub IsText : SliceShape → ℕ → List Mb → List Bool → Type 0
IsText shape pos mbs bits = bits ≡ slice_text shape pos mbs

-- no list has these bits as its text
abbrev pub NoList : SliceShape → ℕ → List Bool → Type 0
NoList = NoListOf HasText IsText
