-- What a reader of slice data stands for: all bits behind the slice's header, and the macroblocks given so far.
use Rattle.std.specs.Prelude.{◌≡◌, ℕ, zero, suc, ◌+◌, ◌*◌, ◌/◌, ◌<◌, ◌≤◌, Bool, true, false, List, [], ◌∷◌, ◌++◌, length, Option, Some, None, Result, All}
use Rattle.std.specs.Option.{option_map_or}
use Rattle.bit_texts.specs.Cursor.{Cursor}
use Rattle.cavlc_mb_residual.specs.Counts.{counts_of}
use Rattle.cavlc_mb_residual.specs.declared.counts.Counts.{Counts}
use Rattle.h264_types.specs.Kind.{is_skip}
use Rattle.h264_types.specs.LastRows.{LastRows, AreRows}
use Rattle.h264_types.specs.Slice.{inferred_field}
use Rattle.h264_types.specs.SliceShape.{IsSliceShape}
use Rattle.h264_types.specs.Valid.{is_kind_in, IsPair}
use Rattle.h264_types.specs.declared.macroblock.Mb.{Mb}
use Rattle.h264_types.specs.declared.macroblock.MbKind.TheVariants.{Skip}
use Rattle.h264_types.specs.declared.slice_shape.SliceShape.{SliceShape}
use Rattle.slice_data.specs.Reading.{NextGives, step_of}
use Rattle.slice_data.specs.declared.fault.SliceFault.{SliceFault}
use Rattle.cavlc_macroblock.specs.Macroblock.{macroblock_text}
use Rattle.cavlc_syntax.specs.declared.reader.CavlcReader.{CavlcReader}
use Rattle.cavlc_syntax.specs.Places.{place_in}
use Rattle.cavlc_syntax.specs.Reading.{next_field, IsRead}
use Rattle.cavlc_syntax.specs.SliceText.{HasText, is_bottom, last_field, is_last_skipped, stop_text, around_next, coded_text, text_after, slice_text, IsText}

-- ---- what is known between two calls

-- the bits left are the text of a macroblock that isn't skipped, with the flag of its pair where that is sent, and of those
-- behind it
abbrev pub IsCodedNext : SliceShape → List Mb → Cursor → List Mb → Type 0
IsCodedNext shape known c [] = ⊥
IsCodedNext shape known c (mb ∷ tail) =
    let text = coded_text shape c.taken known mb in
    (is_skip mb.kind ≡ false) × (c.left ≡ text ++ text_after shape (c.taken + length text) (known ++ mb ∷ []) 0 tail)

-- `tail` begins with so many skipped macroblocks, behind whose mb_skip_run the bits left stand: they are its end, or the
-- text of a macroblock that isn't skipped and of those behind it
unfoldable pub IsBehindRun : SliceShape → List Mb → ℕ → Cursor → List Mb → Type 0
IsBehindRun shape known zero c [] = c.left ≡ stop_text c.taken
IsBehindRun shape known zero c (mb ∷ tail) = IsCodedNext shape known c (mb ∷ tail)
IsBehindRun shape known (suc left) c [] = ⊥
IsBehindRun shape known (suc left) c (mb ∷ tail) = (is_skip mb.kind ≡ true) × IsBehindRun shape (known ++ mb ∷ []) left c tail

-- `tail` begins with a macroblock that isn't skipped and has this pair flag, and the bits left are its text behind the flag,
-- and that of those behind it
abbrev pub IsFlagged : SliceShape → List Mb → Bool → Cursor → List Mb → Type 0
IsFlagged shape known field c [] = ⊥
IsFlagged shape known field c (mb ∷ tail) =
    let text = macroblock_text shape (around_next shape field known) c.taken mb in
    (is_skip mb.kind ≡ false) × (mb.field ≡ field) × (c.left ≡ text ++ text_after shape (c.taken + length text) (known ++ mb ∷ []) 0 tail)

-- the same, where the flag is read that stands here, or is known
abbrev pub IsAheadOfFlag : SliceShape → List Mb → Cursor → List Mb → Type 0
IsAheadOfFlag shape known c tail = (field : Bool) × (d : Cursor) × (next_field shape known 0 c ≡ Some (field, d)) × IsFlagged shape known field d tail

-- so many skipped macroblocks stand before the first one of `tail` that isn't, which is there where they are none
abbrev pub IsAhead : SliceShape → List Mb → ℕ → Cursor → List Mb → Type 0
IsAhead shape known zero c = IsAheadOfFlag shape known c
IsAhead shape known (suc left) c = IsBehindRun shape known (suc left) c

-- Behind a skipped macroblock, with so many to come: where these are none the slice ends, at a whole pair, or a macroblock
-- that isn't skipped follows. The flag of a bottom whose top is the last one was read with the top.
abbrev pub IsBehindSkipped : SliceShape → List Mb → ℕ → Cursor → List Mb → Type 0
IsBehindSkipped shape known zero c [] = (is_bottom shape (length known) ≡ false) × (c.left ≡ stop_text c.taken)
IsBehindSkipped shape known zero c (mb ∷ tail) = IsAheadOfFlag shape known c (mb ∷ tail)
IsBehindSkipped shape known (suc left) c tail = IsBehindRun shape known (suc left) c tail

-- The bits left are those of `tail` behind the known macroblocks. `run` tells how many skipped ones are still to be given,
-- where an mb_skip_run above 0 was read; else the last known macroblock, if any, isn't skipped.
abbrev pub Remains : SliceShape → List Mb → Option ℕ → Cursor → List Mb → Type 0
Remains shape known None c = λ tail. c.left ≡ text_after shape c.taken known 0 tail
Remains shape known (Some left) c = IsBehindSkipped shape known left c

-- how many skipped macroblocks are known to come
abbrev pub left_of : Option ℕ → ℕ
left_of run = option_map_or (λ left. left) run 0

-- whole pairs of an MBAFF frame are pairs
abbrev pub HasPairs : SliceShape → List Mb → Type 0
HasPairs shape known = shape.mbaff ≡ true → (pair : ℕ) → 2 * pair + 1 < length known → IsPair shape known pair

-- The last known macroblock isn't skipped where no run was read. Where it is a skipped top, and its bottom is skipped, too,
-- the pair's flag is inferred.
abbrev pub IsOfRun : SliceShape → List Mb → Option ℕ → Type 0
IsOfRun shape known None = is_last_skipped known ≡ false
IsOfRun shape known (Some zero) = Unit {0}
IsOfRun shape known (Some (suc left)) = is_bottom shape (length known) ≡ true → is_last_skipped known ≡ true → last_field known ≡ inferred_field shape known (length known / 2)

-- Of the lists with these bits, exactly those remain that go on from `known` with a tail of which `Is` holds; these begin
-- with the skipped macroblocks that are left of `run`.
pub record Knows (shape : SliceShape) (pos : ℕ) (all : List Bool) (known : List Mb) (run : Option ℕ) (Is : List Mb → Type 0) : Type 0 where
  pub is_shape : IsSliceShape shape
  pub inside : 0 < length known + left_of run → shape.first + (length known + left_of run) ≤ shape.width * shape.height
  pub may_skip : 0 < left_of run → is_kind_in shape.kind Skip ≡ true
  pub are_read : All (IsRead shape) known
  pub pairs : HasPairs shape known
  pub of_run : IsOfRun shape known run
  pub only : (mbs : List Mb) → HasText shape mbs → all ≡ slice_text shape pos mbs → (tail : List Mb) × (mbs ≡ known ++ tail) × Is tail
  pub these : (tail : List Mb) → Is tail → all ≡ slice_text shape pos (known ++ tail)

-- ---- the reader

-- `done` was given of a slice of this shape, whose data are the bits `all`, `pos` bits in: what a reader keeps is what the
-- last ones count and the pair flag of the last one, and of its bits that those of a tail are left of which `Is` holds.
pub record Stands (kept : SliceShape) (rows : LastRows Counts) (field : Bool) (run : Option ℕ) (Is : List Mb → Type 0) (shape : SliceShape) (pos : ℕ) (all : List Bool) (done : List Mb) : Type 0 where
  pub of : kept ≡ shape
  pub rows_are : AreRows counts_of shape rows done
  pub field_is : field ≡ last_field done
  pub knows : Knows shape pos all done run Is

abbrev pub StandsBefore : {B : Type 0} → CavlcReader B → Option ℕ → (List Mb → Type 0) → SliceShape → ℕ → List Bool → List Mb → Type 0
StandsBefore reader run Is shape pos all done = Stands reader.shape reader.rows reader.field run Is shape pos all done

abbrev pub StandsFor : {B : Type 0} → (B → Cursor) → CavlcReader B → SliceShape → ℕ → List Bool → List Mb → Type 0
StandsFor at reader shape pos all done = StandsBefore reader reader.run (Remains shape done reader.run (at reader.bits)) shape pos all done

-- what the reader answered where it stood for `done`
abbrev pub Answers : {B : Type 0} → (B → List Bool) → (B → List Bool) → CavlcReader B → SliceShape → ℕ → List Bool → List Mb → Mb → Result Bool SliceFault → Type 0
Answers taken left reader shape pos all done mb result = NextGives HasText IsText (StandsFor (place_in taken left)) (λ reader. left reader.bits) reader shape pos all done (step_of mb result)
