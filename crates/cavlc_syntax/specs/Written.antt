-- What a writer of slice data stands for: the bits before the slice, and the macroblocks put so far.
use Rattle.std.specs.Prelude.{◌≡◌, ℕ, ◌≤◌, nat_lt, Bool, true, false, List, ◌++◌, length, Result, Ok, Err}
use Rattle.bit_texts.specs.Texts.{Wrote}
use Rattle.cavlc_mb_residual.specs.Counts.{counts_of}
use Rattle.cavlc_mb_residual.specs.declared.counts.Counts.{Counts}
use Rattle.h264_types.specs.Kind.{is_skip}
use Rattle.h264_types.specs.LastRows.{LastRows, AreRows}
use Rattle.h264_types.specs.declared.macroblock.Mb.{Mb}
use Rattle.h264_types.specs.declared.slice_shape.SliceShape.{SliceShape}
use Rattle.h264_types.specs.SliceShape.{IsSliceShape}
use Rattle.slice_data.specs.declared.fault.PutFault.{PutFault}
use Rattle.slice_data.specs.declared.fault.PutFault.TheVariants.{Beyond, Memory}
use Rattle.cavlc_syntax.specs.declared.writer.CavlcWriter.{CavlcWriter}
use Rattle.cavlc_syntax.specs.SliceText.{IsNotBeyond, is_last_skipped, sends_field, around_next, put_text, text_after, slice_text}

-- `done` was put behind the bits `before`: whatever follows, the text of the whole is what was put and the text of the
-- rest. A writer keeps the shape, what the last ones count, and how many of them are skipped and in no mb_skip_run yet.
pub record Writes (kept : SliceShape) (rows : LastRows Counts) (run : ℕ) (bits : List Bool) (shape : SliceShape) (before : List Bool) (done : List Mb) : Type 0 where
  pub of : kept ≡ shape
  pub is_shape : IsSliceShape shape
  pub rows_are : AreRows counts_of shape rows done
  pub few : run ≤ rows.count
  pub last : is_last_skipped done ≡ nat_lt 0 run
  pub text : (tail : List Mb) → before ++ slice_text shape (length before) (done ++ tail) ≡ bits ++ text_after shape (length bits) done run tail

abbrev pub WritesFor : {B : Type 0} → (B → List Bool) → CavlcWriter B → SliceShape → List Bool → List Mb → Type 0
WritesFor bits writer shape before done = Writes writer.shape writer.rows writer.run (bits writer.bits) shape before done

-- The bits that `put` leaves behind macroblocks of which the last `run` ones are skipped and in no mb_skip_run yet: those
-- before, where the macroblock is skipped or needs a longer level_prefix than the profile has; where there is no memory, a
-- front of its text behind them, with the mb_skip_run before it and the flag of its pair.
abbrev pub PutsBits : SliceShape → List Mb → ℕ → List Bool → List Bool → Mb → Result (Unit {0}) PutFault → Type 0
PutsBits shape done run old new mb (Ok x) = is_skip mb.kind ≡ true → new ≡ old
PutsBits shape done run old new mb (Err Beyond) = new ≡ old
PutsBits shape done run old new mb (Err Memory) =
    IsNotBeyond shape mb × (is_skip mb.kind ≡ false) × ((rest : List Bool) × Wrote old new (put_text shape (sends_field shape done) (around_next shape mb.field done) (length old) run mb) rest)
