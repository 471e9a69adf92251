-- What is kept of the slices that were read for telling the periods.
use Rattle.std.specs.Prelude.{◌≡◌, ℕ, ◌-◌, ◌^◌, min, List}
use Rattle.slice_rewrite.specs.Items.{Item}
use Rattle.slice_rewrite.specs.Periods.{idr_before, periods_in}
use Rattle.stream_recoder.specs.declared.periods.Periods.{Periods}

-- so many periods as a count says that stands still at the greatest u64
abbrev pub period_count : ℕ → ℕ
period_count n = min n (2 ^ 64 - 1)

-- these are the periods that have begun among these items, of which the last one comes first
pub record AreBegun (before : List Item) (periods : Periods) : Type 0 where
  pub count : periods.begun ≡ period_count (periods_in before)
  pub last : periods.last ≡ idr_before before
