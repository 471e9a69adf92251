-- The account of a run: what was read, and the sums over the units that were written.
use Rattle.std.specs.Prelude.{ℕ, ◌-◌, ◌^◌, min, List, length, sum_by}
use Rattle.stream_taps.specs.declared.event.Event.{Event}
use Rattle.stream_taps.specs.Tally.{slices_in}
use Rattle.recode_run.specs.declared.account.Account.{Account}

-- a number that stops at the greatest u64
abbrev pub capped : ℕ → ℕ
capped n = min n (2 ^ 64 - 1)

-- the account of a run that read so many bytes and wrote these units
abbrev pub account_of : ℕ → List Event → Account
account_of read events = record {
  units = capped (length events);
  slices = capped (sum_by slices_in events);
  macroblocks = capped (sum_by (λ e. e.macroblocks) events);
  bytes_in = capped read;
  bytes_out = capped (sum_by (λ e. e.bytes_out) events);
}
