-- sub_mb_type, one by one.
use Rattle.std.proofs.Common.{◌≡◌, ℕ, ◌+◌, ◌<◌, ◌≤◌, Bool, true, false, length, replicate, get_or, Option, Some, None, refl, sym, ap, arith}
use Rattle.std.specs.Prelude.{All, slice_set}
use Rattle.std.proofs.lemmas.Bool.Decides.{nat_tests}
use Rattle.cabac_engine.specs.Bins.{Slot}
use Rattle.binarisation.specs.BinString.{Value, Reads, Writes}
use Rattle.binarisation.specs.Each.{each}
use Rattle.binarisation.proofs.Strings.{reads_none}
use Rattle.h264_types.specs.Kind.{has_sub_macroblocks}
use Rattle.h264_types.specs.Valid.{sub_bound}
use Rattle.h264_types.specs.declared.macroblock.Mb.{Mb}
use Rattle.h264_types.specs.declared.macroblock.MbKind.{MbKind}
use Rattle.h264_types.specs.declared.macroblock.MbKind.TheVariants.{Skip, Intra, P, B}
use Rattle.h264_types.proofs.Zeros.{zero_numbers}
use Rattle.cabac_inter.specs.InterPrediction.{sub_type, sub_at, subs}
use Rattle.cabac_inter.specs.Stages.{typed, with_subs}
use Rattle.cabac_inter.proofs.Fronts.{front, front_more, front_all}
use Rattle.cabac_inter.proofs.Puts.{reads_put, writes_put}

pub subs_sent : (mb : Mb) → has_sub_macroblocks mb.kind ≡ true → subs mb ≡ each 4 sub_at 0 mb
unfolding subs
subs_sent mb e = rw e refl

pub subs_unsent : (mb : Mb) → has_sub_macroblocks mb.kind ≡ false → subs mb ≡ Value (record mb { subs = replicate 4 0 })
unfolding subs
subs_unsent mb e = rw e refl

module _ {S : Type 0} (q : ℕ) (mb : Mb) (s t : S) where
  pub reads_sub_at : (step : S → Slot → Option Bool → S → Type 0) (sub : ℕ) → Reads step (sub_type mb.kind) (Some sub) s t → Reads step (sub_at q mb) (Some (record mb { subs = slice_set mb.subs q sub })) s t
  unfolding sub_at
  reads_sub_at step sub read = reads_put step (sub_type mb.kind) (λ n. record mb { subs = slice_set mb.subs q n }) sub _ s t refl read

  pub reads_no_sub_at : (step : S → Slot → Option Bool → S → Type 0) → Reads step (sub_type mb.kind) None s t → Reads step (sub_at q mb) None s t
  unfolding sub_at
  reads_no_sub_at step read = reads_none step (sub_type mb.kind) (λ n. Value (record mb { subs = slice_set mb.subs q n })) s t read

-- the macroblock with its first sub_mb_type alone
abbrev pub first_subs : ℕ → Mb → Mb
first_subs k mb = record (typed mb) { subs = front k mb.subs (replicate 4 0) }

pub writes_sub_at : {S : Type 0} (step : S → Slot → Bool → S → Type 0) (k : ℕ) (mb : Mb) (s t : S) → length mb.subs ≡ 4 → k < 4
    → Writes step (sub_type mb.kind) (get_or mb.subs k 0) s t → Writes step (sub_at k (first_subs k mb)) (first_subs (k + 1) mb) s t
unfolding sub_at
writes_sub_at step k mb s t size h written =
    writes_put step (sub_type mb.kind) (λ n. record (typed mb) { subs = slice_set (front k mb.subs (replicate 4 0)) k n }) (get_or mb.subs k 0) (first_subs (k + 1) mb) s t
    (ap (λ l. record (typed mb) { subs = l }) (sym (front_more k mb.subs (replicate 4 0) 0 (omega (arith, h, size)) (sym size)))) written

pub all_subs : (k : ℕ) (mb : Mb) → length mb.subs ≡ 4 → k ≡ 4 → first_subs k mb ≡ with_subs mb
all_subs k mb size e = ap (λ l. record (typed mb) { subs = l }) (front_all k mb.subs (replicate 4 0) (omega (arith, size, e)) (sym size))

-- where none is sent, all are 0
pub no_subs : (mb : Mb) → length mb.subs ≡ 4 → has_sub_macroblocks mb.kind ≡ false → All (λ sub. sub ≤ sub_bound mb.kind) mb.subs → record (typed mb) { subs = replicate 4 0 } ≡ with_subs mb
no_subs mb size e within =
    ap (λ l. record (typed mb) { subs = l }) (sym (zero_numbers 4 mb.subs size (λ k below. omega (arith, within k 0 (omega (arith, below, size)), no_bound mb.kind e))))
  where
    no_bound : (kind : MbKind) → has_sub_macroblocks kind ≡ false → sub_bound kind ≡ 0
    no_bound Skip h = refl
    no_bound (Intra n) h = refl
    no_bound (P n) h = grind (arith, nat_tests)
    no_bound (B n) h = grind (arith, nat_tests)
