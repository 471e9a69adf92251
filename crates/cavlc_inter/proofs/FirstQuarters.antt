-- The first quarter of a partition by its number.
use Rattle.std.proofs.Common.{◌≡◌, ℕ, zero, suc, ◌*◌, ◌/◌, ◌%◌, ◌<◌, Bool, true, false, refl, sym, arith}
use Rattle.std.specs.Prelude.{◌==◌, nat_lt, if◌then◌else◌}
use Rattle.h264_types.specs.Partition.{partition_of}
use Rattle.h264_types.specs.declared.macroblock.MbKind.{MbKind}
use Rattle.h264_types.specs.declared.macroblock.MbKind.TheVariants.{Skip, Intra, P, B}
use Rattle.cavlc_inter.specs.Parts.{first_from, first_of}

abbrev by_number : (ℕ → ℕ) → ℕ → ℕ
by_number part q = if part 2 == 1 then 2 * part q else part q

of_one : (q : ℕ) → q < 4 → first_of (λ m. 0) q ≡ by_number (λ m. 0) q
unfolding first_from
of_one zero h = refl
of_one (suc q) h = refl

of_rows : (q : ℕ) → q < 4 → first_of (λ m. m / 2) q ≡ by_number (λ m. m / 2) q
unfolding first_from
of_rows zero h = refl
of_rows (suc zero) h = refl
of_rows (suc (suc zero)) h = refl
of_rows (suc (suc (suc zero))) h = refl
of_rows (suc (suc (suc (suc q)))) h = absurd (omega arith)

of_columns : (q : ℕ) → q < 4 → first_of (λ m. m % 2) q ≡ by_number (λ m. m % 2) q
unfolding first_from
of_columns zero h = refl
of_columns (suc zero) h = refl
of_columns (suc (suc zero)) h = refl
of_columns (suc (suc (suc zero))) h = refl
of_columns (suc (suc (suc (suc q)))) h = absurd (omega arith)

of_quarters : (q : ℕ) → q < 4 → first_of (λ m. m) q ≡ by_number (λ m. m) q
unfolding first_from
of_quarters zero h = refl
of_quarters (suc zero) h = refl
of_quarters (suc (suc zero)) h = refl
of_quarters (suc (suc (suc zero))) h = refl
of_quarters (suc (suc (suc (suc q)))) h = absurd (omega arith)

pub first_by_number : (kind : MbKind) (q : ℕ) → q < 4 → by_number (partition_of kind) q ≡ first_of (partition_of kind) q
first_by_number Skip q h = sym (of_one q h)
first_by_number (Intra n) q h = sym (of_one q h)
first_by_number (P n) q h = sym (by (n == 1) (n == 2) (n == 3))
  where
    by : (rows columns quarters : Bool) → let part : ℕ → ℕ = λ m. if rows then m / 2 else if columns then m % 2 else if quarters then m else 0 in first_of part q ≡ by_number part q
    by true columns quarters = of_rows q h
    by false true quarters = of_columns q h
    by false false true = of_quarters q h
    by false false false = of_one q h
first_by_number (B n) q h = sym (by (nat_lt n 4) (n == 22) (n % 2 == 0))
  where
    by : (one quarters rows : Bool) → let part : ℕ → ℕ = λ m. if one then 0 else if quarters then m else if rows then m / 2 else m % 2 in first_of part q ≡ by_number part q
    by true quarters rows = of_one q h
    by false true rows = of_quarters q h
    by false false true = of_rows q h
    by false false false = of_columns q h
