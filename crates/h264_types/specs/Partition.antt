-- Partitions of inter macroblocks (Tables 7-13, 7-14, 7-17 and 7-18). Quarters are numbered 0 to 3 and 4x4 luma blocks
-- 0 to 15, four to a quarter.
use Rattle.std.specs.Prelude.{ℕ, ◌+◌, ◌-◌, ◌*◌, ◌/◌, ◌%◌, Bool, true, false, ◌==◌, nat_lt, nat_le, if◌then◌else◌, List, [], ◌∷◌, slice_index, slice_index_or}
use Rattle.h264_types.specs.declared.macroblock.MbKind.{MbKind}
use Rattle.h264_types.specs.declared.macroblock.MbKind.TheVariants.{Skip, Intra, P, B}
use Rattle.h264_types.specs.declared.partition.Prediction.{Prediction}
use Rattle.h264_types.specs.declared.partition.Prediction.TheVariants.{Unsent, L0, L1, Bi}
use Rattle.h264_types.specs.Kind.{has_sub_macroblocks}

-- what B types 4 and 5, 6 and 7, .. to 20 and 21 predict their first partition from, and their second (Table 7-14)
abbrev pub first_predictions : List Prediction
first_predictions = L0 ∷ L1 ∷ L0 ∷ L1 ∷ L0 ∷ L1 ∷ Bi ∷ Bi ∷ Bi ∷ []

abbrev pub second_predictions : List Prediction
second_predictions = L0 ∷ L1 ∷ L1 ∷ L0 ∷ Bi ∷ Bi ∷ L0 ∷ L1 ∷ Bi ∷ []

-- B types 0 to 3 (Table 7-14), and sub-macroblock types 0 to 12 in B (Table 7-18)
abbrev pub whole_predictions : List Prediction
whole_predictions = Unsent ∷ L0 ∷ L1 ∷ Bi ∷ []

abbrev pub sub_predictions : List Prediction
sub_predictions =
    Unsent ∷ L0 ∷ L1 ∷ Bi ∷ L0 ∷ L0 ∷ L1 ∷ L1 ∷ Bi ∷ Bi ∷ L0 ∷ L1 ∷ Bi ∷ []

-- the partition that covers a quarter: of one, of two rows (16x8), of two columns (8x16), or of four
abbrev pub partition_of : MbKind → ℕ → ℕ
partition_of (P n) q =
    if n == 1 then q / 2 else if n == 2 then q % 2 else if n == 3 then q else 0
partition_of (B n) q =
    if nat_lt n 4 then 0 else if n == 22 then q else if n % 2 == 0 then q / 2 else q % 2
partition_of Skip q = 0
partition_of (Intra n) q = 0

-- what a quarter is predicted from, by its sub-macroblock type; nothing is sent for direct and skipped ones
abbrev pub prediction_of : MbKind → ℕ → ℕ → Prediction
prediction_of (P n) sub q = L0
prediction_of (B n) sub q =
    if nat_lt n 4 then slice_index_or whole_predictions n Unsent
    else if n == 22 then slice_index_or sub_predictions sub Unsent
    else slice_index_or (if partition_of (B n) q == 0 then first_predictions else second_predictions) ((n - 4) / 2) Unsent
prediction_of Skip sub q = Unsent
prediction_of (Intra n) sub q = Unsent

abbrev pub uses_list : Prediction → ℕ → Bool
uses_list Unsent x = false
uses_list L0 x = x == 0
uses_list L1 x = x == 1
uses_list Bi x = true

-- the part of a quarter that has its block k: of one, of two rows (8x4), of two columns (4x8), or of four
abbrev pub sub_part : MbKind → ℕ → ℕ → ℕ
sub_part (P n) sub k =
    if sub == 1 then k / 2 else if sub == 2 then k % 2 else if sub == 3 then k else 0
sub_part (B n) sub k =
    if nat_lt sub 4 then 0 else if nat_le 10 sub then k else if sub % 2 == 0 then k / 2 else k % 2
sub_part Skip sub k = 0
sub_part (Intra n) sub k = 0

-- blocks with one number here share their motion vectors
abbrev pub part_of : MbKind → List ℕ → ℕ → ℕ
part_of kind subs n =
    4 * partition_of kind (n / 4)
    + (if has_sub_macroblocks kind then sub_part kind (slice_index subs (n / 4)) (n % 4) else 0)
