-- The contexts of a residual block's bins (9.3.3.1.1.9 and 9.3.3.1.3, Tables 9-34 and 9-40), by ctxBlockCat.
use Rattle.std.specs.Prelude.{◌≡◌, ◌⊎◌, ℕ, ◌+◌, ◌*◌, ◌<◌, ◌==◌, min, Bool, List, [], ◌∷◌, slice_index_or, if◌then◌else◌}
use Rattle.code_tables.specs.SignificanceMaps.{significance_list, last_list}
use Rattle.cabac_residual.specs.declared.level.Counts.{Counts}

-- so many levels as a block of the category may have at most
abbrev pub IsShape : ℕ → ℕ → Type 0
IsShape cat max = (cat < 6) × (0 < max) × (max < 65) × ((cat ≡ 5) ⊎ (max < 17))

-- coded_block_flag
abbrev pub flag_context : ℕ → ℕ → ℕ
flag_context cat inc = 85 + 4 * cat + inc

-- the place that counts: in the chroma DC of 4:2:0 no place is above 2
abbrev pub place_of : ℕ → ℕ → ℕ
place_of cat place = if cat == 3 then min place 2 else place

-- ctxBlockCatOffset of significant_coeff_flag and last_significant_coeff_flag, of categories 0 to 4
abbrev pub map_offsets : List ℕ
map_offsets = 0 ∷ 15 ∷ 29 ∷ 44 ∷ 47 ∷ []

-- ctxIdxOffset and ctxBlockCatOffset of coeff_abs_level_minus1, of categories 0 to 5
abbrev pub level_bases : List ℕ
level_bases = (227 + 0) ∷ (227 + 10) ∷ (227 + 20) ∷ (227 + 30) ∷ (227 + 39) ∷ (426 + 0) ∷ []

-- significant_coeff_flag and last_significant_coeff_flag
abbrev pub significance_context : ℕ → Bool → ℕ → ℕ
significance_context cat field place =
    if cat == 5 then (if field then 436 else 402) + slice_index_or (significance_list field) place 0
    else (if field then 277 else 105) + slice_index_or map_offsets cat 0 + place_of cat place

abbrev pub last_context : ℕ → Bool → ℕ → ℕ
last_context cat field place =
    if cat == 5 then (if field then 451 else 417) + slice_index_or last_list place 0
    else (if field then 338 else 166) + slice_index_or map_offsets cat 0 + place_of cat place

-- The bins of coeff_abs_level_minus1: the first one, and all others. The levels met so far were counts.ones of magnitude 1,
-- and counts.above of a greater one.
abbrev pub level_contexts : ℕ → Counts → List ℕ
level_contexts cat counts =
    let base = slice_index_or level_bases cat 0 in
    let first = base + (if counts.above == 0 then min 4 (1 + counts.ones) else 0) in
    let other = base + 5 + min (if cat == 3 then 3 else 4) counts.above in
    first ∷ other ∷ other ∷ other ∷ other ∷ []
