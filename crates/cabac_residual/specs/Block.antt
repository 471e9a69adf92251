-- residual_block_cabac (7.3.5.3.3), as a string of bins.
use Rattle.std.specs.Prelude.{⊤, ℕ, zero, suc, ◌+◌, ◌-◌, ◌<◌, ◌≤◌, ◌==◌, nat_lt, ℤ, pos, unsigned_abs, Bool, true, false, List, [], ◌∷◌, ◌++◌, length, replicate, slice_index_or, if◌then◌else◌}
use Rattle.std.specs.List.{AllByRecursion}
use Rattle.cabac_engine.specs.Bins.{in_context}
use Rattle.binarisation.specs.BinString.{BinString, Value, Next, ◌>>=◌}
use Rattle.binarisation.specs.Codes.{flag, ueg, signed}
use Rattle.cabac_residual.specs.declared.level.Counts.{Counts}
use Rattle.cabac_residual.specs.Contexts.{flag_context, significance_context, last_context, level_contexts}

abbrev pub is_nonzero : ℤ → Bool
is_nonzero level = nat_lt 0 (unsigned_abs level)

-- coeff_abs_level_minus1 and coeff_sign_flag: a level other than 0, of a magnitude of at most 65535
unfoldable pub level : ℕ → Counts → BinString ℤ
level cat counts = ueg (level_contexts cat counts) 14 0 16 >>= (λ less. signed 65535 (less + 1))

-- the level at a place, which is 0 where the place isn't significant
unfoldable pub level_at : ℕ → Counts → Bool → BinString ℤ
level_at cat counts significant = if significant then level cat counts else Value (pos 0)

-- the counts before the last level, and after a level
abbrev pub no_levels : Counts
no_levels = record { ones = 0; above = 0 }

abbrev pub after : Counts → ℤ → Counts
after counts level =
    if unsigned_abs level == 0 then counts else
    if unsigned_abs level == 1 then record { ones = counts.ones + 1; above = counts.above } else
    record { ones = counts.ones; above = counts.above + 1 }

-- The levels of the places with these marks, from the last one down, in front of those behind them.
unfoldable pub levels_before : ℕ → Counts → List ℤ → List Bool → BinString (List ℤ)
levels_before cat counts behind [] = Value behind
levels_before cat counts behind (significant ∷ marks) =
    level_at cat counts significant >>= (λ level. levels_before cat (after counts level) (level ∷ behind) marks)

-- whether a place is significant, and whether it is the last one
unfoldable pub mark : ℕ → Bool → ℕ → BinString (Bool × Bool)
mark cat field place =
    Next (in_context (significance_context cat field place)) (λ significant. if significant then
    Next (in_context (last_context cat field place)) (λ last. Value (true, last))
    else Value (false, false))

-- The marks of the places up to the last significant one, the last place first, on top of those before this place, with so
-- many places behind it. The last place has no bins: it is significant where no other one was the last.
unfoldable pub marks_from : ℕ → Bool → List Bool → ℕ → ℕ → BinString (List Bool)
marks_from cat field before place zero = Value (true ∷ before)
marks_from cat field before place (suc more) =
    mark cat field place >>= (λ m. if m.1 then Value (m.0 ∷ before) else marks_from cat field (m.0 ∷ before) (place + 1) more)

-- The marks of the places below n, the last one first, where the places of a list, the last one first, are significant; and
-- where the marks begin.
unfoldable pub marks_below : ℕ → List ℕ → List Bool
marks_below n [] = replicate n false
marks_below n (place ∷ places) = replicate (n - (place + 1)) false ++ (true ∷ marks_below place places)

unfoldable pub behind_last : List ℕ → ℕ
behind_last [] = 0
behind_last (place ∷ places) = place + 1

-- Each place of a list is below the one in front of it, and the first one below n.
unfoldable pub AreBelow : ℕ → List ℕ → Type 0
AreBelow n [] = ⊤
AreBelow n (place ∷ places) = (place < n) × AreBelow place places

-- the levels of a block in which one is other than 0
unfoldable pub coded : ℕ → Bool → ℕ → BinString (List ℤ)
coded cat field max =
    marks_from cat field [] 0 (max - 1) >>= (λ marks.
    levels_before cat no_levels (replicate (max - length marks) (pos 0)) marks)

-- A block of max levels, in scan order. Category 5 has no coded_block_flag.
unfoldable pub block : ℕ → Bool → ℕ → ℕ → BinString (List ℤ)
block cat field inc max =
    if cat == 5 then coded cat field max else
    flag (flag_context cat inc) >>= (λ some. if some then coded cat field max else Value (replicate max (pos 0)))

-- the levels are in range
abbrev pub AreLevels : List ℤ → Type 0
AreLevels levels = AllByRecursion (λ level. unsigned_abs level ≤ 65535) levels

-- whether each of the first places is significant, the last one first
unfoldable pub marks_of : ℕ → List ℤ → List Bool
marks_of zero levels = []
marks_of (suc count) levels = is_nonzero (slice_index_or levels count (pos 0)) ∷ marks_of count levels
