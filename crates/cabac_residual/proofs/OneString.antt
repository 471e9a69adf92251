-- No block has two strings of bins.
use Rattle.std.proofs.Common.{◌≡◌, ℕ, zero, suc, ◌+◌, ◌-◌, ℤ, pos, unsigned_abs, eqb, cond, Bool, true, false, List, [], ◌∷◌, ◌++◌, length, replicate, get_or, refl, sym, ap, ◌∙◌, arith}
use Rattle.std.proofs.lemmas.Bool.{lt-ltb}
use Rattle.std.proofs.lemmas.List.{length-append, append_assoc}
use Rattle.std.proofs.Math.Seq.{get_or-append_seam}
use Rattle.cabac_engine.specs.Bins.{Slot, in_context}
use Rattle.binarisation.specs.BinString.{BinString, Value, Next, Spells, ◌>>=◌, HasOneString}
use Rattle.binarisation.specs.Codes.{ueg, signed}
use Rattle.binarisation.proofs.OneString.{splits, then_one, value_one, next_one, ueg_one, signed_one, signed-back}
use Rattle.cabac_residual.specs.Contexts.{flag_context, significance_context, last_context, level_contexts}
use Rattle.cabac_residual.specs.declared.level.Counts.{Counts}
use Rattle.cabac_residual.specs.Block.{is_nonzero, level, level_at, after, no_levels, levels_before, mark, marks_from, coded, block}

-- ---- levels

level_one : (cat : ℕ) (counts : Counts) → HasOneString (level cat counts)
unfolding level
level_one cat counts =
    then_one (ueg (level_contexts cat counts) 14 0 16) (λ (less : ℕ). signed 65535 (less + 1)) (λ value. unsigned_abs value - 1) (ueg_one (level_contexts cat counts) 14 0 16) (λ less. signed_one 65535 (less + 1))
    (λ first second less value h g. omega (arith, signed-back 65535 (less + 1) second value g))

level-some : (cat : ℕ) (counts : Counts) (bins : List (Slot × Bool)) (value : ℤ) → Spells (level cat counts) bins value → is_nonzero value ≡ true
unfolding level
level-some cat counts bins value h =
    let parts = splits (ueg (level_contexts cat counts) 14 0 16) (λ (less : ℕ). signed 65535 (less + 1)) bins value h in
    lt-ltb 0 (unsigned_abs value) (omega (arith, signed-back 65535 (parts.0 + 1) parts.2 value parts.5))

level_at_one : (cat : ℕ) (counts : Counts) (significant : Bool) → HasOneString (level_at cat counts significant)
unfolding level_at
level_at_one cat counts true = level_one cat counts
level_at_one cat counts false = value_one (pos 0)

level_at-told : (cat : ℕ) (counts : Counts) (significant : Bool) (bins : List (Slot × Bool)) (value : ℤ) → Spells (level_at cat counts significant) bins value → is_nonzero value ≡ significant
unfolding level_at
level_at-told cat counts true bins value h = level-some cat counts bins value h
level_at-told cat counts false bins value h = ap is_nonzero (sym h.1)

-- those behind them stay
levels-kept : (cat : ℕ) (counts : Counts) (behind : List ℤ) (marks : List Bool) (bins : List (Slot × Bool)) (value : List ℤ) → Spells (levels_before cat counts behind marks) bins value
    → (levels : List ℤ) × (length levels ≡ length marks) × (value ≡ levels ++ behind)
unfolding levels_before
levels-kept cat counts behind [] bins value h = ([], refl, sym h.1)
levels-kept cat counts behind (significant ∷ marks) bins value h =
    let parts = splits (level_at cat counts significant) (λ (level : ℤ). levels_before cat (after counts level) (level ∷ behind) marks) bins value h in
    let more = levels-kept cat (after counts parts.0) (parts.0 ∷ behind) marks parts.2 value parts.5 in
    (more.0 ++ parts.0 ∷ [], omega (arith, more.1, length-append more.0 (parts.0 ∷ [])), more.2 ∙ sym (append_assoc more.0 (parts.0 ∷ []) behind))

levels_one : (cat : ℕ) (counts : Counts) (behind : List ℤ) (marks : List Bool) → HasOneString (levels_before cat counts behind marks)
unfolding levels_before
levels_one cat counts behind [] = value_one behind
levels_one cat counts behind (significant ∷ marks) =
    then_one (level_at cat counts significant) (λ (level : ℤ). levels_before cat (after counts level) (level ∷ behind) marks) (λ value. get_or value (length marks) (pos 0))
    (level_at_one cat counts significant) (λ level. levels_one cat (after counts level) (level ∷ behind) marks)
    (λ first second level value h g.
    let kept = levels-kept cat (after counts level) (level ∷ behind) marks second value g in
    rw (kept.2, ← kept.1) (get_or-append_seam kept.0 level behind (pos 0)))

-- whether each level is other than 0, the last one first, in front of others
marks_onto : List ℤ → List Bool → List Bool
marks_onto [] marks = marks
marks_onto (level ∷ levels) marks = marks_onto levels (is_nonzero level ∷ marks)

levels-marks : (cat : ℕ) (counts : Counts) (behind : List ℤ) (marks : List Bool) (bins : List (Slot × Bool)) (value : List ℤ) → Spells (levels_before cat counts behind marks) bins value
    → marks_onto value [] ≡ marks_onto behind marks
unfolding levels_before marks_onto
levels-marks cat counts behind [] bins value h = ap (λ (l : List ℤ). marks_onto l []) (sym h.1)
levels-marks cat counts behind (significant ∷ marks) bins value h =
    let parts = splits (level_at cat counts significant) (λ (level : ℤ). levels_before cat (after counts level) (level ∷ behind) marks) bins value h in
    let more = levels-marks cat (after counts parts.0) (parts.0 ∷ behind) marks parts.2 value parts.5 in
    more ∙ ap (λ (b : Bool). marks_onto behind (b ∷ marks)) (level_at-told cat counts significant parts.1 parts.0 parts.4)

-- from the last significant one on
from_last : List Bool → List Bool
from_last [] = []
from_last (true ∷ marks) = true ∷ marks
from_last (false ∷ marks) = from_last marks

from_last-zeros : (count : ℕ) (marks : List Bool) → from_last (marks_onto (replicate count (pos 0)) marks) ≡ from_last marks
unfolding marks_onto from_last
from_last-zeros zero marks = refl
from_last-zeros (suc count) marks = from_last-zeros count (false ∷ marks)

-- ---- marks

-- what follows a place that is significant
behind_significant : ℕ → Bool → List Bool → ℕ → ℕ → Bool → BinString (List Bool)
behind_significant cat field before place more last = cond last (Value (true ∷ before)) (marks_from cat field (true ∷ before) (place + 1) more)

-- the last one is significant, and those before this place stay
marks-kept : (cat : ℕ) (field : Bool) (before : List Bool) (place more : ℕ) (bins : List (Slot × Bool)) (value : List Bool) → Spells (marks_from cat field before place more) bins value
    → (marks : List Bool) × (value ≡ true ∷ (marks ++ before))
unfolding marks_from mark ◌>>=◌
marks-kept cat field before place zero bins value h = ([], sym h.1)
marks-kept cat field before place (suc more) [] value h = absurd h
marks-kept cat field before place (suc more) ((k, false) ∷ bins) value h =
    let kept = marks-kept cat field (false ∷ before) (place + 1) more bins value h.1 in
    (kept.0 ++ false ∷ [], kept.1 ∙ ap (λ (l : List Bool). true ∷ l) (sym (append_assoc kept.0 (false ∷ []) before)))
marks-kept cat field before place (suc more) ((k, true) ∷ []) value h = absurd h.1
marks-kept cat field before place (suc more) ((k, true) ∷ (l, true) ∷ bins) value h = ([], sym h.1.1.1)
marks-kept cat field before place (suc more) ((k, true) ∷ (l, false) ∷ bins) value h =
    let kept = marks-kept cat field (true ∷ before) (place + 1) more bins value h.1.1 in
    (kept.0 ++ true ∷ [], kept.1 ∙ ap (λ (l : List Bool). true ∷ l) (sym (append_assoc kept.0 (true ∷ []) before)))

-- a list doesn't end in two ways
ends_apart : (ms ns before : List Bool) → ms ++ true ∷ before ≡ ns ++ false ∷ before → ⊥
ends_apart [] [] before e = cc
ends_apart [] (n ∷ ns) before e = omega (arith, ap length e, length-append ns (false ∷ before))
ends_apart (m ∷ ms) [] before e = omega (arith, ap length e, length-append ms (true ∷ before))
ends_apart (m ∷ ms) (n ∷ ns) before e = let tail : ms ++ true ∷ before ≡ ns ++ false ∷ before = cc in ends_apart ms ns before tail

significant-kept : (cat : ℕ) (field : Bool) (before : List Bool) (place more : ℕ) (slot : Slot) (bins : List (Slot × Bool)) (value : List Bool)
    → Spells (Next slot (behind_significant cat field before place more)) bins value → (marks : List Bool) × (value ≡ marks ++ true ∷ before)
unfolding behind_significant
significant-kept cat field before place more slot [] value h = absurd h
significant-kept cat field before place more slot ((k, true) ∷ bins) value h = ([], sym h.1.1)
significant-kept cat field before place more slot ((k, false) ∷ bins) value h = let kept = marks-kept cat field (true ∷ before) (place + 1) more bins value h.1 in (true ∷ kept.0, kept.1)

significant_one : (cat : ℕ) (field : Bool) (before : List Bool) (place more : ℕ) (slot : Slot) → HasOneString (marks_from cat field (true ∷ before) (place + 1) more) → HasOneString (Next slot (behind_significant cat field before place more))
unfolding behind_significant
significant_one cat field before place more slot others =
    next_one slot (behind_significant cat field before place more) others (value_one (true ∷ before))
    (λ bins _ value h g.
    let kept = marks-kept cat field (true ∷ before) (place + 1) more bins value h in
    let e : true ∷ (kept.0 ++ true ∷ before) ≡ true ∷ before = sym kept.1 ∙ sym g.1 in
    omega (arith, ap length e, length-append kept.0 (true ∷ before)))

marks_one : (cat : ℕ) (field : Bool) (before : List Bool) (place more : ℕ) → HasOneString (marks_from cat field before place more)
unfolding marks_from mark ◌>>=◌ behind_significant
marks_one cat field before place zero = value_one (true ∷ before)
marks_one cat field before place (suc more) =
    next_one (in_context (significance_context cat field place))
    (λ significant. cond significant (Next (in_context (last_context cat field place)) (λ last. Value (true, last))) (Value (false, false)) >>= (λ m. cond m.1 (Value (m.0 ∷ before)) (marks_from cat field (m.0 ∷ before) (place + 1) more)))
    (marks_one cat field (false ∷ before) (place + 1) more)
    (significant_one cat field before place more (in_context (last_context cat field place)) (marks_one cat field (true ∷ before) (place + 1) more))
    (λ bins others value h g.
    let low = marks-kept cat field (false ∷ before) (place + 1) more bins value h in
    let high = significant-kept cat field before place more (in_context (last_context cat field place)) others value g in
    ends_apart high.0 (true ∷ low.0) before (sym high.1 ∙ low.1))

-- ---- blocks

-- the marks, from the levels
coded-marks : (cat : ℕ) (field : Bool) (max : ℕ) (first second : List (Slot × Bool)) (marks : List Bool) (value : List ℤ) → Spells (marks_from cat field [] 0 (max - 1)) first marks
    → Spells (levels_before cat no_levels (replicate (max - length marks) (pos 0)) marks) second value → (others : List Bool) × (marks ≡ true ∷ others) × (from_last (marks_onto value []) ≡ marks)
unfolding from_last
coded-marks cat field max first second marks value h g =
    let kept = marks-kept cat field [] 0 (max - 1) first marks h in
    let on = levels-marks cat no_levels (replicate (max - length marks) (pos 0)) marks second value g in
    let last : from_last marks ≡ marks = ap from_last kept.1 ∙ sym kept.1 in
    (kept.0 ++ [], kept.1, ap from_last on ∙ from_last-zeros (max - length marks) marks ∙ last)

coded_one : (cat : ℕ) (field : Bool) (max : ℕ) → HasOneString (coded cat field max)
unfolding coded
coded_one cat field max =
    then_one (marks_from cat field [] 0 (max - 1)) (λ (marks : List Bool). levels_before cat no_levels (replicate (max - length marks) (pos 0)) marks) (λ value. from_last (marks_onto value []))
    (marks_one cat field [] 0 (max - 1)) (λ marks. levels_one cat no_levels (replicate (max - length marks) (pos 0)) marks)
    (λ first second marks value h g. (coded-marks cat field max first second marks value h g).2)

-- a level is other than 0
coded-some : (cat : ℕ) (field : Bool) (max count : ℕ) (bins : List (Slot × Bool)) (value : List ℤ) → Spells (coded cat field max) bins value → replicate count (pos 0) ≡ value → ⊥
unfolding coded from_last
coded-some cat field max count bins value h e =
    let parts = splits (marks_from cat field [] 0 (max - 1)) (λ (marks : List Bool). levels_before cat no_levels (replicate (max - length marks) (pos 0)) marks) bins value h in
    let marks = coded-marks cat field max parts.1 parts.2 parts.0 value parts.4 parts.5 in
    let none : from_last (marks_onto (replicate count (pos 0)) []) ≡ [] = from_last-zeros count [] in
    let zeros : from_last (marks_onto value []) ≡ [] = ap (λ (l : List ℤ). from_last (marks_onto l [])) (sym e) ∙ none in
    let both : true ∷ marks.0 ≡ [] = sym marks.1 ∙ sym marks.2 ∙ zeros in
    cc

pub block_one : (cat : ℕ) (field : Bool) (inc max : ℕ) → HasOneString (block cat field inc max)
unfolding block ◌>>=◌
block_one cat field inc max = by (eqb cat 5)
  where
    by : (plain : Bool) → HasOneString (cond plain (coded cat field max) (Next (in_context (flag_context cat inc)) (λ some. cond some (coded cat field max) (Value (replicate max (pos 0))))))
    by true = coded_one cat field max
    by false =
        next_one (in_context (flag_context cat inc)) (λ some. cond some (coded cat field max) (Value (replicate max (pos 0)))) (value_one (replicate max (pos 0))) (coded_one cat field max)
        (λ bins others value h g. coded-some cat field max max others value g h.1)
