-- Blocks of levels in range have bins.
use Rattle.std.proofs.Common.{◌≡◌, ◌⊎◌, inl, inr, ℕ, zero, suc, ◌+◌, ◌-◌, ◌<◌, ◌≤◌, ℤ, pos, negsuc, unsigned_abs, Bool, true, false, List, [], ◌∷◌, length, drop, replicate, get_or, refl, sym, ap, subst, ◌∙◌, arith}
use Rattle.std.proofs.lemmas.Bool.{lt-ltb}
use Rattle.std.proofs.lemmas.Bool.Decides.{leb_tells, eqb_tells}
use Rattle.std.proofs.lemmas.List.Elements.{All-from_recursion}
use Rattle.cabac_engine.specs.Bins.{Slot}
use Rattle.binarisation.specs.BinString.{Spells}
use Rattle.binarisation.specs.Codes.{ueg, signed}
use Rattle.binarisation.proofs.HasBins.{Takes, HasBins, then_has, ueg_has, signed_has, spelled_by}
use Rattle.cabac_residual.specs.Block.{is_nonzero, level, level_at, after, no_levels, levels_before, mark, marks_from, marks_of, coded, block, AreLevels}
use Rattle.cabac_residual.specs.Contexts.{level_contexts}
use Rattle.cabac_residual.specs.declared.level.Counts.{Counts}
use Rattle.cabac_residual.proofs.BlockLevels.{NotZeros}
use Rattle.cabac_residual.proofs.Blocks.{writes_zero, writes_level, write_mark_at, write_last_mark, write_inferred, write_down, writes_levels_end, writes_coded, block_5, writes_flagged, writes_uncoded}

-- ---- levels

level_has : (cat : ℕ) (counts : Counts) (value : ℤ) → 0 < unsigned_abs value → unsigned_abs value ≤ 65535 → HasBins (level cat counts) value
unfolding level
level_has cat counts value some small =
    let less : ℕ = unsigned_abs value - 1 in
    let magnitude : unsigned_abs value ≡ less + 1 = omega (arith, some) in
    then_has (ueg (level_contexts cat counts) 14 0 16) (λ less. signed 65535 (less + 1)) less value (ueg_has (level_contexts cat counts) 14 0 16 less (omega (arith, small)))
    (subst (λ (n : ℕ). HasBins (signed 65535 n) value) magnitude (signed_has 65535 value small))

level_at_has : (cat : ℕ) (counts : Counts) (value : ℤ) → unsigned_abs value ≤ 65535 → HasBins (level_at cat counts (is_nonzero value)) value
level_at_has cat counts value small =
    elim (leb_tells 1 (unsigned_abs value)) [
      | inl some ↦ writes_level Takes cat counts value false false some.1 (level_has cat counts value some.1 small)
      | inr none ↦ writes_zero Takes cat counts value false (omega (arith, none.1))
    ]

levels_have : (cat : ℕ) (levels : List ℤ) → AreLevels levels → (before : ℕ) (counts : Counts) → before ≤ length levels → HasBins (levels_before cat counts (drop before levels) (marks_of before levels)) levels
unfolding marks_of
levels_have cat levels small zero counts h = writes_levels_end Takes cat counts levels false
levels_have cat levels small (suc at) counts h =
    let value : ℤ = get_or levels at (pos 0) in
    let within : unsigned_abs value ≤ 65535 = All-from_recursion (λ level. unsigned_abs level ≤ 65535) levels small at (pos 0) (omega (arith, h)) in
    write_down Takes cat counts (after counts value) levels at (suc at) value levels false false false (omega arith) (omega (arith, h)) refl refl (level_at_has cat counts value within)
    (levels_have cat levels small at (after counts value) (omega (arith, h)))

-- ---- marks

mark_has : (cat : ℕ) (field : Bool) (place : ℕ) (significant last : Bool) → (last ≡ true → significant ≡ true) → HasBins (mark cat field place) (significant, last)
unfolding mark
mark_has cat field place true last h = (true, false, (refl, refl), (last, false, (refl, refl), (refl, refl)))
mark_has cat field place false true h = let clash = h refl in absurd cc
mark_has cat field place false false h = (false, false, (refl, refl), (refl, refl))

-- from a place on, so many before the last significant one
marks_have : (cat : ℕ) (field : Bool) (levels : List ℤ) (last : ℕ) → last < length levels → is_nonzero (get_or levels last (pos 0)) ≡ true → (more place : ℕ) → place + more ≡ last
    → HasBins (marks_from cat field (marks_of place levels) place (length levels - 1 - place)) (marks_of (last + 1) levels)
marks_have cat field levels last inside some zero place e =
    let same : place ≡ last = omega (arith, e) in
    let here : is_nonzero (get_or levels place (pos 0)) ≡ true = ap (λ (k : ℕ). is_nonzero (get_or levels k (pos 0))) same ∙ some in
    subst (λ (k : ℕ). HasBins (marks_from cat field (marks_of place levels) place (length levels - 1 - place)) (marks_of (k + 1) levels)) same
    (elim (leb_tells (place + 2) (length levels)) [
      | inl is ↦ write_last_mark Takes cat field levels place (length levels - 1) false false (omega (arith, is.1)) here (mark_has cat field place true true (λ h. refl))
      | inr end ↦ write_inferred Takes cat field levels place (length levels - 1) false (omega (arith, end.1, inside, same)) here
    ])
marks_have cat field levels last inside some (suc more) place e =
    write_mark_at Takes cat field levels place (length levels - 1) (is_nonzero (get_or levels place (pos 0))) (marks_of (last + 1) levels) false false false (omega (arith, e, inside)) refl
    (mark_has cat field place (is_nonzero (get_or levels place (pos 0))) false (λ h. absurd cc)) (marks_have cat field levels last inside some more (place + 1) (omega (arith, e)))

-- ---- the last level other than 0

abbrev IsLast : List ℤ → ℕ → Type 0
IsLast levels last = (last < length levels) × (is_nonzero (get_or levels last (pos 0)) ≡ true) × (drop (last + 1) levels ≡ replicate (length levels - (last + 1)) (pos 0))

zero_level : (value : ℤ) → unsigned_abs value ≡ 0 → value ≡ pos 0
zero_level (pos n) e = ap pos e
zero_level (negsuc n) e = absurd cc

last_level : (levels : List ℤ) → (levels ≡ replicate (length levels) (pos 0)) ⊎ ((last : ℕ) × IsLast levels last)
last_level [] = inl refl
last_level (x ∷ levels) = by (last_level levels)
  where
    by : (levels ≡ replicate (length levels) (pos 0)) ⊎ ((last : ℕ) × IsLast levels last) → (x ∷ levels ≡ replicate (length (x ∷ levels)) (pos 0)) ⊎ ((last : ℕ) × IsLast (x ∷ levels) last)
    by (inr (last, (inside, some, behind))) =
        let one : suc last + 1 ≡ suc (last + 1) = omega arith in
        let less : length (x ∷ levels) - (suc last + 1) ≡ length levels - (last + 1) = omega arith in
        inr (suc last, (omega (arith, inside), some, ap (λ (k : ℕ). drop k (x ∷ levels)) one ∙ behind ∙ ap (λ (k : ℕ). replicate k (pos 0)) (sym less)))
    by (inl zeros) =
        elim (leb_tells 1 (unsigned_abs x)) [
          | inl some ↦ inr (0, (omega arith, lt-ltb 0 (unsigned_abs x) some.1, (let less : suc (length levels) - 1 ≡ length levels = omega arith in zeros ∙ ap (λ (k : ℕ). replicate k (pos 0)) (sym less))))
          | inr none ↦ inl (ap (λ (v : ℤ). v ∷ levels) (zero_level x (omega (arith, none.1))) ∙ ap (λ (l : List ℤ). pos 0 ∷ l) zeros)
        ]

-- ---- blocks

coded_has : (cat : ℕ) (field : Bool) (levels : List ℤ) (last : ℕ) → AreLevels levels → IsLast levels last → HasBins (coded cat field (length levels)) levels
unfolding marks_of
coded_has cat field levels last small (inside, some, behind) =
    let whole : length levels - 1 - 0 ≡ length levels - 1 = omega arith in
    writes_coded Takes cat field levels (last + 1) false false false behind
    (subst (λ (k : ℕ). HasBins (marks_from cat field [] 0 k) (marks_of (last + 1) levels)) whole (marks_have cat field levels last inside some last 0 (omega arith)))
    (levels_have cat levels small (last + 1) no_levels (omega (arith, inside)))

pub block_has : (cat : ℕ) (field : Bool) (inc : ℕ) (levels : List ℤ) → AreLevels levels → (cat ≡ 5 → NotZeros levels) → HasBins (block cat field inc (length levels)) levels
block_has cat field inc levels small some = by (last_level levels)
  where
    by : (levels ≡ replicate (length levels) (pos 0)) ⊎ ((last : ℕ) × IsLast levels last) → HasBins (block cat field inc (length levels)) levels
    by (inl zeros) =
        elim (eqb_tells cat 5) [
          | inl is ↦ absurd (some is.1 (length levels) zeros)
          | inr other ↦ writes_uncoded Takes cat field inc (length levels) _ levels false false other.1 refl zeros (refl, refl)
        ]
    by (inr (last, is_last)) =
        let has = coded_has cat field levels last small is_last in
        elim (eqb_tells cat 5) [
          | inl is ↦ rw (block_5 cat field inc (length levels) is.1) has
          | inr other ↦ writes_flagged Takes cat field inc (length levels) _ levels false false false other.1 refl (refl, refl) has
        ]

pub block_spelled : (cat : ℕ) (field : Bool) (inc : ℕ) (levels : List ℤ) → AreLevels levels → (cat ≡ 5 → NotZeros levels) → (bins : List (Slot × Bool)) × Spells (block cat field inc (length levels)) bins levels
block_spelled cat field inc levels small some = spelled_by (block cat field inc (length levels)) levels false (block_has cat field inc levels small some)
