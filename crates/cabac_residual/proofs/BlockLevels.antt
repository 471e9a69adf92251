-- What the bins of a block spell: so many levels, in range, and in category 5 not all 0.
use Rattle.std.proofs.Common.{◌≡◌, ℕ, zero, suc, ◌+◌, ◌-◌, ◌<◌, ◌≤◌, ℤ, pos, unsigned_abs, eqb, ltb, cond, Bool, true, false, List, [], ◌∷◌, length, replicate, refl, sym, ap, subst, ◌∙◌, arith}
use Rattle.std.proofs.lemmas.Bool.{false≢true, eq-eqb}
use Rattle.std.proofs.lemmas.Bool.Decides.{nat_tests}
use Rattle.std.proofs.lemmas.List.{length-replicate}
use Rattle.std.proofs.lemmas.List.Elements.{All-replicate, recursion_from_All}
use Rattle.cabac_engine.specs.Bins.{Slot, in_bypass, in_context}
use Rattle.binarisation.specs.BinString.{Value, NoValue, Next, Spells, ◌>>=◌}
use Rattle.binarisation.specs.Codes.{ueg, signed, signed_of}
use Rattle.binarisation.proofs.OneString.{splits, signed-back}
use Rattle.cabac_residual.specs.Contexts.{flag_context, level_contexts}
use Rattle.cabac_residual.specs.declared.level.Counts.{Counts}
use Rattle.cabac_residual.specs.Block.{level, level_at, after, levels_before, mark, marks_from, coded, block, AreLevels}

-- ---- one level

signed-most : (greatest magnitude : ℕ) (bins : List (Slot × Bool)) (value : ℤ) → Spells (signed greatest magnitude) bins value → magnitude ≤ greatest
unfolding signed
signed-most greatest magnitude bins value h = by (eqb magnitude 0) (ltb greatest magnitude) bins refl refl h
  where
    by : (none above : Bool) (bins : List (Slot × Bool)) → eqb magnitude 0 ≡ none → ltb greatest magnitude ≡ above → Spells (cond none (Value (pos 0)) (cond above NoValue (Next in_bypass (λ minus. Value (signed_of magnitude minus))))) bins value → magnitude ≤ greatest
    by true above bins e f g = grind (arith, nat_tests)
    by false true bins e f g = absurd g
    by false false bins e f g = grind (arith, nat_tests)

level-range : (cat : ℕ) (counts : Counts) (bins : List (Slot × Bool)) (value : ℤ) → Spells (level cat counts) bins value → (0 < unsigned_abs value) × (unsigned_abs value ≤ 65535)
unfolding level
level-range cat counts bins value h =
    let parts = splits (ueg (level_contexts cat counts) 14 0 16) (λ (less : ℕ). signed 65535 (less + 1)) bins value h in
    let back = signed-back 65535 (parts.0 + 1) parts.2 value parts.5 in
    let most = signed-most 65535 (parts.0 + 1) parts.2 value parts.5 in
    (omega (arith, back), omega (arith, back, most))

level_at-most : (cat : ℕ) (counts : Counts) (significant : Bool) (bins : List (Slot × Bool)) (value : ℤ) → Spells (level_at cat counts significant) bins value → unsigned_abs value ≤ 65535
unfolding level_at
level_at-most cat counts true bins value h = (level-range cat counts bins value h).1
level_at-most cat counts false bins value h = let zero : unsigned_abs value ≡ 0 = ap unsigned_abs (sym h.1) in omega (arith, zero)

level_at-some : (cat : ℕ) (counts : Counts) (bins : List (Slot × Bool)) (value : ℤ) → Spells (level_at cat counts true) bins value → 0 < unsigned_abs value
unfolding level_at
level_at-some cat counts bins value h = (level-range cat counts bins value h).0

-- ---- the levels

levels-keep : (Q : List ℤ → Type 0) → ((level : ℤ) (behind : List ℤ) → unsigned_abs level ≤ 65535 → Q behind → Q (level ∷ behind))
    → (cat : ℕ) (counts : Counts) (behind : List ℤ) (marks : List Bool) (bins : List (Slot × Bool)) (value : List ℤ) → Q behind → Spells (levels_before cat counts behind marks) bins value → Q value
unfolding levels_before
levels-keep Q put cat counts behind [] bins value q h = subst Q h.1 q
levels-keep Q put cat counts behind (significant ∷ marks) bins value q h =
    let parts = splits (level_at cat counts significant) (λ (level : ℤ). levels_before cat (after counts level) (level ∷ behind) marks) bins value h in
    levels-keep Q put cat (after counts parts.0) (parts.0 ∷ behind) marks parts.2 value (put parts.0 behind (level_at-most cat counts significant parts.1 parts.0 parts.4) q) parts.5

levels-size : (cat : ℕ) (counts : Counts) (behind : List ℤ) (marks : List Bool) (bins : List (Slot × Bool)) (value : List ℤ) → Spells (levels_before cat counts behind marks) bins value → length value ≡ length marks + length behind
unfolding levels_before
levels-size cat counts behind [] bins value h = let same = ap length (sym h.1) in omega (arith, same)
levels-size cat counts behind (significant ∷ marks) bins value h =
    let parts = splits (level_at cat counts significant) (λ (level : ℤ). levels_before cat (after counts level) (level ∷ behind) marks) bins value h in
    let more = levels-size cat (after counts parts.0) (parts.0 ∷ behind) marks parts.2 value parts.5 in
    omega (arith, more)

abbrev pub NotZeros : List ℤ → Type 0
NotZeros levels = (n : ℕ) → levels ≡ replicate n (pos 0) → ⊥

NotZeros-behind : (level : ℤ) (behind : List ℤ) → NotZeros behind → NotZeros (level ∷ behind)
NotZeros-behind level behind some zero e = absurd cc
NotZeros-behind level behind some (suc n) e = let same : behind ≡ replicate n (pos 0) = cc in some n same

NotZeros-first : (level : ℤ) (behind : List ℤ) → 0 < unsigned_abs level → NotZeros (level ∷ behind)
NotZeros-first level behind some zero e = absurd cc
NotZeros-first level behind some (suc n) e = let same : level ≡ pos 0 = cc in let none : unsigned_abs level ≡ 0 = ap unsigned_abs same in absurd (omega (arith, some, none))

levels-some : (cat : ℕ) (counts : Counts) (behind : List ℤ) (others : List Bool) (bins : List (Slot × Bool)) (value : List ℤ) → Spells (levels_before cat counts behind (true ∷ others)) bins value → NotZeros value
unfolding levels_before
levels-some cat counts behind others bins value h =
    let parts = splits (level_at cat counts true) (λ (level : ℤ). levels_before cat (after counts level) (level ∷ behind) others) bins value h in
    levels-keep NotZeros (λ level behind small some. NotZeros-behind level behind some) cat (after counts parts.0) (parts.0 ∷ behind) others parts.2 value (NotZeros-first parts.0 behind (level_at-some cat counts parts.1 parts.0 parts.4)) parts.5

-- ---- the marks

mark-last : (cat : ℕ) (field : Bool) (place : ℕ) (bins : List (Slot × Bool)) (m : Bool × Bool) → Spells (mark cat field place) bins m → m.1 ≡ true → m.0 ≡ true
unfolding mark
mark-last cat field place [] m h e = absurd h
mark-last cat field place ((k, false) ∷ bins) m h e = absurd (false≢true (ap (λ (p : Bool × Bool). p.1) h.1.1 ∙ e))
mark-last cat field place ((k, true) ∷ []) m h e = absurd h.1
mark-last cat field place ((k, true) ∷ (l, last) ∷ bins) m h e = sym (ap (λ (p : Bool × Bool). p.0) h.1.1.1)

-- the last mark, and those before it
Marks : List Bool → ℕ → List Bool → Type 0
Marks before more marks = (others : List Bool) × (marks ≡ true ∷ others) × (length others ≤ length before + more)

marks-size : (cat : ℕ) (field : Bool) (before : List Bool) (place more : ℕ) (bins : List (Slot × Bool)) (marks : List Bool) → Spells (marks_from cat field before place more) bins marks → Marks before more marks
unfolding marks_from Marks
marks-size cat field before place zero bins marks h = (before, sym h.1, omega arith)
marks-size cat field before place (suc more) bins marks h =
    let next = λ (m : Bool × Bool). cond m.1 (Value (m.0 ∷ before)) (marks_from cat field (m.0 ∷ before) (place + 1) more) in
    let parts = splits (mark cat field place) next bins marks h in
    let deeper = λ (first : Bool). marks-size cat field (first ∷ before) (place + 1) more parts.2 marks in
    by parts.0 (mark-last cat field place parts.1 parts.0 parts.4) parts.0.1 refl parts.2 parts.5 deeper
  where
    by : (m : Bool × Bool) → (m.1 ≡ true → m.0 ≡ true) → (last : Bool) → m.1 ≡ last → (bins : List (Slot × Bool)) → Spells (cond last (Value (m.0 ∷ before)) (marks_from cat field (m.0 ∷ before) (place + 1) more)) bins marks
        → ((first : Bool) → Spells (marks_from cat field (first ∷ before) (place + 1) more) bins marks → Marks (first ∷ before) more marks) → Marks before (suc more) marks
    by m is true e bins g deeper = (before, sym g.1 ∙ ap (λ (b : Bool). b ∷ before) (is e), omega arith)
    by m is false e bins g deeper = let kept = deeper m.0 g in (kept.0, kept.1, omega (arith, kept.2))

-- ---- blocks

coded_levels : (cat : ℕ) (field : Bool) (max : ℕ) (bins : List (Slot × Bool)) (value : List ℤ) → 0 < max → Spells (coded cat field max) bins value → (length value ≡ max) × AreLevels value × NotZeros value
unfolding coded Marks
coded_levels cat field max bins value some h =
    let parts = splits (marks_from cat field [] 0 (max - 1)) _ bins value h in
    let kept = marks-size cat field [] 0 (max - 1) parts.1 parts.0 parts.4 in
    let zeros : List ℤ = replicate (max - length parts.0) (pos 0) in
    let none : Counts = record { ones = 0; above = 0 } in
    let size = levels-size cat none zeros parts.0 parts.2 value parts.5 in
    let many : length parts.0 ≡ suc (length kept.0) = ap length kept.1 in (
      omega (arith, size, length-replicate (max - length parts.0) (pos 0), many, kept.2),
      levels-keep AreLevels (λ level behind h q. (h, q)) cat none zeros parts.0 parts.2 value (recursion_from_All (λ level. unsigned_abs level ≤ 65535) zeros (All-replicate (λ level. unsigned_abs level ≤ 65535) (max - length parts.0) (pos 0) (omega arith))) parts.5,
      levels-some cat none zeros kept.0 parts.2 value (subst (λ (marks : List Bool). Spells (levels_before cat none zeros marks) parts.2 value) kept.1 parts.5),
    )

pub record AreOf (cat max : ℕ) (levels : List ℤ) : Type 0 where
  pub size : length levels ≡ max
  pub small : AreLevels levels
  pub some : cat ≡ 5 → NotZeros levels

pub block_levels : (cat : ℕ) (field : Bool) (inc max : ℕ) (bins : List (Slot × Bool)) (value : List ℤ) → 0 < max → Spells (block cat field inc max) bins value → AreOf cat max value
unfolding block ◌>>=◌
block_levels cat field inc max bins value some h = by (eqb cat 5) refl bins h
  where
    of : (bins : List (Slot × Bool)) → Spells (coded cat field max) bins value → AreOf cat max value
    of bins g = let are = coded_levels cat field max bins value some g in record { size = are.0; small = are.1; some = λ e. are.2 }

    by : (plain : Bool) → eqb cat 5 ≡ plain → (bins : List (Slot × Bool)) → Spells (cond plain (coded cat field max) (Next (in_context (flag_context cat inc)) (λ some. cond some (coded cat field max) (Value (replicate max (pos 0)))))) bins value → AreOf cat max value
    by true e bins g = of bins g
    by false e [] g = absurd g
    by false e ((k, true) ∷ bins) g = of bins g.1
    by false e ((k, false) ∷ bins) g = record {
      size = ap length (sym g.1.1) ∙ length-replicate max (pos 0);
      small = subst AreLevels g.1.1 (recursion_from_All (λ level. unsigned_abs level ≤ 65535) (replicate max (pos 0)) (All-replicate (λ level. unsigned_abs level ≤ 65535) max (pos 0) (omega arith)));
      some = λ five. absurd (false≢true (sym e ∙ eq-eqb cat 5 five));
    }
