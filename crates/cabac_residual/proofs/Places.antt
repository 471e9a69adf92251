-- The significant places of a block, beside its marks.
use Rattle.std.proofs.Common.{◌≡◌, ℕ, zero, suc, ◌+◌, ◌-◌, ◌<◌, ◌≤◌, ℤ, pos, Bool, true, false, List, [], ◌∷◌, ◌++◌, length, reverse, take, drop, set, get_or, replicate, Option, Some, None, refl, sym, ap, ◌∙◌, subst, arith}
use Rattle.std.proofs.lemmas.List.{length-replicate, length-append, length-set, append-nil, take-append-drop, take_more, take-set, take-take, take-replicate, drop-take, drop-drop, drop-set, drop-replicate, reverse-append}
use Rattle.cabac_engine.specs.Bins.{Slot}
use Rattle.binarisation.specs.BinString.{Reads, ◌>>=◌}
use Rattle.cabac_residual.specs.declared.level.Counts.{Counts}
use Rattle.cabac_residual.specs.Block.{level, level_at, after, levels_before, marks_below, behind_last, AreBelow}
use Rattle.cabac_residual.proofs.Blocks.{reads_level, reads_no_level}

-- ---- the marks

pub marks-insignificant : (n : ℕ) (places : List ℕ) → AreBelow n places → marks_below (n + 1) places ≡ false ∷ marks_below n places
unfolding marks_below AreBelow
marks-insignificant n [] b = let one : n + 1 ≡ suc n = omega arith in rw one refl
marks-insignificant n (place ∷ places) b = let more : (n + 1) - (place + 1) ≡ suc (n - (place + 1)) = omega (arith, b.0) in rw more refl

pub marks-significant : (n : ℕ) (places : List ℕ) → marks_below (n + 1) (n ∷ places) ≡ true ∷ marks_below n places
unfolding marks_below
marks-significant n places = let none : (n + 1) - (n + 1) ≡ 0 = omega arith in rw none refl

pub marks-none : marks_below 0 [] ≡ []
unfolding marks_below
marks-none = refl

pub AreBelow-none : (n : ℕ) → AreBelow n []
unfolding AreBelow
AreBelow-none n = tt

pub AreBelow-on : (n : ℕ) (places : List ℕ) → AreBelow n places → AreBelow (n + 1) (n ∷ places)
unfolding AreBelow
AreBelow-on n places b = (omega arith, b)

pub AreBelow-more : (n most : ℕ) (places : List ℕ) → n ≤ most → AreBelow n places → AreBelow most places
unfolding AreBelow
AreBelow-more n most [] h b = tt
AreBelow-more n most (place ∷ places) h b = (omega (arith, h, b.0), b.1)

pub length-marks_below : (n : ℕ) (places : List ℕ) → AreBelow n places → length (marks_below n places) ≡ n
unfolding marks_below AreBelow
length-marks_below n [] b = length-replicate n false
length-marks_below n (place ∷ places) b =
    let below = length-marks_below place places b.1 in
    length-append (replicate (n - (place + 1)) false) (true ∷ marks_below place places) ∙ omega (arith, b.0, below, length-replicate (n - (place + 1)) false)

pub behind_last-on : (n : ℕ) (places : List ℕ) → behind_last (n ∷ places) ≡ n + 1
unfolding behind_last
behind_last-on n places = refl

pub AreBelow-last : (n : ℕ) (places : List ℕ) → AreBelow n places → AreBelow (behind_last places) places × (behind_last places ≤ n)
unfolding AreBelow behind_last
AreBelow-last n [] b = (tt, omega arith)
AreBelow-last n (place ∷ places) b = ((omega arith, b.1), omega (arith, b.0))

-- ---- the levels

pub take_last : {A : Type 0} (xs : List A) (at : ℕ) (d : A) → at < length xs → reverse (take (at + 1) xs) ≡ get_or xs at d ∷ reverse (take at xs)
take_last xs at d h = ap reverse (take_more xs at d h) ∙ reverse-append (take at xs) (get_or xs at d ∷ [])

replicate-on : (k : ℕ) (behind : List ℤ) → replicate k (pos 0) ++ (pos 0 ∷ behind) ≡ pos 0 ∷ (replicate k (pos 0) ++ behind)
replicate-on zero behind = refl
replicate-on (suc k) behind = ap (λ (levels : List ℤ). pos 0 ∷ levels) (replicate-on k behind)

-- places that aren't significant have no bins
levels-insignificant : (cat : ℕ) (counts : Counts) (behind : List ℤ) (k : ℕ) (marks : List Bool) → levels_before cat counts behind (replicate k false ++ marks) ≡ levels_before cat counts (replicate k (pos 0) ++ behind) marks
unfolding levels_before level_at ◌>>=◌
levels-insignificant cat counts behind zero marks = refl
levels-insignificant cat counts behind (suc k) marks =
    levels-insignificant cat counts (pos 0 ∷ behind) k marks ∙ ap (λ (levels : List ℤ). levels_before cat counts levels marks) (replicate-on k behind)

zeros-behind : (levels : List ℤ) (place limit : ℕ) → place < limit → take limit levels ≡ replicate limit (pos 0) → drop (place + 1) levels ≡ replicate (limit - (place + 1)) (pos 0) ++ drop limit levels
zeros-behind levels place limit h e =
    let more = limit - (place + 1) in
    let whole : (place + 1) + more ≡ limit = omega arith in
    let front : take more (drop (place + 1) levels) ≡ replicate more (pos 0) =
    sym (drop-take (place + 1) more levels) ∙ ap (λ k. drop (place + 1) (take k levels)) whole ∙ ap (drop (place + 1)) e ∙ drop-replicate (place + 1) limit (pos 0) in
    let rest : drop more (drop (place + 1) levels) ≡ drop limit levels = drop-drop more (place + 1) levels ∙ ap (λ k. drop k levels) whole in
    sym (take-append-drop more (drop (place + 1) levels)) ∙ rw (front, rest) refl

-- the marks below one significant place, and below the one before it
levels-down : (cat : ℕ) (counts : Counts) (levels : List ℤ) (limit place : ℕ) (places : List ℕ) → place < limit → take limit levels ≡ replicate limit (pos 0)
    → levels_before cat counts (drop limit levels) (marks_below limit (place ∷ places)) ≡ levels_before cat counts (drop (place + 1) levels) (true ∷ marks_below place places)
unfolding marks_below
levels-down cat counts levels limit place places h e =
    levels-insignificant cat counts (drop limit levels) (limit - (place + 1)) (true ∷ marks_below place places)
    ∙ ap (λ (behind : List ℤ). levels_before cat counts behind (true ∷ marks_below place places)) (sym (zeros-behind levels place limit h e))

level_at-significant : (cat : ℕ) (counts : Counts) → level_at cat counts true ≡ level cat counts
unfolding level_at
level_at-significant cat counts = refl

-- what stands before a place is read, and after it
pub record IsClear (limit : ℕ) (levels : List ℤ) (places : List ℕ) : Type 0 where
  pub below : AreBelow limit places
  pub within : limit ≤ length levels
  pub zeros : take limit levels ≡ replicate limit (pos 0)

pub clear_down : (limit place : ℕ) (levels : List ℤ) (places : List ℕ) (value : ℤ) → IsClear limit levels (place ∷ places) → (place < length levels) × IsClear place (set levels place value) places
unfolding AreBelow
clear_down limit place levels places value c =
    let within : place < length levels = omega (arith, c.below.0, c.within) in
    let rest : limit ≡ place + (limit - place) = omega (arith, c.below.0) in
    let shorter : take place levels ≡ replicate place (pos 0) =
    sym (take-take place limit levels (omega (arith, c.below.0))) ∙ ap (take place) c.zeros ∙ take-replicate place limit (pos 0) (omega (arith, c.below.0)) in (
      within,
      record { below = c.below.1; within = omega (arith, within, length-set levels place value); zeros = take-set levels place value ∙ shorter },
    )

pub place_down : {S : Type 0} (step : S → Slot → Option Bool → S → Type 0) (cat : ℕ) (counts next : Counts) (levels : List ℤ) (limit place : ℕ) (places : List ℕ) (value : ℤ) (result : Option (List ℤ)) (s m t : S)
    → IsClear limit levels (place ∷ places) → next ≡ after counts value → Reads step (level cat counts) (Some value) s m
    → Reads step (levels_before cat next (drop place (set levels place value)) (marks_below place places)) result m t
    → Reads step (levels_before cat counts (drop limit levels) (marks_below limit (place ∷ places))) result s t
unfolding AreBelow
place_down step cat counts next levels limit place places value result s m t c e first others =
    let within : place < length levels = omega (arith, c.below.0, c.within) in
    rw (levels-down cat counts levels limit place places c.below.0 c.zeros)
    (reads_level step cat counts next (drop (place + 1) levels) true (marks_below place places) value result s m t e (rw (level_at-significant cat counts) first) (rw (drop-set levels place value within) at others))

pub no_place : {S : Type 0} (step : S → Slot → Option Bool → S → Type 0) (cat : ℕ) (counts : Counts) (levels : List ℤ) (limit place : ℕ) (places : List ℕ) (s t : S)
    → IsClear limit levels (place ∷ places) → Reads step (level cat counts) None s t → Reads step (levels_before cat counts (drop limit levels) (marks_below limit (place ∷ places))) None s t
unfolding AreBelow
no_place step cat counts levels limit place places s t c first =
    rw (levels-down cat counts levels limit place places c.below.0 c.zeros)
    (reads_no_level step cat counts (drop (place + 1) levels) true (marks_below place places) s t (rw (level_at-significant cat counts) first))

pub places_end : {S : Type 0} (step : S → Slot → Option Bool → S → Type 0) (cat : ℕ) (counts : Counts) (levels : List ℤ) (limit : ℕ) (s : S) → take limit levels ≡ replicate limit (pos 0) → Reads step (levels_before cat counts (drop limit levels) (marks_below limit [])) (Some levels) s s
unfolding marks_below levels_before
places_end step cat counts levels limit s e =
    let all : replicate limit (pos 0) ++ drop limit levels ≡ levels = ap (λ (front : List ℤ). front ++ drop limit levels) (sym e) ∙ take-append-drop limit levels in
    let bins : levels_before cat counts (drop limit levels) (replicate limit false) ≡ levels_before cat counts (replicate limit (pos 0) ++ drop limit levels) [] =
    ap (levels_before cat counts (drop limit levels)) (sym (append-nil (replicate limit false))) ∙ levels-insignificant cat counts (drop limit levels) limit [] in
    rw (bins, all) (refl, refl)

-- ---- the places in code, from the last one down

place_at : (places : List ℕ) (at before d : ℕ) (levels : List ℤ) → before ≡ at + 1 → at < length places → IsClear (get_or places before d) levels (reverse (take before places))
    → IsClear (get_or places before d) levels (get_or places at d ∷ reverse (take at places))
place_at places at before d levels b h c = subst (λ (down : List ℕ). IsClear (get_or places before d) levels down) (ap (λ (k : ℕ). reverse (take k places)) b ∙ take_last places at d h) c

pub read_down : {S : Type 0} (step : S → Slot → Option Bool → S → Type 0) (cat : ℕ) (counts next : Counts) (levels : List ℤ) (places : List ℕ) (at before d place : ℕ) (value : ℤ) (result : Option (List ℤ)) (s m t : S)
    → before ≡ at + 1 → at < length places → place ≡ get_or places at d → IsClear (get_or places before d) levels (reverse (take before places)) → next ≡ after counts value → Reads step (level cat counts) (Some value) s m
    → Reads step (levels_before cat next (drop (get_or places at d) (set levels place value)) (marks_below (get_or places at d) (reverse (take at places)))) result m t
    → Reads step (levels_before cat counts (drop (get_or places before d) levels) (marks_below (get_or places before d) (reverse (take before places)))) result s t
read_down step cat counts next levels places at before d place value result s m t b h p c e first others =
    let clear = place_at places at before d levels b h c in
    let down = place_down step cat counts next levels (get_or places before d) (get_or places at d) (reverse (take at places)) value result s m t clear e first (rw p at others) in
    rw (b, take_last places at d h) (rw b at down)

pub read_down_none : {S : Type 0} (step : S → Slot → Option Bool → S → Type 0) (cat : ℕ) (counts : Counts) (levels : List ℤ) (places : List ℕ) (at before d : ℕ) (s t : S)
    → before ≡ at + 1 → at < length places → IsClear (get_or places before d) levels (reverse (take before places)) → Reads step (level cat counts) None s t
    → Reads step (levels_before cat counts (drop (get_or places before d) levels) (marks_below (get_or places before d) (reverse (take before places)))) None s t
read_down_none step cat counts levels places at before d s t b h c first =
    let none = no_place step cat counts levels (get_or places before d) (get_or places at d) (reverse (take at places)) s t (place_at places at before d levels b h c) first in
    rw (b, take_last places at d h) (rw b at none)

pub clear_next : (places : List ℕ) (at before d place : ℕ) (levels : List ℤ) (value : ℤ) → before ≡ at + 1 → at < length places → place ≡ get_or places at d → IsClear (get_or places before d) levels (reverse (take before places))
    → (place < length levels) × IsClear (get_or places at d) (set levels place value) (reverse (take at places))
clear_next places at before d place levels value b h p c = rw p (clear_down (get_or places before d) (get_or places at d) levels (reverse (take at places)) value (place_at places at before d levels b h c))

pub clear_first : (places : List ℕ) (levels : List ℤ) → AreBelow (length levels) (reverse places) → levels ≡ replicate (length levels) (pos 0) → IsClear (behind_last (reverse places)) levels (reverse places)
clear_first places levels below e =
    let last = AreBelow-last (length levels) (reverse places) below in
    record { below = last.0; within = last.1; zeros = ap (take (behind_last (reverse places))) e ∙ take-replicate (behind_last (reverse places)) (length levels) (pos 0) last.1 }
