-- The marks and the levels of a block, place by place.
use Rattle.std.proofs.Common.{◌≡◌, ℕ, zero, suc, ◌+◌, ◌-◌, ◌<◌, ◌≤◌, ℤ, pos, negsuc, unsigned_abs, cond, ltb, Bool, true, false, List, [], ◌∷◌, ◌++◌, length, reverse, drop, replicate, get_or, eqb, ◌≢◌, Option, Some, None, refl, sym, ap, subst, ◌∙◌, arith}
use Rattle.std.proofs.lemmas.Bool.{lt-ltb, le-ltb}
use Rattle.std.proofs.lemmas.List.{reverse-append}
use Rattle.std.proofs.lemmas.Bool.Decides.{nat_tests}
use Rattle.std.proofs.Math.Seq.{drop-cons}
use Rattle.cabac_engine.specs.Bins.{Slot, in_context}
use Rattle.cabac_residual.specs.Contexts.{flag_context, significance_context, last_context}
use Rattle.binarisation.specs.BinString.{BinString, Value, Next, Reads, Writes, ◌>>=◌}
use Rattle.binarisation.proofs.Strings.{reads_then, reads_none, writes_then}
use Rattle.cabac_residual.specs.declared.level.Counts.{Counts}
use Rattle.cabac_residual.specs.Block.{is_nonzero, level, level_at, after, no_levels, levels_before, mark, marks_from, marks_of, coded, block}

-- ---- one place

pub writes_zero : {S : Type 0} (step : S → Slot → Bool → S → Type 0) (cat : ℕ) (counts : Counts) (value : ℤ) (s : S) → unsigned_abs value ≡ 0 → Writes step (level_at cat counts (is_nonzero value)) value s s
unfolding level_at
writes_zero step cat counts value s e =
    let zero : ltb 0 (unsigned_abs value) ≡ false = le-ltb 0 (unsigned_abs value) (omega (arith, e)) in
    rw zero (sym (none value e), refl)
  where
    none : (value : ℤ) → unsigned_abs value ≡ 0 → value ≡ pos 0
    none (pos n) e = ap pos e
    none (negsuc n) e = absurd cc

pub writes_level : {S : Type 0} (step : S → Slot → Bool → S → Type 0) (cat : ℕ) (counts : Counts) (value : ℤ) (s t : S) → 0 < unsigned_abs value → Writes step (level cat counts) value s t → Writes step (level_at cat counts (is_nonzero value)) value s t
unfolding level_at
writes_level step cat counts value s t h written =
    let some : ltb 0 (unsigned_abs value) ≡ true = lt-ltb 0 (unsigned_abs value) h in
    rw some written

-- ---- the significance map

-- what follows the mark of a place
pub behind_mark : ℕ → Bool → List Bool → ℕ → ℕ → Bool × Bool → BinString (List Bool)
behind_mark cat field before place more m = cond m.1 (Value (m.0 ∷ before)) (marks_from cat field (m.0 ∷ before) (place + 1) more)

pub marks_next : (cat : ℕ) (field : Bool) (before : List Bool) (place most : ℕ) → place < most
    → marks_from cat field before place (most - place) ≡ (mark cat field place >>= behind_mark cat field before place (most - (place + 1)))
unfolding marks_from behind_mark
marks_next cat field before place most h = let e : most - place ≡ suc (most - (place + 1)) = omega arith in rw e refl

pub reads_mark : {S : Type 0} (step : S → Slot → Option Bool → S → Type 0) (cat : ℕ) (field : Bool) (before : List Bool) (place most : ℕ) (significant last : Bool) (result : Option (List Bool)) (s m t : S) → place < most → last ≡ false
    → Reads step (mark cat field place) (Some (significant, last)) s m → Reads step (marks_from cat field (significant ∷ before) (place + 1) (most - (place + 1))) result m t
    → Reads step (marks_from cat field before place (most - place)) result s t
unfolding behind_mark
reads_mark step cat field before place most significant last result s m t h e first others =
    rw (marks_next cat field before place most h) (reads_then step (mark cat field place) (behind_mark cat field before place (most - (place + 1))) (significant, last) result s m t first (rw e others))

pub reads_last : {S : Type 0} (step : S → Slot → Option Bool → S → Type 0) (cat : ℕ) (field : Bool) (before : List Bool) (place most : ℕ) (significant last : Bool) (s t : S) → place < most → last ≡ true
    → Reads step (mark cat field place) (Some (significant, last)) s t → Reads step (marks_from cat field before place (most - place)) (Some (significant ∷ before)) s t
unfolding behind_mark
reads_last step cat field before place most significant last s t h e first =
    rw (marks_next cat field before place most h) (reads_then step (mark cat field place) (behind_mark cat field before place (most - (place + 1))) (significant, last) (Some (significant ∷ before)) s t t first (rw e (refl, refl)))

pub reads_no_mark : {S : Type 0} (step : S → Slot → Option Bool → S → Type 0) (cat : ℕ) (field : Bool) (before : List Bool) (place most : ℕ) (s t : S) → place < most
    → Reads step (mark cat field place) None s t → Reads step (marks_from cat field before place (most - place)) None s t
reads_no_mark step cat field before place most s t h first =
    rw (marks_next cat field before place most h) (reads_none step (mark cat field place) (behind_mark cat field before place (most - (place + 1))) s t first)

pub reads_inferred : {S : Type 0} (step : S → Slot → Option Bool → S → Type 0) (cat : ℕ) (field : Bool) (before : List Bool) (place : ℕ) (s : S) → Reads step (marks_from cat field before place (place - place)) (Some (true ∷ before)) s s
unfolding marks_from
reads_inferred step cat field before place s = let e : place - place ≡ 0 = omega arith in rw e (refl, refl)

pub mark_zero : {S : Type 0} (step : S → Slot → Option Bool → S → Type 0) (cat : ℕ) (field : Bool) (place ctx : ℕ) (one : Bool) (s t : S) → ctx ≡ significance_context cat field place → one ≡ false
    → step s (in_context ctx) (Some one) t → Reads step (mark cat field place) (Some (false, false)) s t
unfolding mark
mark_zero step cat field place ctx one s t e f took = (Some false, t, rw (e, f) at took, (refl, refl))

pub mark_one : {S : Type 0} (step : S → Slot → Option Bool → S → Type 0) (cat : ℕ) (field : Bool) (place ctx ctx2 : ℕ) (one last : Bool) (s m t : S) → ctx ≡ significance_context cat field place → one ≡ true → ctx2 ≡ last_context cat field place
    → step s (in_context ctx) (Some one) m → step m (in_context ctx2) (Some last) t → Reads step (mark cat field place) (Some (true, last)) s t
unfolding mark
mark_one step cat field place ctx ctx2 one last s m t e f e2 took took2 = (Some true, m, rw (e, f) at took, (Some last, t, rw e2 at took2, (refl, refl)))

pub mark_cut : {S : Type 0} (step : S → Slot → Option Bool → S → Type 0) (cat : ℕ) (field : Bool) (place ctx ctx2 : ℕ) (one : Bool) (result : Option (Bool × Bool)) (s m t : S) → ctx ≡ significance_context cat field place → one ≡ true → ctx2 ≡ last_context cat field place
    → step s (in_context ctx) (Some one) m → step m (in_context ctx2) None t → result ≡ None → Reads step (mark cat field place) result s t
unfolding mark
mark_cut step cat field place ctx ctx2 one result s m t e f e2 took took2 none = (Some true, m, rw (e, f) at took, (None, t, rw e2 at took2, (none, refl)))

pub writes_mark : {S : Type 0} (step : S → Slot → Bool → S → Type 0) (cat : ℕ) (field : Bool) (place ctx ctx2 : ℕ) (one last : Bool) (s m t : S) → ctx ≡ significance_context cat field place → one ≡ true → ctx2 ≡ last_context cat field place
    → step s (in_context ctx) one m → step m (in_context ctx2) last t → Writes step (mark cat field place) (one, last) s t
unfolding mark
writes_mark step cat field place ctx ctx2 one last s m t e f e2 took took2 = rw f (true, m, rw (e, f) at took, (last, t, rw e2 at took2, (refl, refl)))

pub mark_none : {S : Type 0} (step : S → Slot → Option Bool → S → Type 0) (cat : ℕ) (field : Bool) (place ctx : ℕ) (s t : S) → ctx ≡ significance_context cat field place → step s (in_context ctx) None t → Reads step (mark cat field place) None s t
unfolding mark
mark_none step cat field place ctx s t e took = (None, t, rw e at took, (refl, refl))

pub reverse-push : {A : Type 0} (xs : List A) (x : A) → reverse (xs ++ x ∷ []) ≡ x ∷ reverse xs
reverse-push xs x = reverse-append xs (x ∷ [])

-- ---- the levels

pub reads_level : {S : Type 0} (step : S → Slot → Option Bool → S → Type 0) (cat : ℕ) (counts next : Counts) (behind : List ℤ) (significant : Bool) (marks : List Bool) (value : ℤ) (result : Option (List ℤ)) (s m t : S) → next ≡ after counts value
    → Reads step (level_at cat counts significant) (Some value) s m → Reads step (levels_before cat next (value ∷ behind) marks) result m t → Reads step (levels_before cat counts behind (significant ∷ marks)) result s t
unfolding levels_before
reads_level step cat counts next behind significant marks value result s m t e first others =
    reads_then step (level_at cat counts significant) (λ (level : ℤ). levels_before cat (after counts level) (level ∷ behind) marks) value result s m t first (rw e at others)

pub reads_no_level : {S : Type 0} (step : S → Slot → Option Bool → S → Type 0) (cat : ℕ) (counts : Counts) (behind : List ℤ) (significant : Bool) (marks : List Bool) (s t : S)
    → Reads step (level_at cat counts significant) None s t → Reads step (levels_before cat counts behind (significant ∷ marks)) None s t
unfolding levels_before
reads_no_level step cat counts behind significant marks s t first = reads_none step (level_at cat counts significant) (λ (level : ℤ). levels_before cat (after counts level) (level ∷ behind) marks) s t first

pub reads_levels_end : {S : Type 0} (step : S → Slot → Option Bool → S → Type 0) (cat : ℕ) (counts : Counts) (levels : List ℤ) (s : S) → Reads step (levels_before cat counts levels []) (Some levels) s s
unfolding levels_before
reads_levels_end step cat counts levels s = (refl, refl)

pub writes_level_before : {S : Type 0} (step : S → Slot → Bool → S → Type 0) (cat : ℕ) (counts next : Counts) (behind : List ℤ) (marks : List Bool) (value : ℤ) (levels : List ℤ) (s m t : S) → next ≡ after counts value
    → Writes step (level_at cat counts (is_nonzero value)) value s m → Writes step (levels_before cat next (value ∷ behind) marks) levels m t → Writes step (levels_before cat counts behind (is_nonzero value ∷ marks)) levels s t
unfolding levels_before
writes_level_before step cat counts next behind marks value levels s m t e first others =
    writes_then step (level_at cat counts (is_nonzero value)) (λ (level : ℤ). levels_before cat (after counts level) (level ∷ behind) marks) value levels s m t first (rw e at others)

pub writes_levels_end : {S : Type 0} (step : S → Slot → Bool → S → Type 0) (cat : ℕ) (counts : Counts) (levels : List ℤ) (s : S) → Writes step (levels_before cat counts levels []) levels s s
unfolding levels_before
writes_levels_end step cat counts levels s = (refl, refl)

-- one place down, in writing
pub write_down : {S : Type 0} (step : S → Slot → Bool → S → Type 0) (cat : ℕ) (counts next : Counts) (levels : List ℤ) (at before : ℕ) (value : ℤ) (all : List ℤ) (s m t : S)
    → before ≡ at + 1 → at < length levels → value ≡ get_or levels at (pos 0) → next ≡ after counts value → Writes step (level_at cat counts (is_nonzero value)) value s m
    → Writes step (levels_before cat next (drop at levels) (marks_of at levels)) all m t
    → Writes step (levels_before cat counts (drop before levels) (marks_of before levels)) all s t
unfolding marks_of
write_down step cat counts next levels at before value all s m t b h v e first others =
    let one : at + 1 ≡ suc at = omega arith in
    let top : drop at levels ≡ value ∷ drop (suc at) levels = drop-cons levels at (pos 0) h ∙ ap (λ (x : ℤ). x ∷ drop (suc at) levels) (sym v) in
    rw (b, one, ← v) (writes_level_before step cat counts next (drop (suc at) levels) (marks_of at levels) value all s m t e first (rw top at others))

pub marks_of-none : (levels : List ℤ) → marks_of 0 levels ≡ []
unfolding marks_of
marks_of-none levels = refl

pub length-marks_of : (count : ℕ) (levels : List ℤ) → length (marks_of count levels) ≡ count
unfolding marks_of
length-marks_of zero levels = refl
length-marks_of (suc count) levels = ap suc (length-marks_of count levels)

-- ---- the whole block

pub behind_marks : ℕ → ℕ → List Bool → BinString (List ℤ)
behind_marks cat max marks = levels_before cat no_levels (replicate (max - length marks) (pos 0)) marks

pub reads_coded : {S : Type 0} (step : S → Slot → Option Bool → S → Type 0) (cat : ℕ) (field : Bool) (max : ℕ) (marks : List Bool) (behind : List ℤ) (result : Option (List ℤ)) (s m t : S)
    → behind ≡ replicate (max - length marks) (pos 0) → Reads step (marks_from cat field [] 0 (max - 1)) (Some marks) s m → Reads step (levels_before cat no_levels behind marks) result m t → Reads step (coded cat field max) result s t
unfolding coded behind_marks
reads_coded step cat field max marks behind result s m t e first others =
    reads_then step (marks_from cat field [] 0 (max - 1)) (behind_marks cat max) marks result s m t first (rw e at others)

pub reads_no_marks : {S : Type 0} (step : S → Slot → Option Bool → S → Type 0) (cat : ℕ) (field : Bool) (max : ℕ) (s t : S) → Reads step (marks_from cat field [] 0 (max - 1)) None s t → Reads step (coded cat field max) None s t
unfolding coded behind_marks
reads_no_marks step cat field max s t first = reads_none step (marks_from cat field [] 0 (max - 1)) (behind_marks cat max) s t first

pub writes_coded : {S : Type 0} (step : S → Slot → Bool → S → Type 0) (cat : ℕ) (field : Bool) (levels : List ℤ) (count : ℕ) (s m t : S)
    → drop count levels ≡ replicate (length levels - count) (pos 0) → Writes step (marks_from cat field [] 0 (length levels - 1)) (marks_of count levels) s m → Writes step (levels_before cat no_levels (drop count levels) (marks_of count levels)) levels m t
    → Writes step (coded cat field (length levels)) levels s t
unfolding coded behind_marks
writes_coded step cat field levels count s m t e first others =
    writes_then step (marks_from cat field [] 0 (length levels - 1)) (behind_marks cat (length levels)) (marks_of count levels) levels s m t first (rw (length-marks_of count levels) (rw e at others))

pub block_5 : (cat : ℕ) (field : Bool) (inc max : ℕ) → cat ≡ 5 → block cat field inc max ≡ coded cat field max
unfolding block
block_5 cat field inc max e = rw e refl

pub block_flag : (cat : ℕ) (field : Bool) (inc max : ℕ) → cat ≢ 5 → block cat field inc max ≡ Next (in_context (flag_context cat inc)) (λ some. cond some (coded cat field max) (Value (replicate max (pos 0))))
unfolding block ◌>>=◌
block_flag cat field inc max h = let other : eqb cat 5 ≡ false = grind (arith, nat_tests) in rw other refl

pub reads_flagged : {S : Type 0} (step : S → Slot → Option Bool → S → Type 0) (cat : ℕ) (field : Bool) (inc max ctx : ℕ) (some : Bool) (result : Option (List ℤ)) (s m t : S) → cat ≢ 5 → ctx ≡ flag_context cat inc → some ≡ true
    → step s (in_context ctx) (Some some) m → Reads step (coded cat field max) result m t → Reads step (block cat field inc max) result s t
reads_flagged step cat field inc max ctx some result s m t h e f took others = rw (block_flag cat field inc max h) (Some true, m, rw (e, f) at took, others)

pub reads_uncoded : {S : Type 0} (step : S → Slot → Option Bool → S → Type 0) (cat : ℕ) (field : Bool) (inc max ctx : ℕ) (some : Bool) (levels : List ℤ) (s t : S) → cat ≢ 5 → ctx ≡ flag_context cat inc → some ≡ false → levels ≡ replicate max (pos 0)
    → step s (in_context ctx) (Some some) t → Reads step (block cat field inc max) (Some levels) s t
reads_uncoded step cat field inc max ctx some levels s t h e f zeros took = rw (block_flag cat field inc max h) (Some false, t, rw (e, f) at took, (ap Some zeros, refl))

pub reads_no_flag : {S : Type 0} (step : S → Slot → Option Bool → S → Type 0) (cat : ℕ) (field : Bool) (inc max ctx : ℕ) (s t : S) → cat ≢ 5 → ctx ≡ flag_context cat inc → step s (in_context ctx) None t → Reads step (block cat field inc max) None s t
reads_no_flag step cat field inc max ctx s t h e took = rw (block_flag cat field inc max h) (None, t, rw e at took, (refl, refl))

pub writes_flagged : {S : Type 0} (step : S → Slot → Bool → S → Type 0) (cat : ℕ) (field : Bool) (inc max ctx : ℕ) (levels : List ℤ) (s m t : S) → cat ≢ 5 → ctx ≡ flag_context cat inc
    → step s (in_context ctx) true m → Writes step (coded cat field max) levels m t → Writes step (block cat field inc max) levels s t
writes_flagged step cat field inc max ctx levels s m t h e took others = rw (block_flag cat field inc max h) (true, m, rw e at took, others)

pub writes_uncoded : {S : Type 0} (step : S → Slot → Bool → S → Type 0) (cat : ℕ) (field : Bool) (inc max ctx : ℕ) (levels : List ℤ) (s t : S) → cat ≢ 5 → ctx ≡ flag_context cat inc → levels ≡ replicate max (pos 0)
    → step s (in_context ctx) false t → Writes step (block cat field inc max) levels s t
writes_uncoded step cat field inc max ctx levels s t h e zeros took = rw (block_flag cat field inc max h) (false, t, rw e at took, (sym zeros, refl))

-- ---- the map, in writing

pub write_mark_at : {S : Type 0} (step : S → Slot → Bool → S → Type 0) (cat : ℕ) (field : Bool) (levels : List ℤ) (place most : ℕ) (significant : Bool) (marks : List Bool) (s m t : S) → place < most → significant ≡ is_nonzero (get_or levels place (pos 0))
    → Writes step (mark cat field place) (significant, false) s m → Writes step (marks_from cat field (marks_of (place + 1) levels) (place + 1) (most - (place + 1))) marks m t
    → Writes step (marks_from cat field (marks_of place levels) place (most - place)) marks s t
unfolding behind_mark marks_of
write_mark_at step cat field levels place most significant marks s m t h e first others =
    let one : place + 1 ≡ suc place = omega arith in
    let rest = rw one at others in
    rw (marks_next cat field (marks_of place levels) place most h) (writes_then step (mark cat field place) (behind_mark cat field (marks_of place levels) place (most - (place + 1))) (significant, false) marks s m t first (rw (one, e) rest))

pub write_last_mark : {S : Type 0} (step : S → Slot → Bool → S → Type 0) (cat : ℕ) (field : Bool) (levels : List ℤ) (place most : ℕ) (s t : S) → place < most → is_nonzero (get_or levels place (pos 0)) ≡ true
    → Writes step (mark cat field place) (true, true) s t → Writes step (marks_from cat field (marks_of place levels) place (most - place)) (marks_of (place + 1) levels) s t
unfolding behind_mark marks_of
write_last_mark step cat field levels place most s t h e first =
    let one : place + 1 ≡ suc place = omega arith in
    rw (marks_next cat field (marks_of place levels) place most h)
    (writes_then step (mark cat field place) (behind_mark cat field (marks_of place levels) place (most - (place + 1))) (true, true) (marks_of (place + 1) levels) s t t first (rw (one, e) (refl, refl)))

pub write_inferred : {S : Type 0} (step : S → Slot → Bool → S → Type 0) (cat : ℕ) (field : Bool) (levels : List ℤ) (place most : ℕ) (s : S) → place ≡ most → is_nonzero (get_or levels place (pos 0)) ≡ true
    → Writes step (marks_from cat field (marks_of place levels) place (most - place)) (marks_of (place + 1) levels) s s
unfolding marks_from marks_of
write_inferred step cat field levels place most s e f =
    let one : place + 1 ≡ suc place = omega arith in
    let none : most - place ≡ 0 = omega arith in
    rw (none, one, f) (refl, refl)

pub unread : {S A : Type 0} (step : S → Slot → Option Bool → S → Type 0) (string : BinString A) (result : Option A) (s t : S) → result ≡ None → Reads step string None s t → Reads step string result s t
unread {S} {A} step string result s t e read = subst (λ (r : Option A). Reads step string r s t) (sym e) read

pub after-few : (counts : Counts) (level : ℤ) (next : Counts) → next ≡ after counts level → next.ones + next.above ≤ counts.ones + counts.above + 1
after-few counts level next e = rw e (at counts (eqb (unsigned_abs level) 0) (eqb (unsigned_abs level) 1))
  where
    at : (counts : Counts) (none one : Bool) → (cond none counts (cond one (record { ones = counts.ones + 1; above = counts.above }) (record { ones = counts.ones; above = counts.above + 1 }))).ones + (cond none counts (cond one (record { ones = counts.ones + 1; above = counts.above }) (record { ones = counts.ones; above = counts.above + 1 }))).above ≤ counts.ones + counts.above + 1
    at counts true one = omega arith
    at counts false true = omega arith
    at counts false false = omega arith
