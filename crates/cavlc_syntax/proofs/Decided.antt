-- The bits behind a header are the data of a slice, or of none: all lists that could have a text are searched.
use Rattle.std.proofs.Common.{◌≡◌, ◌⊎◌, inl, inr, ℕ, zero, suc, ◌+◌, ◌-◌, ◌*◌, ◌<◌, ◌≤◌, Bool, true, false, List, length, refl, sym, ap, ◌∙◌, subst, arith}
use Rattle.std.specs.Prelude.{◌&&◌, IsTrue}
use Rattle.std.specs.List.{AllByRecursion}
use Rattle.std.proofs.lemmas.Bool.{cases_lt}
use Rattle.std.proofs.lemmas.List.Elements.{All-from_recursion, recursion_from_All}
use Rattle.h264_types.specs.SliceShape.{IsSliceShape}
use Rattle.h264_types.specs.Slice.{field_at, skipped_at, inferred_field}
use Rattle.h264_types.specs.Valid.{IsPair, is_kind_in}
use Rattle.h264_types.specs.declared.macroblock.Mb.{Mb}
use Rattle.h264_types.specs.declared.macroblock.MbKind.TheVariants.{Skip}
use Rattle.h264_types.specs.declared.slice_shape.SliceShape.{SliceShape}
use Rattle.cavlc_mb_residual.proofs.Searching.{Searches, Decided, same_searched, conditions_searched, sums_searched, one_searched, at_most_many_searched, most_decided, are_same_bits, are_same_bits-true, are_same_bits-false}
use Rattle.cavlc_macroblock.specs.Macroblock.{skipped}
use Rattle.cavlc_macroblock.specs.Reading.{IsSent}
use Rattle.cavlc_macroblock.proofs.ValidLaws.{sent_field}
use Rattle.cavlc_macroblock.proofs.MacroblockSearching.{macroblock_searched}
use Rattle.cavlc_syntax.specs.Reading.{IsSkipped, IsRead}
use Rattle.cavlc_syntax.specs.SliceText.{HasText, is_bottom, prefix_bound, slice_text, NoList}
use Rattle.cavlc_syntax.specs.Standing.{HasPairs}
use Rattle.cavlc_syntax.proofs.Members.{all_read, read_text}
use Rattle.cavlc_syntax.proofs.Pairs.{slice_whole}

-- ---- claims that are decided

is_same : (a b : Bool) → Decided (a ≡ b)
is_same true true = inl refl
is_same true false = inr (λ e. absurd cc)
is_same false true = inr (λ e. absurd cc)
is_same false false = inl refl

both_decided : {A B : Type 0} → Decided A → Decided B → Decided (A × B)
both_decided (inl a) (inl b) = inl (a, b)
both_decided (inl a) (inr none) = inr (λ h. none h.1)
both_decided (inr none) b = inr (λ h. none h.0)

when_decided : {A B : Type 0} → Decided A → Decided B → Decided (A → B)
when_decided (inl a) (inl b) = inl (λ h. b)
when_decided (inl a) (inr none) = inr (λ f. none (f a))
when_decided (inr none) b = inl (λ h. absurd (none h))

all_decided : (Is : ℕ → Type 0) → ((k : ℕ) → Decided (Is k)) → (n : ℕ) → Decided ((k : ℕ) → k < n → Is k)
all_decided Is each zero = inl (λ k h. absurd (omega (arith, h)))
all_decided Is each (suc n) = more (all_decided Is each n) (each n)
  where
    last : Is n → (k : ℕ) → n ≤ k → k < suc n → Is k
    last is k low high = let same : n ≡ k = omega (arith, low, high) in subst Is same is

    more : Decided ((k : ℕ) → k < n → Is k) → Decided (Is n) → Decided ((k : ℕ) → k < suc n → Is k)
    more (inl all) (inl is) = inl (λ k h. elim (cases_lt k n) [ inl below ↦ all k below | inr past ↦ last is k past h ])
    more (inl all) (inr none) = inr (λ f. none (f n (omega arith)))
    more (inr none) is = inr (λ f. none (λ k h. f k (omega (arith, h))))

-- ---- macroblocks

skipped_searched : (shape : SliceShape) → Searches (IsSkipped shape)
skipped_searched shape =
    let Skips : Mb → Type 0 = λ mb. (mb ≡ skipped true) ⊎ (mb ≡ skipped false) in
    let May : Mb → Type 0 = λ mb. (is_kind_in shape.kind Skip ≡ true) × (mb.field ≡ true → shape.mbaff ≡ true) in
    same_searched (λ mb. Skips mb × May mb) (IsSkipped shape) (λ mb h. record { elements = own mb h.0; kind = h.1.0; pair = h.1.1 }) (λ mb is. (flag mb mb.field is.elements, (is.kind, is.pair)))
    (conditions_searched Skips May (λ mb. both_decided (is_same (is_kind_in shape.kind Skip) true) (when_decided (is_same mb.field true) (is_same shape.mbaff true)))
    (sums_searched (λ mb. mb ≡ skipped true) (λ mb. mb ≡ skipped false) (one_searched (skipped true)) (one_searched (skipped false))))
  where
    own : (mb : Mb) → (mb ≡ skipped true) ⊎ (mb ≡ skipped false) → mb ≡ skipped mb.field
    own mb (inl e) = e ∙ ap (λ (m : Mb). skipped m.field) (sym e)
    own mb (inr e) = e ∙ ap (λ (m : Mb). skipped m.field) (sym e)

    flag : (mb : Mb) (b : Bool) → mb ≡ skipped b → (mb ≡ skipped true) ⊎ (mb ≡ skipped false)
    flag mb true e = inl e
    flag mb false e = inr e

-- the macroblocks that are sent, with either flag
sent_searched : (shape : SliceShape) → Searches (λ mb. IsSent shape mb.field (prefix_bound shape) mb)
sent_searched shape =
    let bound = prefix_bound shape in
    same_searched (λ mb. IsSent shape true bound mb ⊎ IsSent shape false bound mb) (λ mb. IsSent shape mb.field bound mb) own (λ mb is. flag mb mb.field is)
    (sums_searched (IsSent shape true bound) (IsSent shape false bound) (macroblock_searched shape true bound) (macroblock_searched shape false bound))
  where
    with : (mb : Mb) (b : Bool) → IsSent shape b (prefix_bound shape) mb → IsSent shape mb.field (prefix_bound shape) mb
    with mb b is = subst (λ (f : Bool). IsSent shape f (prefix_bound shape) mb) (sym (sent_field shape b (prefix_bound shape) mb is)) is

    own : (mb : Mb) → IsSent shape true (prefix_bound shape) mb ⊎ IsSent shape false (prefix_bound shape) mb → IsSent shape mb.field (prefix_bound shape) mb
    own mb (inl is) = with mb true is
    own mb (inr is) = with mb false is

    flag : (mb : Mb) (b : Bool) → IsSent shape b (prefix_bound shape) mb → IsSent shape true (prefix_bound shape) mb ⊎ IsSent shape false (prefix_bound shape) mb
    flag mb true is = inl is
    flag mb false is = inr is

read_searched : (shape : SliceShape) → Searches (IsRead shape)
read_searched shape = sums_searched (λ mb. IsSent shape mb.field (prefix_bound shape) mb) (IsSkipped shape) (sent_searched shape) (skipped_searched shape)

-- ---- lists

pair_decided : (shape : SliceShape) (mbs : List Mb) (pair : ℕ) → Decided (IsPair shape mbs pair)
pair_decided shape mbs pair =
    made (both_decided (is_same (field_at mbs (2 * pair)) (field_at mbs (2 * pair + 1)))
    (when_decided (is_same (skipped_at mbs (2 * pair) && skipped_at mbs (2 * pair + 1)) true) (is_same (field_at mbs (2 * pair)) (inferred_field shape mbs pair))))
  where
    made : Decided ((field_at mbs (2 * pair) ≡ field_at mbs (2 * pair + 1)) × (IsTrue (skipped_at mbs (2 * pair) && skipped_at mbs (2 * pair + 1)) → field_at mbs (2 * pair) ≡ inferred_field shape mbs pair)) → Decided (IsPair shape mbs pair)
    made (inl h) = inl (record { same = h.0; inferred = h.1 })
    made (inr none) = inr (λ is. none (is.same, is.inferred))

pairs_decided : (shape : SliceShape) (mbs : List Mb) → Decided (HasPairs shape mbs)
pairs_decided shape mbs = when_decided (is_same shape.mbaff true) (made (all_decided (λ pair. 2 * pair + 1 < length mbs → IsPair shape mbs pair) (λ pair. when_decided (inside pair) (pair_decided shape mbs pair)) (length mbs)))
  where
    inside : (pair : ℕ) → Decided (2 * pair + 1 < length mbs)
    inside pair = elim (cases_lt (2 * pair + 1) (length mbs)) [ inl within ↦ inl within | inr past ↦ inr (λ h. omega (arith, h, past)) ]

    made : Decided ((pair : ℕ) → pair < length mbs → 2 * pair + 1 < length mbs → IsPair shape mbs pair) → Decided ((pair : ℕ) → 2 * pair + 1 < length mbs → IsPair shape mbs pair)
    made (inl all) = inl (λ pair h. all pair (omega (arith, h)) h)
    made (inr none) = inr (λ f. none (λ pair below h. f pair h))

-- some macroblocks, in whole pairs in MBAFF
abbrev AreWhole : SliceShape → List Mb → Type 0
AreWhole shape mbs = (1 ≤ length mbs) × HasPairs shape mbs × (is_bottom shape (length mbs) ≡ false)

whole_decided : (shape : SliceShape) (mbs : List Mb) → Decided (AreWhole shape mbs)
whole_decided shape mbs = made (most_decided 1 (length mbs)) (pairs_decided shape mbs) (is_same (is_bottom shape (length mbs)) false)
  where
    made : Decided (1 ≤ length mbs) → Decided (HasPairs shape mbs) → Decided (is_bottom shape (length mbs) ≡ false) → Decided (AreWhole shape mbs)
    made (inl some) (inl pairs) (inl whole) = inl (some, pairs, whole)
    made (inr none) pairs whole = inr (λ h. none h.0)
    made (inl some) (inr none) whole = inr (λ h. none h.1)
    made (inl some) (inl pairs) (inr none) = inr (λ h. none h.2)

lists_searched : (shape : SliceShape) → IsSliceShape shape → Searches (HasText shape)
lists_searched shape is_shape =
    let Read = IsRead shape in
    let most : ℕ = shape.width * shape.height - shape.first in
    same_searched (λ mbs. ((length mbs ≤ most) × AllByRecursion Read mbs) × AreWhole shape mbs) (HasText shape)
    (λ mbs h. let few = h.0.0 in let some = h.1.0 in read_text shape mbs is_shape (omega (arith, some)) (omega (arith, few, some)) (All-from_recursion Read mbs h.0.1) h.1.1 h.1.2)
    (λ mbs has.
    let inside = has.slice.inside in
    let some = has.slice.some in
    ((omega (arith, inside), recursion_from_All Read mbs (all_read shape mbs has)), (omega (arith, some), (λ mbaff. (has.slice.pairs mbaff).each), slice_whole shape mbs has.slice)))
    (conditions_searched (λ mbs. (length mbs ≤ most) × AllByRecursion Read mbs) (AreWhole shape)
    (whole_decided shape)
    (at_most_many_searched Read (read_searched shape) most))

abbrev pub IsDecided : SliceShape → ℕ → List Bool → Type 0
IsDecided shape pos bits = ((mbs : List Mb) × HasText shape mbs × (bits ≡ slice_text shape pos mbs)) ⊎ NoList shape pos bits

pub decided : (shape : SliceShape) (pos : ℕ) (all : List Bool) → IsSliceShape shape → IsDecided shape pos all
decided shape pos all is_shape =
    elim (lists_searched shape is_shape (λ mbs. are_same_bits all (slice_text shape pos mbs))) [
      | inl found ↦ inl (found.0, found.1, are_same_bits-true all (slice_text shape pos found.0) found.2)
      | inr none ↦ inr (λ mbs has e. are_same_bits-false all (slice_text shape pos mbs) (none mbs has) e)
    ]
