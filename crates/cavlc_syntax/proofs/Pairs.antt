-- The pairs of an MBAFF frame: what those known say of the next macroblock, and of the pairs with it.
use Rattle.std.proofs.Common.{◌≡◌, inl, inr, ℕ, zero, suc, ◌+◌, ◌-◌, ◌*◌, ◌/◌, ◌%◌, ◌<◌, Bool, true, false, List, [], ◌∷◌, ◌++◌, length, Option, Some, refl, sym, ap, ◌∙◌, length-append, eq-eqb, arith}
use Rattle.std.specs.Prelude.{◌==◌, ◌&&◌, ◌||◌, slice_get}
use Rattle.std.specs.Option.{option_map_or}
use Rattle.std.proofs.lemmas.Bool.{eqb-true, cases_lt}
use Rattle.std.proofs.lemmas.Bool.Decides.{eqb_tells, nat_tests}
use Rattle.exp_golomb.proofs.Fronts.{both}
use Rattle.h264_types.specs.Kind.{is_skip}
use Rattle.h264_types.specs.Slice.{field_at, skipped_at, inferred_field}
use Rattle.h264_types.specs.Valid.{IsPair, IsSlice}
use Rattle.h264_types.specs.declared.macroblock.Mb.{Mb}
use Rattle.h264_types.specs.declared.slice_shape.SliceShape.{SliceShape}
use Rattle.h264_types.proofs.SliceLaws.{field_at-append, inferred_field-append}
use Rattle.cavlc_syntax.specs.SliceText.{is_bottom, last_field, is_last_skipped, sends_field}
use Rattle.cavlc_syntax.specs.Standing.{HasPairs}

-- ---- tops and bottoms

pub bottom_is : (shape : SliceShape) (k : ℕ) → is_bottom shape k ≡ true → (shape.mbaff ≡ true) × (k % 2 ≡ 1)
bottom_is shape k e = let h = both shape.mbaff (k % 2 == 1) e in (h.0, eqb-true (k % 2) 1 h.1)

pub bottom_by : (shape : SliceShape) (k : ℕ) → shape.mbaff ≡ true → k % 2 ≡ 1 → is_bottom shape k ≡ true
bottom_by shape k mbaff odd = ap (λ b. b && (k % 2 == 1)) mbaff ∙ eq-eqb (k % 2) 1 odd

pub top_is : (shape : SliceShape) (k : ℕ) → is_bottom shape k ≡ false → shape.mbaff ≡ true → k % 2 ≡ 0
top_is shape k e mbaff =
    elim (eqb_tells (k % 2) 1) [
      | inl odd ↦ let bottom = bottom_by shape k mbaff odd.1 in absurd cc
      | inr even ↦ omega (arith, even.1)
    ]

pub top_by : (shape : SliceShape) (k : ℕ) → k % 2 ≡ 0 → is_bottom shape k ≡ false
top_by shape k even = by (is_bottom shape k) refl
  where
    by : (b : Bool) → is_bottom shape k ≡ b → is_bottom shape k ≡ false
    by true e = absurd (omega (arith, even, (bottom_is shape k e).1))
    by false e = e

pub no_pairs : (shape : SliceShape) (k : ℕ) → shape.mbaff ≡ false → is_bottom shape k ≡ false
no_pairs shape k mbaff = ap (λ b. b && (k % 2 == 1)) mbaff

-- the macroblock behind a bottom is a top, and the one behind a top is a bottom
pub behind_bottom : (shape : SliceShape) (k : ℕ) → is_bottom shape k ≡ true → is_bottom shape (k + 1) ≡ false
behind_bottom shape k e = top_by shape (k + 1) (omega (arith, (bottom_is shape k e).1))

pub behind_top : (shape : SliceShape) (k : ℕ) → is_bottom shape k ≡ false → shape.mbaff ≡ true → is_bottom shape (k + 1) ≡ true
behind_top shape k e mbaff = bottom_by shape (k + 1) mbaff (omega (arith, top_is shape k e mbaff))

-- ---- the macroblocks of a list

get_next : (known : List Mb) (mb : Mb) (tail : List Mb) → slice_get (known ++ mb ∷ tail) (length known) ≡ Some mb
get_next [] mb tail = refl
get_next (x ∷ known) mb tail = get_next known mb tail

get_second : (known : List Mb) (mb x : Mb) (tail : List Mb) → slice_get (known ++ mb ∷ x ∷ tail) (suc (length known)) ≡ Some x
get_second [] mb x tail = refl
get_second (y ∷ known) mb x tail = get_second known mb x tail

abbrev field_of : Option Mb → Bool
field_of o = option_map_or (λ (mb : Mb). mb.field) o false

abbrev skips_of : Option Mb → Bool
skips_of o = option_map_or (λ (mb : Mb). is_skip mb.kind) o false

field_next : (known : List Mb) (mb : Mb) (tail : List Mb) (k : ℕ) → k ≡ length known → field_at (known ++ mb ∷ tail) k ≡ mb.field
field_next known mb tail k e = ap (λ n. field_at (known ++ mb ∷ tail) n) e ∙ ap field_of (get_next known mb tail)

skips_next : (known : List Mb) (mb : Mb) (tail : List Mb) (k : ℕ) → k ≡ length known → skipped_at (known ++ mb ∷ tail) k ≡ is_skip mb.kind
skips_next known mb tail k e = ap (λ n. skipped_at (known ++ mb ∷ tail) n) e ∙ ap skips_of (get_next known mb tail)

field_second : (known : List Mb) (mb x : Mb) (tail : List Mb) (k : ℕ) → k ≡ length known + 1 → field_at (known ++ mb ∷ x ∷ tail) k ≡ x.field
field_second known mb x tail k e = let same : k ≡ suc (length known) = omega (arith, e) in ap (λ n. field_at (known ++ mb ∷ x ∷ tail) n) same ∙ ap field_of (get_second known mb x tail)

skips_second : (known : List Mb) (mb x : Mb) (tail : List Mb) (k : ℕ) → k ≡ length known + 1 → skipped_at (known ++ mb ∷ x ∷ tail) k ≡ is_skip x.kind
skips_second known mb x tail k e = let same : k ≡ suc (length known) = omega (arith, e) in ap (λ n. skipped_at (known ++ mb ∷ x ∷ tail) n) same ∙ ap skips_of (get_second known mb x tail)

skipped_at-append : (done rest : List Mb) (k : ℕ) → k < length done → skipped_at (done ++ rest) k ≡ skipped_at done k
skipped_at-append [] rest k within = absurd (omega arith)
skipped_at-append (mb ∷ done) rest zero within = refl
skipped_at-append (mb ∷ done) rest (suc k) within = skipped_at-append done rest k (omega arith)

pub last_field-push : (known : List Mb) (mb : Mb) → last_field (known ++ mb ∷ []) ≡ mb.field
last_field-push known mb = field_next known mb [] (length (known ++ mb ∷ []) - 1) (omega (arith, length-append known (mb ∷ [])))

pub is_last_skipped-push : (known : List Mb) (mb : Mb) → is_last_skipped (known ++ mb ∷ []) ≡ is_skip mb.kind
is_last_skipped-push known mb = skips_next known mb [] (length (known ++ mb ∷ []) - 1) (omega (arith, length-append known (mb ∷ [])))

-- whether the flag is sent behind a top, and behind other macroblocks
pub sends_behind_top : (shape : SliceShape) (known : List Mb) → is_bottom shape (length known) ≡ true → sends_field shape known ≡ is_last_skipped known
sends_behind_top shape known e =
    let h = bottom_is shape (length known) e in
    let odd : (length known % 2 == 0) ≡ false = grind (arith, nat_tests) in
    ap (λ b. b && (length known % 2 == 0 || is_last_skipped known)) h.0 ∙ ap (λ b. b || is_last_skipped known) odd

pub sends_at_top : (shape : SliceShape) (known : List Mb) → shape.mbaff ≡ true → length known % 2 ≡ 0 → sends_field shape known ≡ true
sends_at_top shape known mbaff even = ap (λ b. b && (length known % 2 == 0 || is_last_skipped known)) mbaff ∙ ap (λ b. b || is_last_skipped known) (eq-eqb (length known % 2) 0 even)

pub sends_never : (shape : SliceShape) (known : List Mb) → shape.mbaff ≡ false → sends_field shape known ≡ false
sends_never shape known mbaff = ap (λ b. b && (length known % 2 == 0 || is_last_skipped known)) mbaff

-- ---- what a slice says of the macroblock behind those known

pub slice_whole : (shape : SliceShape) (mbs : List Mb) → IsSlice shape mbs → is_bottom shape (length mbs) ≡ false
slice_whole shape mbs is = by shape.mbaff refl
  where
    by : (b : Bool) → shape.mbaff ≡ b → is_bottom shape (length mbs) ≡ false
    by true mbaff = top_by shape (length mbs) (is.pairs mbaff).even
    by false mbaff = no_pairs shape (length mbs) mbaff

-- a bottom has its top's flag
pub slice_bottom : (shape : SliceShape) (known : List Mb) (mb : Mb) (tail : List Mb) → IsSlice shape (known ++ mb ∷ tail) → is_bottom shape (length known) ≡ true → mb.field ≡ last_field known
slice_bottom shape known mb tail is e =
    let h = bottom_is shape (length known) e in
    let pair = (is.pairs h.0).each (length known / 2) (omega (arith, h.1, length-append known (mb ∷ tail))) in
    let k : 2 * (length known / 2) ≡ length known - 1 = omega (arith, h.1) in
    sym (field_next known mb tail (2 * (length known / 2) + 1) (omega (arith, h.1))) ∙ sym pair.same
    ∙ field_at-append known (mb ∷ tail) (2 * (length known / 2)) (omega (arith, h.1)) ∙ ap (field_at known) k

-- a top has its bottom's flag, which is inferred where both are skipped
pub record IsTopBefore (shape : SliceShape) (known : List Mb) (mb x : Mb) : Type 0 where
  pub same : mb.field ≡ x.field
  pub inferred : is_skip mb.kind ≡ true → is_skip x.kind ≡ true → mb.field ≡ inferred_field shape known (length known / 2)

pub slice_top : (shape : SliceShape) (known : List Mb) (mb x : Mb) (tail : List Mb) → IsSlice shape (known ++ mb ∷ x ∷ tail) → shape.mbaff ≡ true → length known % 2 ≡ 0 → IsTopBefore shape known mb x
slice_top shape known mb x tail is mbaff even =
    let p : ℕ = length known / 2 in
    let mbs : List Mb = known ++ mb ∷ x ∷ tail in
    let first : 2 * p ≡ length known = omega (arith, even) in
    let second : 2 * p + 1 ≡ length known + 1 = omega (arith, even) in
    let pair = (is.pairs mbaff).each p (omega (arith, even, length-append known (mb ∷ x ∷ tail))) in
    let top : field_at mbs (2 * p) ≡ mb.field = field_next known mb (x ∷ tail) (2 * p) first in
    record {
      same = sym top ∙ pair.same ∙ field_second known mb x tail (2 * p + 1) second;
      inferred = λ a b.
          let one : skipped_at mbs (2 * p) ≡ true = skips_next known mb (x ∷ tail) (2 * p) first ∙ a in
          let two : skipped_at mbs (2 * p + 1) ≡ true = skips_second known mb x tail (2 * p + 1) second ∙ b in
          sym top ∙ pair.inferred (ap (λ t. t && skipped_at mbs (2 * p + 1)) one ∙ two)
          ∙ inferred_field-append shape known (mb ∷ x ∷ tail) p (omega (arith, is.is_shape.some.0)) (omega (arith, first));
    }

-- ---- pairs of a list that goes on

-- the next macroblock, at the bottom of a pair, makes it one
abbrev pub Fits : SliceShape → List Mb → Mb → Type 0
Fits shape known mb =
    is_bottom shape (length known) ≡ true
    → (mb.field ≡ last_field known) × (is_last_skipped known ≡ true → is_skip mb.kind ≡ true → last_field known ≡ inferred_field shape known (length known / 2))

pair_more : (shape : SliceShape) (known rest : List Mb) (pair : ℕ) → 0 < shape.width → 2 * pair + 1 < length known → IsPair shape known pair → IsPair shape (known ++ rest) pair
pair_more shape known rest pair wide inside is =
    let top = field_at-append known rest (2 * pair) (omega (arith, inside)) in
    let bottom = field_at-append known rest (2 * pair + 1) inside in
    record {
      same = top ∙ is.same ∙ sym bottom;
      inferred = λ skips.
          let h = both (skipped_at (known ++ rest) (2 * pair)) (skipped_at (known ++ rest) (2 * pair + 1)) skips in
          let one : skipped_at known (2 * pair) ≡ true = sym (skipped_at-append known rest (2 * pair) (omega (arith, inside))) ∙ h.0 in
          let two : skipped_at known (2 * pair + 1) ≡ true = sym (skipped_at-append known rest (2 * pair + 1) inside) ∙ h.1 in
          top ∙ is.inferred (ap (λ t. t && skipped_at known (2 * pair + 1)) one ∙ two) ∙ sym (inferred_field-append shape known rest pair wide (omega (arith, inside)));
    }

pair_last : (shape : SliceShape) (known : List Mb) (mb : Mb) (pair : ℕ) → 0 < shape.width → shape.mbaff ≡ true → 2 * pair + 1 ≡ length known → Fits shape known mb → IsPair shape (known ++ mb ∷ []) pair
pair_last shape known mb pair wide mbaff last fits =
    let f = fits (bottom_by shape (length known) mbaff (omega (arith, last))) in
    let k : 2 * pair ≡ length known - 1 = omega (arith, last) in
    let p : length known / 2 ≡ pair = omega (arith, last) in
    let top : field_at (known ++ mb ∷ []) (2 * pair) ≡ last_field known = field_at-append known (mb ∷ []) (2 * pair) (omega (arith, last)) ∙ ap (field_at known) k in
    record {
      same = top ∙ sym f.0 ∙ sym (field_next known mb [] (2 * pair + 1) last);
      inferred = λ skips.
          let h = both (skipped_at (known ++ mb ∷ []) (2 * pair)) (skipped_at (known ++ mb ∷ []) (2 * pair + 1)) skips in
          let one : is_last_skipped known ≡ true = ap (skipped_at known) (sym k) ∙ sym (skipped_at-append known (mb ∷ []) (2 * pair) (omega (arith, last))) ∙ h.0 in
          let two : is_skip mb.kind ≡ true = sym (skips_next known mb [] (2 * pair + 1) last) ∙ h.1 in
          top ∙ f.1 one two ∙ ap (inferred_field shape known) p ∙ sym (inferred_field-append shape known (mb ∷ []) pair wide (omega (arith, last)));
    }

pub pairs_push : (shape : SliceShape) (known : List Mb) (mb : Mb) → 0 < shape.width → HasPairs shape known → Fits shape known mb → HasPairs shape (known ++ mb ∷ [])
pairs_push shape known mb wide pairs fits mbaff pair inside =
    elim (cases_lt (2 * pair + 1) (length known)) [
      | inl within ↦ pair_more shape known (mb ∷ []) pair wide within (pairs mbaff pair within)
      | inr past ↦ pair_last shape known mb pair wide mbaff (omega (arith, past, inside, length-append known (mb ∷ []))) fits
    ]

pub no_pair_yet : (shape : SliceShape) → HasPairs shape []
no_pair_yet shape mbaff pair inside = absurd (omega (arith, inside))
