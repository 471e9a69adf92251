-- lists of bins, and the bits that begin with numbers of their intervals
use Rattle.std.proofs.Common.{◌≡◌, ℕ, ◌+◌, ◌-◌, ◌*◌, ◌^◌, ◌<◌, ◌≤◌, ◌⊎◌, inl, inr, Bool, true, false, List, [], ◌∷◌, ◌++◌, take, refl, sym, ap, subst, ◌∙◌, arith, append_assoc, cond}
use Rattle.std.specs.List.{fold}
use Rattle.std.proofs.lemmas.List.{take_all, append-nil}
use Rattle.std.proofs.lemmas.List.Sums.{fold-append}
use Rattle.std.proofs.lemmas.Bool.{false≢true}
use Rattle.std.proofs.lemmas.Nat.{pow-add}
use Rattle.std.proofs.Math.Nat.{mul-le-mul_right, mul_assoc}
use Rattle.std.specs.Bool.{beq}
use Rattle.std.specs.Int.{from_bool}
use Rattle.bit_texts.specs.Bits.{number}
use Rattle.cabac_interval.specs.Interval.{Kind, context, bypass, terminate, Bin, Interval, doubled, doublings_of, renormalised, without_upper, upper, lps_of, after, whole, interval, IsKind, is_end, end_bin, IsOpen, IsSegment, IsCode, Begins, with_bin}
use Rattle.cabac_interval.specs.Laws.{LiesWithin, FollowsRule, IsClosingCode}
use Rattle.bit_texts.proofs.Numbers.{number-push, number-same, from_bool-most}
use Rattle.cabac_interval.proofs.Rows.{lps_within}
use Rattle.cabac_interval.proofs.Parts.{IsReady, IsReady-after, Begins-after, same_bit}

-- the interval of further bins, from an interval on
abbrev pub from : Interval → List Bin → Interval
from i bins = fold (λ j bin. after j bin.kind bin.bit) i bins

pub interval-append : (xs ys : List Bin) → interval (xs ++ ys) ≡ from (interval xs) ys
interval-append xs ys = fold-append (λ j bin. after j bin.kind bin.bit) whole xs ys

pub interval-push : (bins : List Bin) (bin : Bin) → interval (bins ++ bin ∷ []) ≡ after (interval bins) bin.kind bin.bit
interval-push bins bin = interval-append bins (bin ∷ [])

pub whole_ready : IsReady whole
whole_ready = record { low = omega arith; high = omega arith }

pub IsOpen-push : (bins : List Bin) (bin : Bin) → IsOpen bins → IsKind bin.kind → is_end bin.kind bin.bit ≡ false → IsOpen (bins ++ bin ∷ [])
IsOpen-push [] bin opened kind e = (kind, e, tt)
IsOpen-push (x ∷ bins) bin opened kind e = (opened.0, opened.1, IsOpen-push bins bin opened.2 kind e)

-- the bins that are left of a segment
abbrev Rest : List Bin → Type 0
Rest [] = ⊥
Rest (bin ∷ bins) = IsKind bin.kind × (((is_end bin.kind bin.bit ≡ true) × (bins ≡ [])) ⊎ ((is_end bin.kind bin.bit ≡ false) × Rest bins))

Rest-ended : (earlier : List Bin) → IsOpen earlier → Rest (earlier ++ end_bin ∷ [])
Rest-ended [] opened = (tt, inl (refl, refl))
Rest-ended (bin ∷ bins) opened = (opened.0, inr (opened.1, Rest-ended bins opened.2))

Rest-segment : (bins : List Bin) → IsSegment bins → Rest bins
Rest-segment bins s = subst Rest (sym s.bins_are) (Rest-ended s.earlier s.open_before)

Begins-rest : (bits : List Bool) (i : Interval) (bins : List Bin) → IsReady i → Rest bins → Begins bits (from i bins) → Begins bits i
Begins-rest bits i [] ready rest b = absurd rest
Begins-rest bits i (bin ∷ bins) ready rest b =
    elim rest.1 [
      | inl last ↦ Begins-after bits i bin.kind bin.bit rest.0 ready.low (subst (λ xs. Begins bits (from (after i bin.kind bin.bit) xs)) last.1 b)
      | inr more ↦ Begins-after bits i bin.kind bin.bit rest.0 ready.low
          (Begins-rest bits (after i bin.kind bin.bit) bins (IsReady-after i bin.kind bin.bit rest.0 more.0 ready) more.1 b)
    ]

-- the bits begin with a number of the interval after the first bin
Begins-first : (bits : List Bool) (i : Interval) (bin : Bin) (bins : List Bin) → IsReady i → Rest (bin ∷ bins) → Begins bits (from i (bin ∷ bins)) → Begins bits (after i bin.kind bin.bit)
Begins-first bits i bin bins ready rest b =
    elim rest.1 [
      | inl last ↦ subst (λ xs. Begins bits (from (after i bin.kind bin.bit) xs)) last.1 b
      | inr more ↦ Begins-rest bits (after i bin.kind bin.bit) bins (IsReady-after i bin.kind bin.bit rest.0 more.0 ready) more.1 b
    ]

-- the bins that are left go on from the earlier ones by the rule
abbrev Goes : (List Bin → Kind) → List Bin → List Bin → Type 0
Goes rule earlier [] = Unit {0}
Goes rule earlier (bin ∷ bins) = (bin.kind ≡ rule earlier) × Goes rule (earlier ++ bin ∷ []) bins

Goes-from : (rule : List Bin → Kind) (bins earlier rest : List Bin) → FollowsRule rule bins → bins ≡ earlier ++ rest → Goes rule earlier rest
Goes-from rule bins earlier [] follows e = tt
Goes-from rule bins earlier (bin ∷ rest) follows e =
    (follows earlier rest bin e, Goes-from rule bins (earlier ++ bin ∷ []) rest follows (e ∙ sym (append_assoc earlier (bin ∷ []) rest)))

same_bin : (x y : Bin) → x.kind ≡ y.kind → x.bit ≡ y.bit → x ≡ y
same_bin x y k b = ap (λ (p : Kind × Bool). record { kind = p.0; bit = p.1 }) (let e : (x.kind, x.bit) ≡ (y.kind, y.bit) = cc in e)

pub same_rest : (rule : List Bin → Kind) (bits : List Bool) (earlier : List Bin) (i : Interval) (xs ys : List Bin) → IsReady i → Rest xs → Rest ys → Goes rule earlier xs → Goes rule earlier ys → Begins bits (from i xs) → Begins bits (from i ys) → xs ≡ ys
same_rest rule bits earlier i [] ys ready rx ry gx gy bx by = absurd rx
same_rest rule bits earlier i (x ∷ xs) [] ready rx ry gx gy bx by = absurd ry
same_rest rule bits earlier i (x ∷ xs) (y ∷ ys) ready rx ry gx gy bx by =
    let kinds : x.kind ≡ y.kind = gx.0 ∙ sym gy.0 in
    let fx = Begins-first bits i x xs ready rx bx in
    let fy = subst (λ k. Begins bits (after i k y.bit)) (sym kinds) (Begins-first bits i y ys ready ry by) in
    let digits : x.bit ≡ y.bit = same_bit bits i x.kind x.bit y.bit fx fy in
    let first : x ≡ y = same_bin x y kinds digits in
    elim rx.1 [
      | inl lx ↦ elim ry.1 [
        | inl ly ↦ cc
        | inr my ↦ absurd (false≢true (sym my.0 ∙ ap (λ b. is_end b.kind b.bit) (sym first) ∙ lx.0))
      ]
      | inr mx ↦ elim ry.1 [
        | inl ly ↦ absurd (false≢true (sym mx.0 ∙ ap (λ b. is_end b.kind b.bit) first ∙ ly.0))
        | inr my ↦
            let next = same_rest rule bits (earlier ++ x ∷ []) (after i x.kind x.bit) xs ys
            (IsReady-after i x.kind x.bit rx.0 mx.0 ready) mx.1 my.1 gx.1
            (subst (λ b. Goes rule (earlier ++ b ∷ []) ys) (sym first) gy.1) bx
            (subst (λ b. Begins bits (from (after i b.kind b.bit) ys)) (sym first) by) in
            cc
      ]
    ]

pub Begins-code : (bins : List Bin) (code : List Bool) → IsCode bins code → Begins code (interval bins)
Begins-code bins code c =
    let same : take (9 + (interval bins).doublings) code ≡ code = take_all (9 + (interval bins).doublings) code (omega (arith, c.size)) in
    record {
      enough = omega (arith, c.size);
      above = subst (λ x. (interval bins).low ≤ number x) (sym same) c.above;
      below = subst (λ x. number x < (interval bins).low + (interval bins).range) (sym same) c.below;
    }

pub same_bins : (rule : List Bin → Kind) (bins others : List Bin) (code : List Bool) → FollowsRule rule bins → FollowsRule rule others → IsCode bins code → IsCode others code → bins ≡ others
same_bins rule bins others code fx fy cx cy =
    same_rest rule code [] whole bins others whole_ready (Rest-segment bins cx.segment) (Rest-segment others cy.segment)
    (Goes-from rule bins [] bins fx refl) (Goes-from rule others [] others fy refl) (Begins-code bins code cx) (Begins-code others code cy)

-- ---- nested intervals

part_within : (n r : ℕ) (i : Interval) → r ≤ i.range → (c : Bool) → LiesWithin (doubled n (cond c (without_upper r i) (upper r i))) i
part_within n r i h true = record {
  more = n;
  doublings_are = refl;
  above = omega arith;
  below = omega (arith, mul-le-mul_right (2 ^ n) (let e : i.low + (i.range - r) ≤ i.low + i.range = omega arith in e));
}
part_within n r i h false = record {
  more = n;
  doublings_are = refl;
  above = mul-le-mul_right (2 ^ n) (omega arith);
  below = omega (arith, mul-le-mul_right (2 ^ n) (let e : i.low + (i.range - r) + r ≤ i.low + i.range = omega arith in e));
}

within_part : (r : ℕ) (i : Interval) → r ≤ i.range → (c : Bool) → LiesWithin (renormalised (cond c (without_upper r i) (upper r i))) i
within_part r i h true = part_within (doublings_of (i.range - r)) r i h true
within_part r i h false = part_within (doublings_of r) r i h false

after_within : (i : Interval) (k : Kind) (bit : Bool) → IsKind k → IsReady i → LiesWithin (after i k bit) i
after_within i (context p mps) bit kind ready = within_part (lps_of p i.range) i (omega (arith, (lps_within p i.range kind).1, ready.low)) (beq bit mps)
after_within i bypass bit kind ready =
    let most : from_bool bit * i.range ≤ 1 * i.range = mul-le-mul_right i.range (from_bool-most bit) in
    record { more = 1; doublings_are = refl; above = omega arith; below = omega (arith, most) }
after_within i terminate false kind ready = within_part 2 i (omega (arith, ready.low)) true
after_within i terminate true kind ready = record { more = 0; doublings_are = omega arith; above = omega arith; below = omega (arith, ready.low) }

within_self : (i : Interval) → LiesWithin i i
within_self i = record { more = 0; doublings_are = omega arith; above = omega arith; below = omega arith }

scaled : (a b c m n : ℕ) → a * 2 ^ m ≤ b → b * 2 ^ n ≤ c → a * 2 ^ (m + n) ≤ c
scaled a b c m n h k =
    let e = pow-add 2 m n in
    let p = mul-le-mul_right (2 ^ n) h in
    let q : a * 2 ^ (m + n) ≡ a * 2 ^ m * 2 ^ n = ap (λ x. a * x) e ∙ sym (mul_assoc a (2 ^ m) (2 ^ n)) in
    omega (arith, p, q)

scaled_up : (a b c m n : ℕ) → b ≤ a * 2 ^ m → c ≤ b * 2 ^ n → c ≤ a * 2 ^ (m + n)
scaled_up a b c m n h k =
    let e = pow-add 2 m n in
    let p = mul-le-mul_right (2 ^ n) h in
    let q : a * 2 ^ (m + n) ≡ a * 2 ^ m * 2 ^ n = ap (λ x. a * x) e ∙ sym (mul_assoc a (2 ^ m) (2 ^ n)) in
    omega (arith, p, q)

within_both : (i j k : Interval) → LiesWithin k j → LiesWithin j i → LiesWithin k i
within_both i j k x y = record {
  more = y.more + x.more;
  doublings_are = omega (arith, x.doublings_are, y.doublings_are);
  above = scaled i.low j.low k.low y.more x.more y.above x.above;
  below = scaled_up (i.low + i.range) (j.low + j.range) (k.low + k.range) y.more x.more y.below x.below;
}

-- bins that may follow
abbrev Later : List Bin → Type 0
Later [] = Unit {0}
Later (bin ∷ bins) = IsKind bin.kind × ((bins ≡ []) ⊎ ((is_end bin.kind bin.bit ≡ false) × Later bins))

from_within : (i : Interval) (bins : List Bin) → IsReady i → Later bins → LiesWithin (from i bins) i
from_within i [] ready later = within_self i
from_within i (bin ∷ bins) ready later =
    let step = after_within i bin.kind bin.bit later.0 ready in
    elim later.1 [
      | inl last ↦ subst (λ xs. LiesWithin (from (after i bin.kind bin.bit) xs) i) (sym last) step
      | inr more ↦ within_both i (after i bin.kind bin.bit) (from (after i bin.kind bin.bit) bins)
          (from_within (after i bin.kind bin.bit) bins (IsReady-after i bin.kind bin.bit later.0 more.0 ready) more.1) step
    ]

Later-open : (bins : List Bin) → IsOpen bins → Later bins
Later-open [] opened = tt
Later-open (bin ∷ bins) opened = (opened.0, inr (opened.1, Later-open bins opened.2))

Later-rest : (bins : List Bin) → Rest bins → Later bins
Later-rest [] rest = tt
Later-rest (bin ∷ bins) rest = (rest.0, elim rest.1 [ inl last ↦ inl last.1 | inr more ↦ inr (more.0, Later-rest bins more.1) ])

last_of : (xs ys : List Bin) → xs ++ ys ≡ [] → ys ≡ []
last_of [] ys e = e
last_of (x ∷ xs) ys e = cc

-- the bins so far are ready for others, which may follow
Split : (earlier later : List Bin) (i : Interval) → Type 0
Split earlier later i = (IsReady (from i earlier) × Later later) ⊎ (later ≡ [])

split_at : (i : Interval) (earlier later : List Bin) → IsReady i → Later (earlier ++ later) → Split earlier later i
unfolding Split
split_at i [] later ready h = inl (ready, h)
split_at i (bin ∷ earlier) later ready h =
    elim h.1 [
      | inl last ↦ inr (last_of earlier later last)
      | inr more ↦ split_at (after i bin.kind bin.bit) earlier later (IsReady-after i bin.kind bin.bit h.0 more.0 ready) more.1
    ]

within_split : (earlier later : List Bin) → Split earlier later whole → LiesWithin (interval (earlier ++ later)) (interval earlier)
unfolding Split
within_split earlier later (inl s) =
    subst (λ i. LiesWithin i (interval earlier)) (sym (interval-append earlier later)) (from_within (interval earlier) later s.0 s.1)
within_split earlier later (inr e) =
    subst (λ xs. LiesWithin (interval (earlier ++ xs)) (interval earlier)) (sym e)
    (subst (λ xs. LiesWithin (interval xs) (interval earlier)) (sym (append-nil earlier)) (within_self (interval earlier)))

pub nested : (earlier later : List Bin) → IsOpen (earlier ++ later) ⊎ IsSegment (earlier ++ later) → LiesWithin (interval (earlier ++ later)) (interval earlier)
nested earlier later h =
    let follows : Later (earlier ++ later) = elim h [ inl opened ↦ Later-open (earlier ++ later) opened | inr s ↦ Later-rest (earlier ++ later) (Rest-segment (earlier ++ later) s) ] in
    within_split earlier later (split_at whole earlier later whole_ready follows)

-- ---- the closing code

pub segment_range : (bins : List Bin) → IsSegment bins → (interval bins).range ≡ 2
segment_range bins s = ap (λ i. i.range) (ap interval s.bins_are ∙ interval-push s.earlier end_bin)

pub same_closing : (bins : List Bin) (code other : List Bool) → IsClosingCode bins code → IsClosingCode bins other → code ≡ other
same_closing bins code other x y =
    let range = segment_range bins x.is_code.segment in
    let odd = ap number x.last_is_one.1 ∙ number-push x.last_is_one.0 true in
    let also = ap number y.last_is_one.1 ∙ number-push y.last_is_one.0 true in
    number-same code other (x.is_code.size ∙ sym y.is_code.size)
    (omega (arith, range, odd, also, x.is_code.above, x.is_code.below, y.is_code.above, y.is_code.below))

-- ---- one more bin

pub same_next : (bits : List Bool) (bins : List Bin) (kind : Kind) (bit other : Bool) → Begins bits (interval (with_bin bins kind bit)) → Begins bits (interval (with_bin bins kind other)) → bit ≡ other
same_next bits bins kind bit other x y =
    same_bit bits (interval bins) kind bit other
    (subst (Begins bits) (interval-push bins (record { kind = kind; bit = bit })) x)
    (subst (Begins bits) (interval-push bins (record { kind = kind; bit = other })) y)
