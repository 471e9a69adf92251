-- Each type of a slice has a number of its own.
use Rattle.std.proofs.Common.{◌≡◌, ℕ, ◌+◌, ◌-◌, ◌≤◌, eqb, Bool, true, false, refl, sym, ap, ◌∙◌, arith}
use Rattle.std.specs.Prelude.{nat_le, if◌then◌else◌, ◌==◌}
use Rattle.std.proofs.lemmas.Bool.Decides.{nat_tests}
use Rattle.bit_texts.specs.Texts.{IsPrefixFree}
use Rattle.exp_golomb.specs.Code.{ue}
use Rattle.cavlc_inter.proofs.Codes.{IsPrefixFree-ue}
use Rattle.h264_types.specs.Valid.{is_kind_in}
use Rattle.h264_types.specs.declared.macroblock.MbKind.{MbKind}
use Rattle.h264_types.specs.declared.macroblock.MbKind.TheVariants.{Skip, Intra, P, B}
use Rattle.h264_types.specs.declared.slice_shape.SliceKind.{SliceKind}
use Rattle.h264_types.specs.declared.slice_shape.SliceKind.TheVariants as slices
use Rattle.cavlc_macroblock.specs.MbType.{first_intra, type_of, IsTypeIn}

abbrev Typed : Type 0
Typed = MbKind × Bool

-- ---- the type with a number

type_before : SliceKind → ℕ → Typed
type_before slices.I number = (Skip, false)
type_before slices.P number = if number == 4 then (P 3, true) else (P number, false)
type_before slices.B number = (B number, false)

pub type_at : SliceKind → ℕ → Typed
type_at slice number = if nat_le (first_intra slice) number then (Intra (number - first_intra slice), false) else type_before slice number

not_ref0 : (kind : MbKind) (other : P 3 ≡ kind → ⊥) (ref0 : Bool) → (ref0 ≡ true → kind ≡ P 3) → ref0 ≡ false
not_ref0 kind other true h = absurd (other (sym (h refl)))
not_ref0 kind other false h = refl

at_intra : (slice : SliceKind) (n : ℕ) → type_at slice (first_intra slice + n) ≡ (Intra n, false)
unfolding type_at type_before
at_intra slice n =
    let behind : nat_le (first_intra slice) (first_intra slice + n) ≡ true = grind (arith, nat_tests) in
    let number : first_intra slice + n - first_intra slice ≡ n = omega arith in
    rw (behind, number) refl

at_p : (n : ℕ) → n ≤ 3 → type_at slices.P n ≡ (P n, false)
unfolding type_at type_before
at_p n h =
    let before : nat_le 5 n ≡ false = grind (arith, nat_tests) in
    let other : eqb n 4 ≡ false = grind (arith, nat_tests) in
    rw (before, other) refl

at_b : (n : ℕ) → n ≤ 22 → type_at slices.B n ≡ (B n, false)
unfolding type_at type_before
at_b n h = let before : nat_le 23 n ≡ false = grind (arith, nat_tests) in rw before refl

small : (n m : ℕ) → nat_le n m ≡ true → n ≤ m
small n m h = grind (arith, nat_tests)

again_p : (n : ℕ) (ref0 : Bool) → n ≤ 3 → (ref0 ≡ true → P n ≡ P 3) → type_at slices.P (if ref0 then 4 else n) ≡ (P n, ref0)
unfolding type_at type_before
again_p n true h only = ap (λ (k : MbKind). (k, true)) (sym (only refl))
again_p n false h only = at_p n h

again : (slice : SliceKind) (kind : MbKind) (ref0 : Bool) → is_kind_in slice kind ≡ true → (ref0 ≡ true → kind ≡ P 3) → IsTypeIn slice (kind, ref0) → type_at slice (type_of slice kind ref0) ≡ (kind, ref0)
again slice (Intra n) ref0 h only is = at_intra slice n ∙ ap (λ (b : Bool). (Intra n, b)) (sym (not_ref0 (Intra n) (λ e. cc) ref0 only))
again slice Skip ref0 h only is = let sent = is.sent in absurd cc
again slices.I (P n) ref0 h only is = absurd cc
again slices.P (P n) ref0 h only is = again_p n ref0 (small n 3 h) only
again slices.B (P n) ref0 h only is = absurd cc
again slices.I (B n) ref0 h only is = absurd cc
again slices.P (B n) ref0 h only is = absurd cc
again slices.B (B n) ref0 h only is = at_b n (small n 22 h) ∙ ap (λ (b : Bool). (B n, b)) (sym (not_ref0 (B n) (λ e. cc) ref0 only))

pub typed_again : (slice : SliceKind) (type : Typed) → IsTypeIn slice type → type_at slice (type_of slice type.0 type.1) ≡ type
typed_again slice type is = again slice type.0 type.1 is.kind is.ref0 is

-- ---- the numbers of a slice

pub most : (slice : SliceKind) (kind : MbKind) (ref0 : Bool) → is_kind_in slice kind ≡ true → type_of slice kind ref0 ≤ first_intra slice + 25
most slices.I (Intra n) ref0 h = let s = small n 25 h in omega arith
most slices.P (Intra n) ref0 h = let s = small n 25 h in omega arith
most slices.B (Intra n) ref0 h = let s = small n 25 h in omega arith
most slice Skip ref0 h = omega arith
most slices.I (P n) ref0 h = absurd cc
most slices.P (P n) true h = omega arith
most slices.P (P n) false h = let s = small n 3 h in omega arith
most slices.B (P n) ref0 h = absurd cc
most slices.I (B n) ref0 h = absurd cc
most slices.P (B n) ref0 h = absurd cc
most slices.B (B n) ref0 h = let s = small n 22 h in omega arith

first_small : (slice : SliceKind) → first_intra slice ≤ 23
first_small slices.I = omega arith
first_small slices.P = omega arith
first_small slices.B = omega arith

pub IsPrefixFree-type : (slice : SliceKind) → IsPrefixFree (IsTypeIn slice) (λ type. ue (type_of slice type.0 type.1))
IsPrefixFree-type slice v w x y p q e =
    let same = IsPrefixFree-ue (first_intra slice + 25) (omega (arith, first_small slice)) (type_of slice v.0 v.1) (type_of slice w.0 w.1) x y (most slice v.0 v.1 p.kind) (most slice w.0 w.1 q.kind) e in
    sym (typed_again slice v p) ∙ ap (type_at slice) same ∙ typed_again slice w q

-- ---- each number up to the greatest is that of a type

pub in_slice : (slice : SliceKind) (n : ℕ) → n ≤ 25 → is_kind_in slice (Intra n) ≡ true
in_slice slices.I n h = grind (arith, nat_tests)
in_slice slices.P n h = grind (arith, nat_tests)
in_slice slices.B n h = grind (arith, nat_tests)

type_in : (slice : SliceKind) (number : ℕ) (b : Bool) → nat_le (first_intra slice) number ≡ b → number ≤ first_intra slice + 25 → IsTypeIn slice (if b then (Intra (number - first_intra slice), false) else type_before slice number)
unfolding type_before
type_in slice number true e h = record { kind = in_slice slice (number - first_intra slice) (omega arith); sent = refl; ref0 = λ set. absurd cc }
type_in slices.I number false e h = absurd (let yes : nat_le 0 number ≡ true = grind (arith, nat_tests) in cc (e, yes))
type_in slices.P number false e h = by (eqb number 4) refl
  where
    by : (b : Bool) → eqb number 4 ≡ b → IsTypeIn slices.P (if b then (P 3, true) else (P number, false))
    by true other = record { kind = refl; sent = refl; ref0 = λ set. refl }
    by false other = record { kind = grind (arith, nat_tests); sent = refl; ref0 = λ set. absurd cc }
type_in slices.B number false e h = record { kind = grind (arith, nat_tests); sent = refl; ref0 = λ set. absurd cc }

pub at_type : (slice : SliceKind) (number : ℕ) → number ≤ first_intra slice + 25 → IsTypeIn slice (type_at slice number)
unfolding type_at
at_type slice number h = type_in slice number (nat_le (first_intra slice) number) refl h
