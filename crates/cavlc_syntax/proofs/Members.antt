-- The macroblocks that are read are those of slices.
use Rattle.std.proofs.Common.{◌≡◌, inl, inr, ℕ, ◌*◌, ◌/◌, ◌%◌, ◌<◌, ◌≤◌, ◌+◌, List, [], ◌∷◌, ◌++◌, length, Bool, true, false, replicate, refl, ap, ◌∙◌, length-append, arith}
use Rattle.std.specs.Prelude.{All, ◌==◌, if◌then◌else◌}
use Rattle.std.proofs.lemmas.List.{length-replicate}
use Rattle.std.proofs.lemmas.List.Elements.{All-nil, All-cons, All-head, All-tail, All-weaker, All-push, All-replicate}
use Rattle.h264_types.specs.Kind.{is_skip, is_i_16x16}
use Rattle.h264_types.specs.Valid.{IsMacroblock, IsCoded, is_kind_in}
use Rattle.h264_types.specs.declared.slice_shape.SliceKind.TheVariants as slices
use Rattle.h264_types.specs.declared.macroblock.Mb.{Mb}
use Rattle.h264_types.specs.declared.macroblock.MbKind.{MbKind}
use Rattle.h264_types.specs.declared.macroblock.MbKind.TheVariants.{Skip, Intra, P, B}
use Rattle.h264_types.specs.declared.slice_shape.SliceShape.{SliceShape}
use Rattle.h264_types.specs.Macroblock.{pattern_of, no_elements}
use Rattle.h264_types.specs.SliceShape.{IsSliceShape}
use Rattle.h264_types.specs.declared.slice_shape.SliceKind.{SliceKind}
use Rattle.cavlc_mb_residual.specs.MacroblockResidual.{HasSmallLevels, IsResidual, is_beyond_mb}
use Rattle.cavlc_mb_residual.proofs.BeyondLaws.{small_residual}
use Rattle.cavlc_mb_residual.proofs.ResidualValid.{to_residual, residual_not_beyond}
use Rattle.pcm_samples.specs.Samples.{AreSamples}
use Rattle.cavlc_macroblock.specs.Macroblock.{skipped, i_pcm}
use Rattle.cavlc_macroblock.specs.Reading.{IsSent}
use Rattle.cavlc_macroblock.proofs.ValidLaws.{has_transform, valid_sent, sent_valid, sent_sizes, valid_skipped, skipped_valid, skipped_levels}
use Rattle.cavlc_syntax.specs.Reading.{IsSkipped, IsRead}
use Rattle.cavlc_syntax.specs.SliceText.{IsNotBeyond, HasText, prefix_bound, is_bottom, last_field}
use Rattle.cavlc_syntax.specs.Standing.{HasPairs}
use Rattle.cavlc_syntax.proofs.Pairs.{top_is, bottom_is, behind_bottom, pairs_push}

-- ---- macroblocks

skip_kind : (kind : MbKind) → is_skip kind ≡ true → kind ≡ Skip
skip_kind Skip e = refl
skip_kind (Intra n) e = absurd cc
skip_kind (P n) e = absurd cc
skip_kind (B n) e = absurd cc

pub is_skipped : (shape : SliceShape) (mb : Mb) → IsSkipped shape mb → is_skip mb.kind ≡ true
is_skipped shape mb is = ap (λ (m : Mb). is_skip m.kind) is.elements

pub sent_of : (shape : SliceShape) (mb : Mb) → IsRead shape mb → is_skip mb.kind ≡ false → IsSent shape mb.field (prefix_bound shape) mb
sent_of shape mb (inl is) e = is
sent_of shape mb (inr is) e = let skips = is_skipped shape mb is in absurd cc

pub skipped_of_read : (shape : SliceShape) (mb : Mb) → IsRead shape mb → is_skip mb.kind ≡ true → IsSkipped shape mb
skipped_of_read shape mb (inl is) e = let sent : is_skip mb.kind ≡ false = is.sent in absurd cc
skipped_of_read shape mb (inr is) e = is

-- outside MBAFF no macroblock is of a field pair
pub no_field : (shape : SliceShape) (mb : Mb) → IsRead shape mb → shape.mbaff ≡ false → mb.field ≡ false
no_field shape mb is mbaff = by mb.field refl is
  where
    by : (b : Bool) → mb.field ≡ b → IsRead shape mb → mb.field ≡ false
    by false e is = e
    by true e (inl is) = let no : shape.mbaff ≡ true = is.pair e in absurd cc
    by true e (inr is) = let no : shape.mbaff ≡ true = is.pair e in absurd cc

read_valid : (shape : SliceShape) (mb : Mb) → IsRead shape mb → IsMacroblock shape mb
read_valid shape mb (inl is) = sent_valid shape mb.field (prefix_bound shape) mb is
read_valid shape mb (inr is) = skipped_valid shape mb.field mb is.elements is.kind is.pair

read_not_beyond : (shape : SliceShape) (mb : Mb) → IsRead shape mb → IsNotBeyond shape mb
read_not_beyond shape mb (inl is) = (sent_sizes shape mb.field (prefix_bound shape) mb is).1
read_not_beyond shape mb (inr is) = ap (is_beyond_mb (prefix_bound shape)) is.elements ∙ (skipped_levels mb.field (prefix_bound shape)).1

-- a valid macroblock that is skipped
pub skipped_of : (shape : SliceShape) (mb : Mb) → is_skip mb.kind ≡ true → IsMacroblock shape mb → IsSkipped shape mb
skipped_of shape mb skips is = let all = valid_skipped shape mb (skip_kind mb.kind skips) is in record { elements = all.0; kind = all.1; pair = all.2 }

valid_read : (shape : SliceShape) (mb : Mb) → IsMacroblock shape mb → IsNotBeyond shape mb → IsRead shape mb
valid_read shape mb is within = by (is_skip mb.kind) refl
  where
    by : (b : Bool) → is_skip mb.kind ≡ b → IsRead shape mb
    by true skips = inr (skipped_of shape mb skips is)
    by false sent = inl (valid_sent shape (prefix_bound shape) mb sent within is)

-- a skipped macroblock has no level, whatever the slice
pub skipped_coded : (shape : SliceShape) (field : Bool) (mb : Mb) → mb ≡ skipped field → IsCoded mb
skipped_coded shape field mb e =
    let kind : is_kind_in slices.P Skip ≡ true = refl in
    (skipped_valid (record shape { kind = slices.P; mbaff = true }) field mb e kind (λ f. refl)).coded

-- a macroblock without elements that was given a flag
pub skipped_is : (mb : Mb) (field : Bool) → mb ≡ no_elements Skip → record mb { field = field } ≡ skipped field
skipped_is mb field e = ap (λ (m : Mb). record m { field = field }) e

-- ---- levels

valid_levels : (shape : SliceShape) (mb : Mb) → IsMacroblock shape mb → IsResidual (is_i_16x16 mb.kind) (pattern_of mb) 20 mb
valid_levels shape mb is =
    to_residual mb is.sizes (has_transform shape mb is.typed.t8) is.coded.luma is.coded.chroma

-- a valid macroblock is sent with level_prefix up to 20, and the levels of one that is sent are in range
pub sent_20 : (shape : SliceShape) (mb : Mb) → is_skip mb.kind ≡ false → IsMacroblock shape mb → IsSent shape mb.field 20 mb
sent_20 shape mb sent is = valid_sent shape 20 mb sent (residual_not_beyond _ _ 20 mb (valid_levels shape mb is)) is

pub sent_small : (shape : SliceShape) (field : Bool) (bound : ℕ) (mb : Mb) → IsSent shape field bound mb → HasSmallLevels mb
sent_small shape field bound mb is = small_residual _ _ 20 mb (valid_levels shape mb (sent_valid shape field bound mb is))

-- ---- lists

pub bound_most : (shape : SliceShape) → prefix_bound shape ≤ 20
bound_most shape = by (shape.profile == 77)
  where
    by : (main : Bool) → (if main then 15 else 20) ≤ 20
    by true = omega arith
    by false = omega arith

pub all_read : (shape : SliceShape) (mbs : List Mb) → HasText shape mbs → All (IsRead shape) mbs
all_read shape mbs has = by mbs has.slice.macroblocks has.within
  where
    by : (xs : List Mb) → All (IsMacroblock shape) xs → All (IsNotBeyond shape) xs → All (IsRead shape) xs
    by [] are within = All-nil (IsRead shape)
    by (x ∷ xs) are within =
        All-cons (IsRead shape) x xs
        (valid_read shape x (All-head (IsMacroblock shape) x xs are) (All-head (IsNotBeyond shape) x xs within))
        (by xs (All-tail (IsMacroblock shape) x xs are) (All-tail (IsNotBeyond shape) x xs within))

pub all_behind : {A : Type 0} (Is : A → Type 0) (xs ys : List A) → All Is (xs ++ ys) → All Is ys
all_behind Is [] ys h = h
all_behind Is (x ∷ xs) ys h = all_behind Is xs ys (All-tail Is x (xs ++ ys) h)

-- the macroblock behind those known
pub read_next : (shape : SliceShape) (known : List Mb) (mb : Mb) (tail : List Mb) → HasText shape (known ++ mb ∷ tail) → IsRead shape mb
read_next shape known mb tail has = All-head (IsRead shape) mb tail (all_behind (IsRead shape) known (mb ∷ tail) (all_read shape (known ++ mb ∷ tail) has))

-- lists of macroblocks that are read have a text, in a picture that has room for them, where they are whole pairs in MBAFF
pub read_text : (shape : SliceShape) (mbs : List Mb) → IsSliceShape shape → 0 < length mbs → shape.first + length mbs ≤ shape.width * shape.height → All (IsRead shape) mbs
    → HasPairs shape mbs → is_bottom shape (length mbs) ≡ false → HasText shape mbs
read_text shape mbs is_shape some inside are pairs whole = record {
  slice = record {
    is_shape = is_shape;
    some = some;
    inside = inside;
    macroblocks = All-weaker (IsRead shape) (IsMacroblock shape) (read_valid shape) mbs are;
    pairs = λ mbaff. record { even = top_is shape (length mbs) whole mbaff; each = pairs mbaff };
  };
  within = All-weaker (IsRead shape) (IsNotBeyond shape) (read_not_beyond shape) mbs are;
}

-- ---- half a pair at the end, with a bottom

intra_in : (kind : SliceKind) → is_kind_in kind (Intra 25) ≡ true
intra_in slices.I = refl
intra_in slices.P = refl
intra_in slices.B = refl

no_samples : AreSamples (replicate 384 0)
no_samples = let none : ℕ = 0 in record { count = length-replicate 384 none; bytes = All-replicate (λ (sample : ℕ). sample ≤ 255) 384 0 (omega arith) }

-- a macroblock that any slice may have
black : Bool → Mb
black field = i_pcm field (replicate 384 0)

black_read : (shape : SliceShape) (field : Bool) → (field ≡ true → shape.mbaff ≡ true) → IsRead shape (black field)
unfolding black
black_read shape field pair = inl (record {
  kind = intra_in shape.kind;
  sent = refl;
  ref0 = λ e. absurd cc;
  pair = pair;
  elements = inl (record { elements = refl; samples = no_samples });
})

even_size : (width height : ℕ) → height % 2 ≡ 0 → width * height % 2 ≡ 0
even_size width height even =
    let half : ℕ = height / 2 in
    let twice : height ≡ 2 * half = omega (arith, even) in
    let same : width * height ≡ 2 * (width * half) = ap (λ n. width * n) twice ∙ grind arith in
    omega (arith, same)

-- a list that ends with a top goes on
pub half_text : (shape : SliceShape) (known : List Mb) → IsSliceShape shape → 0 < length known → shape.first + length known ≤ shape.width * shape.height → All (IsRead shape) known
    → HasPairs shape known → is_bottom shape (length known) ≡ true → (tail : List Mb) × HasText shape (known ++ tail)
unfolding black
half_text shape known is_shape some inside are pairs half =
    let h = bottom_is shape (length known) half in
    let mb : Mb = black (last_field known) in
    let p = is_shape.pairs h.0 in
    let size : shape.width * shape.height % 2 ≡ 0 = even_size shape.width shape.height p.1 in
    let all : length (known ++ mb ∷ []) ≡ length known + 1 = length-append known (mb ∷ []) in
    let whole : is_bottom shape (length (known ++ mb ∷ [])) ≡ false = ap (is_bottom shape) all ∙ behind_bottom shape (length known) half in (
      mb ∷ [],
      read_text shape (known ++ mb ∷ []) is_shape (omega (arith, all)) (omega (arith, all, inside, h.1, p.2, size))
          (All-push (IsRead shape) known mb are (black_read shape (last_field known) (λ field. h.0)))
          (pairs_push shape known mb (omega (arith, is_shape.some.0)) pairs (λ e. (refl, λ a b. absurd cc))) whole,
    )
