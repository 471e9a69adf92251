-- mb_skip_flag and mb_type, and the macroblock behind them.
use Rattle.std.proofs.Common.{◌≡◌, ℕ, Bool, true, false, List, Option, Some, None, refl, sym, ap, subst, ◌∙◌}
use Rattle.cabac_engine.specs.Bins.{Slot}
use Rattle.binarisation.specs.BinString.{BinString, Reads, Writes}
use Rattle.binarisation.proofs.Strings.{reads_then, reads_none, writes_then}
use Rattle.h264_types.specs.Kind.{is_skip}
use Rattle.h264_types.specs.Slice.{IsInPicture}
use Rattle.h264_types.specs.Valid.{is_kind_in}
use Rattle.h264_types.specs.declared.macroblock.Mb.{Mb}
use Rattle.h264_types.specs.declared.macroblock.MbKind.{MbKind}
use Rattle.h264_types.specs.declared.macroblock.MbKind.TheVariants.{Skip, Intra, P, B}
use Rattle.h264_types.specs.declared.slice_shape.SliceKind.{SliceKind}
use Rattle.h264_types.specs.declared.slice_shape.SliceKind.TheVariants as slices
use Rattle.h264_types.specs.declared.slice_shape.SliceShape.{SliceShape}
use Rattle.cabac_contexts.specs.declared.term.Term.TheVariants.{NotSkipped, OtherType, NotDirect}
use Rattle.cabac_contexts.specs.Increments as incs
use Rattle.cabac_macroblock.specs.MbType.{of_kind, skip_in, skip_flag, kind_of, type_in, type_number, mb_type}
use Rattle.cabac_macroblock.specs.MacroblockLayer.{elements, layer, macroblock}
use Rattle.cabac_macroblock.proofs.Puts.{reads_put, writes_put}
use Rattle.cabac_macroblock.proofs.WholeIncrements.{same_sum}

-- ---- by the kind of the slice

pub flag_in : (shape : SliceShape) (done : List Mb) (at : ℕ) (mb : Mb) (slice : SliceKind) (inc : ℕ) → shape.kind ≡ slice → IsInPicture shape at → inc ≡ incs.skip shape done at mb.field mb → skip_flag shape done at mb.field ≡ skip_in slice inc
unfolding skip_flag
flag_in shape done at mb slice inc e inside is =
    let same : incs.skip shape done at mb.field (of_kind mb.field Skip) ≡ inc = sym (is ∙ same_sum NotSkipped shape done at mb.field mb (of_kind mb.field Skip) inside) in
    ap (λ k. skip_in k (incs.skip shape done at mb.field (of_kind mb.field Skip))) e ∙ ap (skip_in slice) same

pub number_in : (shape : SliceShape) (done : List Mb) (at : ℕ) (mb : Mb) (slice : SliceKind) (a b : ℕ) → shape.kind ≡ slice → IsInPicture shape at → a ≡ incs.type_i shape done at mb.field mb → b ≡ incs.type_b shape done at mb.field mb
    → type_number shape done at mb.field ≡ type_in slice a b
unfolding type_number
number_in shape done at mb slice a b e inside is is' =
    let none : Mb = of_kind mb.field Skip in
    let same : incs.type_i shape done at mb.field none ≡ a = sym (is ∙ same_sum OtherType shape done at mb.field mb none inside) in
    let same' : incs.type_b shape done at mb.field none ≡ b = sym (is' ∙ same_sum NotDirect shape done at mb.field mb none inside) in
    ap (λ k. type_in k (incs.type_i shape done at mb.field none) (incs.type_b shape done at mb.field none)) e
    ∙ ap (λ n. type_in slice n (incs.type_b shape done at mb.field none)) same ∙ ap (λ n. type_in slice a n) same'

pub unskipped_in_i : (kind : MbKind) (slice : SliceKind) → slice ≡ slices.I → is_kind_in slice kind ≡ true → is_skip kind ≡ false
unskipped_in_i kind slice e h = by kind (sym (ap (λ s. is_kind_in s kind) e) ∙ h)
  where
    by : (kind : MbKind) → is_kind_in slices.I kind ≡ true → is_skip kind ≡ false
    by Skip h = absurd cc
    by (Intra n) h = refl
    by (P n) h = absurd cc
    by (B n) h = absurd cc

-- ---- mb_skip_flag

module _ {S : Type 0} (step : S → Slot → Option Bool → S → Type 0) (shape : SliceShape) (done : List Mb) (at : ℕ) (field : Bool) where
  pub reads_no_flag : (s t : S) → Reads step (skip_flag shape done at field) None s t → Reads step (macroblock shape done at field) None s t
  unfolding macroblock
  reads_no_flag s t first = reads_none step (skip_flag shape done at field) _ s t first

  pub reads_skipped : (skipped : Bool) (made : Mb) (s t : S) → skipped ≡ true → made ≡ of_kind field Skip → Reads step (skip_flag shape done at field) (Some skipped) s t → Reads step (macroblock shape done at field) (Some made) s t
  unfolding macroblock
  reads_skipped skipped made s t e is first = reads_then step (skip_flag shape done at field) _ skipped (Some made) s t t first (rw e (ap Some is, refl))

  pub reads_unskipped : (skipped : Bool) (result : Option Mb) (s m t : S) → skipped ≡ false → Reads step (skip_flag shape done at field) (Some skipped) s m → Reads step (layer shape done at field) result m t → Reads step (macroblock shape done at field) result s t
  unfolding macroblock
  reads_unskipped skipped result s m t e first others = reads_then step (skip_flag shape done at field) _ skipped result s m t first (rw e others)

  -- ---- mb_type

  pub reads_type : (number : ℕ) (kind : MbKind) (s t : S) → kind ≡ kind_of shape.kind number → Reads step (type_number shape done at field) (Some number) s t → Reads step (mb_type shape done at field) (Some kind) s t
  unfolding mb_type
  reads_type number kind s t is first = reads_put step (type_number shape done at field) (kind_of shape.kind) number kind s t is first

  pub reads_no_type : (s t : S) → Reads step (type_number shape done at field) None s t → Reads step (mb_type shape done at field) None s t
  unfolding mb_type
  reads_no_type s t first = reads_none step (type_number shape done at field) _ s t first

  pub reads_layer : (kind : MbKind) (begun : Mb) (result : Option Mb) (s m t : S) → begun ≡ of_kind field kind → Reads step (mb_type shape done at field) (Some kind) s m → Reads step (elements shape done at begun) result m t → Reads step (layer shape done at field) result s t
  unfolding layer
  reads_layer kind begun result s m t start first others =
      reads_then step (mb_type shape done at field) _ kind result s m t first (subst (λ (x : Mb). Reads step (elements shape done at x) result m t) start others)

  pub reads_no_layer : (s t : S) → Reads step (mb_type shape done at field) None s t → Reads step (layer shape done at field) None s t
  unfolding layer
  reads_no_layer s t first = reads_none step (mb_type shape done at field) _ s t first

-- a string of another macroblock that is the same
pub writes_same : {S : Type 0} (step : S → Slot → Bool → S → Type 0) (string : Mb → BinString Mb) (begun other made value : Mb) (s t : S) → begun ≡ other → made ≡ value → Writes step (string begun) made s t → Writes step (string other) value s t
writes_same step string begun other made value s t e f written = subst (λ (m : Mb). Writes step (string m) value s t) e (subst (λ (m : Mb). Writes step (string begun) m s t) f written)

module _ {S : Type 0} (step : S → Slot → Bool → S → Type 0) (shape : SliceShape) (done : List Mb) (at : ℕ) (field : Bool) where
  pub writes_skipped : (skipped : Bool) (made : Mb) (s t : S) → skipped ≡ true → made ≡ of_kind field Skip → Writes step (skip_flag shape done at field) skipped s t → Writes step (macroblock shape done at field) made s t
  unfolding macroblock
  writes_skipped skipped made s t e is first = writes_then step (skip_flag shape done at field) _ skipped made s t t first (rw e (sym is, refl))

  pub writes_unskipped : (skipped : Bool) (made : Mb) (s m t : S) → skipped ≡ false → Writes step (skip_flag shape done at field) skipped s m → Writes step (layer shape done at field) made m t → Writes step (macroblock shape done at field) made s t
  unfolding macroblock
  writes_unskipped skipped made s m t e first others = writes_then step (skip_flag shape done at field) _ skipped made s m t first (rw e others)

  pub writes_type : (number : ℕ) (kind : MbKind) (s t : S) → kind_of shape.kind number ≡ kind → Writes step (type_number shape done at field) number s t → Writes step (mb_type shape done at field) kind s t
  unfolding mb_type
  writes_type number kind s t is first = writes_put step (type_number shape done at field) (kind_of shape.kind) number kind s t (sym is) first

  pub writes_layer : (kind : MbKind) (made : Mb) (s m t : S) → Writes step (mb_type shape done at field) kind s m → Writes step (elements shape done at (of_kind field kind)) made m t → Writes step (layer shape done at field) made s t
  unfolding layer
  writes_layer kind made s m t first others = writes_then step (mb_type shape done at field) _ kind made s m t first others
