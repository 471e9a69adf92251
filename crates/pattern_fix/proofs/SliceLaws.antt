-- A list of macroblocks in normal form.
use Rattle.std.proofs.Common.{◌≡◌, ℕ, ◌+◌, ◌*◌, ◌/◌, Bool, false, List, Option, Some, None, pos, length, get_or, map, refl, sym, ap, ◌∙◌, take, fold}
use Rattle.std.specs.Prelude.{All, ◌&&◌, slice_get, option_map}
use Rattle.std.specs.Option.{option_map_or}
use Rattle.std.proofs.lemmas.Option.{slice_get-map}
use Rattle.std.proofs.lemmas.List.{length-map, take-map}
use Rattle.std.proofs.lemmas.List.Elements.{All-map}
use Rattle.std.proofs.lemmas.List.Folds.{fold-map}
use Rattle.h264_types.specs.declared.macroblock.Mb.{Mb}
use Rattle.h264_types.specs.declared.slice_shape.SliceShape.{SliceShape}
use Rattle.h264_types.specs.Kind.{is_skip}
use Rattle.h264_types.specs.Qp.{next_qp, qp_of}
use Rattle.h264_types.specs.Slice.{left_number, above_number, field_at, skipped_at, pair_field, inferred_field}
use Rattle.h264_types.specs.Valid.{IsMacroblock, IsPair, IsSlice}
use Rattle.pattern_fix.specs.NormalPattern.{normal, IsEmptied}
use Rattle.pattern_fix.proofs.ValidLaws.{valid-normal}

-- what a test tells of a macroblock is the same in normal form
same_test : (test : Mb → Bool) → ((mb : Mb) → test (normal mb) ≡ test mb) → (mbs : List Mb) (k : ℕ) → option_map_or test (slice_get (map normal mbs) k) false ≡ option_map_or test (slice_get mbs k) false
same_test test same mbs k = ap (λ o. option_map_or test o false) (slice_get-map normal mbs k) ∙ by (slice_get mbs k)
  where
    by : (o : Option Mb) → option_map_or test (option_map normal o) false ≡ option_map_or test o false
    by None = refl
    by (Some mb) = same mb

same_field : (mbs : List Mb) (k : ℕ) → field_at (map normal mbs) k ≡ field_at mbs k
same_field = same_test (λ (mb : Mb). mb.field) (λ mb. refl)

same_skipped : (mbs : List Mb) (k : ℕ) → skipped_at (map normal mbs) k ≡ skipped_at mbs k
same_skipped = same_test (λ (mb : Mb). is_skip mb.kind) (λ mb. refl)

same_pair_field : (mbs : List Mb) (pair : Option ℕ) (other : Bool) → pair_field (map normal mbs) pair other ≡ pair_field mbs pair other
same_pair_field mbs None other = refl
same_pair_field mbs (Some pair) other = same_field mbs (2 * pair)

same_inferred : (shape : SliceShape) (mbs : List Mb) (pair : ℕ) → inferred_field shape (map normal mbs) pair ≡ inferred_field shape mbs pair
same_inferred shape mbs pair =
    same_pair_field mbs (left_number shape.width (shape.first / 2) pair) (pair_field (map normal mbs) (above_number shape.width pair) false)
    ∙ ap (pair_field mbs (left_number shape.width (shape.first / 2) pair)) (same_pair_field mbs (above_number shape.width pair) false)

pair-normal : (shape : SliceShape) (mbs : List Mb) (pair : ℕ) → IsPair shape mbs pair → IsPair shape (map normal mbs) pair
pair-normal shape mbs pair is = record {
  same = same_field mbs (2 * pair) ∙ is.same ∙ sym (same_field mbs (2 * pair + 1));
  inferred = λ both.
      same_field mbs (2 * pair)
      ∙ is.inferred (sym (ap (λ b. b && skipped_at (map normal mbs) (2 * pair + 1)) (same_skipped mbs (2 * pair)) ∙ ap (λ b. skipped_at mbs (2 * pair) && b) (same_skipped mbs (2 * pair + 1))) ∙ both)
      ∙ sym (same_inferred shape mbs pair);
}

pub slice-normal : (shape : SliceShape) (mbs : List Mb) → IsSlice shape mbs → All (λ mb. IsEmptied mb → ⊥) mbs → IsSlice shape (map normal mbs)
slice-normal shape mbs is kept =
    let same : length (map normal mbs) ≡ length mbs = length-map mbs normal in
    record {
      is_shape = is.is_shape;
      some = rw same is.some;
      inside = rw same is.inside;
      macroblocks = All-map (IsMacroblock shape) normal mbs (λ k d below. valid-normal shape (get_or mbs k d) (is.macroblocks k d below) (kept k d below));
      pairs = λ mbaff. record {
        even = rw same (is.pairs mbaff).even;
        each = λ pair below. pair-normal shape mbs pair ((is.pairs mbaff).each pair (rw same at below));
      };
    }

pub qp-normal : (slice_qp : ℕ) (mbs : List Mb) (k : ℕ) → qp_of slice_qp (map normal mbs) k ≡ qp_of slice_qp mbs k
qp-normal slice_qp mbs k =
    ap (fold (λ qp (mb : Mb). next_qp qp mb.qp_delta) (pos slice_qp)) (take-map normal (k + 1) mbs)
    ∙ fold-map (λ qp (mb : Mb). next_qp qp mb.qp_delta) normal (pos slice_qp) (take (k + 1) mbs)
