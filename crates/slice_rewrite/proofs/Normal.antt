-- Macroblocks in their written form.
use Rattle.std.proofs.Common.{◌≡◌, ◌≢◌, ℕ, zero, suc, ◌+◌, ◌*◌, ◌/◌, ◌<◌, ℤ, pos, Bool, true, false, not, ◌&&◌, List, [], ◌∷◌, ◌++◌, length, get_or, map, Option, Some, None, refl, sym, ap, subst, ◌∙◌, arith, append-nil, length-append}
use Rattle.std.specs.Prelude.{◌↔◌, IsTrue, All, ◌==◌, ◌||◌, if◌then◌else◌}
use Rattle.std.specs.Int.{bit_at}
use Rattle.std.specs.Ordering.{int_eq}
use Rattle.std.proofs.lemmas.Bool.{eqb-true}
use Rattle.std.proofs.lemmas.Bool.Decides.{Decides-int_eq}
use Rattle.std.proofs.lemmas.Nat.Bits.{bit_at-zero}
use Rattle.std.proofs.lemmas.List.{length-map}
use Rattle.h264_types.specs.Sizes.{HasSizes}
use Rattle.cavlc_mb_residual.specs.MacroblockResidual.{is_beyond_mb}
use Rattle.h264_types.specs.declared.layer.Layer.{Layer}
use Rattle.h264_types.specs.declared.macroblock.Mb.{Mb}
use Rattle.h264_types.specs.declared.macroblock.MbKind.{MbKind}
use Rattle.h264_types.specs.declared.macroblock.MbKind.TheVariants.{Skip, Intra, P as PKind, B as BKind}
use Rattle.h264_types.specs.declared.macroblock.Pattern.{Pattern}
use Rattle.h264_types.specs.declared.slice_shape.SliceShape.{SliceShape}
use Rattle.cavlc_mb_residual.proofs.ResidualValid.{beyond_normal}
use Rattle.h264_types.proofs.KindLaws.{no_16x16, other_pattern}
use Rattle.h264_types.specs.Kind.{is_inter}
use Rattle.cabac_contexts.specs.Terms.{has_luma}
use Rattle.cabac_mb_residual.specs.Levels.{IsResidual}
use Rattle.h264_types.specs.Sent.{sends_pattern, sends_t8}
use Rattle.h264_types.specs.Macroblock.{quarter_of, pattern_of}
use Rattle.h264_types.specs.Slice.{left_number, above_number, field_at, skipped_at, pair_field, inferred_field}
use Rattle.h264_types.specs.Valid.{is_ref0, luma_bound, IsListSent, IsMacroblock, IsPair, IsSlice, IsWithin}
use Rattle.pattern_fix.specs.NormalPattern.{IsEmptied, all_zero, normal, normal_luma}
use Rattle.pattern_fix.proofs.NormalLaws.{normal-level, normal-normal}
use Rattle.pattern_fix.proofs.ValidLaws.{valid-normal}
use Rattle.slice_rewrite.specs.Stops.{is_emptied}
use Rattle.slice_data.specs.WrittenForm.{has_ref0, written_mb}

-- ## One macroblock

-- the form that is written in a layer is that of the form in any layer
pub written-written : (to other : Layer) (mb : Mb) → written_mb to (written_mb other mb) ≡ written_mb to mb
written-written to other mb = ap (λ (m : Mb). let v : Mb = record m { ref0 = has_ref0 to && is_ref0 mb } in v) (normal-normal mb)

-- a macroblock in normal form, with the test of its reference indices, is the written one
pub same_written : (to : Layer) (old now : Mb) (b : Bool) → now ≡ normal old → b ≡ (has_ref0 to && is_ref0 now) → (let v : Mb = record now { ref0 = b } in v) ≡ written_mb to old
same_written to old now b e f = ap (λ x. let v : Mb = record now { ref0 = x } in v) f ∙ ap (λ (m : Mb). let v : Mb = record m { ref0 = has_ref0 to && is_ref0 m } in v) e

sent_list : (shape : SliceShape) (mb : Mb) (b : Bool) (x : ℕ) → IsListSent shape mb x → IsListSent shape (record mb { ref0 = b }) x
sent_list shape mb b x is = record { refs = is.refs; refs_repeat = is.refs_repeat; mvd = is.mvd; mvd_repeat = is.mvd_repeat }

with_ref0 : (shape : SliceShape) (mb : Mb) (b : Bool) → (IsTrue b → IsTrue (is_ref0 mb)) → IsMacroblock shape mb → IsMacroblock shape (record mb { ref0 = b })
with_ref0 shape mb b h is = record {
  sizes = record { modes = is.sizes.modes; subs = is.sizes.subs; refs = is.sizes.refs; mvd = is.sizes.mvd; dc = is.sizes.dc; luma = is.sizes.luma; chroma_dc = is.sizes.chroma_dc; chroma_ac = is.sizes.chroma_ac; pcm = is.sizes.pcm };
  typed = record { kind = is.typed.kind; ref0 = h; field = is.typed.field; t8 = is.typed.t8 };
  intra = record { modes = is.intra.modes; chroma_mode = is.intra.chroma_mode };
  inter = record { subs = is.inter.subs; l0 = sent_list shape mb b 0 is.inter.l0; l1 = sent_list shape mb b 1 is.inter.l1 };
  coded = record {
    pattern = record { luma = is.coded.pattern.luma; chroma = is.coded.pattern.chroma };
    qp_delta = record { magnitude = is.coded.qp_delta.magnitude; greatest = is.coded.qp_delta.greatest };
    luma = record { dc = is.coded.luma.dc; quarters = λ q below. let coded = is.coded.luma.quarters q below in record { levels = coded.levels; last = coded.last } };
    chroma = record { dc = is.coded.chroma.dc; cb_ac = is.coded.chroma.cb_ac; cr_ac = is.coded.chroma.cr_ac };
    pcm = is.coded.pcm;
  };
}

second_of : (a b : Bool) → IsTrue (a && b) → IsTrue b
second_of true b h = h
second_of false b h = absurd cc

pub written_valid : (to : Layer) (shape : SliceShape) (mb : Mb) → IsMacroblock shape mb → (IsEmptied mb → ⊥) → IsMacroblock shape (written_mb to mb)
written_valid to shape mb is kept = with_ref0 shape (normal mb) (has_ref0 to && is_ref0 mb) (second_of (has_ref0 to) (is_ref0 mb)) (valid-normal shape mb is kept)

pattern_sent : (mb : Mb) → is_inter mb.kind ≡ true → pattern_of mb ≡ mb.pattern
pattern_sent mb inter = by mb.kind inter
  where
    by : (kind : MbKind) → is_inter kind ≡ true → pattern_of (record mb { kind = kind }) ≡ mb.pattern
    by Skip h = refl
    by (PKind n) h = refl
    by (BKind n) h = refl
    by (Intra n) h = absurd cc

-- where a P or B macroblock is left without luma bits, no luma level is other than 0
no_luma_left : (shape : SliceShape) (mb : Mb) → IsMacroblock shape (normal mb) → is_inter mb.kind ≡ true → normal_luma mb ≡ 0 → (q : ℕ) → q < 4 → IsWithin 0 (quarter_of mb q)
no_luma_left shape mb is inter none q below =
    let bound : luma_bound (normal mb) q ≡ 0 =
    ap (λ (p : Pattern). if bit_at p.luma q == 1 then 65535 else 0) (pattern_sent (normal mb) inter)
    ∙ ap (λ n. if bit_at n q == 1 then 65535 else 0) none
    ∙ ap (λ n. if n == 1 then 65535 else 0) (bit_at-zero q) in
    subst (λ b. IsWithin b (quarter_of mb q)) bound (is.coded.luma.quarters q below).levels

both : (a b : Bool) → (a && b) ≡ true → (a ≡ true) × (b ≡ true)
both true true e = (refl, refl)
both true false e = absurd cc
both false b e = absurd cc

-- The normal form takes no level away but zeros: where the transform flag of a valid macroblock changes no luma level is
-- other than 0.
normal_is_within : (shape : SliceShape) (bound : ℕ) (mb : Mb) → HasSizes mb → IsMacroblock shape mb → (IsEmptied mb → ⊥) → is_beyond_mb bound mb ≡ false → is_beyond_mb bound (normal mb) ≡ false
normal_is_within shape bound mb sizes is kept within =
    of_flags mb.t8 (is_inter mb.kind && normal_luma mb == 0) (λ f. subst P f within) (λ f. subst P f within) zeros
  where
    P : Bool → Type 0
    P t8 = is_beyond_mb bound (record mb { t8 = t8 }) ≡ false

    of_flags : (t8 lost : Bool) → (t8 ≡ false → P false) → (t8 ≡ true → P true) → (lost ≡ true → P false) → P (t8 && not lost)
    of_flags false lost f t l = f refl
    of_flags true true f t l = l refl
    of_flags true false f t l = t refl

    zeros : (is_inter mb.kind && normal_luma mb == 0) ≡ true → P false
    zeros e =
        let h = both (is_inter mb.kind) (normal_luma mb == 0) e in
        sym (beyond_normal bound mb sizes (no_luma_left shape mb (valid-normal shape mb is kept) h.0 (eqb-true (normal_luma mb) 0 h.1))) ∙ within

pub written_is_within : (to : Layer) (shape : SliceShape) (bound : ℕ) (mb : Mb) → HasSizes mb → IsMacroblock shape mb → (IsEmptied mb → ⊥) → is_beyond_mb bound mb ≡ false → is_beyond_mb bound (written_mb to mb) ≡ false
written_is_within to shape bound mb sizes is kept within = normal_is_within shape bound mb sizes is kept within

-- ## The levels in CABAC

-- the pattern of a macroblock with the 8x8 transform is sent
pattern_of-t8 : (shape : SliceShape) (mb : Mb) → IsTrue (sends_t8 shape mb) → pattern_of mb ≡ mb.pattern
pattern_of-t8 shape mb sent = by mb.kind sent
  where
    by : (kind : MbKind) → IsTrue (sends_t8 shape (record mb { kind = kind })) → pattern_of (record mb { kind = kind }) ≡ mb.pattern
    by Skip h = refl
    by (PKind n) h = refl
    by (BKind n) h = refl
    by (Intra n) h = other_pattern mb (Intra n) (no_16x16 (Intra n) (first_place shape.t8_mode (n == 0) (mb.pattern.luma == 0) h))
      where
        first_place : (mode nxn none : Bool) → IsTrue ((mode && nxn) || (mode && (not none && false))) → nxn ≡ true
        first_place mode true none h = refl
        first_place false false none h = absurd cc
        first_place true false true h = absurd cc
        first_place true false false h = absurd cc

-- so that in normal form its bit stands for a level other than 0
bit_stands : (shape : SliceShape) (mb : Mb) → IsMacroblock shape (normal mb) → (q : ℕ) → q < 4 → (normal mb).t8 ≡ true → has_luma (normal mb) q ≡ true → all_zero (quarter_of mb q) ≡ false
bit_stands shape mb is q below t8 has =
    let bit : bit_at (pattern_of (normal mb)).luma q ≡ 1 = eqb-true (bit_at (pattern_of (normal mb)).luma q) 1 has in
    normal-level (normal mb) q below (normal-normal mb) t8 (ap (λ (p : Pattern). bit_at p.luma q) (sym (pattern_of-t8 shape (normal mb) (is.typed.t8 t8))) ∙ bit)

-- what is written of a macroblock of a slice has bins
pub written_residual : (to : Layer) (shape : SliceShape) (mb : Mb) → IsMacroblock shape mb → (IsEmptied mb → ⊥) → IsResidual (written_mb to mb)
written_residual to shape mb is kept =
    let written = written_valid to shape mb is kept in
    record {
      luma = written.coded.luma;
      chroma = written.coded.chroma;
      some = λ q below t8 has zeros. not_both (all_zero (quarter_of mb q)) (ap all_zero zeros) (bit_stands shape mb (valid-normal shape mb is kept) q below t8 has);
    }
  where
    not_both : (b : Bool) → b ≡ true → b ≡ false → ⊥
    not_both b e f = let clash : true ≡ false = sym e ∙ f in cc

-- ## The test of an emptied macroblock

four : (x y z w : Bool) → (x && (y && (z && not w))) ≡ true → (x ≡ true) × (y ≡ true) × (z ≡ true) × (w ≡ false)
four false y z w e = absurd cc
four true false z w e = absurd cc
four true true false w e = absurd cc
four true true true true e = absurd cc
four true true true false e = (refl, refl, refl, refl)

other_than_zero : (n : ℤ) → int_eq n (pos 0) ≡ false → n ≢ pos 0
other_than_zero n e z = grind (arith, Decides-int_eq)

no_zero : (n : ℤ) (b : Bool) → int_eq n (pos 0) ≡ b → n ≢ pos 0 → b ≡ false
no_zero n false e ne = refl
no_zero n true e ne = absurd (ne (grind (arith, Decides-int_eq)))

pub emptied_is : (mb : Mb) → (is_emptied mb ≡ true) ↔ IsEmptied mb
emptied_is mb = (
  λ e.
      let f = four (sends_pattern mb.kind) (normal_luma mb == 0) (mb.pattern.chroma == 0) (int_eq mb.qp_delta (pos 0)) e in
      record { sent = f.0; luma = eqb-true (normal_luma mb) 0 f.1; chroma = eqb-true mb.pattern.chroma 0 f.2; qp_delta = other_than_zero mb.qp_delta f.3 },
  λ is.
      ap (λ b. b && ((normal_luma mb == 0) && ((mb.pattern.chroma == 0) && not (int_eq mb.qp_delta (pos 0))))) is.sent
      ∙ ap (λ n. (n == 0) && ((mb.pattern.chroma == 0) && not (int_eq mb.qp_delta (pos 0)))) is.luma
      ∙ ap (λ n. (n == 0) && not (int_eq mb.qp_delta (pos 0))) is.chroma
      ∙ ap not (no_zero mb.qp_delta (int_eq mb.qp_delta (pos 0)) refl is.qp_delta),
)

-- ## Lists

-- what holds of each macroblock of a list, and of those in front in another form, too
pub all_front : (P : Mb → Type 0) (f : Mb → Mb) (done tail : List Mb) → All P (done ++ tail) → All (λ mb. P mb → P (f mb)) done → All P (map f done ++ tail)
all_front P f [] tail is each k d below = is k d below
all_front P f (mb ∷ done) tail is each zero d below = each zero d (omega arith) (is zero d (omega arith))
all_front P f (mb ∷ done) tail is each (suc k) d below =
    all_front P f done tail (λ j e within. is (suc j) e (omega (arith, within))) (λ j e within. each (suc j) e (omega (arith, within))) k d (omega (arith, below))

same_field : (to : Layer) (done tail : List Mb) (k : ℕ) → field_at (map (written_mb to) done ++ tail) k ≡ field_at (done ++ tail) k
same_field to [] tail k = refl
same_field to (mb ∷ done) tail zero = refl
same_field to (mb ∷ done) tail (suc k) = same_field to done tail k

same_skipped : (to : Layer) (done tail : List Mb) (k : ℕ) → skipped_at (map (written_mb to) done ++ tail) k ≡ skipped_at (done ++ tail) k
same_skipped to [] tail k = refl
same_skipped to (mb ∷ done) tail zero = refl
same_skipped to (mb ∷ done) tail (suc k) = same_skipped to done tail k

same_pair_field : (to : Layer) (done tail : List Mb) (pair : Option ℕ) (other : Bool) → pair_field (map (written_mb to) done ++ tail) pair other ≡ pair_field (done ++ tail) pair other
same_pair_field to done tail None other = refl
same_pair_field to done tail (Some pair) other = same_field to done tail (2 * pair)

same_inferred : (to : Layer) (shape : SliceShape) (done tail : List Mb) (pair : ℕ) → inferred_field shape (map (written_mb to) done ++ tail) pair ≡ inferred_field shape (done ++ tail) pair
same_inferred to shape done tail pair =
    let left = left_number shape.width (shape.first / 2) pair in
    let above = above_number shape.width pair in
    same_pair_field to done tail left (pair_field (map (written_mb to) done ++ tail) above false) ∙ ap (pair_field (done ++ tail) left) (same_pair_field to done tail above false)

pair_written : (to : Layer) (shape : SliceShape) (done tail : List Mb) (pair : ℕ) → IsPair shape (done ++ tail) pair → IsPair shape (map (written_mb to) done ++ tail) pair
pair_written to shape done tail pair is = record {
  same = same_field to done tail (2 * pair) ∙ is.same ∙ sym (same_field to done tail (2 * pair + 1));
  inferred = λ both.
      same_field to done tail (2 * pair)
      ∙ is.inferred (sym (ap (λ b. b && skipped_at (map (written_mb to) done ++ tail) (2 * pair + 1)) (same_skipped to done tail (2 * pair)) ∙ ap (λ b. skipped_at (done ++ tail) (2 * pair) && b) (same_skipped to done tail (2 * pair + 1))) ∙ both)
      ∙ sym (same_inferred to shape done tail pair);
}

same_length : (to : Layer) (done tail : List Mb) → length (map (written_mb to) done ++ tail) ≡ length (done ++ tail)
same_length to done tail = length-append (map (written_mb to) done) tail ∙ ap (λ n. n + length tail) (length-map done (written_mb to)) ∙ sym (length-append done tail)

-- the macroblocks of a slice, of which those in front are in their written form
pub front_written : (to : Layer) (shape : SliceShape) (done tail : List Mb) → IsSlice shape (done ++ tail) → All (λ mb. IsEmptied mb → ⊥) done → IsSlice shape (map (written_mb to) done ++ tail)
front_written to shape done tail is kept =
    let same = same_length to done tail in
    record {
      is_shape = is.is_shape;
      some = rw same is.some;
      inside = rw same is.inside;
      macroblocks = all_front (IsMacroblock shape) (written_mb to) done tail is.macroblocks (λ k d below one. written_valid to shape (get_or done k d) one (kept k d below));
      pairs = λ mbaff. record {
        even = rw same (is.pairs mbaff).even;
        each = λ pair below. pair_written to shape done tail pair ((is.pairs mbaff).each pair (rw same at below));
      };
    }

-- the same of all of them
pub slice_written : (to : Layer) (shape : SliceShape) (mbs : List Mb) → IsSlice shape mbs → All (λ mb. IsEmptied mb → ⊥) mbs → IsSlice shape (map (written_mb to) mbs)
slice_written to shape mbs is kept =
    let S : List Mb → Type 0 = IsSlice shape in
    subst S (append-nil (map (written_mb to) mbs)) (front_written to shape mbs [] (subst S (sym (append-nil mbs)) is) kept)
