-- The texts of prediction modes and of coded_block_pattern.
use Rattle.std.proofs.Common.{◌≡◌, ◌≢◌, ℕ, ◌+◌, ◌*◌, ◌<◌, ◌≤◌, ◌++◌, ◌∷◌, eqb, pos, negsuc, Bool, true, false, List, [], drop, get_or, Option, Some, None, refl, ap, sym, ◌∙◌, arith, inl, inr}
use Rattle.std.specs.Prelude.{slice_get, option_map, nat_lt, if◌then◌else◌}
use Rattle.bit_texts.proofs.Inverting.{some_is}
use Rattle.std.proofs.lemmas.Bool.{false≢true, eqb-true, ltb-true, cases_eq}
use Rattle.std.proofs.lemmas.Bool.Decides.{eqb_tells}
use Rattle.bit_texts.specs.Bits.{binary}
use Rattle.bit_texts.specs.Texts.{Reads, IsPrefixFree}
use Rattle.bit_texts.proofs.Reading.{IsPrefixFree-binary, IsPrefixFree-same}
use Rattle.exp_golomb.specs.Code.{Se, IsIn, ue, se}
use Rattle.exp_golomb.proofs.Fronts.{IsPrefixFree-code, in_se}
use Rattle.cavlc_inter.proofs.Codes.{IsPrefixFree-ue}
use Rattle.code_tables.specs.CodedBlockPattern.{pattern_at, pattern_list}
use Rattle.code_tables.specs.declared.patterns.TheConstants.{INTRA_CODES, INTER_CODES}
use Rattle.code_tables.proofs.CodeTables.{all_below-at}
use Rattle.code_tables.proofs.PatternCodes.{intra_found, inter_found, pattern_small, one_code}
use Rattle.h264_types.specs.declared.macroblock.Pattern.{Pattern}
use Rattle.cavlc_macroblock.specs.MacroblockLayer.{mode_text, place_in, pattern_text, IsPattern, IsQpDelta, IsFlag, flag_text}

-- ---- prediction modes

pub mode_text-8 : (mode : ℕ) → mode ≡ 8 → mode_text mode ≡ true ∷ []
mode_text-8 mode e = rw e refl

pub mode_text-other : (mode : ℕ) → mode ≢ 8 → mode_text mode ≡ false ∷ binary 3 mode
mode_text-other mode differ =
    elim (eqb_tells mode 8) [
      | inl h ↦ absurd (differ h.1)
      | inr h ↦ rw (h.0) refl
    ]

pub IsPrefixFree-mode : IsPrefixFree (λ mode. mode ≤ 8) mode_text
IsPrefixFree-mode v w x y p q e =
    elim (cases_eq v 8) [
      | inl a ↦ elim (cases_eq w 8) [
        | inl b ↦ a ∙ sym b
        | inr b ↦ absurd (let bad : true ∷ x ≡ false ∷ (binary 3 w ++ y) = ap (λ t. t ++ x) (sym (mode_text-8 v a)) ∙ e ∙ ap (λ t. t ++ y) (mode_text-other w b) in cc)
      ]
      | inr a ↦ elim (cases_eq w 8) [
        | inl b ↦ absurd (let bad : false ∷ (binary 3 v ++ x) ≡ true ∷ y = ap (λ t. t ++ x) (sym (mode_text-other v a)) ∙ e ∙ ap (λ t. t ++ y) (mode_text-8 w b) in cc)
        | inr b ↦
            let same : false ∷ (binary 3 v ++ x) ≡ false ∷ (binary 3 w ++ y) = ap (λ t. t ++ x) (sym (mode_text-other v a)) ∙ e ∙ ap (λ t. t ++ y) (mode_text-other w b) in
            IsPrefixFree-binary 3 v w x y (omega (arith, p, a)) (omega (arith, q, b)) (ap (drop 1) same)
      ]
    ]

-- ---- coded_block_pattern

place_in-code : (intra : Bool) (n : ℕ) → n < 48 → place_in (pattern_list intra) n ≡ get_or (if intra then INTRA_CODES else INTER_CODES) n 0
unfolding place_in
place_in-code true n h = eqb-true _ _ (all_below-at (λ k. eqb (place_in (pattern_list true) k) (get_or INTRA_CODES k 0)) 48 n refl h)
place_in-code false n h = eqb-true _ _ (all_below-at (λ k. eqb (place_in (pattern_list false) k) (get_or INTER_CODES k 0)) 48 n refl h)

place_in-small : (intra : Bool) (n : ℕ) → n < 48 → place_in (pattern_list intra) n ≤ 47
unfolding place_in
place_in-small true n h = let below = ltb-true _ _ (all_below-at (λ k. nat_lt (place_in (pattern_list true) k) 48) 48 n refl h) in omega (arith, below)
place_in-small false n h = let below = ltb-true _ _ (all_below-at (λ k. nat_lt (place_in (pattern_list false) k) 48) 48 n refl h) in omega (arith, below)

place_in-found : (intra : Bool) (p : Pattern) → p.luma ≤ 15 → p.chroma ≤ 2 → pattern_at intra (place_in (pattern_list intra) (16 * p.chroma + p.luma)) ≡ Some p
place_in-found true p l c = ap (pattern_at true) (place_in-code true (16 * p.chroma + p.luma) (omega arith)) ∙ intra_found p.luma p.chroma (16 * p.chroma + p.luma) l c refl
place_in-found false p l c = ap (pattern_at false) (place_in-code false (16 * p.chroma + p.luma) (omega arith)) ∙ inter_found p.luma p.chroma (16 * p.chroma + p.luma) l c refl

pub pattern_text-is : (intra : Bool) (place : ℕ) (p : Pattern) → pattern_at intra place ≡ Some p → pattern_text intra p ≡ ue place
pattern_text-is intra place p e =
    let small = pattern_small intra place p e in
    ap ue (one_code intra _ place p (place_in-found intra p small.0 small.1) e)

is_found : Option ℕ → Bool
is_found None = false
is_found (Some n) = true

none_there : (f : ℕ → Pattern) (o : Option ℕ) → is_found o ≡ true → option_map f o ≡ None → ⊥
unfolding is_found
none_there f None h e = absurd (false≢true h)
none_there f (Some n) h e = let bad : Some (f n) ≡ None = e in absurd cc

none_at : (intra : Bool) (place : ℕ) → place ≤ 47 → pattern_at intra place ≡ None → ⊥
unfolding is_found
none_at true place h e = none_there _ (slice_get (pattern_list true) place) (all_below-at (λ k. is_found (slice_get (pattern_list true) k)) 48 place refl (omega arith)) e
none_at false place h e = none_there _ (slice_get (pattern_list false) place) (all_below-at (λ k. is_found (slice_get (pattern_list false) k)) 48 place refl (omega arith)) e

pub pattern_is_read : (intra : Bool) (place : ℕ) (r : Option Pattern) (left rest : List Bool) → place ≤ 47 → left ≡ ue place ++ rest → r ≡ pattern_at intra place → Reads IsPattern (pattern_text intra) left r rest
pattern_is_read intra place None left rest h e found = absurd (none_at intra place h (sym found))
pattern_is_read intra place (Some p) left rest h e found =
    let small = pattern_small intra place p (sym found) in
    ((omega (arith, small.0), omega (arith, small.1)), e ∙ ap (λ t. t ++ rest) (sym (pattern_text-is intra place p (sym found))))

pub no_pattern_is_read : (intra : Bool) (left rest : List Bool) → Reads (λ v. v ≤ 47) ue left None rest → Reads IsPattern (pattern_text intra) left None rest
no_pattern_is_read intra left rest none = λ p more is. none (place_in (pattern_list intra) (16 * p.chroma + p.luma)) more (place_in-small intra (16 * p.chroma + p.luma) (omega (arith, is.0, is.1)))

pub IsPrefixFree-pattern : (intra : Bool) → IsPrefixFree IsPattern (pattern_text intra)
IsPrefixFree-pattern intra v w x y p q e =
    let same = IsPrefixFree-ue 47 (omega arith) (place_in (pattern_list intra) (16 * v.chroma + v.luma)) (place_in (pattern_list intra) (16 * w.chroma + w.luma)) x y (place_in-small intra (16 * v.chroma + v.luma) (omega (arith, p.0, p.1))) (place_in-small intra (16 * w.chroma + w.luma) (omega (arith, q.0, q.1))) e in
    some_is v w (sym (place_in-found intra v (omega (arith, p.0)) (omega (arith, p.1))) ∙ ap (pattern_at intra) same ∙ place_in-found intra w (omega (arith, q.0)) (omega (arith, q.1)))

pub pattern_exists : (intra : Bool) (p : Pattern) → IsPattern p → ((place : ℕ) → pattern_at intra place ≢ Some p) → ⊥
pattern_exists intra p is none = none (place_in (pattern_list intra) (16 * p.chroma + p.luma)) (place_in-found intra p (omega (arith, is.0)) (omega (arith, is.1)))

-- ---- mb_qp_delta

pub IsPrefixFree-qp_delta : IsPrefixFree IsQpDelta se
IsPrefixFree-qp_delta = IsPrefixFree-same (IsIn (Se (negsuc 25) (pos 25))) IsQpDelta se (λ v h. in_se (negsuc 25) (pos 25) v h.0 h.1 (omega arith) (omega arith)) (IsPrefixFree-code (Se (negsuc 25) (pos 25)))

-- ---- transform_size_8x8_flag

pub IsPrefixFree-flag : IsPrefixFree IsFlag flag_text
IsPrefixFree-flag v w x y p q e = cc
