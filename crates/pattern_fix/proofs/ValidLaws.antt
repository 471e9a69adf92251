-- A valid macroblock is valid in normal form.
use Rattle.std.proofs.Common.{◌≡◌, ◌≢◌, ℕ, zero, suc, ◌<◌, ◌≤◌, ℤ, pos, negsuc, Bool, true, false, List, [], get_or, refl, sym, ap, subst, ◌∙◌, arith, ◌⊎◌, inl, inr}
use Rattle.std.specs.Prelude.{All, IsTrue, if◌then◌else◌, ◌&&◌, ◌||◌, not, ◌==◌, nat_lt, unsigned_abs}
use Rattle.std.specs.Int.{bit_at}
use Rattle.std.specs.Ordering.{int_eq}
use Rattle.std.proofs.lemmas.Bool.Decides.{nat_tests, Decides-int_eq}
use Rattle.std.proofs.lemmas.Nat.Bits.{bit_at-zero}
use Rattle.std.proofs.lemmas.List.Folds.{list_all_at}
use Rattle.h264_types.specs.declared.macroblock.Mb.{Mb}
use Rattle.h264_types.specs.declared.macroblock.MbKind.{MbKind}
use Rattle.h264_types.specs.declared.macroblock.MbKind.TheVariants.{Skip, Intra, P, B}
use Rattle.h264_types.specs.declared.macroblock.Pattern.{Pattern}
use Rattle.h264_types.specs.declared.slice_shape.SliceShape.{SliceShape}
use Rattle.h264_types.specs.Kind.{is_inter, is_i_nxn, is_i_16x16}
use Rattle.h264_types.specs.Macroblock.{no_elements, quarter_of, pattern_of}
use Rattle.h264_types.specs.Sent.{takes_t8, mode_count, sends_pattern}
use Rattle.h264_types.specs.Sizes.{HasSizes}
use Rattle.h264_types.specs.Valid.{IsTyped, IsIntraPredicted, IsInterPredicted, IsListSent, IsWithin, IsPattern, IsQpDelta, IsQuarterCoded, IsLumaCoded, IsChromaCoded, IsCoded, IsMacroblock}
use Rattle.h264_types.proofs.KindLaws.{intra_takes_none, other_pattern, no_16x16}
use Rattle.pattern_fix.specs.NormalPattern.{all_zero, is_empty, normal_luma, normal, IsEmptied}
use Rattle.pattern_fix.proofs.NormalLaws.{bit_at-normal_luma}

-- ---- the transform flag

-- the flag is sent where it still stands: t8, t8_mode, inter, I_NxN, allowed, luma 0 before and after
flag_sent :
    (t m i n x z z' : Bool) → (i ≡ false → x ≡ false)
    → (IsTrue t → IsTrue (m && n || m && (not z && x))) → IsTrue (t && not (i && z')) → IsTrue (m && n || m && (not z' && x))
flag_sent false m i n x z z' intra sent h = absurd (cc)
flag_sent true false i n x z z' intra sent h = absurd (let e : false ≡ true = sent refl in cc)
flag_sent true true i true x z z' intra sent h = refl
flag_sent true true true false x z true intra sent h = absurd (cc)
flag_sent true true true false x true false intra sent h = absurd (let e : false ≡ true = sent refl in cc)
flag_sent true true true false x false false intra sent h = sent refl
flag_sent true true false false x true z' intra sent h = absurd (let e : false ≡ true = sent refl in cc)
flag_sent true true false false true false z' intra sent h = absurd (let e : true ≡ false = intra refl in cc)
flag_sent true true false false false false z' intra sent h = absurd (let e : false ≡ true = sent refl in cc)

typed : (shape : SliceShape) (mb : Mb) → IsTyped shape mb → IsTyped shape (normal mb)
typed shape mb is = record {
  kind = is.kind;
  ref0 = is.ref0;
  field = is.field;
  t8 =
      flag_sent mb.t8 shape.t8_mode (is_inter mb.kind) (is_i_nxn mb.kind) (takes_t8 shape.direct8 mb.kind mb.subs) (mb.pattern.luma == 0) (normal_luma mb == 0)
      (intra_takes_none shape.direct8 mb.kind mb.subs) is.t8;
}

-- ---- prediction

-- I_NxN macroblocks keep their flag
same_modes : (n t i z : Bool) (k : ℕ) → (i ≡ true → n ≡ false) → (n && nat_lt k (mode_count (t && not (i && z)))) ≡ (n && nat_lt k (mode_count t))
same_modes false t i z k inter = refl
same_modes true t true z k inter = absurd (let e : true ≡ false = inter refl in cc)
same_modes true true false z k inter = refl
same_modes true false false z k inter = refl

inter_is_no_nxn : (kind : MbKind) → is_inter kind ≡ true → is_i_nxn kind ≡ false
inter_is_no_nxn Skip h = refl
inter_is_no_nxn (Intra n) h = absurd (cc)
inter_is_no_nxn (P n) h = refl
inter_is_no_nxn (B n) h = refl

intra : (mb : Mb) → IsIntraPredicted mb → IsIntraPredicted (normal mb)
intra mb is = record {
  modes = λ k below.
      subst (λ b. get_or mb.modes k 0 ≤ (if b then 8 else 0))
      (sym (same_modes (is_i_nxn mb.kind) mb.t8 (is_inter mb.kind) (normal_luma mb == 0) k (inter_is_no_nxn mb.kind)))
      (is.modes k below);
  chroma_mode = is.chroma_mode;
}

list : (shape : SliceShape) (mb : Mb) (x : ℕ) → IsListSent shape mb x → IsListSent shape (normal mb) x
list shape mb x is = record { refs = is.refs; refs_repeat = is.refs_repeat; mvd = is.mvd; mvd_repeat = is.mvd_repeat }

inter : (shape : SliceShape) (mb : Mb) → IsInterPredicted shape mb → IsInterPredicted shape (normal mb)
inter shape mb is = record { subs = is.subs; l0 = list shape mb 0 is.l0; l1 = list shape mb 1 is.l1 }

-- ---- residual

-- the pattern of a type whose macroblock sends p
pattern_for : MbKind → Pattern → Pattern
pattern_for kind p = pattern_of (record (no_elements kind) { pattern = p })

-- the pattern is that of the type, or the one that is sent
pattern_cases : (kind : MbKind) (p p' : Pattern) → (pattern_for kind p ≡ pattern_for kind p') ⊎ ((pattern_for kind p ≡ p) × (pattern_for kind p' ≡ p'))
unfolding pattern_for
pattern_cases Skip p p' = inr (refl, refl)
pattern_cases (P n) p p' = inr (refl, refl)
pattern_cases (B n) p p' = inr (refl, refl)
pattern_cases (Intra n) p p' = pick (is_i_16x16 (Intra n)) _
  where
    pick : (b : Bool) (typed : Pattern) → ((if b then typed else p) ≡ (if b then typed else p')) ⊎ (((if b then typed else p) ≡ p) × ((if b then typed else p') ≡ p'))
    pick true typed = inl refl
    pick false typed = inr (refl, refl)

zeros_within : (bound : ℕ) (levels : List ℤ) → all_zero levels ≡ true → IsWithin bound levels
zeros_within bound levels zeros k d below = by (int_eq (get_or levels k d) (pos 0)) refl
  where
    by : (b : Bool) → int_eq (get_or levels k d) (pos 0) ≡ b → unsigned_abs (get_or levels k d) ≤ bound
    by true e =
        let is_zero : get_or levels k d ≡ pos 0 = grind (arith, Decides-int_eq) in rw is_zero (omega arith)
    by false e = absurd (let no : all_zero levels ≡ false = list_all_at (λ level. int_eq level (pos 0)) levels k d below e in cc)

abbrev bound_of : ℕ → ℕ
bound_of bit = if bit == 1 then 65535 else 0

quarter : (mb : Mb) (q : ℕ) → q < 4 → IsQuarterCoded mb q → IsQuarterCoded (normal mb) q
unfolding pattern_for
quarter mb q below is = record { levels = by (pattern_cases mb.kind mb.pattern (normal mb).pattern); last = is.last }
  where
    sent : (empty : Bool) → is_empty mb q ≡ empty → IsWithin (bound_of (bit_at mb.pattern.luma q)) (quarter_of mb q) → IsWithin (bound_of (bit_at (normal_luma mb) q)) (quarter_of mb q)
    sent true e within =
        zeros_within (bound_of (bit_at (normal_luma mb) q)) (quarter_of mb q) (zeros mb.t8 (all_zero (quarter_of mb q)) e) where
          zeros : (t z : Bool) → (t && z) ≡ true → z ≡ true
          zeros true z h = h
          zeros false z h = absurd (cc)
    sent false e within =
        let bit : bit_at (normal_luma mb) q ≡ bit_at mb.pattern.luma q = bit_at-normal_luma mb q below ∙ ap (λ b. if b then 0 else bit_at mb.pattern.luma q) e in
        subst (λ b. IsWithin (bound_of b) (quarter_of mb q)) (sym bit) within

    by : (pattern_for mb.kind mb.pattern ≡ pattern_for mb.kind (normal mb).pattern) ⊎ ((pattern_for mb.kind mb.pattern ≡ mb.pattern) × (pattern_for mb.kind (normal mb).pattern ≡ (normal mb).pattern)) → IsWithin (bound_of (bit_at (pattern_of (normal mb)).luma q)) (quarter_of mb q)
    by (inl same) = subst (λ (p : Pattern). IsWithin (bound_of (bit_at p.luma q)) (quarter_of mb q)) same is.levels
    by (inr each) =
        let within = subst (λ (p : Pattern). IsWithin (bound_of (bit_at p.luma q)) (quarter_of mb q)) each.0 is.levels in
        subst (λ (p : Pattern). IsWithin (bound_of (bit_at p.luma q)) (quarter_of mb q)) (sym each.1) (sent (is_empty mb q) refl within)

luma : (mb : Mb) → IsLumaCoded mb → IsLumaCoded (normal mb)
luma mb is = record { dc = is.dc; quarters = λ q below. quarter mb q below (is.quarters q below) }

same_chroma : (mb : Mb) → (pattern_of (normal mb)).chroma ≡ (pattern_of mb).chroma
unfolding pattern_for
same_chroma mb = by (pattern_cases mb.kind mb.pattern (normal mb).pattern)
  where
    by : (pattern_for mb.kind mb.pattern ≡ pattern_for mb.kind (normal mb).pattern) ⊎ ((pattern_for mb.kind mb.pattern ≡ mb.pattern) × (pattern_for mb.kind (normal mb).pattern ≡ (normal mb).pattern)) → (pattern_of (normal mb)).chroma ≡ (pattern_of mb).chroma
    by (inl same) = ap (λ (p : Pattern). p.chroma) (sym same)
    by (inr each) = ap (λ (p : Pattern). p.chroma) each.1 ∙ ap (λ (p : Pattern). p.chroma) (sym each.0)

chroma : (mb : Mb) → IsChromaCoded mb → IsChromaCoded (normal mb)
chroma mb is =
    let same : (pattern_of mb).chroma ≡ (pattern_of (normal mb)).chroma = sym (same_chroma mb) in
    record {
      dc = subst (λ chroma. All (IsWithin (if nat_lt 0 chroma then 65535 else 0)) mb.chroma_dc) same is.dc;
      cb_ac = subst (λ chroma. All (IsWithin (if chroma == 2 then 65535 else 0)) (get_or mb.chroma_ac 0 [])) same is.cb_ac;
      cr_ac = subst (λ chroma. All (IsWithin (if chroma == 2 then 65535 else 0)) (get_or mb.chroma_ac 1 [])) same is.cr_ac;
    }

-- ---- mb_qp_delta

zero_or_not : (z : ℤ) → (z ≡ pos 0) ⊎ (z ≢ pos 0)
zero_or_not (pos zero) = inl refl
zero_or_not (pos (suc n)) = inr (λ e. absurd (omega (arith, ap unsigned_abs e)))
zero_or_not (negsuc n) = inr (λ e. absurd (cc))

abbrev delta_bound : Bool → ℕ → ℕ → ℕ
delta_bound i_16x16 luma chroma = if i_16x16 || not (luma == 0 && chroma == 0) then 26 else 0

most : (i_16x16 : Bool) (luma chroma : ℕ) → delta_bound i_16x16 luma chroma ≤ 26
most true luma chroma = omega arith
most false luma chroma = by (luma == 0 && chroma == 0)
  where
    by : (b : Bool) → (if not b then 26 else 0) ≤ 26
    by true = omega arith
    by false = omega arith

qp_delta : (mb : Mb) → IsPattern mb → IsQpDelta mb → (IsEmptied mb → ⊥) → IsQpDelta (normal mb)
qp_delta mb pattern is kept =
    record { magnitude = by (is_i_16x16 mb.kind) (normal_luma mb == 0) (mb.pattern.chroma == 0) refl refl refl; greatest = is.greatest }
  where
    small : unsigned_abs mb.qp_delta ≤ 26
    small = omega (arith, is.magnitude, most (is_i_16x16 mb.kind) mb.pattern.luma mb.pattern.chroma)

    -- a type without a pattern has no delta
    none : (sent : Bool) → sends_pattern mb.kind ≡ sent → is_i_16x16 mb.kind ≡ false → normal_luma mb ≡ 0 → mb.pattern.chroma ≡ 0 → unsigned_abs mb.qp_delta ≤ 0
    none false e other no_luma no_chroma =
        let luma_bound : mb.pattern.luma ≤ 0 = subst (λ b. mb.pattern.luma ≤ (if b then 15 else 0)) e pattern.luma in
        let unset : mb.pattern.luma ≡ 0 = omega arith in
        let bound : delta_bound (is_i_16x16 mb.kind) mb.pattern.luma mb.pattern.chroma ≡ 0 = ap (λ b. delta_bound b mb.pattern.luma mb.pattern.chroma) other ∙ ap (λ n. delta_bound false n mb.pattern.chroma) unset ∙ ap (delta_bound false 0) no_chroma in
        subst (λ n. unsigned_abs mb.qp_delta ≤ n) bound is.magnitude
    none true e other no_luma no_chroma =
        elim (zero_or_not mb.qp_delta) [
          | inl zero_delta ↦ rw zero_delta (omega arith)
          | inr some ↦ absurd (kept (record { sent = e; luma = no_luma; chroma = no_chroma; qp_delta = some }))
        ]

    by : (i z c : Bool) → is_i_16x16 mb.kind ≡ i → (normal_luma mb == 0) ≡ z → (mb.pattern.chroma == 0) ≡ c → unsigned_abs mb.qp_delta ≤ delta_bound (is_i_16x16 mb.kind) (normal_luma mb) mb.pattern.chroma
    by true z c ei ez ec = subst (λ b. unsigned_abs mb.qp_delta ≤ delta_bound b (normal_luma mb) mb.pattern.chroma) (sym ei) small
    by false false c ei ez ec =
        subst (λ b. unsigned_abs mb.qp_delta ≤ delta_bound b (normal_luma mb) mb.pattern.chroma) (sym ei)
        (subst (λ b. unsigned_abs mb.qp_delta ≤ (if not (b && (mb.pattern.chroma == 0)) then 26 else 0)) (sym ez) small)
    by false true false ei ez ec =
        subst (λ b. unsigned_abs mb.qp_delta ≤ delta_bound b (normal_luma mb) mb.pattern.chroma) (sym ei)
        (subst (λ b. unsigned_abs mb.qp_delta ≤ (if not (b && (mb.pattern.chroma == 0)) then 26 else 0)) (sym ez)
        (subst (λ b. unsigned_abs mb.qp_delta ≤ (if not b then 26 else 0)) (sym ec) small))
    by false true true ei ez ec =
        let no : unsigned_abs mb.qp_delta ≤ 0 = none (sends_pattern mb.kind) refl ei (grind (arith, nat_tests)) (grind (arith, nat_tests)) in
        omega (arith, no)

coded : (mb : Mb) → IsCoded mb → (IsEmptied mb → ⊥) → IsCoded (normal mb)
coded mb is kept = record {
  pattern = record { luma = omega (arith, is.pattern.luma); chroma = is.pattern.chroma };
  qp_delta = qp_delta mb is.pattern is.qp_delta kept;
  luma = luma mb is.luma;
  chroma = chroma mb is.chroma;
  pcm = is.pcm;
}

sizes : (mb : Mb) → HasSizes mb → HasSizes (normal mb)
sizes mb is = record {
  modes = is.modes;
  subs = is.subs;
  refs = is.refs;
  mvd = is.mvd;
  dc = is.dc;
  luma = is.luma;
  chroma_dc = is.chroma_dc;
  chroma_ac = is.chroma_ac;
  pcm = is.pcm;
}

pub valid-normal : (shape : SliceShape) (mb : Mb) → IsMacroblock shape mb → (IsEmptied mb → ⊥) → IsMacroblock shape (normal mb)
valid-normal shape mb is kept = record {
  sizes = sizes mb is.sizes;
  typed = typed shape mb is.typed;
  intra = intra mb is.intra;
  inter = inter shape mb is.inter;
  coded = coded mb is.coded kept;
}

-- ---- a macroblock that is refused

-- it sends its pattern
emptied_pattern : (mb : Mb) → IsEmptied mb → pattern_of mb ≡ mb.pattern
emptied_pattern mb is = other_pattern mb mb.kind (no_16x16 mb.kind is.sent)

pub emptied-dc : (shape : SliceShape) (mb : Mb) → IsMacroblock shape mb → IsEmptied mb → IsWithin 0 mb.dc
emptied-dc shape mb is emptied =
    subst (λ b. IsWithin (if b then 65535 else 0) mb.dc) (no_16x16 mb.kind emptied.sent) is.coded.luma.dc

pub emptied-luma : (shape : SliceShape) (mb : Mb) (q : ℕ) → IsMacroblock shape mb → IsEmptied mb → q < 4 → IsWithin 0 (quarter_of mb q)
emptied-luma shape mb q is emptied below = by (is_empty mb q) refl
  where
    zeros : (t z : Bool) → (t && z) ≡ true → z ≡ true
    zeros true z h = h
    zeros false z h = absurd (cc)

    by : (empty : Bool) → is_empty mb q ≡ empty → IsWithin 0 (quarter_of mb q)
    by true e = zeros_within 0 (quarter_of mb q) (zeros mb.t8 (all_zero (quarter_of mb q)) e)
    by false e =
        let kept : bit_at (normal_luma mb) q ≡ bit_at mb.pattern.luma q = bit_at-normal_luma mb q below ∙ ap (λ b. if b then 0 else bit_at mb.pattern.luma q) e in
        let none : bit_at mb.pattern.luma q ≡ 0 = sym kept ∙ ap (λ n. bit_at n q) emptied.luma ∙ bit_at-zero q in
        subst (λ b. IsWithin (bound_of b) (quarter_of mb q)) (ap (λ (p : Pattern). bit_at p.luma q) (emptied_pattern mb emptied) ∙ none) (is.coded.luma.quarters q below).levels

emptied_chroma : (mb : Mb) → IsEmptied mb → (pattern_of mb).chroma ≡ 0
emptied_chroma mb is = ap (λ (p : Pattern). p.chroma) (emptied_pattern mb is) ∙ is.chroma

pub emptied-chroma_dc : (shape : SliceShape) (mb : Mb) → IsMacroblock shape mb → IsEmptied mb → All (IsWithin 0) mb.chroma_dc
emptied-chroma_dc shape mb is emptied =
    subst (λ chroma. All (IsWithin (if nat_lt 0 chroma then 65535 else 0)) mb.chroma_dc) (emptied_chroma mb emptied) is.coded.chroma.dc

pub emptied-cb_ac : (shape : SliceShape) (mb : Mb) → IsMacroblock shape mb → IsEmptied mb → All (IsWithin 0) (get_or mb.chroma_ac 0 [])
emptied-cb_ac shape mb is emptied =
    subst (λ chroma. All (IsWithin (if chroma == 2 then 65535 else 0)) (get_or mb.chroma_ac 0 [])) (emptied_chroma mb emptied) is.coded.chroma.cb_ac

pub emptied-cr_ac : (shape : SliceShape) (mb : Mb) → IsMacroblock shape mb → IsEmptied mb → All (IsWithin 0) (get_or mb.chroma_ac 1 [])
emptied-cr_ac shape mb is emptied =
    subst (λ chroma. All (IsWithin (if chroma == 2 then 65535 else 0)) (get_or mb.chroma_ac 1 [])) (emptied_chroma mb emptied) is.coded.chroma.cr_ac
