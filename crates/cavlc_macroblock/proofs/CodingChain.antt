-- Reading what stands behind the prediction of a macroblock, element by element.
use Rattle.std.proofs.Common.{◌≡◌, ℕ, ◌≤◌, ℤ, pos, Bool, List, ◌++◌, Option, None, refl, sym, ap, subst, ◌∙◌}
use Rattle.bit_texts.specs.Texts.{Reads, IsPrefixFree, IsWhen, when_text}
use Rattle.bit_texts.proofs.Reading.{IsPrefixFree-when}
use Rattle.exp_golomb.specs.Code.{se}
use Rattle.h264_types.specs.Sent.{sends_pattern, sends_qp_delta, sends_t8_last}
use Rattle.h264_types.specs.Kind.{is_i_nxn, is_i_16x16}
use Rattle.h264_types.specs.Macroblock.{pattern_of}
use Rattle.h264_types.specs.declared.macroblock.Mb.{Mb}
use Rattle.h264_types.specs.declared.macroblock.Pattern.{Pattern}
use Rattle.h264_types.specs.declared.slice_shape.SliceShape.{SliceShape}
use Rattle.cavlc_mb_residual.specs.declared.counts.Around.{Around}
use Rattle.cavlc_mb_residual.specs.MacroblockResidual.{IsResidual, residual_text, with_residual}
use Rattle.cavlc_mb_residual.proofs.Chain.{Reads-part, Reads-no_part, IsPrefixFree-part}
use Rattle.cavlc_mb_residual.proofs.ResidualChain.{Is0}
use Rattle.cavlc_mb_residual.proofs.ResidualUnique.{IsPrefixFree-residual}
use Rattle.cavlc_macroblock.specs.MacroblockLayer.{IsFlag, flag_text, IsPattern, pattern_text, no_pattern, IsQpDelta, IsCoding, coding_text, with_coding}
use Rattle.cavlc_macroblock.proofs.ElementLaws.{IsPrefixFree-pattern, IsPrefixFree-flag, IsPrefixFree-qp_delta}
use Rattle.cavlc_macroblock.proofs.ReadsLaws.{Reads-as}

-- ---- what is known of the macroblock after each element, and the texts that follow

abbrev pub C0 : SliceShape → ℕ → Mb → Mb → Type 0
C0 shape bound old m = IsCoding shape old bound m × (m ≡ with_coding old m)

abbrev pub C1 : SliceShape → ℕ → Mb → Pattern → Mb → Type 0
C1 shape bound old p m = C0 shape bound old m × (m.pattern ≡ p)

abbrev pub C2 : SliceShape → ℕ → Mb → Pattern → Bool → Mb → Type 0
C2 shape bound old p t8 m = C1 shape bound old p m × (m.t8 ≡ t8)

abbrev pub C3 : SliceShape → ℕ → Mb → Pattern → Bool → ℤ → Mb → Type 0
C3 shape bound old p t8 delta m = C2 shape bound old p t8 m × (m.qp_delta ≡ delta)

abbrev pub delta_end : Around → Mb → Mb → List Bool
delta_end around old m = residual_text around (is_i_16x16 old.kind) (pattern_of m) m

abbrev pub size_end : Around → Mb → Mb → List Bool
size_end around old m = when_text (sends_qp_delta old.kind m.pattern) se m.qp_delta ++ delta_end around old m

abbrev pub pattern_end : SliceShape → Around → Mb → Mb → List Bool
pattern_end shape around old m = when_text (sends_t8_last shape old.kind m.subs m.pattern) flag_text m.t8 ++ size_end around old m

-- ---- coded_block_pattern

pub after_pattern : (shape : SliceShape) (around : Around) (bound : ℕ) (old : Mb) (b n : Bool) → b ≡ sends_pattern old.kind → n ≡ is_i_nxn old.kind → (p : Pattern) (left mid : List Bool) → IsWhen b no_pattern IsPattern p × (left ≡ when_text b (pattern_text n) p ++ mid)
    → (r : Option Mb) (rest : List Bool) → Reads (C1 shape bound old p) (pattern_end shape around old) mid r rest → Reads (C0 shape bound old) (coding_text shape around old.kind) left r rest
after_pattern shape around bound old b n e f p left mid read r rest h =
    let P : Bool → Bool → Type 0 = λ x y. IsWhen x no_pattern IsPattern p × (left ≡ when_text x (pattern_text y) p ++ mid) in
    Reads-part (C0 shape bound old) (IsWhen (sends_pattern old.kind) no_pattern IsPattern) (when_text (sends_pattern old.kind) (pattern_text (is_i_nxn old.kind))) (λ m. m.pattern) (λ m. when_text (sends_pattern old.kind) (pattern_text (is_i_nxn old.kind)) m.pattern) (pattern_end shape around old)
    (IsPrefixFree-when (sends_pattern old.kind) no_pattern IsPattern (pattern_text (is_i_nxn old.kind)) (IsPrefixFree-pattern (is_i_nxn old.kind))) (λ m q. q.0.pattern) (λ m q. refl) p left mid (subst (λ y. P (sends_pattern old.kind) y) f (subst (λ x. P x n) e read)) r rest h

pub no_pattern_there : (shape : SliceShape) (around : Around) (bound : ℕ) (old : Mb) (b n : Bool) → b ≡ sends_pattern old.kind → n ≡ is_i_nxn old.kind → (left mid rest : List Bool) → Reads (IsWhen b no_pattern IsPattern) (when_text b (pattern_text n)) left None mid → Reads (C0 shape bound old) (coding_text shape around old.kind) left None rest
no_pattern_there shape around bound old b n e f left mid rest none =
    let P : Bool → Bool → Type 0 = λ x y. Reads (IsWhen x no_pattern IsPattern) (when_text x (pattern_text y)) left None mid in
    Reads-no_part (C0 shape bound old) (IsWhen (sends_pattern old.kind) no_pattern IsPattern) (when_text (sends_pattern old.kind) (pattern_text (is_i_nxn old.kind))) (λ m. m.pattern) (λ m. when_text (sends_pattern old.kind) (pattern_text (is_i_nxn old.kind)) m.pattern) (pattern_end shape around old)
    (λ m q. q.0.pattern) (λ m q. refl) left mid rest (subst (λ y. P (sends_pattern old.kind) y) f (subst (λ x. P x n) e none))

-- ---- transform_size_8x8_flag, which depends on the pattern and on the types of sub-macroblocks

abbrev pub sends_behind : SliceShape → Mb → Pattern → Bool
sends_behind shape old p = sends_t8_last shape old.kind old.subs p

same_sends : (shape : SliceShape) (bound : ℕ) (old : Mb) (p : Pattern) (m : Mb) → C1 shape bound old p m → sends_t8_last shape old.kind m.subs m.pattern ≡ sends_behind shape old p
same_sends shape bound old p m q =
    let F : List ℕ → Pattern → Bool = sends_t8_last shape old.kind in
    let subs : m.subs ≡ old.subs = ap (λ (x : Mb). x.subs) q.0.1 in
    ap (λ s. F s m.pattern) subs ∙ ap (F old.subs) q.1

flag_in_range : (shape : SliceShape) (bound : ℕ) (old : Mb) (p : Pattern) (m : Mb) → C1 shape bound old p m → IsWhen (sends_behind shape old p) old.t8 IsFlag m.t8
flag_in_range shape bound old p m q = let P : Bool → Type 0 = λ x. IsWhen x old.t8 IsFlag m.t8 in subst P (same_sends shape bound old p m q) q.0.0.t8

same_flag : (shape : SliceShape) (bound : ℕ) (old : Mb) (p : Pattern) (m : Mb) → C1 shape bound old p m → when_text (sends_t8_last shape old.kind m.subs m.pattern) flag_text m.t8 ≡ when_text (sends_behind shape old p) flag_text m.t8
same_flag shape bound old p m q = ap (λ x. when_text x flag_text m.t8) (same_sends shape bound old p m q)

pub after_size : (shape : SliceShape) (around : Around) (bound : ℕ) (old : Mb) (p : Pattern) (b : Bool) → b ≡ sends_behind shape old p → (t8 : Bool) (left mid : List Bool) → IsWhen b old.t8 IsFlag t8 × (left ≡ when_text b flag_text t8 ++ mid)
    → (r : Option Mb) (rest : List Bool) → Reads (C2 shape bound old p t8) (size_end around old) mid r rest → Reads (C1 shape bound old p) (pattern_end shape around old) left r rest
after_size shape around bound old p b e t8 left mid read r rest h =
    let P : Bool → Type 0 = λ x. IsWhen x old.t8 IsFlag t8 × (left ≡ when_text x flag_text t8 ++ mid) in
    Reads-part (C1 shape bound old p) (IsWhen (sends_behind shape old p) old.t8 IsFlag) (when_text (sends_behind shape old p) flag_text) (λ m. m.t8) (λ m. when_text (sends_t8_last shape old.kind m.subs m.pattern) flag_text m.t8) (size_end around old)
    (IsPrefixFree-when (sends_behind shape old p) old.t8 IsFlag flag_text IsPrefixFree-flag) (flag_in_range shape bound old p) (same_flag shape bound old p) t8 left mid (subst P e read) r rest h

pub no_size : (shape : SliceShape) (around : Around) (bound : ℕ) (old : Mb) (p : Pattern) (b : Bool) → b ≡ sends_behind shape old p → (left mid rest : List Bool) → Reads (IsWhen b old.t8 IsFlag) (when_text b flag_text) left None mid → Reads (C1 shape bound old p) (pattern_end shape around old) left None rest
no_size shape around bound old p b e left mid rest none =
    let P : Bool → Type 0 = λ x. Reads (IsWhen x old.t8 IsFlag) (when_text x flag_text) left None mid in
    Reads-no_part (C1 shape bound old p) (IsWhen (sends_behind shape old p) old.t8 IsFlag) (when_text (sends_behind shape old p) flag_text) (λ m. m.t8) (λ m. when_text (sends_t8_last shape old.kind m.subs m.pattern) flag_text m.t8) (size_end around old)
    (flag_in_range shape bound old p) (same_flag shape bound old p) left mid rest (subst P e none)

-- ---- mb_qp_delta

delta_in_range : (shape : SliceShape) (bound : ℕ) (old : Mb) (p : Pattern) (t8 : Bool) (m : Mb) → C2 shape bound old p t8 m → IsWhen (sends_qp_delta old.kind p) (pos 0) IsQpDelta m.qp_delta
delta_in_range shape bound old p t8 m q = let P : Pattern → Type 0 = λ x. IsWhen (sends_qp_delta old.kind x) (pos 0) IsQpDelta m.qp_delta in subst P q.0.1 q.0.0.0.qp_delta

same_delta : (shape : SliceShape) (bound : ℕ) (old : Mb) (p : Pattern) (t8 : Bool) (m : Mb) → C2 shape bound old p t8 m → when_text (sends_qp_delta old.kind m.pattern) se m.qp_delta ≡ when_text (sends_qp_delta old.kind p) se m.qp_delta
same_delta shape bound old p t8 m q = ap (λ x. when_text (sends_qp_delta old.kind x) se m.qp_delta) q.0.1

pub after_delta : (shape : SliceShape) (around : Around) (bound : ℕ) (old : Mb) (p : Pattern) (t8 b : Bool) → b ≡ sends_qp_delta old.kind p → (delta : ℤ) (left mid : List Bool) → IsWhen b (pos 0) IsQpDelta delta × (left ≡ when_text b se delta ++ mid)
    → (r : Option Mb) (rest : List Bool) → Reads (C3 shape bound old p t8 delta) (delta_end around old) mid r rest → Reads (C2 shape bound old p t8) (size_end around old) left r rest
after_delta shape around bound old p t8 b e delta left mid read r rest h =
    let P : Bool → Type 0 = λ x. IsWhen x (pos 0) IsQpDelta delta × (left ≡ when_text x se delta ++ mid) in
    Reads-part (C2 shape bound old p t8) (IsWhen (sends_qp_delta old.kind p) (pos 0) IsQpDelta) (when_text (sends_qp_delta old.kind p) se) (λ m. m.qp_delta) (λ m. when_text (sends_qp_delta old.kind m.pattern) se m.qp_delta) (delta_end around old)
    (IsPrefixFree-when (sends_qp_delta old.kind p) (pos 0) IsQpDelta se IsPrefixFree-qp_delta) (delta_in_range shape bound old p t8) (same_delta shape bound old p t8) delta left mid (subst P e read) r rest h

pub no_delta : (shape : SliceShape) (around : Around) (bound : ℕ) (old : Mb) (p : Pattern) (t8 b : Bool) → b ≡ sends_qp_delta old.kind p → (left mid rest : List Bool) → Reads (IsWhen b (pos 0) IsQpDelta) (when_text b se) left None mid → Reads (C2 shape bound old p t8) (size_end around old) left None rest
no_delta shape around bound old p t8 b e left mid rest none =
    let P : Bool → Type 0 = λ x. Reads (IsWhen x (pos 0) IsQpDelta) (when_text x se) left None mid in
    Reads-no_part (C2 shape bound old p t8) (IsWhen (sends_qp_delta old.kind p) (pos 0) IsQpDelta) (when_text (sends_qp_delta old.kind p) se) (λ m. m.qp_delta) (λ m. when_text (sends_qp_delta old.kind m.pattern) se m.qp_delta) (delta_end around old)
    (delta_in_range shape bound old p t8) (same_delta shape bound old p t8) left mid rest (subst P e none)

-- ---- the residual

-- the macroblock that has these elements
abbrev pub coded : Mb → Pattern → Bool → ℤ → Mb
coded old p t8 delta = record old { pattern = p; t8 = t8; qp_delta = delta }

pub record Ranges (shape : SliceShape) (old : Mb) (p : Pattern) (flag : Bool) (delta : ℤ) : Type 0 where
  pub pattern : IsWhen (sends_pattern old.kind) no_pattern IsPattern p
  pub t8 : IsWhen (sends_behind shape old p) old.t8 IsFlag flag
  pub qp_delta : IsWhen (sends_qp_delta old.kind p) (pos 0) IsQpDelta delta

same_coded : (old m : Mb) (p p' : Pattern) (t8 t8' : Bool) (delta delta' : ℤ) → p ≡ p' → t8 ≡ t8' → delta ≡ delta' → with_residual (coded old p t8 delta) m ≡ with_residual (coded old p' t8' delta') m
same_coded old m p p' t8 t8' delta delta' e1 e2 e3 =
    let R : Pattern → Bool → ℤ → Mb = λ a b c. with_residual (coded old a b c) m in
    ap (λ a. R a t8 delta) e1 ∙ ap (λ b. R p' b delta) e2 ∙ ap (R p' t8') e3

to_coding : (shape : SliceShape) (bound : ℕ) (old : Mb) (p : Pattern) (t8 : Bool) (delta : ℤ) → Ranges shape old p t8 delta → (m : Mb) → Is0 (is_i_16x16 old.kind) (pattern_of (coded old p t8 delta)) bound (coded old p t8 delta) m → C3 shape bound old p t8 delta m
to_coding shape bound old p t8 delta ranges m q =
    let e1 : m.pattern ≡ p = ap (λ (x : Mb). x.pattern) q.1 in
    let e2 : m.t8 ≡ t8 = ap (λ (x : Mb). x.t8) q.1 in
    let e3 : m.qp_delta ≡ delta = ap (λ (x : Mb). x.qp_delta) q.1 in
    let subs : m.subs ≡ old.subs = ap (λ (x : Mb). x.subs) q.1 in
    let F : List ℕ → Pattern → Bool → Type 0 = λ s x b. IsWhen (sends_t8_last shape old.kind s x) old.t8 IsFlag b in
    let D : Pattern → ℤ → Type 0 = λ x d. IsWhen (sends_qp_delta old.kind x) (pos 0) IsQpDelta d in
    let is : IsCoding shape old bound m = record {
      pattern = subst (IsWhen (sends_pattern old.kind) no_pattern IsPattern) (sym e1) ranges.pattern;
      t8 = subst (λ s. F s m.pattern m.t8) (sym subs) (subst (λ x. F old.subs x m.t8) (sym e1) (subst (F old.subs p) (sym e2) ranges.t8));
      qp_delta = subst (λ x. D x m.qp_delta) (sym e1) (subst (D p) (sym e3) ranges.qp_delta);
      residual = subst (λ (x : Pattern). IsResidual (is_i_16x16 old.kind) x bound m) (sym (ap pattern_of q.1)) q.0;
    } in
    ((((is, q.1 ∙ same_coded old m p m.pattern t8 m.t8 delta m.qp_delta (sym e1) (sym e2) (sym e3)), e1), e2), e3)

from_coding : (shape : SliceShape) (bound : ℕ) (old : Mb) (p : Pattern) (t8 : Bool) (delta : ℤ) (m : Mb) → C3 shape bound old p t8 delta m → Is0 (is_i_16x16 old.kind) (pattern_of (coded old p t8 delta)) bound (coded old p t8 delta) m
from_coding shape bound old p t8 delta m q =
    let same : m ≡ with_residual (coded old p t8 delta) m = q.0.0.0.1 ∙ same_coded old m m.pattern p m.t8 t8 m.qp_delta delta q.0.0.1 q.0.1 q.1 in
    (subst (λ (x : Pattern). IsResidual (is_i_16x16 old.kind) x bound m) (ap pattern_of same) q.0.0.0.0.residual, same)

pub residual_of_coding : (shape : SliceShape) (around : Around) (bound : ℕ) (old : Mb) (p : Pattern) (t8 : Bool) (delta : ℤ) → Ranges shape old p t8 delta → (left : List Bool) (r : Option Mb) (rest : List Bool)
    → Reads (Is0 (is_i_16x16 old.kind) (pattern_of (coded old p t8 delta)) bound (coded old p t8 delta)) (residual_text around (is_i_16x16 old.kind) (pattern_of (coded old p t8 delta))) left r rest
    → Reads (C3 shape bound old p t8 delta) (delta_end around old) left r rest
residual_of_coding shape around bound old p t8 delta ranges =
    Reads-as (Is0 (is_i_16x16 old.kind) (pattern_of (coded old p t8 delta)) bound (coded old p t8 delta)) (C3 shape bound old p t8 delta) (residual_text around (is_i_16x16 old.kind) (pattern_of (coded old p t8 delta))) (delta_end around old)
    (to_coding shape bound old p t8 delta ranges) (from_coding shape bound old p t8 delta)
    (λ m q. ap (λ x. residual_text around (is_i_16x16 old.kind) x m) (sym (ap pattern_of (from_coding shape bound old p t8 delta m q).1)))

-- ---- no text begins another one

pub IsPrefixFree-coding : (shape : SliceShape) (around : Around) (bound : ℕ) (old : Mb) → bound ≤ 20 → IsPrefixFree (C0 shape bound old) (coding_text shape around old.kind)
IsPrefixFree-coding shape around bound old within =
    IsPrefixFree-part (C0 shape bound old) (IsWhen (sends_pattern old.kind) no_pattern IsPattern) (when_text (sends_pattern old.kind) (pattern_text (is_i_nxn old.kind))) (λ m. m.pattern) (λ m. when_text (sends_pattern old.kind) (pattern_text (is_i_nxn old.kind)) m.pattern) (pattern_end shape around old)
    (IsPrefixFree-when (sends_pattern old.kind) no_pattern IsPattern (pattern_text (is_i_nxn old.kind)) (IsPrefixFree-pattern (is_i_nxn old.kind))) (λ m q. q.0.pattern) (λ m q. refl) (λ p _.
    IsPrefixFree-part (C1 shape bound old p) (IsWhen (sends_behind shape old p) old.t8 IsFlag) (when_text (sends_behind shape old p) flag_text) (λ m. m.t8) (λ m. when_text (sends_t8_last shape old.kind m.subs m.pattern) flag_text m.t8) (size_end around old)
    (IsPrefixFree-when (sends_behind shape old p) old.t8 IsFlag flag_text IsPrefixFree-flag) (flag_in_range shape bound old p) (same_flag shape bound old p) (λ t8 _.
    IsPrefixFree-part (C2 shape bound old p t8) (IsWhen (sends_qp_delta old.kind p) (pos 0) IsQpDelta) (when_text (sends_qp_delta old.kind p) se) (λ m. m.qp_delta) (λ m. when_text (sends_qp_delta old.kind m.pattern) se m.qp_delta) (delta_end around old)
    (IsPrefixFree-when (sends_qp_delta old.kind p) (pos 0) IsQpDelta se IsPrefixFree-qp_delta) (delta_in_range shape bound old p t8) (same_delta shape bound old p t8) (λ delta _.
    λ v w x y q r e.
    let is = from_coding shape bound old p t8 delta v q in
    let other = from_coding shape bound old p t8 delta w r in
    let T : Pattern → Mb → List Bool = λ z m. residual_text around (is_i_16x16 old.kind) z m in
    IsPrefixFree-residual around (is_i_16x16 old.kind) (pattern_of (coded old p t8 delta)) bound (coded old p t8 delta) within v w x y is other
    (ap (λ z. T z v ++ x) (sym (ap pattern_of is.1)) ∙ e ∙ ap (λ z. T z w ++ y) (ap pattern_of other.1)))))

-- the whole text, where what it depends on is known under other names
pub coding_text-as : (shape : SliceShape) (around : Around) (mb : Mb) (b n f s : Bool) (delta : ℤ) → b ≡ sends_pattern mb.kind → n ≡ is_i_nxn mb.kind → f ≡ sends_t8_last shape mb.kind mb.subs mb.pattern → s ≡ sends_qp_delta mb.kind mb.pattern → delta ≡ mb.qp_delta
    → when_text b (pattern_text n) mb.pattern ++ (when_text f flag_text mb.t8 ++ (when_text s se delta ++ delta_end around mb mb)) ≡ coding_text shape around mb.kind mb
coding_text-as shape around mb b n f s delta e1 e2 e3 e4 e5 =
    let T : Bool → Bool → Bool → Bool → ℤ → List Bool = λ b n f s delta. when_text b (pattern_text n) mb.pattern ++ (when_text f flag_text mb.t8 ++ (when_text s se delta ++ delta_end around mb mb)) in
    let k = mb.kind in
    ap (λ x. T x n f s delta) e1 ∙ ap (λ x. T (sends_pattern k) x f s delta) e2 ∙ ap (λ x. T (sends_pattern k) (is_i_nxn k) x s delta) e3
    ∙ ap (λ x. T (sends_pattern k) (is_i_nxn k) (sends_t8_last shape k mb.subs mb.pattern) x delta) e4 ∙ ap (T (sends_pattern k) (is_i_nxn k) (sends_t8_last shape k mb.subs mb.pattern) (sends_qp_delta k mb.pattern)) e5
