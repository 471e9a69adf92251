-- A macroblock of a type is its prediction and what stands behind that.
use Rattle.std.proofs.Common.{◌≡◌, ℕ, ◌*◌, ◌≤◌, ℤ, Bool, true, false, List, [], ◌∷◌, ◌++◌, Option, None, refl, sym, ap, subst, ◌∙◌, arith, append-nil}
use Rattle.std.specs.Prelude.{◌&&◌, ◌||◌, not, ◌==◌, if◌then◌else◌, replicate, slice_index}
use Rattle.bit_texts.specs.Texts.{Reads, IsPrefixFree, IsWhen, when_text}
use Rattle.exp_golomb.specs.Code.{ue}
use Rattle.h264_types.specs.Sent.{sends_t8_first, sends_t8_last, takes_t8}
use Rattle.h264_types.specs.SliceShape.{IsSliceShape, HasRefs, most_refs}
use Rattle.h264_types.specs.Kind.{is_intra, is_i_nxn}
use Rattle.h264_types.specs.Macroblock.{no_elements}
use Rattle.h264_types.specs.declared.macroblock.MbKind.{MbKind}
use Rattle.h264_types.specs.declared.macroblock.MbKind.TheVariants as kinds
use Rattle.h264_types.specs.declared.macroblock.MbKind.TheVariants.{Intra}
use Rattle.h264_types.specs.declared.macroblock.Mb.{Mb}
use Rattle.h264_types.specs.declared.slice_shape.SliceShape.{SliceShape}
use Rattle.cavlc_inter.specs.InterPrediction.{IsInter, inter_text, with_inter, active_refs, greatest_of}
use Rattle.cavlc_inter.proofs.InterChain.{IsPrefixFree-inter}
use Rattle.cavlc_mb_residual.specs.declared.counts.Around.{Around}
use Rattle.cavlc_mb_residual.proofs.Chain.{Reads-part, Reads-no_part, IsPrefixFree-part}
use Rattle.cavlc_macroblock.specs.MacroblockLayer.{IsFlag, flag_text, AreModes, modes_text, IsIntra, intra_text, with_intra, IsPrediction, prediction_text, IsCoding, coding_text, with_coding, IsLayer, layer_text}
use Rattle.cavlc_macroblock.proofs.ReadsLaws.{Reads-as}
use Rattle.cavlc_macroblock.proofs.IntraChain.{I0, IsPrefixFree-intra}
use Rattle.cavlc_macroblock.proofs.IntraInter.{HasNoInter, intra_sends, no_inter, inter_none, no_inter_text, no_refs}
use Rattle.cavlc_macroblock.proofs.CodingChain.{C0, IsPrefixFree-coding}

-- ---- the active references

-- those of list x for a macroblock with this mb_field_decoding_flag
abbrev pub refs_at : SliceShape → Bool → ℕ → ℕ
refs_at shape field x = slice_index shape.refs x * (if shape.mbaff && field then 2 else 1)

abbrev pub refs_for : SliceShape → Bool → List ℕ
refs_for shape field = refs_at shape field 0 ∷ refs_at shape field 1 ∷ []

active_for : (shape : SliceShape) (field : Bool) (m : Mb) → m.field ≡ field → active_refs shape m ≡ refs_for shape field
active_for shape field m e = ap (refs_for shape) e

few_refs : (shape : SliceShape) (field : Bool) (x : ℕ) → HasRefs shape x → refs_at shape field x ≤ 255
few_refs shape field x has = by (slice_index shape.refs x) shape.field_pic (shape.mbaff && field) has.few
  where
    by : (refs : ℕ) (field_pic twice : Bool) → refs ≤ most_refs field_pic → refs * (if twice then 2 else 1) ≤ 255
    by refs true true h = omega arith
    by refs true false h = omega arith
    by refs false true h = omega arith
    by refs false false h = omega arith

-- what is made of the lists of a macroblock alone
inter_of_lists : (kind : MbKind) (ref0 : Bool) (active : List ℕ) (old m : Mb) → IsInter kind ref0 active m → IsInter kind ref0 active (with_inter old m)
inter_of_lists kind ref0 active old m is = record { subs = is.subs; refs_l0 = is.refs_l0; refs_l1 = is.refs_l1; mvd_l0 = is.mvd_l0; mvd_l1 = is.mvd_l1; lists = is.lists }

lists_of_inter : (kind : MbKind) (ref0 : Bool) (active : List ℕ) (old m : Mb) → IsInter kind ref0 active (with_inter old m) → IsInter kind ref0 active m
lists_of_inter kind ref0 active old m is = record { subs = is.subs; refs_l0 = is.refs_l0; refs_l1 = is.refs_l1; mvd_l0 = is.mvd_l0; mvd_l1 = is.mvd_l1; lists = is.lists }

text_of_lists : (kind : MbKind) (ref0 : Bool) (active : List ℕ) (old m : Mb) → inter_text kind ref0 active (with_inter old m) ≡ inter_text kind ref0 active m
unfolding inter_text
text_of_lists kind ref0 active old m = refl

-- ---- the prediction, of intra types and of others

-- a macroblock that has its type
abbrev pub typed : MbKind → Bool → Bool → Mb
typed kind ref0 field = record (no_elements kind) { ref0 = ref0; field = field }

abbrev pub with_prediction : MbKind → Bool → Bool → Mb → Mb
with_prediction kind ref0 field m = record (typed kind ref0 field) { t8 = m.t8; modes = m.modes; chroma_mode = m.chroma_mode; subs = m.subs; refs = m.refs; mvd = m.mvd }

flag_of : (shape : SliceShape) (kind : MbKind) (ref0 field : Bool) (m : Mb) → IsPrediction shape kind ref0 field m → m.field ≡ field
flag_of shape kind ref0 field m is = ap (λ (x : Mb). x.field) is.absent

without_inter : (kind : MbKind) (ref0 field : Bool) (m : Mb) → HasNoInter m → with_prediction kind ref0 field m ≡ with_intra (typed kind ref0 field) m
without_inter kind ref0 field m lacks =
    let R : List ℕ → List (List ℕ) → List (List (List ℤ)) → Mb = λ a b c. record (typed kind ref0 field) { t8 = m.t8; modes = m.modes; chroma_mode = m.chroma_mode; subs = a; refs = b; mvd = c } in
    ap (λ a. R a m.refs m.mvd) lacks.subs ∙ ap (λ b. R (replicate 4 0) b m.mvd) lacks.refs ∙ ap (R (replicate 4 0) no_refs) lacks.mvd

none_of : (kind : MbKind) (ref0 field : Bool) (m : Mb) → m ≡ with_intra (typed kind ref0 field) m → HasNoInter m
none_of kind ref0 field m e = record { subs = ap (λ (x : Mb). x.subs) e; refs = ap (λ (x : Mb). x.refs) e; mvd = ap (λ (x : Mb). x.mvd) e }

pub intra_prediction : (shape : SliceShape) (kind : MbKind) (ref0 field : Bool) → is_intra kind ≡ true → (left : List Bool) (r : Option Mb) (rest : List Bool)
    → Reads (I0 shape kind (typed kind ref0 field)) (intra_text shape kind) left r rest → Reads (IsPrediction shape kind ref0 field) (prediction_text shape kind ref0) left r rest
intra_prediction shape kind ref0 field intra =
    Reads-as (I0 shape kind (typed kind ref0 field)) (IsPrediction shape kind ref0 field) (intra_text shape kind) (prediction_text shape kind ref0)
    (λ m q. record {
      absent = q.1 ∙ sym (without_inter kind ref0 field m (none_of kind ref0 field m q.1));
      intra = q.0;
      inter = inter_none kind ref0 (active_refs shape m) m (intra_sends kind intra) (none_of kind ref0 field m q.1);
    })
    (λ m is. (is.intra, is.absent ∙ without_inter kind ref0 field m (no_inter kind ref0 (active_refs shape m) m (intra_sends kind intra) is.inter)))
    (λ m is. sym (ap (λ t. intra_text shape kind m ++ t) (no_inter_text kind ref0 (active_refs shape m) m (intra_sends kind intra)) ∙ append-nil (intra_text shape kind m)))

-- what other types have of intra prediction
pub record HasNoIntra (m : Mb) : Type 0 where
  pub t8 : m.t8 ≡ false
  pub modes : m.modes ≡ replicate 16 0
  pub chroma_mode : m.chroma_mode ≡ 0

no_both : (a : Bool) → (a && false) ≡ false
no_both true = refl
no_both false = refl

no_intra : (shape : SliceShape) (kind : MbKind) (m : Mb) → is_intra kind ≡ false → IsIntra shape kind m → HasNoIntra m
no_intra shape (Intra n) m e is = absurd cc
no_intra shape kinds.Skip m e is = record { t8 = subst (λ b. IsWhen b false IsFlag m.t8) (no_both shape.t8_mode) is.t8; modes = is.modes; chroma_mode = is.chroma_mode }
no_intra shape (kinds.P n) m e is = record { t8 = subst (λ b. IsWhen b false IsFlag m.t8) (no_both shape.t8_mode) is.t8; modes = is.modes; chroma_mode = is.chroma_mode }
no_intra shape (kinds.B n) m e is = record { t8 = subst (λ b. IsWhen b false IsFlag m.t8) (no_both shape.t8_mode) is.t8; modes = is.modes; chroma_mode = is.chroma_mode }

intra_none : (shape : SliceShape) (kind : MbKind) (m : Mb) → is_intra kind ≡ false → HasNoIntra m → IsIntra shape kind m
intra_none shape (Intra n) m e lacks = absurd cc
intra_none shape kinds.Skip m e lacks = record { t8 = subst (λ b. IsWhen b false IsFlag m.t8) (sym (no_both shape.t8_mode)) lacks.t8; modes = lacks.modes; chroma_mode = lacks.chroma_mode }
intra_none shape (kinds.P n) m e lacks = record { t8 = subst (λ b. IsWhen b false IsFlag m.t8) (sym (no_both shape.t8_mode)) lacks.t8; modes = lacks.modes; chroma_mode = lacks.chroma_mode }
intra_none shape (kinds.B n) m e lacks = record { t8 = subst (λ b. IsWhen b false IsFlag m.t8) (sym (no_both shape.t8_mode)) lacks.t8; modes = lacks.modes; chroma_mode = lacks.chroma_mode }

no_intra_text : (shape : SliceShape) (kind : MbKind) (m : Mb) → is_intra kind ≡ false → intra_text shape kind m ≡ []
no_intra_text shape (Intra n) m e = absurd cc
no_intra_text shape kinds.Skip m e = ap (λ b. when_text b flag_text m.t8 ++ []) (no_both shape.t8_mode)
no_intra_text shape (kinds.P n) m e = ap (λ b. when_text b flag_text m.t8 ++ []) (no_both shape.t8_mode)
no_intra_text shape (kinds.B n) m e = ap (λ b. when_text b flag_text m.t8 ++ []) (no_both shape.t8_mode)

without_intra : (kind : MbKind) (ref0 field : Bool) (m : Mb) → HasNoIntra m → with_prediction kind ref0 field m ≡ with_inter (typed kind ref0 field) m
without_intra kind ref0 field m lacks =
    let R : Bool → List ℕ → ℕ → Mb = λ a b c. record (typed kind ref0 field) { t8 = a; modes = b; chroma_mode = c; subs = m.subs; refs = m.refs; mvd = m.mvd } in
    ap (λ a. R a m.modes m.chroma_mode) lacks.t8 ∙ ap (λ b. R false b m.chroma_mode) lacks.modes ∙ ap (R false (replicate 16 0)) lacks.chroma_mode

modes_of : (kind : MbKind) (ref0 field : Bool) (m : Mb) → m ≡ with_inter (typed kind ref0 field) m → HasNoIntra m
modes_of kind ref0 field m e = record { t8 = ap (λ (x : Mb). x.t8) e; modes = ap (λ (x : Mb). x.modes) e; chroma_mode = ap (λ (x : Mb). x.chroma_mode) e }

pub inter_prediction : (shape : SliceShape) (kind : MbKind) (ref0 field : Bool) → is_intra kind ≡ false → (left : List Bool) (r : Option Mb) (rest : List Bool)
    → Reads (λ m. IsInter kind ref0 (refs_for shape field) m × (m ≡ with_inter (typed kind ref0 field) m)) (inter_text kind ref0 (refs_for shape field)) left r rest → Reads (IsPrediction shape kind ref0 field) (prediction_text shape kind ref0) left r rest
inter_prediction shape kind ref0 field other =
    Reads-as (λ m. IsInter kind ref0 (refs_for shape field) m × (m ≡ with_inter (typed kind ref0 field) m)) (IsPrediction shape kind ref0 field) (inter_text kind ref0 (refs_for shape field)) (prediction_text shape kind ref0)
    (λ m q. record {
      absent = q.1 ∙ sym (without_intra kind ref0 field m (modes_of kind ref0 field m q.1));
      intra = intra_none shape kind m other (modes_of kind ref0 field m q.1);
      inter = subst (λ a. IsInter kind ref0 a m) (sym (active_for shape field m (ap (λ (x : Mb). x.field) q.1))) q.0;
    })
    (λ m is. (subst (λ a. IsInter kind ref0 a m) (active_for shape field m (flag_of shape kind ref0 field m is)) is.inter, is.absent ∙ without_intra kind ref0 field m (no_intra shape kind m other is.intra)))
    (λ m is. ap (λ a. inter_text kind ref0 a m) (sym (active_for shape field m (flag_of shape kind ref0 field m is))) ∙ sym (ap (λ t. t ++ inter_text kind ref0 (active_refs shape m) m) (no_intra_text shape kind m other)))

-- ---- no text of a prediction begins another one

few : (ref0 : Bool) (active : List ℕ) (x : ℕ) → slice_index active x ≤ 255 → greatest_of ref0 active x ≤ 255
few true active x h = omega arith
few false active x h = omega arith

pub IsPrefixFree-prediction : (shape : SliceShape) (kind : MbKind) (ref0 field : Bool) → IsSliceShape shape → IsPrefixFree (IsPrediction shape kind ref0 field) (prediction_text shape kind ref0)
IsPrefixFree-prediction shape kind ref0 field is_shape =
    IsPrefixFree-part (IsPrediction shape kind ref0 field) (I0 shape kind (typed kind ref0 field)) (intra_text shape kind) (with_intra (typed kind ref0 field)) (intra_text shape kind) (λ m. inter_text kind ref0 (active_refs shape m) m)
    (IsPrefixFree-intra shape kind (typed kind ref0 field)) (λ m is. (record { t8 = is.intra.t8; modes = is.intra.modes; chroma_mode = is.intra.chroma_mode }, refl)) (λ m is. refl) (λ a _.
    λ v w x y p q e.
    let A : List ℕ = refs_for shape field in
    let ev = active_for shape field v (flag_of shape kind ref0 field v p.0) in
    let ew = active_for shape field w (flag_of shape kind ref0 field w q.0) in
    let In : Mb → List ℕ → Type 0 = λ m t. IsInter kind ref0 t m in
    IsPrefixFree-inter kind ref0 A a (few ref0 A 0 (few_refs shape field 0 is_shape.l0)) (few ref0 A 1 (few_refs shape field 1 is_shape.l1)) v w x y
    (subst (In v) ev p.0.inter, p.0.absent ∙ ap (λ old. with_inter old v) p.1) (subst (In w) ew q.0.inter, q.0.absent ∙ ap (λ old. with_inter old w) q.1)
    (ap (λ t. inter_text kind ref0 t v ++ x) (sym ev) ∙ e ∙ ap (λ t. inter_text kind ref0 t w ++ y) ew))

-- ---- transform_size_8x8_flag, which I_NxN sends first and others last

flag_first : (mode nxn behind : Bool) (t8 : Bool) → (t8 ≡ true → ((mode && nxn) || (mode && behind)) ≡ true) → IsWhen (mode && nxn) false IsFlag (nxn && t8)
flag_first true true behind t8 h = tt
flag_first true false behind t8 h = refl
flag_first false true behind true h = absurd (let e = h refl in cc)
flag_first false true behind false h = refl
flag_first false false behind t8 h = refl

flag_last : (mode nxn behind : Bool) (t8 : Bool) → (t8 ≡ true → ((mode && nxn) || (mode && behind)) ≡ true) → IsWhen (mode && behind) (nxn && t8) IsFlag t8
flag_last true true true t8 h = tt
flag_last true true false t8 h = refl
flag_last true false true t8 h = tt
flag_last true false false true h = absurd (let e = h refl in cc)
flag_last true false false false h = refl
flag_last false true behind t8 h = refl
flag_last false false behind true h = absurd (let e = h refl in cc)
flag_last false false behind false h = refl

flags : (mode nxn behind first t8 : Bool) → (nxn ≡ true → behind ≡ false) → IsWhen (mode && nxn) false IsFlag first → IsWhen (mode && behind) first IsFlag t8 → (t8 ≡ true → ((mode && nxn) || (mode && behind)) ≡ true) × ((nxn && t8) ≡ first)
flags true true true first t8 apart p q = absurd (let e = apart refl in cc)
flags true true false first t8 apart p q = (λ e. refl, q)
flags true false true first t8 apart p q = (λ e. refl, sym p)
flags true false false first t8 apart p q = (λ e. absurd (cc (e, p, q)), sym p)
flags false true behind first t8 apart p q = (λ e. absurd (cc (e, p, q)), q)
flags false false behind first t8 apart p q = (λ e. absurd (cc (e, p, q)), sym p)

apart : (luma : ℕ) (direct8 : Bool) (kind : MbKind) (subs : List ℕ) → is_i_nxn kind ≡ true → (not (luma == 0) && takes_t8 direct8 kind subs) ≡ false
apart luma direct8 (Intra n) subs e = no_both (not (luma == 0))
apart luma direct8 kinds.Skip subs e = absurd cc
apart luma direct8 (kinds.P n) subs e = absurd cc
apart luma direct8 (kinds.B n) subs e = absurd cc

modes_by_flag : (nxn first t8 : Bool) (modes : List ℕ) → (nxn && t8) ≡ first → IsWhen nxn (replicate 16 0) (AreModes t8) modes → IsWhen nxn (replicate 16 0) (AreModes first) modes
modes_by_flag true first t8 modes e is = subst (λ b. AreModes b modes) e is
modes_by_flag false first t8 modes e is = is

flag_by_modes : (nxn first t8 : Bool) (modes : List ℕ) → (nxn && t8) ≡ first → IsWhen nxn (replicate 16 0) (AreModes first) modes → IsWhen nxn (replicate 16 0) (AreModes t8) modes
flag_by_modes true first t8 modes e is = subst (λ b. AreModes b modes) (sym e) is
flag_by_modes false first t8 modes e is = is

-- ---- a macroblock, its prediction, and what stands behind that

-- the prediction of a macroblock
abbrev pub predicted : MbKind → Bool → Bool → Mb → Mb
predicted kind ref0 field m = record (with_prediction kind ref0 field m) { t8 = is_i_nxn kind && m.t8 }

kind_of : (shape : SliceShape) (kind : MbKind) (ref0 field : Bool) (bound : ℕ) (m : Mb) → IsLayer shape kind ref0 field bound m → m.kind ≡ kind
kind_of shape kind ref0 field bound m is = ap (λ (x : Mb). x.kind) is.absent

-- transform_size_8x8_flag of a macroblock of this type
may_be_set : (shape : SliceShape) (kind : MbKind) (ref0 field : Bool) (bound : ℕ) (m : Mb) → IsLayer shape kind ref0 field bound m → m.t8 ≡ true → (sends_t8_first shape kind || sends_t8_last shape kind m.subs m.pattern) ≡ true
may_be_set shape kind ref0 field bound m is set =
    let P : MbKind → Type 0 = λ k. (sends_t8_first shape k || sends_t8_last shape k m.subs m.pattern) ≡ true in
    subst P (kind_of shape kind ref0 field bound m is) (is.t8 set)

pub prediction_of_layer : (shape : SliceShape) (kind : MbKind) (ref0 field : Bool) (bound : ℕ) (m : Mb) → IsLayer shape kind ref0 field bound m → IsPrediction shape kind ref0 field (predicted kind ref0 field m)
prediction_of_layer shape kind ref0 field bound m is = record {
  absent = refl;
  intra = record {
    t8 = flag_first shape.t8_mode (is_i_nxn kind) (not (m.pattern.luma == 0) && takes_t8 shape.direct8 kind m.subs) m.t8 (may_be_set shape kind ref0 field bound m is);
    modes = modes_by_flag (is_i_nxn kind) (is_i_nxn kind && m.t8) m.t8 m.modes refl is.modes;
    chroma_mode = is.chroma_mode;
  };
  inter = inter_of_lists kind ref0 (active_refs shape (predicted kind ref0 field m)) (predicted kind ref0 field m) m
      (subst (λ a. IsInter kind ref0 a m) (active_for shape field m (ap (λ (x : Mb). x.field) is.absent) ∙ sym (active_for shape field (predicted kind ref0 field m) refl)) is.inter);
}

same_flag_text : (mode nxn t8 : Bool) → when_text (mode && nxn) flag_text t8 ≡ when_text (mode && nxn) flag_text (nxn && t8)
same_flag_text true true t8 = refl
same_flag_text true false t8 = refl
same_flag_text false nxn t8 = refl

same_modes_text : (nxn t8 : Bool) (modes : List ℕ) → when_text nxn (modes_text t8) modes ≡ when_text nxn (modes_text (nxn && t8)) modes
same_modes_text true t8 modes = refl
same_modes_text false t8 modes = refl

pub prediction_text_of : (shape : SliceShape) (kind : MbKind) (ref0 field : Bool) (bound : ℕ) (m : Mb) → IsLayer shape kind ref0 field bound m → prediction_text shape kind ref0 m ≡ prediction_text shape kind ref0 (predicted kind ref0 field m)
prediction_text_of shape kind ref0 field bound m is =
    let x = predicted kind ref0 field m in
    let active : active_refs shape m ≡ active_refs shape x = active_for shape field m (ap (λ (y : Mb). y.field) is.absent) ∙ sym (active_for shape field x refl) in
    let inter : inter_text kind ref0 (active_refs shape m) m ≡ inter_text kind ref0 (active_refs shape x) x = ap (λ a. inter_text kind ref0 a m) active ∙ sym (text_of_lists kind ref0 (active_refs shape x) x m) in
    let end : List Bool = when_text (is_intra kind) ue m.chroma_mode in
    ap (λ t. (t ++ (when_text (is_i_nxn kind) (modes_text m.t8) m.modes ++ end)) ++ inter_text kind ref0 (active_refs shape m) m) (same_flag_text shape.t8_mode (is_i_nxn kind) m.t8)
    ∙ ap (λ t. (when_text (sends_t8_first shape kind) flag_text (is_i_nxn kind && m.t8) ++ (t ++ end)) ++ inter_text kind ref0 (active_refs shape m) m) (same_modes_text (is_i_nxn kind) m.t8 m.modes)
    ∙ ap (λ t. intra_text shape kind x ++ t) inter

-- what is known of the macroblock behind its prediction
abbrev pub L1 : SliceShape → MbKind → Bool → Bool → ℕ → Mb → Mb → Type 0
L1 shape kind ref0 field bound old m = IsLayer shape kind ref0 field bound m × (predicted kind ref0 field m ≡ old)

coding_of : (shape : SliceShape) (kind : MbKind) (ref0 field : Bool) (bound : ℕ) (m : Mb) → IsLayer shape kind ref0 field bound m → C0 shape bound (predicted kind ref0 field m) m
coding_of shape kind ref0 field bound m is = (
  record {
    pattern = is.pattern;
    t8 = flag_last shape.t8_mode (is_i_nxn kind) (not (m.pattern.luma == 0) && takes_t8 shape.direct8 kind m.subs) m.t8 (may_be_set shape kind ref0 field bound m is);
    qp_delta = is.qp_delta;
    residual = is.residual;
  },
  is.absent,
)

from_layer : (shape : SliceShape) (kind : MbKind) (ref0 field : Bool) (bound : ℕ) (old m : Mb) → L1 shape kind ref0 field bound old m → C0 shape bound old m
from_layer shape kind ref0 field bound old m q = subst (λ (x : Mb). C0 shape bound x m) q.1 (coding_of shape kind ref0 field bound m q.0)

-- of the prediction a and what stands behind it
joined : (shape : SliceShape) (kind : MbKind) (ref0 field : Bool) (bound : ℕ) (a m : Mb) → IsPrediction shape kind ref0 field (with_prediction kind ref0 field a) → IsCoding shape (with_prediction kind ref0 field a) bound (with_coding (with_prediction kind ref0 field a) m)
    → L1 shape kind ref0 field bound (with_prediction kind ref0 field a) (with_coding (with_prediction kind ref0 field a) m)
joined shape kind ref0 field bound a m p q =
    let behind : Bool = not (m.pattern.luma == 0) && takes_t8 shape.direct8 kind a.subs in
    let set = flags shape.t8_mode (is_i_nxn kind) behind a.t8 m.t8 (apart m.pattern.luma shape.direct8 kind a.subs) p.intra.t8 q.t8 in
    let R : Bool → Mb = λ b. record (with_prediction kind ref0 field a) { t8 = b } in (
      record {
        absent = refl;
        t8 = set.0;
        modes = flag_by_modes (is_i_nxn kind) a.t8 m.t8 a.modes set.1 p.intra.modes;
        chroma_mode = p.intra.chroma_mode;
        inter = inter_of_lists kind ref0 (active_refs shape (with_prediction kind ref0 field a)) (with_coding (with_prediction kind ref0 field a) m) (with_prediction kind ref0 field a) p.inter;
        pattern = q.pattern;
        qp_delta = q.qp_delta;
        residual = q.residual;
      },
      ap R set.1,
    )

to_layer : (shape : SliceShape) (kind : MbKind) (ref0 field : Bool) (bound : ℕ) (old m : Mb) → IsPrediction shape kind ref0 field old → C0 shape bound old m → L1 shape kind ref0 field bound old m
to_layer shape kind ref0 field bound old m p q =
    let e : old ≡ with_prediction kind ref0 field old = p.absent in
    let a : Mb = with_prediction kind ref0 field old in
    let same : m ≡ with_coding a m = q.1 ∙ ap (λ x. with_coding x m) e in
    let coding : IsCoding shape a bound (with_coding a m) = subst (λ (x : Mb). IsCoding shape a bound x) same (subst (λ (x : Mb). IsCoding shape x bound m) e q.0) in
    let both = joined shape kind ref0 field bound old m (subst (IsPrediction shape kind ref0 field) e p) coding in
    subst (λ (x : Mb). L1 shape kind ref0 field bound x m) (sym e) (subst (λ (x : Mb). L1 shape kind ref0 field bound a x) (sym same) both)

-- ---- reading

pub after_prediction : (shape : SliceShape) (around : Around) (kind : MbKind) (ref0 field : Bool) (bound : ℕ) → IsSliceShape shape → (old : Mb) (left mid : List Bool) → IsPrediction shape kind ref0 field old × (left ≡ prediction_text shape kind ref0 old ++ mid)
    → (r : Option Mb) (rest : List Bool) → Reads (C0 shape bound old) (coding_text shape around old.kind) mid r rest → Reads (IsLayer shape kind ref0 field bound) (layer_text shape around kind ref0) left r rest
unfolding layer_text
after_prediction shape around kind ref0 field bound is_shape old left mid read r rest h =
    let e : old.kind ≡ kind = ap (λ (x : Mb). x.kind) read.0.absent in
    Reads-part (IsLayer shape kind ref0 field bound) (IsPrediction shape kind ref0 field) (prediction_text shape kind ref0) (predicted kind ref0 field) (prediction_text shape kind ref0) (coding_text shape around kind)
    (IsPrefixFree-prediction shape kind ref0 field is_shape) (prediction_of_layer shape kind ref0 field bound) (prediction_text_of shape kind ref0 field bound) old left mid read r rest
    (Reads-as (C0 shape bound old) (L1 shape kind ref0 field bound old) (coding_text shape around old.kind) (coding_text shape around kind) (λ m. to_layer shape kind ref0 field bound old m read.0) (from_layer shape kind ref0 field bound old)
    (λ m q. ap (λ k. coding_text shape around k m) e) mid r rest h)

pub no_prediction : (shape : SliceShape) (around : Around) (kind : MbKind) (ref0 field : Bool) (bound : ℕ) (left mid rest : List Bool) → Reads (IsPrediction shape kind ref0 field) (prediction_text shape kind ref0) left None mid → Reads (IsLayer shape kind ref0 field bound) (layer_text shape around kind ref0) left None rest
unfolding layer_text
no_prediction shape around kind ref0 field bound left mid rest none =
    Reads-no_part (IsLayer shape kind ref0 field bound) (IsPrediction shape kind ref0 field) (prediction_text shape kind ref0) (predicted kind ref0 field) (prediction_text shape kind ref0) (coding_text shape around kind)
    (prediction_of_layer shape kind ref0 field bound) (prediction_text_of shape kind ref0 field bound) left mid rest none

-- ---- no text begins another one

pub IsPrefixFree-layer : (shape : SliceShape) (around : Around) (kind : MbKind) (ref0 field : Bool) (bound : ℕ) → IsSliceShape shape → bound ≤ 20 → IsPrefixFree (IsLayer shape kind ref0 field bound) (layer_text shape around kind ref0)
unfolding layer_text
IsPrefixFree-layer shape around kind ref0 field bound is_shape within =
    IsPrefixFree-part (IsLayer shape kind ref0 field bound) (IsPrediction shape kind ref0 field) (prediction_text shape kind ref0) (predicted kind ref0 field) (prediction_text shape kind ref0) (coding_text shape around kind)
    (IsPrefixFree-prediction shape kind ref0 field is_shape) (prediction_of_layer shape kind ref0 field bound) (prediction_text_of shape kind ref0 field bound)
    (λ old is v w x y p q e.
    let k : old.kind ≡ kind = ap (λ (m : Mb). m.kind) is.absent in
    let T : MbKind → Mb → List Bool = λ z m. coding_text shape around z m in
    IsPrefixFree-coding shape around bound old within v w x y (from_layer shape kind ref0 field bound old v p) (from_layer shape kind ref0 field bound old w q)
    (ap (λ z. T z v ++ x) k ∙ e ∙ ap (λ z. T z w ++ y) (sym k)))

-- ---- writing

intra_flag : (mode nxn some t8 : Bool) → (t8 ≡ true → ((mode && nxn) || (mode && (some && false))) ≡ true) → IsWhen (mode && nxn) false IsFlag t8
intra_flag true true some t8 h = tt
intra_flag mode nxn some false h = absent (mode && nxn)
  where
    absent : (b : Bool) → IsWhen b false IsFlag false
    absent true = tt
    absent false = refl
intra_flag true false true true h = absurd (let e = h refl in cc)
intra_flag true false false true h = absurd (let e = h refl in cc)
intra_flag false nxn some true h = absurd (let e = h refl in cc)

intra_t8 : (shape : SliceShape) (kind : MbKind) (m : Mb) → is_intra kind ≡ true → (m.t8 ≡ true → (sends_t8_first shape kind || sends_t8_last shape kind m.subs m.pattern) ≡ true) → IsWhen (sends_t8_first shape kind) false IsFlag m.t8
intra_t8 shape (Intra n) m e h = intra_flag shape.t8_mode (is_i_nxn (Intra n)) (not (m.pattern.luma == 0)) m.t8 h
intra_t8 shape kinds.Skip m e h = absurd cc
intra_t8 shape (kinds.P n) m e h = absurd cc
intra_t8 shape (kinds.B n) m e h = absurd cc

pub intra_of_layer : (shape : SliceShape) (kind : MbKind) (ref0 field : Bool) (bound : ℕ) (m : Mb) → IsLayer shape kind ref0 field bound m → is_intra kind ≡ true → IsIntra shape kind m
intra_of_layer shape kind ref0 field bound m is intra = record { t8 = intra_t8 shape kind m intra (may_be_set shape kind ref0 field bound m is); modes = is.modes; chroma_mode = is.chroma_mode }

pub coding_of_layer : (shape : SliceShape) (field : Bool) (bound : ℕ) (m : Mb) → IsLayer shape m.kind m.ref0 field bound m → IsCoding shape m bound m
coding_of_layer shape field bound m is = record { pattern = is.pattern; t8 = kept (sends_t8_last shape m.kind m.subs m.pattern) m.t8; qp_delta = is.qp_delta; residual = is.residual }
  where
    kept : (b t8 : Bool) → IsWhen b t8 IsFlag t8
    kept true t8 = tt
    kept false t8 = refl

pub written_intra : (shape : SliceShape) (m : Mb) → is_intra m.kind ≡ true → intra_text shape m.kind m ≡ prediction_text shape m.kind m.ref0 m
written_intra shape m intra = sym (ap (λ t. intra_text shape m.kind m ++ t) (no_inter_text m.kind m.ref0 (active_refs shape m) m (intra_sends m.kind intra)) ∙ append-nil (intra_text shape m.kind m))

pub written_inter : (shape : SliceShape) (m : Mb) (active : List ℕ) → is_intra m.kind ≡ false → active ≡ active_refs shape m → inter_text m.kind m.ref0 active m ≡ prediction_text shape m.kind m.ref0 m
written_inter shape m active other same =
    ap (λ a. inter_text m.kind m.ref0 a m) same ∙ sym (ap (λ t. t ++ inter_text m.kind m.ref0 (active_refs shape m) m) (no_intra_text shape m.kind m other))
