-- Reading the prediction of an intra macroblock, element by element.
use Rattle.std.proofs.Common.{◌≡◌, ℕ, ◌≤◌, Bool, true, false, List, ◌++◌, take, drop, Option, Some, None, refl, sym, ap, subst, ◌∙◌, arith}
use Rattle.std.specs.Prelude.{replicate}
use Rattle.std.proofs.lemmas.List.{take-append-drop}
use Rattle.bit_texts.specs.Texts.{Reads, IsPrefixFree, IsWhen, when_text}
use Rattle.bit_texts.proofs.Reading.{IsPrefixFree-when}
use Rattle.bit_texts.proofs.Turns.{IsPrefixFree-turns}
use Rattle.exp_golomb.specs.Code.{ue}
use Rattle.h264_types.specs.Sent.{mode_count, sends_t8_first}
use Rattle.h264_types.specs.Kind.{is_intra, is_i_nxn}
use Rattle.h264_types.specs.declared.macroblock.MbKind.{MbKind}
use Rattle.h264_types.specs.declared.macroblock.Mb.{Mb}
use Rattle.h264_types.specs.declared.slice_shape.SliceShape.{SliceShape}
use Rattle.cavlc_inter.proofs.Codes.{IsPrefixFree-ue}
use Rattle.cavlc_mb_residual.proofs.Chain.{Reads-part, Reads-no_part, IsPrefixFree-part}
use Rattle.cavlc_macroblock.specs.MacroblockLayer.{IsFlag, flag_text, mode_text, AreModes, modes_text, IsIntra, intra_text, with_intra}
use Rattle.cavlc_macroblock.proofs.ElementLaws.{IsPrefixFree-mode, IsPrefixFree-flag}

pub IsPrefixFree-modes : (t8 : Bool) → IsPrefixFree (AreModes t8) (modes_text t8)
IsPrefixFree-modes t8 v w x y p q e =
    let n = mode_count t8 in
    let sent : take n v ≡ take n w = IsPrefixFree-turns (λ (s : ℕ) mode. mode ≤ 8) (λ (s : ℕ) mode. mode_text mode) (λ (s mode : ℕ). s) (λ s. IsPrefixFree-mode) n 0 (take n v) (take n w) x y p.sent q.sent e in
    sym (take-append-drop n v) ∙ ap (λ t. t ++ drop n v) sent ∙ ap (λ t. take n w ++ t) (p.others ∙ sym q.others) ∙ take-append-drop n w

-- ---- what is known of the macroblock after each element, and the texts that follow

abbrev pub I0 : SliceShape → MbKind → Mb → Mb → Type 0
I0 shape kind old m = IsIntra shape kind m × (m ≡ with_intra old m)

abbrev pub I1 : SliceShape → MbKind → Mb → Bool → Mb → Type 0
I1 shape kind old t8 m = I0 shape kind old m × (m.t8 ≡ t8)

abbrev pub I2 : SliceShape → MbKind → Mb → Bool → List ℕ → Mb → Type 0
I2 shape kind old t8 modes m = I1 shape kind old t8 m × (m.modes ≡ modes)

abbrev pub mode_end : MbKind → Mb → List Bool
mode_end kind m = when_text (is_intra kind) ue m.chroma_mode

abbrev pub flag_end : MbKind → Mb → List Bool
flag_end kind m = when_text (is_i_nxn kind) (modes_text m.t8) m.modes ++ mode_end kind m

-- ---- one element after another

pub after_flag : (shape : SliceShape) (kind : MbKind) (old : Mb) (b : Bool) → b ≡ sends_t8_first shape kind → (t8 : Bool) (left mid : List Bool) → IsWhen b false IsFlag t8 × (left ≡ when_text b flag_text t8 ++ mid)
    → (r : Option Mb) (rest : List Bool) → Reads (I1 shape kind old t8) (flag_end kind) mid r rest → Reads (I0 shape kind old) (intra_text shape kind) left r rest
after_flag shape kind old b e t8 left mid read r rest h =
    let P : Bool → Type 0 = λ x. IsWhen x false IsFlag t8 × (left ≡ when_text x flag_text t8 ++ mid) in
    Reads-part (I0 shape kind old) (IsWhen (sends_t8_first shape kind) false IsFlag) (when_text (sends_t8_first shape kind) flag_text) (λ m. m.t8) (λ m. when_text (sends_t8_first shape kind) flag_text m.t8) (flag_end kind)
    (IsPrefixFree-when (sends_t8_first shape kind) false IsFlag flag_text IsPrefixFree-flag) (λ m q. q.0.t8) (λ m q. refl) t8 left mid (subst P e read) r rest h

pub no_flag : (shape : SliceShape) (kind : MbKind) (old : Mb) (b : Bool) → b ≡ sends_t8_first shape kind → (left mid rest : List Bool) → Reads (IsWhen b false IsFlag) (when_text b flag_text) left None mid → Reads (I0 shape kind old) (intra_text shape kind) left None rest
no_flag shape kind old b e left mid rest none =
    let P : Bool → Type 0 = λ x. Reads (IsWhen x false IsFlag) (when_text x flag_text) left None mid in
    Reads-no_part (I0 shape kind old) (IsWhen (sends_t8_first shape kind) false IsFlag) (when_text (sends_t8_first shape kind) flag_text) (λ m. m.t8) (λ m. when_text (sends_t8_first shape kind) flag_text m.t8) (flag_end kind)
    (λ m q. q.0.t8) (λ m q. refl) left mid rest (subst P e none)

modes_in_range : (shape : SliceShape) (kind : MbKind) (old : Mb) (t8 : Bool) (m : Mb) → I1 shape kind old t8 m → IsWhen (is_i_nxn kind) (replicate 16 0) (AreModes t8) m.modes
modes_in_range shape kind old t8 m q = let P : Bool → Type 0 = λ x. IsWhen (is_i_nxn kind) (replicate 16 0) (AreModes x) m.modes in subst P q.1 q.0.0.modes

same_modes : (shape : SliceShape) (kind : MbKind) (old : Mb) (t8 : Bool) (m : Mb) → I1 shape kind old t8 m → when_text (is_i_nxn kind) (modes_text m.t8) m.modes ≡ when_text (is_i_nxn kind) (modes_text t8) m.modes
same_modes shape kind old t8 m q = ap (λ x. when_text (is_i_nxn kind) (modes_text x) m.modes) q.1

pub after_modes : (shape : SliceShape) (kind : MbKind) (old : Mb) (t8 b : Bool) → b ≡ is_i_nxn kind → (modes : List ℕ) (left mid : List Bool) → IsWhen b (replicate 16 0) (AreModes t8) modes × (left ≡ when_text b (modes_text t8) modes ++ mid)
    → (r : Option Mb) (rest : List Bool) → Reads (I2 shape kind old t8 modes) (mode_end kind) mid r rest → Reads (I1 shape kind old t8) (flag_end kind) left r rest
after_modes shape kind old t8 b e modes left mid read r rest h =
    let P : Bool → Type 0 = λ x. IsWhen x (replicate 16 0) (AreModes t8) modes × (left ≡ when_text x (modes_text t8) modes ++ mid) in
    Reads-part (I1 shape kind old t8) (IsWhen (is_i_nxn kind) (replicate 16 0) (AreModes t8)) (when_text (is_i_nxn kind) (modes_text t8)) (λ m. m.modes) (λ m. when_text (is_i_nxn kind) (modes_text m.t8) m.modes) (mode_end kind)
    (IsPrefixFree-when (is_i_nxn kind) (replicate 16 0) (AreModes t8) (modes_text t8) (IsPrefixFree-modes t8)) (modes_in_range shape kind old t8) (same_modes shape kind old t8) modes left mid (subst P e read) r rest h

pub no_modes : (shape : SliceShape) (kind : MbKind) (old : Mb) (t8 b : Bool) → b ≡ is_i_nxn kind → (left mid rest : List Bool) → Reads (IsWhen b (replicate 16 0) (AreModes t8)) (when_text b (modes_text t8)) left None mid → Reads (I1 shape kind old t8) (flag_end kind) left None rest
no_modes shape kind old t8 b e left mid rest none =
    let P : Bool → Type 0 = λ x. Reads (IsWhen x (replicate 16 0) (AreModes t8)) (when_text x (modes_text t8)) left None mid in
    Reads-no_part (I1 shape kind old t8) (IsWhen (is_i_nxn kind) (replicate 16 0) (AreModes t8)) (when_text (is_i_nxn kind) (modes_text t8)) (λ m. m.modes) (λ m. when_text (is_i_nxn kind) (modes_text m.t8) m.modes) (mode_end kind)
    (modes_in_range shape kind old t8) (same_modes shape kind old t8) left mid rest (subst P e none)

pub no_chroma_mode : (shape : SliceShape) (kind : MbKind) (old : Mb) (t8 : Bool) (modes : List ℕ) → is_intra kind ≡ true → (left mid rest : List Bool) → Reads (λ v. v ≤ 3) ue left None mid → Reads (I2 shape kind old t8 modes) (mode_end kind) left None rest
no_chroma_mode shape kind old t8 modes e left mid rest none = λ m more q bad.
    let P : Bool → Type 0 = λ x. IsWhen x 0 (λ mode. mode ≤ 3) m.chroma_mode in
    none m.chroma_mode more (subst P e q.0.0.0.chroma_mode) (bad ∙ ap (λ x. when_text x ue m.chroma_mode ++ more) e)

-- all were read
pub intra_is_read : (shape : SliceShape) (kind : MbKind) (old : Mb) (b : Bool) → is_intra kind ≡ true → b ≡ is_i_nxn kind → (f : Bool) → f ≡ sends_t8_first shape kind → (t8 : Bool) (modes : List ℕ) (cm : ℕ) (t0 t1 t2 t3 : List Bool)
    → IsWhen f false IsFlag t8 × (t0 ≡ when_text f flag_text t8 ++ t1)
    → IsWhen b (replicate 16 0) (AreModes t8) modes × (t1 ≡ when_text b (modes_text t8) modes ++ t2)
    → (cm ≤ 3) × (t2 ≡ ue cm ++ t3)
    → Reads (I0 shape kind old) (intra_text shape kind) t0 (Some (record old { t8 = t8; modes = modes; chroma_mode = cm })) t3
intra_is_read shape kind old b intra e f g t8 modes cm t0 t1 t2 t3 r1 r2 r3 =
    let new : Mb = record old { t8 = t8; modes = modes; chroma_mode = cm } in
    let C : Bool → Type 0 = λ x. IsWhen x 0 (λ mode. mode ≤ 3) cm × (t2 ≡ when_text x ue cm ++ t3) in
    let last = subst C (sym intra) r3 in
    let is : IsIntra shape kind new = record {
      t8 = subst (λ x. IsWhen x false IsFlag t8) g r1.0;
      modes = subst (λ x. IsWhen x (replicate 16 0) (AreModes t8) modes) e r2.0;
      chroma_mode = last.0;
    } in
    after_flag shape kind old f g t8 t0 t1 r1 (Some new) t3
    (after_modes shape kind old t8 b e modes t1 t2 r2 (Some new) t3 ((((is, refl), refl), refl), last.1))

-- ---- no text begins another one

pub IsPrefixFree-intra : (shape : SliceShape) (kind : MbKind) (old : Mb) → IsPrefixFree (I0 shape kind old) (intra_text shape kind)
IsPrefixFree-intra shape kind old =
    IsPrefixFree-part (I0 shape kind old) (IsWhen (sends_t8_first shape kind) false IsFlag) (when_text (sends_t8_first shape kind) flag_text) (λ m. m.t8) (λ m. when_text (sends_t8_first shape kind) flag_text m.t8) (flag_end kind)
    (IsPrefixFree-when (sends_t8_first shape kind) false IsFlag flag_text IsPrefixFree-flag) (λ m q. q.0.t8) (λ m q. refl) (λ t8 _.
    IsPrefixFree-part (I1 shape kind old t8) (IsWhen (is_i_nxn kind) (replicate 16 0) (AreModes t8)) (when_text (is_i_nxn kind) (modes_text t8)) (λ m. m.modes) (λ m. when_text (is_i_nxn kind) (modes_text m.t8) m.modes) (mode_end kind)
    (IsPrefixFree-when (is_i_nxn kind) (replicate 16 0) (AreModes t8) (modes_text t8) (IsPrefixFree-modes t8)) (modes_in_range shape kind old t8) (same_modes shape kind old t8) (λ modes _.
    λ v w x y q r e.
    let cm : v.chroma_mode ≡ w.chroma_mode = IsPrefixFree-when (is_intra kind) 0 (λ mode. mode ≤ 3) ue (IsPrefixFree-ue 3 (omega arith)) v.chroma_mode w.chroma_mode x y q.0.0.0.chroma_mode r.0.0.0.chroma_mode e in
    same_intra old v w q.0.0.1 r.0.0.1 (q.0.1 ∙ sym r.0.1) (q.1 ∙ sym r.1) cm))
  where
    same_intra : (old v w : Mb) → v ≡ with_intra old v → w ≡ with_intra old w → v.t8 ≡ w.t8 → v.modes ≡ w.modes → v.chroma_mode ≡ w.chroma_mode → v ≡ w
    same_intra old v w p q e1 e2 e3 =
        let R : Bool → List ℕ → ℕ → Mb = λ a b c. record old { t8 = a; modes = b; chroma_mode = c } in
        p ∙ ap (λ a. R a v.modes v.chroma_mode) e1 ∙ ap (λ b. R w.t8 b v.chroma_mode) e2 ∙ ap (R w.t8 w.modes) e3 ∙ sym q

-- ---- writing

-- the whole text, where what it depends on is known under other names
pub intra_text-as : (shape : SliceShape) (mb : Mb) (f b : Bool) (cm : ℕ) → is_intra mb.kind ≡ true → f ≡ sends_t8_first shape mb.kind → b ≡ is_i_nxn mb.kind → cm ≡ mb.chroma_mode
    → when_text f flag_text mb.t8 ++ (when_text b (modes_text mb.t8) mb.modes ++ ue cm) ≡ intra_text shape mb.kind mb
intra_text-as shape mb f b cm intra e1 e2 e3 =
    let T : Bool → Bool → ℕ → List Bool = λ f b cm. when_text f flag_text mb.t8 ++ (when_text b (modes_text mb.t8) mb.modes ++ ue cm) in
    let F = sends_t8_first shape mb.kind in
    let N = is_i_nxn mb.kind in
    ap (λ x. T x b cm) e1 ∙ ap (λ x. T F x cm) e2 ∙ ap (T F N) e3 ∙ ap (λ x. when_text F flag_text mb.t8 ++ (when_text N (modes_text mb.t8) mb.modes ++ when_text x ue mb.chroma_mode)) (sym intra)

pub chroma_mode_small : (shape : SliceShape) (mb : Mb) → is_intra mb.kind ≡ true → IsIntra shape mb.kind mb → mb.chroma_mode ≤ 3
chroma_mode_small shape mb intra is = subst (λ b. IsWhen b 0 (λ mode. mode ≤ 3) mb.chroma_mode) intra is.chroma_mode
