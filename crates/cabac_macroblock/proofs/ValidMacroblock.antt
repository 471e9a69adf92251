-- What the bins of a macroblock spell is a macroblock of the slice.
use Rattle.std.proofs.Common.{◌≡◌, ℕ, ◌<◌, ◌≤◌, ℤ, pos, unsigned_abs, Bool, true, false, cond, List, [], length, replicate, ◌⊎◌, inl, inr, refl, sym, ap, subst, ◌∙◌, arith}
use Rattle.std.specs.Prelude.{All, IsTrue, ◌||◌, ◌==◌, ◌≤ℤ◌, slice_index, slice_index_or}
use Rattle.std.specs.Int.{bit_at}
use Rattle.std.specs.List.{AllByRecursion}
use Rattle.std.proofs.lemmas.Nat.Bits.{bit_at-zero}
use Rattle.std.proofs.lemmas.Int.{ints}
use Rattle.std.proofs.lemmas.Bool.{and_parts}
use Rattle.std.proofs.lemmas.Bool.Decides.{nat_tests}
use Rattle.std.proofs.lemmas.List.{get_or-replicate}
use Rattle.std.proofs.lemmas.List.Elements.{All-replicate}
use Rattle.cabac_engine.specs.Bins.{Slot}
use Rattle.binarisation.specs.BinString.{Value, Spells, ◌>>=◌}
use Rattle.binarisation.specs.Elements as syntax
use Rattle.binarisation.proofs.OneString.{splits}
use Rattle.h264_types.specs.Kind.{is_intra, is_i_nxn, is_i_16x16, is_i_pcm}
use Rattle.h264_types.specs.Sizes.{HasSizes}
use Rattle.h264_types.specs.Valid.{is_kind_in, sub_bound, sample_bound, ref_at, mvd_of, IsWithin, IsListSent, IsIntraPredicted, IsInterPredicted, IsQpDelta, IsMacroblock}
use Rattle.h264_types.specs.Sent.{sends_t8_first, sends_t8_last, sends_t8, sends_qp_delta}
use Rattle.h264_types.specs.declared.macroblock.Mb.{Mb}
use Rattle.h264_types.specs.declared.macroblock.MbKind.{MbKind}
use Rattle.h264_types.specs.declared.macroblock.MbKind.TheVariants.{Skip, Intra, P, B}
use Rattle.h264_types.specs.declared.macroblock.Pattern.{Pattern}
use Rattle.h264_types.specs.declared.slice_shape.SliceKind.{SliceKind}
use Rattle.h264_types.specs.declared.slice_shape.SliceKind.TheVariants as slices
use Rattle.h264_types.specs.declared.slice_shape.SliceShape.{SliceShape}
use Rattle.h264_types.proofs.Zeros.{zeros_within, zero_at}
use Rattle.h264_types.proofs.KindLaws.{named_pcm, other_pattern}
use Rattle.cabac_contexts.specs.Terms.{has_luma}
use Rattle.cabac_contexts.specs.Increments as incs
use Rattle.cabac_inter.specs.InterPrediction.{inter_prediction}
use Rattle.cabac_mb_residual.specs.MacroblockResidual.{residual}
use Rattle.cabac_mb_residual.specs.Levels.{without_levels, IsResidual}
use Rattle.cabac_macroblock.specs.IntraPrediction.{transform_size, modes, chroma_mode, intra_prediction}
use Rattle.cabac_macroblock.specs.CodedBlockPattern.{pattern}
use Rattle.cabac_macroblock.specs.MbType.{of_kind, skip_in, skip_flag, mb_type}
use Rattle.cabac_macroblock.specs.MacroblockLayer.{last_transform_size, qp_delta, coding, intra_elements, inter_elements, elements, layer, macroblock}
use Rattle.cabac_macroblock.specs.Stages.{before_t8, before_modes, before_chroma_mode, before_inter, before_pattern, before_last_t8, before_qp_delta}
use Rattle.cabac_macroblock.proofs.Kept.{Keeps, keeps_value, keeps_put, keeps_put_of, keeps_when}
use Rattle.cabac_macroblock.proofs.KeptElements.{residual_kept, coding_kept, last_size_kept, pattern_kept, chroma_mode_kept, modes_kept, intra_elements_kept, inter_elements_kept, elements_typed}
use Rattle.cabac_macroblock.proofs.OneMacroblock.{size_settled, modes_settled, mode_settled, pattern_settled, inter_settled, inter_pattern_settled, last_size_settled}
use Rattle.cabac_macroblock.proofs.CodingSteps.{elements_pcm, elements_intra, elements_inter}
use Rattle.cabac_macroblock.proofs.Absent.{neither, none_sent}
use Rattle.cabac_inter.proofs.ValidPrediction.{prediction_valid, prediction_sizes}
use Rattle.cabac_macroblock.proofs.InterLaws.{kind_sized}
use Rattle.cabac_macroblock.proofs.TypeLaws.{IsType, type_range}
use Rattle.cabac_macroblock.proofs.Values.{delta_range}
use Rattle.cabac_macroblock.proofs.ValidElements.{IsSized, AreModes, IsPatterned, size_valid, modes_valid, chroma_mode_valid, pattern_valid, zero_luma, zero_chroma, sized}

-- what is said of the residual
abbrev pub IsResidualLaw : SliceShape → List Mb → ℕ → Type 0
IsResidualLaw shape done at = (m : Mb) (bins : List (Slot × Bool)) (value : Mb) → HasSizes m → (m.t8 ≡ true → is_i_16x16 m.kind ≡ false) → Spells (residual shape done at (without_levels m)) bins value → IsResidual value × HasSizes value

-- ---- mb_qp_delta and the residual

record IsCodedSo (m : Mb) : Type 0 where
  delta : IsQpDelta m
  residual : IsResidual m
  sizes : HasSizes m

no_quarter : (m : Mb) (q : ℕ) → sends_qp_delta m.kind m.pattern ≡ false → has_luma m q ≡ false
no_quarter m q unsent =
    let parts = neither (is_i_16x16 m.kind) (m.pattern.luma == 0) (m.pattern.chroma == 0) unsent in
    ap (λ (p : Pattern). bit_at p.luma q == 1) (other_pattern m m.kind parts.0 ∙ none_sent m.pattern parts.1 parts.2) ∙ ap (λ (b : ℕ). b == 1) (bit_at-zero q)

uncoded : (m : Mb) → sends_qp_delta m.kind m.pattern ≡ false → before_qp_delta m ≡ m → HasSizes (without_levels m) → IsCodedSo m
uncoded m unsent is sizes =
    let none : without_levels m ≡ m = ap without_levels (sym is) ∙ is in
    let delta : m.qp_delta ≡ pos 0 = ap (λ (n : Mb). n.qp_delta) (sym is) in
    record {
      delta = record { magnitude = rw delta (omega arith); greatest = rw delta (omega (arith, ints)) };
      residual = subst IsResidual none (record { luma = zero_luma m; chroma = zero_chroma m; some = λ q h set has zeros. let clash : true ≡ false = sym has ∙ no_quarter m q unsent in absurd cc });
      sizes = subst HasSizes none sizes;
    }

record HasDelta (mb m : Mb) : Type 0 where
  magnitude : unsigned_abs m.qp_delta ≤ 26
  greatest : m.qp_delta ≤ℤ pos 25
  none : without_levels m ≡ m
  before : before_qp_delta m ≡ mb

delta_valid : (done : List Mb) (at : ℕ) (mb : Mb) → before_qp_delta mb ≡ mb → Keeps (HasDelta mb) (qp_delta done at mb)
unfolding qp_delta
delta_valid done at mb is =
    keeps_put_of (λ d. (unsigned_abs d ≤ 26) × (d ≤ℤ pos 25)) (HasDelta mb) (syntax.qp_delta (incs.qp_delta done at)) (λ d. record mb { qp_delta = d }) (delta_range _)
    (λ d range. record { magnitude = range.0; greatest = range.1; none = ap (λ (m : Mb). record m { qp_delta = d }) is; before = is })

-- a macroblock with another mb_qp_delta has the same sizes
delta_sized : (mb m : Mb) → before_qp_delta m ≡ mb → HasSizes mb → HasSizes (without_levels m)
delta_sized mb m e is =
    let s = subst HasSizes (sym e) is in
    record { modes = s.modes; subs = s.subs; refs = s.refs; mvd = s.mvd; dc = s.dc; luma = s.luma; chroma_dc = s.chroma_dc; chroma_ac = s.chroma_ac; pcm = s.pcm }

coding_valid : (shape : SliceShape) (done : List Mb) (at : ℕ) (mb : Mb) → IsResidualLaw shape done at → before_qp_delta mb ≡ mb → HasSizes (without_levels mb) → (mb.t8 ≡ true → is_i_16x16 mb.kind ≡ false)
    → Keeps IsCodedSo (coding shape done at mb)
unfolding coding
coding_valid shape done at mb law is bare_sizes apart =
    keeps_when IsCodedSo (sends_qp_delta mb.kind mb.pattern) (qp_delta done at mb >>= residual shape done at) (Value mb) sent (λ unsent. keeps_value IsCodedSo mb (uncoded mb unsent is bare_sizes))
  where
    sent : sends_qp_delta mb.kind mb.pattern ≡ true → Keeps IsCodedSo (qp_delta done at mb >>= residual shape done at)
    sent e bins value h =
        let parts = splits (qp_delta done at mb) (residual shape done at) bins value h in
        let m : Mb = parts.0 in
        let has : HasDelta mb m = delta_valid done at mb is parts.1 m parts.4 in
        let mb_sizes : HasSizes mb = subst HasSizes (ap without_levels (sym is) ∙ is) bare_sizes in
        let sizes : HasSizes m = subst HasSizes has.none (delta_sized mb m has.before mb_sizes) in
        let apart_m : m.t8 ≡ true → is_i_16x16 m.kind ≡ false = subst (λ (x : Mb). x.t8 ≡ true → is_i_16x16 x.kind ≡ false) (sym has.before) apart in
        let coded = law m parts.2 value sizes apart_m (subst (λ (x : Mb). Spells (residual shape done at x) parts.2 value) (sym has.none) parts.5) in
        let same : without_levels value ≡ m = residual_kept shape done at m m has.none parts.2 value parts.5 in
        let delta : value.qp_delta ≡ m.qp_delta = ap (λ (n : Mb). n.qp_delta) same in
        let sends : sends_qp_delta value.kind value.pattern ≡ true = ap (λ (x : Mb). sends_qp_delta x.kind x.pattern) same ∙ ap (λ (x : Mb). sends_qp_delta x.kind x.pattern) has.before ∙ e in
        record {
          delta = record { magnitude = rw sends (rw delta has.magnitude); greatest = rw delta has.greatest };
          residual = coded.0;
          sizes = coded.1;
        }

-- ---- the type and what it says

t8_first_sent : (shape : SliceShape) (m : Mb) → IsSized shape m → IsTrue m.t8 → IsTrue (sends_t8 shape m)
t8_first_sent shape m is set = by (sends_t8_first shape m.kind) (sends_t8_last shape m.kind m.subs m.pattern) (is set)
  where
    by : (first last : Bool) → first ≡ true → (first || last) ≡ true
    by true last h = refl
    by false last h = absurd cc

-- a macroblock that has its type alone has no prediction
no_inter : (shape : SliceShape) (field : Bool) (kind : MbKind) → IsInterPredicted shape (of_kind field kind)
no_inter shape field kind = record {
  subs = All-replicate (λ sub. sub ≤ sub_bound kind) 4 0 (omega arith);
  l0 = none 0 (omega arith);
  l1 = none 1 (omega arith);
}
  where
    mb : Mb
    mb = of_kind field kind

    no_ref : (x : ℕ) → x < 2 → (q : ℕ) → ref_at mb x q ≡ 0
    no_ref x h q = ap (λ (l : List ℕ). slice_index l q) (get_or-replicate 2 x (replicate 4 0) [] h) ∙ zero_at 4 q

    no_mvd : (x : ℕ) → x < 2 → (n : ℕ) → n < 16 → mvd_of mb x n ≡ replicate 2 (pos 0)
    no_mvd x h n below = ap (λ (l : List (List ℤ)). slice_index_or l n []) (get_or-replicate 2 x (replicate 16 (replicate 2 (pos 0))) [] h) ∙ get_or-replicate 16 n (replicate 2 (pos 0)) [] below

    none : (x : ℕ) → x < 2 → IsListSent shape mb x
    none x h = record {
      refs = λ q below. rw (no_ref x h q) (omega arith);
      refs_repeat = λ q below r inside e. no_ref x h q ∙ sym (no_ref x h r);
      mvd = λ n below. subst (IsWithin _) (sym (no_mvd x h n below)) (zeros_within _ 2);
      mvd_repeat = λ n below m inside e. no_mvd x h n below ∙ sym (no_mvd x h m inside);
    }

-- the prediction of a macroblock with the same type and the same prediction
same_inter : (shape : SliceShape) (mb m : Mb) → m.kind ≡ mb.kind → m.field ≡ mb.field → m.subs ≡ mb.subs → m.refs ≡ mb.refs → m.mvd ≡ mb.mvd → IsInterPredicted shape mb → IsInterPredicted shape m
same_inter shape mb m kind field subs refs mvd is =
    let made : Mb = record m { kind = mb.kind; field = mb.field; subs = mb.subs; refs = mb.refs; mvd = mb.mvd } in
    let same : made ≡ m =
    ap (λ k. record made { kind = k }) (sym kind) ∙ ap (λ b. record m { field = b; subs = mb.subs; refs = mb.refs; mvd = mb.mvd }) (sym field)
    ∙ ap (λ l. record m { subs = l; refs = mb.refs; mvd = mb.mvd }) (sym subs) ∙ ap (λ l. record m { refs = l; mvd = mb.mvd }) (sym refs) ∙ ap (λ l. record m { mvd = l }) (sym mvd) in
    subst (λ (n : Mb). IsInterPredicted shape n) same (record {
      subs = is.subs;
      l0 = record { refs = is.l0.refs; refs_repeat = is.l0.refs_repeat; mvd = is.l0.mvd; mvd_repeat = is.l0.mvd_repeat };
      l1 = record { refs = is.l1.refs; refs_repeat = is.l1.refs_repeat; mvd = is.l1.mvd; mvd_repeat = is.l1.mvd_repeat };
    })

intra_unpredicted : (shape : SliceShape) (field : Bool) (kind : MbKind) (m : Mb) → before_t8 m ≡ of_kind field kind → IsInterPredicted shape m
intra_unpredicted shape field kind m e =
    same_inter shape (of_kind field kind) m (ap (λ (n : Mb). n.kind) e) (ap (λ (n : Mb). n.field) e) (ap (λ (n : Mb). n.subs) e) (ap (λ (n : Mb). n.refs) e) (ap (λ (n : Mb). n.mvd) e) (no_inter shape field kind)

not_16x16 : (kind : MbKind) → is_i_nxn kind ≡ true → is_i_16x16 kind ≡ false
not_16x16 (Intra n) e = grind (arith, nat_tests)
not_16x16 Skip e = refl
not_16x16 (P n) e = refl
not_16x16 (B n) e = refl

-- ---- the whole macroblock

abbrev pub IsSpelled : SliceShape → Mb → Type 0
IsSpelled shape m = IsMacroblock shape m × IsResidual m

-- its type and what is of no use for it
record IsOfKind (shape : SliceShape) (field : Bool) (kind : MbKind) (m : Mb) : Type 0 where
  is : m.kind ≡ kind
  pair : m.field ≡ field
  plain : m.ref0 ≡ false
  none : m.pcm ≡ replicate 384 0
  allowed : is_kind_in shape.kind kind ≡ true
  other : is_i_pcm kind ≡ false
  mbaff : field ≡ true → shape.mbaff ≡ true

assemble : (shape : SliceShape) (field : Bool) (kind : MbKind) (m : Mb) → IsOfKind shape field kind m → (IsTrue m.t8 → IsTrue (sends_t8 shape m)) → IsIntraPredicted m → IsInterPredicted shape m → IsPatterned m → IsCodedSo m → IsSpelled shape m
assemble shape field kind m of t8 intra inter patterned coded = (
  record {
    sizes = coded.sizes;
    typed = record {
      kind = subst (λ k. is_kind_in shape.kind k ≡ true) (sym of.is) of.allowed;
      ref0 = λ set. absurd (let clash : true ≡ false = sym set ∙ of.plain in cc);
      field = λ set. of.mbaff (sym of.pair ∙ set);
      t8 = t8;
    };
    intra = intra;
    inter = inter;
    coded = record {
      pattern = record { luma = patterned.0; chroma = patterned.1 };
      qp_delta = coded.delta;
      luma = coded.residual.luma;
      chroma = coded.residual.chroma;
      pcm = subst (All (λ sample. sample ≤ sample_bound m.kind)) (sym of.none) (All-replicate (λ sample. sample ≤ sample_bound m.kind) 384 0 (omega arith));
    };
  },
  coded.residual,
)

-- what holds of the type of a macroblock that is read
record Reads (shape : SliceShape) (field : Bool) (kind : MbKind) : Type 0 where
  type : IsType shape kind
  other : is_i_pcm kind ≡ false
  mbaff : field ≡ true → shape.mbaff ≡ true

of_kind_of : (shape : SliceShape) (field : Bool) (kind : MbKind) (m x : Mb) → Reads shape field kind → x ≡ of_kind field kind → m.kind ≡ x.kind → m.field ≡ x.field → m.ref0 ≡ x.ref0 → m.pcm ≡ x.pcm → IsOfKind shape field kind m
of_kind_of shape field kind m x r e k f z p = record {
  is = k ∙ ap (λ (n : Mb). n.kind) e;
  pair = f ∙ ap (λ (n : Mb). n.field) e;
  plain = z ∙ ap (λ (n : Mb). n.ref0) e;
  none = p ∙ ap (λ (n : Mb). n.pcm) e;
  allowed = r.type.0;
  other = r.other;
  mbaff = r.mbaff;
}

intra_modes : (kind : MbKind) (m : Mb) → m.kind ≡ kind → is_intra kind ≡ true → is_i_pcm kind ≡ false → AreModes m → m.chroma_mode ≤ 3 → IsIntraPredicted m
intra_modes kind m is intra other are mode =
    let a : is_intra m.kind ≡ true = ap is_intra is ∙ intra in
    let b : is_i_pcm m.kind ≡ false = ap is_i_pcm is ∙ other in
    record { modes = are.1; chroma_mode = rw (a, b) mode }

intra_valid : (shape : SliceShape) (done : List Mb) (at : ℕ) (field : Bool) (kind : MbKind) → IsResidualLaw shape done at → Reads shape field kind → is_intra kind ≡ true → Keeps (IsSpelled shape) (intra_elements shape done at (of_kind field kind))
unfolding intra_prediction intra_elements
intra_valid shape done at field kind law r intra bins value h =
    let m0 : Mb = of_kind field kind in
    let whole : before_t8 value ≡ m0 = intra_elements_kept shape done at m0 m0 refl bins value h in
    let a = splits (intra_prediction shape done at m0 >>= pattern shape done at) (coding shape done at) bins value h in
    let b = splits (intra_prediction shape done at m0) (pattern shape done at) a.1 a.0 a.4 in
    let c = splits (transform_size shape done at m0 >>= modes) (chroma_mode shape done at) b.1 b.0 b.4 in
    let d = splits (transform_size shape done at m0) modes c.1 c.0 c.4 in
    let s1 : before_modes d.0 ≡ d.0 = size_settled shape done at m0 refl d.1 d.0 d.4 in
    let s2 : before_chroma_mode c.0 ≡ c.0 = modes_settled d.0 s1 d.2 c.0 d.5 in
    let s3 : before_pattern b.0 ≡ b.0 = mode_settled shape done at c.0 s2 c.2 b.0 c.5 in
    let s4 : before_qp_delta a.0 ≡ a.0 = pattern_settled shape done at b.0 s3 b.2 a.0 b.5 in
    let k2 : before_modes c.0 ≡ d.0 = modes_kept d.0 d.0 s1 d.2 c.0 d.5 in
    let k3 : before_chroma_mode b.0 ≡ c.0 = chroma_mode_kept shape done at c.0 c.0 s2 c.2 b.0 c.5 in
    let k4 : before_pattern a.0 ≡ b.0 = pattern_kept shape done at b.0 b.0 s3 b.2 a.0 b.5 in
    let k5 : before_qp_delta value ≡ a.0 = coding_kept shape done at a.0 a.0 s4 a.2 value a.5 in
    let v3 : before_pattern value ≡ b.0 = ap before_pattern k5 ∙ k4 in
    let v2 : before_chroma_mode value ≡ c.0 = ap before_chroma_mode v3 ∙ k3 in
    let v1 : before_modes value ≡ d.0 = ap before_modes v2 ∙ k2 in
    let size : IsSized shape value = subst (IsSized shape) (sym v1) (size_valid shape done at m0 refl d.1 d.0 d.4) in
    let are : AreModes value = subst AreModes (sym v2) (modes_valid d.0 s1 d.2 c.0 d.5) in
    let mode : value.chroma_mode ≤ 3 = subst (λ (m : Mb). m.chroma_mode ≤ 3) (sym v3) (chroma_mode_valid shape done at c.0 c.2 b.0 c.5) in
    let patterned : IsPatterned value = subst IsPatterned (sym k5) (pattern_valid shape done at b.0 s3 b.2 a.0 b.5) in
    let whole_before : before_t8 a.0 ≡ m0 = ap before_t8 (sym k5) ∙ whole in
    let modes_before : length a.0.modes ≡ 16 = ap (λ (m : Mb). length m.modes) (sym k5) ∙ are.0 in
    let apart : a.0.t8 ≡ true → is_i_16x16 a.0.kind ≡ false = λ set. not_16x16 a.0.kind (and_parts shape.t8_mode (is_i_nxn a.0.kind) (subst (IsSized shape) k5 size set)).1 in
    let of : IsOfKind shape field kind value = of_kind_of shape field kind value (before_t8 value) r whole refl refl refl refl in
    assemble shape field kind value of (t8_first_sent shape value size) (intra_modes kind value of.is intra r.other are mode) (intra_unpredicted shape field kind value whole) patterned
    (coding_valid shape done at a.0 law s4 (sized field kind a.0 whole_before modes_before) apart a.2 value a.5)

-- ---- P and B macroblocks

-- transform_size_8x8_flag behind the pattern
abbrev IsSizedLast : SliceShape → Mb → Type 0
IsSizedLast shape m = m.t8 ≡ true → sends_t8_last shape m.kind m.subs m.pattern ≡ true

last_size_valid : (shape : SliceShape) (done : List Mb) (at : ℕ) (mb : Mb) → mb.t8 ≡ false → Keeps (IsSizedLast shape) (last_transform_size shape done at mb)
unfolding last_transform_size
last_size_valid shape done at mb none =
    keeps_when (IsSizedLast shape) (sends_t8_last shape mb.kind mb.subs mb.pattern) (syntax.t8 (incs.t8 shape done at mb.field mb) >>= (λ flag. Value (record mb { t8 = flag }))) (Value mb)
    (λ sent. keeps_put (IsSizedLast shape) (syntax.t8 (incs.t8 shape done at mb.field mb)) (λ flag. record mb { t8 = flag }) (λ flag set. sent))
    (λ unsent. keeps_value (IsSizedLast shape) mb (λ set. absurd (let clash : true ≡ false = sym set ∙ none in cc)))

t8_last_sent : (shape : SliceShape) (m : Mb) → IsSizedLast shape m → IsTrue m.t8 → IsTrue (sends_t8 shape m)
t8_last_sent shape m is set = by (sends_t8_first shape m.kind) (sends_t8_last shape m.kind m.subs m.pattern) (is set)
  where
    by : (first last : Bool) → last ≡ true → (first || last) ≡ true
    by true last h = refl
    by false last h = h

inter_modes : (m : Mb) → m.modes ≡ replicate 16 0 → m.chroma_mode ≡ 0 → IsIntraPredicted m
inter_modes m modes mode = record {
  modes = λ k below. let zero_there : slice_index m.modes k ≡ 0 = ap (λ l. slice_index l k) modes ∙ zero_at 16 k in omega (arith, zero_there);
  chroma_mode = omega (arith, mode);
}

inter_not_16x16 : (kind : MbKind) → is_intra kind ≡ false → is_i_16x16 kind ≡ false
inter_not_16x16 (Intra n) e = absurd cc
inter_not_16x16 Skip e = refl
inter_not_16x16 (P n) e = refl
inter_not_16x16 (B n) e = refl

inter_sized : (field : Bool) (kind : MbKind) (x m : Mb) → before_inter m ≡ of_kind field kind → HasSizes x → m.subs ≡ x.subs → m.refs ≡ x.refs → m.mvd ≡ x.mvd → HasSizes (without_levels m)
inter_sized field kind x m e has subs refs mvd =
    let none = kind_sized field kind in
    record {
      modes = ap (λ (n : Mb). length n.modes) e;
      subs = ap length subs ∙ has.subs;
      refs = subst (λ (l : List (List ℕ)). (length l ≡ 2) × AllByRecursion (λ list. length list ≡ 4) l) (sym refs) has.refs;
      mvd = subst (λ (l : List (List (List ℤ))). (length l ≡ 2) × AllByRecursion (λ list. (length list ≡ 16) × AllByRecursion (λ difference. length difference ≡ 2) list) l) (sym mvd) has.mvd;
      dc = none.dc;
      luma = none.luma;
      chroma_dc = none.chroma_dc;
      chroma_ac = none.chroma_ac;
      pcm = ap (λ (n : Mb). length n.pcm) e ∙ none.pcm;
    }

inter_elements_valid : (shape : SliceShape) (done : List Mb) (at : ℕ) (field : Bool) (kind : MbKind) → IsResidualLaw shape done at → Reads shape field kind → is_intra kind ≡ false → Keeps (IsSpelled shape) (inter_elements shape done at (of_kind field kind))
unfolding inter_elements
inter_elements_valid shape done at field kind law r inter bins value h =
    let m0 : Mb = of_kind field kind in
    let whole : before_inter value ≡ m0 = inter_elements_kept shape done at m0 m0 (kind_sized field kind) refl bins value h in
    let a = splits (inter_prediction shape done at m0 >>= pattern shape done at >>= last_transform_size shape done at) (coding shape done at) bins value h in
    let b = splits (inter_prediction shape done at m0 >>= pattern shape done at) (last_transform_size shape done at) a.1 a.0 a.4 in
    let c = splits (inter_prediction shape done at m0) (pattern shape done at) b.1 b.0 b.4 in
    let s1 = inter_settled shape done at m0 (kind_sized field kind) refl c.1 c.0 c.4 in
    let s2 : before_last_t8 b.0 ≡ b.0 = inter_pattern_settled shape done at c.0 s1 c.2 b.0 c.5 in
    let s3 : before_qp_delta a.0 ≡ a.0 = last_size_settled shape done at b.0 s2 b.2 a.0 b.5 in
    let k1 : before_pattern b.0 ≡ c.0 = pattern_kept shape done at c.0 c.0 s1.0 c.2 b.0 c.5 in
    let k2 : before_last_t8 a.0 ≡ b.0 = last_size_kept shape done at b.0 b.0 s2 b.2 a.0 b.5 in
    let k3 : before_qp_delta value ≡ a.0 = coding_kept shape done at a.0 a.0 s3 a.2 value a.5 in
    let v2 : before_last_t8 value ≡ b.0 = ap before_last_t8 k3 ∙ k2 in
    let v1 : record (before_pattern value) { t8 = false } ≡ c.0 = ap before_pattern v2 ∙ k1 in
    let has : HasSizes c.0 = prediction_sizes shape done at m0 (kind_sized field kind) c.0 c.1 c.4 in
    let first : IsInterPredicted shape c.0 = prediction_valid shape done at m0 (kind_sized field kind) c.0 c.1 c.4 in
    let predicted : IsInterPredicted shape value =
    same_inter shape c.0 value (ap (λ (n : Mb). n.kind) v1) (ap (λ (n : Mb). n.field) v1) (ap (λ (n : Mb). n.subs) v1) (ap (λ (n : Mb). n.refs) v1) (ap (λ (n : Mb). n.mvd) v1) first in
    let patterned : IsPatterned value =
    let of_b : IsPatterned b.0 = pattern_valid shape done at c.0 s1.0 c.2 b.0 c.5 in
    let of_last : IsPatterned (before_last_t8 value) = subst IsPatterned (sym v2) of_b in
    of_last in
    let size_a : IsSizedLast shape a.0 = last_size_valid shape done at b.0 (ap (λ (m : Mb). m.t8) (sym s2)) b.2 a.0 b.5 in
    let size : IsSizedLast shape value = let there : IsSizedLast shape (before_qp_delta value) = subst (IsSizedLast shape) (sym k3) size_a in there in
    let whole_before : before_inter a.0 ≡ m0 = ap before_inter (sym k3) ∙ whole in
    let before : record (before_pattern a.0) { t8 = false } ≡ c.0 = ap before_pattern k2 ∙ k1 in
    let sizes : HasSizes (without_levels a.0) = inter_sized field kind c.0 a.0 whole_before has (ap (λ (n : Mb). n.subs) before) (ap (λ (n : Mb). n.refs) before) (ap (λ (n : Mb). n.mvd) before) in
    let apart : a.0.t8 ≡ true → is_i_16x16 a.0.kind ≡ false = λ set. ap is_i_16x16 (ap (λ (n : Mb). n.kind) whole_before) ∙ inter_not_16x16 kind inter in
    let of : IsOfKind shape field kind value = of_kind_of shape field kind value (before_inter value) r whole refl refl refl refl in
    assemble shape field kind value of (t8_last_sent shape value size) (inter_modes value (ap (λ (n : Mb). n.modes) whole) (ap (λ (n : Mb). n.chroma_mode) whole)) predicted patterned
    (coding_valid shape done at a.0 law s3 sizes apart a.2 value a.5)

-- ---- by the type

elements_valid : (shape : SliceShape) (done : List Mb) (at : ℕ) (field : Bool) (kind : MbKind) → IsResidualLaw shape done at → Reads shape field kind → Keeps (IsSpelled shape) (elements shape done at (of_kind field kind))
elements_valid shape done at field kind law r = by (is_intra kind) refl
  where
    by : (b : Bool) → is_intra kind ≡ b → Keeps (IsSpelled shape) (elements shape done at (of_kind field kind))
    by true e = rw (elements_intra shape done at (of_kind field kind) r.other e) (intra_valid shape done at field kind law r e)
    by false e = rw (elements_inter shape done at (of_kind field kind) r.other e) (inter_elements_valid shape done at field kind law r e)

-- a skipped macroblock
skipped_valid : (shape : SliceShape) (field : Bool) → is_kind_in shape.kind Skip ≡ true → (field ≡ true → shape.mbaff ≡ true) → IsSpelled shape (of_kind field Skip)
skipped_valid shape field allowed mbaff =
    let m : Mb = of_kind field Skip in
    assemble shape field Skip m (record { is = refl; pair = refl; plain = refl; none = refl; allowed = allowed; other = refl; mbaff = mbaff }) (λ set. absurd cc) (inter_modes m refl refl) (no_inter shape field Skip) (omega arith, omega arith)
    (uncoded m refl refl (sized field Skip m refl refl))

skips : (shape : SliceShape) (done : List Mb) (at : ℕ) (field : Bool) → Keeps (λ b. b ≡ true → is_kind_in shape.kind Skip ≡ true) (skip_flag shape done at field)
unfolding skip_flag
skips shape done at field = by shape.kind _
  where
    by : (slice : SliceKind) (inc : ℕ) → Keeps (λ b. b ≡ true → is_kind_in slice Skip ≡ true) (skip_in slice inc)
    by slices.I inc = keeps_value (λ (b : Bool). b ≡ true → is_kind_in slices.I Skip ≡ true) false (λ e. absurd cc)
    by slices.P inc = λ bins value h e. refl
    by slices.B inc = λ bins value h e. refl

-- the parts of a macroblock that is spelled: it is skipped, or of a type
record IsSkipped (shape : SliceShape) (field : Bool) (mb : Mb) : Type 0 where
  allowed : is_kind_in shape.kind Skip ≡ true
  is : mb ≡ of_kind field Skip

record IsLayered (shape : SliceShape) (done : List Mb) (at : ℕ) (field : Bool) (mb : Mb) : Type 0 where
  kind : MbKind
  bins : List (Slot × Bool)
  type : IsType shape kind
  spelled : Spells (elements shape done at (of_kind field kind)) bins mb

layered : (shape : SliceShape) (done : List Mb) (at : ℕ) (field : Bool) (bins : List (Slot × Bool)) (mb : Mb) → Spells (macroblock shape done at field) bins mb → IsSkipped shape field mb ⊎ IsLayered shape done at field mb
unfolding macroblock layer
layered shape done at field bins mb h =
    let parts = splits (skip_flag shape done at field) _ bins mb h in
    by parts.0 parts.2 (skips shape done at field parts.1 parts.0 parts.4) parts.5
  where
    by : (b : Bool) (bins : List (Slot × Bool)) → (b ≡ true → is_kind_in shape.kind Skip ≡ true) → Spells (cond b (Value (of_kind field Skip)) (layer shape done at field)) bins mb → IsSkipped shape field mb ⊎ IsLayered shape done at field mb
    by true bins allowed h = inl (record { allowed = allowed refl; is = sym h.1 })
    by false bins allowed h =
        let parts = splits (mb_type shape done at field) (λ kind. elements shape done at (of_kind field kind)) bins mb h in
        inr (record { kind = parts.0; bins = parts.2; type = type_range shape done at field parts.1 parts.0 parts.4; spelled = parts.5 })

pub macroblock_valid : (shape : SliceShape) (done : List Mb) (at : ℕ) (field : Bool) (bins : List (Slot × Bool)) (mb : Mb) → IsResidualLaw shape done at → Spells (macroblock shape done at field) bins mb → is_i_pcm mb.kind ≡ false → (field ≡ true → shape.mbaff ≡ true)
    → IsSpelled shape mb
macroblock_valid shape done at field bins mb law h other mbaff =
    elim (layered shape done at field bins mb h) [
      | inl s ↦ subst (IsSpelled shape) (sym s.is) (skipped_valid shape field s.allowed mbaff)
      | inr l ↦
          let same : is_i_pcm mb.kind ≡ is_i_pcm l.kind = ap is_i_pcm (elements_typed shape done at field l.kind l.bins mb l.spelled).0 in
          elements_valid shape done at field l.kind law (record { type = l.type; other = sym same ∙ other; mbaff = mbaff }) l.bins mb l.spelled
    ]

-- ---- its type and its pair flag

pub macroblock_typed : (shape : SliceShape) (done : List Mb) (at : ℕ) (field : Bool) (bins : List (Slot × Bool)) (mb : Mb) → Spells (macroblock shape done at field) bins mb → (mb.ref0 ≡ false) × (mb.field ≡ field)
macroblock_typed shape done at field bins mb h =
    elim (layered shape done at field bins mb h) [
      | inl s ↦ (ap (λ (m : Mb). m.ref0) s.is, ap (λ (m : Mb). m.field) s.is)
      | inr l ↦ let t = elements_typed shape done at field l.kind l.bins mb l.spelled in (t.2, t.1)
    ]

pub macroblock_pcm : (shape : SliceShape) (done : List Mb) (at : ℕ) (field : Bool) (bins : List (Slot × Bool)) (mb : Mb) → Spells (macroblock shape done at field) bins mb → is_i_pcm mb.kind ≡ true → mb ≡ of_kind field (Intra 25)
macroblock_pcm shape done at field bins mb h pcm =
    elim (layered shape done at field bins mb h) [
      | inl s ↦ absurd (let clash : false ≡ true = sym (ap (λ (m : Mb). is_i_pcm m.kind) s.is) ∙ pcm in cc)
      | inr l ↦
          let is : is_i_pcm l.kind ≡ true = sym (ap is_i_pcm (elements_typed shape done at field l.kind l.bins mb l.spelled).0) ∙ pcm in
          let spelled = rw (elements_pcm shape done at (of_kind field l.kind) is) at l.spelled in
          sym spelled.1 ∙ ap (of_kind field) (named_pcm l.kind is)
    ]

-- ---- I_PCM with its samples

kind_in : (slice : SliceKind) → is_kind_in slice (Intra 25) ≡ true
kind_in slices.I = refl
kind_in slices.P = refl
kind_in slices.B = refl

pub pcm_valid : (shape : SliceShape) (samples : List ℕ) → length samples ≡ 384 → All (λ sample. sample ≤ 255) samples → IsSpelled shape (record (of_kind false (Intra 25)) { pcm = samples })
pcm_valid shape samples count small =
    let bare : Mb = of_kind false (Intra 25) in
    let m : Mb = record bare { pcm = samples } in
    let sizes = sized false (Intra 25) bare refl refl in
    let residual : IsResidual m = record { luma = zero_luma m; chroma = zero_chroma m; some = λ q h set. absurd cc } in (
      record {
        sizes = record { modes = sizes.modes; subs = sizes.subs; refs = sizes.refs; mvd = sizes.mvd; dc = sizes.dc; luma = sizes.luma; chroma_dc = sizes.chroma_dc; chroma_ac = sizes.chroma_ac; pcm = count };
        typed = record { kind = kind_in shape.kind; ref0 = λ set. absurd cc; field = λ set. absurd cc; t8 = λ set. absurd cc };
        intra = record { modes = λ k h. rw (zero_at 16 k) (omega arith); chroma_mode = omega arith };
        inter = same_inter shape bare m refl refl refl refl refl (no_inter shape false (Intra 25));
        coded = record {
          pattern = record { luma = omega arith; chroma = omega arith };
          qp_delta = record { magnitude = omega arith; greatest = omega (arith, ints) };
          luma = residual.luma;
          chroma = residual.chroma;
          pcm = small;
        };
      },
      residual,
    )
