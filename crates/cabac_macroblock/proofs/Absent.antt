-- What a macroblock doesn't send is 0.
use Rattle.std.proofs.Common.{◌≡◌, ℕ, zero, suc, ◌-◌, ◌*◌, ◌/◌, ◌<◌, ◌≤◌, ℤ, pos, Bool, true, false, cond, List, [], length, replicate, get_or, refl, sym, ap, subst, ◌∙◌, arith}
use Rattle.std.specs.Prelude.{All, not, ◌&&◌, ◌||◌, ◌==◌, nat_lt, slice_index, slice_index_or}
use Rattle.std.specs.Int.{bit_at}
use Rattle.std.specs.List.{AllByRecursion}
use Rattle.std.proofs.lemmas.List.{get_or_default}
use Rattle.std.proofs.lemmas.List.Elements.{All-from_recursion}
use Rattle.std.proofs.lemmas.Nat.Bits.{bit_at-zero}
use Rattle.std.proofs.lemmas.Bool.Decides.{nat_tests}
use Rattle.h264_types.specs.Kind.{is_intra, is_i_nxn, is_i_16x16, is_i_pcm, is_skip}
use Rattle.h264_types.specs.Macroblock.{pattern_of}
use Rattle.h264_types.specs.Sizes.{HasSizes}
use Rattle.h264_types.specs.Valid.{IsMacroblock, IsTyped, IsQpDelta, IsIntraPredicted, IsInterPredicted, IsListSent, IsLumaCoded, IsChromaCoded, IsWithin, list_is_used, ref_at, ref_bound, mvd_of, mvd_bound, sub_bound, sample_bound, dc_bound, luma_bound, chroma_dc_bound, chroma_ac_bound, mode_bound, chroma_mode_bound, pattern_bound}
use Rattle.h264_types.specs.Sent.{sends_t8, sends_t8_first, sends_t8_last, takes_t8, mode_count, sends_qp_delta}
use Rattle.h264_types.specs.declared.macroblock.Mb.{Mb}
use Rattle.h264_types.specs.declared.macroblock.MbKind.{MbKind}
use Rattle.h264_types.specs.declared.macroblock.MbKind.TheVariants.{Skip, Intra, P, B}
use Rattle.h264_types.specs.declared.macroblock.Pattern.{Pattern}
use Rattle.h264_types.specs.declared.slice_shape.SliceShape.{SliceShape}
use Rattle.h264_types.proofs.Zeros.{all_same, zero_numbers, zero_of, zero_levels, zero_lists}
use Rattle.h264_types.proofs.KindLaws.{unset, named_pcm, intra_takes_none, other_pattern}
use Rattle.cabac_mb_residual.specs.Levels.{without_levels}
use Rattle.cabac_macroblock.specs.MacroblockLayer.{without_samples}
use Rattle.cabac_macroblock.specs.MbType.{of_kind}
use Rattle.cabac_macroblock.specs.Stages.{before_t8, before_inter, before_pattern, before_qp_delta}

-- ---- inter prediction: an intra and a skipped macroblock send none

abbrev pub is_predicted : MbKind → Bool
is_predicted (Intra n) = false
is_predicted Skip = false
is_predicted (P n) = true
is_predicted (B n) = true

pub intra_unpredicted : (kind : MbKind) → is_intra kind ≡ true → is_predicted kind ≡ false
intra_unpredicted (Intra n) e = refl
intra_unpredicted Skip e = absurd cc
intra_unpredicted (P n) e = absurd cc
intra_unpredicted (B n) e = absurd cc

pub unused : (mb : Mb) (kind : MbKind) (x q : ℕ) → is_predicted kind ≡ false → list_is_used (record mb { kind = kind }) x q ≡ false
unused mb (Intra n) x q e = refl
unused mb Skip x q e = refl
unused mb (P n) x q e = absurd cc
unused mb (B n) x q e = absurd cc

no_sub_types : (kind : MbKind) → is_predicted kind ≡ false → sub_bound kind ≡ 0
no_sub_types (Intra n) e = refl
no_sub_types Skip e = refl
no_sub_types (P n) e = absurd cc
no_sub_types (B n) e = absurd cc

of_list : (shape : SliceShape) (mb : Mb) → IsInterPredicted shape mb → (x : ℕ) → x < 2 → IsListSent shape mb x
of_list shape mb is zero h = is.l0
of_list shape mb is (suc zero) h = is.l1
of_list shape mb is (suc (suc x)) h = absurd (omega (arith, h))

pub no_subs : (shape : SliceShape) (mb : Mb) → is_predicted mb.kind ≡ false → HasSizes mb → IsInterPredicted shape mb → mb.subs ≡ replicate 4 0
no_subs shape mb none sizes is = zero_numbers 4 mb.subs sizes.subs (λ k below. omega (arith, is.subs k 0 (omega (arith, below, sizes.subs)), no_sub_types mb.kind none))

pub no_refs : (shape : SliceShape) (mb : Mb) → is_predicted mb.kind ≡ false → HasSizes mb → IsInterPredicted shape mb → mb.refs ≡ replicate 2 (replicate 4 0)
no_refs shape mb unpredicted sizes is =
    all_same (replicate 4 0) 2 mb.refs sizes.refs.0 (λ x d below.
    zero_numbers 4 (get_or mb.refs x d) (All-from_recursion (λ list. length list ≡ 4) mb.refs sizes.refs.1 x d below) (λ q inside.
    let none : ref_bound shape mb x q ≡ 0 = ap (λ b. cond b (slice_index shape.refs x * cond (shape.mbaff && mb.field) 2 1 - 1) 0) (unused mb mb.kind x q unpredicted) in
    let sent : ref_at mb x q ≤ ref_bound shape mb x q = (of_list shape mb is x (omega (arith, below, sizes.refs.0))).refs q inside in
    let zero : ref_at mb x q ≤ 0 = omega (arith, none, sent) in
    subst (λ (l : List ℕ). slice_index l q ≤ 0) (get_or_default mb.refs x [] d below) zero))

pub no_mvds : (shape : SliceShape) (mb : Mb) → is_predicted mb.kind ≡ false → HasSizes mb → IsInterPredicted shape mb → mb.mvd ≡ replicate 2 (replicate 16 (replicate 2 (pos 0)))
no_mvds shape mb unpredicted sizes is =
    all_same (replicate 16 (replicate 2 (pos 0))) 2 mb.mvd sizes.mvd.0 (λ x d below.
    let size = All-from_recursion (λ (list : List (List ℤ)). (length list ≡ 16) × AllByRecursion (λ difference. length difference ≡ 2) list) mb.mvd sizes.mvd.1 x d below in
    all_same (replicate 2 (pos 0)) 16 (get_or mb.mvd x d) size.0 (λ n e inside.
    let none : mvd_bound mb x n ≡ 0 = ap (λ b. cond b 32767 0) (unused mb mb.kind x (n / 4) unpredicted) in
    let sent : IsWithin (mvd_bound mb x n) (mvd_of mb x n) = (of_list shape mb is x (omega (arith, below, sizes.mvd.0))).mvd n (omega (arith, inside, size.0)) in
    let there : mvd_of mb x n ≡ get_or (get_or mb.mvd x d) n e = ap (λ (l : List (List ℤ)). get_or l n []) (get_or_default mb.mvd x [] d below) ∙ get_or_default (get_or mb.mvd x d) n [] e inside in
    zero_levels 2 (mvd_bound mb x n) (get_or (get_or mb.mvd x d) n e) none (All-from_recursion (λ difference. length difference ≡ 2) (get_or mb.mvd x d) size.1 n e inside)
    (subst (IsWithin (mvd_bound mb x n)) there sent)))

-- ---- levels

abbrev pub none_coded : Pattern
none_coded = record { luma = 0; chroma = 0 }

pub no_levels : (mb : Mb) → HasSizes mb → is_i_16x16 mb.kind ≡ false → mb.pattern ≡ none_coded → IsLumaCoded mb → IsChromaCoded mb → mb ≡ without_levels mb
no_levels mb sizes other none luma chroma =
    let pattern : pattern_of mb ≡ none_coded = other_pattern mb mb.kind other ∙ none in
    let dc_none : dc_bound mb.kind ≡ 0 = ap (λ b. cond b 65535 0) other in
    let quarter_none : (q : ℕ) → luma_bound mb q ≡ 0 = λ q. ap (λ (p : Pattern). cond (bit_at p.luma q == 1) 65535 0) pattern ∙ ap (λ (b : ℕ). cond (b == 1) 65535 0) (bit_at-zero q) in
    let chroma_none : chroma_dc_bound mb ≡ 0 = ap (λ (p : Pattern). cond (nat_lt 0 p.chroma) 65535 0) pattern in
    let ac_none : chroma_ac_bound mb ≡ 0 = ap (λ (p : Pattern). cond (p.chroma == 2) 65535 0) pattern in
    let dc : mb.dc ≡ replicate 16 (pos 0) = zero_levels 16 (dc_bound mb.kind) mb.dc dc_none sizes.dc luma.dc in
    let quarters : mb.luma ≡ replicate 4 (replicate 64 (pos 0)) =
    all_same (replicate 64 (pos 0)) 4 mb.luma sizes.luma.0 (λ q d below.
    zero_levels 64 (luma_bound mb q) (get_or mb.luma q d) (quarter_none q) (All-from_recursion (λ quarter. length quarter ≡ 64) mb.luma sizes.luma.1 q d below)
    (subst (IsWithin (luma_bound mb q)) (get_or_default mb.luma q [] d below) (luma.quarters q (omega (arith, below, sizes.luma.0))).levels)) in
    let chroma_dc : mb.chroma_dc ≡ replicate 2 (replicate 4 (pos 0)) = zero_lists 2 4 (chroma_dc_bound mb) mb.chroma_dc chroma_none sizes.chroma_dc.0 sizes.chroma_dc.1 chroma.dc in
    let chroma_ac : mb.chroma_ac ≡ replicate 2 (replicate 4 (replicate 15 (pos 0))) =
    all_same (replicate 4 (replicate 15 (pos 0))) 2 mb.chroma_ac sizes.chroma_ac.0 (λ x d below.
    let size = All-from_recursion (λ (blocks : List (List ℤ)). (length blocks ≡ 4) × AllByRecursion (λ block. length block ≡ 15) blocks) mb.chroma_ac sizes.chroma_ac.1 x d below in
    zero_lists 4 15 (chroma_ac_bound mb) (get_or mb.chroma_ac x d) ac_none size.0 size.1
    (subst (All (IsWithin (chroma_ac_bound mb))) (get_or_default mb.chroma_ac x [] d below) (component x (omega (arith, below, sizes.chroma_ac.0))))) in
    let a : Mb = record mb { dc = replicate 16 (pos 0) } in
    let b : Mb = record a { luma = replicate 4 (replicate 64 (pos 0)) } in
    let c : Mb = record b { chroma_dc = replicate 2 (replicate 4 (pos 0)) } in
    ap (λ l. record mb { dc = l }) dc
    ∙ ap (λ l. record a { luma = l }) quarters
    ∙ ap (λ l. record b { chroma_dc = l }) chroma_dc
    ∙ ap (λ l. record c { chroma_ac = l }) chroma_ac
  where
    component : (x : ℕ) → x < 2 → All (IsWithin (chroma_ac_bound mb)) (slice_index_or mb.chroma_ac x [])
    component zero h = chroma.cb_ac
    component (suc zero) h = chroma.cr_ac
    component (suc (suc x)) h = absurd (omega (arith, h))

-- ---- where no residual is sent

pub neither : (wide a b : Bool) → (wide || not (a && b)) ≡ false → (wide ≡ false) × (a ≡ true) × (b ≡ true)
neither true a b e = absurd cc
neither false true true e = (refl, refl, refl)
neither false true false e = absurd cc
neither false false b e = absurd cc

pub none_sent : (p : Pattern) → (p.luma == 0) ≡ true → (p.chroma == 0) ≡ true → p ≡ none_coded
none_sent p luma chroma =
    let a : p.luma ≡ 0 = grind (arith, nat_tests) in
    let b : p.chroma ≡ 0 = grind (arith, nat_tests) in
    ap (λ n. record p { luma = n }) a ∙ ap (λ n. record none_coded { chroma = n }) b

pub no_coding : (mb : Mb) → HasSizes mb → sends_qp_delta mb.kind mb.pattern ≡ false → IsQpDelta mb → IsLumaCoded mb → IsChromaCoded mb → mb ≡ before_qp_delta mb
no_coding mb sizes unsent delta luma chroma =
    let parts = neither (is_i_16x16 mb.kind) (mb.pattern.luma == 0) (mb.pattern.chroma == 0) unsent in
    let small = rw unsent at delta.magnitude in
    let no_delta : mb.qp_delta ≡ pos 0 = zero_of mb.qp_delta (omega (arith, small)) in
    no_levels mb sizes parts.0 (none_sent mb.pattern parts.1 parts.2) luma chroma ∙ ap (λ d. record (without_levels mb) { qp_delta = d }) no_delta

-- ---- what the type says

pub t8_first : (shape : SliceShape) (mb : Mb) → is_intra mb.kind ≡ true → IsTyped shape mb → mb.t8 ≡ true → sends_t8_first shape mb.kind ≡ true
t8_first shape mb intra is set =
    by (sends_t8_first shape mb.kind) shape.t8_mode (not (mb.pattern.luma == 0)) (takes_t8 shape.direct8 mb.kind mb.subs) (intra_takes_none shape.direct8 mb.kind mb.subs (ap not intra)) (is.t8 set)
  where
    by : (first mode some takes : Bool) → takes ≡ false → (first || (mode && (some && takes))) ≡ true → first ≡ true
    by true mode some takes e h = refl
    by false true true takes e h = sym e ∙ h
    by false true false takes e h = h
    by false false some takes e h = h

-- a macroblock without inter prediction has its type alone before all other elements
unpredicted_alone : (shape : SliceShape) (mb : Mb) → is_predicted mb.kind ≡ false → mb.ref0 ≡ false → IsMacroblock shape mb → of_kind mb.field mb.kind ≡ before_t8 (without_samples mb)
unpredicted_alone shape mb none ref0 is =
    let a : Mb = of_kind mb.field mb.kind in
    let b : Mb = record a { ref0 = mb.ref0 } in
    let c : Mb = record b { subs = mb.subs; refs = mb.refs } in
    ap (λ r. record a { ref0 = r }) (sym ref0)
    ∙ ap (λ l. record b { subs = l }) (sym (no_subs shape mb none is.sizes is.inter))
    ∙ ap (λ l. record b { subs = mb.subs; refs = l }) (sym (no_refs shape mb none is.sizes is.inter))
    ∙ ap (λ l. record c { mvd = l }) (sym (no_mvds shape mb none is.sizes is.inter))

-- an intra macroblock before its first element has its type alone
pub intra_alone : (shape : SliceShape) (mb : Mb) → is_intra mb.kind ≡ true → mb.ref0 ≡ false → IsMacroblock shape mb → of_kind mb.field mb.kind ≡ before_t8 (without_samples mb)
intra_alone shape mb intra ref0 is = unpredicted_alone shape mb (intra_unpredicted mb.kind intra) ref0 is

pub no_samples : (shape : SliceShape) (mb : Mb) → is_i_pcm mb.kind ≡ false → IsMacroblock shape mb → mb ≡ without_samples mb
no_samples shape mb other is =
    let none : sample_bound mb.kind ≡ 0 = ap (λ b. cond b 255 0) other in
    ap (λ l. record mb { pcm = l }) (all_same 0 384 mb.pcm is.sizes.pcm (λ k d below. omega (arith, is.coded.pcm k d below, none)))

-- ---- I_PCM and skipped macroblocks: nothing is sent behind the type

abbrev pub is_bare : MbKind → Bool
is_bare (Intra n) = n == 25
is_bare Skip = true
is_bare (P n) = false
is_bare (B n) = false

-- what such a type says
record IsBare (shape : SliceShape) (mb : Mb) : Type 0 where
  wide : is_i_16x16 mb.kind ≡ false
  first : sends_t8_first shape mb.kind ≡ (shape.t8_mode && false)
  takes : takes_t8 shape.direct8 mb.kind mb.subs ≡ false
  modes : (k : ℕ) → mode_bound mb k ≡ 0
  chroma_mode : chroma_mode_bound mb.kind ≡ 0
  pattern : (n : ℕ) → pattern_bound mb.kind n ≡ 0

pcm_bare : (shape : SliceShape) (mb : Mb) → mb.kind ≡ Intra 25 → IsBare shape mb
pcm_bare shape mb kind = record {
  wide = ap is_i_16x16 kind;
  first = ap (λ k. shape.t8_mode && is_i_nxn k) kind;
  takes = ap (λ k. takes_t8 shape.direct8 k mb.subs) kind;
  modes = λ k. ap (λ (kd : MbKind). cond (is_i_nxn kd && nat_lt k (mode_count mb.t8)) 8 0) kind;
  chroma_mode = ap chroma_mode_bound kind;
  pattern = λ n. ap (λ (kd : MbKind). pattern_bound kd n) kind;
}

skip_bare : (shape : SliceShape) (mb : Mb) → mb.kind ≡ Skip → IsBare shape mb
skip_bare shape mb kind = record {
  wide = ap is_i_16x16 kind;
  first = ap (λ k. shape.t8_mode && is_i_nxn k) kind;
  takes = ap (λ k. takes_t8 shape.direct8 k mb.subs) kind;
  modes = λ k. ap (λ (kd : MbKind). cond (is_i_nxn kd && nat_lt k (mode_count mb.t8)) 8 0) kind;
  chroma_mode = ap chroma_mode_bound kind;
  pattern = λ n. ap (λ (kd : MbKind). pattern_bound kd n) kind;
}

bare_t8 : (shape : SliceShape) (mb : Mb) → IsBare shape mb → IsTyped shape mb → mb.t8 ≡ false
bare_t8 shape mb bare is = unset mb.t8 (sends_t8 shape mb) is.t8 (never (sends_t8_first shape mb.kind) shape.t8_mode (not (mb.pattern.luma == 0)) (takes_t8 shape.direct8 mb.kind mb.subs) bare.first bare.takes)
  where
    never : (first mode some takes : Bool) → first ≡ (mode && false) → takes ≡ false → (first || (mode && (some && takes))) ≡ false
    never true true some takes e h = absurd cc
    never true false some takes e h = absurd cc
    never false true true takes e h = h
    never false true false takes e h = refl
    never false false some takes e h = refl

bare_alone : (shape : SliceShape) (mb : Mb) → IsBare shape mb → IsMacroblock shape mb → before_t8 (without_samples mb) ≡ without_samples mb
bare_alone shape mb bare is =
    let modes : mb.modes ≡ replicate 16 0 = zero_numbers 16 mb.modes is.sizes.modes (λ k below. omega (arith, is.intra.modes k below, bare.modes k)) in
    let chroma_mode : mb.chroma_mode ≡ 0 = omega (arith, is.intra.chroma_mode, bare.chroma_mode) in
    let luma : mb.pattern.luma ≡ 0 = omega (arith, is.coded.pattern.luma, bare.pattern 15) in
    let chroma : mb.pattern.chroma ≡ 0 = omega (arith, is.coded.pattern.chroma, bare.pattern 2) in
    let pattern : mb.pattern ≡ none_coded = ap (λ n. record mb.pattern { luma = n }) luma ∙ ap (λ n. record none_coded { chroma = n }) chroma in
    let unsent : sends_qp_delta mb.kind mb.pattern ≡ false = ap (λ b. b || not (mb.pattern.luma == 0 && mb.pattern.chroma == 0)) bare.wide ∙ ap (λ (p : Pattern). not (p.luma == 0 && p.chroma == 0)) pattern in
    let a : Mb = record (without_samples mb) { t8 = false } in
    let b : Mb = record a { modes = replicate 16 0; chroma_mode = 0 } in
    sym (ap (λ (m : Mb). record m { pcm = replicate 384 0 }) (no_coding mb is.sizes unsent is.coded.qp_delta is.coded.luma is.coded.chroma)
    ∙ ap (λ x. before_qp_delta (record (without_samples mb) { t8 = x })) (bare_t8 shape mb bare is.typed)
    ∙ ap (λ x. before_qp_delta (record a { modes = x })) modes
    ∙ ap (λ x. before_qp_delta (record a { modes = replicate 16 0; chroma_mode = x })) chroma_mode
    ∙ ap (λ x. before_qp_delta (record b { pattern = x })) pattern)

named_skip : (kind : MbKind) → is_skip kind ≡ true → kind ≡ Skip
named_skip Skip e = refl
named_skip (Intra n) e = absurd cc
named_skip (P n) e = absurd cc
named_skip (B n) e = absurd cc

pcm_intra : (kind : MbKind) → is_i_pcm kind ≡ true → is_intra kind ≡ true
pcm_intra (Intra n) e = refl
pcm_intra Skip e = absurd cc
pcm_intra (P n) e = absurd cc
pcm_intra (B n) e = absurd cc

pub pcm_alone : (shape : SliceShape) (mb : Mb) → is_i_pcm mb.kind ≡ true → mb.ref0 ≡ false → IsMacroblock shape mb → of_kind mb.field mb.kind ≡ without_samples mb
pcm_alone shape mb pcm ref0 is = intra_alone shape mb (pcm_intra mb.kind pcm) ref0 is ∙ bare_alone shape mb (pcm_bare shape mb (named_pcm mb.kind pcm)) is

pub skipped_alone : (shape : SliceShape) (mb : Mb) → is_skip mb.kind ≡ true → mb.ref0 ≡ false → IsMacroblock shape mb → without_samples mb ≡ of_kind mb.field Skip
skipped_alone shape mb skipped ref0 is =
    let kind : mb.kind ≡ Skip = named_skip mb.kind skipped in
    let none : is_predicted mb.kind ≡ false = ap is_predicted kind in
    sym (bare_alone shape mb (skip_bare shape mb kind) is) ∙ sym (unpredicted_alone shape mb none ref0 is) ∙ ap (of_kind mb.field) kind

-- ---- P and B macroblocks

pub inter_other : (kind : MbKind) → is_intra kind ≡ false → is_i_pcm kind ≡ false
inter_other Skip e = refl
inter_other (Intra n) e = absurd cc
inter_other (P n) e = refl
inter_other (B n) e = refl

inter_t8_first : (shape : SliceShape) (kind : MbKind) → is_intra kind ≡ false → sends_t8_first shape kind ≡ (shape.t8_mode && false)
inter_t8_first shape Skip e = refl
inter_t8_first shape (Intra n) e = absurd cc
inter_t8_first shape (P n) e = refl
inter_t8_first shape (B n) e = refl

-- they send transform_size_8x8_flag behind the pattern
pub t8_last : (shape : SliceShape) (mb : Mb) → is_intra mb.kind ≡ false → IsTyped shape mb → mb.t8 ≡ true → sends_t8_last shape mb.kind mb.subs mb.pattern ≡ true
t8_last shape mb inter is set = by (sends_t8_first shape mb.kind) shape.t8_mode (sends_t8_last shape mb.kind mb.subs mb.pattern) (inter_t8_first shape mb.kind inter) (is.t8 set)
  where
    by : (first mode last : Bool) → first ≡ (mode && false) → (first || last) ≡ true → last ≡ true
    by true true last e h = absurd cc
    by true false last e h = absurd cc
    by false mode last e h = h

inter_unmoded : (kind : MbKind) (b : Bool) → is_intra kind ≡ false → (is_i_nxn kind && b) ≡ false
inter_unmoded Skip b e = refl
inter_unmoded (Intra n) b e = absurd cc
inter_unmoded (P n) b e = refl
inter_unmoded (B n) b e = refl

-- of intra prediction they have nothing
record IsInterAlone (mb : Mb) : Type 0 where
  modes : mb.modes ≡ replicate 16 0
  chroma_mode : mb.chroma_mode ≡ 0

inter_alone : (mb : Mb) → is_intra mb.kind ≡ false → HasSizes mb → IsIntraPredicted mb → IsInterAlone mb
inter_alone mb inter sizes is =
    let none : (k : ℕ) → mode_bound mb k ≡ 0 = λ k. ap (λ (b : Bool). cond b 8 0) (inter_unmoded mb.kind (nat_lt k (mode_count mb.t8)) inter) in
    let chroma_none : chroma_mode_bound mb.kind ≡ 0 = ap (λ (b : Bool). cond (b && not (is_i_pcm mb.kind)) 3 0) inter in
    record {
      modes = zero_numbers 16 mb.modes sizes.modes (λ k below. omega (arith, is.modes k below, none k));
      chroma_mode = omega (arith, is.chroma_mode, chroma_none);
    }

-- before its first element one has its type alone, and behind its prediction that too
pub inter_typed : (shape : SliceShape) (mb : Mb) → is_intra mb.kind ≡ false → mb.ref0 ≡ false → IsMacroblock shape mb → of_kind mb.field mb.kind ≡ before_inter (without_samples mb)
inter_typed shape mb inter ref0 is =
    let alone = inter_alone mb inter is.sizes is.intra in
    let a : Mb = of_kind mb.field mb.kind in
    let b : Mb = record a { ref0 = mb.ref0 } in
    ap (λ r. record a { ref0 = r }) (sym ref0) ∙ ap (λ l. record b { modes = l }) (sym alone.modes) ∙ ap (λ n. record b { modes = mb.modes; chroma_mode = n }) (sym alone.chroma_mode)

pub inter_predicted : (shape : SliceShape) (mb : Mb) → is_intra mb.kind ≡ false → mb.ref0 ≡ false → IsMacroblock shape mb
    → record (of_kind mb.field mb.kind) { subs = mb.subs; refs = mb.refs; mvd = mb.mvd } ≡ record (before_pattern (without_samples mb)) { t8 = false }
inter_predicted shape mb inter ref0 is = ap (λ (m : Mb). record m { subs = mb.subs; refs = mb.refs; mvd = mb.mvd }) (inter_typed shape mb inter ref0 is)
