-- The macroblocks that have a text are the valid ones.
use Rattle.std.proofs.Common.{◌≡◌, ◌⊎◌, inl, inr, ℕ, zero, suc, ◌+◌, ◌-◌, ◌*◌, ◌<◌, ◌≤◌, ℤ, pos, negsuc, Bool, true, false, List, [], length, take, drop, replicate, refl, sym, ap, subst, ◌∙◌, arith}
use Rattle.std.specs.Prelude.{All, IsTrue, if◌then◌else◌, ◌&&◌, ◌||◌, not, ◌==◌, nat_lt, ◌≤ℤ◌, slice_index, slice_index_or, unsigned_abs}
use Rattle.std.specs.List.{AllByRecursion, list_all}
use Rattle.std.specs.Int.{bit_at}
use Rattle.std.proofs.lemmas.List.{get_or_default, get_or-replicate, length-take-le, length-drop, get_or-take, get_or-drop}
use Rattle.std.proofs.lemmas.List.Elements.{All-replicate, All-from_recursion}
use Rattle.std.proofs.lemmas.Nat.Bits.{bit_at-zero}
use Rattle.std.proofs.lemmas.Int.{ints}
use Rattle.std.proofs.lemmas.Bool.{cases_lt}
use Rattle.std.proofs.lemmas.Bool.Decides.{nat_tests}
use Rattle.bit_texts.specs.Texts.{IsWhen}
use Rattle.h264_types.specs.Sent.{mode_count, sends_pattern, sends_qp_delta, sends_t8, takes_t8}
use Rattle.h264_types.specs.Kind.{is_intra, is_i_nxn, is_i_16x16, is_i_pcm, is_skip}
use Rattle.h264_types.specs.Macroblock.{no_elements, quarter_of, pattern_of}
use Rattle.h264_types.specs.Valid.{is_kind_in, is_ref0, mode_bound, chroma_mode_bound, IsWithin, pattern_bound, dc_bound, qp_delta_bound, luma_bound, chroma_dc_bound, chroma_ac_bound, sample_bound, IsQuarterCoded, IsMacroblock}
use Rattle.h264_types.specs.declared.macroblock.Mb.{Mb}
use Rattle.h264_types.specs.declared.macroblock.MbKind.{MbKind}
use Rattle.h264_types.specs.declared.macroblock.MbKind.TheVariants as kinds
use Rattle.h264_types.specs.declared.macroblock.MbKind.TheVariants.{Intra, Skip}
use Rattle.h264_types.specs.declared.macroblock.Pattern.{Pattern}
use Rattle.h264_types.specs.declared.slice_shape.SliceShape.{SliceShape}
use Rattle.h264_types.proofs.KindLaws.{unset, named_pcm, mode_count-most}
use Rattle.h264_types.proofs.Lists.{lists_of}
use Rattle.h264_types.proofs.Zeros.{all_same, zero_numbers, zero_of, zero_levels, zero_lists, zeros_within, zero_at}
use Rattle.cavlc_inter.specs.InterPrediction.{IsInter, active_refs, refs_of}
use Rattle.cavlc_inter.proofs.InterValid.{to_inter, from_inter}
use Rattle.h264_types.specs.Sizes.{HasSizes}
use Rattle.cavlc_mb_residual.specs.MacroblockResidual.{ac_of, is_beyond_mb}
use Rattle.cavlc_mb_residual.specs.LumaBlocks as blocks
use Rattle.cavlc_mb_residual.proofs.BeyondLaws.{each_turn}
use Rattle.cavlc_mb_residual.proofs.ResidualUnique.{same_two}
use Rattle.cavlc_mb_residual.proofs.ResidualValid.{HasTransform, turns_of, no_luma, to_residual, from_residual, residual_not_beyond, residual_within}
use Rattle.cavlc_macroblock.specs.Macroblock.{IsIPcm, skipped}
use Rattle.cavlc_macroblock.specs.MacroblockLayer.{AreModes, no_pattern, IsPattern, IsQpDelta, IsLayer}
use Rattle.cavlc_macroblock.specs.Reading.{IsPredicted, IsSent}
use Rattle.cavlc_macroblock.proofs.IntraInter.{SendsNoInter, intra_sends, skipped_sends, HasNoInter, no_inter, inter_none, no_refs, no_mvds, no_indices}

-- ---- what a macroblock's type says

neither : (mode some : Bool) → ((mode && false) || (mode && (some && false))) ≡ false
neither true true = refl
neither true false = refl
neither false some = refl

-- I_16x16 has no 8x8 transform
not_16x16 : (mode some direct8 : Bool) (kind : MbKind) (subs : List ℕ) → ((mode && is_i_nxn kind) || (mode && (some && takes_t8 direct8 kind subs))) ≡ true → is_i_16x16 kind ≡ false
not_16x16 mode some direct8 (Intra zero) subs e = refl
not_16x16 mode some direct8 (Intra (suc n)) subs e = absurd (let other : is_i_nxn (Intra (suc n)) ≡ false = grind (arith, nat_tests) in let bad : true ≡ false = sym e ∙ ap (λ b. (mode && b) || (mode && (some && false))) other ∙ neither mode some in cc)
not_16x16 mode some direct8 Skip subs e = refl
not_16x16 mode some direct8 (kinds.P n) subs e = refl
not_16x16 mode some direct8 (kinds.B n) subs e = refl

pub has_transform : (shape : SliceShape) (mb : Mb) → (IsTrue mb.t8 → IsTrue (sends_t8 shape mb)) → HasTransform mb
has_transform shape mb h set = not_16x16 shape.t8_mode (not (mb.pattern.luma == 0)) shape.direct8 mb.kind mb.subs (h set)

ref0_kind : (mb : Mb) (kind : MbKind) → IsTrue (is_ref0 (record mb { kind = kind })) → kind ≡ kinds.P 3
ref0_kind mb (kinds.P n) h = ap kinds.P (numbered n (list_all (λ index. index == 0) (slice_index_or mb.refs 0 [])) h)
  where
    numbered : (n : ℕ) (b : Bool) → ((n == 3) && b) ≡ true → n ≡ 3
    numbered n b h = grind (arith, nat_tests)
ref0_kind mb (kinds.B n) h = absurd cc
ref0_kind mb (Intra n) h = absurd cc
ref0_kind mb Skip h = absurd cc

-- ---- elements, from their bounds and back

same_pattern : (p : Pattern) → p.luma ≤ 0 → p.chroma ≤ 0 → p ≡ no_pattern
same_pattern p luma chroma =
    let e1 : p.luma ≡ 0 = omega arith in
    let e2 : p.chroma ≡ 0 = omega arith in
    ap (λ l. record p { luma = l }) e1 ∙ ap (λ c. record no_pattern { chroma = c }) e2

to_pattern : (sent : Bool) (p : Pattern) → p.luma ≤ (if sent then 15 else 0) → p.chroma ≤ (if sent then 2 else 0) → IsWhen sent no_pattern IsPattern p
to_pattern true p luma chroma = (omega arith, omega arith)
to_pattern false p luma chroma = same_pattern p luma chroma

from_pattern : (sent : Bool) (p : Pattern) → IsWhen sent no_pattern IsPattern p → (p.luma ≤ (if sent then 15 else 0)) × (p.chroma ≤ (if sent then 2 else 0))
from_pattern true p is = (omega (arith, is.0), omega (arith, is.1))
from_pattern false p is = (omega (arith, ap (λ (x : Pattern). x.luma) is), omega (arith, ap (λ (x : Pattern). x.chroma) is))

to_delta : (sent : Bool) (delta : ℤ) → unsigned_abs delta ≤ (if sent then 26 else 0) → delta ≤ℤ pos 25 → IsWhen sent (pos 0) IsQpDelta delta
to_delta true (pos n) h most = (omega (arith, ints), most)
to_delta true (negsuc n) h most = (omega (arith, ints), most)
to_delta false delta h most = zero_of delta h

from_delta : (sent : Bool) (delta : ℤ) → IsWhen sent (pos 0) IsQpDelta delta → (unsigned_abs delta ≤ (if sent then 26 else 0)) × (delta ≤ℤ pos 25)
from_delta true (pos n) is = (omega (arith, ints, is.1), is.1)
from_delta true (negsuc n) is = (omega (arith, ints, is.0), is.1)
from_delta false delta is = rw is (omega arith, omega (arith, ints))

-- so many modes that are in range, and 0 behind them
modes_from : (t8 : Bool) (modes : List ℕ) → length modes ≡ 16 → mode_count t8 ≤ 16 → ((k : ℕ) → k < mode_count t8 → slice_index modes k ≤ 8) → ((k : ℕ) → mode_count t8 ≤ k → k < 16 → slice_index modes k ≤ 0) → AreModes t8 modes
modes_from t8 modes e most front behind =
    let n = mode_count t8 in
    let size : length (take n modes) ≡ n = length-take-le n modes (omega (arith, e)) in
    record {
      sent = turns_of (λ (_ : ℕ) mode. mode ≤ 8) (λ s _. s) (λ mode. mode ≤ 8) (λ s x small. small) n 0 (take n modes) size (λ k d below.
          let lt : k < n = omega (arith, below, size) in omega (arith, front k lt, get_or-take n modes k d lt, get_or_default modes k d 0 (omega (arith, lt, e))));
      others = zero_numbers (16 - n) (drop n modes) (omega (arith, e, length-drop n modes)) (λ k below. omega (arith, behind (n + k) (omega arith) (omega arith), get_or-drop n modes k 0));
    }

pub some_bound : (b : Bool) → (if b then 8 else 0) ≤ 8
some_bound true = omega arith
some_bound false = omega arith

to_modes : (sent t8 : Bool) (modes : List ℕ) → length modes ≡ 16 → ((k : ℕ) → k < 16 → slice_index modes k ≤ (if sent && nat_lt k (mode_count t8) then 8 else 0)) → IsWhen sent (replicate 16 0) (AreModes t8) modes
to_modes true t8 modes e h = modes_from t8 modes e (mode_count-most t8) (λ k lt. omega (arith, h k (omega (arith, lt, mode_count-most t8)), some_bound (nat_lt k (mode_count t8)))) (λ k ge lt. last k ge (h k lt))
  where
    last : (k : ℕ) → mode_count t8 ≤ k → slice_index modes k ≤ (if nat_lt k (mode_count t8) then 8 else 0) → slice_index modes k ≤ 0
    last k ge le = let no : nat_lt k (mode_count t8) ≡ false = grind (arith, nat_tests) in let P : Bool → Type 0 = λ b. slice_index modes k ≤ (if b then 8 else 0) in subst P no le
to_modes false t8 modes e h = zero_numbers 16 modes e h

front_mode : (t8 : Bool) (modes : List ℕ) → length modes ≡ 16 → mode_count t8 ≤ 16 → AreModes t8 modes → (k : ℕ) → k < mode_count t8 → slice_index modes k ≤ 8
front_mode t8 modes e most are k lt =
    let n = mode_count t8 in
    let small = All-from_recursion (λ mode. mode ≤ 8) (take n modes) (each_turn (λ (_ : ℕ) mode. mode ≤ 8) (λ s _. s) (λ mode. mode ≤ 8) (λ s x small. small) n 0 (take n modes) are.sent) k 0 (omega (arith, lt, length-take-le n modes (omega (arith, e)))) in
    omega (arith, small, get_or-take n modes k 0 lt)

pub from_modes : (sent t8 : Bool) (modes : List ℕ) → length modes ≡ 16 → IsWhen sent (replicate 16 0) (AreModes t8) modes → (k : ℕ) → k < 16 → slice_index modes k ≤ (if sent && nat_lt k (mode_count t8) then 8 else 0)
from_modes true t8 modes e are k h = elim (cases_lt k (mode_count t8)) [
  | inl lt ↦ (let yes : nat_lt k (mode_count t8) ≡ true = grind (arith, nat_tests) in
      let P : Bool → Type 0 = λ b. slice_index modes k ≤ (if b then 8 else 0) in subst P (sym yes) (front_mode t8 modes e (mode_count-most t8) are k lt))
  | inr ge ↦ (let n = mode_count t8 in
      let place : n + (k - n) ≡ k = omega arith in
      let none : slice_index modes k ≡ 0 = ap (λ j. slice_index modes j) (sym place) ∙ sym (get_or-drop n modes (k - n) 0) ∙ ap (λ xs. slice_index xs (k - n)) are.others ∙ zero_at (16 - n) (k - n) in
      rw none (omega arith))
]
from_modes false t8 modes e are k h = rw (are, zero_at 16 k) (omega arith)

to_chroma_mode : (kind : MbKind) (mode : ℕ) → is_i_pcm kind ≡ false → mode ≤ chroma_mode_bound kind → IsWhen (is_intra kind) 0 (λ m. m ≤ 3) mode
to_chroma_mode kind mode e h = by (is_intra kind) (is_i_pcm kind) e h
  where
    by : (intra pcm : Bool) → pcm ≡ false → mode ≤ (if intra && not pcm then 3 else 0) → IsWhen intra 0 (λ m. m ≤ 3) mode
    by true true e h = absurd cc
    by true false e h = h
    by false pcm e h = omega arith

from_chroma_mode : (kind : MbKind) (mode : ℕ) → is_i_pcm kind ≡ false → IsWhen (is_intra kind) 0 (λ m. m ≤ 3) mode → mode ≤ chroma_mode_bound kind
from_chroma_mode kind mode e h = by (is_intra kind) (is_i_pcm kind) e h
  where
    by : (intra pcm : Bool) → pcm ≡ false → IsWhen intra 0 (λ m. m ≤ 3) mode → mode ≤ (if intra && not pcm then 3 else 0)
    by true true e h = absurd cc
    by true false e h = h
    by false pcm e h = rw h (omega arith)

no_samples : (mb : Mb) → sample_bound mb.kind ≡ 0 → HasSizes mb → All (λ sample. sample ≤ sample_bound mb.kind) mb.pcm → mb.pcm ≡ replicate 384 0
no_samples mb e sizes h = all_same 0 384 mb.pcm sizes.pcm (λ k d below. omega (arith, h k d below, e))

-- ---- macroblocks of which the residual is sent

valid_layer : (shape : SliceShape) (bound : ℕ) (mb : Mb) → is_i_pcm mb.kind ≡ false → is_beyond_mb bound mb ≡ false → IsMacroblock shape mb → IsLayer shape mb.kind mb.ref0 mb.field bound mb
valid_layer shape bound mb other none is =
    let sizes = is.sizes in
    let pcm : mb.pcm ≡ replicate 384 0 = no_samples mb (ap (λ b. if b then 255 else 0) other) sizes is.coded.pcm in
    record {
      absent = ap (λ x. record mb { pcm = x }) pcm;
      t8 = is.typed.t8;
      modes = to_modes (is_i_nxn mb.kind) mb.t8 mb.modes sizes.modes is.intra.modes;
      chroma_mode = to_chroma_mode mb.kind mb.chroma_mode other is.intra.chroma_mode;
      inter = to_inter shape mb (lists_of mb sizes) is.typed.ref0 is.inter;
      pattern = to_pattern (sends_pattern mb.kind) mb.pattern is.coded.pattern.luma is.coded.pattern.chroma;
      qp_delta = to_delta (sends_qp_delta mb.kind mb.pattern) mb.qp_delta is.coded.qp_delta.magnitude is.coded.qp_delta.greatest;
      residual = residual_within (is_i_16x16 mb.kind) (pattern_of mb) bound mb (to_residual mb sizes (has_transform shape mb is.typed.t8) is.coded.luma is.coded.chroma) none;
    }

zeros_test : (n : ℕ) → list_all (λ index. index == 0) (replicate n 0) ≡ true
zeros_test zero = refl
zeros_test (suc n) = zeros_test n

p_8x8_ref0 : (mb : Mb) (kind : MbKind) → kind ≡ kinds.P 3 → refs_of 0 mb ≡ replicate 4 0 → IsTrue (is_ref0 (record mb { kind = kind }))
p_8x8_ref0 mb kind e zeros = ap (λ k. is_ref0 (record mb { kind = k })) e ∙ ap (λ xs. list_all (λ index. index == 0) xs) zeros

pub ref0_is : (shape : SliceShape) (field : Bool) (bound : ℕ) (mb : Mb) → IsLayer shape mb.kind mb.ref0 field bound mb → (mb.ref0 ≡ true → mb.kind ≡ kinds.P 3) → mb.ref0 ≡ true → IsTrue (is_ref0 mb)
ref0_is shape field bound mb is only set = p_8x8_ref0 mb mb.kind (only set) (no_indices mb.kind (active_refs shape mb) mb (subst (λ b. IsInter mb.kind b (active_refs shape mb) mb) set is.inter))

layer_valid : (shape : SliceShape) (field : Bool) (bound : ℕ) (mb : Mb) → is_kind_in shape.kind mb.kind ≡ true → (mb.ref0 ≡ true → mb.kind ≡ kinds.P 3) → (field ≡ true → shape.mbaff ≡ true) → is_i_pcm mb.kind ≡ false → IsLayer shape mb.kind mb.ref0 field bound mb → IsMacroblock shape mb
layer_valid shape field bound mb kind only pair other is =
    let flag : mb.field ≡ field = ap (λ (m : Mb). m.field) is.absent in
    let pcm : mb.pcm ≡ replicate 384 0 = ap (λ (m : Mb). m.pcm) is.absent in
    let pattern = from_pattern (sends_pattern mb.kind) mb.pattern is.pattern in
    let delta = from_delta (sends_qp_delta mb.kind mb.pattern) mb.qp_delta is.qp_delta in
    let residual = from_residual mb bound (has_transform shape mb is.t8) is.residual in
    record {
      sizes = is.residual.sizes;
      typed = record { kind = kind; ref0 = ref0_is shape field bound mb is only; field = λ set. pair (sym flag ∙ set); t8 = is.t8 };
      intra = record {
        modes = from_modes (is_i_nxn mb.kind) mb.t8 mb.modes is.residual.sizes.modes is.modes;
        chroma_mode = from_chroma_mode mb.kind mb.chroma_mode other is.chroma_mode;
      };
      inter = from_inter shape mb is.inter;
      coded = record {
        pattern = record { luma = pattern.0; chroma = pattern.1 };
        qp_delta = record { magnitude = delta.0; greatest = delta.1 };
        luma = residual.0;
        chroma = residual.1;
        pcm = subst (All (λ sample. sample ≤ sample_bound mb.kind)) (sym pcm) (All-replicate (λ sample. sample ≤ sample_bound mb.kind) 384 0 (omega arith));
      };
    }

-- ---- I_PCM and skipped macroblocks, of which nothing but samples is sent

abbrev pub bare_of : MbKind → Bool → List ℕ → Mb
bare_of kind field samples = record (no_elements kind) { field = field; pcm = samples }

abbrev pub IsBare : MbKind → Type 0
IsBare kind = (kind ≡ Intra 25) ⊎ (kind ≡ Skip)

bare_inter : (kind : MbKind) → IsBare kind → SendsNoInter kind
bare_inter kind (inl e) = intra_sends kind (ap is_intra e)
bare_inter kind (inr e) = subst SendsNoInter (sym e) skipped_sends

-- what is said of a macroblock by its type
record Bounds (shape : SliceShape) (mb : Mb) : Type 0 where
  ref0 : is_ref0 mb ≡ false
  t8 : sends_t8 shape mb ≡ false
  modes : (k : ℕ) → mode_bound mb k ≡ 0
  chroma_mode : chroma_mode_bound mb.kind ≡ 0
  pattern : (n : ℕ) → pattern_bound mb.kind n ≡ 0
  same_pattern : pattern_of mb ≡ mb.pattern
  dc : dc_bound mb.kind ≡ 0
  qp_delta : mb.pattern ≡ no_pattern → qp_delta_bound mb ≡ 0

pcm_bounds : (shape : SliceShape) (mb : Mb) → Bounds shape (record mb { kind = Intra 25 })
pcm_bounds shape mb = record {
  ref0 = refl;
  t8 = neither shape.t8_mode (not (mb.pattern.luma == 0));
  modes = λ k. refl;
  chroma_mode = refl;
  pattern = λ n. refl;
  same_pattern = refl;
  dc = refl;
  qp_delta = λ e. ap (λ p. qp_delta_bound (record mb { kind = Intra 25; pattern = p })) e;
}

skip_bounds : (shape : SliceShape) (mb : Mb) → Bounds shape (record mb { kind = Skip })
skip_bounds shape mb = record {
  ref0 = refl;
  t8 = neither shape.t8_mode (not (mb.pattern.luma == 0));
  modes = λ k. refl;
  chroma_mode = refl;
  pattern = λ n. refl;
  same_pattern = refl;
  dc = refl;
  qp_delta = λ e. ap (λ p. qp_delta_bound (record mb { kind = Skip; pattern = p })) e;
}

bounds_of : (shape : SliceShape) (mb : Mb) → IsBare mb.kind → Bounds shape mb
bounds_of shape mb (inl e) = subst (λ k. Bounds shape (record mb { kind = k })) (sym e) (pcm_bounds shape mb)
bounds_of shape mb (inr e) = subst (λ k. Bounds shape (record mb { kind = k })) (sym e) (skip_bounds shape mb)

-- what such a macroblock sends nothing of
record IsPlain (mb : Mb) : Type 0 where
  ref0 : mb.ref0 ≡ false
  t8 : mb.t8 ≡ false
  modes : mb.modes ≡ replicate 16 0
  chroma_mode : mb.chroma_mode ≡ 0
  inter : HasNoInter mb
  pattern : mb.pattern ≡ no_pattern
  qp_delta : mb.qp_delta ≡ pos 0
  dc : mb.dc ≡ replicate 16 (pos 0)
  luma : mb.luma ≡ replicate 4 (replicate 64 (pos 0))
  chroma_dc : mb.chroma_dc ≡ replicate 2 (replicate 4 (pos 0))
  chroma_ac : mb.chroma_ac ≡ replicate 2 (replicate 4 (replicate 15 (pos 0)))

luma_none : (mb : Mb) → pattern_of mb ≡ no_pattern → ((q : ℕ) → q < 4 → IsQuarterCoded mb q) → (q : ℕ) → q < 4 → IsWithin 0 (quarter_of mb q)
luma_none mb none quarters q below =
    let no_bit : luma_bound mb q ≡ 0 = ap (λ (p : Pattern). if bit_at p.luma q == 1 then 65535 else 0) none ∙ ap (λ b. if b == 1 then 65535 else 0) (bit_at-zero q) in
    subst (λ bound. IsWithin bound (quarter_of mb q)) no_bit (quarters q below).levels

ac_none : (mb : Mb) (x : ℕ) → x < 2 → HasSizes mb → chroma_ac_bound mb ≡ 0 → All (IsWithin (chroma_ac_bound mb)) (ac_of x mb) → ac_of x mb ≡ replicate 4 (replicate 15 (pos 0))
ac_none mb x h sizes none within =
    let size = All-from_recursion (λ (blocks : List (List ℤ)). (length blocks ≡ 4) × AllByRecursion (λ block. length block ≡ 15) blocks) mb.chroma_ac sizes.chroma_ac.1 x [] (omega (arith, sizes.chroma_ac.0)) in
    zero_lists 4 15 (chroma_ac_bound mb) (ac_of x mb) none size.0 size.1 within

plain : (shape : SliceShape) (mb : Mb) → IsBare mb.kind → IsMacroblock shape mb → IsPlain mb
plain shape mb bare is =
    let sizes = is.sizes in
    let bounds : Bounds shape mb = bounds_of shape mb bare in
    let pattern : mb.pattern ≡ no_pattern = same_pattern mb.pattern (omega (arith, is.coded.pattern.luma, bounds.pattern 15)) (omega (arith, is.coded.pattern.chroma, bounds.pattern 2)) in
    let none : pattern_of mb ≡ no_pattern = bounds.same_pattern ∙ pattern in
    let no_dc : chroma_dc_bound mb ≡ 0 = ap (λ (p : Pattern). if nat_lt 0 p.chroma then 65535 else 0) none in
    let no_ac : chroma_ac_bound mb ≡ 0 = ap (λ (p : Pattern). if p.chroma == 2 then 65535 else 0) none in
    record {
      ref0 = unset mb.ref0 (is_ref0 mb) is.typed.ref0 bounds.ref0;
      t8 = unset mb.t8 (sends_t8 shape mb) is.typed.t8 bounds.t8;
      modes = zero_numbers 16 mb.modes sizes.modes (λ k h. omega (arith, is.intra.modes k h, bounds.modes k));
      chroma_mode = omega (arith, is.intra.chroma_mode, bounds.chroma_mode);
      inter = no_inter mb.kind mb.ref0 (active_refs shape mb) mb (bare_inter mb.kind bare) (to_inter shape mb (lists_of mb sizes) is.typed.ref0 is.inter);
      pattern = pattern;
      qp_delta = zero_of mb.qp_delta (omega (arith, is.coded.qp_delta.magnitude, bounds.qp_delta pattern));
      dc = zero_levels 16 (dc_bound mb.kind) mb.dc bounds.dc sizes.dc is.coded.luma.dc;
      luma = no_luma mb sizes (luma_none mb none is.coded.luma.quarters);
      chroma_dc = zero_lists 2 4 (chroma_dc_bound mb) mb.chroma_dc no_dc sizes.chroma_dc.0 sizes.chroma_dc.1 is.coded.chroma.dc;
      chroma_ac = same_two [] mb.chroma_ac (replicate 2 (replicate 4 (replicate 15 (pos 0)))) sizes.chroma_ac.0 refl (ac_none mb 0 (omega arith) sizes no_ac is.coded.chroma.cb_ac) (ac_none mb 1 (omega arith) sizes no_ac is.coded.chroma.cr_ac);
    }

plain_same : (mb : Mb) → IsPlain mb → mb ≡ bare_of mb.kind mb.field mb.pcm
plain_same mb is =
    let a : Mb = record mb { ref0 = false; t8 = false; modes = replicate 16 0; chroma_mode = 0 } in
    let b : Mb = record a { subs = replicate 4 0; refs = no_refs; mvd = no_mvds } in
    let c : Mb = record b { pattern = no_pattern; qp_delta = pos 0 } in
    ap (λ x. record mb { ref0 = x }) is.ref0
    ∙ ap (λ x. record mb { ref0 = false; t8 = x }) is.t8
    ∙ ap (λ x. record mb { ref0 = false; t8 = false; modes = x }) is.modes
    ∙ ap (λ x. record mb { ref0 = false; t8 = false; modes = replicate 16 0; chroma_mode = x }) is.chroma_mode
    ∙ ap (λ x. record a { subs = x }) is.inter.subs
    ∙ ap (λ x. record a { subs = replicate 4 0; refs = x }) is.inter.refs
    ∙ ap (λ x. record a { subs = replicate 4 0; refs = no_refs; mvd = x }) is.inter.mvd
    ∙ ap (λ x. record b { pattern = x }) is.pattern
    ∙ ap (λ x. record b { pattern = no_pattern; qp_delta = x }) is.qp_delta
    ∙ ap (λ x. record c { dc = x }) is.dc
    ∙ ap (λ x. record c { dc = replicate 16 (pos 0); luma = x }) is.luma
    ∙ ap (λ x. record c { dc = replicate 16 (pos 0); luma = replicate 4 (replicate 64 (pos 0)); chroma_dc = x }) is.chroma_dc
    ∙ ap (λ x. record c { dc = replicate 16 (pos 0); luma = replicate 4 (replicate 64 (pos 0)); chroma_dc = replicate 2 (replicate 4 (pos 0)); chroma_ac = x }) is.chroma_ac

-- ---- such a macroblock is valid

no_more : (n k bound : ℕ) → slice_index (replicate n 0) k ≤ bound
no_more n k bound = rw (zero_at n k) (omega arith)

zero_lists_within : (bound m n : ℕ) → All (IsWithin bound) (replicate m (replicate n (pos 0)))
zero_lists_within bound m n = All-replicate (IsWithin bound) m (replicate n (pos 0)) (zeros_within bound n)

zero_quarter : (kind : MbKind) (field : Bool) (samples : List ℕ) (q : ℕ) → q < 4 → IsQuarterCoded (bare_of kind field samples) q
zero_quarter kind field samples q h =
    let none : quarter_of (bare_of kind field samples) q ≡ replicate 64 (pos 0) = get_or-replicate 4 q (replicate 64 (pos 0)) [] h in
    record {
      levels = subst (IsWithin _) (sym none) (zeros_within _ 64);
      last = λ k lt. rw (none, get_or-replicate 64 (16 * k + 15) (pos 0) (pos 0) (omega arith)) (omega arith);
    }

bare_sizes : (kind : MbKind) (field : Bool) (samples : List ℕ) → length samples ≡ 384 → HasSizes (bare_of kind field samples)
bare_sizes kind field samples count = record {
  modes = refl;
  subs = refl;
  refs = (refl, (refl, (refl, tt)));
  mvd = (refl, ((refl, each (λ difference. length difference ≡ 2) (replicate 2 (pos 0)) refl 16), ((refl, each (λ difference. length difference ≡ 2) (replicate 2 (pos 0)) refl 16), tt)));
  dc = refl;
  luma = (refl, (refl, (refl, (refl, (refl, tt)))));
  chroma_dc = (refl, (refl, (refl, tt)));
  chroma_ac = (refl, ((refl, (refl, (refl, (refl, (refl, tt))))), ((refl, (refl, (refl, (refl, (refl, tt))))), tt)));
  pcm = count;
}
  where
    each : {A : Type 0} (Is : A → Type 0) (x : A) → Is x → (n : ℕ) → AllByRecursion Is (replicate n x)
    each Is x h zero = tt
    each Is x h (suc n) = (h, each Is x h n)

bare_valid : (shape : SliceShape) (kind : MbKind) (field : Bool) (samples : List ℕ) → IsBare kind → is_kind_in shape.kind kind ≡ true → (field ≡ true → shape.mbaff ≡ true) → length samples ≡ 384 → All (λ sample. sample ≤ sample_bound kind) samples → IsMacroblock shape (bare_of kind field samples)
bare_valid shape kind field samples bare in_slice pair count small =
    let mb : Mb = bare_of kind field samples in
    record {
      sizes = bare_sizes kind field samples count;
      typed = record { kind = in_slice; ref0 = λ h. absurd cc; field = pair; t8 = λ h. absurd cc };
      intra = record { modes = λ k h. no_more 16 k _; chroma_mode = omega arith };
      inter = from_inter shape mb (inter_none kind false (active_refs shape mb) mb (bare_inter kind bare) (record { subs = refl; refs = refl; mvd = refl }));
      coded = record {
        pattern = record { luma = omega arith; chroma = omega arith };
        qp_delta = record { magnitude = omega arith; greatest = record { le = tt } };
        luma = record { dc = zeros_within _ 16; quarters = λ q h. zero_quarter kind field samples q h };
        chroma = record { dc = zero_lists_within _ 2 4; cb_ac = zero_lists_within _ 4 15; cr_ac = zero_lists_within _ 4 15 };
        pcm = small;
      };
    }

bare_not_beyond : (bound : ℕ) (kind : MbKind) (field : Bool) (samples : List ℕ) → is_beyond_mb bound (bare_of kind field samples) ≡ false
unfolding blocks.sixteen
bare_not_beyond bound kind field samples = refl

-- ---- both ways

valid_i_pcm : (shape : SliceShape) (mb : Mb) → mb.kind ≡ Intra 25 → IsMacroblock shape mb → IsIPcm mb.field mb
valid_i_pcm shape mb kind is = record {
  elements = plain_same mb (plain shape mb (inl kind) is) ∙ ap (λ k. bare_of k mb.field mb.pcm) kind;
  samples = record { count = is.sizes.pcm; bytes = λ k d below. omega (arith, is.coded.pcm k d below, ap sample_bound kind) };
}

pub valid_sent : (shape : SliceShape) (bound : ℕ) (mb : Mb) → is_skip mb.kind ≡ false → is_beyond_mb bound mb ≡ false → IsMacroblock shape mb → IsSent shape mb.field bound mb
valid_sent shape bound mb sent none is = record {
  kind = is.typed.kind;
  sent = sent;
  ref0 = λ set. ref0_kind mb mb.kind (is.typed.ref0 set);
  pair = is.typed.field;
  elements = by (is_i_pcm mb.kind) refl;
}
  where
    by : (b : Bool) → is_i_pcm mb.kind ≡ b → IsIPcm mb.field mb ⊎ IsPredicted shape mb.field bound mb
    by true e = inl (valid_i_pcm shape mb (named_pcm mb.kind e) is)
    by false e = inr (e, valid_layer shape bound mb e none is)

pub sent_valid : (shape : SliceShape) (field : Bool) (bound : ℕ) (mb : Mb) → IsSent shape field bound mb → IsMacroblock shape mb
sent_valid shape field bound mb is = by is.elements
  where
    by : IsIPcm field mb ⊎ IsPredicted shape field bound mb → IsMacroblock shape mb
    by (inl pcm) =
        let kind : mb.kind ≡ Intra 25 = ap (λ (m : Mb). m.kind) pcm.elements in
        subst (λ (m : Mb). IsMacroblock shape m) (sym pcm.elements) (bare_valid shape (Intra 25) field mb.pcm (inl refl) (subst (λ k. is_kind_in shape.kind k ≡ true) kind is.kind) is.pair pcm.samples.count pcm.samples.bytes)
    by (inr other) = layer_valid shape field bound mb is.kind is.ref0 is.pair other.0 other.1

-- it has the flag that it is read with
pub sent_field : (shape : SliceShape) (field : Bool) (bound : ℕ) (mb : Mb) → IsSent shape field bound mb → mb.field ≡ field
sent_field shape field bound mb is = by is.elements
  where
    by : IsIPcm field mb ⊎ IsPredicted shape field bound mb → mb.field ≡ field
    by (inl pcm) = ap (λ (m : Mb). m.field) pcm.elements
    by (inr other) = ap (λ (m : Mb). m.field) other.1.absent

pub sent_sizes : (shape : SliceShape) (field : Bool) (bound : ℕ) (mb : Mb) → IsSent shape field bound mb → HasSizes mb × (is_beyond_mb bound mb ≡ false)
sent_sizes shape field bound mb is = by is.elements
  where
    by : IsIPcm field mb ⊎ IsPredicted shape field bound mb → HasSizes mb × (is_beyond_mb bound mb ≡ false)
    by (inl pcm) = (subst HasSizes (sym pcm.elements) (bare_sizes (Intra 25) field mb.pcm pcm.samples.count), ap (is_beyond_mb bound) pcm.elements ∙ bare_not_beyond bound (Intra 25) field mb.pcm)
    by (inr other) = (other.1.residual.sizes, residual_not_beyond (is_i_16x16 mb.kind) (pattern_of mb) bound mb other.1.residual)

pub sent_ref0 : (shape : SliceShape) (field : Bool) (bound : ℕ) (mb : Mb) → IsSent shape field bound mb → mb.ref0 ≡ true → IsTrue (is_ref0 mb)
sent_ref0 shape field bound mb is set = (sent_valid shape field bound mb is).typed.ref0 set

-- ---- skipped macroblocks

pub valid_skipped : (shape : SliceShape) (mb : Mb) → mb.kind ≡ Skip → IsMacroblock shape mb → (mb ≡ skipped mb.field) × (is_kind_in shape.kind Skip ≡ true) × (mb.field ≡ true → shape.mbaff ≡ true)
valid_skipped shape mb kind is =
    let pcm : mb.pcm ≡ replicate 384 0 = no_samples mb (ap sample_bound kind) is.sizes is.coded.pcm in (
      plain_same mb (plain shape mb (inr kind) is) ∙ ap (λ k. bare_of k mb.field mb.pcm) kind ∙ ap (bare_of Skip mb.field) pcm,
      subst (λ k. is_kind_in shape.kind k ≡ true) kind is.typed.kind,
      is.typed.field,
    )

pub skipped_valid : (shape : SliceShape) (field : Bool) (mb : Mb) → mb ≡ skipped field → is_kind_in shape.kind Skip ≡ true → (field ≡ true → shape.mbaff ≡ true) → IsMacroblock shape mb
skipped_valid shape field mb same in_slice pair =
    subst (λ (m : Mb). IsMacroblock shape m) (sym same) (bare_valid shape Skip field (replicate 384 0) (inr refl) in_slice pair refl (All-replicate (λ sample. sample ≤ 0) 384 0 (omega arith)))

pub skipped_levels : (field : Bool) (bound : ℕ) → HasSizes (skipped field) × (is_beyond_mb bound (skipped field) ≡ false)
skipped_levels field bound = (bare_sizes Skip field (replicate 384 0) refl, bare_not_beyond bound Skip field (replicate 384 0))
