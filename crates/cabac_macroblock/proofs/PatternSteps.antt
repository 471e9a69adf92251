-- coded_block_pattern, bit by bit.
use Rattle.std.proofs.Common.{◌≡◌, ℕ, ◌+◌, ◌-◌, ◌*◌, ◌/◌, ◌%◌, ◌^◌, ◌<◌, ◌≤◌, Bool, true, false, List, Option, Some, None, refl, sym, ap, ◌∙◌, arith}
use Rattle.std.specs.Prelude.{not, ◌&&◌, ◌||◌, ◌==◌}
use Rattle.std.specs.Int.{from_bool, bit_at}
use Rattle.std.proofs.Math.Nat.{mul_comm, mod-eq_of_lt, pow-le-pow_right}
use Rattle.std.proofs.lemmas.Nat.{mod-pow-add, div-add-mod'}
use Rattle.std.proofs.lemmas.Nat.Bits.{bit_at_cat_low}
use Rattle.std.proofs.lemmas.Bool.Decides.{nat_tests}
use Rattle.cabac_engine.specs.Bins.{Slot}
use Rattle.binarisation.specs.BinString.{Value, Reads, Writes, ◌>>=◌}
use Rattle.binarisation.specs.Elements.{pattern_luma, pattern_chroma}
use Rattle.binarisation.proofs.Strings.{reads_none, Completes}
use Rattle.h264_types.specs.Kind.{is_skip, is_i_pcm}
use Rattle.h264_types.specs.Macroblock.{pattern_of}
use Rattle.h264_types.specs.Valid.{IsPattern}
use Rattle.h264_types.specs.Slice.{IsInPicture}
use Rattle.h264_types.specs.Sent.{sends_pattern}
use Rattle.h264_types.specs.declared.macroblock.Mb.{Mb}
use Rattle.h264_types.specs.declared.macroblock.MbKind.{MbKind}
use Rattle.h264_types.specs.declared.macroblock.Pattern.{Pattern}
use Rattle.h264_types.specs.declared.slice_shape.SliceShape.{SliceShape}
use Rattle.h264_types.proofs.KindLaws.{other_pattern, no_16x16}
use Rattle.mb_neighbours.specs.declared.place.At.TheVariants.{Luma8}
use Rattle.cabac_contexts.specs.declared.term.Term.TheVariants.{NoLuma, Chroma, ChromaAc}
use Rattle.cabac_contexts.specs.Increments as incs
use Rattle.binarisation.specs.Each.{each}
use Rattle.cabac_macroblock.specs.CodedBlockPattern.{with_luma_bit, luma_bit, luma_bits, chroma_pattern, pattern}
use Rattle.cabac_macroblock.specs.Stages.{before_qp_delta, before_chroma_pattern, before_pattern}
use Rattle.cabac_macroblock.proofs.Puts.{reads_put, writes_put}
use Rattle.cabac_macroblock.proofs.WholeIncrements.{same_weighted, same_whole}

-- ---- the bit of a quarter

pub reads_luma_bit : {S : Type 0} (step : S → Slot → Option Bool → S → Type 0) (shape : SliceShape) (done : List Mb) (at quarter : ℕ) (mb made : Mb) (inc : ℕ) (bit : Bool) (s t : S) → inc ≡ incs.luma shape done at mb.field mb quarter → made ≡ record mb { pattern = with_luma_bit mb.pattern quarter bit }
    → Reads step (pattern_luma inc) (Some bit) s t → Reads step (luma_bit shape done at quarter mb) (Some made) s t
unfolding luma_bit
reads_luma_bit step shape done at quarter mb made inc bit s t e is first =
    reads_put step (pattern_luma (incs.luma shape done at mb.field mb quarter)) (λ bit. record mb { pattern = with_luma_bit mb.pattern quarter bit }) bit made s t is (rw e at first)

pub reads_no_luma_bit : {S : Type 0} (step : S → Slot → Option Bool → S → Type 0) (shape : SliceShape) (done : List Mb) (at quarter : ℕ) (mb : Mb) (inc : ℕ) (s t : S) → inc ≡ incs.luma shape done at mb.field mb quarter
    → Reads step (pattern_luma inc) None s t → Reads step (luma_bit shape done at quarter mb) None s t
unfolding luma_bit
reads_no_luma_bit step shape done at quarter mb inc s t e first =
    reads_none step (pattern_luma (incs.luma shape done at mb.field mb quarter)) (λ bit. Value (record mb { pattern = with_luma_bit mb.pattern quarter bit })) s t (rw e at first)

-- a bit of 1, as it is shifted into a byte, and one of 0
pub shifted : (mb : Mb) (quarter : ℕ) (bit : Bool) → quarter < 4 → bit ≡ true → record mb { pattern = record mb.pattern { luma = mb.pattern.luma + 1 * 2 ^ quarter % 2 ^ 8 } } ≡ record mb { pattern = with_luma_bit mb.pattern quarter bit }
shifted mb quarter bit h e =
    let power : 2 ^ quarter ≤ 2 ^ 7 = pow-le-pow_right (omega arith) {i = quarter} {j = 7} (omega arith) in
    let value : 1 * 2 ^ quarter % 2 ^ 8 ≡ 2 ^ quarter * 1 = let small : 1 * 2 ^ quarter < 2 ^ 8 = omega (arith, power) in mod-eq_of_lt small ∙ omega arith in
    rw e (ap (λ n. record mb { pattern = record mb.pattern { luma = mb.pattern.luma + n } }) value)

pub unset_bit : (mb : Mb) (quarter : ℕ) (bit : Bool) → bit ≡ false → mb ≡ record mb { pattern = with_luma_bit mb.pattern quarter bit }
unset_bit mb quarter bit e =
    let same : mb.pattern.luma ≡ mb.pattern.luma + 2 ^ quarter * 0 = omega arith in
    rw e (ap (λ n. record mb { pattern = record mb.pattern { luma = n } }) same)

pub luma_bits-each : (shape : SliceShape) (done : List Mb) (at : ℕ) (mb : Mb) → luma_bits shape done at mb ≡ each 4 (luma_bit shape done at) 0 mb
unfolding luma_bits
luma_bits-each shape done at mb = refl

pub same_luma_part : (mb before made : Mb) → before ≡ record mb { pattern = record mb.pattern { luma = before.pattern.luma } } → made ≡ record before { pattern = record before.pattern { luma = made.pattern.luma } }
    → made ≡ record mb { pattern = record mb.pattern { luma = made.pattern.luma } }
same_luma_part mb before made e f = f ∙ ap (λ (m : Mb). record m { pattern = record m.pattern { luma = made.pattern.luma } }) e

-- the macroblock with the bits of its first quarters alone
abbrev pub with_quarters : ℕ → Mb → Mb
with_quarters quarter mb = record (before_pattern mb) { pattern = record { luma = mb.pattern.luma % 2 ^ quarter; chroma = 0 } }

sent_pattern : (mb : Mb) (kind : MbKind) → sends_pattern kind ≡ true → pattern_of (record mb { kind = kind }) ≡ mb.pattern
sent_pattern mb kind e = other_pattern mb kind (no_16x16 kind e)

low_bit : (luma quarter block : ℕ) → block < quarter → bit_at (luma % 2 ^ quarter) block ≡ bit_at luma block
low_bit luma quarter block h =
    let cat : bit_at (luma / 2 ^ quarter * 2 ^ quarter + luma % 2 ^ quarter) block ≡ bit_at (luma % 2 ^ quarter) block = bit_at_cat_low (luma / 2 ^ quarter) quarter (luma % 2 ^ quarter) block h in
    let whole : luma / 2 ^ quarter * 2 ^ quarter + luma % 2 ^ quarter ≡ luma = div-add-mod' luma (2 ^ quarter) in
    sym cat ∙ ap (λ n. bit_at n block) whole

next_bit : (luma quarter : ℕ) → luma % 2 ^ quarter + 2 ^ quarter * from_bool (bit_at luma quarter == 1) ≡ luma % 2 ^ (quarter + 1)
next_bit luma quarter =
    let one : from_bool (bit_at luma quarter == 1) ≡ luma / 2 ^ quarter % 2 = parity (luma / 2 ^ quarter) in
    let sum : luma % 2 ^ (1 + quarter) ≡ luma / 2 ^ quarter % 2 ^ 1 * 2 ^ quarter + luma % 2 ^ quarter = mod-pow-add luma 1 quarter in
    let order : quarter + 1 ≡ 1 + quarter = omega arith in
    rw (one, order, sum) (omega (arith, mul_comm (2 ^ quarter) (luma / 2 ^ quarter % 2)))
  where
    parity : (n : ℕ) → from_bool (n % 2 == 1) ≡ n % 2
    parity n = by (n % 2 == 1) refl
      where
        by : (b : Bool) → (n % 2 == 1) ≡ b → from_bool b ≡ n % 2
        by true e = let is : n % 2 ≡ 1 = grind (arith, nat_tests) in sym is
        by false e = let is : n % 2 ≡ 0 = grind (arith, nat_tests) in sym is

pub begins_luma : {S : Type 0} (step : S → Slot → Bool → S → Type 0) (shape : SliceShape) (done : List Mb) (at : ℕ) (mb : Mb) (s : S)
    → Completes step (luma_bits shape done at (before_pattern mb)) s (each (4 - 0) (luma_bit shape done at) 0 (with_quarters 0 mb)) s
unfolding luma_bits
begins_luma step shape done at mb s value t h =
    let none : mb.pattern.luma % 2 ^ 0 ≡ 0 = omega arith in
    rw none at h

pub ends_luma : (mb : Mb) → mb.pattern.luma ≤ 15 → with_quarters 4 mb ≡ before_chroma_pattern mb
ends_luma mb h = let all : mb.pattern.luma % 2 ^ 4 ≡ mb.pattern.luma = omega arith in ap (λ n. record (before_pattern mb) { pattern = record { luma = n; chroma = 0 } }) all

pub same_luma : (shape : SliceShape) (done : List Mb) (at quarter : ℕ) (mb : Mb) → IsInPicture shape at → quarter < 4 → sends_pattern mb.kind ≡ true → incs.luma shape done at mb.field mb quarter ≡ incs.luma shape done at mb.field (with_quarters quarter mb) quarter
same_luma shape done at quarter mb inside h sent =
    same_weighted false NoLuma shape done at mb.field mb (with_quarters quarter mb) (Luma8 quarter) inside h
    (λ block below. ap (λ (b : ℕ). not (is_i_pcm mb.kind) && (is_skip mb.kind || not (b == 1)))
    (ap (λ (p : Pattern). bit_at p.luma block) (sent_pattern mb mb.kind sent) ∙ sym (low_bit mb.pattern.luma quarter block below) ∙ ap (λ (p : Pattern). bit_at p.luma block) (sym (sent_pattern (with_quarters quarter mb) mb.kind sent))))

-- the increment doesn't rest on transform_size_8x8_flag
pub luma_any_size : (shape : SliceShape) (done : List Mb) (at quarter : ℕ) (mb : Mb) (t8 : Bool) → IsInPicture shape at → quarter < 4 → incs.luma shape done at mb.field mb quarter ≡ incs.luma shape done at mb.field (record mb { t8 = t8 }) quarter
luma_any_size shape done at quarter mb t8 inside h = same_weighted false NoLuma shape done at mb.field mb (record mb { t8 = t8 }) (Luma8 quarter) inside h (λ block below. refl)

pub writes_luma_bit : {S : Type 0} (step : S → Slot → Bool → S → Type 0) (shape : SliceShape) (done : List Mb) (at quarter : ℕ) (mb : Mb) (inc : ℕ) (bit : Bool) (s t : S) → IsInPicture shape at → quarter < 4 → sends_pattern mb.kind ≡ true
    → inc ≡ incs.luma shape done at mb.field mb quarter → bit ≡ (bit_at mb.pattern.luma quarter == 1) → Writes step (pattern_luma inc) bit s t → Writes step (luma_bit shape done at quarter (with_quarters quarter mb)) (with_quarters (quarter + 1) mb) s t
unfolding luma_bit
writes_luma_bit step shape done at quarter mb inc bit s t inside h sent e is first =
    let so_far : Mb = with_quarters quarter mb in
    let same : inc ≡ incs.luma shape done at mb.field so_far quarter = e ∙ same_luma shape done at quarter mb inside h sent in
    let made : with_quarters (quarter + 1) mb ≡ record so_far { pattern = with_luma_bit so_far.pattern quarter bit } =
    ap (λ n. record (before_pattern mb) { pattern = record { luma = n; chroma = 0 } }) (sym (next_bit mb.pattern.luma quarter) ∙ ap (λ b. mb.pattern.luma % 2 ^ quarter + 2 ^ quarter * from_bool b) (sym is)) in
    writes_put step (pattern_luma (incs.luma shape done at mb.field so_far quarter)) (λ bit. record so_far { pattern = with_luma_bit so_far.pattern quarter bit }) bit (with_quarters (quarter + 1) mb) s t made (rw same at first)

-- ---- chroma

pub reads_chroma : {S : Type 0} (step : S → Slot → Option Bool → S → Type 0) (shape : SliceShape) (done : List Mb) (at : ℕ) (mb made : Mb) (first second chroma : ℕ) (s t : S) → first ≡ incs.chroma shape done at mb.field mb false → second ≡ incs.chroma shape done at mb.field mb true
    → made ≡ record mb { pattern = record mb.pattern { chroma = chroma } } → Reads step (pattern_chroma first second) (Some chroma) s t → Reads step (chroma_pattern shape done at mb) (Some made) s t
unfolding chroma_pattern
reads_chroma step shape done at mb made first second chroma s t e f is read =
    reads_put step (pattern_chroma (incs.chroma shape done at mb.field mb false) (incs.chroma shape done at mb.field mb true)) (λ chroma. record mb { pattern = record mb.pattern { chroma = chroma } }) chroma made s t is (rw (e, f) at read)

pub reads_no_chroma : {S : Type 0} (step : S → Slot → Option Bool → S → Type 0) (shape : SliceShape) (done : List Mb) (at : ℕ) (mb : Mb) (first second : ℕ) (s t : S) → first ≡ incs.chroma shape done at mb.field mb false → second ≡ incs.chroma shape done at mb.field mb true
    → Reads step (pattern_chroma first second) None s t → Reads step (chroma_pattern shape done at mb) None s t
unfolding chroma_pattern
reads_no_chroma step shape done at mb first second s t e f read =
    reads_none step (pattern_chroma (incs.chroma shape done at mb.field mb false) (incs.chroma shape done at mb.field mb true)) (λ chroma. Value (record mb { pattern = record mb.pattern { chroma = chroma } })) s t (rw (e, f) at read)

pub writes_chroma : {S : Type 0} (step : S → Slot → Bool → S → Type 0) (shape : SliceShape) (done : List Mb) (at : ℕ) (mb : Mb) (first second : ℕ) (s t : S) → IsInPicture shape at → first ≡ incs.chroma shape done at mb.field mb false → second ≡ incs.chroma shape done at mb.field mb true
    → Writes step (pattern_chroma first second) mb.pattern.chroma s t → Writes step (chroma_pattern shape done at (before_chroma_pattern mb)) (before_qp_delta mb) s t
unfolding chroma_pattern
writes_chroma step shape done at mb first second s t inside e f written =
    let so_far : Mb = before_chroma_pattern mb in
    let a : first ≡ incs.chroma shape done at mb.field so_far false = e ∙ same_whole false Chroma shape done at mb.field mb so_far inside in
    let b : second ≡ incs.chroma shape done at mb.field so_far true = f ∙ same_whole false ChromaAc shape done at mb.field mb so_far inside in
    writes_put step (pattern_chroma (incs.chroma shape done at mb.field so_far false) (incs.chroma shape done at mb.field so_far true)) (λ chroma. record so_far { pattern = record so_far.pattern { chroma = chroma } }) mb.pattern.chroma (before_qp_delta mb) s t refl (rw (a, b) at written)

-- ---- the whole pattern

pub pattern_sent : (shape : SliceShape) (done : List Mb) (at : ℕ) (mb : Mb) → sends_pattern mb.kind ≡ true → pattern shape done at mb ≡ (luma_bits shape done at mb >>= chroma_pattern shape done at)
unfolding pattern
pattern_sent shape done at mb e = rw e refl

pub pattern_unsent : (shape : SliceShape) (done : List Mb) (at : ℕ) (mb : Mb) → sends_pattern mb.kind ≡ false → pattern shape done at mb ≡ Value mb
unfolding pattern
pattern_unsent shape done at mb e = rw e refl

pub no_pattern : (mb : Mb) → sends_pattern mb.kind ≡ false → IsPattern mb → before_pattern mb ≡ before_qp_delta mb
no_pattern mb unsent is =
    let no_luma = rw unsent at is.luma in
    let no_chroma = rw unsent at is.chroma in
    let luma : mb.pattern.luma ≡ 0 = omega (arith, no_luma) in
    let chroma : mb.pattern.chroma ≡ 0 = omega (arith, no_chroma) in
    ap (λ n. record (before_pattern mb) { pattern = record { luma = n; chroma = 0 } }) (sym luma) ∙ ap (λ n. record (before_pattern mb) { pattern = record { luma = mb.pattern.luma; chroma = n } }) (sym chroma)
