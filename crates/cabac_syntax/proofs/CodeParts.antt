-- The codes of pieces, and the bins that stand ahead.
use Rattle.std.proofs.Common.{◌≡◌, ℕ, ◌+◌, ◌*◌, ◌<◌, ◌≤◌, Bool, false, List, [], ◌∷◌, ◌++◌, length, map, replicate, take, refl, sym, ap, subst, ◌∙◌, append_assoc, append-nil, arith}
use Rattle.std.proofs.lemmas.List.{length-take-le}
use Rattle.bit_texts.specs.Bits.{number, bits_of}
use Rattle.bit_texts.proofs.Reading.{same_parts}
use Rattle.cabac_interval.specs.Interval.{interval}
use Rattle.cabac_engine.specs.Bins.{Promises}
use Rattle.cabac_engine.proofs.Taken.{taken, first_nine}
use Rattle.cabac_contexts.specs.Coders.{InCoding, SegmentBits, HasGiven, GivesBin}
use Rattle.cabac_contexts.specs.States.{state_of, with_states}
use Rattle.cabac_contexts.proofs.Segments.{promised}
use Rattle.pcm_samples.specs.Alignment.{alignment}
use Rattle.cabac_syntax.specs.SliceData.{Bin, Piece, coded, sampled, Codes}

-- the bins up to the end of the segment
abbrev pub run : List Piece → List Bin
run [] = []
run (coded bin ∷ pieces) = bin ∷ run pieces
run (sampled samples ∷ pieces) = []

pub run-bins : (bins : List Bin) (pieces : List Piece) → run (map coded bins ++ pieces) ≡ bins ++ run pieces
run-bins [] pieces = refl
run-bins (bin ∷ bins) pieces = ap (λ (l : List Bin). bin ∷ l) (run-bins bins pieces)

-- the bits begin with a code of the segment that has begun
pub codes_segment : (normal : Bool) (start : ℕ → ℕ × Bool) (earlier current : List Bin) (pieces : List Piece) (bits : List Bool) → Codes normal start earlier current pieces bits
    → (code : List Bool) × (rest : List Bool) × SegmentBits (state_of start earlier) (current ++ run pieces) code × (bits ≡ code ++ rest)
unfolding Codes
codes_segment normal start earlier current [] bits (code, words, segment, ends, few, e) =
    (code, alignment (length code) ++ replicate (16 * words) false, subst (λ (l : List Bin). SegmentBits (state_of start earlier) l code) (sym (append-nil current)) segment, e)
codes_segment normal start earlier current (coded bin ∷ pieces) bits c =
    let s = codes_segment normal start earlier (current ++ bin ∷ []) pieces bits c in
    (s.0, s.1, subst (λ (l : List Bin). SegmentBits (state_of start earlier) l s.0) (append_assoc current (bin ∷ []) (run pieces)) s.2, s.3)
codes_segment normal start earlier current (sampled samples ∷ pieces) bits (code, rest, segment, ends, e, others) =
    (code, alignment (length code) ++ (bits_of samples ++ rest), subst (λ (l : List Bin). SegmentBits (state_of start earlier) l code) (sym (append-nil current)) segment, e)

-- the bins of the segment that are to come stand ahead of a decoder that gave the others
pub codes_promise : (start : ℕ → ℕ × Bool) (earlier current : List Bin) (pieces : List Piece) (here : List Bool) (d : InCoding) → HasGiven here (state_of start earlier) current d
    → Codes false start earlier current pieces here → Promises GivesBin d (run pieces)
codes_promise start earlier current pieces here d h c =
    let s = codes_segment false start earlier current pieces here c in
    promised here s.0 s.1 (state_of start earlier) current (run pieces) d h s.2 s.3

pub codes_bins : (normal : Bool) (start : ℕ → ℕ × Bool) (earlier current bins : List Bin) (pieces : List Piece) (bits : List Bool) → Codes normal start earlier current (map coded bins ++ pieces) bits → Codes normal start earlier (current ++ bins) pieces bits
unfolding Codes
codes_bins normal start earlier current [] pieces bits c = subst (λ (l : List Bin). Codes normal start earlier l pieces bits) (sym (append-nil current)) c
codes_bins normal start earlier current (bin ∷ bins) pieces bits c =
    subst (λ (l : List Bin). Codes normal start earlier l pieces bits) (append_assoc current (bin ∷ []) bins) (codes_bins normal start earlier (current ++ bin ∷ []) bins pieces bits c)

pub bins_codes : (normal : Bool) (start : ℕ → ℕ × Bool) (earlier current bins : List Bin) (pieces : List Piece) (bits : List Bool) → Codes normal start earlier (current ++ bins) pieces bits → Codes normal start earlier current (map coded bins ++ pieces) bits
unfolding Codes
bins_codes normal start earlier current [] pieces bits c = subst (λ (l : List Bin). Codes normal start earlier l pieces bits) (append-nil current) c
bins_codes normal start earlier current (bin ∷ bins) pieces bits c =
    bins_codes normal start earlier (current ++ bin ∷ []) bins pieces bits (subst (λ (l : List Bin). Codes normal start earlier l pieces bits) (sym (append_assoc current (bin ∷ []) bins)) c)

-- ---- the code of a whole segment

-- the segment was given whole: its code stands at the start, and then what is left
pub record Ended (here : List Bool) (start : ℕ → ℕ × Bool) (bins : List Bin) (left : List Bool) : Type 0 where
  pub code : List Bool
  pub is_code : SegmentBits start bins code
  pub parts : here ≡ code ++ left
  pub some : 0 < length code

pub segment_ended : (here : List Bool) (start : ℕ → ℕ × Bool) (bins : List Bin) (d : InCoding) → HasGiven here start bins d → d.decoder.range < 256 → Ended here start bins d.decoder.left
segment_ended here start bins d h few =
    let t = taken here (with_states start [] bins) d.decoder.range d.decoder.offset d.decoder.left h.decoded in
    let n = 9 + (interval (with_states start [] bins)).doublings in
    let size : length (take n here) ≡ n = length-take-le n here t.1.enough in
    record {
      code = take n here;
      is_code = record { segment = h.decoded.ended few; size = size; above = t.1.above; below = t.1.below };
      parts = t.0;
      some = omega (arith, size);
    }

-- two codes of the same bins that begin the same bits are one
pub same_code : (start : ℕ → ℕ × Bool) (bins : List Bin) (code rest other left : List Bool) → SegmentBits start bins code → SegmentBits start bins other → code ++ rest ≡ other ++ left → (code ≡ other) × (rest ≡ left)
same_code start bins code rest other left c d e = same_parts code other rest left (c.size ∙ sym d.size) e

-- a decoder starts where a segment's code stands
pub no_start : (normal : Bool) (start : ℕ → ℕ × Bool) (earlier : List Bin) (pieces : List Piece) (bits : List Bool) → (9 ≤ length bits → 510 ≤ number (take 9 bits)) → Codes normal start earlier [] pieces bits → ⊥
no_start normal start earlier pieces bits high c =
    let s = codes_segment normal start earlier [] pieces bits c in
    let nine = first_nine s.0 s.1 (with_states (state_of start earlier) [] (run pieces)) s.2 in
    omega (arith, high (omega (arith, nine.0, ap length s.3)), nine.1, ap (λ (l : List Bool). number (take 9 l)) s.3)
