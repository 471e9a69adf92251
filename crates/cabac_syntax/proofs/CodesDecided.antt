-- Whether bits begin with the code of a segment, and whether they are its last code, is decided.
use Rattle.std.proofs.Common.{◌≡◌, ℕ, ◌+◌, ◌*◌, ◌<◌, ◌≤◌, inl, inr, Bool, true, false, List, [], ◌∷◌, ◌++◌, length, replicate, take, drop, refl, sym, ap, subst, ◌∙◌, length-append, arith}
use Rattle.std.proofs.lemmas.Bool.Decides.{leb_tells}
use Rattle.std.proofs.lemmas.List.{append_cancel_left, length-take-le, take-append-drop}
use Rattle.bit_texts.specs.Bits.{number, EndsInOne}
use Rattle.bit_texts.proofs.Reading.{same_parts}
use Rattle.cabac_interval.specs.Interval.{Kind, context, bypass, terminate, Bin as StateBin, interval, IsKind, is_end, end_bin, IsOpen, IsSegment}
use Rattle.cabac_contexts.specs.Coders.{SegmentBits}
use Rattle.cabac_contexts.specs.States.{state_of, with_states}
use Rattle.pcm_samples.specs.Alignment.{alignment}
use Rattle.cabac_syntax.specs.SliceData.{Bin, Codes}
use Rattle.cabac_syntax.proofs.CodeParts.{same_code}
use Rattle.cabac_syntax.proofs.Decisions.{Decided, same_decided, both_decided, one_decided, same_pair, most_decided, bools_decided, front_decided, ends_in_one_decided, words_decided}

-- ---- the bins of a segment

is_kind_decided : (kind : Kind) → Decided (IsKind kind)
is_kind_decided (context p mps) = same_decided (λ h. omega (arith, h)) (λ h. omega (arith, h)) (most_decided (p + 1) 64)
is_kind_decided bypass = inl tt
is_kind_decided terminate = inl tt

end_decided : (bin : StateBin) → Decided (bin ≡ end_bin)
end_decided bin = by bin.kind bin.bit
  where
    by : (kind : Kind) (bit : Bool) → Decided (record { kind = kind; bit = bit } ≡ end_bin)
    by (context p mps) bit = inr (λ e. let clash : context p mps ≡ terminate = ap (λ (b : StateBin). b.kind) e in cc)
    by bypass bit = inr (λ e. let clash : bypass ≡ terminate = ap (λ (b : StateBin). b.kind) e in cc)
    by terminate true = inl refl
    by terminate false = inr (λ e. let clash : false ≡ true = ap (λ (b : StateBin). b.bit) e in cc)

segment_decided : (bins : List StateBin) → Decided (IsSegment bins)
segment_decided [] = inr (λ s. omega (arith, ap length s.bins_are, length-append s.earlier (end_bin ∷ [])))
segment_decided (bin ∷ []) = same_decided (λ e. record { earlier = []; bins_are = ap (λ (b : StateBin). b ∷ []) e; open_before = tt }) (λ s. last s.earlier s.bins_are) (end_decided bin)
  where
    last : (earlier : List StateBin) → bin ∷ [] ≡ earlier ++ end_bin ∷ [] → bin ≡ end_bin
    last [] e = cc
    last (x ∷ earlier) e = absurd (omega (arith, ap length e, length-append earlier (end_bin ∷ [])))
segment_decided (bin ∷ next ∷ bins) =
    same_decided join (λ s. parts s.earlier s.bins_are s.open_before)
    (both_decided (both_decided (is_kind_decided bin.kind) (bools_decided (is_end bin.kind bin.bit) false)) (segment_decided (next ∷ bins)))
  where
    join : (IsKind bin.kind × (is_end bin.kind bin.bit ≡ false)) × IsSegment (next ∷ bins) → IsSegment (bin ∷ next ∷ bins)
    join h = record { earlier = bin ∷ h.1.earlier; bins_are = ap (λ (l : List StateBin). bin ∷ l) h.1.bins_are; open_before = (h.0.0, h.0.1, h.1.open_before) }

    parts : (earlier : List StateBin) → bin ∷ next ∷ bins ≡ earlier ++ end_bin ∷ [] → IsOpen earlier → (IsKind bin.kind × (is_end bin.kind bin.bit ≡ false)) × IsSegment (next ∷ bins)
    parts [] e opened = absurd (omega (arith, ap length e))
    parts (x ∷ earlier) e opened =
        let first : bin ≡ x = cc in
        let others : next ∷ bins ≡ earlier ++ end_bin ∷ [] = cc in
        (subst (λ (b : StateBin). IsKind b.kind × (is_end b.kind b.bit ≡ false)) (sym first) (opened.0, opened.1), record { earlier = earlier; bins_are = others; open_before = opened.2 })

-- ---- a code and what follows it

abbrev pub BeginsWithCode : (ℕ → ℕ × Bool) → List Bin → List Bool → Type 0
BeginsWithCode start bins bits = (code : List Bool) × (rest : List Bool) × SegmentBits start bins code × (bits ≡ code ++ rest)

pub code_decided : (start : ℕ → ℕ × Bool) (bins : List Bin) (bits : List Bool) → Decided (BeginsWithCode start bins bits)
code_decided start bins bits = elim (leb_tells size (length bits)) [ inl is ↦ same_decided (join is.1) (parts is.1) there | inr few ↦ inr (none few.1) ]
  where
    states : List StateBin
    states = with_states start [] bins

    size : ℕ
    size = 9 + (interval states).doublings

    There : Type 0
    There = IsSegment states × (((interval states).low ≤ number (take size bits)) × (number (take size bits) + 1 ≤ (interval states).low + (interval states).range))

    there : Decided There
    there = both_decided (segment_decided states) (both_decided (most_decided (interval states).low (number (take size bits))) (most_decided (number (take size bits) + 1) ((interval states).low + (interval states).range)))

    none : length bits < size → BeginsWithCode start bins bits → ⊥
    none few h = omega (arith, few, ap length h.3, length-append h.0 h.1, h.2.size)

    join : size ≤ length bits → There → BeginsWithCode start bins bits
    join enough h = (
      take size bits,
      drop size bits,
      record { segment = h.0; size = length-take-le size bits enough; above = h.1.0; below = omega (arith, h.1.1) },
      sym (take-append-drop size bits),
    )

    parts : size ≤ length bits → BeginsWithCode start bins bits → There
    parts enough h =
        let same = same_parts h.0 (take size bits) h.1 (drop size bits) (h.2.size ∙ sym (length-take-le size bits enough)) (sym h.3 ∙ sym (take-append-drop size bits)) in
        subst (λ (l : List Bool). IsSegment states × (((interval states).low ≤ number l) × (number l + 1 ≤ (interval states).low + (interval states).range))) same.0
        (h.2.segment, (h.2.above, omega (arith, h.2.below)))

-- the code of these bins, and what follows it
abbrev pub IsCodeBefore : (ℕ → ℕ × Bool) → List Bin → List Bool → List Bool × List Bool → Type 0
IsCodeBefore start bins bits v = SegmentBits start bins v.0 × (bits ≡ v.0 ++ v.1)

pub one_code : (start : ℕ → ℕ × Bool) (bins : List Bin) (bits : List Bool) (v w : List Bool × List Bool) → IsCodeBefore start bins bits v → IsCodeBefore start bins bits w → v ≡ w
one_code start bins bits v w h k =
    let same = same_code start bins v.0 v.1 w.0 w.1 h.0 k.0 (sym h.1 ∙ k.1) in
    same_pair v.0 w.0 v.1 w.1 same.0 same.1

pub code_before_decided : (start : ℕ → ℕ × Bool) (bins : List Bin) (bits : List Bool) → Decided ((v : List Bool × List Bool) × IsCodeBefore start bins bits v)
code_before_decided start bins bits = same_decided (λ h. ((h.0, h.1), (h.2, h.3))) (λ h. (h.0.0, h.0.1, h.1.0, h.1.1)) (code_decided start bins bits)

-- ---- the last code of a slice

abbrev AreWords : List Bool → Type 0
AreWords bits = (words : ℕ) × (bits ≡ replicate (16 * words) false)

-- what is said of the last code, and of what follows it
abbrev IsLast : List Bool × List Bool → Type 0
IsLast v = EndsInOne v.0 × ((after : List Bool) × (v.1 ≡ alignment (length v.0) ++ after) × AreWords after)

is_last_decided : (v : List Bool × List Bool) → Decided (IsLast v)
is_last_decided v =
    both_decided (ends_in_one_decided v.0)
    (one_decided (λ after. v.1 ≡ alignment (length v.0) ++ after) AreWords (λ a b p q. append_cancel_left (alignment (length v.0)) a b (sym p ∙ q))
    (front_decided (alignment (length v.0)) v.1) (λ after e. words_decided after))

pub last_decided : (start : ℕ → ℕ × Bool) (earlier current : List Bin) (bits : List Bool) → Decided (Codes false start earlier current [] bits)
unfolding Codes
last_decided start earlier current bits =
    same_decided join parts
    (one_decided (IsCodeBefore (state_of start earlier) current bits) IsLast (one_code (state_of start earlier) current bits) (code_before_decided (state_of start earlier) current bits) (λ v h. is_last_decided v))
  where
    join : (v : List Bool × List Bool) × IsCodeBefore (state_of start earlier) current bits v × IsLast v → Codes false start earlier current [] bits
    join (v, (code, e), (ends, (after, e', (words, e'')))) =
        (v.0, words, code, ends, λ h. absurd cc, e ∙ ap (λ (l : List Bool). v.0 ++ l) (e' ∙ ap (λ (l : List Bool). alignment (length v.0) ++ l) e''))

    parts : Codes false start earlier current [] bits → (v : List Bool × List Bool) × IsCodeBefore (state_of start earlier) current bits v × IsLast v
    parts (code, words, is_code, ends, few, e) =
        ((code, alignment (length code) ++ replicate (16 * words) false), (is_code, e), (ends, (replicate (16 * words) false, refl, (words, refl))))
