-- No bits are the data of two lists.
use Rattle.std.proofs.Common.{◌≡◌, ℕ, ◌+◌, ◌^◌, ◌<◌, ◌≤◌, inr, Bool, true, false, List, [], ◌∷◌, ◌++◌, length, map, take, drop, refl, sym, ap, subst, ◌∙◌, append_assoc, length-append, length-drop, arith}
use Rattle.std.specs.Prelude.{All}
use Rattle.std.proofs.lemmas.List.{append_cancel_left, take-append-le}
use Rattle.std.proofs.lemmas.List.Elements.{All-head, All-tail}
use Rattle.bit_texts.specs.Bits.{number, bits_of}
use Rattle.bit_texts.proofs.Numbers.{number-window, number-take_below}
use Rattle.binarisation.specs.BinString.{BinString, Value, NoValue, Next, Spells}
use Rattle.cabac_interval.specs.Interval.{Interval, interval, IsCode, Begins as StartsIn, with_bin}
use Rattle.cabac_interval.specs.Laws.{LiesWithin}
use Rattle.cabac_interval.proofs.Parts.{scaled_above, scaled_below}
use Rattle.cabac_interval.proofs.Lists.{nested, same_next, Begins-code}
use Rattle.cabac_engine.specs.Bins.{Slot, at_end}
use Rattle.cabac_contexts.specs.Coders.{SegmentBits}
use Rattle.cabac_contexts.specs.States.{state_of, kind_after, with_states}
use Rattle.cabac_contexts.proofs.Steps.{with_states-push, with_states-append}
use Rattle.cabac_macroblock.specs.MacroblockLayer.{without_samples}
use Rattle.h264_types.specs.Kind.{is_i_pcm}
use Rattle.h264_types.specs.Valid.{IsMacroblock}
use Rattle.h264_types.specs.declared.macroblock.Mb.{Mb}
use Rattle.h264_types.specs.declared.slice_shape.SliceShape.{SliceShape}
use Rattle.pcm_samples.specs.Alignment.{alignment}
use Rattle.cabac_syntax.specs.SliceData.{Bin, Piece, coded, HasData, AreDataFrom, ArePieces, Begins, flag_behind, samples_of, ones, Codes}
use Rattle.cabac_syntax.proofs.CodeParts.{run, codes_segment, codes_bins, same_code}
use Rattle.cabac_syntax.proofs.EndLaws.{with_samples, one_sampled, samples_in}
use Rattle.cabac_syntax.proofs.KnowsLaws.{flag_of, flagged, behind_more}
use Rattle.cabac_syntax.proofs.MacroblockLaws.{bins_behind, none_sampled, no_samples}
use Rattle.cabac_syntax.proofs.Samples.{same_samples}

-- ---- the next bin

-- the bits begin with a number of an outer interval too
within : (bits : List Bool) (i j : Interval) → LiesWithin i j → StartsIn bits i → StartsIn bits j
within bits i j w b =
    let a = 9 + j.doublings in
    let n = w.more in
    let fits : a + n ≤ length bits = omega (arith, b.enough, w.doublings_are) in
    let same : 9 + i.doublings ≡ a + n = omega (arith, w.doublings_are) in
    let split = ap (λ k. number (take k bits)) same ∙ number-window bits a n fits in
    let rest = number-take_below n (drop a bits) (omega (arith, fits, length-drop a bits)) in
    let x = number (take a bits) in
    let t = number (take n (drop a bits)) in
    record {
      enough = omega (arith, fits);
      above = scaled_above j.low x (2 ^ n) t (omega (arith, b.above, split, w.above)) rest;
      below = scaled_below (j.low + j.range) x (2 ^ n) t (omega (arith, b.below, split, w.below));
    }

-- bits that begin with the code of a segment begin with a number of the interval of its first bins
starts_in : (start : ℕ → ℕ × Bool) (current later : List Bin) (bin : Bin) (code rest bits : List Bool) → SegmentBits start (current ++ bin ∷ later) code → bits ≡ code ++ rest
    → StartsIn bits (interval (with_bin (with_states start [] current) (kind_after start current bin.0) bin.1))
starts_in start current later bin code rest bits c e =
    let first = with_states start [] (current ++ bin ∷ []) in
    let more = with_states start (current ++ bin ∷ []) later in
    let split : with_states start [] (current ++ bin ∷ later) ≡ first ++ more =
    ap (with_states start []) (sym (append_assoc current (bin ∷ []) later)) ∙ with_states-append start [] (current ++ bin ∷ []) later in
    let whole : IsCode (first ++ more) code = subst (λ bins. IsCode bins code) split c in
    let b = within code (interval (first ++ more)) (interval first) (nested first more (inr whole.segment)) (Begins-code (first ++ more) code whole) in
    let n = 9 + (interval first).doublings in
    let same : take n bits ≡ take n code = ap (take n) e ∙ take-append-le n code rest b.enough in
    let there : StartsIn bits (interval first) = record {
      enough = omega (arith, b.enough, ap length e, length-append code rest);
      above = subst (λ x. (interval first).low ≤ number x) (sym same) b.above;
      below = subst (λ x. number x < (interval first).low + (interval first).range) (sym same) b.below;
    } in
    subst (λ bins. StartsIn bits (interval bins)) (with_states-push start current bin.0 bin.1) there

next_in : (start : ℕ → ℕ × Bool) (earlier current : List Bin) (bin : Bin) (pieces : List Piece) (bits : List Bool) → Codes false start earlier current (coded bin ∷ pieces) bits
    → StartsIn bits (interval (with_bin (with_states (state_of start earlier) [] current) (kind_after (state_of start earlier) current bin.0) bin.1))
next_in start earlier current bin pieces bits c =
    let s = codes_segment false start earlier current (coded bin ∷ pieces) bits c in
    starts_in (state_of start earlier) current (run pieces) bin s.0 s.1 bits s.2 s.3

same_bin : (start : ℕ → ℕ × Bool) (earlier current : List Bin) (slot : Slot) (b b' : Bool) (p q : List Piece) (bits : List Bool) → Codes false start earlier current (coded (slot, b) ∷ p) bits → Codes false start earlier current (coded (slot, b') ∷ q) bits → b ≡ b'
same_bin start earlier current slot b b' p q bits c d =
    same_next bits (with_states (state_of start earlier) [] current) (kind_after (state_of start earlier) current slot) b b' (next_in start earlier current (slot, b) p bits c) (next_in start earlier current (slot, b') q bits d)

-- ---- the bins of a string

same_spelled : {A : Type 0} (start : ℕ → ℕ × Bool) (earlier current : List Bin) (string : BinString A) (bins others : List Bin) (v w : A) (p q : List Piece) (bits : List Bool) → Spells string bins v → Spells string others w
    → Codes false start earlier current (map coded bins ++ p) bits → Codes false start earlier current (map coded others ++ q) bits → (bins ≡ others) × (v ≡ w)
unfolding Codes
same_spelled start earlier current (Value x) [] [] v w p q bits s t c d = (refl, sym s.1 ∙ t.1)
same_spelled start earlier current (Value x) [] (o ∷ others) v w p q bits s t c d = absurd cc
same_spelled start earlier current (Value x) (b ∷ bins) others v w p q bits s t c d = absurd cc
same_spelled start earlier current NoValue bins others v w p q bits s t c d = absurd s
same_spelled start earlier current (Next slot rest) [] others v w p q bits s t c d = absurd s
same_spelled start earlier current (Next slot rest) (b ∷ bins) [] v w p q bits s t c d = absurd t
same_spelled start earlier current (Next slot rest) ((k, b) ∷ bins) ((l, o) ∷ others) v w p q bits s t c d =
    let slots : l ≡ k = t.0 ∙ sym s.0 in
    let there : Codes false start earlier current (coded (k, o) ∷ (map coded others ++ q)) bits = subst (λ (x : Slot). Codes false start earlier current (coded (x, o) ∷ (map coded others ++ q)) bits) slots d in
    let same : o ≡ b = sym (same_bin start earlier current k b o (map coded bins ++ p) (map coded others ++ q) bits c there) in
    let more = same_spelled start earlier (current ++ (k, b) ∷ []) (rest b) bins others v w p q bits s.1 (subst (λ (x : Bool). Spells (rest x) others w) same t.1) c
    (subst (λ (x : Bool). Codes false start earlier (current ++ (k, x) ∷ []) (map coded others ++ q) bits) same there) in
    (ap (λ (x : List Bin). (k, b) ∷ x) more.0 ∙ ap (λ (x : Bool). (k, x) ∷ others) (sym same) ∙ ap (λ (x : Slot). (x, o) ∷ others) (sym slots), more.1)

-- ---- macroblocks

-- the same macroblock stands next, and behind it the same bits are those of what follows
record SameNext (start : ℕ → ℕ × Bool) (mb other : Mb) (p q : List Piece) : Type 0 where
  same : mb ≡ other
  earlier : List Bin
  current : List Bin
  bits : List Bool
  first : Codes false start earlier current p bits
  second : Codes false start earlier current q bits

same_next_mb : (start : ℕ → ℕ × Bool) (shape : SliceShape) (done : List Mb) (mb other : Mb) (p q x y : List Piece) (earlier current : List Bin) (bits : List Bool) → IsMacroblock shape mb → IsMacroblock shape other
    → Begins shape done mb p x → Begins shape done other q y → Codes false start earlier current x bits → Codes false start earlier current y bits → SameNext start mb other p q
unfolding Codes
same_next_mb start shape done mb other p q x y earlier current bits is is' (bins, spelled, e) (others, spelled', e') c d = by (is_i_pcm mb.kind) refl
  where
    c' : Codes false start earlier current (map coded bins ++ (samples_of mb ++ p)) bits
    c' = subst (λ (l : List Piece). Codes false start earlier current l bits) e c

    d' : Codes false start earlier current (map coded others ++ (samples_of other ++ q)) bits
    d' = subst (λ (l : List Piece). Codes false start earlier current l bits) e' d

    both : (bins ≡ others) × (without_samples mb ≡ without_samples other)
    both = same_spelled start earlier current (bins_behind shape done) bins others (without_samples mb) (without_samples other) (samples_of mb ++ p) (samples_of other ++ q) bits spelled spelled' c' d'

    kinds : is_i_pcm mb.kind ≡ is_i_pcm other.kind
    kinds = ap (λ (m : Mb). is_i_pcm m.kind) both.1

    behind : Codes false start earlier (current ++ bins) (samples_of mb ++ p) bits
    behind = codes_bins false start earlier current bins (samples_of mb ++ p) bits c'

    behind' : Codes false start earlier (current ++ bins) (samples_of other ++ q) bits
    behind' = subst (λ (l : List Bin). Codes false start earlier (current ++ l) (samples_of other ++ q) bits) (sym both.0) (codes_bins false start earlier current others (samples_of other ++ q) bits d')

    by : (b : Bool) → is_i_pcm mb.kind ≡ b → SameNext start mb other p q
    by false plain =
        let plain' : is_i_pcm other.kind ≡ false = sym kinds ∙ plain in
        record {
          same = sym (none_sampled shape mb is plain) ∙ both.1 ∙ none_sampled shape other is' plain';
          earlier = earlier;
          current = current ++ bins;
          bits = bits;
          first = subst (λ (l : List Piece). Codes false start earlier (current ++ bins) (l ++ p) bits) (no_samples mb plain) behind;
          second = subst (λ (l : List Piece). Codes false start earlier (current ++ bins) (l ++ q) bits) (no_samples other plain') behind';
        }
    by true pcm =
        let pcm' : is_i_pcm other.kind ≡ true = sym kinds ∙ pcm in
        let f = subst (λ (l : List Piece). Codes false start earlier (current ++ bins) l bits) (one_sampled mb p pcm) behind in
        let s = subst (λ (l : List Piece). Codes false start earlier (current ++ bins) l bits) (one_sampled other q pcm') behind' in
        let codes = same_code (state_of start earlier) (current ++ bins) f.0 (alignment (length f.0) ++ (bits_of mb.pcm ++ f.1)) s.0 (alignment (length s.0) ++ (bits_of other.pcm ++ s.1)) f.2 s.2 (sym f.4 ∙ s.4) in
        let there : alignment (length s.0) ++ (bits_of other.pcm ++ s.1) ≡ alignment (length f.0) ++ (bits_of other.pcm ++ s.1) = ap (λ (l : List Bool). alignment (length l) ++ (bits_of other.pcm ++ s.1)) (sym codes.0) in
        let samples = same_samples (length f.0) mb.pcm other.pcm f.1 s.1 (alignment (length f.0) ++ (bits_of mb.pcm ++ f.1)) (samples_in shape mb is pcm) (samples_in shape other is' pcm') refl (codes.1 ∙ there) in
        record {
          same = ap (λ (m : Mb). with_samples m mb.pcm) both.1 ∙ ap (λ (l : List ℕ). with_samples other l) samples.0;
          earlier = earlier ++ (current ++ bins);
          current = [];
          bits = f.1;
          first = f.5;
          second = subst (λ (l : List Bool). Codes false start (earlier ++ (current ++ bins)) [] q l) (sym samples.1) s.5;
        }

-- ---- lists

-- behind macroblocks a flag stands first
behind_flag : (start : ℕ → ℕ × Bool) (done : List Mb) (p x : List Piece) (earlier current : List Bin) (bits : List Bool) → 0 < length done → p ≡ flag_behind done ++ x → Codes false start earlier current p bits
    → Codes false start earlier (current ++ (at_end, false) ∷ []) x bits
unfolding Codes
behind_flag start done p x earlier current bits some e c =
    subst (λ (l : List Piece). Codes false start earlier current l bits) (e ∙ ap (λ (l : List Piece). l ++ x) (behind_more done some)) c

-- the flag tells whether a macroblock follows
same_flag : (start : ℕ → ℕ × Bool) (shape : SliceShape) (done first second : List Mb) (p q : List Piece) (earlier current : List Bin) (bits : List Bool) → 0 < length done
    → ArePieces shape done first p → ArePieces shape done second q → Codes false start earlier current p bits → Codes false start earlier current q bits → flag_of first ≡ flag_of second
same_flag start shape done first second p q earlier current bits some are are' c d =
    let f = flagged shape done first p some are in
    let s = flagged shape done second q some are' in
    same_bin start earlier current at_end (flag_of first) (flag_of second) f.0 s.0 bits (subst (λ (l : List Piece). Codes false start earlier current l bits) f.1 c) (subst (λ (l : List Piece). Codes false start earlier current l bits) s.1 d)

-- lists that go on behind the same macroblocks
one_tail : (start : ℕ → ℕ × Bool) (shape : SliceShape) (done first second : List Mb) (p q : List Piece) (earlier current : List Bin) (bits : List Bool) → 0 < length done → All (IsMacroblock shape) first → All (IsMacroblock shape) second
    → ArePieces shape done first p → ArePieces shape done second q → Codes false start earlier current p bits → Codes false start earlier current q bits → first ≡ second
unfolding ArePieces
one_tail start shape done [] [] p q earlier current bits some all all' are are' c d = refl
one_tail start shape done [] (other ∷ second) p q earlier current bits some all all' are are' c d =
    let flag : true ≡ false = same_flag start shape done [] (other ∷ second) p q earlier current bits some are are' c d in
    absurd cc
one_tail start shape done (mb ∷ first) [] p q earlier current bits some all all' are are' c d =
    let flag : false ≡ true = same_flag start shape done (mb ∷ first) [] p q earlier current bits some are are' c d in
    absurd cc
one_tail start shape done (mb ∷ first) (other ∷ second) p q earlier current bits some all all' (x, rest, e, begins, are) (y, rest', e', begins', are') c d =
    let n = same_next_mb start shape done mb other rest rest' x y earlier (current ++ (at_end, false) ∷ []) bits (All-head (IsMacroblock shape) mb first all) (All-head (IsMacroblock shape) other second all') begins begins'
    (behind_flag start done p x earlier current bits some e c) (behind_flag start done q y earlier current bits some e' d) in
    let more = one_tail start shape (done ++ mb ∷ []) first second rest rest' n.earlier n.current n.bits (omega (arith, length-append done (mb ∷ []))) (All-tail (IsMacroblock shape) mb first all) (All-tail (IsMacroblock shape) other second all')
    are (subst (λ (m : Mb). ArePieces shape (done ++ m ∷ []) second rest') (sym n.same) are') n.first n.second in
    ap (λ (m : Mb). m ∷ first) n.same ∙ ap (λ (l : List Mb). other ∷ l) more

one_from : (start : ℕ → ℕ × Bool) (shape : SliceShape) (first second : List Mb) (p q : List Piece) (body : List Bool) → HasData shape first → HasData shape second → ArePieces shape [] first p → ArePieces shape [] second q
    → Codes false start [] [] p body → Codes false start [] [] q body → first ≡ second
unfolding ArePieces
one_from start shape [] second p q body has has' are are' c d = absurd (omega (arith, has.slice.some))
one_from start shape (mb ∷ first) [] p q body has has' are are' c d = absurd (omega (arith, has'.slice.some))
one_from start shape (mb ∷ first) (other ∷ second) p q body has has' (x, rest, e, begins, are) (y, rest', e', begins', are') c d =
    let all = has.slice.macroblocks in
    let all' = has'.slice.macroblocks in
    let n = same_next_mb start shape [] mb other rest rest' x y [] [] body (All-head (IsMacroblock shape) mb first all) (All-head (IsMacroblock shape) other second all') begins begins'
    (subst (λ (l : List Piece). Codes false start [] [] l body) e c) (subst (λ (l : List Piece). Codes false start [] [] l body) e' d) in
    let more = one_tail start shape (mb ∷ []) first second rest rest' n.earlier n.current n.bits (omega arith) (All-tail (IsMacroblock shape) mb first all) (All-tail (IsMacroblock shape) other second all')
    are (subst (λ (m : Mb). ArePieces shape (m ∷ []) second rest') (sym n.same) are') n.first n.second in
    ap (λ (m : Mb). m ∷ first) n.same ∙ ap (λ (l : List Mb). other ∷ l) more

pub one_list_of : (start : ℕ → ℕ × Bool) (shape : SliceShape) (pos : ℕ) (first second : List Mb) (bits : List Bool) → HasData shape first → HasData shape second
    → AreDataFrom false start shape pos first bits → AreDataFrom false start shape pos second bits → first ≡ second
one_list_of start shape pos first second bits has has' (p, body, are, e, c) (q, body', are', e', d) =
    let same : body' ≡ body = append_cancel_left (ones pos) body' body (sym e' ∙ e) in
    one_from start shape first second p q body has has' are are' c (subst (λ (l : List Bool). Codes false start [] [] q l) same d)
