-- Data without samples and without zero words are in normal form.
use Rattle.std.proofs.Common.{◌≡◌, ℕ, zero, suc, ◌+◌, ◌*◌, ◌<◌, Bool, true, false, List, [], ◌∷◌, ◌++◌, length, map, replicate, refl, sym, ap, subst, ◌∙◌, arith, append_assoc}
use Rattle.std.specs.Prelude.{All}
use Rattle.std.proofs.lemmas.List.{replicate-append-replicate}
use Rattle.cabac_syntax.specs.SliceData.{Bin, Piece, coded, sampled, samples_of, flag_behind, ArePieces, Codes, IsData, IsNormalData, ones}
use Rattle.h264_types.specs.Kind.{is_i_pcm}
use Rattle.h264_types.specs.declared.macroblock.Mb.{Mb}
use Rattle.h264_types.specs.declared.slice_shape.SliceShape.{SliceShape}
use Rattle.init_table.specs.declared.table.InitTable.{InitTable}
use Rattle.pcm_samples.specs.Alignment.{alignment}
use Rattle.cabac_syntax.proofs.MacroblockLaws.{no_samples}

-- all of it is bins
abbrev HasNoSamples : List Piece → Type 0
HasNoSamples [] = Unit {0}
HasNoSamples (coded bin ∷ pieces) = HasNoSamples pieces
HasNoSamples (sampled samples ∷ pieces) = ⊥

none_behind : (front rest : List Piece) → HasNoSamples front → HasNoSamples rest → HasNoSamples (front ++ rest)
none_behind [] rest h k = k
none_behind (coded bin ∷ front) rest h k = none_behind front rest h k
none_behind (sampled samples ∷ front) rest h k = absurd h

none_in_bins : (bins : List Bin) → HasNoSamples (map coded bins)
none_in_bins [] = tt
none_in_bins (bin ∷ bins) = none_in_bins bins

none_in_flag : (before : List Mb) → HasNoSamples (flag_behind before)
none_in_flag [] = tt
none_in_flag (mb ∷ mbs) = tt

none_in_pieces : (shape : SliceShape) (before mbs : List Mb) (pieces : List Piece) → All (λ mb. is_i_pcm mb.kind ≡ false) mbs → ArePieces shape before mbs pieces → HasNoSamples pieces
unfolding ArePieces
none_in_pieces shape before [] pieces all are = subst HasNoSamples (sym are) tt
none_in_pieces shape before (mb ∷ mbs) pieces all are =
    let later = none_in_pieces shape (before ++ mb ∷ []) mbs are.1 (λ k d below. all (suc k) d (omega (arith, below))) are.4 in
    let samples = no_samples mb (all 0 mb (omega arith)) in
    let behind : HasNoSamples (samples_of mb ++ are.1) = subst HasNoSamples (sym (ap (λ (l : List Piece). l ++ are.1) samples)) later in
    let first : HasNoSamples are.0 = subst HasNoSamples (sym are.3.2) (none_behind (map coded are.3.0) (samples_of mb ++ are.1) (none_in_bins are.3.0) behind) in
    subst HasNoSamples (sym are.2) (none_behind (flag_behind before) are.0 (none_in_flag before) first)

-- the bits end in no cabac_zero_word
abbrev pub EndsInData : List Bool → Type 0
EndsInData bits = (front : List Bool) → bits ≡ front ++ replicate 16 false → ⊥

no_words : (bits front : List Bool) (words : ℕ) → EndsInData bits → bits ≡ front ++ replicate (16 * words) false → words ≡ 0
no_words bits front zero ends e = refl
no_words bits front (suc w) ends e =
    let more : replicate (16 * (suc w)) false ≡ replicate (16 * w) false ++ replicate 16 false = ap (λ n. replicate n false) (omega arith) ∙ sym (replicate-append-replicate (16 * w) 16 false) in
    absurd (ends (front ++ replicate (16 * w) false) (e ∙ ap (λ z. front ++ z) more ∙ sym (append_assoc front (replicate (16 * w) false) (replicate 16 false))))

normal_codes : (start : ℕ → ℕ × Bool) (earlier current : List Bin) (pieces : List Piece) (bits : List Bool) → HasNoSamples pieces → EndsInData bits → Codes false start earlier current pieces bits → Codes true start earlier current pieces bits
unfolding Codes
normal_codes start earlier current [] bits none ends c =
    (c.0, c.1, c.2, c.3, λ normal. no_words bits (c.0 ++ alignment (length c.0)) c.1 ends (c.5 ∙ sym (append_assoc c.0 (alignment (length c.0)) (replicate (16 * c.1) false))), c.5)
normal_codes start earlier current (coded bin ∷ pieces) bits none ends c = normal_codes start earlier (current ++ bin ∷ []) pieces bits none ends c
normal_codes start earlier current (sampled samples ∷ pieces) bits none ends c = absurd none

pub normal_data : (init : InitTable) (shape : SliceShape) (pos : ℕ) (mbs : List Mb) (bits : List Bool) → All (λ mb. is_i_pcm mb.kind ≡ false) mbs → EndsInData bits → IsData init shape pos mbs bits → IsNormalData init shape pos mbs bits
normal_data init shape pos mbs bits all ends is =
    let body_ends : EndsInData is.1 = λ front e. ends (ones pos ++ front) (is.3 ∙ ap (λ b. ones pos ++ b) e ∙ sym (append_assoc (ones pos) front (replicate 16 false))) in
    (is.0, is.1, is.2, is.3, normal_codes _ [] [] is.0 is.1 (none_in_pieces shape [] mbs is.0 all is.2) body_ends is.4)
