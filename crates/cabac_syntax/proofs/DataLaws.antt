-- What data of a slice are, whatever their list.
use Rattle.std.proofs.Common.{◌≡◌, ℕ, ◌+◌, ◌-◌, ◌*◌, ◌%◌, ◌<◌, Bool, true, false, List, [], ◌∷◌, ◌++◌, length, map, replicate, refl, sym, ap, subst, ◌∙◌, append_assoc, append-nil, length-append, arith}
use Rattle.std.proofs.lemmas.List.{length-replicate}
use Rattle.bit_texts.specs.Bits.{bits_of}
use Rattle.bit_texts.proofs.Bytes.{length-bits_of}
use Rattle.cabac_interval.proofs.Lists.{same_closing}
use Rattle.cabac_contexts.specs.States.{state_of, with_states}
use Rattle.h264_types.specs.declared.macroblock.Mb.{Mb}
use Rattle.h264_types.specs.declared.slice_shape.SliceShape.{SliceShape}
use Rattle.pcm_samples.specs.Alignment.{alignment}
use Rattle.cabac_syntax.specs.SliceData.{Bin, Piece, coded, sampled, AreDataFrom, ArePieces, flag_behind, samples_of, ones, Codes}
use Rattle.cabac_syntax.proofs.MacroblockLaws.{one_string}

-- ---- the normal form

normal_codes : (start : ℕ → ℕ × Bool) (earlier current : List Bin) (pieces : List Piece) (bits : List Bool) → Codes true start earlier current pieces bits → Codes false start earlier current pieces bits
unfolding Codes
normal_codes start earlier current [] bits (code, words, segment, ends, none, e) = (code, words, segment, ends, λ h. absurd cc, e)
normal_codes start earlier current (coded bin ∷ pieces) bits c = normal_codes start earlier (current ++ bin ∷ []) pieces bits c
normal_codes start earlier current (sampled samples ∷ pieces) bits (code, rest, segment, ends, e, c) = (code, rest, segment, λ h. absurd cc, e, normal_codes start (earlier ++ current) [] pieces rest c)

pub normal_data : (start : ℕ → ℕ × Bool) (shape : SliceShape) (pos : ℕ) (mbs : List Mb) (bits : List Bool) → AreDataFrom true start shape pos mbs bits → AreDataFrom false start shape pos mbs bits
normal_data start shape pos mbs bits (pieces, body, are, e, codes) = (pieces, body, are, e, normal_codes start [] [] pieces body codes)

-- a list has one list of pieces
one_pieces : (shape : SliceShape) (before mbs : List Mb) (pieces others : List Piece) → ArePieces shape before mbs pieces → ArePieces shape before mbs others → pieces ≡ others
unfolding ArePieces
one_pieces shape before [] pieces others p q = p ∙ sym q
one_pieces shape before (mb ∷ mbs) pieces others (first, rest, e, begins, are) (first', rest', e', begins', are') =
    let bins : begins.0 ≡ begins'.0 = one_string shape before begins.0 begins'.0 _ begins.1 begins'.1 in
    let behind : rest ≡ rest' = one_pieces shape (before ++ mb ∷ []) mbs rest rest' are are' in
    e ∙ ap (λ (l : List Piece). flag_behind before ++ l)
    (begins.2 ∙ ap (λ (l : List Bin). map coded l ++ (samples_of mb ++ rest)) bins ∙ ap (λ (l : List Piece). map coded begins'.0 ++ (samples_of mb ++ l)) behind ∙ sym begins'.2) ∙ sym e'

one_codes : (start : ℕ → ℕ × Bool) (earlier current : List Bin) (pieces : List Piece) (bits others : List Bool) → Codes true start earlier current pieces bits → Codes true start earlier current pieces others → bits ≡ others
unfolding Codes
one_codes start earlier current [] bits others (code, words, segment, ends, none, e) (code', words', segment', ends', none', e') =
    let same : code ≡ code' = same_closing (with_states (state_of start earlier) [] current) code code' (record { is_code = segment; last_is_one = ends }) (record { is_code = segment'; last_is_one = ends' }) in
    let few : words ≡ words' = none refl ∙ sym (none' refl) in
    e ∙ ap (λ (l : List Bool). l ++ (alignment (length l) ++ replicate (16 * words) false)) same ∙ ap (λ (n : ℕ). code' ++ (alignment (length code') ++ replicate (16 * n) false)) few ∙ sym e'
one_codes start earlier current (coded bin ∷ pieces) bits others c d = one_codes start earlier (current ++ bin ∷ []) pieces bits others c d
one_codes start earlier current (sampled samples ∷ pieces) bits others (code, rest, segment, ends, e, c) (code', rest', segment', ends', e', c') =
    let same : code ≡ code' = same_closing (with_states (state_of start earlier) [] current) code code' (record { is_code = segment; last_is_one = ends refl }) (record { is_code = segment'; last_is_one = ends' refl }) in
    let behind : rest ≡ rest' = one_codes start (earlier ++ current) [] pieces rest rest' c c' in
    e ∙ ap (λ (l : List Bool). l ++ (alignment (length l) ++ (bits_of samples ++ rest))) same ∙ ap (λ (l : List Bool). code' ++ (alignment (length code') ++ (bits_of samples ++ l))) behind ∙ sym e'

pub one_normal : (start : ℕ → ℕ × Bool) (shape : SliceShape) (pos : ℕ) (mbs : List Mb) (bits others : List Bool) → AreDataFrom true start shape pos mbs bits → AreDataFrom true start shape pos mbs others → bits ≡ others
one_normal start shape pos mbs bits others (pieces, body, are, e, codes) (pieces', body', are', e', codes') =
    let same : pieces ≡ pieces' = one_pieces shape [] mbs pieces pieces' are are' in
    e ∙ ap (λ (l : List Bool). ones pos ++ l) (one_codes start [] [] pieces body body' codes (subst (λ (l : List Piece). Codes true start [] [] l body') (sym same) codes')) ∙ sym e'

-- ---- whole bytes

-- a code with zero bits up to the byte boundary fills bytes
filled : (code behind : List Bool) → length behind % 8 ≡ 0 → length (code ++ (alignment (length code) ++ behind)) % 8 ≡ 0
filled code behind e =
    let gap = length-replicate ((8 - length code % 8) % 8) false in
    omega (arith, e, gap, length-append code (alignment (length code) ++ behind), length-append (alignment (length code)) behind)

codes_fill : (normal : Bool) (start : ℕ → ℕ × Bool) (earlier current : List Bin) (pieces : List Piece) (bits : List Bool) → Codes normal start earlier current pieces bits → length bits % 8 ≡ 0
unfolding Codes
codes_fill normal start earlier current [] bits (code, words, segment, ends, none, e) =
    let size = length-replicate (16 * words) false in
    subst (λ (l : List Bool). length l % 8 ≡ 0) (sym e) (filled code (replicate (16 * words) false) (omega (arith, size)))
codes_fill normal start earlier current (coded bin ∷ pieces) bits c = codes_fill normal start earlier (current ++ bin ∷ []) pieces bits c
codes_fill normal start earlier current (sampled samples ∷ pieces) bits (code, rest, segment, ends, e, c) =
    let behind = codes_fill normal start (earlier ++ current) [] pieces rest c in
    subst (λ (l : List Bool). length l % 8 ≡ 0) (sym e) (filled code (bits_of samples ++ rest) (omega (arith, behind, length-append (bits_of samples) rest, length-bits_of samples)))

pub data_fill : (normal : Bool) (start : ℕ → ℕ × Bool) (shape : SliceShape) (pos : ℕ) (mbs : List Mb) (bits : List Bool) → AreDataFrom normal start shape pos mbs bits → (pos + length bits) % 8 ≡ 0
data_fill normal start shape pos mbs bits (pieces, body, are, e, codes) =
    let gap = length-replicate ((8 - pos % 8) % 8) true in
    omega (arith, codes_fill normal start [] [] pieces body codes, gap, ap length e, length-append (ones pos) body)

-- ---- the stop bit

-- bits that end in a 1 and fewer zeros than a byte has
abbrev pub EndsInStop : List Bool → Type 0
EndsInStop bits = (front : List Bool) × (zeros : ℕ) × (zeros < 8) × (bits ≡ front ++ true ∷ replicate zeros false)

stop_behind : (before bits : List Bool) → EndsInStop bits → EndsInStop (before ++ bits)
stop_behind before bits (front, zeros, few, e) = (before ++ front, zeros, few, ap (λ (l : List Bool). before ++ l) e ∙ sym (append_assoc before front (true ∷ replicate zeros false)))

codes_stop : (start : ℕ → ℕ × Bool) (earlier current : List Bin) (pieces : List Piece) (bits : List Bool) → Codes true start earlier current pieces bits → EndsInStop bits
unfolding Codes
codes_stop start earlier current [] bits (code, words, segment, ends, none, e) = (
  ends.0,
  (8 - length code % 8) % 8,
  omega arith,
  e ∙ ap (λ (n : ℕ). code ++ (alignment (length code) ++ replicate (16 * n) false)) (none refl) ∙ ap (λ (l : List Bool). code ++ l) (append-nil (alignment (length code)))
      ∙ ap (λ (l : List Bool). l ++ alignment (length code)) ends.1 ∙ append_assoc ends.0 (true ∷ []) (alignment (length code)),
)
codes_stop start earlier current (coded bin ∷ pieces) bits c = codes_stop start earlier (current ++ bin ∷ []) pieces bits c
codes_stop start earlier current (sampled samples ∷ pieces) bits (code, rest, segment, ends, e, c) =
    subst EndsInStop (sym e) (stop_behind code (alignment (length code) ++ (bits_of samples ++ rest)) (stop_behind (alignment (length code)) (bits_of samples ++ rest) (stop_behind (bits_of samples) rest (codes_stop start (earlier ++ current) [] pieces rest c))))

pub data_stop : (start : ℕ → ℕ × Bool) (shape : SliceShape) (pos : ℕ) (mbs : List Mb) (bits : List Bool) → AreDataFrom true start shape pos mbs bits → EndsInStop bits
data_stop start shape pos mbs bits (pieces, body, are, e, codes) = subst EndsInStop (sym e) (stop_behind (ones pos) body (codes_stop start [] [] pieces body codes))
