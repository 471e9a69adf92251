-- Bits are the data of a list, or of none: all that the bins of macroblocks can spell is tried, one macroblock after another.
use Rattle.std.proofs.Common.{◌≡◌, ℕ, zero, suc, ◌+◌, ◌-◌, ◌*◌, ◌≤◌, ◌⊎◌, inl, inr, Bool, true, false, List, [], ◌∷◌, ◌++◌, length, map, refl, sym, ap, subst, ◌∙◌, arith}
use Rattle.std.specs.Prelude.{All}
use Rattle.std.proofs.lemmas.List.{append_cancel_left}
use Rattle.std.proofs.lemmas.List.Elements.{All-nil, All-cons, All-head, All-tail, All-weaker}
use Rattle.bit_texts.specs.Bits.{bits_of}
use Rattle.binarisation.specs.BinString.{Spells}
use Rattle.cabac_contexts.specs.States.{state_of}
use Rattle.cabac_engine.specs.Bins.{at_end}
use Rattle.cabac_macroblock.specs.MacroblockLayer.{without_samples}
use Rattle.cabac_macroblock.specs.MbType.{of_kind}
use Rattle.cabac_macroblock.proofs.ValidMacroblock.{macroblock_pcm, pcm_valid}
use Rattle.cabac_mb_residual.specs.Levels.{IsResidual}
use Rattle.h264_types.specs.Kind.{is_i_pcm}
use Rattle.h264_types.specs.Valid.{IsMacroblock}
use Rattle.h264_types.specs.declared.macroblock.Mb.{Mb}
use Rattle.h264_types.specs.declared.macroblock.MbKind.TheVariants.{Intra}
use Rattle.h264_types.specs.declared.slice_shape.SliceShape.{SliceShape}
use Rattle.pcm_samples.specs.Alignment.{alignment}
use Rattle.pcm_samples.specs.Samples.{AreSamples}
use Rattle.slice_data.specs.Reading.{NoList}
use Rattle.cabac_syntax.specs.SliceData.{Bin, Piece, coded, sampled, IsBuiltShape, HasData, AreDataFrom, ArePieces, flag_behind, samples_of, ones, Codes}
use Rattle.cabac_syntax.specs.Standing.{HasSamples}
use Rattle.cabac_syntax.proofs.CodeParts.{codes_bins, bins_codes}
use Rattle.cabac_syntax.proofs.CodesDecided.{IsCodeBefore, one_code, code_before_decided, last_decided}
use Rattle.cabac_syntax.proofs.Decisions.{Decided, same_decided, both_decided, either_decided, one_decided, same_pair, most_decided, front_decided, bytes_decided, spelled_decided}
use Rattle.cabac_syntax.proofs.EndLaws.{with_samples, one_sampled, samples_in}
use Rattle.cabac_syntax.proofs.MacroblockLaws.{bins_behind, IsValid, spelled_valid, none_sampled, no_samples}
use Rattle.cabac_syntax.proofs.Samples.{same_samples}

-- ---- what is spelled is valid

spelled_pcm : (shape : SliceShape) (done : List Mb) (bins : List Bin) (read : Mb) → Spells (bins_behind shape done) bins read → is_i_pcm read.kind ≡ true
    → (without_samples read ≡ read) × ((xs : List ℕ) → AreSamples xs → IsValid shape (with_samples read xs))
spelled_pcm shape done bins read spelled pcm =
    let is : read ≡ of_kind false (Intra 25) = macroblock_pcm shape done (length done) false bins read spelled pcm in
    (ap without_samples is ∙ sym is, λ xs are. let whole = pcm_valid shape xs are.count are.bytes in subst (λ (m : Mb). IsValid shape (with_samples m xs)) (sym is) (whole.0, whole.1, refl))

-- ---- samples

-- samples, and what follows them
abbrev AreSamplesBefore : ℕ → List Bool → List ℕ × List Bool → Type 0
AreSamplesBefore pos bits w = AreSamples w.0 × HasSamples pos w.0 w.1 bits

one_row : (pos : ℕ) (bits : List Bool) (v w : List ℕ × List Bool) → AreSamplesBefore pos bits v → AreSamplesBefore pos bits w → v ≡ w
one_row pos bits v w h k =
    let same = same_samples pos v.0 w.0 v.1 w.1 bits h.0 k.0 h.1 k.1 in
    same_pair v.0 w.0 v.1 w.1 same.0 same.1

samples_decided : (pos : ℕ) (bits : List Bool) → Decided ((w : List ℕ × List Bool) × AreSamplesBefore pos bits w)
samples_decided pos bits =
    same_decided
    (λ h. ((h.2.0, h.2.1), (record { count = h.2.2; bytes = h.2.3 }, h.1 ∙ ap (λ (l : List Bool). alignment pos ++ l) h.2.4)))
    (λ h. (bits_of h.0.0 ++ h.0.1, h.1.1, (h.0.0, h.0.1, h.1.0.count, h.1.0.bytes, refl)))
    (one_decided (λ after. bits ≡ alignment pos ++ after) (λ after. (xs : List ℕ) × (rest : List Bool) × (length xs ≡ 384) × All (λ x. x ≤ 255) xs × (after ≡ bits_of xs ++ rest))
    (λ a b p q. append_cancel_left (alignment pos) a b (sym p ∙ q)) (front_decided (alignment pos) bits) (λ after e. bytes_decided 384 after))

-- ---- the flag behind macroblocks

abbrev flag_bins : List Mb → List Bin
flag_bins [] = []
flag_bins (mb ∷ mbs) = (at_end, false) ∷ []

flags : (done : List Mb) → flag_behind done ≡ map coded (flag_bins done)
flags [] = refl
flags (mb ∷ mbs) = refl

-- ---- macroblocks

module _ (start : ℕ → ℕ × Bool) (shape : SliceShape) where
  -- macroblocks behind `done`, at most so many, up to the end of the slice, whose codes are these bits
  abbrev Rest : ℕ → List Mb → List Bin → List Bin → List Bool → Type 0
  Rest most done earlier current bits =
      (mbs : List Mb) × (pieces : List Piece) × (length mbs ≤ most) × All (IsValid shape) mbs × ArePieces shape done mbs pieces × Codes false start earlier current pieces bits

  abbrev IsDecision : ℕ → Type 0
  IsDecision most = (done : List Mb) (earlier current : List Bin) (bits : List Bool) → Decided (Rest most done earlier current bits)

  -- a macroblock whose bins spelled this one, and then at most so many others
  abbrev Behind : ℕ → List Mb → Mb → List Bin → List Bin → List Bool → Type 0
  Behind most done read earlier current bits =
      (mb : Mb) × (mbs : List Mb) × (rest : List Piece) × (without_samples mb ≡ read) × IsValid shape mb × (length mbs ≤ most) × All (IsValid shape) mbs
      × ArePieces shape (done ++ mb ∷ []) mbs rest × Codes false start earlier current (samples_of mb ++ rest) bits

  plain_decided : (most : ℕ) (done : List Mb) (read : Mb) (earlier current : List Bin) (bits : List Bool) → is_i_pcm read.kind ≡ false → IsValid shape read → IsDecision most
      → Decided (Behind most done read earlier current bits)
  plain_decided most done read earlier current bits other valid decided = same_decided join parts (decided (done ++ read ∷ []) earlier current bits)
    where
      join : Rest most (done ++ read ∷ []) earlier current bits → Behind most done read earlier current bits
      join (mbs, pieces, few, are, pieces_are, codes) =
          let none : samples_of read ++ pieces ≡ pieces = ap (λ (l : List Piece). l ++ pieces) (no_samples read other) in
          (read, mbs, pieces, none_sampled shape read valid.0 other, valid, few, are, pieces_are, subst (λ (l : List Piece). Codes false start earlier current l bits) (sym none) codes)

      parts : Behind most done read earlier current bits → Rest most (done ++ read ∷ []) earlier current bits
      parts (mb, mbs, rest, is, is_valid, few, are, pieces_are, codes) =
          let kind : is_i_pcm mb.kind ≡ false = ap (λ (m : Mb). is_i_pcm m.kind) is ∙ other in
          let same : mb ≡ read = sym (none_sampled shape mb is_valid.0 kind) ∙ is in
          let none : samples_of mb ++ rest ≡ rest = ap (λ (l : List Piece). l ++ rest) (no_samples mb kind) in (
            mbs,
            rest,
            few,
            are,
            subst (λ (m : Mb). ArePieces shape (done ++ m ∷ []) mbs rest) same pieces_are,
            subst (λ (l : List Piece). Codes false start earlier current l bits) none codes,
          )

  -- the samples of an I_PCM macroblock, and what follows them
  abbrev Sampled : ℕ → List Mb → Mb → List Bin → List Bin → List Bool × List Bool → Type 0
  Sampled most done read earlier current v =
      (w : List ℕ × List Bool) × AreSamplesBefore (length v.0) v.1 w × Rest most (done ++ with_samples read w.0 ∷ []) (earlier ++ current) [] w.1

  pcm_decided : (most : ℕ) (done : List Mb) (read : Mb) (earlier current : List Bin) (bits : List Bool) → is_i_pcm read.kind ≡ true → without_samples read ≡ read
      → ((xs : List ℕ) → AreSamples xs → IsValid shape (with_samples read xs)) → IsDecision most → Decided (Behind most done read earlier current bits)
  unfolding Codes
  pcm_decided most done read earlier current bits pcm bare valid decided =
      same_decided join parts
      (one_decided (IsCodeBefore (state_of start earlier) current bits) (Sampled most done read earlier current) (one_code (state_of start earlier) current bits)
      (code_before_decided (state_of start earlier) current bits)
      (λ v h. one_decided (AreSamplesBefore (length v.0) v.1) (λ w. Rest most (done ++ with_samples read w.0 ∷ []) (earlier ++ current) [] w.1) (one_row (length v.0) v.1)
      (samples_decided (length v.0) v.1) (λ w k. decided (done ++ with_samples read w.0 ∷ []) (earlier ++ current) [] w.1)))
    where
      Known : Type 0
      Known = (v : List Bool × List Bool) × IsCodeBefore (state_of start earlier) current bits v × Sampled most done read earlier current v

      join : Known → Behind most done read earlier current bits
      join (v, (code, e), (w, (samples, stand), (mbs, pieces, few, are, pieces_are, codes))) =
          let mb : Mb = with_samples read w.0 in
          let whole : bits ≡ v.0 ++ (alignment (length v.0) ++ (bits_of w.0 ++ w.1)) = e ∙ ap (λ (l : List Bool). v.0 ++ l) stand in
          let behind : Codes false start earlier current (sampled w.0 ∷ pieces) bits = (v.0, w.1, code, λ h. absurd cc, whole, codes) in (
            mb,
            mbs,
            pieces,
            bare,
            valid w.0 samples,
            few,
            are,
            pieces_are,
            subst (λ (l : List Piece). Codes false start earlier current l bits) (sym (one_sampled mb pieces pcm)) behind,
          )

      parts : Behind most done read earlier current bits → Known
      parts (mb, mbs, rest, is, is_valid, few, are, pieces_are, codes) =
          let kind : is_i_pcm mb.kind ≡ true = ap (λ (m : Mb). is_i_pcm m.kind) is ∙ pcm in
          let same : mb ≡ with_samples read mb.pcm = ap (λ (m : Mb). with_samples m mb.pcm) is in
          let c = subst (λ (l : List Piece). Codes false start earlier current l bits) (one_sampled mb rest kind) codes in (
            (c.0, alignment (length c.0) ++ (bits_of mb.pcm ++ c.1)),
            (c.2, c.4),
            (
              (mb.pcm, c.1),
              (samples_in shape mb is_valid.0 kind, refl),
              (mbs, rest, few, are, subst (λ (m : Mb). ArePieces shape (done ++ m ∷ []) mbs rest) same pieces_are, c.5),
            ),
          )

  behind_decided : (most : ℕ) (done : List Mb) (bins : List Bin) (read : Mb) (earlier current : List Bin) (bits : List Bool) → Spells (bins_behind shape done) bins read → IsDecision most
      → Decided (Behind most done read earlier current bits)
  behind_decided most done bins read earlier current bits spelled decided = by (is_i_pcm read.kind) refl
    where
      by : (b : Bool) → is_i_pcm read.kind ≡ b → Decided (Behind most done read earlier current bits)
      by true pcm =
          let is = spelled_pcm shape done bins read spelled pcm in
          pcm_decided most done read earlier current bits pcm is.0 is.1 decided
      by false other = plain_decided most done read earlier current bits other (spelled_valid shape done bins read spelled other) decided

  -- a macroblock, and at most so many others
  abbrev More : ℕ → List Mb → List Bin → List Bin → List Bool → Type 0
  More most done earlier current bits =
      (mb : Mb) × (mbs : List Mb) × (pieces : List Piece) × IsValid shape mb × (length mbs ≤ most) × All (IsValid shape) mbs
      × ArePieces shape done (mb ∷ mbs) pieces × Codes false start earlier current pieces bits

  more_decided : (most : ℕ) (done : List Mb) (earlier current : List Bin) (bits : List Bool) → IsDecision most → Decided (More most done earlier current bits)
  unfolding ArePieces
  more_decided most done earlier current bits decided =
      same_decided join parts
      (spelled_decided (bins_behind shape done) After (λ bins read spelled. behind_decided most done bins read earlier (flagged ++ bins) bits spelled decided))
    where
      flagged : List Bin
      flagged = current ++ flag_bins done

      After : List Bin → Mb → Type 0
      After bins read = Behind most done read earlier (flagged ++ bins) bits

      begun : List Bin → List Piece → List Piece
      begun bins pieces = flag_behind done ++ (map coded bins ++ pieces)

      begun_is : (bins : List Bin) (pieces : List Piece) → begun bins pieces ≡ map coded (flag_bins done) ++ (map coded bins ++ pieces)
      begun_is bins pieces = ap (λ (l : List Piece). l ++ (map coded bins ++ pieces)) (flags done)

      into : (bins : List Bin) (pieces : List Piece) → Codes false start earlier (flagged ++ bins) pieces bits → Codes false start earlier current (begun bins pieces) bits
      into bins pieces codes =
          subst (λ (l : List Piece). Codes false start earlier current l bits) (sym (begun_is bins pieces))
          (bins_codes false start earlier current (flag_bins done) (map coded bins ++ pieces) bits (bins_codes false start earlier flagged bins pieces bits codes))

      from : (bins : List Bin) (pieces : List Piece) → Codes false start earlier current (begun bins pieces) bits → Codes false start earlier (flagged ++ bins) pieces bits
      from bins pieces codes =
          codes_bins false start earlier flagged bins pieces bits
          (codes_bins false start earlier current (flag_bins done) (map coded bins ++ pieces) bits (subst (λ (l : List Piece). Codes false start earlier current l bits) (begun_is bins pieces) codes))

      join : (bins : List Bin) × (read : Mb) × Spells (bins_behind shape done) bins read × After bins read → More most done earlier current bits
      join (bins, read, spelled, (mb, mbs, rest, is, valid, few, are, pieces_are, codes)) = (
        mb,
        mbs,
        begun bins (samples_of mb ++ rest),
        valid,
        few,
        are,
        (map coded bins ++ (samples_of mb ++ rest), rest, refl, (bins, subst (Spells (bins_behind shape done) bins) (sym is) spelled, refl), pieces_are),
        into bins (samples_of mb ++ rest) codes,
      )

      parts : More most done earlier current bits → (bins : List Bin) × (read : Mb) × Spells (bins_behind shape done) bins read × After bins read
      parts (mb, mbs, pieces, valid, few, are, (first, rest, e, (bins, spelled, e'), pieces_are), codes) =
          let whole : pieces ≡ begun bins (samples_of mb ++ rest) = e ∙ ap (λ (l : List Piece). flag_behind done ++ l) e' in (
            bins,
            without_samples mb,
            spelled,
            (mb, mbs, rest, refl, valid, few, are, pieces_are, from bins (samples_of mb ++ rest) (subst (λ (l : List Piece). Codes false start earlier current l bits) whole codes)),
          )

  -- ---- to the end of the slice

  abbrev last_bins : List Bin → List Bin
  last_bins current = current ++ (at_end, true) ∷ []

  rest_last : (most : ℕ) (done : List Mb) (earlier current : List Bin) (bits : List Bool) → Codes false start earlier (last_bins current) [] bits → Rest most done earlier current bits
  unfolding ArePieces Codes
  rest_last most done earlier current bits codes = ([], coded (at_end, true) ∷ [], omega arith, All-nil (IsValid shape), refl, codes)

  last_rest : (done : List Mb) (earlier current : List Bin) (bits : List Bool) (pieces : List Piece) → ArePieces shape done [] pieces → Codes false start earlier current pieces bits → Codes false start earlier (last_bins current) [] bits
  unfolding ArePieces Codes
  last_rest done earlier current bits pieces are codes = subst (λ (l : List Piece). Codes false start earlier current l bits) are codes

  rest_decided : (most : ℕ) → IsDecision most
  rest_decided zero done earlier current bits =
      same_decided (rest_last zero done earlier current bits) parts (last_decided start earlier (last_bins current) bits)
    where
      parts : Rest zero done earlier current bits → Codes false start earlier (last_bins current) [] bits
      parts ([], pieces, few, are, pieces_are, codes) = last_rest done earlier current bits pieces pieces_are codes
      parts (mb ∷ mbs, pieces, few, are, pieces_are, codes) = absurd (omega (arith, few))
  rest_decided (suc most) done earlier current bits =
      same_decided join parts (either_decided (last_decided start earlier (last_bins current) bits) (more_decided most done earlier current bits (rest_decided most)))
    where
      join : Codes false start earlier (last_bins current) [] bits ⊎ More most done earlier current bits → Rest (suc most) done earlier current bits
      join (inl codes) = rest_last (suc most) done earlier current bits codes
      join (inr (mb, mbs, pieces, valid, few, are, pieces_are, codes)) = (mb ∷ mbs, pieces, omega (arith, few), All-cons (IsValid shape) mb mbs valid are, pieces_are, codes)

      parts : Rest (suc most) done earlier current bits → Codes false start earlier (last_bins current) [] bits ⊎ More most done earlier current bits
      parts ([], pieces, few, are, pieces_are, codes) = inl (last_rest done earlier current bits pieces pieces_are codes)
      parts (mb ∷ mbs, pieces, few, are, pieces_are, codes) =
          inr (mb, mbs, pieces, All-head (IsValid shape) mb mbs are, omega (arith, few), All-tail (IsValid shape) mb mbs are, pieces_are, codes)

  -- ---- the whole slice

  abbrev IsListOf : ℕ → List Bool → Type 0
  IsListOf pos bits = (mbs : List Mb) × HasData shape mbs × AreDataFrom false start shape pos mbs bits

  -- the macroblocks that the picture has room for behind the first one
  abbrev room : ℕ
  room = shape.width * shape.height - (shape.first + 1)

  abbrev Whole : ℕ → List Bool → Type 0
  Whole pos bits = (shape.first + 1 ≤ shape.width * shape.height) × ((body : List Bool) × (bits ≡ ones pos ++ body) × More room [] [] [] body)

  whole_list : (pos : ℕ) (bits : List Bool) → IsBuiltShape shape → Whole pos bits → IsListOf pos bits
  whole_list pos bits built (inside, (body, e, (mb, mbs, pieces, valid, few, are, pieces_are, codes))) =
      let all : All (IsValid shape) (mb ∷ mbs) = All-cons (IsValid shape) mb mbs valid are in (
        mb ∷ mbs,
        record {
          built = built.built;
          slice = record {
            is_shape = built.is_shape;
            some = omega arith;
            inside = omega (arith, few, inside);
            macroblocks = All-weaker (IsValid shape) (IsMacroblock shape) (λ m h. h.0) (mb ∷ mbs) all;
            pairs = λ mbaff. absurd (let clash : true ≡ false = sym mbaff ∙ built.built.mbaff in cc);
          };
          residuals = All-weaker (IsValid shape) IsResidual (λ m h. h.1) (mb ∷ mbs) all;
          ref0 = All-weaker (IsValid shape) (λ (m : Mb). m.ref0 ≡ false) (λ m h. h.2) (mb ∷ mbs) all;
        },
        (pieces, body, pieces_are, e, codes),
      )

  list_whole : (pos : ℕ) (bits : List Bool) → IsListOf pos bits → Whole pos bits
  list_whole pos bits ([], has, are) = absurd (omega (arith, has.slice.some))
  list_whole pos bits (mb ∷ mbs, has, (pieces, body, pieces_are, e, codes)) =
      let inside = has.slice.inside in
      let valid : All (IsValid shape) (mb ∷ mbs) = λ k m at. (has.slice.macroblocks k m at, has.residuals k m at, has.ref0 k m at) in (
        omega (arith, inside),
        (body, e, (mb, mbs, pieces, All-head (IsValid shape) mb mbs valid, omega (arith, inside), All-tail (IsValid shape) mb mbs valid, pieces_are, codes)),
      )

  list_decided : (pos : ℕ) (bits : List Bool) → IsBuiltShape shape → Decided (IsListOf pos bits)
  list_decided pos bits built =
      same_decided (whole_list pos bits built) (list_whole pos bits)
      (both_decided (most_decided (shape.first + 1) (shape.width * shape.height))
      (one_decided (λ body. bits ≡ ones pos ++ body) (λ body. More room [] [] [] body) (λ a b p q. append_cancel_left (ones pos) a b (sym p ∙ q)) (front_decided (ones pos) bits)
      (λ body e. more_decided room [] [] [] body (rest_decided room))))

  pub decided : (pos : ℕ) (bits : List Bool) → IsBuiltShape shape → IsListOf pos bits ⊎ NoList HasData (AreDataFrom false start) shape pos bits
  decided pos bits built = elim (list_decided pos bits built) [ inl found ↦ inl found | inr none ↦ inr (λ mbs has are. none (mbs, has, are)) ]
