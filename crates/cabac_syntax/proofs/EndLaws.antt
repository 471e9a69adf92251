-- The end of a segment: samples and a new segment, or the end of the slice.
use Rattle.std.proofs.Common.{◌≡◌, ℕ, ◌*◌, ◌%◌, ◌<◌, ◌≤◌, Bool, true, false, List, [], ◌∷◌, ◌++◌, length, replicate, take, refl, sym, ap, subst, ◌∙◌, append_assoc, length-append, arith, Option, Some, None, MatchOption, IfSome, IfNone}
use Rattle.std.proofs.lemmas.List.{append_cancel_left, append_cancel_right}
use Rattle.bit_texts.specs.Bits.{number, bits_of, EndsInOne}
use Rattle.cabac_contexts.specs.Coders.{InCoding, HasGiven}
use Rattle.cabac_contexts.specs.States.{HasStates, state_of}
use Rattle.cabac_contexts.proofs.Steps.{state_of-append}
use Rattle.cabac_macroblock.specs.MacroblockLayer.{without_samples}
use Rattle.pcm_samples.specs.Alignment.{alignment}
use Rattle.pcm_samples.specs.Samples.{AreSamples}
use Rattle.h264_types.specs.Kind.{is_i_pcm}
use Rattle.h264_types.specs.Valid.{IsMacroblock, sample_bound}
use Rattle.h264_types.specs.declared.macroblock.Mb.{Mb}
use Rattle.h264_types.specs.declared.slice_shape.SliceShape.{SliceShape}
use Rattle.slice_data.specs.Reading.{NoList}
use Rattle.cabac_syntax.specs.SliceData.{Bin, Piece, sampled, HasData, AreDataFrom, ArePieces, samples_of, ones, Codes}
use Rattle.cabac_syntax.specs.Standing.{Knows, GoesOn, IsNext, IsBehind, IsEnd, IsTail, HasSamples}
use Rattle.cabac_syntax.proofs.CodeParts.{segment_ended, same_code, no_start}
use Rattle.cabac_syntax.proofs.KnowsLaws.{know_first}
use Rattle.cabac_syntax.proofs.MacroblockLaws.{member}
use Rattle.cabac_syntax.proofs.Samples.{same_samples, boundary_is}

-- the bits that were taken end with the code
taken_is : (taken left before here code : List Bool) → taken ++ left ≡ before ++ here → here ≡ code ++ left → taken ≡ before ++ code
taken_is taken left before here code kept parts =
    append_cancel_right taken (before ++ code) left (kept ∙ ap (λ (l : List Bool). before ++ l) parts ∙ sym (append_assoc before code left))

-- ---- the end of the slice

-- the last bit of a code that isn't empty is that of all bits up to its end
one_after : (before code : List Bool) → EndsInOne code → EndsInOne (before ++ code)
one_after before code e = (before ++ e.0, ap (λ (l : List Bool). before ++ l) e.1 ∙ sym (append_assoc before e.0 (true ∷ [])))

one_of : (before code : List Bool) → 0 < length code → EndsInOne (before ++ code) → EndsInOne code
one_of [] code some e = e
one_of (b ∷ before) code some e = go e.0 e.1 (one_of before code some)
  where
    go : (front : List Bool) → b ∷ (before ++ code) ≡ front ++ true ∷ [] → (EndsInOne (before ++ code) → EndsInOne code) → EndsInOne code
    go [] e again =
        let none : before ++ code ≡ [] = cc in
        absurd (omega (arith, ap length none, length-append before code, some))
    go (x ∷ front) e again = again (front, cc)

pub know_end : (start : ℕ → ℕ × Bool) (shape : SliceShape) (pos : ℕ) (all : List Bool) (done : List Mb) (d : InCoding) → Knows start shape pos all (IsEnd done) d → d.decoder.range < 256
    → EndsInOne d.decoder.taken → IsTail (length d.decoder.taken) d.decoder.left → AreDataFrom false start shape pos done all
unfolding Codes
know_end start shape pos all done d k few one tail =
    let e = segment_ended k.here (state_of start k.earlier) k.current d k.given few in
    let taken = taken_is d.decoder.taken d.decoder.left k.before k.here e.code k.kept e.parts in
    let place = boundary_is k.before e.code d.decoder.taken k.aligned taken in
    k.these done [] (refl, refl) (
      e.code,
      tail.0,
      e.is_code,
      one_of k.before e.code e.some (subst EndsInOne taken one),
      λ h. absurd cc,
      e.parts ∙ ap (λ (l : List Bool). e.code ++ l) (tail.1 ∙ ap (λ (l : List Bool). l ++ replicate (16 * tail.0) false) (sym place)),
    )

pub no_end : (start : ℕ → ℕ × Bool) (shape : SliceShape) (pos : ℕ) (all : List Bool) (done : List Mb) (d : InCoding) → Knows start shape pos all (IsEnd done) d → d.decoder.range < 256
    → (EndsInOne d.decoder.taken → IsTail (length d.decoder.taken) d.decoder.left → ⊥) → NoList HasData (AreDataFrom false start) shape pos all
unfolding Codes
no_end start shape pos all done d k few bad mbs has are =
    let e = segment_ended k.here (state_of start k.earlier) k.current d k.given few in
    let taken = taken_is d.decoder.taken d.decoder.left k.before k.here e.code k.kept e.parts in
    let place = boundary_is k.before e.code d.decoder.taken k.aligned taken in
    let o = k.only mbs has are in
    let c = subst (λ (l : List Piece). Codes false start k.earlier k.current l k.here) o.1.1 o.2 in
    let same = same_code (state_of start k.earlier) k.current c.0 (alignment (length c.0) ++ replicate (16 * c.1) false) e.code d.decoder.left c.2 e.is_code (sym c.5 ∙ e.parts) in
    bad (subst EndsInOne (sym taken) (one_after k.before e.code (subst EndsInOne same.0 c.3)))
    (c.1, sym same.1 ∙ ap (λ (l : List Bool). l ++ replicate (16 * c.1) false) (ap (λ (l : List Bool). alignment (length l)) same.0 ∙ place))

-- ---- samples

-- the samples that a list which remains has next
record Next (start : ℕ → ℕ × Bool) (shape : SliceShape) (done : List Mb) (read : Mb) (earlier current : List Bin) (taken left : List Bool) (mbs : List Mb) : Type 0 where
  mb : Mb
  tail : List Mb
  rest : List Piece
  bits : List Bool
  parts : mbs ≡ done ++ mb ∷ tail
  is : without_samples mb ≡ read
  are : AreSamples mb.pcm
  stand : HasSamples (length taken) mb.pcm bits left
  pieces : ArePieces shape (done ++ mb ∷ []) tail rest
  codes : Codes false start (earlier ++ current) [] rest bits

pub one_sampled : (mb : Mb) (rest : List Piece) → is_i_pcm mb.kind ≡ true → samples_of mb ++ rest ≡ sampled mb.pcm ∷ rest
one_sampled mb rest pcm = rw pcm refl

pub samples_in : (shape : SliceShape) (mb : Mb) → IsMacroblock shape mb → is_i_pcm mb.kind ≡ true → AreSamples mb.pcm
samples_in shape mb is pcm =
    let bound : sample_bound mb.kind ≡ 255 = rw pcm refl in
    record { count = is.sizes.pcm; bytes = λ k d below. let few = is.coded.pcm k d below in omega (arith, few, bound) }

find_samples : (start : ℕ → ℕ × Bool) (shape : SliceShape) (pos : ℕ) (all : List Bool) (done : List Mb) (read : Mb) (d : InCoding) (k : Knows start shape pos all (IsBehind shape done read) d) → d.decoder.range < 256
    → is_i_pcm read.kind ≡ true → (mbs : List Mb) → HasData shape mbs → AreDataFrom false start shape pos mbs all
    → Next start shape done read k.earlier k.current d.decoder.taken d.decoder.left mbs
unfolding Codes
find_samples start shape pos all done read d k few pcm mbs has are =
    let e = segment_ended k.here (state_of start k.earlier) k.current d k.given few in
    let taken = taken_is d.decoder.taken d.decoder.left k.before k.here e.code k.kept e.parts in
    let place = boundary_is k.before e.code d.decoder.taken k.aligned taken in
    let o = k.only mbs has are in
    let mb = o.1.0 in
    let kind : is_i_pcm mb.kind ≡ true = ap (λ (m : Mb). is_i_pcm m.kind) o.1.4 ∙ pcm in
    let c = subst (λ (l : List Piece). Codes false start k.earlier k.current l k.here) (o.1.5 ∙ one_sampled mb o.1.2 kind) o.2 in
    let same = same_code (state_of start k.earlier) k.current c.0 (alignment (length c.0) ++ (bits_of mb.pcm ++ c.1)) e.code d.decoder.left c.2 e.is_code (sym c.4 ∙ e.parts) in
    record {
      mb = mb;
      tail = o.1.1;
      rest = o.1.2;
      bits = c.1;
      parts = o.1.3;
      is = o.1.4;
      are = samples_in shape mb (member shape mbs done mb o.1.1 has o.1.3) kind;
      stand = sym same.1 ∙ ap (λ (l : List Bool). l ++ (bits_of mb.pcm ++ c.1)) (ap (λ (l : List Bool). alignment (length l)) same.0 ∙ place);
      pieces = o.1.6;
      codes = c.5;
    }

-- no samples stand here
pub no_samples : (start : ℕ → ℕ × Bool) (shape : SliceShape) (pos : ℕ) (all : List Bool) (done : List Mb) (read : Mb) (d : InCoding) → Knows start shape pos all (IsBehind shape done read) d → d.decoder.range < 256
    → is_i_pcm read.kind ≡ true → ((xs : List ℕ) (rest : List Bool) → AreSamples xs → HasSamples (length d.decoder.taken) xs rest d.decoder.left → ⊥)
    → NoList HasData (AreDataFrom false start) shape pos all
no_samples start shape pos all done read d k few pcm none mbs has are =
    let n = find_samples start shape pos all done read d k few pcm mbs has are in
    none n.mb.pcm n.bits n.are n.stand

-- a macroblock with samples
abbrev pub with_samples : Mb → List ℕ → Mb
with_samples mb samples = record mb { pcm = samples }

-- no segment starts behind the samples
pub no_restart : (start : ℕ → ℕ × Bool) (shape : SliceShape) (pos : ℕ) (all : List Bool) (done : List Mb) (read : Mb) (d : InCoding) (xs : List ℕ) (rest : List Bool) → Knows start shape pos all (IsBehind shape done read) d → d.decoder.range < 256
    → is_i_pcm read.kind ≡ true → AreSamples xs → HasSamples (length d.decoder.taken) xs rest d.decoder.left → (9 ≤ length rest → 510 ≤ number (take 9 rest))
    → NoList HasData (AreDataFrom false start) shape pos all
no_restart start shape pos all done read d xs rest k few pcm are_samples stand high mbs has are =
    let n = find_samples start shape pos all done read d k few pcm mbs has are in
    let same = same_samples (length d.decoder.taken) n.mb.pcm xs n.bits rest d.decoder.left n.are are_samples n.stand stand in
    no_start false start (k.earlier ++ k.current) n.rest rest high (subst (λ (l : List Bool). Codes false start (k.earlier ++ k.current) [] n.rest l) same.1 n.codes)

pub know_samples : (start : ℕ → ℕ × Bool) (shape : SliceShape) (pos : ℕ) (all : List Bool) (done : List Mb) (read : Mb) (d e : InCoding) (xs : List ℕ) (before rest : List Bool) → Knows start shape pos all (IsBehind shape done read) d
    → d.decoder.range < 256 → is_i_pcm read.kind ≡ true → without_samples read ≡ read → AreSamples xs → HasSamples (length d.decoder.taken) xs rest d.decoder.left
    → length before % 8 ≡ 0 → e.decoder.taken ++ e.decoder.left ≡ before ++ rest
    → ((states : ℕ → ℕ × Bool) → HasStates states d.cells → HasGiven rest states [] e)
    → Knows start shape pos all (GoesOn shape (done ++ with_samples read xs ∷ [])) e
unfolding Codes
know_samples start shape pos all done read d e xs before rest k few pcm none are_samples stand aligned restarted given = record {
  before = before;
  here = rest;
  earlier = k.earlier ++ k.current;
  current = [];
  given = given (state_of start (k.earlier ++ k.current)) (λ ctx below. k.given.states ctx below ∙ ap Some (state_of-append start k.earlier k.current ctx));
  aligned = aligned;
  kept = restarted;
  only = λ mbs has are.
      let n = find_samples start shape pos all done read d k few pcm mbs has are in
      let same = same_samples (length d.decoder.taken) n.mb.pcm xs n.bits rest d.decoder.left n.are are_samples n.stand stand in
      let mb_is : n.mb ≡ with_samples read xs = ap (λ (m : Mb). with_samples m n.mb.pcm) n.is ∙ ap (λ (l : List ℕ). with_samples read l) same.0 in (
        n.rest,
        (
          n.tail,
          n.parts ∙ ap (λ (m : Mb). done ++ m ∷ n.tail) mb_is ∙ sym (append_assoc done (with_samples read xs ∷ []) n.tail),
          subst (λ (m : Mb). ArePieces shape (done ++ m ∷ []) n.tail n.rest) mb_is n.pieces,
        ),
        subst (λ (l : List Bool). Codes false start (k.earlier ++ k.current) [] n.rest l) same.1 n.codes,
      );
  these = λ mbs pieces (tail, parts, are) c.
      let s = segment_ended k.here (state_of start k.earlier) k.current d k.given few in
      let taken = taken_is d.decoder.taken d.decoder.left k.before k.here s.code k.kept s.parts in
      let place = boundary_is k.before s.code d.decoder.taken k.aligned taken in
      let mb = with_samples read xs in
      k.these mbs (sampled xs ∷ pieces) (mb, tail, pieces, parts ∙ append_assoc done (mb ∷ []) tail, none, sym (one_sampled mb pieces pcm), are)
      (s.code, rest, s.is_code, λ h. absurd cc, s.parts ∙ ap (λ (l : List Bool). s.code ++ l) (stand ∙ ap (λ (l : List Bool). l ++ (bits_of xs ++ rest)) (sym place)), c);
}

-- ---- the start

pub know_start : (start : ℕ → ℕ × Bool) (shape : SliceShape) (pos : ℕ) (all body before : List Bool) (d : InCoding) → all ≡ ones pos ++ body → HasGiven body start [] d
    → length before % 8 ≡ 0 → d.decoder.taken ++ d.decoder.left ≡ before ++ body → Knows start shape pos all (GoesOn shape []) d
know_start start shape pos all body before d filled given aligned kept = record {
  before = before;
  here = body;
  earlier = [];
  current = [];
  given = given;
  aligned = aligned;
  kept = kept;
  only = λ mbs has (pieces, bits, are, parts, codes).
      let same : bits ≡ body = append_cancel_left (ones pos) bits body (sym parts ∙ filled) in
      (pieces, (mbs, refl, are), subst (λ (l : List Bool). Codes false start [] [] pieces l) same codes);
  these = λ mbs pieces (tail, parts, are) c. (pieces, body, subst (λ (l : List Mb). ArePieces shape [] l pieces) (sym parts) are, filled, c);
}

-- no segment starts behind the one bits
pub no_begin : (start : ℕ → ℕ × Bool) (shape : SliceShape) (pos : ℕ) (all body : List Bool) → all ≡ ones pos ++ body → (9 ≤ length body → 510 ≤ number (take 9 body)) → NoList HasData (AreDataFrom false start) shape pos all
no_begin start shape pos all body filled high mbs has (pieces, bits, are, parts, codes) =
    let same : bits ≡ body = append_cancel_left (ones pos) bits body (sym parts ∙ filled) in
    no_start false start [] pieces body high (subst (λ (l : List Bool). Codes false start [] [] pieces l) same codes)

-- ---- a segment that starts, or doesn't

-- a decoder with these contexts started on the bits left, or no code of a segment stands there
pub record Starts (cells : List (ℕ × Bool)) (taken left : List Bool) (result : Option InCoding) : Type 0 where
  pub given : IfSome result (λ coder. (states : ℕ → ℕ × Bool) → HasStates states cells → HasGiven left states [] coder)
  pub kept : IfSome result (λ coder. coder.decoder.taken ++ coder.decoder.left ≡ taken ++ left)
  pub none : IfNone result (9 ≤ length left → 510 ≤ number (take 9 left))

pub begun : (start : ℕ → ℕ × Bool) (shape : SliceShape) (pos : ℕ) (all taken left : List Bool) (cells : List (ℕ × Bool)) (result : Option InCoding) → all ≡ ones pos ++ left → length taken % 8 ≡ 0 → HasStates start cells → Starts cells taken left result
    → MatchOption result (NoList HasData (AreDataFrom false start) shape pos all) (λ coder. Knows start shape pos all (IsNext shape []) coder)
begun start shape pos all taken left cells None filled aligned states s = no_begin start shape pos all left filled s.none
begun start shape pos all taken left cells (Some coder) filled aligned states s =
    know_first start shape pos all coder (know_start start shape pos all left taken coder filled (s.given start states) aligned s.kept)

pub gone_on : (start : ℕ → ℕ × Bool) (shape : SliceShape) (pos : ℕ) (all : List Bool) (done : List Mb) (read : Mb) (d : InCoding) (xs : List ℕ) (taken left : List Bool) (cells : List (ℕ × Bool)) (result : Option InCoding)
    → Knows start shape pos all (IsBehind shape done read) d → d.decoder.range < 256 → is_i_pcm read.kind ≡ true → without_samples read ≡ read → AreSamples xs → HasSamples (length d.decoder.taken) xs left d.decoder.left
    → length taken % 8 ≡ 0 → cells ≡ d.cells → Starts cells taken left result
    → MatchOption result (NoList HasData (AreDataFrom false start) shape pos all) (λ next. Knows start shape pos all (GoesOn shape (done ++ with_samples read xs ∷ [])) next)
gone_on start shape pos all done read d xs taken left cells None k few pcm none are stand aligned same s = no_restart start shape pos all done read d xs left k few pcm are stand s.none
gone_on start shape pos all done read d xs taken left cells (Some next) k few pcm none are stand aligned same s =
    know_samples start shape pos all done read d next xs taken left k few pcm none are stand aligned s.kept (λ states h. s.given states (subst (HasStates states) (sym same) h))
