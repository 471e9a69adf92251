-- Each step of a reader keeps what is known, and a refusal shows that no list has the bits.
use Rattle.std.proofs.Common.{◌≡◌, ℕ, ◌<◌, Bool, true, false, List, [], ◌∷◌, ◌++◌, length, map, Option, Some, None, refl, sym, ap, subst, ◌∙◌, append-nil, arith}
use Rattle.cabac_engine.specs.Bins.{Slot, at_end, Gives, Promises}
use Rattle.cabac_contexts.specs.Coders.{InCoding, GivesBin}
use Rattle.cabac_contexts.specs.States.{state_of}
use Rattle.cabac_contexts.proofs.Segments.{given, kept}
use Rattle.h264_types.specs.declared.macroblock.Mb.{Mb}
use Rattle.h264_types.specs.declared.slice_shape.SliceShape.{SliceShape}
use Rattle.slice_data.specs.Reading.{NoList}
use Rattle.cabac_syntax.specs.SliceData.{Bin, Piece, coded, HasData, AreDataFrom, ArePieces, Begins, flag_behind, Codes}
use Rattle.cabac_syntax.specs.Standing.{Knows, GoesOn, IsNext, IsEnd}
use Rattle.cabac_syntax.proofs.CodeParts.{run, codes_promise, codes_bins, bins_codes}

-- bins were given that every list has next which remains
pub know_step : (start : ℕ → ℕ × Bool) (shape : SliceShape) (pos : ℕ) (all : List Bool) (Is Is' : List Mb → List Piece → Type 0) (bins : List Bin) (d e : InCoding)
    → Knows start shape pos all Is d → Gives GivesBin d bins e
    → ((mbs : List Mb) (pieces : List Piece) → HasData shape mbs → Is mbs pieces → Promises GivesBin d (run pieces) → (rest : List Piece) × (pieces ≡ map coded bins ++ rest) × Is' mbs rest)
    → ((mbs : List Mb) (rest : List Piece) → Is' mbs rest → Is mbs (map coded bins ++ rest))
    → Knows start shape pos all Is' e
know_step start shape pos all Is Is' bins d e k g down up = record {
  before = k.before;
  here = k.here;
  earlier = k.earlier;
  current = k.current ++ bins;
  given = given k.here (state_of start k.earlier) k.current bins d e k.given g;
  aligned = k.aligned;
  kept = kept bins d e g ∙ k.kept;
  only = λ mbs has are.
      let o = k.only mbs has are in
      let f = down mbs o.0 has o.1 (codes_promise start k.earlier k.current o.0 k.here d k.given o.2) in
      (f.0, f.2, codes_bins false start k.earlier k.current bins f.0 k.here (subst (λ (l : List Piece). Codes false start k.earlier k.current l k.here) f.1 o.2));
  these = λ mbs rest is c. k.these mbs (map coded bins ++ rest) (up mbs rest is) (bins_codes false start k.earlier k.current bins rest k.here c);
}

-- the same lists remain, in other words
pub know_same : (start : ℕ → ℕ × Bool) (shape : SliceShape) (pos : ℕ) (all : List Bool) (Is Is' : List Mb → List Piece → Type 0) (d : InCoding)
    → Knows start shape pos all Is d
    → ((mbs : List Mb) (pieces : List Piece) → HasData shape mbs → Is mbs pieces → Is' mbs pieces)
    → ((mbs : List Mb) (pieces : List Piece) → Is' mbs pieces → Is mbs pieces)
    → Knows start shape pos all Is' d
know_same start shape pos all Is Is' d k down up = record {
  before = k.before;
  here = k.here;
  earlier = k.earlier;
  current = k.current;
  given = k.given;
  aligned = k.aligned;
  kept = k.kept;
  only = λ mbs has are. let o = k.only mbs has are in (o.0, down mbs o.0 has o.1, o.2);
  these = λ mbs pieces is c. k.these mbs pieces (up mbs pieces is) c;
}

-- no list remains whose bins could be ahead
pub know_none : (start : ℕ → ℕ × Bool) (shape : SliceShape) (pos : ℕ) (all : List Bool) (Is : List Mb → List Piece → Type 0) (d : InCoding)
    → Knows start shape pos all Is d
    → ((mbs : List Mb) (pieces : List Piece) → HasData shape mbs → Is mbs pieces → Promises GivesBin d (run pieces) → ⊥)
    → NoList HasData (AreDataFrom false start) shape pos all
know_none start shape pos all Is d k refuse mbs has are =
    let o = k.only mbs has are in
    refuse mbs o.0 has o.1 (codes_promise start k.earlier k.current o.0 k.here d k.given o.2)

-- ---- end_of_slice_flag

-- ---- one bin

pub gives_one : (d e : InCoding) (slot : Slot) (bit : Bool) → GivesBin d slot (Some bit) e → Gives GivesBin d ((slot, bit) ∷ []) e
gives_one d e slot bit step = (e, step, refl)

-- behind macroblocks the pieces begin with a flag
pub behind_more : (done : List Mb) → 0 < length done → flag_behind done ≡ coded (at_end, false) ∷ []
behind_more [] some = absurd (omega arith)
behind_more (mb ∷ done) some = refl

-- the flag that stands behind `done`, which isn't empty, before the macroblocks of the tail
abbrev pub flag_of : List Mb → Bool
flag_of [] = true
flag_of (mb ∷ tail) = false

pub flagged : (shape : SliceShape) (done tail : List Mb) (pieces : List Piece) → 0 < length done → ArePieces shape done tail pieces → (rest : List Piece) × (pieces ≡ coded (at_end, flag_of tail) ∷ rest)
unfolding ArePieces
flagged shape done [] pieces some are = ([], are)
flagged shape done (mb ∷ tail) pieces some (first, rest, e, begins, others) = (first, e ∙ ap (λ (l : List Piece). l ++ first) (behind_more done some))

-- the bit that a decoder answers is the flag of every list that remains
flag_answered : (shape : SliceShape) (done tail : List Mb) (pieces : List Piece) (d e : InCoding) (answer : Option Bool) → 0 < length done → ArePieces shape done tail pieces
    → Promises GivesBin d (run pieces) → GivesBin d at_end answer e → answer ≡ Some (flag_of tail)
flag_answered shape done tail pieces d e answer some are promised step =
    let f = flagged shape done tail pieces some are in
    (subst (λ (l : List Piece). Promises GivesBin d (run l)) f.1 promised answer e step).0

pub no_flag : (start : ℕ → ℕ × Bool) (shape : SliceShape) (pos : ℕ) (all : List Bool) (done : List Mb) (d e : InCoding) → 0 < length done
    → Knows start shape pos all (GoesOn shape done) d → GivesBin d at_end None e → NoList HasData (AreDataFrom false start) shape pos all
no_flag start shape pos all done d e some k step =
    know_none start shape pos all (GoesOn shape done) d k (λ mbs pieces has is promised.
    let f : None ≡ Some (flag_of is.0) = flag_answered shape done is.0 pieces d e None some is.2 promised step in
    absurd cc)

-- what is to come behind macroblocks begins with a flag of 0, where one is to come, and with a flag of 1, where none is
pub next_behind : (shape : SliceShape) (done : List Mb) → 0 < length done → (mbs : List Mb) (pieces : List Piece) → IsNext shape done mbs pieces → GoesOn shape done mbs (coded (at_end, false) ∷ pieces)
unfolding ArePieces
next_behind shape done some mbs first (mb, tail, rest, parts, begins, others) =
    (mb ∷ tail, parts, (first, rest, sym (ap (λ (l : List Piece). l ++ first) (behind_more done some)), begins, others))

pub end_behind : (shape : SliceShape) (done : List Mb) (mbs : List Mb) (pieces : List Piece) → IsEnd done mbs pieces → GoesOn shape done mbs (coded (at_end, true) ∷ pieces)
unfolding ArePieces
end_behind shape done mbs pieces is = ([], is.0 ∙ sym (append-nil done), ap (λ (l : List Piece). coded (at_end, true) ∷ l) is.1)

-- the first macroblock has no flag before it
pub next_first : (shape : SliceShape) (mbs : List Mb) (pieces : List Piece) → IsNext shape [] mbs pieces → GoesOn shape [] mbs pieces
unfolding ArePieces
next_first shape mbs pieces (mb, tail, rest, parts, begins, others) = (mb ∷ tail, parts, (pieces, rest, refl, begins, others))

pub know_next : (start : ℕ → ℕ × Bool) (shape : SliceShape) (pos : ℕ) (all : List Bool) (done : List Mb) (d e : InCoding) → 0 < length done
    → Knows start shape pos all (GoesOn shape done) d → GivesBin d at_end (Some false) e → Knows start shape pos all (IsNext shape done) e
unfolding ArePieces
know_next start shape pos all done d e some k step =
    know_step start shape pos all (GoesOn shape done) (IsNext shape done) ((at_end, false) ∷ []) d e k (gives_one d e at_end false step)
    (λ mbs pieces has is promised. down mbs pieces is.0 is.1 is.2 (flag_answered shape done is.0 pieces d e (Some false) some is.2 promised step))
    (next_behind shape done some)
  where
    down : (mbs : List Mb) (pieces : List Piece) (tail : List Mb) → mbs ≡ done ++ tail → ArePieces shape done tail pieces → Some false ≡ Some (flag_of tail)
        → (rest : List Piece) × (pieces ≡ coded (at_end, false) ∷ rest) × IsNext shape done mbs rest
    down mbs pieces [] parts are flag = absurd cc
    down mbs pieces (mb ∷ tail) parts (first, rest, e, begins, others) flag =
        (first, e ∙ ap (λ (l : List Piece). l ++ first) (behind_more done some), (mb, tail, rest, parts, begins, others))

pub know_last : (start : ℕ → ℕ × Bool) (shape : SliceShape) (pos : ℕ) (all : List Bool) (done : List Mb) (d e : InCoding) → 0 < length done
    → Knows start shape pos all (GoesOn shape done) d → GivesBin d at_end (Some true) e → Knows start shape pos all (IsEnd done) e
unfolding ArePieces
know_last start shape pos all done d e some k step =
    know_step start shape pos all (GoesOn shape done) (IsEnd done) ((at_end, true) ∷ []) d e k (gives_one d e at_end true step)
    (λ mbs pieces has is promised. down mbs pieces is.0 is.1 is.2 (flag_answered shape done is.0 pieces d e (Some true) some is.2 promised step))
    (end_behind shape done)
  where
    down : (mbs : List Mb) (pieces : List Piece) (tail : List Mb) → mbs ≡ done ++ tail → ArePieces shape done tail pieces → Some true ≡ Some (flag_of tail)
        → (rest : List Piece) × (pieces ≡ coded (at_end, true) ∷ rest) × IsEnd done mbs rest
    down mbs pieces [] parts are flag = ([], are, (parts ∙ append-nil done, refl))
    down mbs pieces (mb ∷ tail) parts are flag = absurd cc

pub know_first : (start : ℕ → ℕ × Bool) (shape : SliceShape) (pos : ℕ) (all : List Bool) (d : InCoding) → Knows start shape pos all (GoesOn shape []) d → Knows start shape pos all (IsNext shape []) d
unfolding ArePieces
know_first start shape pos all d k =
    know_same start shape pos all (GoesOn shape []) (IsNext shape []) d k (λ mbs pieces has is. down mbs pieces is.0 has is.1 is.2) (next_first shape)
  where
    down : (mbs : List Mb) (pieces : List Piece) (tail : List Mb) → HasData shape mbs → mbs ≡ tail → ArePieces shape [] tail pieces → IsNext shape [] mbs pieces
    down mbs pieces [] has parts are = absurd (omega (arith, has.slice.some, ap length parts))
    down mbs pieces (mb ∷ tail) has parts (first, rest, e, begins, others) = (mb, tail, rest, parts, subst (Begins shape [] mb rest) (sym e) begins, others)
